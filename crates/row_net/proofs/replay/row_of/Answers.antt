use Rattle.std.proofs.Common.{◌++◌, refl, subst, sym}
use Rattle.names.specs.Maps.{value_of}
use Rattle.block_net.specs.Terms.{tree_for}
use Rattle.place_core.specs.Assigned.{names_at}
use Rattle.term_net.specs.Leaves.{leaf_tree}
use Rattle.term_net.proofs.Overs.{grown_twice}
use Rattle.row_net.specs.Told.{CellsHave, names_by}
use Rattle.row_net.proofs.Growing.{each_kept, enable_kept}
use Rattle.row_net.proofs.replay.row_of.Goals as goal

pub cells_of-requires-clause-ready : goal.cells_of-requires-clause-ready
cells_of-requires-clause-ready c =
    each_kept c.args.builder.now c.enable_node.new.builder (value_of c.args.places.now) c.args.nodes.now c.in_ok-on.ensures.grown.keeps c.requires.fits.leaves (names_by c.args.block.now.terms (value_of c.args.held.now))
    (names_at c.args.signals.now ++ names_at c.args.lets.now) c.requires.ready.cells

pub returns-clause-has : goal.returns-clause-has
returns-clause-has c = record {
  slot = refl;
  instance = refl;
  on = enable_kept c.enable_node.new.builder c.cells_of.new.builder (value_of c.args.places.now) c.args.nodes.now c.in_ok-cells.ensures.grown.keeps c.in_ok-on.ensures.fits.leaves (tree_for c.args.block.now.terms c.args.enable) c.in_ok-on.on c.in_ok-on.ensures.has;
  cells =
      subst (CellsHave c.cells_of.new.builder (leaf_tree c.cells_of.new.builder (value_of c.args.places.now) c.args.nodes.now) (names_by c.args.block.now.terms (value_of c.args.held.now)) (names_at c.args.signals.now ++ names_at c.args.lets.now))
      (sym c.new.ensures) c.in_ok-cells.ensures.have;
}

pub returns-clause-grown : goal.returns-clause-grown
returns-clause-grown c = grown_twice c.args.builder.now c.enable_node.new.builder c.cells_of.new.builder c.in_ok-on.ensures.grown c.in_ok-cells.ensures.grown
