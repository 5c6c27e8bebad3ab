use Rattle.std.proofs.Common.{[], sym, subst}
use Rattle.check_exec.proofs.Facts.{each_right}
use Rattle.names.specs.Maps.{value_of}
use Rattle.place_core.specs.Assigned.{names_at}
use Rattle.term_net.specs.Leaves.{leaf_id, leaf_tree}
use Rattle.term_net.proofs.Overs.{grown_twice}
use Rattle.ssa_nodes.specs.Held.{CanHaveNode}
use Rattle.row_net.specs.Told.{CellsHave, names_by}
use Rattle.row_net.proofs.Growing.{each_kept, cells_then}
use Rattle.row_net.proofs.cells.cells_of.Goals as goal

pub put_cells-requires-2-clause-ready : goal.put_cells-requires-2-clause-ready
put_cells-requires-2-clause-ready c =
    let places = value_of c.args.places.now in
    let trees = names_by c.args.block.now.terms (value_of c.args.held.now) in
    each_kept c.args.builder.now c.put_cells.new.builder places c.args.nodes.now c.in_ok-put_cells.ensures.grown.keeps c.requires.fits.leaves trees (names_at c.args.lets.now)
    (each_right (λ x. CanHaveNode (leaf_id places c.args.nodes.now) (leaf_tree c.args.builder.now places c.args.nodes.now) (trees x)) (names_at c.args.signals.now) (names_at c.args.lets.now) c.requires.ready)

pub returns-clause-have : goal.returns-clause-have
returns-clause-have c =
    let places = value_of c.args.places.now in
    let trees = names_by c.args.block.now.terms (value_of c.args.held.now) in
    cells_then c.args.builder.now c.put_cells.new.builder c.put_cells-2.new.builder places c.args.nodes.now trees (names_at c.args.signals.now) (names_at c.args.lets.now) c.in_ok-cells.cells.items c.put_cells.new.cells.items c.put_cells-2.new.cells.items
    c.in_ok-put_cells.ensures.put c.in_ok-put_cells-2.ensures.put [] (subst (CellsHave c.args.builder.now (leaf_tree c.args.builder.now places c.args.nodes.now) trees []) (sym c.in_ok-cells.ensures.items) tt)

pub returns-clause-grown : goal.returns-clause-grown
returns-clause-grown c = grown_twice c.args.builder.now c.put_cells.new.builder c.put_cells-2.new.builder c.in_ok-put_cells.ensures.grown c.in_ok-put_cells-2.ensures.grown
