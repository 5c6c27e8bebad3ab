use Rattle.std.proofs.Common.{◌∷◌, [], sym, subst, get_or, take}
use Rattle.std.proofs.lemmas.List.{take_all}
use Rattle.names.specs.Maps.{value_of}
use Rattle.place_core.specs.Assigned.{names_at}
use Rattle.term_net.specs.Leaves.{leaf_id, leaf_tree}
use Rattle.term_net.proofs.Overs.{grown_twice}
use Rattle.list_core.proofs.Listing.{same_get}
use Rattle.ssa_nodes.specs.Held.{CanHaveNode}
use Rattle.row_net.specs.Told.{CellsPut, names_by}
use Rattle.row_net.proofs.Growing.{can_kept, cells_then, names_more, name_at}
use Rattle.row_net.proofs.cells.put_cells.Goals as goal

pub put_cell-requires-clause-ready : goal.put_cell-requires-clause-ready
put_cell-requires-clause-ready c =
    let places = value_of c.args.places.now in
    let trees = names_by c.args.block.now.terms (value_of c.args.held.now) in
    let i = c.loop-name.name-index in
    can_kept c.args.builder.now c.loop-name.builder places c.args.nodes.now c.loop-name.invariant.grown.keeps c.requires.fits.leaves (trees (get_or c.args.names.now i _).now)
    (name_at (λ x. CanHaveNode (leaf_id places c.args.nodes.now) (leaf_tree c.args.builder.now places c.args.nodes.now) (trees x)) c.args.names.now i (get_or c.args.names.now i _) c.loop-name-test.true
    (same_get c.args.names.now i _ _ c.loop-name-test.true) c.requires.ready)

pub loop-name-preserved : goal.loop-name-preserved
loop-name-preserved c =
    let places = value_of c.args.places.now in
    let trees = names_by c.args.block.now.terms (value_of c.args.held.now) in
    let i = c.loop-name.name-index in
    record {
      fits = c.in_ok-put_cell.ensures.fits;
      grown = grown_twice c.args.builder.now c.loop-name.builder c.put_cell.new.builder c.loop-name.invariant.grown c.in_ok-put_cell.ensures.grown;
      put =
          subst (λ l. CellsPut c.args.builder.now c.put_cell.new.builder places c.args.nodes.now trees l c.args.cells.now.items c.put_cell.new.cells.items)
          (sym (names_more c.args.names.now i (get_or c.args.names.now i _) c.loop-name-test.true (same_get c.args.names.now i _ _ c.loop-name-test.true)))
          (cells_then c.args.builder.now c.loop-name.builder c.put_cell.new.builder places c.args.nodes.now trees (names_at (take i c.args.names.now)) ((get_or c.args.names.now i _).now ∷ []) c.args.cells.now.items c.loop-name.cells.items c.put_cell.new.cells.items
          c.loop-name.invariant.put c.in_ok-put_cell.ensures.put);
    }

pub returns-clause-put : goal.returns-clause-put
returns-clause-put c =
    subst (λ l. CellsPut c.args.builder.now c.loop-name.builder (value_of c.args.places.now) c.args.nodes.now (names_by c.args.block.now.terms (value_of c.args.held.now)) (names_at l) c.args.cells.now.items c.loop-name.cells.items)
    (take_all c.loop-name.name-index c.args.names.now c.loop-name-test.false) c.loop-name.invariant.put
