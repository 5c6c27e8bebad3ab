use Rattle.std.proofs.Common.{◌≡◌, ◌<◌, List, length, map, arith, sym, subst}
use Rattle.std.proofs.lemmas.Grind.{common_steps}
use Rattle.std.specs.Prelude.{All, IsTrue, option_to_list}
use Rattle.std.specs.List.{list_any, zip}
use Rattle.bv_core.specs.Value.{Bits}
use Rattle.tree_core.specs.Tree.{Input}
use Rattle.tree_core.specs.Fold.{same_origin}
use Rattle.net_core.specs.Nodes.{shape_of}
use Rattle.sim_core.specs.Leaves.{input_in}
use Rattle.sim_core.specs.Given.{value_beside}
use Rattle.sim_core.specs.Steps.{bits_at}
use Rattle.sim_hist.specs.Run.{port_origins}
use Rattle.sim_hist.proofs.Placing.{Port, input_stands, more_placed}
use Rattle.sim_hist.proofs.columns.columns.Goals.{in-Some+in_ok-push, in_default}
use Rattle.sim_hist.proofs.columns.columns.Goals as goal

pub column_of-requires : goal.column_of-requires
column_of-requires c = λ name width is.
    let inside : c.loop-id.id < length c.args.net.now.nodes = omega (arith, c.count-id-end.ensures.count) in
    subst (λ (ports : List Port). IsTrue (list_any (λ o. same_origin o (Input name width)) (port_origins ports))) (sym c.items-inputs.ensures)
    (input_stands c.args.net.now.nodes c.args.ports.now c.loop-id.id _ name width c.requires inside c.node.ensures.node is)

pub loop-id-preserved : goal.loop-id-preserved
loop-id-preserved c =
    let inside : c.loop-id.id < length c.args.net.now.nodes = omega (arith, c.count-id-end.ensures.count) in
    more_placed c.args.net.now c.args.ports.now c.loop-id.id _ c.loop-id.found.items c.match-column_of.found.items c.column_of.result inside c.node.ensures.node
    (elim c.match-column_of.branch [ in-Some+in_ok-push w ↦ grind (arith, common_steps) | in_default w ↦ grind (arith, common_steps) ])
    (subst (λ (ports : List Port). All (λ column. column < length ports) (option_to_list c.column_of.result)) c.items-inputs.ensures c.column_of.ensures.within)
    (subst (λ (ports : List Port). (row : List Bits) → length row ≡ length ports → map (bits_at row) (option_to_list c.column_of.result) ≡ map (value_beside (zip (port_origins ports) row)) (input_in (shape_of c.node.result.now))) c.items-inputs.ensures c.column_of.ensures.value)
    c.loop-id.invariant
