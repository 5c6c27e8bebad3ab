use Rattle.std.proofs.Common.{◌+◌, ◌<◌, ◌++◌, List, ℕ, length, refl, sym, subst, arith}
use Rattle.bv_core.specs.declared.reference.NodeId.{NodeId}
use Rattle.verilog_out.proofs.Gathered.{output_within}
use Rattle.vcd_write.specs.Written.{output_lines}
use Rattle.vcd_write.proofs.Pieces.{outputs_next}
use Rattle.vcd_write.proofs.head.push_outputs.Goals as goal

pub push_output-requires-clause-node : goal.push_output-requires-clause-node
push_output-requires-clause-node c =
    let below : c.loop-place.place < length c.args.outputs.now = omega arith in
    subst (λ (o : List ℕ × NodeId). o.1.0 < length c.args.net.now.nodes) (sym c.index-outputs-place.is) (output_within c.args.net.now.nodes c.args.outputs.now c.loop-place.place c.index-outputs-place.result c.requires.nodes below)

pub loop-place-preserved : goal.loop-place-preserved
loop-place-preserved c =
    let below : c.loop-place.place < length c.args.outputs.now = omega arith in
    outputs_next c.args.net.now.nodes c.args.before c.loop-place.place (c.args.before + c.loop-place.place + 1) c.args.outputs.now c.index-outputs-place.result c.loop-place.text.items c.push_output.new.text.items
    (c.args.text.now.items ++ output_lines c.args.net.now.nodes (c.args.before + 1) c.args.outputs.now) below c.index-outputs-place.is refl c.in_ok-push_output.ensures c.loop-place.invariant
