use Rattle.std.proofs.Common.{◌<◌, length, arith}
use Rattle.sim_core.proofs.Walking.{walked_as}
use Rattle.net_core.specs.Nodes.{shape_of}
use Rattle.sim_core.proofs.step.solve.Goals as goal

pub loop-id-preserved : goal.loop-id-preserved
loop-id-preserved c =
    let inside : c.loop-id.id < length c.args.net.now.nodes = omega (arith, c.count-id-end.ensures.count) in
    walked_as c.args.net.now.nodes c.requires.net.shared c.loop-id.id c.args.inputs.now c.args.registers.now c.loop-id.inputs.now c.loop-id.registers.now _ _
    c.loop-id.values (shape_of c.node-node.result.now) _ inside c.node-node.ensures.node c.loop-id.invariant
    c.step-value.ensures.value c.step-value.ensures.inputs c.step-value.ensures.registers
