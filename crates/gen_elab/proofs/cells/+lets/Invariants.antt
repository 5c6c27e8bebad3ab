use Rattle.std.proofs.Common.{◌≡◌, ◌+◌, ◌*◌, ◌≤◌, drop, length}
use Rattle.design_core.specs.Slots.{arms_lets, lets_of}
use Rattle.design_core.specs.View.{arms_of, body_of, else_of, stmt_of}
use Rattle.elab_core.specs.Design.{arms_size, size, else_size, stmt_size}
use Rattle.gen_elab.proofs.cells.+lets.Given as goal

-- those so far and those that are left are all
abbrev pub invariant-count_lets-loop-stmt : goal.invariant-count_lets-loop-stmt
invariant-count_lets-loop-stmt l = record {
  lets : l.total + length (lets_of (body_of (drop l.stmt-index l.body))) ≡ length (lets_of (body_of l.body));
  left : size (body_of (drop l.stmt-index l.body)) ≤ size (body_of l.body);
}

abbrev pub invariant-count_arm_lets-loop-arm : goal.invariant-count_arm_lets-loop-arm
invariant-count_arm_lets-loop-arm l = record {
  lets : l.total + length (arms_lets (arms_of (drop l.arm-index l.arms))) ≡ length (arms_lets (arms_of l.arms));
  left : arms_size (arms_of (drop l.arm-index l.arms)) ≤ arms_size (arms_of l.arms);
}

abbrev pub decreases-count_arm_lets : goal.decreases-count_arm_lets
decreases-count_arm_lets l = 4 * arms_size (arms_of l.arms.now) + 3

abbrev pub decreases-count_lets : goal.decreases-count_lets
decreases-count_lets l = 4 * size (body_of l.body.now) + 1

abbrev pub decreases-stmt_lets : goal.decreases-stmt_lets
decreases-stmt_lets l = 4 * stmt_size (stmt_of l.stmt.now)

abbrev pub decreases-count_else_lets : goal.decreases-count_else_lets
decreases-count_else_lets l = 4 * else_size (else_of l.no.now) + 2
