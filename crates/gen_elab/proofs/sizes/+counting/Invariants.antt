use Rattle.std.proofs.Common.{◌≡◌, ◌+◌, ◌*◌, drop}
use Rattle.design_core.specs.View.{arms_of, body_of, else_of, stmt_of}
use Rattle.elab_core.specs.Design.{arms_size, size, else_size, stmt_size}
use Rattle.gen_elab.proofs.sizes.+counting.Given as goal

-- those so far and those that are left are all
abbrev pub invariant-count-loop-stmt : goal.invariant-count-loop-stmt
invariant-count-loop-stmt l = l.total + size (body_of (drop l.stmt-index l.body)) ≡ size (body_of l.body)

abbrev pub invariant-count_arms-loop-arm : goal.invariant-count_arms-loop-arm
invariant-count_arms-loop-arm l = l.total + arms_size (arms_of (drop l.arm-index l.arms)) ≡ arms_size (arms_of l.arms)

abbrev pub decreases-count_arms : goal.decreases-count_arms
decreases-count_arms l = 4 * arms_size (arms_of l.arms.now) + 3

abbrev pub decreases-count : goal.decreases-count
decreases-count l = 4 * size (body_of l.body.now) + 1

abbrev pub decreases-count_stmt : goal.decreases-count_stmt
decreases-count_stmt l = 4 * stmt_size (stmt_of l.stmt.now)

abbrev pub decreases-count_else : goal.decreases-count_else
decreases-count_else l = 4 * else_size (else_of l.no.now) + 2
