use Rattle.std.proofs.Common.{◌≡◌, ◌++◌, ◌+◌, ◌*◌, ◌≤◌, map, drop}
use Rattle.design_core.specs.View.{arms_of, body_of, else_of, stmt_of}
use Rattle.design_core.specs.Statements.{arms_statements, statements}
use Rattle.design_core.specs.Slots.{size, stmt_size, else_size, arms_size}
use Rattle.design_core.proofs.preorder.+putting.Given as goal

-- those that were put and those of what is left are all
abbrev pub invariant-put-loop-stmt : goal.invariant-put-loop-stmt
invariant-put-loop-stmt l = record {
  all : map (λ s. stmt_of s.now) l.found.items ++ statements (body_of (drop l.stmt-index l.body)) ≡ map (λ s. stmt_of s.now) l.initial.found.items ++ statements (body_of l.body);
  left : size (body_of (drop l.stmt-index l.body)) ≤ size (body_of l.body);
}

abbrev pub invariant-put_arms-loop-arm : goal.invariant-put_arms-loop-arm
invariant-put_arms-loop-arm l = record {
  all : map (λ s. stmt_of s.now) l.found.items ++ arms_statements (arms_of (drop l.arm-index l.arms)) ≡ map (λ s. stmt_of s.now) l.initial.found.items ++ arms_statements (arms_of l.arms);
  left : arms_size (arms_of (drop l.arm-index l.arms)) ≤ arms_size (arms_of l.arms);
}

abbrev pub decreases-put : goal.decreases-put
decreases-put l = 3 * size (body_of l.body.now) + 1

abbrev pub decreases-put_inside : goal.decreases-put_inside
decreases-put_inside l = 3 * stmt_size (stmt_of l.stmt.now)

abbrev pub decreases-put_else : goal.decreases-put_else
decreases-put_else l = 3 * else_size (else_of l.no.now) + 2

abbrev pub decreases-put_arms : goal.decreases-put_arms
decreases-put_arms l = 3 * arms_size (arms_of l.arms.now) + 2
