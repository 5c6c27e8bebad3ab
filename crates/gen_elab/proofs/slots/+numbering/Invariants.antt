use Rattle.std.proofs.Common.{◌≡◌, ◌+◌, ◌*◌, ◌≤◌, take, drop}
use Rattle.design_core.specs.View.{arm_of, arms_of, body_of, else_of, stmt_of}
use Rattle.elab_core.specs.Design.{size, arms_size, else_size, stmt_size, numbered, numbered_arms}
use Rattle.gen_elab.proofs.Numbering.{mixed, mixed_arms}
use Rattle.gen_elab.proofs.slots.+numbering.Given as goal

-- the statements so far have their slots, and those that are left get theirs from here
abbrev pub invariant-number-loop-index : goal.invariant-number-loop-index
invariant-number-loop-index l = record {
  slots : mixed (take l.index l.body) l.next (drop l.index l.body) ≡ numbered l.first (body_of l.initial.body);
  next : l.next + size (body_of (drop l.index l.body)) ≡ l.first + size (body_of l.initial.body);
  forward : l.first ≤ l.next;
}

-- the same of arms
abbrev pub invariant-number_arms-loop-index : goal.invariant-number_arms-loop-index
invariant-number_arms-loop-index l = record {
  slots : mixed_arms (take l.index l.arms) l.next (drop l.index l.arms) ≡ numbered_arms l.first (arms_of l.initial.arms);
  next : l.next + arms_size (arms_of (drop l.index l.arms)) ≡ l.first + arms_size (arms_of l.initial.arms);
  forward : l.first ≤ l.next;
}

abbrev pub decreases-number_case : goal.decreases-number_case
decreases-number_case l = 5 * (arms_size (arms_of l.arms.items) + else_size (else_of l.other)) + 4

abbrev pub decreases-number_arms : goal.decreases-number_arms
decreases-number_arms l = 5 * arms_size (arms_of l.arms.now) + 3

abbrev pub decreases-number_arm : goal.decreases-number_arm
decreases-number_arm l = 5 * size (arm_of l.arm.now).1 + 2

abbrev pub decreases-number : goal.decreases-number
decreases-number l = 5 * size (body_of l.body.now) + 1

abbrev pub decreases-number_stmt : goal.decreases-number_stmt
decreases-number_stmt l = 5 * stmt_size (stmt_of l.stmt)

abbrev pub decreases-number_if : goal.decreases-number_if
decreases-number_if l = 5 * (size (body_of l.yes.items) + else_size (else_of l.no)) + 4

abbrev pub decreases-number_else : goal.decreases-number_else
decreases-number_else l = 5 * else_size (else_of l.no) + 2
