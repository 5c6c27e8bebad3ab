use Rattle.std.proofs.Common.{◌+◌, ◌*◌, ◌≤◌, drop}
use Rattle.design_core.specs.View.{arms_of, body_of, else_of, stmt_of}
use Rattle.design_core.specs.Slots.{arms_size, size, stmt_size, else_size}
use Rattle.names.specs.Maps.{value_of}
use Rattle.name_widths.specs.DeclaredWidths.{width_at}
use Rattle.block_net.specs.Parts.{BodyFits}
use Rattle.block_net.specs.Source.{body_in, else_in}
use Rattle.block_net.specs.Terms.{tree_for}
use Rattle.block_net.proofs.ArmSteps.{ArmsWay}
use Rattle.block_net.proofs.Branches.{PartWay}
use Rattle.block_net.proofs.body.+walking.Given as goal

-- the statements so far
abbrev pub invariant-walk_body-loop-stmt : goal.invariant-walk_body-loop-stmt
invariant-walk_body-loop-stmt l = record {
  part : PartWay (width_at (value_of l.widths)) (tree_for l.initial.walk.terms l.enable) (body_in l.clocked l.stmts) (body_in l.clocked (drop l.stmt-index l.stmts)) l.initial.walk l.walk;
  left : size (body_of (drop l.stmt-index l.stmts)) ≤ size (body_of l.stmts);
  parts : BodyFits (body_in l.clocked (drop l.stmt-index l.stmts));
}

-- the arms so far
abbrev pub invariant-walk_arms-loop-arm : goal.invariant-walk_arms-loop-arm
invariant-walk_arms-loop-arm l = record {
  way : ArmsWay (width_at (value_of l.widths)) (tree_for l.initial.walk.terms l.branch.test) l.clocked l.arms (else_in l.clocked l.other) (tree_for l.initial.walk.terms l.branch.enable) l.initial.walk l.walk l.enable l.ends.items l.arm-index;
  left : arms_size (arms_of (drop l.arm-index l.arms)) ≤ arms_size (arms_of l.arms);
}

abbrev pub decreases-walk_body : goal.decreases-walk_body
decreases-walk_body l = 7 * size (body_of l.stmts.now) + 1

abbrev pub decreases-walk_stmt : goal.decreases-walk_stmt
decreases-walk_stmt l = 7 * stmt_size (stmt_of l.stmt.now)

abbrev pub decreases-walk_both : goal.decreases-walk_both
decreases-walk_both l = 7 * size (body_of l.yes.now) + 7 * else_size (else_of l.no.now) + 5

abbrev pub decreases-walk_first : goal.decreases-walk_first
decreases-walk_first l = 7 * size (body_of l.yes.now) + 3

abbrev pub decreases-walk_yes : goal.decreases-walk_yes
decreases-walk_yes l = 7 * size (body_of l.yes.now) + 2

abbrev pub decreases-walk_second : goal.decreases-walk_second
decreases-walk_second l = 7 * else_size (else_of l.no.now) + 4

abbrev pub decreases-walk_no : goal.decreases-walk_no
decreases-walk_no l = 7 * else_size (else_of l.no.now) + 3

abbrev pub decreases-walk_else : goal.decreases-walk_else
decreases-walk_else l = 7 * else_size (else_of l.no.now) + 2

abbrev pub decreases-walk_case : goal.decreases-walk_case
decreases-walk_case l = 7 * arms_size (arms_of l.arms.now) + 7 * else_size (else_of l.other.now) + 6

abbrev pub decreases-walk_arms : goal.decreases-walk_arms
decreases-walk_arms l = 7 * arms_size (arms_of l.arms.now) + 7 * else_size (else_of l.other.now) + 4
