use Rattle.std.proofs.Common.{◌≡◌, ◌+◌, ◌*◌, ◌≤◌, ◌<◌, true, false, drop, length}
use Rattle.std.specs.Prelude.{is_some}
use Rattle.design_core.specs.View.{arms_of, body_of, else_of, stmt_of}
use Rattle.design_core.specs.Slots.{size, stmt_size, arms_size, else_size}
use Rattle.names.specs.Known.{has}
use Rattle.names.specs.Maps.{value_of}
use Rattle.check_core.specs.Paths.{early_in, early_in_arms}
use Rattle.name_widths.specs.DeclaredWidths.{width_at}
use Rattle.check_paths.specs.Frames.{all_bits, bits_of, both, kept}
use Rattle.check_paths.specs.Walked.{after_body, arms_assigned, missing}
use Rattle.check_paths.proofs.walk.+walking.Given as goal

-- what is left tells what all tells, and assigns what all assigns
abbrev pub invariant-walk-loop-stmt : goal.invariant-walk-loop-stmt
invariant-walk-loop-stmt l = record {
  told : early_in (width_at (value_of l.widths)) (missing (has l.watched) (all_bits l.frames)) (body_of (drop l.stmt-index l.stmts))
      ≡ early_in (width_at (value_of l.widths)) (missing (has l.watched) (all_bits l.initial.frames)) (body_of l.stmts);
  assigned : after_body (bits_of l.frames.1) (body_of (drop l.stmt-index l.stmts)) ≡ after_body (bits_of l.initial.frames.1) (body_of l.stmts);
  kept : l.frames.0 ≡ l.initial.frames.0;
  left : size (body_of (drop l.stmt-index l.stmts)) ≤ size (body_of l.stmts);
}

-- and what all arms assign is assigned by those so far and by what is left
abbrev pub invariant-walk_arms-loop-arm : goal.invariant-walk_arms-loop-arm
invariant-walk_arms-loop-arm l = record {
  told : early_in_arms (width_at (value_of l.widths)) (missing (has l.watched) (all_bits l.initial.frames)) (arms_of (drop l.arm-index l.arms))
      ≡ early_in_arms (width_at (value_of l.widths)) (missing (has l.watched) (all_bits l.initial.frames)) (arms_of l.arms);
  stay : l.frames ≡ l.initial.frames;
  all : both (kept l.found) (arms_assigned (arms_of (drop l.arm-index l.arms))) ≡ arms_assigned (arms_of l.arms);
  none : is_some l.found ≡ false → l.arm-index ≡ 0;
  some : is_some l.found ≡ true → 0 < length l.arms;
  left : arms_size (arms_of (drop l.arm-index l.arms)) ≤ arms_size (arms_of l.arms);
}

abbrev pub decreases-walk : goal.decreases-walk
decreases-walk l = 7 * size (body_of l.stmts.now) + 6

abbrev pub decreases-walk_stmt : goal.decreases-walk_stmt
decreases-walk_stmt l = 7 * stmt_size (stmt_of l.stmt.now) + 5

abbrev pub decreases-walk_both : goal.decreases-walk_both
decreases-walk_both l = 7 * (size (body_of l.yes.now) + else_size (else_of l.no.now)) + 10

abbrev pub decreases-walk_case : goal.decreases-walk_case
decreases-walk_case l = 7 * (arms_size (arms_of l.arms.now) + else_size (else_of l.other.now)) + 10

abbrev pub decreases-walk_arms : goal.decreases-walk_arms
decreases-walk_arms l = 7 * arms_size (arms_of l.arms.now) + 8

abbrev pub decreases-walk_apart : goal.decreases-walk_apart
decreases-walk_apart l = 7 * size (body_of l.stmts.now) + 7

abbrev pub decreases-walk_else : goal.decreases-walk_else
decreases-walk_else l = 7 * else_size (else_of l.no.now) + 8
