use Rattle.std.proofs.Common.{◌≡◌, ◌+◌, ◌*◌, ◌-◌, max, pos, ◌+ℤ◌, [], drop, map}
use Rattle.gen_tree.specs.View.{stmt_of, stmts_of, arm_of, arms_of, else_of}
use Rattle.design_core.specs.View as view
use Rattle.elab_core.specs.Walk.{judge}
use Rattle.elab_core.specs.Elab.{statements, arm_bodies, turns}
use Rattle.elab_base.specs.Met.{met_of, CountsUp}
use Rattle.elab_body.specs.Body.{made_of, in_turn}
use Rattle.elab_body.proofs.Heights.{height, height_stmt, height_else, height_arms}
use Rattle.elab_body.proofs.Kept.{KeptFront}
use Rattle.elab_body.proofs.statement.+statements.Given as goal

abbrev pub invariant-statements-loop-statement : goal.invariant-statements-loop-statement
invariant-statements-loop-statement l =
    KeptFront (judge (met_of l.met) (statements (stmts_of (drop l.statement-index l.body)) l.scope (made_of l.made)))
    (judge (met_of l.initial.met) (statements (stmts_of l.body) l.scope (made_of l.initial.made)))
    l.met l.initial.met l.made.items l.initial.made.items

abbrev pub invariant-all_turns-loop-turn : goal.invariant-all_turns-loop-turn
invariant-all_turns-loop-turn l =
    KeptFront (judge (met_of l.met) (turns l.each.line (in_turn (stmts_of l.body) l.each.name.value l.scope) (l.each.turns.from +ℤ pos l.turn) (l.each.turns.count - l.turn) (made_of l.made)))
    (judge (met_of l.initial.met) (turns l.each.line (in_turn (stmts_of l.body) l.each.name.value l.scope) l.each.turns.from l.each.turns.count (made_of l.initial.made)))
    l.met l.initial.met l.made.items l.initial.made.items

abbrev pub invariant-all_arms-loop-arm : goal.invariant-all_arms-loop-arm
invariant-all_arms-loop-arm l = record {
  judged : judge (met_of l.met) (arm_bodies l.line (arms_of (drop l.arm-index l.arms)) l.scope (map view.arm_of l.made.items)) ≡ judge (met_of l.initial.met) (arm_bodies l.line (arms_of l.arms) l.scope []);
  instances : l.met.instances ≡ l.initial.met.instances;
  counts : CountsUp l.initial.met l.met;
}

abbrev pub decreases-one_statement : goal.decreases-one_statement
decreases-one_statement l = 8 * height_stmt (stmt_of l.statement.now) + 1

abbrev pub decreases-generated : goal.decreases-generated
decreases-generated l = 8 * height_stmt (stmt_of l.statement.now)

abbrev pub decreases-statements : goal.decreases-statements
decreases-statements l = 8 * height (stmts_of l.body.now) + 2

abbrev pub decreases-block : goal.decreases-block
decreases-block l = 8 * height (stmts_of l.body.now) + 3

abbrev pub decreases-otherwise : goal.decreases-otherwise
decreases-otherwise l = 8 * height_else (else_of l.no.now) + 4

abbrev pub decreases-branches : goal.decreases-branches
decreases-branches l = 8 * max (height (stmts_of l.yes.now)) (height_else (else_of l.no.now)) + 5

abbrev pub decreases-chosen : goal.decreases-chosen
decreases-chosen l = 8 * max (height (stmts_of l.yes.now)) (height_else (else_of l.no.now)) + 6

abbrev pub decreases-selected : goal.decreases-selected
decreases-selected l = 8 * max (height_arms (arms_of l.arms.now)) (height_else (else_of l.other.now)) + 7

abbrev pub decreases-cases : goal.decreases-cases
decreases-cases l = 8 * max (height_arms (arms_of l.arms.now)) (height_else (else_of l.other.now)) + 6

abbrev pub decreases-all_arms : goal.decreases-all_arms
decreases-all_arms l = 8 * height_arms (arms_of l.arms.now) + 5

abbrev pub decreases-one_arm : goal.decreases-one_arm
decreases-one_arm l = 8 * height (arm_of l.arm.now).1 + 4

abbrev pub decreases-one_turn : goal.decreases-one_turn
decreases-one_turn l = 8 * height (stmts_of l.body.now) + 3

abbrev pub decreases-all_turns : goal.decreases-all_turns
decreases-all_turns l = 8 * height (stmts_of l.body.now) + 4
