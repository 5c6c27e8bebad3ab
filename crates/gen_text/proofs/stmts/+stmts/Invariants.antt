use Rattle.std.proofs.Common.{◌≡◌, ◌+◌, ◌*◌, ◌-◌, length, map}
use Rattle.gen_token.specs.Words.{placed}
use Rattle.gen_tree.specs.Tree.{stmts}
use Rattle.gen_tree.specs.View.{arm_of, stmt_of}
use Rattle.gen_text.specs.Reading as list
use Rattle.gen_text.specs.Reading.{seen}
use Rattle.gen_text.proofs.Loops.{with_front}
use Rattle.gen_text.proofs.stmts.+stmts.Given as goal

abbrev pub decreases-stmt : goal.decreases-stmt
decreases-stmt l = 4 * l.room + 3

abbrev pub decreases-choose : goal.decreases-choose
decreases-choose l = 4 * l.room + 2

abbrev pub decreases-repeat : goal.decreases-repeat
decreases-repeat l = 4 * l.room + 2

abbrev pub decreases-generate : goal.decreases-generate
decreases-generate l = 4 * l.room + 2

abbrev pub decreases-select : goal.decreases-select
decreases-select l = 4 * l.room + 2

abbrev pub decreases-cases : goal.decreases-cases
decreases-cases l = 4 * l.room + 5

abbrev pub decreases-arm_list : goal.decreases-arm_list
decreases-arm_list l = 4 * l.room + 4

abbrev pub decreases-arm : goal.decreases-arm
decreases-arm l = 4 * l.room + 3

abbrev pub decreases-default : goal.decreases-default
decreases-default l = 4 * l.room + 1

abbrev pub invariant-arm_list-turns : goal.invariant-arm_list-turns
invariant-arm_list-turns l =
    with_front (map arm_of l.all.items) (list.each_at list.begins_arm (list.arm_at l.room (list.inner_stmts l.clocked l.room)) (placed l.rest))
    ≡ list.arm_list_at l.room (list.inner_stmts l.clocked l.room) (placed l.tokens)

abbrev pub decreases-arm_list-turns : goal.decreases-arm_list-turns
decreases-arm_list-turns l = length l.rest

abbrev pub decreases-otherwise : goal.decreases-otherwise
decreases-otherwise l = 4 * l.room + 1

abbrev pub decreases-block : goal.decreases-block
decreases-block l = 4 * l.room

abbrev pub invariant-block-turns : goal.invariant-block-turns
invariant-block-turns l =
    seen stmts (with_front (map stmt_of l.all.items) (list.until_at (list.stmt_at l.clocked (l.room - 1)) (placed l.rest)))
    ≡ list.body_by l.room (list.inner_stmts l.clocked l.room) (placed l.tokens)

abbrev pub decreases-block-turns : goal.decreases-block-turns
decreases-block-turns l = length l.rest
