use Rattle.std.proofs.Common.{◌≡◌, ◌+◌, ◌*◌, ◌-◌, length, map}
use Rattle.gen_token.specs.Words.{placed}
use Rattle.gen_tree.specs.Tree.{items}
use Rattle.gen_tree.specs.View.{item_of}
use Rattle.gen_text.specs.Reading.{item_at, inner_items, body_by}
use Rattle.gen_text.proofs.Loops.{left_of}
use Rattle.gen_text.proofs.items.+items.Given as goal

abbrev pub decreases-item : goal.decreases-item
decreases-item l = 4 * l.room + 3

abbrev pub decreases-repeat : goal.decreases-repeat
decreases-repeat l = 4 * l.room + 2

abbrev pub decreases-generate : goal.decreases-generate
decreases-generate l = 4 * l.room + 2

abbrev pub decreases-otherwise : goal.decreases-otherwise
decreases-otherwise l = 4 * l.room + 1

abbrev pub decreases-item_block : goal.decreases-item_block
decreases-item_block l = 4 * l.room

abbrev pub invariant-item_block-turns : goal.invariant-item_block-turns
invariant-item_block-turns l =
    left_of items (item_at (l.room - 1)) (map item_of l.all.items) (placed l.rest)
    ≡ body_by l.room (inner_items l.room) (placed l.tokens)

abbrev pub decreases-item_block-turns : goal.decreases-item_block-turns
decreases-item_block-turns l = length l.rest
