use Rattle.std.proofs.Common.{◌≡◌, ◌-◌, length, map}
use Rattle.gen_token.specs.Words.{placed}
use Rattle.gen_tree.specs.Tree.{items}
use Rattle.gen_tree.specs.View.{item_of}
use Rattle.gen_text.specs.Reading.{item_at, items_until}
use Rattle.gen_text.proofs.Loops.{left_of}
use Rattle.gen_text.proofs.modules.content.Given as goal

abbrev pub invariant-turns : goal.invariant-turns
invariant-turns l = left_of items (item_at (l.room - 1)) (map item_of l.all.items) (placed l.rest) ≡ items_until (item_at (l.room - 1)) (placed l.initial.rest)

abbrev pub decreases-turns : goal.decreases-turns
decreases-turns l = length l.rest
