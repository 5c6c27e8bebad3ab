use Rattle.std.proofs.Common.{◌≡◌, ◌++◌, drop, map, false}
use Rattle.serde_json.specs.View.{items_of}
use Rattle.serde_json.specs.Written.{items_text}
use Rattle.req_json.proofs.value.push_items.Given as goal

-- what was added, with what is left, is all
abbrev pub invariant-loop-item : goal.invariant-loop-item
invariant-loop-item g l =
    l.text.items ++ items_text l.later (items_of (map (λ item. g.T.Compact.tree item) (drop l.item-index l.items)))
    ≡ l.initial.text.items ++ items_text false (items_of (map (λ item. g.T.Compact.tree item) l.items))
