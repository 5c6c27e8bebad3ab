use Rattle.std.proofs.Common.{◌≡◌, ◌++◌, drop, map, false}
use Rattle.serde_json.specs.View.{items_of}
use Rattle.serde_json.specs.Written.{items_text}
use Rattle.dap_text.proofs.row.push_rows.Given as goal

-- what was added, with what is left, is all
abbrev pub invariant-loop-row : goal.invariant-loop-row
invariant-loop-row g l =
    l.text.items ++ items_text l.later (items_of (map (λ item. g.T.Row.tree item) (drop l.row-index l.rows)))
    ≡ l.initial.text.items ++ items_text false (items_of (map (λ item. g.T.Row.tree item) l.rows))
