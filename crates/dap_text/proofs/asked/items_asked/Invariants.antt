use Rattle.std.proofs.Common.{◌≡◌, drop}
use Rattle.serde_json.specs.View.{items_view}
use Rattle.symtab_json.specs.Entries.{told_items}
use Rattle.symtab_json.proofs.Behind.{behind}
use Rattle.dap_text.specs.Messages.{line_asked}
use Rattle.dap_text.proofs.asked.items_asked.Given as goal

-- the entries so far, with what is told of those that are left, are what is told of all
abbrev pub invariant-loop-value : goal.invariant-loop-value
invariant-loop-value l =
    behind l.lines.items (told_items line_asked (items_view (drop l.value-index l.values))) ≡ told_items line_asked (items_view l.values)
