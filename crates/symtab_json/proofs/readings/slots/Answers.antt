use Rattle.std.proofs.Common.{◌≡◌, Some, sym, ap, ◌∙◌, arith}
use Rattle.json.specs.Json.{after_end_array}
use Rattle.symtab_json.specs.Entries.{told_items, told_slot}
use Rattle.symtab_json.proofs.Behind.{behind, behind_end}
use Rattle.symtab_json.proofs.Heads.{items_end_head}
use Rattle.symtab_json.proofs.readings.slots.Goals as goal

pub returns-clause-told : goal.returns-clause-told
returns-clause-told c =
    let l = c.items in
    let over : after_end_array l.reader ≡ Some c.take_end_array.new.self = grind arith in
    sym (behind_end l.slots.items) ∙ ap (λ ds. behind l.slots.items (told_items (told_slot c.args.filed c.args.nodes.now) ds)) (sym (items_end_head l.reader _ over)) ∙ l.invariant.1
