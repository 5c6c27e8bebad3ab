use Rattle.std.proofs.Common.{rules, ◌≡◌, ◌∙◌, ◌&&◌, ◌||◌, ◌==◌, Bool, true, false, length, nat_le, ap}
use Rattle.std.specs.List.{list_all}
use Rattle.symtab_json.specs.Judged.{has_cells}
use Rattle.symtab_json.specs.Places.{are_apart, times_counted}
use Rattle.symtab_json.proofs.Kept.{map_itself}
use Rattle.symtab_json.proofs.judged.is_full.Goals as goal

third : (a b c d : Bool) → a ≡ true → b ≡ true → c ≡ d → c ≡ (a && (b && d))
third true true c d ea eb e = e
third false b c d ea eb e = cc
third true false c d ea eb e = cc

pub returns : goal.returns
returns c =
    let slot = c.args.slot.now in
    third (nat_le c.args.variants slot.variant || length slot.rows == times_counted c.args.counts.now slot.variant) (list_all (has_cells (length slot.names)) slot.rows)
    c.in_ok-are_apart.field-0 (are_apart slot.names) (search rules) (search rules)
    (c.in_ok-are_apart.ensures ∙ ap are_apart (map_itself _ ∙ c.items-names.ensures))
