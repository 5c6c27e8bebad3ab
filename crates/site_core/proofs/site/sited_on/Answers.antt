use Rattle.std.proofs.Common.{◌≡◌, ◌<◌, ℕ, List, length, map, filter, All, Err, option_map, ap, ◌∙◌, sym, subst, rules}
use Rattle.std.proofs.lemmas.List.Elements.{All-filter}
use Rattle.std.proofs.lemmas.Result.{err_from_is_err_and}
use Rattle.symtab.specs.Places.{places}
use Rattle.symtab.specs.Shape.{lines_of}
use Rattle.cond_lang.specs.TextShown.{text_expr}
use Rattle.machine_core.specs.Arming.{first_of}
use Rattle.site_core.specs.Traps.{traps_of}
use Rattle.site_core.specs.Sites.{site_answer, named_has, IsRefusal, IsTold, refused_at, asked_instance}
use Rattle.site_core.proofs.Sites.{found_there, no_site, no_instance, no_text, no_bit, is_made, refused_end, spots_are}
use Rattle.site_core.proofs.Rising.{waits_in_order}
use Rattle.site_core.proofs.site.sited_on.Goals as goal

pub returns-then-is_empty-clause-told : goal.returns-then-is_empty-clause-told
returns-then-is_empty-clause-told c = λ read s reader.
    let empty : length c.slots_on-all.result.now ≡ 0 = search rules in
    no_site read c.args.table.now s c.args.bit c.args.line _ _ (sym (ap (λ (l : List ℕ). length l) c.slots_on-all.ensures.slots) ∙ empty)

pub returns-in_err-instance-clause-told : goal.returns-in_err-instance-clause-told
returns-in_err-instance-clause-told c = λ read s reader.
    let some : length c.slots_on-all.result.now ≡ 0 → ⊥ = search rules in
    let p = err_from_is_err_and c.from_residual.result c.from_residual.ensures.1 in
    let end = c.in_err-instance.field-0.0 in
    refused_end c.from_residual.result end _ (p.1 ∙ ap (λ x. Err x) p.2)
    (no_instance read c.args.table.now s c.args.bit c.args.line _ _ (λ z. some (ap (λ (l : List ℕ). length l) c.slots_on-all.ensures.slots ∙ z)) (site_answer end)
    (subst (λ (l : List ℕ). IsRefusal (site_answer end) (asked_instance c.args.table.now l (option_map (λ p. p.now) c.args.path))) c.slots_on-all.ensures.slots c.in_err-instance.ensures))

pub returns-in_err-text-clause-told : goal.returns-in_err-text-clause-told
returns-in_err-text-clause-told c = λ read s reader.
    let some : length c.slots_on-all.result.now ≡ 0 → ⊥ = search rules in
    let p = err_from_is_err_and c.from_residual-in_err-text.result c.from_residual-in_err-text.ensures.1 in
    let end = c.in_err-text.field-0.0 in
    let path = option_map (λ p. p.now) c.args.path in
    refused_end c.from_residual-in_err-text.result end _ (p.1 ∙ ap (λ x. Err x) p.2)
    (no_text read c.args.table.now s c.args.bit c.args.line path _ (λ z. some (ap (λ (l : List ℕ). length l) c.slots_on-all.ensures.slots ∙ z)) c.in_ok-instance.instance
    (sym (ap (λ (l : List ℕ). asked_instance c.args.table.now l path) c.slots_on-all.ensures.slots) ∙ c.in_ok-instance.ensures) (site_answer end) (c.in_err-text.ensures read reader))

pub traps_for-requires : goal.traps_for-requires
traps_for-requires c =
    subst (λ (l : List ℕ). All (λ k. k < length c.args.table.now.slots) l) (sym (c.deref.ensures.value ∙ c.in_ok-slots.ensures.slots))
    (All-filter (named_has c.args.table.now c.in_ok-instance.instance) (λ k. k < length c.args.table.now.slots) c.slots_on-all.result.now c.slots_on-all.ensures.within)

pub returns-in_err-traps-clause-told : goal.returns-in_err-traps-clause-told
returns-in_err-traps-clause-told c = λ read s reader.
    let some : length c.slots_on-all.result.now ≡ 0 → ⊥ = search rules in
    let p = err_from_is_err_and c.from_residual-in_err-traps.result c.from_residual-in_err-traps.ensures.1 in
    let end = c.in_err-traps.field-0.0 in
    let path = option_map (λ p. p.now) c.args.path in
    let named = c.in_ok-instance.instance in
    let parts = c.args.table.now in
    let ct = c.in_ok-text.text in
    let kept : c.deref.result.now ≡ filter (named_has parts named) (places c.args.line (lines_of parts.slots)) =
    c.deref.ensures.value ∙ c.in_ok-slots.ensures.slots ∙ ap (filter (named_has parts named)) c.slots_on-all.ensures.slots in
    let within = subst (λ (l : List ℕ). All (λ k. k < length parts.slots) l) c.slots_on-all.ensures.slots c.slots_on-all.ensures.within in
    refused_end c.from_residual-in_err-traps.result end _ (p.1 ∙ ap (λ x. Err x) p.2)
    (no_bit read parts s c.args.bit c.args.line path _ (λ z. some (ap (λ (l : List ℕ). length l) c.slots_on-all.ensures.slots ∙ z)) named
    (sym (ap (λ (l : List ℕ). asked_instance parts l path) c.slots_on-all.ensures.slots) ∙ c.in_ok-instance.ensures)
    c.parts-parts.ensures.table ct (spots_are parts named _ (All-filter (named_has parts named) (λ k. k < length parts.slots) _ within))
    (c.in_ok-text.ensures read reader) (site_answer end)
    (subst (λ (l : List ℕ). IsTold (site_answer end) (first_of (map (refused_at c.args.bit parts ct) (traps_of parts named l)))) kept c.in_err-traps.ensures.tells))

pub returns-clause-told : goal.returns-clause-told
returns-clause-told c = λ read s reader.
    let some : length c.slots_on-all.result.now ≡ 0 → ⊥ = search rules in
    let path = option_map (λ p. p.now) c.args.path in
    let named = c.in_ok-instance.instance in
    let parts = c.args.table.now in
    let ct = c.in_ok-text.text in
    let items : c.in_ok-slots.slots.items ≡ filter (named_has parts named) (places c.args.line (lines_of parts.slots)) =
    c.in_ok-slots.ensures.slots ∙ ap (filter (named_has parts named)) c.slots_on-all.ensures.slots in
    let within = subst (λ (l : List ℕ). All (λ k. k < length parts.slots) l) c.slots_on-all.ensures.slots c.slots_on-all.ensures.within in
    is_made read parts s c.args.bit c.args.line path _ (λ z. some (ap (λ (l : List ℕ). length l) c.slots_on-all.ensures.slots ∙ z)) named
    (sym (ap (λ (l : List ℕ). asked_instance parts l path) c.slots_on-all.ensures.slots) ∙ c.in_ok-instance.ensures)
    c.parts-parts.ensures.table ct (spots_are parts named _ (All-filter (named_has parts named) (λ k. k < length parts.slots) _ within))
    (c.in_ok-text.ensures read reader)
    (sym (ap (λ (l : List ℕ). first_of (map (refused_at c.args.bit parts ct) (traps_of parts named l))) (c.deref.ensures.value ∙ items)) ∙ c.in_ok-traps.ensures.tells)
    ∙ ap (λ (l : List ℕ). found_there (record { slots = l; instance = named; expr = option_map text_expr ct })) (sym items)

pub returns-clause-placed : goal.returns-clause-placed
returns-clause-placed c =
    let named = c.in_ok-instance.instance in
    let parts = c.args.table.now in
    let places_at = c.in_ok-traps.ensures.places ∙ ap (traps_of parts named) c.deref.ensures.value in
    record {
      places = places_at;
      each = c.in_ok-traps.ensures.each;
      in_order = waits_in_order parts named c.args.line (lines_of parts.slots) c.in_ok-slots.slots.items (named_has parts named) c.in_ok-traps.traps.items
          (c.in_ok-slots.ensures.slots ∙ ap (filter (named_has parts named)) c.slots_on-all.ensures.slots) places_at;
    }
