-- What is found in a table for a line, a path and a text is what the machine finds, in the world that the table and a trace tell, as it is seen.
use Rattle.std.proofs.Common.{◌≡◌, ℕ, ◌+◌, ◌<◌, Bool, true, false, List, [], ◌∷◌, ◌++◌, length, map, filter, take, get_or, All, Contains, Option, Some, None, Result, Ok, Err, option_map, refl, sym, ap, ap₂, ◌∙◌, subst, append_assoc}
use Rattle.std.specs.Prelude.{IfOk}
use Rattle.std.proofs.lemmas.List.{map-append}
use Rattle.std.proofs.lemmas.List.Elements.{All-nil, All-head, All-tail, All-append, All-map, All-filter, All-weaker, All-contains_itself, All-push, All-same, filter-append}
use Rattle.list_core.proofs.Growing.{more_of}
use Rattle.std.proofs.lemmas.Option.{slice_get-get_or, same_Some}
use Rattle.exec_core.specs.Block.{Name}
use Rattle.gen_tree.specs.Tree.{Expr}
use Rattle.symtab.specs.declared.parts.TableParts.{TableParts}
use Rattle.symtab.specs.Places.{places}
use Rattle.symtab.specs.Shape.{IsTable, lines_of}
use Rattle.symtab.specs.Lookups.{instances_of, binding_of}
use Rattle.trace_core.specs.Samples.{Samples}
use Rattle.world_core.specs.World.{World}
use Rattle.cond_lang.specs.declared.cond.Cond.{Cond}
use Rattle.cond_lang.specs.declared.text.CondText.{CondText}
use Rattle.cond_lang.specs.Bound.{scope_of, bound_by}
use Rattle.cond_lang.specs.Judged.{Refusal, judged}
use Rattle.cond_lang.specs.Shown.{cond_tree, cond_width}
use Rattle.cond_lang.specs.TextShown.{text_expr, text_offsets}
use Rattle.machine_core.specs.declared.reply.Body.{Body}
use Rattle.machine_core.specs.declared.reply.Body.TheVariants as body
use Rattle.machine_core.specs.Arming as machine
use Rattle.machine_core.specs.Reading.{Reader, Reading, Condition, NoCondition}
use Rattle.machine_core.specs.Matching.{is_wanted}
use Rattle.machine_core.specs.Arming.{◌>>=◌, some_slots, bit_refusal, value_refusal, fit_refusal, fit_spot, fitting_at, fitting_of, first_of, unless_refused, sited_on}
use Rattle.site_core.specs.declared.trap.Trap.{Trap}
use Rattle.site_core.specs.declared.site.Sited.{Sited}
use Rattle.site_core.specs.declared.fault.SiteFault.{SiteFault}
use Rattle.site_core.specs.Traps.{traps_of, trap_place, IsBit, IsTrapOf, IsFittingAt, traps_in, IsSpot}
use Rattle.site_core.specs.Sites.{site_answer, IsRefusal, IsTold, TellsMade, TellsNone, sited_of, as_read, reading_made, text_parts, asked_instance, named_has, refused_at}
use Rattle.site_core.proofs.Found.{slots_told, instance_told, kept_told, spots_told}
use Rattle.site_core.proofs.Firsts.{first_more}
use Rattle.site_core.proofs.Told.{told}
use Rattle.site_core.proofs.Scopes.{judged_told}

-- ---- a condition that was bound

-- it is a bit, where one is wanted
pub bound_made : (bit : Bool) (r : Result Cond SiteFault) (cond : Cond) (parts : TableParts) (k i : ℕ) (text : CondText)
    → IfOk r (λ made. (cond_tree made ≡ cond_tree cond) × (cond_width made ≡ cond_width cond)) → IfOk r (λ made. IsBit bit (cond_width made))
    → judged (scope_of (binding_of parts k i)) (text_expr text) (text_offsets text) ≡ Ok (cond_width cond) → cond_tree cond ≡ bound_by (binding_of parts k i) (text_expr text)
    → IfOk r (λ made. IsFittingAt bit parts k i (Some text) (Some made))
bound_made bit (Ok made) cond parts k i text same fits width tree = (fits, same.0 ∙ tree, width ∙ ap (λ n. Ok n) (sym same.1))
bound_made bit (Err end) cond parts k i text same fits width tree = same

-- what is told for a bit and for any value is told for what is wanted
pub told_fit : (bit : Bool) (k : ℕ) (told : Option Body) (found : Result ℕ Refusal) → IsTold told (bit_refusal k found) → IsTold told (value_refusal k found) → IsTold told (fit_refusal bit k found)
told_fit true k told found h g = h
told_fit false k told found h g = g

-- ---- the spots of slots

in_slot : (parts : TableParts) (named : Option ℕ) (k : ℕ) → k < length parts.slots → All (IsSpot parts) (traps_in parts named k)
in_slot parts named k below =
    All-map (IsSpot parts) (λ i. (k, i)) (filter (is_wanted named) (instances_of parts k))
    (All-filter (is_wanted named) (λ i. IsSpot parts (k, i)) (instances_of parts k)
    (All-weaker (Contains (instances_of parts k)) (λ i. IsSpot parts (k, i)) (λ i among. record { slot = below; instance = among }) (instances_of parts k) (All-contains_itself (instances_of parts k))))

pub spots_are : (parts : TableParts) (named : Option ℕ) (slots : List ℕ) → All (λ k. k < length parts.slots) slots → All (IsSpot parts) (traps_of parts named slots)
spots_are parts named [] h = All-nil (IsSpot parts)
spots_are parts named (k ∷ slots) h =
    All-append (IsSpot parts) (traps_in parts named k) (traps_of parts named slots) (in_slot parts named k (All-head (λ n. n < length parts.slots) k slots h))
    (spots_are parts named slots (All-tail (λ n. n < length parts.slots) k slots h))

-- one instance more of a slot
pub slot_more : (parts : TableParts) (named : Option ℕ) (k : ℕ) (old now after : List (ℕ × ℕ)) (is : List ℕ) (n i : ℕ) → n < length is → i ≡ get_or is n i
    → now ≡ old ++ map (λ x. (k, x)) (filter (is_wanted named) (take n is)) → after ≡ now ++ map (λ x. (k, x)) (filter (is_wanted named) (i ∷ []))
    → after ≡ old ++ map (λ x. (k, x)) (filter (is_wanted named) (take (n + 1) is))
slot_more parts named k old now after is n i below at so step =
    step ∙ ap (λ l. l ++ map (λ x. (k, x)) (filter (is_wanted named) (i ∷ []))) so
    ∙ append_assoc old (map (λ x. (k, x)) (filter (is_wanted named) (take n is))) (map (λ x. (k, x)) (filter (is_wanted named) (i ∷ [])))
    ∙ ap (λ l. old ++ l) (
    sym (map-append (λ x. (k, x)) (filter (is_wanted named) (take n is)) (filter (is_wanted named) (i ∷ [])))
    ∙ ap (map (λ x. (k, x))) (sym (filter-append (is_wanted named) (take n is) (i ∷ [])) ∙ ap (filter (is_wanted named)) (sym (more_of is n i below at))))

-- the element at a place, whatever stands for one that is not there
pub same_item : {X : Type 0} (xs : List X) (i : ℕ) (d : X) → i < length xs → get_or xs i d ≡ get_or xs i (get_or xs i d)
same_item xs i d below = same_Some (get_or xs i d) (get_or xs i (get_or xs i d)) (sym (slice_get-get_or xs i d below) ∙ slice_get-get_or xs i (get_or xs i d) below)

trap_there : (bit : Bool) (parts : TableParts) (text : Option CondText) (t : Trap) (spot : ℕ × ℕ) → trap_place t ≡ spot → IsSpot parts spot → IsFittingAt bit parts spot.0 spot.1 text t.cond → IsTrapOf bit parts text t
trap_there bit parts text t spot e h b = record {
  slot = subst (λ (p : ℕ × ℕ). p.0 < length parts.slots) (sym e) h.slot;
  instance = subst (λ (p : ℕ × ℕ). Contains (instances_of parts p.0) p.1) (sym e) h.instance;
  bound = subst (λ (p : ℕ × ℕ). IsFittingAt bit parts p.0 p.1 text t.cond) (sym e) b;
}

-- so far as the first spots: a trap at each, and none refused
abbrev pub ArmedUpTo : (bit : Bool) → TableParts → Option CondText → List (ℕ × ℕ) → List Trap → Type 0
ArmedUpTo bit parts text spots traps = (map trap_place traps ≡ spots) × All (IsTrapOf bit parts text) traps × (first_of (map (refused_at bit parts text) spots) ≡ None)

-- one trap more
pub trap_more : (bit : Bool) (parts : TableParts) (text : Option CondText) (spots : List (ℕ × ℕ)) (i : ℕ) (spot : ℕ × ℕ) (traps items : List Trap) (t : Trap) → i < length spots → spot ≡ get_or spots i spot → IsSpot parts spot
    → items ≡ traps ++ t ∷ [] → trap_place t ≡ spot → IsFittingAt bit parts spot.0 spot.1 text t.cond → refused_at bit parts text spot ≡ None
    → ArmedUpTo bit parts text (take i spots) traps → ArmedUpTo bit parts text (take (i + 1) spots) items
trap_more bit parts text spots i spot traps items t below at is_spot grown place bound granted so = (
  ap (map trap_place) grown ∙ map-append trap_place traps (t ∷ []) ∙ ap₂ (λ (l : List (ℕ × ℕ)) (p : ℕ × ℕ). l ++ p ∷ []) so.0 place ∙ sym (more_of spots i spot below at),
  All-same (IsTrapOf bit parts text) items (traps ++ t ∷ []) grown (All-push (IsTrapOf bit parts text) traps t so.1 (trap_there bit parts text t spot place is_spot bound)),
  first_more (refused_at bit parts text) spots i spot below at so.2 granted,
)

-- ---- conditions at the spots

refusals_told : (bit : Bool) (parts : TableParts) → IsTable parts → (s : Samples) (text : CondText) (spots : List (ℕ × ℕ)) → All (IsSpot parts) spots
    → map (fit_spot (told parts s) bit (text_expr text) (text_offsets text)) spots ≡ map (refused_at bit parts (Some text)) spots
refusals_told bit parts table s text [] h = refl
refusals_told bit parts table s text (spot ∷ spots) h =
    ap₂ (λ o l. o ∷ l)
    (ap (fit_refusal bit spot.0) (judged_told parts table s spot.0 spot.1 (All-head (IsSpot parts) spot spots h).instance (text_expr text) (text_offsets text)))
    (refusals_told bit parts table s text spots (All-tail (IsSpot parts) spot spots h))

-- ---- steps that may be refused

pub refused_first : {A B : Type 0} (o : Option Body) (x : Result A Body) (f : A → Result B Body) → IsRefusal o x → IsRefusal o (x >>= f)
refused_first None x f h = tt
refused_first (Some refusal) x f h = ap (λ y. y >>= f) h

none_refused : {A : Type 0} (o found : Option Body) (x : A) → IsTold o found → IsRefusal o (unless_refused found x)
none_refused None found x h = tt
none_refused (Some refusal) found x h = ap (λ o. unless_refused o x) h

-- ---- a text as a condition

none_first : (bit : Bool) (spots : List (ℕ × ℕ)) (parts : TableParts) → first_of (map (refused_at bit parts None) spots) ≡ None
none_first bit [] parts = refl
none_first bit (spot ∷ spots) parts = none_first bit spots parts

bad_reading : (bit : Bool) (o : Option Body) (w : World) (spots : List (ℕ × ℕ)) (r : Reading) → IsRefusal o (reading_made r) → IsRefusal o (fitting_at w bit spots r)
bad_reading bit None w spots r h = tt
bad_reading bit (Some refusal) w spots (Condition e offsets) h = cc
bad_reading bit (Some refusal) w spots (NoCondition offset) h = ap (λ b. Err b) (err_same h)
  where
    err_same : {A B : Type 0} {x y : B} → (let r : Result A B = Err x in r) ≡ Err y → x ≡ y
    err_same e = cc

pub bad_text : (bit : Bool) (o : Option Body) (read : Reader) (w : World) (spots : List (ℕ × ℕ)) (text : Option (List ℕ)) → IsRefusal o (as_read read text) → IsRefusal o (fitting_of read w bit spots text)
bad_text bit None read w spots text h = tt
bad_text bit (Some refusal) read w spots None h = cc
bad_text bit (Some refusal) read w spots (Some t) h = bad_reading bit (Some refusal) w spots (read t) h

module _ (bit : Bool) (parts : TableParts) (table : IsTable parts) (s : Samples) (spots : List (ℕ × ℕ)) (are : All (IsSpot parts) spots) where
  good_reading : (r : Reading) (ct : Option CondText) → reading_made r ≡ Ok (option_map text_parts ct)
      → fitting_at (told parts s) bit spots r ≡ unless_refused (first_of (map (refused_at bit parts ct) spots)) (option_map text_expr ct)
  good_reading (NoCondition offset) ct e = cc
  good_reading (Condition e offsets) None same = cc
  good_reading (Condition e offsets) (Some ct) same =
      (λ j. unless_refused (first_of (map (fit_spot (told parts s) bit (expr_same j) (offsets_same j)) spots)) (Some (expr_same j)))
      ∙ ap (λ l. unless_refused (first_of l) (Some (text_expr ct))) (refusals_told bit parts table s ct spots are)
    where
      pair_same : (let p : Expr × List ℕ = (e, offsets) in p) ≡ text_parts ct
      pair_same = cc

      expr_same : e ≡ text_expr ct
      expr_same = ap (λ (p : Expr × List ℕ). p.0) pair_same

      offsets_same : offsets ≡ text_offsets ct
      offsets_same = ap (λ (p : Expr × List ℕ). p.1) pair_same

  pub good_text : (read : Reader) (text : Option (List ℕ)) (ct : Option CondText) → as_read read text ≡ Ok (option_map text_parts ct)
      → fitting_of read (told parts s) bit spots text ≡ unless_refused (first_of (map (refused_at bit parts ct) spots)) (option_map text_expr ct)
  good_text read None (Some ct) e = cc
  good_text read None None e = ap (λ o. unless_refused o None) (sym (none_first bit spots parts))
  good_text read (Some t) ct e = good_reading (read t) ct e

-- ---- the whole

some_there : (line : ℕ) (xs : List ℕ) → (length xs ≡ 0 → ⊥) → some_slots line xs ≡ Ok xs
some_there line [] h = absurd (h refl)
some_there line (k ∷ xs) h = refl

none_there : (line : ℕ) (xs : List ℕ) → length xs ≡ 0 → some_slots line xs ≡ Err (body.NoSite line)
none_there line [] h = refl
none_there line (k ∷ xs) h = cc

abbrev pub found_there : machine.Sited → Result machine.Sited Body
found_there at = Ok at

module _ (read : Reader) (parts : TableParts) (s : Samples) (bit : Bool) (line : ℕ) (path : Option Name) (text : Option (List ℕ)) where
  abbrev made : Result machine.Sited Body
  made = sited_on read (told parts s) bit line path text

  abbrev kept : List ℕ → Option ℕ → List ℕ
  kept all named = filter (named_has parts named) all

  abbrev last : List ℕ → Option ℕ → Option Expr → Result machine.Sited Body
  last all named e = found_there (record { slots = kept all named; instance = named; expr = e })

  abbrev behind_instance : List ℕ → Option ℕ → Result machine.Sited Body
  behind_instance all named = fitting_of read (told parts s) bit (traps_of parts named (kept all named)) text >>= last all named

  abbrev behind_slots : List ℕ → Result machine.Sited Body
  behind_slots all = asked_instance parts all path >>= behind_instance all

  abbrev all : List ℕ
  all = places line (lines_of parts.slots)

  made_is : made ≡ (some_slots line all >>= behind_slots)
  made_is =
      (λ j. some_slots line (slots_told parts s line j) >>= λ all. instance_told parts s all path j >>= λ named.
      fitting_of read (told parts s) bit (spots_told parts s named (kept_told parts s all named j) j) text >>= λ e.
      found_there (record { slots = kept_told parts s all named j; instance = named; expr = e }))

  pub no_site : length all ≡ 0 → made ≡ Err (body.NoSite line)
  no_site empty = made_is ∙ ap (λ x. x >>= behind_slots) (none_there line all empty)

  module _ (some : length all ≡ 0 → ⊥) where
    made_some : made ≡ behind_slots all
    made_some = made_is ∙ ap (λ x. x >>= behind_slots) (some_there line all some)

    pub no_instance : (o : Option Body) → IsRefusal o (asked_instance parts all path) → IsRefusal o made
    no_instance o h = subst (IsRefusal o) (sym made_some) (refused_first o (asked_instance parts all path) (behind_instance all) h)

    module _ (named : Option ℕ) (asked : asked_instance parts all path ≡ Ok named) where
      made_named : made ≡ behind_instance all named
      made_named = made_some ∙ ap (λ x. x >>= behind_instance all) asked

      pub no_text : (o : Option Body) → IsRefusal o (as_read read text) → IsRefusal o made
      no_text o h = subst (IsRefusal o) (sym made_named) (refused_first o _ (last all named) (bad_text bit o read (told parts s) (traps_of parts named (kept all named)) text h))

      module _ (table : IsTable parts) (ct : Option CondText) (are : All (IsSpot parts) (traps_of parts named (kept all named))) (is_read : as_read read text ≡ Ok (option_map text_parts ct)) where
        made_read : made ≡ (unless_refused (first_of (map (refused_at bit parts ct) (traps_of parts named (kept all named)))) (option_map text_expr ct) >>= last all named)
        made_read = made_named ∙ ap (λ x. x >>= last all named) (good_text bit parts table s (traps_of parts named (kept all named)) are read text ct is_read)

        pub no_bit : (o : Option Body) → IsTold o (first_of (map (refused_at bit parts ct) (traps_of parts named (kept all named)))) → IsRefusal o made
        no_bit o h = subst (IsRefusal o) (sym made_read) (refused_first o _ (last all named) (none_refused o _ (option_map text_expr ct) h))

        pub is_made : first_of (map (refused_at bit parts ct) (traps_of parts named (kept all named))) ≡ None → made ≡ last all named (option_map text_expr ct)
        is_made h = made_read ∙ ap (λ o. unless_refused o (option_map text_expr ct) >>= last all named) h

-- the same of a call that ended so
pub refused_end : (r : Result Sited SiteFault) (end : SiteFault) (made : Result machine.Sited Body) → r ≡ Err end → IsRefusal (site_answer end) made → TellsMade sited_of r made
refused_end r end made e h = subst (λ x. TellsMade sited_of x made) (sym e) h

pub told_end : {X : Type 0} (r : Result X SiteFault) (end : SiteFault) (refusal : Option Body) → r ≡ Err end → IsTold (site_answer end) refusal → TellsNone r refusal
told_end r end refusal e h = subst (λ x. TellsNone x refusal) (sym e) h
