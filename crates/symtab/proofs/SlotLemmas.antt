-- Slots that were tested one by one.
use Rattle.std.proofs.Common.{◌≡◌, ℕ, ◌+◌, ◌<◌, List, [], ◌∷◌, ◌++◌, Option, Some, None, Result, Ok, Err, IfOk, IfSome, IsSome, ◌↔◌, All, map, take, length, get_or, sym, ap, refl, ◌∙◌, subst}
use Rattle.std.proofs.lemmas.List.{take_more, map-append, map-id}
use Rattle.std.proofs.lemmas.Bool.{false≢true}
use Rattle.std.proofs.lemmas.List.Elements.{All-push, All-same}
use Rattle.symtab.specs.declared.parts.NodeName.{NodeName}
use Rattle.symtab.specs.declared.parts.Slot.{Slot}
use Rattle.symtab.specs.Apart.{AreApart}
use Rattle.symtab.specs.declared.parts.TableParts.{TableParts}
use Rattle.symtab.specs.Checked.{IsPlaced, AreRows, AreNamed}
use Rattle.symtab.specs.Shape.{IsSlot, IsTable, variants_of}

-- texts are their own names
pub apart_texts : {E : Type 0} (texts : List (List ℕ)) (made : Result (Option (List (List ℕ))) E) → IfOk made (λ found. IsSome found ↔ AreApart (map (λ text. text) texts)) → IfOk made (λ found. IsSome found ↔ AreApart texts)
apart_texts texts (Err e) tested = tt
apart_texts texts (Ok found) tested = subst (λ (names : List (List ℕ)). IsSome found ↔ AreApart names) (map-id texts) tested

pub named_texts : {E : Type 0} (texts : List (List ℕ)) (made : Result (Option (List (List ℕ))) E) → IfOk made (λ found. IfSome found (λ names. names ≡ map (λ text. text) texts)) →
    IfOk made (λ found. IfSome found (λ names. names ≡ texts))
named_texts texts (Err e) are = tt
named_texts texts (Ok None) are = tt
named_texts texts (Ok (Some names)) are = are ∙ map-id texts

-- a slot whose other rules are kept fits exactly where its names are apart
pub fits : {N E : Type 0} (nodes : List NodeName) (count : ℕ) (variants : List ℕ) (slot : Slot) → IsPlaced count slot → AreRows nodes variants slot →
    (made : Result (Option N) E) → IfOk made (λ found. IsSome found ↔ AreApart slot.names) → IfOk made (λ found. IsSome found ↔ IsSlot nodes count variants slot)
fits nodes count variants slot placed rows (Err e) apart = tt
fits nodes count variants slot placed rows (Ok found) apart = (
  λ some. record { variant = placed.variant; line = placed.line; gens = placed.gens; short_names = placed.short_names; names = apart.0 some; short_rows = rows.short_rows; count = rows.count; rows = rows.rows },
  λ slot_fits. apart.1 slot_fits.names,
)

-- names that are not apart
pub not_apart : {A : Type 0} (name_of : A → List ℕ) (items own : List A) (found : Option (List (List ℕ))) → items ≡ own → (IsSome found ↔ AreApart (map name_of items)) → found ≡ None → AreApart (map name_of own) → ⊥
not_apart {A} name_of items own found same tested none apart =
    let some : IsSome found = tested.1 (subst (λ (xs : List A). AreApart (map name_of xs)) (sym same) apart) in
    false≢true (subst (λ (o : Option (List (List ℕ))). IsSome o) none some)

-- names that are
pub are_apart : {A : Type 0} (name_of : A → List ℕ) (items own : List A) (found : Option (List (List ℕ))) → items ≡ own → (IsSome found ↔ AreApart (map name_of items)) → IsSome found → AreApart (map name_of own)
are_apart {A} name_of items own found same tested some = subst (λ (xs : List A). AreApart (map name_of xs)) same (tested.0 some)

-- the slots keep the rules, and these are their names
pub record AreChecked (nodes : List NodeName) (count : ℕ) (variants : List ℕ) (slots : List Slot) (names : List (List (List ℕ))) : Type 0 where
  pub fit : All (IsSlot nodes count variants) slots
  pub are : names ≡ map (λ slot. slot.names) slots

-- one slot more
pub checked_more : (nodes : List NodeName) (count : ℕ) (variants : List ℕ) (slots : List Slot) (front : ℕ) (names new : List (List (List ℕ))) (slot : Slot) (found : Option (List (List ℕ))) (own : List (List ℕ)) →
    front < length slots → slot ≡ get_or slots front slot → AreChecked nodes count variants (take front slots) names →
    (IsSome found ↔ IsSlot nodes count variants slot) → IfSome found (λ texts. texts ≡ slot.names) → found ≡ Some own → new ≡ names ++ own ∷ [] → AreChecked nodes count variants (take (front + 1) slots) new
checked_more nodes count variants slots front names new slot found own within is known fits are some grown =
    let next : take (front + 1) slots ≡ take front slots ++ slot ∷ [] = take_more slots front slot within ∙ ap (λ (s : Slot). take front slots ++ s ∷ []) (sym is) in
    let mine : own ≡ slot.names = subst (λ (o : Option (List (List ℕ))). IfSome o (λ texts. texts ≡ slot.names)) some are in
    let fine : IsSlot nodes count variants slot = (subst (λ (o : Option (List (List ℕ))). IsSome o ↔ IsSlot nodes count variants slot) some fits).0 refl in
    record {
      fit = All-same (IsSlot nodes count variants) _ _ next (All-push (IsSlot nodes count variants) (take front slots) slot known.fit fine);
      are = grown ∙ ap (λ (all : List (List (List ℕ))). all ++ own ∷ []) known.are ∙ ap (λ (o : List (List ℕ)). map (λ s. s.names) (take front slots) ++ o ∷ []) mine
          ∙ sym (ap (map (λ s. s.names)) next ∙ map-append (λ s. s.names) (take front slots) (slot ∷ []));
    }

-- slots that keep the rules, over what is the same
pub all_fit : {N : Type 0} (nodes own_nodes : List NodeName) (count own_count : ℕ) (variants own_variants : List ℕ) (slots own_slots : List Slot) (found : Option N) (made : N) →
    nodes ≡ own_nodes → count ≡ own_count → variants ≡ own_variants → slots ≡ own_slots →
    (IsSome found ↔ All (IsSlot nodes count variants) slots) → found ≡ Some made → All (IsSlot own_nodes own_count own_variants) own_slots
all_fit {N} nodes own_nodes count own_count variants own_variants slots own_slots found made same_nodes same_count same_variants same_slots tested some =
    let fit : All (IsSlot nodes count variants) slots = tested.0 (subst (λ (o : Option N). IsSome o) (sym some) refl) in
    let fit_nodes = subst (λ (n : List NodeName). All (IsSlot n count variants) slots) same_nodes fit in
    let fit_count = subst (λ (m : ℕ). All (IsSlot own_nodes m variants) slots) same_count fit_nodes in
    let fit_variants = subst (λ (v : List ℕ). All (IsSlot own_nodes own_count v) slots) same_variants fit_count in
    subst (λ (s : List Slot). All (IsSlot own_nodes own_count own_variants) s) same_slots fit_variants

-- slots of which one breaks a rule
pub none_fit : {N : Type 0} (nodes own_nodes : List NodeName) (count own_count : ℕ) (variants : List ℕ) (slots own_slots : List Slot) (found : Option N) →
    nodes ≡ own_nodes → count ≡ own_count → slots ≡ own_slots →
    (IsSome found ↔ All (IsSlot nodes count variants) slots) → found ≡ None → All (IsSlot own_nodes own_count variants) own_slots → ⊥
none_fit {N} nodes own_nodes count own_count variants slots own_slots found same_nodes same_count same_slots tested none fit =
    let fit_slots = subst (λ (s : List Slot). All (IsSlot own_nodes own_count variants) s) (sym same_slots) fit in
    let fit_count = subst (λ (m : ℕ). All (IsSlot own_nodes m variants) slots) (sym same_count) fit_slots in
    let fit_nodes = subst (λ (n : List NodeName). All (IsSlot n count variants) slots) (sym same_nodes) fit_count in
    false≢true (subst (λ (o : Option N). IsSome o) none (tested.1 fit_nodes))

-- parts whose names or slots break a rule are no table's
pub not_named : {N : Type 0} (parts : TableParts) (variants : List ℕ) (found : Option N) → variants ≡ variants_of parts.instances → (IsSome found ↔ AreNamed variants parts) → found ≡ None → IsTable parts → ⊥
not_named {N} parts variants found are tested none table =
    let named : AreNamed variants parts = subst (λ (of_instances : List ℕ). AreNamed of_instances parts) (sym are) (record { node_names = table.node_names; paths = table.paths; slots = table.slots }) in
    false≢true (subst (λ (o : Option N). IsSome o) none (tested.1 named))

-- the names that were made of some items
pub made_of : {N A B : Type 0} (look : N → List B) (name_of : A → B) (items own : List A) (found : Option N) (made : N) → items ≡ own →
    IfSome found (λ names. look names ≡ map name_of items) → found ≡ Some made → look made ≡ map name_of own
made_of {N} {A} look name_of items own found made same are some =
    subst (λ (o : Option N). IfSome o (λ names. look names ≡ map name_of items)) some are ∙ ap (λ (xs : List A). map name_of xs) same
