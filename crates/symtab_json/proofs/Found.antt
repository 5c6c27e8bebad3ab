-- What is known of values that were found and kept.
use Rattle.std.proofs.Common.{◌≡◌, ℕ, suc, Bool, true, false, not, cond, List, [], ◌∷◌, ◌++◌, length, Option, Some, None, option_and_then, bytes_eq, refl, sym, ap, ◌∙◌, subst, ltb-true, append_assoc}
use Rattle.std.specs.List.{AllByRecursion, list_all}
use Rattle.std.proofs.lemmas.Bool.{and_parts, not-true}
use Rattle.std.proofs.lemmas.Cmp.{nat_list_eq_equiv}
use Rattle.std.proofs.lemmas.Map.Keys.{IsDistinct-push}
use Rattle.std.specs.List.{IsDistinct, list_any}
use Rattle.serde_json.specs.Data.{Data, Items, no_items, item}
use Rattle.serde_json.specs.Events.{items_len}
use Rattle.serde_json.specs.Find.{as_array}
use Rattle.symtab.specs.Apart.{AreApart}
use Rattle.symtab.specs.Shape.{IsShort}
use Rattle.symtab_json.specs.Entries.{kept_if, told_first, told_items, told_list, told_short, is_short}
use Rattle.symtab_json.specs.Places.{are_apart, are_new}

kept_at : {A : Type 0} (test : A → Bool) (b : Bool) (x y : A) → test x ≡ b → cond b (Some x) None ≡ Some y → (Some x ≡ Some y) × (test y ≡ true)
kept_at test true x y is e = (e, let same : x ≡ y = cc in sym (ap test same) ∙ is)
kept_at test false x y is e = absurd (cc)

-- what was kept was found, and passes
pub kept_parts : {A : Type 0} (test : A → Bool) (found : Option A) (y : A) → kept_if test found ≡ Some y → (found ≡ Some y) × (test y ≡ true)
kept_parts test None y e = absurd (cc)
kept_parts test (Some x) y e = kept_at test (test x) x y refl e

-- what was found on the way
pub and_then_parts : {A B : Type 0} (f : A → Option B) (found : Option A) (y : B) → option_and_then f found ≡ Some y → (x : A) × (found ≡ Some x) × (f x ≡ Some y)
and_then_parts f None y e = absurd (cc)
and_then_parts f (Some x) y e = (x, refl, e)

first_parts : {A : Type 0} (first : Option A) (rest : Option (List A)) (xs : List A) → told_first first rest ≡ Some xs →
    (x : A) × (ys : List A) × (first ≡ Some x) × (rest ≡ Some ys) × (xs ≡ x ∷ ys)
first_parts None rest xs e = absurd (cc)
first_parts (Some x) None xs e = absurd (cc)
first_parts (Some x) (Some ys) xs e = (x, ys, refl, refl, let same : x ∷ ys ≡ xs = cc in sym same)

-- what each entry tells has what all that is told has
pub items_told : {A : Type 0} (told : Data → Option A) (P : A → Type 0) → ((d : Data) (x : A) → told d ≡ Some x → P x) →
    (ds : Items) (xs : List A) → told_items told ds ≡ Some xs → AllByRecursion P xs × (length xs ≡ items_len ds)
items_told told P each no_items xs e = let none : [] ≡ xs = cc in subst (λ (ys : List _). AllByRecursion P ys × (length ys ≡ 0)) none (tt, refl)
items_told {A} told P each (item d ds) xs e =
    let split = first_parts (told d) (told_items told ds) xs e in
    let rest = items_told told P each ds split.1 split.3 in
    subst (λ (ys : List A). AllByRecursion P ys × (length ys ≡ suc (items_len ds))) (sym split.4)
    ((each d split.0 split.2, rest.0), ap suc rest.1)

pub list_told : {A : Type 0} (told : Data → Option A) (P : A → Type 0) → ((d : Data) (x : A) → told d ≡ Some x → P x) →
    (d : Data) (xs : List A) → told_list told d ≡ Some xs → AllByRecursion P xs
list_told told P each d xs e = let found = and_then_parts (told_items told) (as_array d) xs e in (items_told told P each found.0 xs found.2).0

pub short_told : {A : Type 0} (told : Data → Option A) (P : A → Type 0) → ((d : Data) (x : A) → told d ≡ Some x → P x) →
    (d : Data) (xs : List A) → told_short told d ≡ Some xs → AllByRecursion P xs × IsShort xs
short_told told P each d xs e =
    let kept = kept_parts is_short (told_list told d) xs e in
    (list_told told P each d xs kept.0, ltb-true (length xs) 4294967296 kept.1)

-- ---- names that differ

pub apart_from : (before texts : List (List ℕ)) → AreApart before → are_new before texts ≡ true → AreApart (before ++ texts)
apart_from before [] apart e = subst AreApart (sym (append_nil before)) apart
  where
    append_nil : (xs : List (List ℕ)) → xs ++ [] ≡ xs
    append_nil [] = refl
    append_nil (x ∷ xs) = ap (λ ys. x ∷ ys) (append_nil xs)
apart_from before (text ∷ texts) apart e =
    let parts = and_parts (not (list_any (bytes_eq text) before)) (are_new (before ++ text ∷ []) texts) e in
    subst AreApart (append_assoc before (text ∷ []) texts)
    (apart_from (before ++ text ∷ []) texts (IsDistinct-push nat_list_eq_equiv before text apart (not-true _ parts.0)) parts.1)

pub names_differ : (texts : List (List ℕ)) → are_apart texts ≡ true → AreApart texts
unfolding IsDistinct
names_differ texts e = apart_from [] texts tt e

-- ---- facts of each entry

pub all_two : {A : Type 0} {P Q R : A → Type 0} → ((x : A) → P x → Q x → R x) → (xs : List A) → AllByRecursion P xs → AllByRecursion Q xs → AllByRecursion R xs
all_two f [] p q = tt
all_two f (x ∷ xs) p q = (f x p.0 q.0, all_two f xs p.1 q.1)

pub all_one : {A : Type 0} {P R : A → Type 0} → ((x : A) → P x → R x) → (xs : List A) → AllByRecursion P xs → AllByRecursion R xs
all_one f [] p = tt
all_one f (x ∷ xs) p = (f x p.0, all_one f xs p.1)

pub all_three : {A : Type 0} (P Q R S : A → Type 0) → ((x : A) → P x → Q x → R x → S x) → (xs : List A) → AllByRecursion P xs → AllByRecursion Q xs → AllByRecursion R xs → AllByRecursion S xs
all_three P Q R S f [] p q r = tt
all_three P Q R S f (x ∷ xs) p q r = (f x p.0 q.0 r.0, all_three P Q R S f xs p.1 q.1 r.1)

-- those that pass a test
pub all_pass : {A : Type 0} (test : A → Bool) (xs : List A) → list_all test xs ≡ true → AllByRecursion (λ x. test x ≡ true) xs
all_pass test [] e = tt
all_pass test (x ∷ xs) e = let parts = and_parts (test x) (list_all test xs) e in (parts.0, all_pass test xs parts.1)
