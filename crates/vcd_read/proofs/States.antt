-- What holds of all that was told so far.
use Rattle.std.proofs.Common.{◌≡◌, ℕ, zero, suc, ◌+◌, ◌<◌, ◌≤◌, Bool, true, false, cond, List, [], ◌∷◌, ◌++◌, Option, Some, None, length, get_or, refl, ap, sym, ◌∙◌, arith, length-append, inl, inr, ◌⊎◌}
use Rattle.std.specs.Prelude.{All, map, slice_get, bytes_eq, ◌==◌, ◌||◌}
use Rattle.std.specs.List.{list_any}
use Rattle.std.specs.List.Sorted.{IsNonDecreasingBy}
use Rattle.std.proofs.lemmas.Bool.{cases_lt}
use Rattle.std.proofs.lemmas.List.{length-map, map-append, get_or_append_left, get_or-append-add}
use Rattle.std.proofs.lemmas.List.Elements.{All-cons, All-nil, All-head, All-tail, All-append, All-weaker}
use Rattle.vcd_read.specs.Head.{Code, Var, known, known_from}
use Rattle.vcd_read.specs.Changes.{Change, Story, are_digits}

-- the sizes of codes, by number
abbrev pub sizes_of : List Code → List ℕ
sizes_of codes = map (λ code. code.1) codes

-- a code's number has this size
abbrev pub HasSize : List Code → ℕ → ℕ → Type 0
HasSize codes number size = slice_get (sizes_of codes) number ≡ Some size

-- some variable has the code of this number
abbrev pub is_named : List Var → ℕ → Bool
is_named vars number = list_any (λ var. var.code == number) vars

-- a change of a code that is declared
pub record IsChange (codes : List Code) (change : Change) : Type 0 where
  pub size : ℕ
  pub has : HasSize codes change.code size
  pub digits : are_digits change.digits ≡ true
  pub most : length change.digits ≤ size

-- changes up to this time
pub record IsStory (codes : List Code) (story : Story) : Type 0 where
  pub each : All (IsChange codes) story.changes
  pub past : All (λ change. change.time ≤ story.time) story.changes
  pub rising : IsNonDecreasingBy (λ change. change.time) story.changes

pub some_there : {X : Type 0} (xs : List X) (i : ℕ) (x : X) → slice_get xs i ≡ Some x → i < length xs
some_there [] i x e = cc
some_there (y ∷ xs) zero x e = omega arith
some_there (y ∷ xs) (suc i) x e = omega (arith, some_there xs i x e)

slice_get-front : {X : Type 0} (xs ys : List X) (i : ℕ) (x : X) → slice_get xs i ≡ Some x → slice_get (xs ++ ys) i ≡ Some x
slice_get-front [] ys i x e = cc
slice_get-front (y ∷ xs) ys zero x e = e
slice_get-front (y ∷ xs) ys (suc i) x e = slice_get-front xs ys i x e

slice_get-end : {X : Type 0} (xs : List X) (x : X) → slice_get (xs ++ x ∷ []) (length xs) ≡ Some x
slice_get-end [] x = refl
slice_get-end (y ∷ xs) x = slice_get-end xs x

-- one more code changes no size
pub more_sizes : (codes : List Code) (code : Code) (number size : ℕ) → HasSize codes number size → HasSize (codes ++ code ∷ []) number size
more_sizes codes code number size has =
    ap (λ sizes. slice_get sizes number) (map-append (λ (code : Code). code.1) codes (code ∷ [])) ∙ slice_get-front (sizes_of codes) (code.1 ∷ []) number size has

pub last_size : (codes : List Code) (code : Code) → HasSize (codes ++ code ∷ []) (length codes) code.1
last_size codes code =
    ap (λ sizes. slice_get sizes (length codes)) (map-append (λ (code : Code). code.1) codes (code ∷ []))
    ∙ ap (slice_get (sizes_of codes ++ code.1 ∷ [])) (sym (length-map codes (λ code. code.1))) ∙ slice_get-end (sizes_of codes) code.1

unpaired : ℕ × ℕ → Option (ℕ × ℕ) → ℕ × ℕ
unpaired other (Some pair) = pair
unpaired other None = other

some_parts : (x y : ℕ × ℕ) → Some x ≡ Some y → (x.0 ≡ y.0) × (x.1 ≡ y.1)
unfolding unpaired
some_parts x y e =
    let same : x ≡ y = ap (unpaired x) e in
    (ap (λ (pair : ℕ × ℕ). pair.0) same, ap (λ (pair : ℕ × ℕ). pair.1) same)

known_step : (n : ℕ) (bytes : List ℕ) (code : Code) (codes : List Code) (number size : ℕ) (b : Bool)
    → ((m : ℕ) → known_from (n + 1) bytes codes ≡ Some (m, size) → (i : ℕ) × (m ≡ n + 1 + i) × HasSize codes i size)
    → cond b (Some (n, code.1)) (known_from (n + 1) bytes codes) ≡ Some (number, size) → (i : ℕ) × (number ≡ n + i) × HasSize (code ∷ codes) i size
known_step n bytes code others number size true more e =
    let parts = some_parts (n, code.1) (number, size) e in
    (0, omega (arith, parts.0), ap Some parts.1)
known_step n bytes code others number size false more e =
    let found = more number e in
    (suc found.0, omega (arith, found.1), found.2)

known_sized : (n : ℕ) (bytes : List ℕ) (codes : List Code) (number size : ℕ) → known_from n bytes codes ≡ Some (number, size) → (i : ℕ) × (number ≡ n + i) × HasSize codes i size
known_sized n bytes [] number size e = cc
known_sized n bytes (code ∷ codes) number size e =
    known_step n bytes code codes number size (bytes_eq bytes code.0) (λ m. known_sized (n + 1) bytes codes m size) e

-- a code that is known has its size
pub known_has : (bytes : List ℕ) (codes : List Code) (number size : ℕ) → known bytes codes ≡ Some (number, size) → HasSize codes number size
known_has bytes codes number size e =
    let found = known_sized 0 bytes codes number size e in
    ap (slice_get (sizes_of codes)) (omega (arith, found.1)) ∙ found.2

rising_by : {X : Type 0} (f : X → ℕ) (xs : List X) (x : X) (i j : ℕ) (d : X) → IsNonDecreasingBy f xs → All (λ y. f y ≤ f x) xs → i ≤ j → j < length (xs ++ x ∷ [])
    → (j < length xs) ⊎ (length xs ≤ j) → f (get_or (xs ++ x ∷ []) i d) ≤ f (get_or (xs ++ x ∷ []) j d)
rising_by f xs x i j d rising past order within (inl front) =
    let first = get_or_append_left xs (x ∷ []) d i (omega arith) in
    let second = get_or_append_left xs (x ∷ []) d j front in
    rw (first, second) (rising i j d order front)
rising_by f xs x i j d rising past order within (inr last) =
    let at : j ≡ length xs + 0 = omega (arith, length-append xs (x ∷ [])) in
    let is : get_or (xs ++ x ∷ []) j d ≡ x = ap (λ k. get_or (xs ++ x ∷ []) k d) at ∙ get_or-append-add xs (x ∷ []) 0 d in
    rw is (elim (cases_lt i (length xs)) [
      | inl before ↦ rw (get_or_append_left xs (x ∷ []) d i before) (past i d before)
      | inr same ↦
          let here : i ≡ length xs + 0 = omega (arith, length-append xs (x ∷ [])) in
          let self : get_or (xs ++ x ∷ []) i d ≡ x = ap (λ k. get_or (xs ++ x ∷ []) k d) here ∙ get_or-append-add xs (x ∷ []) 0 d in
          rw self (omega arith)
    ])

-- one more that is no smaller
pub rising-push : {X : Type 0} (f : X → ℕ) (xs : List X) (x : X) → IsNonDecreasingBy f xs → All (λ y. f y ≤ f x) xs → IsNonDecreasingBy f (xs ++ x ∷ [])
rising-push f xs x rising past i j d order within = rising_by f xs x i j d rising past order within (cases_lt j (length xs))

-- one more change
pub story-push : (codes : List Code) (story : Story) (change : Change) → IsStory codes story → change.time ≡ story.time → IsChange codes change
    → IsStory codes (record story { changes = story.changes ++ change ∷ [] })
story-push codes story change is now one =
    let P : Change → Type 0 = λ change. change.time ≤ story.time in
    let at : change.time ≤ story.time = omega arith in
    let past : All (λ other. other.time ≤ change.time) story.changes = λ k d within. rw now (is.past k d within) in
    record {
      each = All-append (IsChange codes) story.changes (change ∷ []) is.each (All-cons (IsChange codes) change [] one (All-nil (IsChange codes)));
      past = All-append P story.changes (change ∷ []) is.past (All-cons P change [] at (All-nil P));
      rising = rising-push (λ change. change.time) story.changes change is.rising past;
    }

-- a later time
pub story-time : (codes : List Code) (story : Story) (time : ℕ) → IsStory codes story → story.time ≤ time → IsStory codes (record story { time = time })
story-time codes story time is later = record {
  each = is.each;
  past = All-weaker (λ change. change.time ≤ story.time) (λ change. change.time ≤ time) (λ change before. omega arith) story.changes is.past;
  rising = is.rising;
}

-- one more code
pub story-code : (codes : List Code) (code : Code) (story : Story) → IsStory codes story → IsStory (codes ++ code ∷ []) story
story-code codes code story is = record {
  each = All-weaker (IsChange codes) (IsChange (codes ++ code ∷ [])) (λ change one. record { size = one.size; has = more_sizes codes code change.code one.size one.has; digits = one.digits; most = one.most }) story.changes is.each;
  past = is.past;
  rising = is.rising;
}

-- what passes one test passes another
pub any_more : {X : Type 0} (p q : X → Bool) (xs : List X) → All (λ x. p x ≡ true → q x ≡ true) xs → list_any p xs ≡ true → list_any q xs ≡ true
any_more p q [] all e = e
any_more p q (x ∷ xs) all e = any_by p q x xs (p x) (q x) refl (All-head (λ x. p x ≡ true → q x ≡ true) x xs all) (any_more p q xs (All-tail (λ x. p x ≡ true → q x ≡ true) x xs all)) e
  where
    any_by : {X : Type 0} (p q : X → Bool) (x : X) (xs : List X) (b d : Bool) → p x ≡ b → (p x ≡ true → d ≡ true) → (list_any p xs ≡ true → list_any q xs ≡ true)
        → (b || list_any p xs) ≡ true → (d || list_any q xs) ≡ true
    any_by p q x xs true d is one more e = rw (one is) refl
    any_by p q x xs false true is one more e = refl
    any_by p q x xs false false is one more e = more e
