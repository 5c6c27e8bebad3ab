-- The steps of the loops over the bytes and the fields of a head.
use Rattle.std.proofs.Common.{◌≡◌, ◌≢◌, ℕ, zero, suc, ◌+◌, ◌-◌, ◌<◌, ◌≤◌, true, false, not, ◌==◌, nat_lt, List, ◌∷◌, length, get_or, drop, map, refl, sym, ap, ap₂, ◌∙◌, arith, Option, Some, None}
use Rattle.std.specs.Prelude.{is_some, option_map}
use Rattle.std.specs.List.{list_all}
use Rattle.std.proofs.Math.Seq.{drop-cons}
use Rattle.std.proofs.Math.ListN.{drop_of_length-le}
use Rattle.std.proofs.lemmas.Bool.Decides.{nat_tests}
use Rattle.text_core.specs.Digits.{is_digit}
use Rattle.httparse.specs.declared.spans.HeaderSpan.{HeaderSpan}
use Rattle.httparse.specs.Spans.{header_bytes}
use Rattle.dap_link.specs.Frames.{are_digits}
use Rattle.dap_link.specs.Heads.{begins_beyond, is_length, told_once}

-- ---- bytes

split_at : (text : List ℕ) (i : ℕ) → i < length text → drop i text ≡ get_or text i 0 ∷ drop (i + 1) text
split_at text i lt =
    let next : suc i ≡ i + 1 = omega arith in
    drop-cons text i 0 lt ∙ ap (λ k. get_or text i 0 ∷ drop k text) next

-- behind the last of the lines
pub byte_tells : (text : List ℕ) (n i : ℕ) → i < length text → n ≡ 0 → begins_beyond n (drop i text) ≡ not (get_or text i 0 == 13)
unfolding begins_beyond
byte_tells text n i lt e = rw e (ap (begins_beyond 0) (split_at text i lt))

-- a line feed
pub feed_next : (text : List ℕ) (n i : ℕ) → i < length text → n ≢ 0 → get_or text i 0 ≡ 10 → begins_beyond (n - 1) (drop (i + 1) text) ≡ begins_beyond n (drop i text)
unfolding begins_beyond
feed_next text zero i lt e ten = absurd (e refl)
feed_next text (suc n) i lt e ten =
    let less : suc n - 1 ≡ n = omega arith in
    ap (λ k. begins_beyond k (drop (i + 1) text)) less ∙ sym (ap (begins_beyond (suc n)) (split_at text i lt) ∙ rw ten refl)

-- another byte
pub byte_next : (text : List ℕ) (n i : ℕ) → i < length text → n ≢ 0 → get_or text i 0 ≢ 10 → begins_beyond n (drop (i + 1) text) ≡ begins_beyond n (drop i text)
unfolding begins_beyond
byte_next text zero i lt e other = absurd (e refl)
byte_next text (suc n) i lt e other =
    let none : (get_or text i 0 == 10) ≡ false = grind (arith, nat_tests, other) in
    sym (ap (begins_beyond (suc n)) (split_at text i lt) ∙ rw none refl)

pub bytes_end : (text : List ℕ) (n i : ℕ) → length text ≤ i → begins_beyond n (drop i text) ≡ false
unfolding begins_beyond
bytes_end text n i past = ap (begins_beyond n) (drop_of_length-le text past)

pub some_digits : (value : List ℕ) → 0 < length value → list_all is_digit value ≡ are_digits value
some_digits value some =
    let there : nat_lt 0 (length value) ≡ true = grind (arith, nat_tests, some) in
    rw there refl

-- ---- fields

fields_at : (text : List ℕ) (fields : List HeaderSpan) (i : ℕ) (d : HeaderSpan) → i < length fields → map (header_bytes text) (drop i fields) ≡ header_bytes text (get_or fields i d) ∷ map (header_bytes text) (drop (i + 1) fields)
fields_at text fields i d lt =
    let next : suc i ≡ i + 1 = omega arith in
    ap (map (header_bytes text)) (drop-cons fields i d lt ∙ ap (λ k. get_or fields i d ∷ drop k fields) next)

-- these are the name and the value of the next field
record IsNext (text : List ℕ) (fields : List HeaderSpan) (i : ℕ) (name value : List ℕ) : Type 0 where
  d : HeaderSpan
  within : i < length fields
  name_is : name ≡ (header_bytes text (get_or fields i d)).0
  value_is : value ≡ (header_bytes text (get_or fields i d)).1

next_at : (text : List ℕ) (fields : List HeaderSpan) (i : ℕ) (name value : List ℕ) → IsNext text fields i name value → map (header_bytes text) (drop i fields) ≡ (name, value) ∷ map (header_bytes text) (drop (i + 1) fields)
next_at text fields i name value n =
    fields_at text fields i n.d n.within ∙ ap₂ (λ a b. (a, b) ∷ map (header_bytes text) (drop (i + 1) fields)) (sym n.name_is) (sym n.value_is)

-- one that tells no length
pub passed : (text : List ℕ) (fields : List HeaderSpan) (i : ℕ) (told : Option (List ℕ)) (d : HeaderSpan) (name value : List ℕ) → i < length fields → name ≡ (header_bytes text (get_or fields i d)).0 → value ≡ (header_bytes text (get_or fields i d)).1
    → is_length (name, value) ≡ false → told_once told (map (header_bytes text) (drop (i + 1) fields)) ≡ told_once told (map (header_bytes text) (drop i fields))
unfolding told_once
passed text fields i told d name value lt n v e =
    sym (ap (told_once told) (next_at text fields i name value (record { d = d; within = lt; name_is = n; value_is = v })) ∙ rw e refl)

none_of : {A : Type 0} (v : A → List ℕ) (told : Option A) → is_some told ≡ false → option_map v told ≡ None
none_of v None e = refl
none_of v (Some a) e = absurd (let apart : true ≡ false = e in cc)

-- the first that tells one
pub first_told : {A : Type 0} (v : A → List ℕ) (text : List ℕ) (fields : List HeaderSpan) (i : ℕ) (told : Option A) (d : HeaderSpan) (name value : List ℕ) → i < length fields → name ≡ (header_bytes text (get_or fields i d)).0
    → value ≡ (header_bytes text (get_or fields i d)).1 → is_length (name, value) ≡ true → is_some told ≡ false
    → told_once (Some value) (map (header_bytes text) (drop (i + 1) fields)) ≡ told_once (option_map v told) (map (header_bytes text) (drop i fields))
unfolding told_once
first_told v text fields i told d name value lt n is e none =
    let next = next_at text fields i name value (record { d = d; within = lt; name_is = n; value_is = is }) in
    sym (ap₂ told_once (none_of v told none) next ∙ rw e refl)

some_of : {A : Type 0} (v : A → List ℕ) (told : Option A) → is_some told ≡ true → is_some (option_map v told) ≡ true
some_of v None e = e
some_of v (Some a) e = refl

-- another one
pub twice_told : {A : Type 0} (v : A → List ℕ) (text : List ℕ) (fields : List HeaderSpan) (i : ℕ) (told : Option A) (d : HeaderSpan) (name value : List ℕ) → i < length fields → name ≡ (header_bytes text (get_or fields i d)).0
    → value ≡ (header_bytes text (get_or fields i d)).1 → is_length (name, value) ≡ true → is_some told ≡ true → None ≡ told_once (option_map v told) (map (header_bytes text) (drop i fields))
unfolding told_once
twice_told v text fields i told d name value lt n is e some =
    let next = next_at text fields i name value (record { d = d; within = lt; name_is = n; value_is = is }) in
    sym (ap (told_once (option_map v told)) next ∙ rw e (rw (some_of v told some) refl))

pub fields_end : (text : List ℕ) (fields : List HeaderSpan) (i : ℕ) (told : Option (List ℕ)) → length fields ≤ i → told_once told (map (header_bytes text) (drop i fields)) ≡ told
unfolding told_once
fields_end text fields i told past = ap (λ (l : List HeaderSpan). told_once told (map (header_bytes text) l)) (drop_of_length-le fields past)
