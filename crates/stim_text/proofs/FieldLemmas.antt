-- Fields of a line, from left to right.
use Rattle.std.proofs.Common.{◌≡◌, ℕ, suc, ◌+◌, ◌<◌, ◌≤◌, Bool, true, false, cond, List, [], ◌∷◌, length, take, drop, get_or, refl, sym, ◌∙◌, ap, arith, drop-cons, inl, inr}
use Rattle.std.specs.Prelude.{filter, not, All}
use Rattle.std.specs.List.{slice_split, prefix_len, position_or_len}
use Rattle.std.proofs.Math.Numerals.{add-one, one-add}
use Rattle.std.proofs.lemmas.Bool.{cases_lt}
use Rattle.std.proofs.lemmas.Grind.{common_steps}
use Rattle.std.proofs.lemmas.List.{take_all, drop_all, length-take-le, get_or-drop}
use Rattle.std.proofs.lemmas.List.Splits.{slice_split_first, slice_split_none, slice_split-cons_yes}
use Rattle.std.proofs.lemmas.List.Sums.{fails_before_first, passes_at_first, prefix_len_stops}
use Rattle.stim_text.specs.Fields.{is_gap, has_bytes, fields}

-- a gap in front of a line is no field
fields-gap : (byte : ℕ) (line : List ℕ) → is_gap byte ≡ true → fields (byte ∷ line) ≡ fields line
fields-gap byte line e = ap (filter has_bytes) (slice_split-cons_yes is_gap byte line e)

by_first : (byte : ℕ) (line : List ℕ) (b : Bool) → is_gap byte ≡ b → fields line ≡ fields (drop (prefix_len is_gap line) line) → fields (byte ∷ line) ≡ fields (drop (cond b (1 + prefix_len is_gap line) 0) (byte ∷ line))
by_first byte line true e h = fields-gap byte line e ∙ h ∙ ap (λ n. fields (drop n (byte ∷ line))) (sym (one-add (prefix_len is_gap line)))
by_first byte line false e h = refl

-- the gap that a line begins with holds no field
pub fields_after_gap : (line : List ℕ) → fields line ≡ fields (drop (prefix_len is_gap line) line)
fields_after_gap [] = refl
fields_after_gap (byte ∷ line) = by_first byte line (is_gap byte) refl (fields_after_gap line)

kept : (field : List ℕ) (more : List (List ℕ)) → 0 < length field → filter has_bytes (field ∷ more) ≡ field ∷ filter has_bytes more
kept [] more some = absurd (omega arith)
kept (byte ∷ field) more some = refl

by_test : (b : Bool) (n : ℕ) → b ≡ false → 0 < cond (not b) (1 + n) 0
by_test true n e = cc
by_test false n e = omega arith

first_some : (line : List ℕ) → 0 < length line → is_gap (get_or line 0 0) ≡ false → 0 < position_or_len is_gap line
first_some [] some e = absurd (omega arith)
first_some (byte ∷ line) some e = by_test (is_gap byte) (position_or_len is_gap line) e

before_gap : (line : List ℕ) → 0 < position_or_len is_gap line → position_or_len is_gap line < length line → fields line ≡ take (position_or_len is_gap line) line ∷ fields (drop (position_or_len is_gap line) line)
before_gap line some within =
    let n = position_or_len is_gap line in
    let whole : fields line ≡ filter has_bytes (take n line ∷ slice_split is_gap (drop (n + 1) line)) =
    ap (filter has_bytes) (slice_split_first is_gap line 0 within) in
    let long : length (take n line) ≡ n = length-take-le n line (omega arith) in
    let front : filter has_bytes (take n line ∷ slice_split is_gap (drop (n + 1) line)) ≡ take n line ∷ fields (drop (n + 1) line) =
    kept (take n line) (slice_split is_gap (drop (n + 1) line)) (omega arith) in
    let rest : fields (drop n line) ≡ fields (drop (n + 1) line) =
    ap fields (drop-cons line n 0 within) ∙ fields-gap (get_or line n 0) (drop (suc n) line) (passes_at_first is_gap line 0 within) ∙ ap (λ m. fields (drop m line)) (sym (add-one n)) in
    whole ∙ front ∙ ap (λ more. take n line ∷ more) (sym rest)

no_gap : (line : List ℕ) → 0 < length line → length line ≤ position_or_len is_gap line → fields line ≡ take (position_or_len is_gap line) line ∷ fields (drop (position_or_len is_gap line) line)
no_gap line some all =
    let n = position_or_len is_gap line in
    let none : All (λ byte. is_gap byte ≡ false) line = λ k d within. fails_before_first is_gap line k d (omega arith) in
    let whole : fields line ≡ filter has_bytes (line ∷ []) = ap (filter has_bytes) (slice_split_none is_gap line none) in
    let taken : take n line ≡ line = take_all n line all in
    let left : drop n line ≡ [] = drop_all n line all in
    whole ∙ kept line [] some ∙ rw (taken, left) refl

-- a line that begins with no gap begins with a field
pub fields_cut : (line : List ℕ) → 0 < length line → is_gap (get_or line 0 0) ≡ false → fields line ≡ take (position_or_len is_gap line) line ∷ fields (drop (position_or_len is_gap line) line)
fields_cut line some e =
    elim (cases_lt (position_or_len is_gap line) (length line)) [ inl within ↦ before_gap line (first_some line some e) within | inr all ↦ no_gap line some all ]

-- what is left behind the gap begins with no gap
pub gap_stops : (line : List ℕ) → 0 < length (drop (prefix_len is_gap line) line) → is_gap (get_or (drop (prefix_len is_gap line) line) 0 0) ≡ false
gap_stops line some =
    let n = prefix_len is_gap line in
    let within : n < length line = grind (arith, common_steps) in
    let first : get_or (drop n line) 0 0 ≡ get_or line n 0 = get_or-drop n line 0 0 ∙ ap (λ i. get_or line i 0) (omega arith) in
    rw first (prefix_len_stops is_gap line 0 within)

-- the first field, and what follows it
pub first_field : (line text : List ℕ) → text ≡ drop (prefix_len is_gap line) line → 0 < length text → fields line ≡ take (position_or_len is_gap text) text ∷ fields (drop (position_or_len is_gap text) text)
first_field line text is some =
    let some' : 0 < length (drop (prefix_len is_gap line) line) = rw is at some in
    let stops : is_gap (get_or text 0 0) ≡ false = rw is (gap_stops line some') in
    fields_after_gap line ∙ ap fields (sym is) ∙ fields_cut text some stops

-- a line that is a gap has no field
pub no_field : (line text : List ℕ) → text ≡ drop (prefix_len is_gap line) line → length text ≡ 0 → fields line ≡ []
no_field line [] is none = fields_after_gap line ∙ ap fields (sym is)
no_field line (byte ∷ text) is none = absurd (omega arith)
