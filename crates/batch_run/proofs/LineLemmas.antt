-- Lines of a text, one after another.
use Rattle.std.proofs.Common.{◌≡◌, ℕ, suc, ◌+◌, ◌<◌, ◌≤◌, Bool, true, false, cond, List, [], ◌∷◌, length, take, drop, get_or, refl, sym, ◌∙◌, ap, arith, drop-cons, inl, inr}
use Rattle.std.specs.Prelude.{filter, not, All}
use Rattle.std.specs.List.{slice_split, prefix_len, position_or_len}
use Rattle.std.proofs.Math.Numerals.{add-one, one-add}
use Rattle.std.proofs.lemmas.Bool.{cases_lt}
use Rattle.std.proofs.lemmas.Grind.{common_steps}
use Rattle.std.proofs.lemmas.List.{take_all, drop_all, length-take-le, get_or-drop}
use Rattle.std.proofs.lemmas.List.Splits.{slice_split_first, slice_split_none, slice_split-cons_yes}
use Rattle.std.proofs.lemmas.List.Sums.{fails_before_first, passes_at_first, prefix_len_stops}
use Rattle.batch_run.specs.Texts.{is_feed, has_byte, lines_of}

-- a line feed in front of a text is no line
lines-feed : (byte : ℕ) (text : List ℕ) → is_feed byte ≡ true → lines_of (byte ∷ text) ≡ lines_of text
lines-feed byte text e = ap (filter has_byte) (slice_split-cons_yes is_feed byte text e)

by_first : (byte : ℕ) (text : List ℕ) (b : Bool) → is_feed byte ≡ b → lines_of text ≡ lines_of (drop (prefix_len is_feed text) text) → lines_of (byte ∷ text) ≡ lines_of (drop (cond b (1 + prefix_len is_feed text) 0) (byte ∷ text))
by_first byte text true e h = lines-feed byte text e ∙ h ∙ ap (λ n. lines_of (drop n (byte ∷ text))) (sym (one-add (prefix_len is_feed text)))
by_first byte text false e h = refl

-- the line feed that a text begins with holds no line
pub lines_after_feeds : (text : List ℕ) → lines_of text ≡ lines_of (drop (prefix_len is_feed text) text)
lines_after_feeds [] = refl
lines_after_feeds (byte ∷ text) = by_first byte text (is_feed byte) refl (lines_after_feeds text)

kept : (line : List ℕ) (more : List (List ℕ)) → 0 < length line → filter has_byte (line ∷ more) ≡ line ∷ filter has_byte more
kept [] more some = absurd (omega arith)
kept (byte ∷ line) more some = refl

by_test : (b : Bool) (n : ℕ) → b ≡ false → 0 < cond (not b) (1 + n) 0
by_test true n e = cc
by_test false n e = omega arith

first_some : (text : List ℕ) → 0 < length text → is_feed (get_or text 0 0) ≡ false → 0 < position_or_len is_feed text
first_some [] some e = absurd (omega arith)
first_some (byte ∷ text) some e = by_test (is_feed byte) (position_or_len is_feed text) e

before_feed : (text : List ℕ) → 0 < position_or_len is_feed text → position_or_len is_feed text < length text → lines_of text ≡ take (position_or_len is_feed text) text ∷ lines_of (drop (position_or_len is_feed text) text)
before_feed text some within =
    let n = position_or_len is_feed text in
    let whole : lines_of text ≡ filter has_byte (take n text ∷ slice_split is_feed (drop (n + 1) text)) =
    ap (filter has_byte) (slice_split_first is_feed text 0 within) in
    let long : length (take n text) ≡ n = length-take-le n text (omega arith) in
    let front : filter has_byte (take n text ∷ slice_split is_feed (drop (n + 1) text)) ≡ take n text ∷ lines_of (drop (n + 1) text) =
    kept (take n text) (slice_split is_feed (drop (n + 1) text)) (omega arith) in
    let rest : lines_of (drop n text) ≡ lines_of (drop (n + 1) text) =
    ap lines_of (drop-cons text n 0 within) ∙ lines-feed (get_or text n 0) (drop (suc n) text) (passes_at_first is_feed text 0 within) ∙ ap (λ m. lines_of (drop m text)) (sym (add-one n)) in
    whole ∙ front ∙ ap (λ more. take n text ∷ more) (sym rest)

no_feed : (text : List ℕ) → 0 < length text → length text ≤ position_or_len is_feed text → lines_of text ≡ take (position_or_len is_feed text) text ∷ lines_of (drop (position_or_len is_feed text) text)
no_feed text some all =
    let n = position_or_len is_feed text in
    let none : All (λ byte. is_feed byte ≡ false) text = λ k d within. fails_before_first is_feed text k d (omega arith) in
    let whole : lines_of text ≡ filter has_byte (text ∷ []) = ap (filter has_byte) (slice_split_none is_feed text none) in
    let taken : take n text ≡ text = take_all n text all in
    let left : drop n text ≡ [] = drop_all n text all in
    whole ∙ kept text [] some ∙ rw (taken, left) refl

-- a text that begins with no line feed begins with a line
pub lines_cut : (text : List ℕ) → 0 < length text → is_feed (get_or text 0 0) ≡ false → lines_of text ≡ take (position_or_len is_feed text) text ∷ lines_of (drop (position_or_len is_feed text) text)
lines_cut text some e =
    elim (cases_lt (position_or_len is_feed text) (length text)) [ inl within ↦ before_feed text (first_some text some e) within | inr all ↦ no_feed text some all ]

-- what is left behind the line feed begins with no line feed
pub feed_stops : (text : List ℕ) → 0 < length (drop (prefix_len is_feed text) text) → is_feed (get_or (drop (prefix_len is_feed text) text) 0 0) ≡ false
feed_stops text some =
    let n = prefix_len is_feed text in
    let within : n < length text = grind (arith, common_steps) in
    let first : get_or (drop n text) 0 0 ≡ get_or text n 0 = get_or-drop n text 0 0 ∙ ap (λ i. get_or text i 0) (omega arith) in
    rw first (prefix_len_stops is_feed text 0 within)

-- the first line, and what follows it
pub first_line : (text rest : List ℕ) → rest ≡ drop (prefix_len is_feed text) text → 0 < length rest → lines_of text ≡ take (position_or_len is_feed rest) rest ∷ lines_of (drop (position_or_len is_feed rest) rest)
first_line text rest is some =
    let some' : 0 < length (drop (prefix_len is_feed text) text) = rw is at some in
    let stops : is_feed (get_or rest 0 0) ≡ false = rw is (feed_stops text some') in
    lines_after_feeds text ∙ ap lines_of (sym is) ∙ lines_cut rest some stops

-- a text that is a line feed has no line
pub no_line : (text rest : List ℕ) → rest ≡ drop (prefix_len is_feed text) text → length rest ≡ 0 → lines_of text ≡ []
no_line text [] is none = lines_after_feeds text ∙ ap lines_of (sym is)
no_line text (byte ∷ rest) is none = absurd (omega arith)

-- a line that begins behind line feeds holds a byte
pub line_some : (text rest : List ℕ) → rest ≡ drop (prefix_len is_feed text) text → 0 < length rest → 0 < position_or_len is_feed rest
line_some text rest is some =
    let some' : 0 < length (drop (prefix_len is_feed text) text) = rw is at some in
    let stops : is_feed (get_or rest 0 0) ≡ false = rw is (feed_stops text some') in
    first_some rest some stops
