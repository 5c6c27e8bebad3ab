-- Lines of a text, from the first on.
use Rattle.std.proofs.Common.{◌≡◌, ℕ, Bool, true, false, ◌+◌, ◌-◌, ◌<◌, ◌≤◌, List, [], ◌∷◌, length, take, drop, refl, sym, ◌∙◌, ap, arith, length-drop}
use Rattle.std.specs.Prelude.{◌==◌, All, if◌then◌else◌}
use Rattle.std.proofs.lemmas.List.{drop_all, take_all}
use Rattle.std.proofs.lemmas.Bool.Decides.{nat_tests}
use Rattle.std.specs.List.{slice_split, position_or_len}
use Rattle.std.specs.Str.Lines.{lines, lines_of_parts, strip_carriage_return}
use Rattle.std.proofs.lemmas.List.Splits.{slice_split_first, slice_split_none, length-slice_split}
use Rattle.std.proofs.lemmas.List.Sums.{fails_before_first}

by_test : (text : List ℕ) (b : Bool) → (length text == 0) ≡ b → 0 < length text → (if b then [] else text ∷ []) ≡ text ∷ []
by_test text true e some = absurd (grind (arith, nat_tests))
by_test text false e some = refl

one_part : (text : List ℕ) → 0 < length text → lines_of_parts (text ∷ []) ≡ text ∷ []
one_part text some = by_test text (length text == 0) refl some

-- a text with no line end is one line
pub last_line : (text : List ℕ) → 0 < length text → length text ≤ position_or_len (λ byte. byte == 10) text → lines text ≡ text ∷ lines (drop (length text) text)
last_line text some all =
    let none : All (λ byte. (byte == 10) ≡ false) text = λ k d within. fails_before_first (λ byte. byte == 10) text k d (omega arith) in
    ap lines_of_parts (slice_split_none (λ byte. byte == 10) text none) ∙ one_part text some ∙ ap (λ rest. text ∷ lines rest) (sym (drop_all (length text) text (omega arith)))

more_parts : (part : List ℕ) (parts : List (List ℕ)) → 0 < length parts → lines_of_parts (part ∷ parts) ≡ strip_carriage_return part ∷ lines_of_parts parts
more_parts part [] some = absurd (omega arith)
more_parts part (next ∷ parts) some = refl

-- the first line ends at the first line end
pub first_line : (text : List ℕ) (n : ℕ) → n ≡ position_or_len (λ byte. byte == 10) text → n < length text → lines text ≡ strip_carriage_return (take n text) ∷ lines (drop (n + 1) text)
first_line text n is within =
    let within' : position_or_len (λ byte. byte == 10) text < length text = omega arith in
    let some : 0 < length (slice_split (λ byte. byte == 10) (drop (n + 1) text)) = omega (arith, length-slice_split (λ byte. byte == 10) (drop (n + 1) text)) in
    let cut : slice_split (λ byte. byte == 10) text ≡ take n text ∷ slice_split (λ byte. byte == 10) (drop (n + 1) text) =
    rw is (slice_split_first (λ byte. byte == 10) text 0 within') in
    ap lines_of_parts cut ∙ more_parts (take n text) (slice_split (λ byte. byte == 10) (drop (n + 1) text)) some

-- all of what is left behind a place
pub tail_is : (text : List ℕ) (n : ℕ) → take (length text - n) (drop n text) ≡ drop n text
tail_is text n = take_all (length text - n) (drop n text) (omega (arith, length-drop n text))
