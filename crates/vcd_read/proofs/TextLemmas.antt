-- Texts that are kept by their ends.
use Rattle.std.proofs.Common.{◌≡◌, ℕ, zero, suc, ◌+◌, ◌-◌, ◌<◌, ◌≤◌, List, [], ◌∷◌, ◌++◌, Some, length, take, drop, get_or, refl, ap, ◌∙◌, arith}
use Rattle.std.specs.Prelude.{slice_get, slice_range}
use Rattle.std.proofs.lemmas.List.{take-append-le, drop-append-le, take_all, drop_all, length-drop}
use Rattle.vcd_read.specs.Texts.{texts_of, AreEnds}

-- texts begin within the letters
begin_within : (total start : ℕ) (ends : List ℕ) → AreEnds total start ends → start ≤ total
begin_within total start [] are = omega (arith, are)
begin_within total start (end ∷ ends) are = omega (arith, are.0, begin_within total end ends are.1)

-- one more end
pub more_ends : (total more start : ℕ) (ends : List ℕ) (end : ℕ) → AreEnds total start ends → end ≡ total + more → AreEnds (total + more) start (ends ++ end ∷ [])
more_ends total more start [] end are ends = (omega (arith, are), ends)
more_ends total more start (first ∷ others) end are ends = (are.0, more_ends total more first others end are.1 ends)

-- a part of the letters, once more stand behind them
pub range-append : (letters more : List ℕ) (start end : ℕ) → end ≤ length letters → start ≤ end → slice_range (letters ++ more) start end ≡ slice_range letters start end
range-append letters more start end within order =
    let within' : start ≤ length letters = omega arith in
    let left : end - start ≤ length (drop start letters) = omega (arith, length-drop start letters) in
    ap (take (end - start)) (drop-append-le start letters more within') ∙ take-append-le (end - start) (drop start letters) more left

-- the part behind them
pub range-last : (letters more : List ℕ) (start end : ℕ) → start ≡ length letters → end ≡ length letters + length more → slice_range (letters ++ more) start end ≡ more
range-last letters more start end begins ends =
    let within : start ≤ length letters = omega arith in
    let none : drop start letters ≡ [] = drop_all start letters (omega arith) in
    let most : length more ≤ end - start = omega arith in
    ap (take (end - start)) (drop-append-le start letters more within ∙ ap (λ front. front ++ more) none) ∙ take_all (end - start) more most

-- one more text, behind the others
pub texts-push : (letters more : List ℕ) (start : ℕ) (ends : List ℕ) (end : ℕ) → AreEnds (length letters) start ends → end ≡ length letters + length more
    → texts_of (letters ++ more) start (ends ++ end ∷ []) ≡ texts_of letters start ends ++ more ∷ []
texts-push letters more start [] end are ends = ap (λ found. found ∷ []) (range-last letters more start end are ends)
texts-push letters more start (first ∷ others) end are ends =
    let same = range-append letters more start first (begin_within (length letters) first others are.1) are.0 in
    ap (λ found. found ∷ texts_of (letters ++ more) first (others ++ end ∷ [])) same ∙ ap (λ rest. slice_range letters start first ∷ rest) (texts-push letters more first others end are.1 ends)

-- a text of a place
pub record IsTextAt (letters : List ℕ) (start : ℕ) (ends : List ℕ) (i : ℕ) : Type 0 where
  pub order : get_or (start ∷ ends) i 0 ≤ get_or ends i 0
  pub within : get_or ends i 0 ≤ length letters
  pub text : slice_get (texts_of letters start ends) i ≡ Some (slice_range letters (get_or (start ∷ ends) i 0) (get_or ends i 0))

pub text_at : (letters : List ℕ) (start : ℕ) (ends : List ℕ) (i : ℕ) → AreEnds (length letters) start ends → i < length ends → IsTextAt letters start ends i
text_at letters start [] i are below = absurd (omega arith)
text_at letters start (first ∷ others) zero are below = record { order = are.0; within = begin_within (length letters) first others are.1; text = refl }
text_at letters start (first ∷ others) (suc i) are below =
    let more = text_at letters first others i are.1 (omega arith) in
    record { order = more.order; within = more.within; text = more.text }

pub length-texts_of : (letters : List ℕ) (start : ℕ) (ends : List ℕ) → length (texts_of letters start ends) ≡ length ends
length-texts_of letters start [] = refl
length-texts_of letters start (end ∷ ends) = ap suc (length-texts_of letters end ends)
