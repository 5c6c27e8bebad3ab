-- Loops over lists whose elements have a meaning.
use Rattle.std.proofs.Common.{◌∷◌, [], Some, None, slice_get, ◌≡◌, ℕ, ◌+◌, ◌<◌, ◌≤◌, List, ◌++◌, length, map, take, drop, set, get_or, refl, ap, ap₂, ◌∙◌, sym, Option, option_map, true, false, append-nil}
use Rattle.std.specs.Prelude.{filter, is_some}
use Rattle.std.specs.List.{enumerate_from, flat_map}
use Rattle.std.proofs.lemmas.List.{length-map, map-set, take_more, take_all, map-append}
use Rattle.std.proofs.lemmas.List.Edits.{map_over_more}
use Rattle.std.proofs.lemmas.Option.{slice_get_within, get_or_from_slice_get, same_Some}
use Rattle.std.proofs.Math.ListN.{get_or-map}
use Rattle.list_core.proofs.Growing.{plain_more}
use Rattle.list_core.proofs.Listing.{same_get, some_at}
use Rattle.listen.specs.Pairs.{Heard}
use Rattle.machine_core.specs.declared.turn.Notice.{Notice}
use Rattle.machine_core.specs.declared.turn.Notice.TheVariants as notice
use Rattle.machine_core.specs.Matching.{Breakpoint}
use Rattle.machine_core.specs.Machine.{remaining}
use Rattle.machine_core.specs.Journal.{Line, Noticed, closing_line, closing_lines}

-- one more element was changed, and its new meaning is G of its old one
pub told_more : {B M : Type 0} (F : B → M) (G : M → M) (before now : List B) (i : ℕ) (x y : B) →
    length now ≡ length before → i < length now → x ≡ get_or now i x →
    map F now ≡ map G (take i (map F before)) ++ drop i (map F before) → F y ≡ G (F (get_or now i x)) →
    map F (set now i y) ≡ map G (take (i + 1) (map F before)) ++ drop (i + 1) (map F before)
told_more F G before now i x y el h ex inv ey =
    let within : i < length (map F before) = rw (length-map before F, ← el) h in
    map-set F now i y ∙ ap (set (map F now) i) (ey ∙ ap (λ z. G (F z)) (sym ex))
    ∙ map_over_more G (map F before) (map F now) i (F x) within inv (ap F ex ∙ sym (get_or-map F now i x))

-- one more element of a list was copied
pub copied_more : {A : Type 0} (xs rows grown : List A) (i : ℕ) (x : A) → slice_get xs i ≡ Some x → rows ≡ take i xs → grown ≡ rows ++ x ∷ [] → grown ≡ take (i + 1) xs
copied_more xs rows grown i x here inv e =
    let within : i < length xs = slice_get_within xs i x here in
    e ∙ ap (λ r. r ++ x ∷ []) inv ∙ ap (λ y. take i xs ++ y ∷ []) (sym (get_or_from_slice_get xs i x x here)) ∙ sym (take_more xs i x within)

-- ---- the numbers of those that remain

abbrev pub left_number : ℕ × Option Heard → List ℕ
left_number (k, None) = []
left_number (k, Some heard) = k ∷ []

abbrev pub left_numbers : List (Option Heard) → List ℕ
left_numbers heard = flat_map left_number (enumerate_from 0 heard)

numbers_from : (n : ℕ) (heard : List (Option Heard)) → map (λ h. h.0) (filter (λ h. is_some h.1) (enumerate_from n heard)) ≡ flat_map left_number (enumerate_from n heard)
numbers_from n [] = refl
numbers_from n (None ∷ heard) = numbers_from (n + 1) heard
numbers_from n (Some h ∷ heard) = ap (λ l. n ∷ l) (numbers_from (n + 1) heard)

pub remaining_is : (heard : List (Option Heard)) (k : ℕ) (numbers : List ℕ) → length heard ≤ k → numbers ≡ left_numbers (take k heard) → numbers ≡ remaining heard
remaining_is heard k numbers past e = e ∙ ap left_numbers (take_all k heard past) ∙ sym (numbers_from 0 heard)

module _ (heard : List (Option Heard)) (k : ℕ) (below : k < length heard) where
  number_more : (numbers : List ℕ) (o : Option Heard) → get_or heard k None ≡ o → numbers ≡ left_numbers (take k heard) → numbers ++ left_number (k, o) ≡ left_numbers (take (k + 1) heard)
  number_more numbers o is inv = plain_more left_number [] numbers (numbers ++ left_number (k, o)) heard k o below (sym is ∙ same_get heard k None o below) inv refl

  pub remains_more : (numbers : List ℕ) → is_some (get_or heard k None) ≡ true → numbers ≡ left_numbers (take k heard) → numbers ++ k ∷ [] ≡ left_numbers (take (k + 1) heard)
  remains_more numbers some inv = by_meaning (get_or heard k None) refl some
    where
      by_meaning : (o : Option Heard) → get_or heard k None ≡ o → is_some o ≡ true → numbers ++ k ∷ [] ≡ left_numbers (take (k + 1) heard)
      by_meaning None is e = cc
      by_meaning (Some h) is e = number_more numbers (Some h) is inv

  pub remains_same : (numbers : List ℕ) → is_some (get_or heard k None) ≡ false → numbers ≡ left_numbers (take k heard) → numbers ≡ left_numbers (take (k + 1) heard)
  remains_same numbers none inv = by_meaning (get_or heard k None) refl none
    where
      by_meaning : (o : Option Heard) → get_or heard k None ≡ o → is_some o ≡ false → numbers ≡ left_numbers (take (k + 1) heard)
      by_meaning None is e = sym (append-nil numbers) ∙ number_more numbers None is inv
      by_meaning (Some h) is e = cc

  -- ---- the closing lines

  line_more : (lines : List Line) (o : Option Heard) → get_or heard k None ≡ o → lines ≡ closing_lines (take k heard) → lines ++ closing_line (k, o) ≡ closing_lines (take (k + 1) heard)
  line_more lines o is inv = plain_more closing_line [] lines (lines ++ closing_line (k, o)) heard k o below (sym is ∙ same_get heard k None o below) inv refl

  pub closes_more : (lines : List Notice) (line : Notice) → option_map (λ h. notice.Rows k h.pairs) (get_or heard k None) ≡ Some line → map (λ n. Noticed n) lines ≡ closing_lines (take k heard)
      → map (λ n. Noticed n) (lines ++ line ∷ []) ≡ closing_lines (take (k + 1) heard)
  closes_more lines line told inv = by_meaning (get_or heard k None) refl told
    where
      by_meaning : (o : Option Heard) → get_or heard k None ≡ o → option_map (λ h. notice.Rows k h.pairs) o ≡ Some line → map (λ n. Noticed n) (lines ++ line ∷ []) ≡ closing_lines (take (k + 1) heard)
      by_meaning None is e = cc
      by_meaning (Some h) is e =
          map-append (λ n. Noticed n) lines (line ∷ [])
          ∙ ap (λ n. map (λ m. Noticed m) lines ++ Noticed n ∷ []) (sym (same_Some (notice.Rows k h.pairs) line e))
          ∙ line_more (map (λ n. Noticed n) lines) (Some h) is inv

  pub closes_same : (lines : List Notice) → is_some (get_or heard k None) ≡ false → map (λ n. Noticed n) lines ≡ closing_lines (take k heard) → map (λ n. Noticed n) lines ≡ closing_lines (take (k + 1) heard)
  closes_same lines none inv = by_meaning (get_or heard k None) refl none
    where
      by_meaning : (o : Option Heard) → get_or heard k None ≡ o → is_some o ≡ false → map (λ n. Noticed n) lines ≡ closing_lines (take (k + 1) heard)
      by_meaning None is e = sym (append-nil (map (λ n. Noticed n) lines)) ∙ line_more (map (λ n. Noticed n) lines) None is inv
      by_meaning (Some h) is e = cc

-- ---- the numbers of breakpoints

number_by : (n : ℕ) (o : Option Breakpoint) → Some n ≡ option_map (λ b. b.number) o → (b : Breakpoint) × ((o ≡ Some b) × (b.number ≡ n))
number_by n None e = cc
number_by n (Some b) e = (b, (refl, same_Some b.number n (sym e)))

pub armed_more : (breakpoints : List Breakpoint) (i n : ℕ) (numbers : List ℕ) → Some n ≡ option_map (λ b. b.number) (slice_get breakpoints i) → numbers ≡ map (λ b. b.number) (take i breakpoints)
    → numbers ++ n ∷ [] ≡ map (λ b. b.number) (take (i + 1) breakpoints)
armed_more breakpoints i n numbers told inv =
    let found = number_by n (slice_get breakpoints i) told in
    let within : i < length breakpoints = slice_get_within breakpoints i found.0 found.1.0 in
    ap₂ (λ l m. l ++ m ∷ []) inv (sym found.1.1)
    ∙ sym (ap (map (λ b. b.number)) (take_more breakpoints i found.0 within ∙ ap (λ b. take i breakpoints ++ b ∷ []) (get_or_from_slice_get breakpoints i found.0 found.0 found.1.0)) ∙ map-append (λ b. b.number) (take i breakpoints) (found.0 ∷ []))

pub all_armed : (breakpoints : List Breakpoint) (i : ℕ) (o : Option ℕ) → i < length breakpoints → o ≡ option_map (λ b. b.number) (slice_get breakpoints i) → ((n : ℕ) → o ≡ Some n → ⊥) → ⊥
all_armed breakpoints i o within told none =
    let there = some_at breakpoints i within in
    none there.0.number (told ∙ ap (option_map (λ b. b.number)) there.1)
