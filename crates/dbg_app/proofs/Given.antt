-- Arguments among the words, one after another.
use Rattle.std.proofs.Common.{◌≡◌, ℕ, zero, suc, ◌+◌, ◌≤◌, ℤ, pos, ◌-ℤ◌, to_z, of_z, negsuc, ◌-◌, take, w64, SFits, int_le, arith, subst, true, false, ◌&&◌, List, [], ◌∷◌, ◌++◌, length, drop, Option, Some, None, refl, sym, ap, ◌∙◌, append_assoc, append-nil}
use Rattle.std.specs.Prelude.{option_map, is_some}
use Rattle.std.specs.List.{list_all, filter_map, cons_option, slice_get}
use Rattle.std.proofs.lemmas.Int.{to_z-of_z, ints}
use Rattle.std.proofs.lemmas.Bool.Decides.{nat_tests}
use Rattle.std.proofs.lemmas.List.{drop_more}
use Rattle.std.proofs.lemmas.Option.{slice_get_within, get_or_from_slice_get}
use Rattle.std.proofs.Math.ListN.{drop_of_length-le}
use Rattle.exec_core.specs.Block.{Name}
use Rattle.design_core.specs.Design.{Gens, in_range, IsInRange}
use Rattle.dbg_app.specs.Command.{argument_of, is_argument, negative}
use Rattle.std.proofs.Math.Seq.{take-length}

-- ---- a number behind a minus

small : (m : ℕ) → m ≤ 4611686018427387904 → SFits w64 (pos m)
small m h = record { sfits = omega arith }

minus_is : (m : ℕ) → pos 0 -ℤ pos (suc m) ≡ negsuc m
minus_is m = grind (arith, ints)

below : (m : ℕ) → m ≤ 4611686018427387904 → SFits w64 (pos 0 -ℤ pos m)
below zero h = record { sfits = omega arith }
below (suc m) h = subst (λ z. SFits w64 z) (sym (minus_is m)) (record { sfits = omega arith })

-- a number in range fits
range_fits : (n : ℤ) → in_range n ≡ true → SFits w64 n
range_fits (pos m) h = record { sfits = grind (arith, nat_tests, h) }
range_fits (negsuc m) h = record { sfits = grind (arith, nat_tests, h) }

pub same_number : (n : ℤ) → IsInRange n → to_z w64 (of_z w64 n) ≡ n
same_number n h = to_z-of_z w64 n (range_fits n h)

-- the rest behind the first
pub behind_first : {A : Type 0} (xs : List A) → take (length xs - 1) (drop 1 xs) ≡ drop 1 xs
behind_first [] = refl
behind_first (x ∷ xs) = ap (λ n. take n xs) (omega arith) ∙ take-length xs

negated : (m : ℕ) → m ≤ 4611686018427387904 → to_z w64 (of_z w64 (pos 0 -ℤ to_z w64 (of_z w64 (pos m)))) ≡ negative m
negated m h = ap (λ z. to_z w64 (of_z w64 (pos 0 -ℤ z))) (to_z-of_z w64 (pos m) (small m h)) ∙ to_z-of_z w64 (pos 0 -ℤ pos m) (below m h)

pub minus_told : (digits : List ℕ) (found : Option ℕ) (n : ℤ) → option_map pos found ≡ Some n → int_le n (pos 4611686018427387904) ≡ true
    → Some (to_z w64 (of_z w64 (pos 0 -ℤ to_z w64 (of_z w64 n)))) ≡ option_map negative found
minus_told digits None n e h = absurd (let no : None ≡ Some n = e in cc)
minus_told digits (Some m) n e h =
    let same : pos m ≡ n = cc in
    let within : int_le (pos m) (pos 4611686018427387904) ≡ true = subst (λ z. int_le z (pos 4611686018427387904) ≡ true) (sym same) h in
    subst (λ z. Some (to_z w64 (of_z w64 (pos 0 -ℤ to_z w64 (of_z w64 z)))) ≡ Some (negative m)) same (ap Some (negated m (grind (arith, nat_tests, within))))

-- ---- a word among the words

word_split : (words : List (List ℕ)) (i : ℕ) (word : List ℕ) → slice_get words i ≡ Some word → drop i words ≡ word ∷ drop (i + 1) words
word_split words i word at = drop_more words i word (slice_get_within words i word at) ∙ ap (λ w. w ∷ drop (i + 1) words) (get_or_from_slice_get words i word word at)

some_of : {A B : Type 0} (f : A → B) (o : Option A) → is_some (option_map f o) ≡ is_some o
some_of f (Some a) = refl
some_of f None = refl

-- ---- all are arguments

pub all_next : {A : Type 0} (f : A → Name × ℤ) (words : List (List ℕ)) (i : ℕ) (word : List ℕ) (found : Option A) → slice_get words i ≡ Some word → option_map f found ≡ argument_of word → is_some found ≡ true
    → list_all is_argument (drop (i + 1) words) ≡ list_all is_argument (drop i words)
all_next f words i word found at is some =
    let one : is_argument word ≡ true = ap is_some (sym is) ∙ some_of f found ∙ some in
    sym (ap (list_all is_argument) (word_split words i word at) ∙ ap (λ b. b && list_all is_argument (drop (i + 1) words)) one)

pub all_not : {A : Type 0} (f : A → Name × ℤ) (words : List (List ℕ)) (i : ℕ) (word : List ℕ) (found : Option A) → slice_get words i ≡ Some word → option_map f found ≡ argument_of word → is_some found ≡ false
    → list_all is_argument (drop i words) ≡ false
all_not f words i word found at is none =
    let one : is_argument word ≡ false = ap is_some (sym is) ∙ some_of f found ∙ none in
    ap (list_all is_argument) (word_split words i word at) ∙ ap (λ b. b && list_all is_argument (drop (i + 1) words)) one

pub all_end : (words : List (List ℕ)) (i : ℕ) → length words ≤ i → list_all is_argument (drop i words) ≡ true
all_end words i past = ap (list_all is_argument) (drop_of_length-le words past)

-- ---- what they give

pub given_more : {A : Type 0} (f : A → Name × ℤ) (words : List (List ℕ)) (i : ℕ) (word : List ℕ) (found : Option A) (a : A) (given now : Gens) → slice_get words i ≡ Some word → option_map f found ≡ argument_of word → found ≡ Some a
    → now ≡ given ++ f a ∷ [] → now ++ filter_map argument_of (drop (i + 1) words) ≡ given ++ filter_map argument_of (drop i words)
given_more f words i word found a given now at is some grown =
    let one : argument_of word ≡ Some (f a) = sym is ∙ ap (option_map f) some in
    let split : filter_map argument_of (drop i words) ≡ f a ∷ filter_map argument_of (drop (i + 1) words) =
    ap (filter_map argument_of) (word_split words i word at) ∙ ap (λ o. cons_option o (filter_map argument_of (drop (i + 1) words))) one in
    ap (λ l. l ++ filter_map argument_of (drop (i + 1) words)) grown ∙ append_assoc given (f a ∷ []) (filter_map argument_of (drop (i + 1) words)) ∙ ap (λ l. given ++ l) (sym split)

pub given_same : {A : Type 0} (f : A → Name × ℤ) (words : List (List ℕ)) (i : ℕ) (word : List ℕ) (found : Option A) (given now : Gens) → slice_get words i ≡ Some word → option_map f found ≡ argument_of word → found ≡ None
    → now ≡ given → now ++ filter_map argument_of (drop (i + 1) words) ≡ given ++ filter_map argument_of (drop i words)
given_same f words i word found given now at is none same =
    let one : argument_of word ≡ None = sym is ∙ ap (option_map f) none in
    let split : filter_map argument_of (drop i words) ≡ filter_map argument_of (drop (i + 1) words) =
    ap (filter_map argument_of) (word_split words i word at) ∙ ap (λ o. cons_option o (filter_map argument_of (drop (i + 1) words))) one in
    ap (λ l. l ++ filter_map argument_of (drop (i + 1) words)) same ∙ ap (λ l. given ++ l) (sym split)

pub given_end : (words : List (List ℕ)) (i : ℕ) (given : Gens) → length words ≤ i → given ++ filter_map argument_of (drop i words) ≡ given
given_end words i given past = ap (λ l. given ++ filter_map argument_of l) (drop_of_length-le words past) ∙ append-nil given
