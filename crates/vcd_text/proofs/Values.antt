-- Values and times are read as they were written.
use Rattle.std.proofs.Common.{◌≡◌, ℕ, zero, suc, ◌+◌, ◌%◌, ◌^◌, ◌<◌, ◌≤◌, Bool, true, false, cond, List, [], ◌∷◌, ◌++◌, length, map, Some, Ok, refl, sym, ap, ◌∙◌, subst, arith, append_assoc, append-nil}
use Rattle.std.specs.Prelude.{nat_le, nat_lt, ◌==◌}
use Rattle.std.specs.List.{list_all, flat_map}
use Rattle.std.specs.Fmt.{decimal}
use Rattle.std.proofs.lemmas.List.Folds.{list_all-append}
use Rattle.std.proofs.lemmas.Bool.Decides.{nat_tests}
use Rattle.text_core.specs.Digits.{is_digit_of, number_of}
use Rattle.bv_core.specs.Value.{Bits}
use Rattle.list_core.specs.Lists.{EachOf}
use Rattle.vcd_read.specs.Words.{has_bytes}
use Rattle.vcd_read.specs.Head.{Head, known}
use Rattle.vcd_read.specs.Changes.{Change, Story, is_value, is_time, with_change, changed, are_digits}
use Rattle.vcd_read.specs.Meaning.{State, InChanges, VectorCode, step, told}
use Rattle.vcd_text.specs.Dump.{Variable, Step, binary_digits, code_text, value_words, line_text, values_text, time_text, step_text}
use Rattle.vcd_text.specs.Told.{IsGiven, AreSteps, told_value, told_step}
use Rattle.vcd_text.proofs.Words.{Goes, solid, both, none_goes, then_goes, word_goes}
use Rattle.vcd_text.proofs.Codes.{code_word}
use Rattle.vcd_text.proofs.Digits.{decimal_is, decimal_word, decimal_tens, decimal_some, binary_length, binary_values, binary_solid}
use Rattle.vcd_text.proofs.Known.{codes_from, is_known}

-- what was told, with this head, this time and these changes
abbrev pub state_of : Head → ℕ → List Change → State
state_of head time changes = record { head = head; story = record { time = time; changes = changes } }

-- one more change
abbrev pub one_told : Head → ℕ → List Change → ℕ × Bits → State
one_told head time changes given = state_of head time (changes ++ told_value time given ∷ [])

-- digits are told by one bit or more
bytes_of : (bytes : List ℕ) (n : ℕ) → length bytes ≡ n → 1 ≤ n → has_bytes bytes ≡ true
bytes_of [] n e l = absurd (omega arith)
bytes_of (byte ∷ bytes) n e l = refl

pub are_so : (width value : ℕ) → 1 ≤ width → are_digits (binary_digits width value) ≡ true
are_so width value some =
    both (has_bytes (binary_digits width value)) (list_all is_value (binary_digits width value))
    (bytes_of (binary_digits width value) width (binary_length width value) some) (binary_values width value)

-- one bit directly before a code
scalar_step : (k : ℕ) → k < 2 → (s : State) (after : Story) (at : ℕ) (code : List ℕ) → has_bytes code ≡ true
    → changed s.head.codes s.story at ((48 + k) ∷ []) (at + 1) code ≡ Ok after → step InChanges s (record { at = at; bytes = (48 + k) ∷ code }) ≡ Ok (InChanges, record s { story = after })
scalar_step zero l s after at code some e = rw some (ap (told s) e)
scalar_step (suc zero) l s after at code some e = rw some (ap (told s) e)
scalar_step (suc (suc k)) l s after at code some e = absurd (omega arith)

one_digit : (value : ℕ) → binary_digits 1 value ≡ (48 + value % 2) ∷ []
unfolding binary_digits
one_digit value = refl

pub time_is : (bytes : List ℕ) (n : ℕ) → has_bytes bytes ≡ true → list_all (is_digit_of 10) bytes ≡ true → number_of 10 bytes ≡ n → n < 2 ^ 64 → is_time bytes ≡ true
time_is bytes n some tens is small = rw (some, tens, is) (grind (arith, nat_tests))

module _ (vars : List Variable) (head : Head) (all : head.codes ≡ codes_from 0 vars) where
  -- the value of a variable is taken
  taken : (time : ℕ) (changes : List Change) (given : ℕ × Bits) (at code_at : ℕ) → IsGiven vars given
      → changed head.codes (record { time = time; changes = changes }) at (binary_digits given.1.width given.1.value) code_at (code_text given.0)
      ≡ Ok (record { time = time; changes = changes ++ told_value time given ∷ [] })
  taken time changes given at code_at is =
      let story : Story = record { time = time; changes = changes } in
      let digits = binary_digits given.1.width given.1.value in
      let found : known (code_text given.0) head.codes ≡ Some (given.0, is.var.size) = ap (known (code_text given.0)) all ∙ is_known given.0 vars is.var is.at in
      let long = binary_length given.1.width given.1.value in
      let fits : nat_le (length digits) is.var.size ≡ true = tested (length digits) is.var.size (omega (arith, is.size)) in
      ap (with_change story at digits code_at) found ∙ rw fits refl
    where
      tested : (m n : ℕ) → m ≤ n → nat_le m n ≡ true
      tested m n l = grind (arith, nat_tests)

  module _ (time : ℕ) (changes : List Change) (given : ℕ × Bits) (is : IsGiven vars given) where
    -- a vector: its digits on one word, and its code
    vector_goes : Goes InChanges (state_of head time changes) (line_text ((98 ∷ binary_digits given.1.width given.1.value) ∷ code_text given.0 ∷ [])) InChanges (one_told head time changes given)
    vector_goes =
        word_goes InChanges InChanges (λ at. VectorCode at (binary_digits given.1.width given.1.value)) (state_of head time changes) (state_of head time changes) (one_told head time changes given)
        (98 ∷ binary_digits given.1.width given.1.value) (code_text given.0 ++ 10 ∷ []) 32
        (record { some = refl; all = both true (list_all solid (binary_digits given.1.width given.1.value)) refl (binary_solid given.1.width given.1.value) }) refl
        (λ at. rw (are_so given.1.width given.1.value is.some) refl)
        (λ at. word_goes (VectorCode at (binary_digits given.1.width given.1.value)) InChanges (λ n. InChanges) (state_of head time changes) (one_told head time changes given) (one_told head time changes given)
        (code_text given.0) [] 10 (code_word given.0) refl
        (λ n. ap (told (state_of head time changes)) (taken time changes given at n is))
        (λ n. none_goes InChanges (one_told head time changes given)))

    -- one bit, and its code
    scalar_goes : given.1.width ≡ 1 → Goes InChanges (state_of head time changes) (line_text ((binary_digits given.1.width given.1.value ++ code_text given.0) ∷ [])) InChanges (one_told head time changes given)
    scalar_goes one =
        let digits : binary_digits given.1.width given.1.value ≡ (48 + given.1.value % 2) ∷ [] = ap (λ n. binary_digits n given.1.value) one ∙ one_digit given.1.value in
        let word = code_word given.0 in
        let solid_all : list_all solid (binary_digits given.1.width given.1.value ++ code_text given.0) ≡ true =
        list_all-append solid (binary_digits given.1.width given.1.value) (code_text given.0) ∙ both (list_all solid (binary_digits given.1.width given.1.value)) (list_all solid (code_text given.0)) (binary_solid given.1.width given.1.value) word.all in
        word_goes InChanges InChanges (λ at. InChanges) (state_of head time changes) (one_told head time changes given) (one_told head time changes given)
        (binary_digits given.1.width given.1.value ++ code_text given.0) [] 10
        (record { some = ap (λ (l : List ℕ). has_bytes (l ++ code_text given.0)) digits; all = solid_all }) refl
        (λ at.
        ap (λ (l : List ℕ). step InChanges (state_of head time changes) (record { at = at; bytes = l ++ code_text given.0 })) digits
        ∙ scalar_step (given.1.value % 2) (omega arith) (state_of head time changes) (record { time = time; changes = changes ++ told_value time given ∷ [] }) at (code_text given.0) word.some
        (ap (λ (l : List ℕ). changed head.codes (record { time = time; changes = changes }) at l (at + 1) (code_text given.0)) (sym digits) ∙ taken time changes given at (at + 1) is))
        (λ at. none_goes InChanges (one_told head time changes given))

    value_goes : Goes InChanges (state_of head time changes) (line_text (value_words given)) InChanges (one_told head time changes given)
    value_goes = by_test (given.1.width == 1) refl
      where
        by_test : (b : Bool) → (given.1.width == 1) ≡ b
            → Goes InChanges (state_of head time changes) (line_text (cond b ((binary_digits given.1.width given.1.value ++ code_text given.0) ∷ []) ((98 ∷ binary_digits given.1.width given.1.value) ∷ code_text given.0 ∷ []))) InChanges (one_told head time changes given)
        by_test true e = scalar_goes (grind (arith, nat_tests))
        by_test false e = vector_goes

  -- values one after another
  pub values_goes : (time : ℕ) (changes : List Change) (values : List (ℕ × Bits)) → EachOf (IsGiven vars) values
      → Goes InChanges (state_of head time changes) (values_text values) InChanges (state_of head time (changes ++ map (told_value time) values))
  values_goes time changes [] are = subst (λ (l : List Change). Goes InChanges (state_of head time changes) [] InChanges (state_of head time l)) (sym (append-nil changes)) (none_goes InChanges (state_of head time changes))
  values_goes time changes (given ∷ values) are =
      let more = values_goes time (changes ++ told_value time given ∷ []) values are.1 in
      let same : (changes ++ told_value time given ∷ []) ++ map (told_value time) values ≡ changes ++ map (told_value time) (given ∷ values) = append_assoc changes (told_value time given ∷ []) (map (told_value time) values) in
      subst (λ (l : List Change). Goes InChanges (state_of head time changes) (values_text (given ∷ values)) InChanges (state_of head time l)) same
      (then_goes InChanges InChanges InChanges (state_of head time changes) (one_told head time changes given) _ (line_text (value_words given)) (values_text values)
      (value_goes time changes given are.0) more)

  -- a time that is not earlier
  pub time_goes : (before time : ℕ) (changes : List Change) → before ≤ time → time < 2 ^ 64 → Goes InChanges (state_of head before changes) (time_text time) InChanges (state_of head time changes)
  time_goes before time changes later small =
      word_goes InChanges InChanges (λ at. InChanges) (state_of head before changes) (state_of head time changes) (state_of head time changes) (35 ∷ decimal time) [] 10
      (record { some = refl; all = both true (list_all solid (decimal time)) refl (decimal_word time small).all }) refl
      (λ at.
      let is : is_time (decimal time) ≡ true = is_so in
      let number = decimal_is time small in
      let order : nat_lt time before ≡ false = grind (arith, nat_tests) in
      rw (is, number, order) refl)
      (λ at. none_goes InChanges (state_of head time changes))
    where
      is_so : is_time (decimal time) ≡ true
      is_so = time_is (decimal time) time (decimal_some time small) (decimal_tens time small) (decimal_is time small) small

  -- steps one after another
  pub steps_go : (time : ℕ) (changes : List Change) (steps : List Step) → AreSteps vars time steps
      → (last : ℕ) × Goes InChanges (state_of head time changes) (flat_map step_text steps) InChanges (state_of head last (changes ++ flat_map told_step steps))
  steps_go time changes [] are = (time, subst (λ (l : List Change). Goes InChanges (state_of head time changes) [] InChanges (state_of head time l)) (sym (append-nil changes)) (none_goes InChanges (state_of head time changes)))
  steps_go time changes (next ∷ steps) are =
      let values = values_goes next.time changes next.values are.1.1.0 in
      let one = then_goes InChanges InChanges InChanges (state_of head time changes) (state_of head next.time changes) _ (time_text next.time) (values_text next.values) (time_goes time next.time changes are.0 are.1.0) values in
      let more = steps_go next.time (changes ++ told_step next) steps are.1.1.1 in
      let same : (changes ++ told_step next) ++ flat_map told_step steps ≡ changes ++ (told_step next ++ flat_map told_step steps) = append_assoc changes (told_step next) (flat_map told_step steps) in (
        more.0,
        subst (λ (l : List Change). Goes InChanges (state_of head time changes) (flat_map step_text (next ∷ steps)) InChanges (state_of head more.0 l)) same
            (then_goes InChanges InChanges InChanges (state_of head time changes) (state_of head next.time (changes ++ told_step next)) _ (step_text next) (flat_map step_text steps) one more.1),
      )
