-- The clock rises once in each cycle.
use Rattle.std.proofs.Common.{◌≡◌, ℕ, zero, suc, ◌+◌, ◌-◌, ◌*◌, ◌<◌, ◌≤◌, Bool, true, false, cond, List, [], ◌∷◌, ◌++◌, map, Option, Some, None, refl, ap, ap₂, ◌∙◌, arith, append-nil}
use Rattle.std.specs.Prelude.{nat_le, nat_lt, codes, ◌==◌, ◌&&◌}
use Rattle.std.specs.List.{filter, flat_map}
use Rattle.std.proofs.lemmas.Bool.Decides.{nat_tests}
use Rattle.std.proofs.lemmas.List.Concat.{flat_map-append}
use Rattle.std.proofs.lemmas.Slice.Eq.{bytes_eq-Decides}
use Rattle.bv_core.specs.Value.{Bits}
use Rattle.list_core.specs.Lists.{from}
use Rattle.vcd_read.specs.Head.{Var}
use Rattle.vcd_read.specs.Changes.{Change}
use Rattle.vcd_samples.specs.Samples.{latest, last_digits, sample_of, before, up_to, is_number, is_rise, times_behind, times_of, var_named, rises, rises_by}
use Rattle.vcd_text.specs.Dump.{Step, binary_digits}
use Rattle.vcd_text.specs.Told.{told_var, told_value, told_step, told_changes, told}
use Rattle.vcd_text.specs.Waves.{Waves, all_from, differing_from, first_of, rise, fall, cycle_steps, clock, dump_of}
use Rattle.vcd_text.proofs.Changing.{filter_joined, by_steps, last_joined, none_all, none_differing, same}

from_joined : (a m n : ℕ) → from a (m + n) ≡ from a m ++ from (a + m) n
from_joined a zero n = ap (from a) (let e : 0 + n ≡ n = omega arith in e) ∙ ap (λ b. from b n) (let e : a ≡ a + 0 = omega arith in e)
from_joined a (suc m) n =
    ap (from a) (let e : suc m + n ≡ suc (m + n) = omega arith in e)
    ∙ ap (λ l. a ∷ l) (from_joined (a + 1) m n ∙ ap (λ b. from (a + 1) m ++ from b n) (let e : a + 1 + m ≡ a + suc m = omega arith in e))

two_by : {X : Type 0} (x y : X) (b c d e : Bool) (xs ys : List X) → b ≡ d → c ≡ e → xs ≡ ys → cond b (x ∷ cond c (y ∷ xs) xs) (cond c (y ∷ xs) xs) ≡ cond d (x ∷ cond e (y ∷ ys) ys) (cond e (y ∷ ys) ys)
two_by x y b c d e xs ys p q r = λ i. cond (p i) (x ∷ cond (q i) (y ∷ r i) (r i)) (cond (q i) (y ∷ r i) (r i))

before_all : (time number : ℕ) → number < time → nat_lt number time ≡ true
before_all time number l = grind (arith, nat_tests)

not_before : (time number : ℕ) → time ≤ number → nat_lt number time ≡ false
not_before time number l = grind (arith, nat_tests)

in_time : (time number : ℕ) → number ≤ time → nat_le number time ≡ true
in_time time number l = grind (arith, nat_tests)

too_late : (time number : ℕ) → time < number → nat_le number time ≡ false
too_late time number l = grind (arith, nat_tests)

none_before : (changes : List Change) → before 0 changes ≡ []
none_before [] = refl
none_before (c ∷ changes) = ap (λ b. cond b (c ∷ before 0 changes) (before 0 changes)) (not_before 0 c.time (omega arith)) ∙ none_before changes

low_digit : binary_digits 1 0 ≡ 48 ∷ []
unfolding binary_digits
low_digit = refl

high_digit : binary_digits 1 1 ≡ 49 ∷ []
unfolding binary_digits
high_digit = refl

module _ (w : Waves) where
  abbrev pub cs : ℕ → List Step
  cs t = cycle_steps w.cycles w.row t

  -- what is given up to the rise that ends a cycle
  abbrev pub zero_step : Step
  zero_step = record { time = 0; values = first_of w.cycles w.row }

  abbrev pub steps_to : ℕ → List Step
  steps_to t = zero_step ∷ flat_map cs (from 0 t)

  pub steps_next : (t : ℕ) → steps_to (suc t) ≡ steps_to t ++ cs t
  steps_next t =
      let split : from 0 (suc t) ≡ from 0 t ++ t ∷ [] = ap (from 0) (let e : suc t ≡ t + 1 = omega arith in e) ∙ from_joined 0 t 1 ∙ ap (λ n. from 0 t ++ n ∷ []) (let e : 0 + t ≡ t = omega arith in e) in
      ap (λ (l : List Step). zero_step ∷ l) (ap (flat_map cs) split ∙ flat_map-append cs (from 0 t) (t ∷ []) ∙ ap (λ (l : List Step). flat_map cs (from 0 t) ++ l) (append-nil (cs t)))

  steps_split : (t : ℕ) → t ≤ w.cycles → flat_map cs (from 0 w.cycles) ≡ flat_map cs (from 0 t) ++ flat_map cs (from t (w.cycles - t))
  steps_split t l =
      ap (λ n. flat_map cs (from 0 n)) (let e : w.cycles ≡ t + (w.cycles - t) = omega arith in e)
      ∙ ap (flat_map cs) (from_joined 0 t (w.cycles - t) ∙ ap (λ n. from 0 t ++ from n (w.cycles - t)) (let e : 0 + t ≡ t = omega arith in e))
      ∙ flat_map-append cs (from 0 t) (from t (w.cycles - t))

  cycles_pass : (p : ℕ → Bool) (a n : ℕ) → ((t : ℕ) → t < a + n → (p (10 * t + 5) ≡ true) × (p (10 * t + 10) ≡ true)) → filter (λ (s : Step). p s.time) (flat_map cs (from a n)) ≡ flat_map cs (from a n)
  cycles_pass p a zero h = refl
  cycles_pass p a (suc n) h =
      let here = h a (omega arith) in
      two_by (rise w.cycles w.row a) (fall a) (p (10 * a + 5)) (p (10 * a + 10)) true true (filter (λ (s : Step). p s.time) (flat_map cs (from (a + 1) n))) (flat_map cs (from (a + 1) n))
      here.0 here.1 (cycles_pass p (a + 1) n (λ t l. h t (omega arith)))

  cycles_fail : (p : ℕ → Bool) (a n : ℕ) → ((t : ℕ) → a ≤ t → (p (10 * t + 5) ≡ false) × (p (10 * t + 10) ≡ false)) → filter (λ (s : Step). p s.time) (flat_map cs (from a n)) ≡ []
  cycles_fail p a zero h = refl
  cycles_fail p a (suc n) h =
      let here = h a (omega arith) in
      two_by (rise w.cycles w.row a) (fall a) (p (10 * a + 5)) (p (10 * a + 10)) false false (filter (λ (s : Step). p s.time) (flat_map cs (from (a + 1) n))) []
      here.0 here.1 (cycles_fail p (a + 1) n (λ t l. h t (omega arith)))

  -- a test of times that what is before a cycle passes, and nothing of the cycle
  passed_to : (p : ℕ → Bool) (t : ℕ) → t ≤ w.cycles → p 0 ≡ true → ((s : ℕ) → s < t → (p (10 * s + 5) ≡ true) × (p (10 * s + 10) ≡ true)) → ((s : ℕ) → t ≤ s → (p (10 * s + 5) ≡ false) × (p (10 * s + 10) ≡ false))
      → filter (λ (c : Change). p c.time) (told_changes (dump_of w)) ≡ flat_map told_step (steps_to t)
  passed_to p t l z front rest =
      by_steps p (steps_to w.cycles)
      ∙ ap (flat_map told_step)
      (ap (λ b. cond b (zero_step ∷ filter (λ (s : Step). p s.time) (flat_map cs (from 0 w.cycles))) (filter (λ (s : Step). p s.time) (flat_map cs (from 0 w.cycles)))) z
      ∙ ap (λ (l : List Step). zero_step ∷ l)
      (ap (filter (λ (s : Step). p s.time)) (steps_split t l)
      ∙ filter_joined (λ (s : Step). p s.time) (flat_map cs (from 0 t)) (flat_map cs (from t (w.cycles - t)))
      ∙ ap₂ (λ (a b : List Step). a ++ b) (cycles_pass p 0 t (λ s m. front s (omega arith))) (cycles_fail p t (w.cycles - t) rest)
      ∙ append-nil (flat_map cs (from 0 t))))

  -- one that the rise passes too, and not the fall
  passed_rise : (p : ℕ → Bool) (t : ℕ) → t < w.cycles → p 0 ≡ true → ((s : ℕ) → s < t → (p (10 * s + 5) ≡ true) × (p (10 * s + 10) ≡ true)) → p (10 * t + 5) ≡ true → p (10 * t + 10) ≡ false
      → ((s : ℕ) → t + 1 ≤ s → (p (10 * s + 5) ≡ false) × (p (10 * s + 10) ≡ false))
      → filter (λ (c : Change). p c.time) (told_changes (dump_of w)) ≡ flat_map told_step (steps_to t) ++ told_step (rise w.cycles w.row t)
  passed_rise p t l z front up down rest =
      let more : w.cycles - t ≡ suc (w.cycles - (t + 1)) = omega arith in
      let behind : filter (λ (s : Step). p s.time) (flat_map cs (from t (w.cycles - t))) ≡ rise w.cycles w.row t ∷ [] =
      ap (λ n. filter (λ (s : Step). p s.time) (flat_map cs (from t n))) more
      ∙ two_by (rise w.cycles w.row t) (fall t) (p (10 * t + 5)) (p (10 * t + 10)) true false (filter (λ (s : Step). p s.time) (flat_map cs (from (t + 1) (w.cycles - (t + 1))))) [] up down (cycles_fail p (t + 1) (w.cycles - (t + 1)) rest) in
      by_steps p (steps_to w.cycles)
      ∙ ap (flat_map told_step)
      (ap (λ b. cond b (zero_step ∷ filter (λ (s : Step). p s.time) (flat_map cs (from 0 w.cycles))) (filter (λ (s : Step). p s.time) (flat_map cs (from 0 w.cycles)))) z
      ∙ ap (λ (l : List Step). zero_step ∷ l)
      (ap (filter (λ (s : Step). p s.time)) (steps_split t (omega arith))
      ∙ filter_joined (λ (s : Step). p s.time) (flat_map cs (from 0 t)) (flat_map cs (from t (w.cycles - t)))
      ∙ ap₂ (λ (a b : List Step). a ++ b) (cycles_pass p 0 t (λ s m. front s (omega arith))) behind))
      ∙ flat_map-append told_step (steps_to t) (rise w.cycles w.row t ∷ [])
      ∙ ap (λ (l : List Change). flat_map told_step (steps_to t) ++ l) (append-nil (told_step (rise w.cycles w.row t)))

  pub before_rise : (t : ℕ) → t ≤ w.cycles → before (10 * t + 5) (told_changes (dump_of w)) ≡ flat_map told_step (steps_to t)
  before_rise t l =
      passed_to (λ n. nat_lt n (10 * t + 5)) t l (before_all (10 * t + 5) 0 (omega arith))
      (λ s m. (before_all (10 * t + 5) (10 * s + 5) (omega arith), before_all (10 * t + 5) (10 * s + 10) (omega arith)))
      (λ s m. (not_before (10 * t + 5) (10 * s + 5) (omega arith), not_before (10 * t + 5) (10 * s + 10) (omega arith)))

  up_to_rise : (t : ℕ) → t < w.cycles → up_to (10 * t + 5) (told_changes (dump_of w)) ≡ flat_map told_step (steps_to t) ++ told_step (rise w.cycles w.row t)
  up_to_rise t l =
      passed_rise (λ n. nat_le n (10 * t + 5)) t l (in_time (10 * t + 5) 0 (omega arith))
      (λ s m. (in_time (10 * t + 5) (10 * s + 5) (omega arith), in_time (10 * t + 5) (10 * s + 10) (omega arith)))
      (in_time (10 * t + 5) (10 * t + 5) (omega arith)) (too_late (10 * t + 5) (10 * t + 10) (omega arith))
      (λ s m. (too_late (10 * t + 5) (10 * s + 5) (omega arith), too_late (10 * t + 5) (10 * s + 10) (omega arith)))

  before_fall : (t : ℕ) → t < w.cycles → before (10 * t + 10) (told_changes (dump_of w)) ≡ flat_map told_step (steps_to t) ++ told_step (rise w.cycles w.row t)
  before_fall t l =
      passed_rise (λ n. nat_lt n (10 * t + 10)) t l (before_all (10 * t + 10) 0 (omega arith))
      (λ s m. (before_all (10 * t + 10) (10 * s + 5) (omega arith), before_all (10 * t + 10) (10 * s + 10) (omega arith)))
      (before_all (10 * t + 10) (10 * t + 5) (omega arith)) (not_before (10 * t + 10) (10 * t + 10) (omega arith))
      (λ s m. (not_before (10 * t + 10) (10 * s + 5) (omega arith), not_before (10 * t + 10) (10 * s + 10) (omega arith)))

  -- ---- the clock

  others_first : last_digits 0 (map (told_value 0) (cond (nat_lt 0 w.cycles) (all_from 1 (w.row 0)) [])) ≡ None
  others_first = by_test (nat_lt 0 w.cycles)
    where
      by_test : (b : Bool) → last_digits 0 (map (told_value 0) (cond b (all_from 1 (w.row 0)) [])) ≡ None
      by_test true = none_all 0 0 1 (w.row 0) (omega arith)
      by_test false = refl

  others_rise : (t : ℕ) → last_digits 0 (map (told_value (10 * t + 5)) (cond (nat_lt (t + 1) w.cycles) (differing_from 1 (w.row t) (w.row (t + 1))) [])) ≡ None
  others_rise t = by_test (nat_lt (t + 1) w.cycles)
    where
      by_test : (b : Bool) → last_digits 0 (map (told_value (10 * t + 5)) (cond b (differing_from 1 (w.row t) (w.row (t + 1))) [])) ≡ None
      by_test true = none_differing (10 * t + 5) 0 1 (w.row t) (w.row (t + 1)) (omega arith)
      by_test false = refl

  clock_first : last_digits 0 (told_step zero_step) ≡ Some (48 ∷ [])
  clock_first = ap (λ o. latest o (Some (binary_digits 1 0))) others_first ∙ ap (λ (l : List ℕ). Some l) low_digit

  clock_rise : (t : ℕ) → last_digits 0 (told_step (rise w.cycles w.row t)) ≡ Some (49 ∷ [])
  clock_rise t = ap (λ o. latest o (Some (binary_digits 1 1))) (others_rise t) ∙ ap (λ (l : List ℕ). Some l) high_digit

  -- it is 0 before it rises
  clock_low : (t : ℕ) → last_digits 0 (flat_map told_step (steps_to t)) ≡ Some (48 ∷ [])
  clock_low zero = ap (last_digits 0) (append-nil (told_step zero_step)) ∙ clock_first
  clock_low (suc t) =
      ap (λ (l : List Step). last_digits 0 (flat_map told_step l)) (steps_next t)
      ∙ ap (last_digits 0) (flat_map-append told_step (steps_to t) (cs t))
      ∙ last_joined 0 (flat_map told_step (steps_to t)) (flat_map told_step (cs t))
      ∙ ap (λ o. latest o (last_digits 0 (flat_map told_step (steps_to t)))) (last_joined 0 (told_step (rise w.cycles w.row t)) (told_step (fall t) ++ []))
      ∙ ap (λ (l : List ℕ). Some l) low_digit

  -- and 1 behind that
  clock_high : (t : ℕ) → last_digits 0 (flat_map told_step (steps_to t) ++ told_step (rise w.cycles w.row t)) ≡ Some (49 ∷ [])
  clock_high t =
      last_joined 0 (flat_map told_step (steps_to t)) (told_step (rise w.cycles w.row t))
      ∙ ap (λ o. latest o (last_digits 0 (flat_map told_step (steps_to t)))) (clock_rise t)

  abbrev clock_var : Var
  clock_var = told_var w.scope 0 clock

  abbrev rises_at : ℕ → Bool
  rises_at time = is_rise (told_changes (dump_of w)) clock_var time

  rises_there : (t : ℕ) → t < w.cycles → rises_at (10 * t + 5) ≡ true
  rises_there t l =
      ap₂ (λ (a b : List Change). is_number 0 (sample_of 1 (last_digits 0 a)) && is_number 1 (sample_of 1 (last_digits 0 b))) (before_rise t (omega arith)) (up_to_rise t l)
      ∙ ap₂ (λ (a b : Option (List ℕ)). is_number 0 (sample_of 1 a) && is_number 1 (sample_of 1 b)) (clock_low t) (clock_high t)

  falls_there : (t : ℕ) → t < w.cycles → rises_at (10 * t + 10) ≡ false
  falls_there t l =
      ap (λ (a : List Change). is_number 0 (sample_of 1 (last_digits 0 a)) && is_number 1 (sample_of 1 (last_digits 0 (up_to (10 * t + 10) (told_changes (dump_of w)))))) (before_fall t l)
      ∙ ap (λ (a : Option (List ℕ)). is_number 0 (sample_of 1 a) && is_number 1 (sample_of 1 (last_digits 0 (up_to (10 * t + 10) (told_changes (dump_of w)))))) (clock_high t)

  not_at_first : rises_at 0 ≡ false
  not_at_first = ap (λ (a : List Change). is_number 0 (sample_of 1 (last_digits 0 a)) && is_number 1 (sample_of 1 (last_digits 0 (up_to 0 (told_changes (dump_of w)))))) (none_before (told_changes (dump_of w)))

  -- ---- the times of changes

  same_time : (time : ℕ) (values : List (ℕ × Bits)) (rest : List Change) → times_behind time (map (told_value time) values ++ rest) ≡ times_behind time rest
  same_time time [] rest = refl
  same_time time (v ∷ values) rest =
      ap (λ b. cond b (times_behind time (map (told_value time) values ++ rest)) (time ∷ times_behind time (map (told_value time) values ++ rest))) (same time) ∙ same_time time values rest

  another_time : (before time : ℕ) (rest : List Change) → before < time → (b : Bool) → (time == before) ≡ b → cond b (times_behind before rest) (time ∷ times_behind time rest) ≡ time ∷ times_behind time rest
  another_time before time rest l true e = absurd (let z : time ≡ before = grind (arith, nat_tests) in omega arith)
  another_time before time rest l false e = refl

  abbrev two_times : ℕ → List ℕ
  two_times t = (10 * t + 5) ∷ (10 * t + 10) ∷ []

  times_are : (before a n : ℕ) → before < 10 * a + 5 → times_behind before (flat_map told_step (flat_map cs (from a n))) ≡ flat_map two_times (from a n)
  times_are before a zero l = refl
  times_are before a (suc n) l =
      let rest = flat_map told_step (flat_map cs (from (a + 1) n)) in
      let others = map (told_value (10 * a + 5)) (cond (nat_lt (a + 1) w.cycles) (differing_from 1 (w.row a) (w.row (a + 1))) []) in
      another_time before (10 * a + 5) (others ++ (told_step (fall a) ++ rest)) l ((10 * a + 5) == before) refl
      ∙ ap (λ (l : List ℕ). (10 * a + 5) ∷ l)
      (same_time (10 * a + 5) (cond (nat_lt (a + 1) w.cycles) (differing_from 1 (w.row a) (w.row (a + 1))) []) (told_step (fall a) ++ rest)
      ∙ another_time (10 * a + 5) (10 * a + 10) rest (omega arith) ((10 * a + 10) == (10 * a + 5)) refl
      ∙ ap (λ (l : List ℕ). (10 * a + 10) ∷ l) (times_are (10 * a + 10) (a + 1) n (omega arith)))

  all_times : times_of (told_changes (dump_of w)) ≡ 0 ∷ flat_map two_times (from 0 w.cycles)
  all_times =
      ap (λ (l : List ℕ). 0 ∷ l)
      (same_time 0 (cond (nat_lt 0 w.cycles) (all_from 1 (w.row 0)) []) (flat_map told_step (flat_map cs (from 0 w.cycles))) ∙ times_are 0 0 w.cycles (omega arith))

  rises_from : (a n : ℕ) → a + n ≤ w.cycles → filter rises_at (flat_map two_times (from a n)) ≡ map (λ t. 10 * t + 5) (from a n)
  rises_from a zero l = refl
  rises_from a (suc n) l =
      two_by (10 * a + 5) (10 * a + 10) (rises_at (10 * a + 5)) (rises_at (10 * a + 10)) true false (filter rises_at (flat_map two_times (from (a + 1) n))) (map (λ t. 10 * t + 5) (from (a + 1) n))
      (rises_there a (omega arith)) (falls_there a (omega arith)) (rises_from (a + 1) n (omega arith))

  clock_found : var_named (told (dump_of w)) w.scope (codes "clk") ≡ Some clock_var
  clock_found = rw ((bytes_eq-Decides w.scope w.scope).1 refl) refl

  pub times : rises (told (dump_of w)) w.scope ≡ map (λ t. 10 * t + 5) (from 0 w.cycles)
  times =
      ap (rises_by (told_changes (dump_of w))) clock_found
      ∙ ap (filter rises_at) all_times
      ∙ ap (λ b. cond b (0 ∷ filter rises_at (flat_map two_times (from 0 w.cycles))) (filter rises_at (flat_map two_times (from 0 w.cycles)))) not_at_first
      ∙ rises_from 0 w.cycles (omega arith)
