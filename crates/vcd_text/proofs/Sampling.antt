-- Before each rise of the clock a variable has its value of the cycle that ends there.
use Rattle.std.proofs.Common.{◌≡◌, ℕ, zero, suc, ◌+◌, ◌-◌, ◌*◌, ◌^◌, ◌<◌, ◌≤◌, Bool, true, false, cond, List, [], ◌∷◌, ◌++◌, length, map, replicate, Option, Some, None, refl, sym, ap, ap₂, ◌∙◌, subst, arith, append-nil}
use Rattle.std.specs.Prelude.{nat_le, nat_lt, slice_get, bytes_eq, ◌==◌, ◌&&◌}
use Rattle.std.specs.List.{flat_map, find, list_all}
use Rattle.std.specs.Option.{option_map}
use Rattle.std.proofs.lemmas.Bool.Decides.{nat_tests}
use Rattle.std.proofs.lemmas.List.{length-map}
use Rattle.std.proofs.lemmas.List.Concat.{flat_map-append}
use Rattle.std.proofs.lemmas.Option.{none-some, same_Some, slice_get_within, slice_get-map}
use Rattle.std.proofs.lemmas.Slice.Eq.{bytes_eq-Decides}
use Rattle.text_core.specs.Digits.{number_of}
use Rattle.bv_core.specs.Value.{Bits, IsBits}
use Rattle.bv_core.specs.declared.reference.Sample.TheVariants.{Known, Unknown}
use Rattle.list_core.specs.Lists.{EachOf, IsNotIn, AreApart}
use Rattle.vcd_read.specs.Changes.{Change}
use Rattle.vcd_samples.specs.Samples.{is_bit, filler, extended, value_of, latest, last_digits, sample_of, is_var, var_named, sample_before}
use Rattle.vcd_text.specs.Dump.{Variable, Step, binary_digits}
use Rattle.vcd_text.specs.Told.{told_var, told_vars, told_value, told_step, told_changes, told}
use Rattle.vcd_text.specs.Waves.{Waves, all_from, differing_from, rise, fall, clock, dump_of, AreWaves, WavesAreTold}
use Rattle.vcd_text.proofs.Digits.{binary_length, binary_all, binary_is}
use Rattle.vcd_text.proofs.Changing.{last_joined, latest_none, last_all, last_differing, other}
use Rattle.vcd_text.proofs.Rising.{cs, zero_step, steps_to, steps_next, before_rise, times}

-- ---- names

not_one : {A : Type 0} (x : A) (xs : List A) → IsNotIn x xs → (k : ℕ) (y : A) → slice_get xs k ≡ Some y → y ≡ x → ⊥
not_one x [] h k y e = absurd (none-some y e)
not_one x (z ∷ xs) h zero y e = λ same. h.0 (same_Some z y e ∙ same)
not_one x (z ∷ xs) h (suc k) y e = not_one x xs h.1 k y e

named_at : (vars : List Variable) (k : ℕ) (var : Variable) → slice_get vars k ≡ Some var → slice_get (map (λ (v : Variable). v.name) vars) k ≡ Some var.name
named_at [] k var e = absurd (none-some var e)
named_at (v ∷ vars) zero var e = ap (λ (x : Variable). Some x.name) (same_Some v var e)
named_at (v ∷ vars) (suc k) var e = named_at vars k var e

other_name : (a b : List ℕ) → (b ≡ a → ⊥) → bytes_eq a b ≡ false
other_name a b h = by_test (bytes_eq a b) refl
  where
    by_test : (c : Bool) → bytes_eq a b ≡ c → c ≡ false
    by_test true e = absurd (h (sym ((bytes_eq-Decides a b).0 e)))
    by_test false e = refl

-- a variable is the first of its name
found_by_name : (scope : List ℕ) (number : ℕ) (vars : List Variable) → AreApart (map (λ (v : Variable). v.name) vars) → (k : ℕ) (var : Variable) → slice_get vars k ≡ Some var
    → find (is_var scope var.name) (told_vars scope number vars) ≡ Some (told_var scope (number + k) var)
found_by_name scope number [] apart k var e = absurd (none-some var e)
found_by_name scope number (v ∷ vars) apart zero var e =
    ap (λ (x : Variable). find (is_var scope x.name) (told_var scope number v ∷ told_vars scope (number + 1) vars)) (sym (same_Some v var e))
    ∙ rw ((bytes_eq-Decides scope scope).1 refl, (bytes_eq-Decides v.name v.name).1 refl) refl
    ∙ ap₂ (λ (n : ℕ) (x : Variable). Some (told_var scope n x)) (let z : number ≡ number + 0 = omega arith in z) (same_Some v var e)
found_by_name scope number (v ∷ vars) apart (suc k) var e =
    let differs = other_name v.name var.name (not_one v.name (map (λ (x : Variable). x.name) vars) apart.0 k var.name (named_at vars k var e)) in
    rw ((bytes_eq-Decides scope scope).1 refl, differs) refl
    ∙ found_by_name scope (number + 1) vars apart.1 k var e
    ∙ ap (λ n. Some (told_var scope n var)) (let z : number + 1 + k ≡ number + suc k = omega arith in z)

-- ---- digits

bit_is : (d : ℕ) → d < 2 → is_bit (48 + d) ≡ true
bit_is zero l = refl
bit_is (suc zero) l = refl
bit_is (suc (suc d)) l = absurd (omega arith)

not_extended : (size : ℕ) (digits : List ℕ) → length digits ≡ size → extended size digits ≡ digits
not_extended size digits e = ap (λ n. replicate n (filler digits) ++ digits) (let z : size - length digits ≡ 0 = omega arith in z)

-- all digits of a value stand for it
value_is : (size value : ℕ) → size ≤ 128 → value < 2 ^ size → value_of size (binary_digits size value) ≡ Known (record { width = size; value = value })
value_is size value most fits =
    let whole = not_extended size (binary_digits size value) (binary_length size value) in
    let bits = binary_all is_bit bit_is size value in
    let small : nat_le size 128 ≡ true = grind (arith, nat_tests) in
    ap
    (λ (l : List ℕ). cond (nat_le size 128 && list_all is_bit l) (Known (record { width = size; value = number_of 2 l })) Unknown) whole
    ∙ rw (small, bits) (ap (λ n. Known (record { width = size; value = n })) (binary_is size value fits))

-- ---- values

there : {A : Type 0} (xs : List A) (k : ℕ) → k < length xs → (x : A) × (slice_get xs k ≡ Some x)
there [] k l = absurd (omega arith)
there (x ∷ xs) zero l = (x, refl)
there (x ∷ xs) (suc k) l = there xs k (omega arith)

each_at : {A : Type 0} (P : A → Type 0) (xs : List A) (k : ℕ) (x : A) → EachOf P xs → slice_get xs k ≡ Some x → P x
each_at P [] k x h e = absurd (none-some x e)
each_at P (y ∷ xs) zero x h e = subst P (same_Some y x e) h.0
each_at P (y ∷ xs) (suc k) x h e = each_at P xs k x h.1 e

module _ (w : Waves) (are : AreWaves w) where
  sized : (t k : ℕ) (var : Variable) (value : Bits) → t < w.cycles → slice_get w.variables k ≡ Some var → slice_get (w.row t) k ≡ Some value → value.width ≡ var.size
  sized t k var value l d e =
      same_Some value.width var.size
      (sym (slice_get-map (λ (b : Bits). b.width) (w.row t) k ∙ ap (option_map (λ (b : Bits). b.width)) e)
      ∙ ap (λ (l : List ℕ). slice_get l k) (are.sizes t l)
      ∙ slice_get-map (λ (v : Variable). v.size) w.variables k ∙ ap (option_map (λ (v : Variable). v.size)) d)

  as_many : (t : ℕ) → t < w.cycles → length (w.row t) ≡ length w.variables
  as_many t l = sym (length-map (w.row t) (λ (b : Bits). b.width)) ∙ ap length (are.sizes t l) ∙ length-map w.variables (λ (v : Variable). v.size)

  first_is : (k : ℕ) (value : Bits) → 0 < w.cycles → slice_get (w.row 0) k ≡ Some value → last_digits (1 + k) (told_step (zero_step w)) ≡ Some (binary_digits value.width value.value)
  first_is k value l e =
      let some : nat_lt 0 w.cycles ≡ true = grind (arith, nat_tests) in
      ap (λ b. latest (last_digits (1 + k) (map (told_value 0) (cond b (all_from 1 (w.row 0)) []))) (cond (0 == 1 + k) (Some (binary_digits 1 0)) None)) some
      ∙ ap (λ o. latest o (cond (0 == 1 + k) (Some (binary_digits 1 0)) None)) (last_all 0 1 k (w.row 0) value e)

  next_is : (t k : ℕ) (old value : Bits) → t + 1 < w.cycles → slice_get (w.row t) k ≡ Some old → slice_get (w.row (t + 1)) k ≡ Some value
      → latest (last_digits (1 + k) (flat_map told_step (cs w t))) (Some (binary_digits old.width old.value)) ≡ Some (binary_digits value.width value.value)
  next_is t k old value l d e =
      let some : nat_lt (t + 1) w.cycles ≡ true = grind (arith, nat_tests) in
      let no_clock : (0 == 1 + k) ≡ false = other 0 (1 + k) (λ z. absurd (omega arith)) in
      let behind = map (told_value (10 * t + 5)) (differing_from 1 (w.row t) (w.row (t + 1))) in
      let before = Some (binary_digits old.width old.value) in
      let fallen : last_digits (1 + k) (told_step (fall t) ++ []) ≡ None = ap (λ b. latest None (cond b (Some (binary_digits 1 0)) None)) no_clock in
      ap (λ o. latest o before)
      (last_joined (1 + k) (told_step (rise w.cycles w.row t)) (told_step (fall t) ++ [])
      ∙ ap (λ o. latest o (last_digits (1 + k) (told_step (rise w.cycles w.row t)))) fallen
      ∙ ap₂ (λ (b c : Bool). latest (last_digits (1 + k) (map (told_value (10 * t + 5)) (cond b (differing_from 1 (w.row t) (w.row (t + 1))) []))) (cond c (Some (binary_digits 1 1)) None)) some no_clock
      ∙ latest_none (last_digits (1 + k) behind))
      ∙ last_differing (10 * t + 5) 1 k (w.row t) (w.row (t + 1)) old value d e

  last_is : (t k : ℕ) (value : Bits) → t < w.cycles → slice_get (w.row t) k ≡ Some value → last_digits (1 + k) (flat_map told_step (steps_to w t)) ≡ Some (binary_digits value.width value.value)
  last_is zero k value l e = ap (last_digits (1 + k)) (append-nil (told_step (zero_step w))) ∙ first_is k value l e
  last_is (suc t) k value l e =
      let within = slice_get_within (w.row (suc t)) k value e in
      let many = as_many t (omega arith) in
      let more = as_many (suc t) l in
      let old = there (w.row t) k (omega (arith, within, many, more)) in
      let next : suc t ≡ t + 1 = omega arith in
      ap (λ (l : List Step). last_digits (1 + k) (flat_map told_step l)) (steps_next w t)
      ∙ ap (last_digits (1 + k)) (flat_map-append told_step (steps_to w t) (cs w t))
      ∙ last_joined (1 + k) (flat_map told_step (steps_to w t)) (flat_map told_step (cs w t))
      ∙ ap (latest (last_digits (1 + k) (flat_map told_step (cs w t)))) (last_is t k old.0 (omega arith) old.1)
      ∙ next_is t k old.0 value (omega arith) old.1 (ap (λ n. slice_get (w.row n) k) (sym next) ∙ e)

  told_at : (t k : ℕ) (var : Variable) (value : Bits) → t < w.cycles → slice_get w.variables k ≡ Some var → slice_get (w.row t) k ≡ Some value
      → sample_before (told (dump_of w)).changes (var_named (told (dump_of w)) w.scope var.name) (10 * t + 5) ≡ Known value
  told_at t k var value l d e =
      let found = found_by_name w.scope 0 (clock ∷ w.variables) are.apart (suc k) var d in
      let same = sized t k var value l d e in
      let is = each_at IsBits (w.row t) k value (are.bits t l) e in
      let number : 0 + suc k ≡ 1 + k = omega arith in
      ap (λ o. sample_before (told_changes (dump_of w)) o (10 * t + 5)) found
      ∙ ap₂ (λ (n : ℕ) (c : List Change). sample_of var.size (last_digits n c)) number (before_rise w t (omega arith))
      ∙ ap₂ (λ (size : ℕ) (o : Option (List ℕ)). sample_of size o) (sym same) (last_is t k value l e)
      ∙ value_is value.width value.value is.most is.fits

pub waves_are_told : WavesAreTold
waves_are_told w are = record { times = times w; values = told_at w are }
