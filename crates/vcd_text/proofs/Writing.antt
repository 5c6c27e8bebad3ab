-- Waves make a file that can be written.
use Rattle.std.proofs.Common.{◌≡◌, ℕ, zero, suc, ◌+◌, ◌*◌, ◌<◌, ◌≤◌, Bool, true, false, cond, List, [], ◌∷◌, map, Some, refl, sym, ap, ◌∙◌, arith}
use Rattle.std.specs.Prelude.{nat_lt, slice_get}
use Rattle.std.specs.List.{flat_map}
use Rattle.std.proofs.lemmas.Bool.Decides.{nat_tests}
use Rattle.bv_core.specs.Value.{Bits, IsBits}
use Rattle.tree_core.specs.Fold.{same_bits}
use Rattle.list_core.specs.Lists.{EachOf, from}
use Rattle.vcd_text.specs.Dump.{Variable}
use Rattle.vcd_text.specs.Told.{IsVariable, IsGiven, AreSteps}
use Rattle.vcd_text.specs.Waves.{Waves, bit, all_from, differing_from, cycle_steps, clock, AreWaves, WavesAreDumps}

abbrev width_of : Bits → ℕ
width_of value = value.width

abbrev size_of : Variable → ℕ
size_of var = var.size

-- the variables stand at these numbers among all
abbrev StandAt : List Variable → ℕ → List Variable → Type 0
StandAt all number [] = Unit {0}
StandAt all number (var ∷ vars) = (slice_get all number ≡ Some var) × StandAt all (number + 1) vars

stand_behind : (fronts : List Variable) (all vars : List Variable) (number : ℕ) → ((k : ℕ) (var : Variable) → slice_get vars k ≡ Some var → slice_get all (number + k) ≡ Some var) → StandAt all number vars
stand_behind fronts all [] number h = tt
stand_behind fronts all (var ∷ vars) number h = (
  ap (slice_get all) (let z : number ≡ number + 0 = omega arith in z) ∙ h 0 var refl,
  stand_behind fronts all vars (number + 1) (λ k v e. ap (slice_get all) (let z : number + 1 + k ≡ number + suc k = omega arith in z) ∙ h (suc k) v e),
)

one_given : (all : List Variable) (number : ℕ) (var : Variable) (value : Bits) → slice_get all number ≡ Some var → value.width ≡ var.size → IsBits value → IsGiven all (number, value)
one_given all number var value at size is = record { var = var; at = at; size = sym size; some = is.some }

heads_same : (x y : ℕ) (xs ys : List ℕ) → x ∷ xs ≡ y ∷ ys → x ≡ y
heads_same x y xs ys e = cc

tails_same : (x y : ℕ) (xs ys : List ℕ) → x ∷ xs ≡ y ∷ ys → xs ≡ ys
tails_same x y xs ys e = cc

all_given : (all vars : List Variable) (number : ℕ) (values : List Bits) → StandAt all number vars → map width_of values ≡ map size_of vars → EachOf IsBits values → EachOf (IsGiven all) (all_from number values)
all_given all vars number [] stand e bits = tt
all_given all [] number (v ∷ values) stand e bits = cc
all_given all (var ∷ vars) number (v ∷ values) stand e bits = (
  one_given all number var v stand.0 (heads_same v.width var.size (map width_of values) (map size_of vars) e) bits.0,
  all_given all vars (number + 1) values stand.1 (tails_same v.width var.size (map width_of values) (map size_of vars) e) bits.1,
)

differing_given : (all vars : List Variable) (number : ℕ) (olds values : List Bits) → StandAt all number vars → map width_of values ≡ map size_of vars → EachOf IsBits values → EachOf (IsGiven all) (differing_from number olds values)
differing_given all vars number olds [] stand e bits = tt
differing_given all vars number [] (v ∷ values) stand e bits = tt
differing_given all [] number (old ∷ olds) (v ∷ values) stand e bits = cc
differing_given all (var ∷ vars) number (old ∷ olds) (v ∷ values) stand e bits =
    by_test (same_bits old v)
    (one_given all number var v stand.0 (heads_same v.width var.size (map width_of values) (map size_of vars) e) bits.0)
    (differing_given all vars (number + 1) olds values stand.1 (tails_same v.width var.size (map width_of values) (map size_of vars) e) bits.1)
  where
    by_test : (b : Bool) → IsGiven all (number, v) → EachOf (IsGiven all) (differing_from (number + 1) olds values) → EachOf (IsGiven all) (cond b (differing_from (number + 1) olds values) ((number, v) ∷ differing_from (number + 1) olds values))
    by_test true one rest = rest
    by_test false one rest = (one, rest)

module _ (w : Waves) (are : AreWaves w) where
  abbrev all : List Variable
  all = clock ∷ w.variables

  stand : StandAt all 1 w.variables
  stand = stand_behind [] all w.variables 1 (λ k var e. ap (slice_get all) (let z : 1 + k ≡ suc k = omega arith in z) ∙ e)

  clock_given : (value : ℕ) → IsGiven all (0, bit value)
  clock_given value = record { var = clock; at = refl; size = refl; some = omega arith }

  first_given : (b : Bool) → nat_lt 0 w.cycles ≡ b → EachOf (IsGiven all) (cond b (all_from 1 (w.row 0)) [])
  first_given false e = tt
  first_given true e = let some : 0 < w.cycles = grind (arith, nat_tests) in all_given all w.variables 1 (w.row 0) stand (are.sizes 0 some) (are.bits 0 some)

  next_given : (t : ℕ) (b : Bool) → nat_lt (t + 1) w.cycles ≡ b → EachOf (IsGiven all) (cond b (differing_from 1 (w.row t) (w.row (t + 1))) [])
  next_given t false e = tt
  next_given t true e = let inside : t + 1 < w.cycles = grind (arith, nat_tests) in differing_given all w.variables 1 (w.row t) (w.row (t + 1)) stand (are.sizes (t + 1) inside) (are.bits (t + 1) inside)

  cycles_given : (time a n : ℕ) → time ≤ 10 * a + 5 → a + n ≤ w.cycles → AreSteps all time (flat_map (cycle_steps w.cycles w.row) (from a n))
  cycles_given time a zero l m = tt
  cycles_given time a (suc n) l m =
      let few = are.few in (
        l,
        (
          omega arith,
          (
            (clock_given 1, next_given a (nat_lt (a + 1) w.cycles) refl),
            (omega arith, (omega arith, ((clock_given 0, tt), cycles_given (10 * a + 10) (a + 1) n (omega arith) (omega arith)))),
          ),
        ),
      )

  clock_is : IsVariable clock
  clock_is = record { name = refl; some = omega arith; most = omega arith }

pub waves_are_dumps : WavesAreDumps
waves_are_dumps w are = record {
  scope = are.scope;
  variables = (clock_is w are, are.variables);
  first = (clock_given w are 0, first_given w are (nat_lt 0 w.cycles) refl);
  steps = cycles_given w are 0 0 w.cycles (omega arith) (omega arith);
}
