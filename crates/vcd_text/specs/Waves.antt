-- The file of waves: a clock that rises once in each cycle, and variables that have values in each cycle.
use Rattle.std.specs.Prelude.{◌≡◌, ℕ, ◌+◌, ◌*◌, ◌<◌, ◌≤◌, false, List, [], ◌∷◌, map, slice_get, Some, codes, nat_lt, if◌then◌else◌, true}
use Rattle.std.specs.List.{flat_map}
use Rattle.bv_core.specs.Value.{Bits, IsBits}
use Rattle.bv_core.specs.declared.reference.Sample.TheVariants.{Known}
use Rattle.tree_core.specs.Fold.{same_bits}
use Rattle.list_core.specs.Lists.{EachOf, AreApart, from}
use Rattle.vcd_samples.specs.Samples.{var_named, rises, sample_before}
use Rattle.vcd_text.specs.Dump.{Variable, Step, Dump}
use Rattle.vcd_text.specs.Told.{is_plain, IsVariable, IsDump, told}

-- the name of the scope, the variables behind the clock, how many cycles there are, and the values in each, in the order of
-- the variables
pub record Waves : Type 0 where
  pub scope : List ℕ
  pub variables : List Variable
  pub cycles : ℕ
  pub row : ℕ → List Bits

-- 0 or 1, which the clock is given
abbrev pub bit : ℕ → Bits
bit value = record { width = 1; value = value }

-- values of the variables from this number on
abbrev pub all_from : ℕ → List Bits → List (ℕ × Bits)
all_from number [] = []
all_from number (value ∷ values) = (number, value) ∷ all_from (number + 1) values

-- those that differ from the values before
abbrev pub differing_from : ℕ → List Bits → List Bits → List (ℕ × Bits)
differing_from number olds [] = []
differing_from number [] (value ∷ values) = []
differing_from number (old ∷ olds) (value ∷ values) =
    if same_bits old value then differing_from (number + 1) olds values else (number, value) ∷ differing_from (number + 1) olds values

-- at time 0 the clock is 0, and the others have their values of the first cycle, where there is one
abbrev pub first_of : ℕ → (ℕ → List Bits) → List (ℕ × Bits)
first_of cycles row = (0, bit 0) ∷ (if nat_lt 0 cycles then all_from 1 (row 0) else [])

-- the clock rises at the end of a cycle, and the others take their values of the next, where there is one
abbrev pub rise : ℕ → (ℕ → List Bits) → ℕ → Step
rise cycles row t = record {
  time = 10 * t + 5;
  values = (0, bit 1) ∷ (if nat_lt (t + 1) cycles then differing_from 1 (row t) (row (t + 1)) else []);
}

-- and then it falls
abbrev pub fall : ℕ → Step
fall t = record { time = 10 * t + 10; values = (0, bit 0) ∷ [] }

abbrev pub cycle_steps : ℕ → (ℕ → List Bits) → ℕ → List Step
cycle_steps cycles row t = rise cycles row t ∷ fall t ∷ []

abbrev pub clock : Variable
clock = record { register = false; size = 1; name = codes "clk" }

-- the file: the clock is the variable of number 0
abbrev pub dump_of : Waves → Dump
dump_of w = record {
  scope = w.scope;
  variables = clock ∷ w.variables;
  first = first_of w.cycles w.row;
  steps = flat_map (cycle_steps w.cycles w.row) (from 0 w.cycles);
}

-- waves that can be written: names that differ, in each cycle a value for each variable, of its size, and times of 64 bits
pub record AreWaves (w : Waves) : Type 0 where
  pub scope : is_plain w.scope ≡ true
  pub variables : EachOf IsVariable w.variables
  pub apart : AreApart (codes "clk" ∷ map (λ (var : Variable). var.name) w.variables)
  pub few : w.cycles ≤ 1000000000000000000
  pub sizes : (t : ℕ) → t < w.cycles → map (λ (value : Bits). value.width) (w.row t) ≡ map (λ (var : Variable). var.size) w.variables
  pub bits : (t : ℕ) → t < w.cycles → EachOf IsBits (w.row t)

-- by what the file tells, the clock rises once in each cycle, and each variable has before that the value that it has in the cycle
pub record AreTold (w : Waves) : Type 0 where
  pub times : rises (told (dump_of w)) w.scope ≡ map (λ t. 10 * t + 5) (from 0 w.cycles)
  pub values : (t k : ℕ) (var : Variable) (value : Bits) → t < w.cycles → slice_get w.variables k ≡ Some var → slice_get (w.row t) k ≡ Some value
      → sample_before (told (dump_of w)).changes (var_named (told (dump_of w)) w.scope var.name) (10 * t + 5) ≡ Known value

abbrev pub WavesAreTold : Type 0
WavesAreTold = (w : Waves) → AreWaves w → AreTold w

-- waves make a file that can be written
abbrev pub WavesAreDumps : Type 0
WavesAreDumps = (w : Waves) → AreWaves w → IsDump (dump_of w)
