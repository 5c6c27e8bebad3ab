-- What a file that is written tells when it is read.
use Rattle.std.specs.Prelude.{◌≡◌, ℕ, ◌+◌, ◌^◌, ◌<◌, ◌≤◌, Bool, true, not, List, [], ◌∷◌, ◌++◌, length, map, slice_get, Some, Ok, ◌&&◌, ◌==◌}
use Rattle.std.specs.List.{flat_map, list_all}
use Rattle.bv_core.specs.Value.{Bits}
use Rattle.list_core.specs.Lists.{EachOf}
use Rattle.vcd_read.specs.Words.{is_blank, has_bytes}
use Rattle.vcd_read.specs.Head.{Var}
use Rattle.vcd_read.specs.Changes.{Change}
use Rattle.vcd_read.specs.Meaning.{Meaning, meaning}
use Rattle.vcd_text.specs.Dump.{Variable, Step, Dump, binary_digits, dump_text}

-- a byte that a name may have: no blank, no dollar sign, no bracket and no backslash
abbrev pub is_plain_byte : ℕ → Bool
is_plain_byte byte = not (is_blank byte) && (not (byte == 36) && (not (byte == 91) && not (byte == 92)))

abbrev pub is_plain : List ℕ → Bool
is_plain name = has_bytes name && list_all is_plain_byte name

-- a variable that can be declared
pub record IsVariable (var : Variable) : Type 0 where
  pub name : is_plain var.name ≡ true
  pub some : 1 ≤ var.size
  pub most : var.size ≤ 128

-- a value for one of the variables, of its size
pub record IsGiven (variables : List Variable) (given : ℕ × Bits) : Type 0 where
  pub var : Variable
  pub at : slice_get variables given.0 ≡ Some var
  pub size : var.size ≡ given.1.width
  pub some : 1 ≤ given.1.width

-- steps at times that do not fall behind this one, of 64 bits, with values for the variables
abbrev pub AreSteps : List Variable → ℕ → List Step → Type 0
AreSteps variables time [] = Unit {0}
AreSteps variables time (step ∷ steps) = (time ≤ step.time) × ((step.time < 2 ^ 64) × (EachOf (IsGiven variables) step.values × AreSteps variables step.time steps))

-- a file that can be written
pub record IsDump (dump : Dump) : Type 0 where
  pub scope : is_plain dump.scope ≡ true
  pub variables : EachOf IsVariable dump.variables
  pub first : EachOf (IsGiven dump.variables) dump.first
  pub steps : AreSteps dump.variables 0 dump.steps

-- the variable of a number, with the code of that number
abbrev pub told_var : List ℕ → ℕ → Variable → Var
told_var scope number var = record { scope = scope; name = var.name; code = number; size = var.size; counted = true }

-- the variables, numbered from this number on
abbrev pub told_vars : List ℕ → ℕ → List Variable → List Var
told_vars scope number [] = []
told_vars scope number (var ∷ vars) = told_var scope number var ∷ told_vars scope (number + 1) vars

-- a value is a change, with all its digits
abbrev pub told_value : ℕ → ℕ × Bits → Change
told_value time given = record { time = time; code = given.0; digits = binary_digits given.1.width given.1.value }

abbrev pub told_step : Step → List Change
told_step step = map (told_value step.time) step.values

abbrev pub told_changes : Dump → List Change
told_changes dump = map (told_value 0) dump.first ++ flat_map told_step dump.steps

-- the scope, the variables in it, and each value as a change, in order
abbrev pub told : Dump → Meaning
told dump = record { scopes = dump.scope ∷ []; vars = told_vars dump.scope 0 dump.variables; changes = told_changes dump }

-- a text of at most 64 MiB
pub record IsShort (text : List ℕ) : Type 0 where
  pub most : length text ≤ 67108864

-- what is written of a file, up to 64 MiB, means the file
abbrev pub DumpsAreRead : Type 0
DumpsAreRead = (dump : Dump) → IsDump dump → IsShort (dump_text dump) → meaning (dump_text dump) ≡ Ok (told dump)
