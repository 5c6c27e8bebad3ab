-- The samples that a value change dump file tells: in each cycle of a clock, the values that stand just before it rises.
use Rattle.std.specs.Prelude.{ℕ, ◌-◌, Bool, true, false, List, [], ◌∷◌, ◌++◌, length, map, replicate, get_or, Option, Some, None, codes, bytes_eq, nat_le, nat_lt, ◌==◌, ◌&&◌, ◌||◌, if◌then◌else◌}
use Rattle.std.specs.List.{filter, find, list_all}
use Rattle.text_core.specs.Digits.{number_of}
use Rattle.bv_core.specs.declared.reference.Sample.{Sample}
use Rattle.bv_core.specs.declared.reference.Sample.TheVariants.{Known, Unknown}
use Rattle.trace_core.specs.Samples.{Samples}
use Rattle.vcd_read.specs.Head.{Var}
use Rattle.vcd_read.specs.Changes.{Change}
use Rattle.vcd_read.specs.Meaning.{Meaning}

-- ---- values

abbrev pub is_bit : ℕ → Bool
is_bit digit = digit == 48 || digit == 49

-- what short digits are extended with: 0 where the first is 0 or 1, and otherwise that x or z
abbrev pub filler : List ℕ → ℕ
filler [] = 48
filler (digit ∷ digits) = if is_bit digit then 48 else digit

-- the digits of a value of this size, extended on the left
abbrev pub extended : ℕ → List ℕ → List ℕ
extended size digits = replicate (size - length digits) (filler digits) ++ digits

-- the value of these digits; one with x or z is not known, and none of more than 128 bits
abbrev pub value_of : ℕ → List ℕ → Sample
value_of size digits =
    if nat_le size 128 && list_all is_bit (extended size digits)
    then Known (record { width = size; value = number_of 2 (extended size digits) })
    else Unknown

-- what was found later, or else what was found before
abbrev pub latest : Option (List ℕ) → Option (List ℕ) → Option (List ℕ)
latest (Some later) before = Some later
latest None before = before

-- the digits of the last change of a code
abbrev pub last_digits : ℕ → List Change → Option (List ℕ)
last_digits code [] = None
last_digits code (change ∷ changes) = latest (last_digits code changes) (if change.code == code then Some change.digits else None)

-- the value of a code by its last change; one before the first change is not known
abbrev pub sample_of : ℕ → Option (List ℕ) → Sample
sample_of size None = Unknown
sample_of size (Some digits) = value_of size digits

abbrev pub value_by : ℕ → ℕ → List Change → Sample
value_by code size changes = sample_of size (last_digits code changes)

-- the changes earlier than a time, and those not later
abbrev pub before : ℕ → List Change → List Change
before time changes = filter (λ change. nat_lt change.time time) changes

abbrev pub up_to : ℕ → List Change → List Change
up_to time changes = filter (λ change. nat_le change.time time) changes

-- ---- the rises of a clock

abbrev pub is_number : ℕ → Sample → Bool
is_number number (Known value) = value.value == number
is_number number Unknown = false

-- the clock was 0 before this time, and is 1 at it
abbrev pub is_rise : List Change → Var → ℕ → Bool
is_rise changes clock time = is_number 0 (value_by clock.code clock.size (before time changes)) && is_number 1 (value_by clock.code clock.size (up_to time changes))

-- the times of changes, which do not fall, each once: those that differ from the one in front
abbrev pub times_behind : ℕ → List Change → List ℕ
times_behind time [] = []
times_behind time (change ∷ changes) = if change.time == time then times_behind time changes else change.time ∷ times_behind change.time changes

abbrev pub times_of : List Change → List ℕ
times_of [] = []
times_of (change ∷ changes) = change.time ∷ times_behind change.time changes

abbrev pub rises_of : List Change → Var → List ℕ
rises_of changes clock = filter (is_rise changes clock) (times_of changes)

-- ---- the samples of a scope

-- a variable of this name in this scope whose values are bits
abbrev pub is_var : List ℕ → List ℕ → Var → Bool
is_var scope name var = var.counted && (bytes_eq var.scope scope && bytes_eq var.name name)

-- the first of them
abbrev pub var_named : Meaning → List ℕ → List ℕ → Option Var
var_named m scope name = find (is_var scope name) m.vars

-- the times at which the clock of a scope rises; each ends a cycle
abbrev pub rises_by : List Change → Option Var → List ℕ
rises_by changes None = []
rises_by changes (Some clock) = rises_of changes clock

abbrev pub rises : Meaning → List ℕ → List ℕ
rises m scope = rises_by m.changes (var_named m scope (codes "clk"))

-- the value of a variable before a time
abbrev pub sample_before : List Change → Option Var → ℕ → Sample
sample_before changes None time = Unknown
sample_before changes (Some var) time = value_by var.code var.size (before time changes)

-- in each cycle, of each of these names, its value before the clock rises
abbrev pub samples_told : Meaning → List ℕ → List (List ℕ) → Samples
samples_told m scope names = record {
  cycles = length (rises m scope);
  nodes = length names;
  sample = λ t n. sample_before m.changes (var_named m scope (get_or names n [])) (get_or (rises m scope) t 0);
}
