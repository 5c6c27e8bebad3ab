-- What is known of a sample.
use Rattle.std.specs.Prelude.{Bool, false, ◌==◌, Option, Some, None}
use Rattle.bv_core.specs.Value.{Bits}
use Rattle.bv_core.specs.declared.reference.Sample.{Sample}
use Rattle.bv_core.specs.declared.reference.Sample.TheVariants.{Known, Unknown}

-- its value
abbrev pub known : Sample → Option Bits
known (Known bits) = Some bits
known Unknown = None

-- a value that is known and is 1: an enable that has it is on
abbrev pub is_one : Option Bits → Bool
is_one (Some bits) = bits.value == 1
is_one None = false
