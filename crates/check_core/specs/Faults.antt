-- The first fault that there is.
use Rattle.std.specs.Prelude.{◌≡◌, ℕ, Bool, true, false, List, [], ◌∷◌, Option, Some, None, Result, Ok, Err}
use Rattle.names.specs.Known.{Name}
use Rattle.check_core.specs.declared.fault.Spot.{Spot}
use Rattle.check_core.specs.declared.fault.CheckFault.{CheckFault}
use Rattle.check_core.specs.declared.fault.CheckFault.TheVariants.{UnknownName, DuplicateName, BadWidth, UnknownPort, UnboundInput, WidthMismatch, TwoDrivers, Undriven, Latch, ReadBeforeWrite, NoMemory}

-- the first of two
abbrev pub earlier : {A : Type 0} → Option A → Option A → Option A
earlier (Some a) b = Some a
earlier None b = b

-- the first that a test finds in a list
abbrev pub first_of : {X A : Type 0} → (X → Option A) → List X → Option A
first_of find [] = None
first_of find (x ∷ xs) = earlier (find x) (first_of find xs)

-- a line and a name of a module; which instance it is comes later
abbrev pub spot : ℕ → Name → Spot
spot line name = record { line = line; name = name; instance = [] }

abbrev pub spot_in : Name → Spot → Spot
spot_in path at = record { line = at.line; name = at.name; instance = path }

-- the fault of a module, in the instance of this path
abbrev pub fault_in : Name → CheckFault → CheckFault
fault_in path (UnknownName at) = UnknownName (spot_in path at)
fault_in path (DuplicateName at) = DuplicateName (spot_in path at)
fault_in path (BadWidth at) = BadWidth (spot_in path at)
fault_in path (UnknownPort at) = UnknownPort (spot_in path at)
fault_in path (UnboundInput at) = UnboundInput (spot_in path at)
fault_in path (WidthMismatch at have want) = WidthMismatch (spot_in path at) have want
fault_in path (TwoDrivers at first) = TwoDrivers (spot_in path at) first
fault_in path (Undriven at) = Undriven (spot_in path at)
fault_in path (Latch at) = Latch (spot_in path at)
fault_in path (ReadBeforeWrite at) = ReadBeforeWrite (spot_in path at)
fault_in path NoMemory = NoMemory

-- all but want of memory
abbrev pub is_fault : CheckFault → Bool
is_fault NoMemory = false
is_fault (UnknownName at) = true
is_fault (DuplicateName at) = true
is_fault (BadWidth at) = true
is_fault (UnknownPort at) = true
is_fault (UnboundInput at) = true
is_fault (WidthMismatch at have want) = true
is_fault (TwoDrivers at first) = true
is_fault (Undriven at) = true
is_fault (Latch at) = true
is_fault (ReadBeforeWrite at) = true

-- an answer tells the first fault: there is none where it is Ok, and where it is an error, this is it; want of memory alone is free
abbrev pub Tells : {A : Type 0} → Result A CheckFault → Option CheckFault → Type 0
Tells (Ok a) first = first ≡ None
Tells (Err fault) first = is_fault fault ≡ true → first ≡ Some fault
