-- Which refusal a fault is of, and what a verdict tells.
use Rattle.std.specs.Prelude.{◌≡◌, Option, Some, None, slice_get}
use Rattle.list_core.specs.Lists.{IsIn}
use Rattle.design_core.specs.declared.design.Instance.{Instance}
use Rattle.design_core.specs.Design.{Variant, Design}
use Rattle.check_core.specs.declared.fault.CheckFault.{CheckFault}
use Rattle.check_core.specs.declared.fault.CheckFault.TheVariants as fault
use Rattle.check_core.specs.declared.fault.Refusal.{Refusal}
use Rattle.check_core.specs.declared.fault.Refusal.TheVariants as refusal
use Rattle.check_core.specs.Verdict.{refused_by, verdict}

-- want of memory is none
abbrev pub refusal_of : CheckFault → Option Refusal
refusal_of (fault.UnknownName at) = Some refusal.UnknownName
refusal_of (fault.DuplicateName at) = Some refusal.DuplicateName
refusal_of (fault.BadWidth at) = Some refusal.BadWidth
refusal_of (fault.UnknownPort at) = Some refusal.UnknownPort
refusal_of (fault.UnboundInput at) = Some refusal.UnboundInput
refusal_of (fault.WidthMismatch at have want) = Some refusal.WidthMismatch
refusal_of (fault.TwoDrivers at first) = Some refusal.TwoDrivers
refusal_of (fault.Undriven at) = Some refusal.Undriven
refusal_of (fault.Latch at) = Some refusal.Latch
refusal_of (fault.ReadBeforeWrite at) = Some refusal.ReadBeforeWrite
refusal_of fault.NoMemory = None

-- the fault of a verdict is what the design is refused for by the test of its own kind
abbrev pub VerdictsAreOfTheirKind : Type 0
VerdictsAreOfTheirKind = (d : Design) (f : CheckFault) → verdict d ≡ Some f → (why : Refusal) × ((refusal_of f ≡ Some why) × (refused_by d why ≡ Some f))

-- a variant that an instance of the design has
pub record IsUsed (d : Design) (v : Variant) : Type 0 where
  pub instance : Instance
  pub among : IsIn instance d.instances
  pub variant : slice_get d.variants instance.variant ≡ Some v

-- no verdict on the design is a fault of this kind
abbrev pub IsNotRefusedFor : Refusal → Design → Type 0
IsNotRefusedFor why d = (f : CheckFault) → verdict d ≡ Some f → refusal_of f ≡ Some why → ⊥
