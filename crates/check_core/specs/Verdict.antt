-- The verdict on an elaborated design.
use Rattle.std.specs.Prelude.{List, [], ◌∷◌, Option, Some, None, option_map, slice_get}
use Rattle.design_core.specs.declared.design.Instance.{Instance}
use Rattle.design_core.specs.Design.{Variant, Design}
use Rattle.check_core.specs.declared.fault.CheckFault.{CheckFault}
use Rattle.check_core.specs.declared.fault.Refusal.{Refusal}
use Rattle.check_core.specs.declared.fault.Refusal.TheVariants.{UnknownName, DuplicateName, BadWidth, UnknownPort, UnboundInput, WidthMismatch, TwoDrivers, Undriven, Latch, ReadBeforeWrite}
use Rattle.check_core.specs.Faults.{first_of, fault_in}
use Rattle.check_core.specs.Names.{unknown_name, duplicate_name}
use Rattle.check_core.specs.Ports.{unknown_port, unbound_input}
use Rattle.check_core.specs.Widths.{bad_width, width_mismatch}
use Rattle.check_core.specs.Drivers.{two_drivers, undriven}
use Rattle.check_core.specs.Paths.{latch, read_before_write}

-- where a variant among these is refused first: signals as declared; children in order, each with its connections in order, then its
-- inputs; blocks in order, their statements in preorder
abbrev pub refused : Refusal → List Variant → Variant → Option CheckFault
refused UnknownName variants v = unknown_name v
refused DuplicateName variants v = duplicate_name v
refused BadWidth variants v = bad_width v
refused UnknownPort variants v = unknown_port variants v
refused UnboundInput variants v = unbound_input variants v
refused WidthMismatch variants v = width_mismatch variants v
refused TwoDrivers variants v = two_drivers v
refused Undriven variants v = undriven v
refused Latch variants v = latch v
refused ReadBeforeWrite variants v = read_before_write v

-- an instance, as its variant
abbrev pub refused_variant : Refusal → List Variant → Option Variant → Option CheckFault
refused_variant refusal variants None = None
refused_variant refusal variants (Some v) = refused refusal variants v

abbrev pub refused_at : Refusal → Design → Instance → Option CheckFault
refused_at refusal d i = option_map (fault_in i.path) (refused_variant refusal d.variants (slice_get d.variants i.variant))

-- the first instance in preorder counts
abbrev pub refused_by : Design → Refusal → Option CheckFault
refused_by d refusal = first_of (refused_at refusal d) d.instances

-- the refusals in the order in which they are tested
abbrev pub in_order : List Refusal
in_order = UnknownName ∷ DuplicateName ∷ BadWidth ∷ UnknownPort ∷ UnboundInput ∷ WidthMismatch ∷ TwoDrivers ∷ Undriven ∷ Latch ∷ ReadBeforeWrite ∷ []

-- the first refusal that the design has, if it has one
abbrev pub verdict : Design → Option CheckFault
verdict d = first_of (refused_by d) in_order
