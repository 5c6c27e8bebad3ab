-- Signals with two drivers, and signals with none.
use Rattle.std.specs.Prelude.{ℕ, ◌||◌, not, bytes_eq, List, [], ◌∷◌, Option, Some, None, option_map, if◌then◌else◌}
use Rattle.std.specs.List.{list_any}
use Rattle.design_core.specs.declared.variant.Signal.{Signal}
use Rattle.design_core.specs.Design.{Stmt, Conn, Child, Block, Variant}
use Rattle.check_core.specs.declared.fault.CheckFault.{CheckFault}
use Rattle.check_core.specs.declared.fault.CheckFault.TheVariants.{TwoDrivers, Undriven}
use Rattle.names.specs.Known.{Name, Known}
use Rattle.design_core.specs.Statements.{statements}
use Rattle.design_core.specs.Heads.{head_of, target_name}
use Rattle.check_core.specs.Faults.{earlier, first_of, spot}
use Rattle.check_core.specs.Names.{is_driven, unless_known, named_before, with_name}

-- what is driven at a line
abbrev pub Drive : Type 0
Drive = ℕ × Name

-- the line at which each name is driven first, if it is
abbrev pub Lines : Type 0
Lines = Name → Option ℕ

abbrev pub undriven_yet : Lines
undriven_yet x = None

-- one more drive, which counts for a name that has none before
abbrev pub driven_also : Lines → Drive → Lines
driven_also before d x = earlier (before x) (if bytes_eq x d.1 then Some d.0 else None)

abbrev pub all_driven : Lines → List Drive → Lines
all_driven before [] = before
all_driven before (d ∷ drives) = all_driven (driven_also before d) drives

-- a fault of a drive where the name is driven before
abbrev pub second_drive : Lines → Drive → Option CheckFault
second_drive before d = option_map (λ first. TwoDrivers (spot d.0 d.1) first) (before d.1)

-- ---- two connections of one input

abbrev pub conn_drive : Conn → Drive
conn_drive c = (c.line, c.port)

abbrev pub connected_twice : Lines → List Conn → Option CheckFault
connected_twice before [] = None
connected_twice before (c ∷ conns) = earlier (second_drive before (conn_drive c)) (connected_twice (driven_also before (conn_drive c)) conns)

abbrev pub twice_in_child : Child → Option CheckFault
twice_in_child c = connected_twice undriven_yet c.conns

-- ---- two blocks that assign one signal

-- the assignments of statements, each with its line
abbrev pub assignments : List Stmt → List Drive
assignments [] = []
assignments (s ∷ rest) = named_before (head_of s).line (target_name s) (assignments rest)

abbrev pub driven_in : Block → List Drive
driven_in b = assignments (statements b.body)

-- the first assignment in a block to what a block before it assigns
abbrev pub driven_twice : Lines → List Block → Option CheckFault
driven_twice before [] = None
driven_twice before (b ∷ blocks) = earlier (first_of (second_drive before) (driven_in b)) (driven_twice (all_driven before (driven_in b)) blocks)

abbrev pub two_drivers : Variant → Option CheckFault
two_drivers v = earlier (first_of twice_in_child v.children) (driven_twice undriven_yet v.blocks)

-- ---- a wire or an output that no block assigns

abbrev pub drives : List Drive → Known
drives all x = list_any (λ (d : Drive). bytes_eq x d.1) all

-- what is assigned after a statement, without those inside it
abbrev pub assigned_after : Known → Stmt → Known
assigned_after known s = with_name (target_name s) known

abbrev pub is_assigned : List Block → Known
is_assigned blocks x = list_any (λ (b : Block). drives (driven_in b) x) blocks

-- a signal, where these are assigned
abbrev pub undriven_at : Known → Signal → Option CheckFault
undriven_at assigned s = unless_known (not (is_driven s.kind) || assigned s.name) (Undriven (spot s.line s.name))

abbrev pub undriven : Variant → Option CheckFault
undriven v = first_of (undriven_at (is_assigned v.blocks)) v.signals
