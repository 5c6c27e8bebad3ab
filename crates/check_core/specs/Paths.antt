-- Paths through a block: each chooses one branch of every `if`, and of every `case` one arm, its default or, where it has none, no arm,
-- whatever the values are. A path assigns the bits of a name that its assignments assign.
use Rattle.std.specs.Prelude.{ℕ, ℤ, Bool, true, false, ◌&&◌, ◌||◌, not, bytes_eq, List, Option, Some, None, option_map, unwrap_or, find, if◌then◌else◌}
use Rattle.std.specs.List.{list_any}
use Rattle.exec_core.specs.Block.{Part, covers}
use Rattle.exec_core.specs.Decided.{some_below}
use Rattle.design_core.specs.declared.variant.Signal.{Signal}
use Rattle.design_core.specs.Design.{Expr, Read, Out, Value, Unary, Binary, Mux, Zext, Slice, Stmt, Assign, Let, If, Case, Body, Done, Then, Else, NoElse, Otherwise, Arms, NoArms, ThenArm, Block, Variant}
use Rattle.design_core.specs.Slots.{lets_of}
use Rattle.design_core.specs.Widths.{bits}
use Rattle.check_core.specs.declared.fault.CheckFault.{CheckFault}
use Rattle.check_core.specs.declared.fault.CheckFault.TheVariants.{Latch, ReadBeforeWrite}
use Rattle.names.specs.Known.{Name, Known, has}
use Rattle.check_core.specs.Faults.{earlier, first_of, spot}
use Rattle.check_core.specs.Drivers.{Drive, driven_in}
use Rattle.check_core.specs.Widths.{is_slice}

-- bits of names
abbrev pub Bits : Type 0
Bits = Name → ℕ → Bool

-- the bits that an assignment sets. Bounds that are none set no bit
abbrev pub part_in : Option (ℤ × ℤ) → Option Part
part_in None = None
part_in (Some bounds) = if is_slice bounds.0 bounds.1 then Some (record { high = bits bounds.0; low = bits bounds.1 }) else Some (record { high = 0; low = 1 })

abbrev pub no_arms : Arms → Bool
no_arms NoArms = true
no_arms (ThenArm tests body rest) = false

-- some path through it does not assign this bit of the name. A `case` without an arm, which nobody writes, has a path that assigns nothing
abbrev mutual
  pub skips : Stmt → Bits
  skips (Assign slot line gens x part e) y i = not (bytes_eq y x && covers (part_in part) i)
  skips (Let slot line gens x e) y i = not (bytes_eq y x)
  skips (If slot line gens c first second) y i = body_skips first y i || else_skips second y i
  skips (Case slot line gens v arms other) y i = no_arms arms || (arms_skip arms y i || else_skips other y i)

  pub body_skips : Body → Bits
  body_skips Done y i = true
  body_skips (Then s rest) y i = skips s y i && body_skips rest y i

  pub else_skips : Else → Bits
  else_skips NoElse y i = true
  else_skips (Otherwise body) y i = body_skips body y i

  -- some path through one of the arms
  pub arms_skip : Arms → Bits
  arms_skip NoArms y i = false
  arms_skip (ThenArm tests body rest) y i = body_skips body y i || arms_skip rest y i

-- ---- widths of names

-- the declared width of the first signal of a name; 1 where there is none, since a `let` is assigned as a whole
abbrev pub declared_width : List Signal → Name → ℕ
declared_width signals x = unwrap_or (option_map (λ (s : Signal). bits s.width) (find (λ (s : Signal). bytes_eq s.name x) signals)) 1

-- ---- a target of a `comb` of which some path leaves a bit unassigned

abbrev pub latch_at : (Name → ℕ) → Block → Drive → Option CheckFault
latch_at widths b d = if some_below (widths d.1) (body_skips b.body d.1) then Some (Latch (spot b.line d.1)) else None

-- the targets in the order of their first assignments
abbrev pub latch_in : (Name → ℕ) → Block → Option CheckFault
latch_in widths b = if b.clocked then None else first_of (latch_at widths b) (driven_in b)

abbrev pub latch : Variant → Option CheckFault
latch v = first_of (latch_in (declared_width v.signals)) v.blocks

-- ---- a read of an own name of which some path has not assigned each bit

-- the own names of a block: its lets, and the targets of a `comb`
abbrev pub own : Block → Known
own b y = has (lets_of b.body) y || (not b.clocked && list_any (λ (d : Drive). bytes_eq y d.1) (driven_in b))

-- an expression from left to right, where some path has not assigned these bits
abbrev pub early_read : (Name → ℕ) → Bits → ℕ → Expr → Option CheckFault
early_read widths missing line (Read x) = if some_below (widths x) (missing x) then Some (ReadBeforeWrite (spot line x)) else None
early_read widths missing line (Out u q) = None
early_read widths missing line (Value l) = None
early_read widths missing line (Unary o e) = early_read widths missing line e
early_read widths missing line (Binary o a b) = earlier (early_read widths missing line a) (early_read widths missing line b)
early_read widths missing line (Mux c a b) = earlier (early_read widths missing line c) (earlier (early_read widths missing line a) (early_read widths missing line b))
early_read widths missing line (Zext e w) = early_read widths missing line e
early_read widths missing line (Slice e h l) = early_read widths missing line e

abbrev mutual
  pub early : (Name → ℕ) → Bits → Stmt → Option CheckFault
  early widths missing (Assign slot line gens x part e) = early_read widths missing line e
  early widths missing (Let slot line gens x e) = early_read widths missing line e
  early widths missing (If slot line gens c first second) =
      earlier (early_read widths missing line c) (earlier (early_in widths missing first) (early_in_else widths missing second))
  early widths missing (Case slot line gens v arms other) =
      earlier (early_read widths missing line v) (earlier (early_in_arms widths missing arms) (early_in_else widths missing other))

  pub early_in : (Name → ℕ) → Bits → Body → Option CheckFault
  early_in widths missing Done = None
  early_in widths missing (Then s rest) = earlier (early widths missing s) (early_in widths (λ y i. missing y i && skips s y i) rest)

  pub early_in_else : (Name → ℕ) → Bits → Else → Option CheckFault
  early_in_else widths missing NoElse = None
  early_in_else widths missing (Otherwise body) = early_in widths missing body

  pub early_in_arms : (Name → ℕ) → Bits → Arms → Option CheckFault
  early_in_arms widths missing NoArms = None
  early_in_arms widths missing (ThenArm tests body rest) = earlier (early_in widths missing body) (early_in_arms widths missing rest)

abbrev pub early_in_block : (Name → ℕ) → Block → Option CheckFault
early_in_block widths b = early_in widths (λ y i. own b y) b.body

abbrev pub read_before_write : Variant → Option CheckFault
read_before_write v = first_of (early_in_block (declared_width v.signals)) v.blocks
