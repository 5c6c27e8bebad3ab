-- What a debugger walks: positions, their threads, and what names have there; and the text of a trail through it.
use Rattle.std.specs.Prelude.{◌≡◌, ℕ, ◌<◌, ◌==◌, ℤ, List, ◌++◌, length, codes, Option, Some, None, slice_get, slice_index_or, if◌then◌else◌}
use Rattle.std.specs.List.{flat_map, enumerate_from}
use Rattle.std.specs.Fmt.{decimal, signed_decimal}
use Rattle.places.specs.Places.{file_of, line_in}
use Rattle.bv_core.specs.Value.{Bits}
use Rattle.bv_core.specs.Text as text
use Rattle.exec_core.specs.Block.{Name}
use Rattle.list_core.specs.Lists.{IsIn, from}
use Rattle.design_core.specs.Design.{Gens}

-- what a name stands for at a statement of an instance, whatever the cycle: nothing, as some path to the statement does not assign
-- it; an expression that was not kept; or a value of this width
pub data Status : Type 0 where
  IsUnset : Status
  IsRemoved : Status
  HasWidth : (width : ℕ) → Status

-- a statement as it is shown: its place, the generator variables at it, the names in scope, and the instances that have it, in
-- preorder
pub record Shows : Type 0 where
  pub line : ℕ
  pub gens : Gens
  pub names : List Name
  pub instances : List ℕ

-- what is shown of a name: by its status, and by its value, if that is known
pub data Shown : Type 0 where
  Value : Bits → Shown
  Unknown : Shown
  Unset : Shown
  Removed : Shown

abbrev pub shown_by : Status → Option Bits → Shown
shown_by IsUnset v = Unset
shown_by IsRemoved v = Removed
shown_by (HasWidth width) (Some bits) = Value bits
shown_by (HasWidth width) None = Unknown

-- the value that is shown, where one is
abbrev pub value_shown : Shown → Option Bits
value_shown (Value bits) = Some bits
value_shown Unknown = None
value_shown Unset = None
value_shown Removed = None

-- a world: how many cycles there are; the paths of the instances, in preorder; the statements, in the order of their slots; the
-- status of each name at a statement of an instance; the instances that are threads of a slot in a cycle, in preorder; and what is
-- shown of a name there
pub record World : Type 0 where
  pub cycles : ℕ
  pub paths : List Name
  pub slots : List Shows
  pub status : (slot instance : ℕ) → Name → Status
  pub threads : (cycle slot : ℕ) → List ℕ
  pub shown : (cycle slot instance : ℕ) → Name → Shown

-- ---- worlds that differ in nothing that can be seen

-- a name is in scope at a statement
pub record IsInScope (w : World) (k : ℕ) (x : Name) : Type 0 where
  pub shows : Shows
  pub slot : slice_get w.slots k ≡ Some shows
  pub name : IsIn x shows.names

-- an instance has a statement
pub record HasStatement (w : World) (k i : ℕ) : Type 0 where
  pub shows : Shows
  pub slot : slice_get w.slots k ≡ Some shows
  pub instance : IsIn i shows.instances

-- the same cycles, paths and statements; the same status of each name in scope at a statement of an instance; in each cycle the same
-- threads of each statement, and in each of them the same of each name in scope
pub record AreSame (v w : World) : Type 0 where
  pub cycles : v.cycles ≡ w.cycles
  pub paths : v.paths ≡ w.paths
  pub slots : v.slots ≡ w.slots
  pub status : (k i : ℕ) (x : Name) → HasStatement w k i → IsInScope w k x → v.status k i x ≡ w.status k i x
  pub threads : (t k : ℕ) → t < w.cycles → k < length w.slots → v.threads t k ≡ w.threads t k
  pub shown : (t k i : ℕ) (x : Name) → t < w.cycles → IsIn i (w.threads t k) → IsInScope w k x → v.shown t k i x ≡ w.shown t k i x

-- ---- the text of a trail

abbrev pub shown_text : Shown → List ℕ
shown_text (Value bits) = text.shown bits
shown_text Unknown = codes "x"
shown_text Unset = codes "unset"
shown_text Removed = codes "removed"

-- a blank, and name=number or name=shown
abbrev pub gen_text : Name × ℤ → List ℕ
gen_text g = codes " " ++ g.0 ++ codes "=" ++ signed_decimal g.1

abbrev pub name_text : (Name → Shown) → Name → List ℕ
name_text shown x = codes " " ++ x ++ codes "=" ++ shown_text (shown x)

-- a place in one word: the line alone in file 0, and FILE:LINE in another
abbrev pub place_text : ℕ → List ℕ
place_text at = if file_of at == 0 then decimal (line_in at) else decimal (file_of at) ++ codes ":" ++ decimal (line_in at)

-- the cycle, the place, the path, the generator variables, and the names in scope, joined by one blank
abbrev pub trail_line : ℕ → Shows → Name → (Name → Shown) → List ℕ
trail_line cycle slot path shown =
    decimal cycle ++ codes " " ++ place_text slot.line ++ codes " " ++ path ++ flat_map gen_text slot.gens ++ flat_map (name_text shown) slot.names ++ codes "\n"

-- the path of an instance
abbrev pub path_in : World → ℕ → Name
path_in w i = slice_index_or w.paths i (codes "")

-- a position: a line for each of its threads
abbrev pub position_text : World → ℕ → ℕ × Shows → List ℕ
position_text w cycle slot = flat_map (λ i. trail_line cycle slot.1 (path_in w i) (w.shown cycle slot.0 i)) (w.threads cycle slot.0)

-- a cycle: the slots in the order of their numbers
abbrev pub cycle_text : World → ℕ → List ℕ
cycle_text w cycle = flat_map (position_text w cycle) (enumerate_from 0 w.slots)

-- the whole: cycle after cycle
abbrev pub trail_text : World → List ℕ
trail_text w = flat_map (cycle_text w) (from 0 w.cycles)

-- worlds that are the same have one trail
abbrev pub SameTrails : Type 0
SameTrails = (v w : World) → AreSame v w → trail_text v ≡ trail_text w
