-- What names have in the world of a run: nothing that is shown there is unknown.
use Rattle.std.specs.Prelude.{◌≡◌, ◌≢◌, ℕ, ◌<◌, List, length}
use Rattle.bv_core.specs.Value.{Bits}
use Rattle.tree_core.specs.Width.{IsOf}
use Rattle.exec_core.specs.Block.{Name}
use Rattle.exec_core.specs.Design.{driver_of}
use Rattle.list_core.specs.Lists.{IsIn}
use Rattle.exec_core.specs.Run.{IsRun}
use Rattle.exec_core.specs.Whole.{Place, IsOrder}
use Rattle.design_core.specs.Design.{Design}
use Rattle.design_exec.specs.Processes.{processes_of}
use Rattle.check_exec.specs.Premises.{IsSound}
use Rattle.world_core.specs.declared.mode.Mode.{Mode}
use Rattle.world_core.specs.World.{Status, IsUnset, IsRemoved, HasWidth, Shown, Value, Unknown, World, IsInScope}
use Rattle.world_core.specs.Source.{source_world}

-- where a status tells a width, a value of this width is shown
abbrev pub HasValue : Status → Shown → Type 0
HasValue IsUnset shown = Unit {0}
HasValue IsRemoved shown = Unit {0}
HasValue (HasWidth width) shown = (bits : Bits) × ((shown ≡ Value bits) × IsOf width bits)

-- a fact of each name in scope at each thread of each statement, in each cycle
abbrev pub EachShown : World → ((cycle slot instance : ℕ) → Name → Type 0) → Type 0
EachShown w P = (t k i : ℕ) (x : Name) → t < w.cycles → IsIn i (w.threads t k) → IsInScope w k x → P t k i x

abbrev pub NamesHaveValues : World → Type 0
NamesHaveValues w = EachShown w (λ t k i x. HasValue (w.status k i x) (w.shown t k i x))

abbrev pub NothingIsUnknown : World → Type 0
NothingIsUnknown w = EachShown w (λ t k i x. w.shown t k i x ≢ Unknown)

-- in every run of an accepted design with an order of its driven signals, from any registers
abbrev pub OfRuns : (World → Type 0) → Type 0
OfRuns P =
    (d : Design) → IsSound d → (order : List Place) → IsOrder (processes_of d).is_signal (driver_of (processes_of d)) order
    → (mode : Mode) (registers : Place → Bits) (rows : List (Name → Bits)) (run : List (Place → Bits)) → IsRun (processes_of d) registers rows run
    → P (source_world d (length order) mode run)

abbrev pub SourceHasValues : Type 0
SourceHasValues = OfRuns NamesHaveValues

abbrev pub SourceIsKnown : Type 0
SourceIsKnown = OfRuns NothingIsUnknown
