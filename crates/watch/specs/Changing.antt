-- What a watch looks at, by the samples of two cycles.
use Rattle.std.specs.Prelude.{ℕ, zero, suc, ◌==◌, ◌/◌, ◌%◌, ◌&&◌, Bool, false, List, length, Option, Some, None, All, Contains, if◌then◌else◌}
use Rattle.std.specs.List.{list_any}
use Rattle.bv_core.specs.Value.{Bits}
use Rattle.bv_core.specs.declared.Sample.{Sample}
use Rattle.symtab.specs.declared.parts.TableParts.{TableParts}
use Rattle.symtab.specs.Lookups.{instances_of}
use Rattle.trace_core.specs.Samples.{Samples}
use Rattle.cond_lang.specs.declared.cond.Cond.{Cond}
use Rattle.cond_lang.specs.Bound.{EachNode, bound_value}
use Rattle.cond_lang.specs.Shown.{cond_tree}
use Rattle.machine_core.specs.Matching.{differ}
use Rattle.site_core.specs.declared.trap.Trap.{Trap}
use Rattle.site_core.specs.Sampled.{IsNodeOf, is_thread}
use Rattle.watch.specs.declared.watched.Watched.{Watched}

-- the value of an expression
abbrev pub come_to : (ℕ → Sample) → Option Cond → Option Bits
come_to samples None = None
come_to samples (Some cond) = bound_value (λ node. samples node.0) (cond_tree cond)

-- where its instance is a thread
abbrev pub seen_by : TableParts → (ℕ → Sample) → Trap → Option Bits
seen_by parts samples t = if is_thread parts samples t.slot t.instance then come_to samples t.cond else None

-- it is known in the cycle before and in this one, and differs
abbrev pub trap_changes : TableParts → Samples → (cycle : ℕ) → Trap → Bool
trap_changes parts s zero t = false
trap_changes parts s (suc before) t = differ (seen_by parts (s.sample before) t) (seen_by parts (s.sample (suc before)) t)

-- so it is of a watch at a slot in a cycle
abbrev pub watch_stops : TableParts → Samples → (cycle slot : ℕ) → Watched → Bool
watch_stops parts s c k watch = list_any (λ (t : Trap). (t.slot == k) && trap_changes parts s c t) watch.traps.items

-- and at a position of one of these
abbrev pub position_changes : TableParts → Samples → List Watched → ℕ → Bool
position_changes parts s watches p = list_any (watch_stops parts s (p / length parts.slots) (p % length parts.slots)) watches

-- ---- what can be looked at

abbrev pub CanBeSeen : Samples → Option Cond → Type 0
CanBeSeen s None = Unit {0}
CanBeSeen s (Some cond) = EachNode (IsNodeOf s) (cond_tree cond)

-- it waits in an instance of the slot, and its expression can be evaluated
pub record IsSeen (parts : TableParts) (s : Samples) (t : Trap) : Type 0 where
  pub instance : Contains (instances_of parts t.slot) t.instance
  pub nodes : CanBeSeen s t.cond

pub record IsWatchReady (parts : TableParts) (s : Samples) (watch : Watched) : Type 0 where
  pub traps : All (IsSeen parts s) watch.traps.items

pub record AreWatchReady (parts : TableParts) (s : Samples) (watches : List Watched) : Type 0 where
  pub each : All (IsWatchReady parts s) watches
