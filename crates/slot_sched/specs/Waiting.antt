-- What a schedule looks at in a slot, by the samples of a cycle.
use Rattle.std.specs.Prelude.{◌≡◌, ℕ, ◌==◌, ◌&&◌, Bool, true, false, List, Option, Some, None, All, Contains}
use Rattle.std.specs.List.{list_any}
use Rattle.bv_core.specs.declared.Sample.{Sample}
use Rattle.bv_core.specs.declared.Truth.{Truth}
use Rattle.bv_core.specs.declared.Truth.TheVariants as truth
use Rattle.symtab.specs.declared.parts.TableParts.{TableParts}
use Rattle.symtab.specs.Lookups.{instances_of}
use Rattle.trace_core.specs.Samples.{Samples}
use Rattle.trace_core.specs.Known.{is_one}
use Rattle.trace_core.specs.declared.scan.Want.{Want}
use Rattle.trace_core.specs.declared.scan.Want.TheVariants.{Breakpoints, Step}
use Rattle.cond_lang.specs.declared.cond.Cond.{Cond}
use Rattle.cond_lang.specs.Bound.{EachNode, bound_value}
use Rattle.cond_lang.specs.Shown.{cond_tree, cond_width}
use Rattle.machine_core.specs.Matching.{is_wanted}
use Rattle.site_core.specs.declared.trap.Trap.{Trap}
use Rattle.slot_sched.specs.declared.armed.Armed.{Armed}
use Rattle.site_core.specs.Sampled.{is_thread, IsNodeOf}

-- ---- what can be looked at

-- the nodes of a condition, if there is one, are sampled, and it has width 1
abbrev pub IsTest : Samples → Option Cond → Type 0
IsTest s None = Unit {0}
IsTest s (Some cond) = (cond_width cond ≡ 1) × EachNode (IsNodeOf s) (cond_tree cond)

-- where a breakpoint waits there is an instance of the slot, and its condition can be evaluated
pub record IsReady (parts : TableParts) (s : Samples) (t : Trap) : Type 0 where
  pub instance : Contains (instances_of parts t.slot) t.instance
  pub test : IsTest s t.cond

pub record IsArmedReady (parts : TableParts) (s : Samples) (a : Armed) : Type 0 where
  pub traps : All (IsReady parts s) a.traps.items

pub record AreReady (parts : TableParts) (s : Samples) (armed : List Armed) : Type 0 where
  pub each : All (IsArmedReady parts s) armed

-- ---- what stops

abbrev pub is_true : Truth → Bool
is_true truth.True = true
is_true truth.False = false
is_true truth.Unknown = false

-- there is no condition, or it is known and true
abbrev pub test_holds : (ℕ → Sample) → Option Cond → Bool
test_holds samples None = true
test_holds samples (Some cond) = is_one (bound_value (λ node. samples node.0) (cond_tree cond))

-- it waits at this slot, where its instance is a thread and its condition holds
abbrev pub trap_stops : TableParts → (ℕ → Sample) → ℕ → Trap → Bool
trap_stops parts samples k t = (t.slot == k) && (is_thread parts samples t.slot t.instance && test_holds samples t.cond)

abbrev pub armed_stops : TableParts → (ℕ → Sample) → ℕ → Armed → Bool
armed_stops parts samples k a = list_any (trap_stops parts samples k) a.traps.items

abbrev pub any_stops : TableParts → (ℕ → Sample) → ℕ → List Armed → Bool
any_stops parts samples k armed = list_any (armed_stops parts samples k) armed

-- a step stops at each thread, or at one of the named instance
abbrev pub step_stops : TableParts → (ℕ → Sample) → ℕ → Option ℕ → ℕ → Bool
step_stops parts samples k named i = is_wanted named i && is_thread parts samples k i

abbrev pub any_steps : TableParts → (ℕ → Sample) → ℕ → Option ℕ → Bool
any_steps parts samples k named = list_any (step_stops parts samples k named) (instances_of parts k)

-- a slot has what is searched for
abbrev pub slot_stops : TableParts → (ℕ → Sample) → ℕ → List Armed → Want → Bool
slot_stops parts samples k armed Breakpoints = any_stops parts samples k armed
slot_stops parts samples k armed (Step named) = any_steps parts samples k named
