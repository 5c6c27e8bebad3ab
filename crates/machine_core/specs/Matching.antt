-- What a position matches: the one place that says at what a running session stops.
use Rattle.std.specs.Prelude.{ℕ, zero, suc, ◌==◌, ◌&&◌, ◌||◌, not, Bool, true, false, List, [], Option, Some, None, filter, nat_eq}
use Rattle.std.specs.List.{list_any}
use Rattle.bv_core.specs.Value.{Bits}
use Rattle.gen_tree.specs.Tree.{Expr}
use Rattle.trace_core.specs.Known.{is_one}
use Rattle.trace_core.specs.declared.scan.Want.{Want}
use Rattle.trace_core.specs.declared.scan.Want.TheVariants.{Breakpoints, Step}
use Rattle.world_core.specs.World.{World, value_shown}
use Rattle.cond_lang.specs.Meaning.{value_by}
use Rattle.machine_core.specs.Positions.{cycle_at, slot_at}

-- an armed breakpoint: its number, its slots, the instance that was named, if one was, and its condition, if there is one
pub record Breakpoint : Type 0 where
  pub number : ℕ
  pub slots : List ℕ
  pub instance : Option ℕ
  pub condition : Option Expr

-- an armed watch: its number, its slots, its instance, and its expression
pub record Watch : Type 0 where
  pub number : ℕ
  pub slots : List ℕ
  pub instance : ℕ
  pub expr : Expr

-- what a session that runs stops for: the breakpoints and the watches that are armed
pub record Awaited : Type 0 where
  pub breakpoints : List Breakpoint
  pub watches : List Watch

abbrev pub breakpoints_alone : List Breakpoint → Awaited
breakpoints_alone breakpoints = record { breakpoints = breakpoints; watches = [] }

abbrev pub watches_alone : List Watch → Awaited
watches_alone watches = record { breakpoints = []; watches = watches }

-- an expression's value at a thread, by what is shown of names there; None where it is not known
abbrev pub value_there : World → (cycle slot instance : ℕ) → Expr → Option Bits
value_there w t k i e = value_by (λ x. value_shown (w.shown t k i x)) e

-- no instance was named, or this one was
abbrev pub is_wanted : Option ℕ → ℕ → Bool
is_wanted None i = true
is_wanted (Some named) i = i == named

-- there is no condition, or it is known and true
abbrev pub holds : World → (cycle slot instance : ℕ) → Option Expr → Bool
holds w t k i None = true
holds w t k i (Some e) = is_one (value_there w t k i e)

-- a thread fits a breakpoint: the slot is one of its own, the instance is the named one if one was named, and the condition holds
-- there
abbrev pub fits_breakpoint : World → (cycle slot instance : ℕ) → Breakpoint → Bool
fits_breakpoint w t k i b = list_any (nat_eq k) b.slots && (is_wanted b.instance i && holds w t k i b.condition)

-- both values are known, and they differ; those of one expression at one statement have one width
abbrev pub differ : Option Bits → Option Bits → Bool
differ (Some before) (Some here) = not (before.value == here.value)
differ (Some before) None = false
differ None here = false

-- an expression's value changed from the cycle before: the instance is a thread of the slot there too, and both values are known and
-- differ. So nothing changes in the first cycle
abbrev pub has_changed : World → (cycle slot instance : ℕ) → Expr → Bool
has_changed w zero k i e = false
has_changed w (suc t) k i e = list_any (nat_eq i) (w.threads t k) && differ (value_there w t k i e) (value_there w (suc t) k i e)

-- a thread fits a watch: slot and instance are its own, and the value of its expression changed
abbrev pub fits_watch : World → (cycle slot instance : ℕ) → Watch → Bool
fits_watch w t k i watch = list_any (nat_eq k) watch.slots && (i == watch.instance && has_changed w t k i watch.expr)

-- a thread is what the session runs to: it fits a watch or a breakpoint; or it is any thread, or one of the named instance
abbrev pub is_stop : World → Awaited → Want → (cycle slot instance : ℕ) → Bool
is_stop w awaited Breakpoints t k i = list_any (fits_watch w t k i) awaited.watches || list_any (fits_breakpoint w t k i) awaited.breakpoints
is_stop w awaited (Step named) t k i = is_wanted named i

-- a position matches where one of its threads is what the session runs to
abbrev pub matches : World → Awaited → Want → ℕ → Bool
matches w awaited want p = list_any (is_stop w awaited want (cycle_at w p) (slot_at w p)) (w.threads (cycle_at w p) (slot_at w p))

-- the watches that match at a slot in a cycle, in the order in which they were armed
abbrev pub watches_at : World → (cycle slot : ℕ) → List Watch → List Watch
watches_at w t k watches = filter (λ watch. list_any (λ i. fits_watch w t k i watch) (w.threads t k)) watches
