-- The breakpoints that a schedule holds, and when they are those of a table.
use Rattle.std.specs.Prelude.{◌≡◌, ℕ, ◌+◌, ◌==◌, Bool, true, List, map, Option, option_map, All}
use Rattle.symtab.specs.declared.parts.TableParts.{TableParts}
use Rattle.cond_lang.specs.declared.cond.Cond.{Cond}
use Rattle.cond_lang.specs.declared.text.CondText.{CondText}
use Rattle.cond_lang.specs.TextShown.{text_expr}
use Rattle.machine_core.specs.Matching.{Breakpoint}
use Rattle.machine_core.specs.Numbers.{AreRising}
use Rattle.site_core.specs.declared.trap.Trap.{Trap}
use Rattle.slot_sched.specs.declared.armed.Armed.{Armed}
use Rattle.slot_sched.specs.declared.schedule.Schedule.{Schedule}
use Rattle.site_core.specs.Traps.{traps_of, trap_place, IsFittingAt, IsTrapOf}

-- ---- what a schedule holds

abbrev pub breakpoint_of : Armed → Breakpoint
breakpoint_of a = record { number = a.number; slots = a.slots.items; instance = a.instance; condition = option_map text_expr a.text }

-- the breakpoints, in the order in which they were armed
abbrev pub breakpoints : Schedule → List Breakpoint
breakpoints s = map breakpoint_of s.armed.items

-- the number of the next one
abbrev pub next_number : Schedule → ℕ
next_number s = s.given + 1

abbrev pub is_number : ℕ → Armed → Bool
is_number bp a = a.number == bp

-- the numbers of the breakpoints rise, from 1 on, and are below that of the next one; so no number is given twice
abbrev pub AreInOrder : Schedule → Type 0
AreInOrder s = AreRising 1 (map (λ b. b.number) (breakpoints s)) (next_number s)

-- what is armed, where each breakpoint waits, and the next number are as they were: so it holds the same breakpoints, in the same order, and
-- they are of the tables that they were of
pub record IsAsBefore (old new : Schedule) : Type 0 where
  pub armed : new.armed.items ≡ old.armed.items
  pub given : next_number new ≡ next_number old

-- ---- of a table

-- a condition is a bit
abbrev pub IsBoundAt : TableParts → (slot instance : ℕ) → Option CondText → Option Cond → Type 0
IsBoundAt parts k i text cond = IsFittingAt true parts k i text cond

abbrev pub IsTrap : TableParts → Option CondText → Trap → Type 0
IsTrap parts text t = IsTrapOf true parts text t

-- a breakpoint waits at each instance that it was armed for, and at no other
pub record IsArmed (parts : TableParts) (a : Armed) : Type 0 where
  pub places : map trap_place a.traps.items ≡ traps_of parts a.instance a.slots.items
  pub each : All (IsTrap parts a.text) a.traps.items

-- the breakpoints are of this table: their slots, instances and bound names are what is found in it
abbrev pub AreOf : TableParts → Schedule → Type 0
AreOf parts s = All (IsArmed parts) s.armed.items
