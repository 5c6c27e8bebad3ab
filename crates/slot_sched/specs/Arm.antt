-- What the answers of arming a breakpoint say.
use Rattle.std.specs.Prelude.{◌≡◌, ℕ, true, List, [], ◌∷◌, ◌++◌, Option, Some, None, Result, Ok, Err, option_map}
use Rattle.symtab.specs.declared.parts.TableParts.{TableParts}
use Rattle.cond_lang.specs.TextShown.{text_expr}
use Rattle.machine_core.specs.declared.reply.Body.{Body}
use Rattle.machine_core.specs.declared.reply.Body.TheVariants as body
use Rattle.machine_core.specs.Arming.{limit_refusal, unless_refused}
use Rattle.machine_core.specs.Matching.{Breakpoint}
use Rattle.site_core.specs.declared.site.Sited.{Sited}
use Rattle.site_core.specs.Sites.{site_answer, IsRefusal, IsTold, IsPlaced}
use Rattle.slot_sched.specs.declared.fault.ArmFault.{ArmFault}
use Rattle.slot_sched.specs.declared.fault.ArmFault.TheVariants as fault

-- ---- faults

-- the answer that a fault stands for; want of memory stands for none
abbrev pub answer_for : ArmFault → Option Body
answer_for (fault.Site found) = site_answer found
answer_for (fault.TooMany limit) = Some (body.TooMany limit)

-- nothing is refused; or this is, unless memory ran out
abbrev pub TellsNone : {X : Type 0} → Result X ArmFault → Option Body → Type 0
TellsNone (Ok x) refusal = refusal ≡ None
TellsNone (Err end) refusal = IsTold (answer_for end) refusal

-- ---- what is armed

-- under this number
abbrev pub as_breakpoint : ℕ → Sited → Breakpoint
as_breakpoint number u = record { number = number; slots = u.slots.items; instance = u.instance; condition = option_map text_expr u.text }

-- what the machine arms, where so many are armed and this is the next number; or why it is refused, unless memory ran out
abbrev pub IsFor : (armed next : ℕ) → Result Sited ArmFault → Result Breakpoint Body → Type 0
IsFor armed next (Ok u) made = made ≡ unless_refused (limit_refusal armed next) (as_breakpoint next u)
IsFor armed next (Err end) made = IsRefusal (answer_for end) made

-- it waits at each instance that it is armed for, and at no other, where its condition is a bit; slot after slot
abbrev pub IsArmable : TableParts → Sited → Type 0
IsArmable parts u = IsPlaced true parts u

-- the breakpoint that the machine arms there, under this number, behind those that were; or why it is refused, unless memory ran out
abbrev pub Arms : Result ℕ ArmFault → Result Breakpoint Body → (old new : List Breakpoint) → Type 0
Arms (Ok number) made old new = (b : Breakpoint) × ((made ≡ Ok b) × ((b.number ≡ number) × (new ≡ old ++ b ∷ [])))
Arms (Err end) made old new = IsRefusal (answer_for end) made
