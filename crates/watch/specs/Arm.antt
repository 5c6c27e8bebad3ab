-- What the answers of arming a watch say.
use Rattle.std.specs.Prelude.{◌≡◌, ℕ, List, [], ◌∷◌, ◌++◌, map, All, false, Option, Some, None, Result, Ok, Err}
use Rattle.cond_lang.specs.TextShown.{text_expr}
use Rattle.symtab.specs.declared.parts.TableParts.{TableParts}
use Rattle.machine_core.specs.declared.reply.Body.{Body}
use Rattle.machine_core.specs.declared.reply.Body.TheVariants as body
use Rattle.machine_core.specs.Matching.{Watch}
use Rattle.machine_core.specs.Arming.{unless_refused, watch_limit}
use Rattle.site_core.specs.Sites.{site_answer, IsRefusal, IsTold}
use Rattle.site_core.specs.Traps.{traps_of, trap_place, IsTrapOf}
use Rattle.watch.specs.declared.fault.WatchFault.{WatchFault}
use Rattle.watch.specs.declared.fault.WatchFault.TheVariants as fault
use Rattle.watch.specs.declared.list.Unwatched.{Unwatched}

-- the answer that a fault stands for; want of memory stands for none
abbrev pub watch_answer : WatchFault → Option Body
watch_answer (fault.Site found) = site_answer found
watch_answer (fault.TooManyWatches limit) = Some (body.TooManyWatches limit)

-- nothing is refused; or this is, unless memory ran out
abbrev pub TellsNone : {X : Type 0} → Result X WatchFault → Option Body → Type 0
TellsNone (Ok x) refusal = refusal ≡ None
TellsNone (Err end) refusal = IsTold (watch_answer end) refusal

-- under this number
abbrev pub as_watch : ℕ → Unwatched → Watch
as_watch number u = record { number = number; slots = u.slots.items; instance = u.instance; expr = text_expr u.text }

-- what the machine arms, where so many are armed and this is the next number; or why it is refused, unless memory ran out
abbrev pub IsFor : (armed next : ℕ) → Result Unwatched WatchFault → Result Watch Body → Type 0
IsFor armed next (Ok u) made = made ≡ unless_refused (watch_limit armed next) (as_watch next u)
IsFor armed next (Err end) made = IsRefusal (watch_answer end) made

-- it waits at each slot that it is armed for, in its instance, and at no other
pub record IsArmable (parts : TableParts) (u : Unwatched) : Type 0 where
  pub places : map trap_place u.traps.items ≡ traps_of parts (Some u.instance) u.slots.items
  pub each : All (IsTrapOf false parts (Some u.text)) u.traps.items

-- the watch that the machine arms there, under this number, behind those that were; or why it is refused, unless memory ran out
abbrev pub Arms : Result ℕ WatchFault → Result Watch Body → (old new : List Watch) → Type 0
Arms (Ok number) made old new = (watch : Watch) × ((made ≡ Ok watch) × ((watch.number ≡ number) × (new ≡ old ++ watch ∷ [])))
Arms (Err end) made old new = IsRefusal (watch_answer end) made
