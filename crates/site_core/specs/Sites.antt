-- What is found in a table for a line, a path and a text, and what the answers other than Ok say.
use Rattle.std.specs.Prelude.{◌≡◌, ℕ, Bool, true, List, Option, Some, None, Result, Ok, Err, position, bytes_eq, nat_eq, map, option_map, All, if◌then◌else◌}
use Rattle.std.specs.List.{list_any}
use Rattle.std.specs.List.Sorted.{IsNonDecreasingBy}
use Rattle.exec_core.specs.Block.{Name}
use Rattle.gen_tree.specs.Tree.{Expr}
use Rattle.symtab.specs.declared.parts.TableParts.{TableParts}
use Rattle.symtab.specs.Shape.{paths_of}
use Rattle.symtab.specs.Lookups.{instances_of, binding_of}
use Rattle.cond_lang.specs.declared.text.CondText.{CondText}
use Rattle.cond_lang.specs.Bound.{scope_of}
use Rattle.cond_lang.specs.Judged.{judged}
use Rattle.cond_lang.specs.TextShown.{text_expr, text_offsets}
use Rattle.machine_core.specs.declared.reply.Body.{Body}
use Rattle.machine_core.specs.declared.reply.Body.TheVariants as body
use Rattle.machine_core.specs.Arming as machine
use Rattle.machine_core.specs.Arming.{fit_refusal}
use Rattle.machine_core.specs.Reading.{Reader, Reading, Condition, NoCondition}
use Rattle.site_core.specs.Traps.{trap_place, traps_of, IsTrapOf}
use Rattle.site_core.specs.declared.site.Sited.{Sited}
use Rattle.site_core.specs.declared.fault.SiteFault.{SiteFault}
use Rattle.site_core.specs.declared.fault.SiteFault.TheVariants as fault

-- ---- faults

-- the answer that a fault stands for; want of memory stands for none
abbrev pub site_answer : SiteFault → Option Body
site_answer (fault.NoSite line) = Some (body.NoSite line)
site_answer (fault.NoInstance instance) = Some (body.NoInstance instance)
site_answer (fault.BadCondAt offset) = Some (body.BadCondAt offset)
site_answer (fault.BadCondName name) = Some (body.BadCondName name)
site_answer (fault.CondRemoved name slot) = Some (body.CondRemoved name slot)
site_answer (fault.CondUnset name slot) = Some (body.CondUnset name slot)
site_answer fault.NoMemory = None

-- what is answered in place of what was to be made, unless memory ran out
abbrev pub IsRefusal : {A : Type 0} → Option Body → Result A Body → Type 0
IsRefusal None made = Unit {0}
IsRefusal (Some refusal) made = made ≡ Err refusal

-- what was made, seen by view; or why it was not, unless memory ran out
abbrev pub TellsMade : {X Y : Type 0} → (X → Y) → Result X SiteFault → Result Y Body → Type 0
TellsMade view (Ok x) made = made ≡ Ok (view x)
TellsMade view (Err end) made = IsRefusal (site_answer end) made

-- nothing is refused; or this is, unless memory ran out
abbrev pub IsTold : Option Body → Option Body → Type 0
IsTold None refusal = Unit {0}
IsTold (Some told) refusal = refusal ≡ Some told

abbrev pub TellsNone : {X : Type 0} → Result X SiteFault → Option Body → Type 0
TellsNone (Ok x) refusal = refusal ≡ None
TellsNone (Err end) refusal = IsTold (site_answer end) refusal

-- ---- slots and instances of a table

abbrev pub has_slot : TableParts → (instance slot : ℕ) → Bool
has_slot parts i k = list_any (nat_eq i) (instances_of parts k)

-- an instance has a slot, if one was named
abbrev pub named_has : TableParts → Option ℕ → ℕ → Bool
named_has parts None k = true
named_has parts (Some i) k = has_slot parts i k

abbrev pub found_instance : TableParts → List ℕ → Name → Option ℕ → Result (Option ℕ) Body
found_instance parts slots path None = Err (body.NoInstance path)
found_instance parts slots path (Some i) = if list_any (has_slot parts i) slots then Ok (Some i) else Err (body.NoInstance path)

abbrev pub asked_instance : TableParts → List ℕ → Option Name → Result (Option ℕ) Body
asked_instance parts slots None = Ok None
asked_instance parts slots (Some path) = found_instance parts slots path (position (bytes_eq path) (paths_of parts.instances))

-- ---- texts

-- how a text is read that was given
abbrev pub reading_made : Reading → Result (Option (Expr × List ℕ)) Body
reading_made (Condition e offsets) = Ok (Some (e, offsets))
reading_made (NoCondition offset) = Err (body.BadCondAt offset)

abbrev pub as_read : Reader → Option (List ℕ) → Result (Option (Expr × List ℕ)) Body
as_read read None = Ok None
as_read read (Some text) = reading_made (read text)

abbrev pub text_parts : CondText → Expr × List ℕ
text_parts t = (text_expr t, text_offsets t)

-- why an expression does not fit at a slot of an instance: no bit where one is wanted, or a name without a value
abbrev pub refused_at : (bit : Bool) → TableParts → Option CondText → ℕ × ℕ → Option Body
refused_at bit parts None at = None
refused_at bit parts (Some text) at = fit_refusal bit at.0 (judged (scope_of (binding_of parts at.0 at.1)) (text_expr text) (text_offsets text))

-- ---- what is found

-- as the machine finds it
abbrev pub sited_of : Sited → machine.Sited
sited_of u = record { slots = u.slots.items; instance = u.instance; expr = option_map text_expr u.text }

-- it waits at each instance that was asked for, and at no other; slot after slot
pub record IsPlaced (bit : Bool) (parts : TableParts) (u : Sited) : Type 0 where
  pub places : map trap_place u.traps.items ≡ traps_of parts u.instance u.slots.items
  pub each : All (IsTrapOf bit parts u.text) u.traps.items
  pub in_order : IsNonDecreasingBy (λ t. t.slot) u.traps.items
