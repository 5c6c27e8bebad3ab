-- When a breakpoint is armed, and why it is refused: 5, 6, then 7 to 9, then 13. And when a watch is: 5, 6, then 7 to 9, then 16.
use Rattle.std.specs.Prelude.{◌≡◌, ℕ, ◌-◌, ◌^◌, ◌==◌, Bool, true, false, List, [], ◌∷◌, map, filter, Option, Some, None, Result, Ok, Err, slice_get, position, bytes_eq, nat_eq, nat_le, if◌then◌else◌}
use Rattle.std.specs.List.{list_any, enumerate_from, flat_map}
use Rattle.exec_core.specs.Block.{Name}
use Rattle.gen_tree.specs.Tree.{Expr}
use Rattle.world_core.specs.World as world
use Rattle.world_core.specs.World.{World, Shows, IsUnset, IsRemoved, HasWidth}
use Rattle.world_core.specs.Seen.{has_name}
use Rattle.cond_lang.specs.Judged.{Status, shown, unset, removed, Scope, Refusal, not_in_scope, was_removed, is_unset, misfit, judged}
use Rattle.machine_core.specs.declared.reply.Body.{Body}
use Rattle.machine_core.specs.declared.reply.Body.TheVariants as body
use Rattle.machine_core.specs.Reading.{Reader, Reading, Condition, NoCondition}
use Rattle.machine_core.specs.Matching.{Breakpoint, Watch, is_wanted}

-- ---- slots and instances

-- the slots on a line, rising
abbrev pub slots_on : World → ℕ → List ℕ
slots_on w line = map (λ s. s.0) (filter (λ s. s.1.line == line) (enumerate_from 0 w.slots))

-- the instances that have a slot's statement, in preorder
abbrev pub instances_of : Option Shows → List ℕ
instances_of None = []
instances_of (Some shows) = shows.instances

abbrev pub instances_at : World → ℕ → List ℕ
instances_at w k = instances_of (slice_get w.slots k)

-- the instance of a path
abbrev pub instance_named : World → Name → Option ℕ
instance_named w path = position (bytes_eq path) w.paths

-- of these slots those that the instance has
abbrev pub slots_with : World → List ℕ → ℕ → List ℕ
slots_with w slots i = filter (λ k. list_any (nat_eq i) (instances_at w k)) slots

-- ---- names at a thread, as a condition sees them

abbrev pub as_status : world.Status → Status
as_status IsUnset = unset
as_status IsRemoved = removed
as_status (HasWidth width) = shown width

abbrev pub scope_at : World → (slot instance : ℕ) → Scope
scope_at w k i x = if has_name (slice_get w.slots k) x then Some (as_status (w.status k i x)) else None

-- ---- refusals

-- why an expression has no value in an instance at a slot
abbrev pub refusal_at : ℕ → Refusal → Body
refusal_at k (not_in_scope x) = body.BadCondName x
refusal_at k (was_removed x) = body.CondRemoved x k
refusal_at k (is_unset x) = body.CondUnset x k
refusal_at k (misfit offset) = body.BadCondAt offset

-- why it is no condition there: a condition has width 1
abbrev pub bit_refusal : ℕ → Result ℕ Refusal → Option Body
bit_refusal k (Ok width) = if width == 1 then None else Some (body.BadCondAt 0)
bit_refusal k (Err refusal) = Some (refusal_at k refusal)

-- the first that there is
abbrev pub first_of : {A : Type 0} → List (Option A) → Option A
first_of [] = None
first_of (Some a ∷ rest) = Some a
first_of (None ∷ rest) = first_of rest

-- the slots in order, and in each its instances in preorder; where one was named, that one alone
abbrev pub wanted_spots : World → Option ℕ → List ℕ → List (ℕ × ℕ)
wanted_spots w named slots = flat_map (λ k. map (λ i. (k, i)) (filter (is_wanted named) (instances_at w k))) slots

-- a step that may be refused, and what follows where it was not
infixl 10 ◌>>=◌
abbrev pub ◌>>=◌ : {A B : Type 0} → Result A Body → (A → Result B Body) → Result B Body
(Ok x) >>= f = f x
(Err refusal) >>= f = Err refusal

abbrev pub unless_refused : {A : Type 0} → Option Body → A → Result A Body
unless_refused (Some refusal) x = Err refusal
unless_refused None x = Ok x

-- the slots on a line, if there are some
abbrev pub some_slots : ℕ → List ℕ → Result (List ℕ) Body
some_slots line [] = Err (body.NoSite line)
some_slots line (k ∷ slots) = Ok (k ∷ slots)

-- the instance of a path, if it has one of these slots; none where no path is given
abbrev pub has_one : World → List ℕ → ℕ → Bool
has_one w slots i = list_any (λ k. list_any (nat_eq i) (instances_at w k)) slots

abbrev pub instance_with : World → List ℕ → Name → Option ℕ → Result (Option ℕ) Body
instance_with w slots path None = Err (body.NoInstance path)
instance_with w slots path (Some i) = if has_one w slots i then Ok (Some i) else Err (body.NoInstance path)

abbrev pub instance_on : World → List ℕ → Option Name → Result (Option ℕ) Body
instance_on w slots None = Ok None
instance_on w slots (Some path) = instance_with w slots path (instance_named w path)

-- the slots of a breakpoint: of those on the line those that the named instance has, or all of them
abbrev pub slots_for : World → List ℕ → Option ℕ → List ℕ
slots_for w slots None = slots
slots_for w slots (Some i) = slots_with w slots i

-- a text as the condition of a breakpoint: none; or an expression that is a condition at each of these spots
abbrev pub spot_refusal : World → Expr → List ℕ → ℕ × ℕ → Option Body
spot_refusal w e offsets spot = bit_refusal spot.0 (judged (scope_at w spot.0 spot.1) e offsets)

abbrev pub condition_at : World → List (ℕ × ℕ) → Reading → Result (Option Expr) Body
condition_at w spots (NoCondition offset) = Err (body.BadCondAt offset)
condition_at w spots (Condition e offsets) = unless_refused (first_of (map (spot_refusal w e offsets) spots)) (Some e)

abbrev pub condition_of : Reader → World → List (ℕ × ℕ) → Option (List ℕ) → Result (Option Expr) Body
condition_of read w spots None = Ok None
condition_of read w spots (Some text) = condition_at w spots (read text)

-- so many are armed at most, and this is the last number that is given
abbrev pub most_armed : ℕ
most_armed = 1024

abbrev pub last_number : ℕ
last_number = 2 ^ 64 - 1

-- no breakpoint more: so many are armed, or the last number was given
abbrev pub limit_refusal : (armed next : ℕ) → Option Body
limit_refusal armed next =
    if nat_le most_armed armed then Some (body.TooMany most_armed) else if nat_le next last_number then None else Some (body.TooMany last_number)

-- the breakpoint that is armed on a line under the next number, where so many are armed; or why it is refused
abbrev pub breakpoint_on : Reader → World → (armed next line : ℕ) → Option Name → Option (List ℕ) → Result Breakpoint Body
breakpoint_on read w armed next line path text = do
  all ← some_slots line (slots_on w line)
  named ← instance_on w all path
  condition ← condition_of read w (wanted_spots w named (slots_for w all named)) text
  unless_refused (limit_refusal armed next) (record { number = next; slots = slots_for w all named; instance = named; condition = condition })

-- ---- watches

-- the instance of a path, if it has one of these slots
abbrev pub watched_instance : World → List ℕ → Name → Option ℕ → Result ℕ Body
watched_instance w slots path None = Err (body.NoInstance path)
watched_instance w slots path (Some i) = if has_one w slots i then Ok i else Err (body.NoInstance path)

-- why an expression has no value there; it may have any width
abbrev pub value_refusal : ℕ → Result ℕ Refusal → Option Body
value_refusal k (Ok width) = None
value_refusal k (Err refusal) = Some (refusal_at k refusal)

abbrev pub watch_refusal : World → Expr → List ℕ → ℕ × ℕ → Option Body
watch_refusal w e offsets spot = value_refusal spot.0 (judged (scope_at w spot.0 spot.1) e offsets)

-- a text as the expression of a watch: one that has a value at each of these spots
abbrev pub expression_at : World → List (ℕ × ℕ) → Reading → Result Expr Body
expression_at w spots (NoCondition offset) = Err (body.BadCondAt offset)
expression_at w spots (Condition e offsets) = unless_refused (first_of (map (watch_refusal w e offsets) spots)) e

-- so many are armed at most
abbrev pub most_watched : ℕ
most_watched = 256

-- no watch more: so many are armed, or the last number was given
abbrev pub watch_limit : (armed next : ℕ) → Option Body
watch_limit armed next =
    if nat_le most_watched armed then Some (body.TooManyWatches most_watched) else if nat_le next last_number then None else Some (body.TooManyWatches most_watched)

-- the watch that is armed on a line under the next number, where so many are armed; or why it is refused
abbrev pub watch_on : Reader → World → (armed next line : ℕ) → Name → List ℕ → Result Watch Body
watch_on read w armed next line path text = do
  all ← some_slots line (slots_on w line)
  i ← watched_instance w all path (instance_named w path)
  e ← expression_at w (wanted_spots w (Some i) (slots_with w all i)) (read text)
  unless_refused (watch_limit armed next) (record { number = next; slots = slots_with w all i; instance = i; expr = e })

-- ---- what both have in common

-- why an expression does not fit at a slot: it is no bit where one is wanted, as of a condition, or it has no value
abbrev pub fit_refusal : (bit : Bool) → ℕ → Result ℕ Refusal → Option Body
fit_refusal true k r = bit_refusal k r
fit_refusal false k r = value_refusal k r

abbrev pub fit_spot : World → (bit : Bool) → Expr → List ℕ → ℕ × ℕ → Option Body
fit_spot w bit e offsets spot = fit_refusal bit spot.0 (judged (scope_at w spot.0 spot.1) e offsets)

-- a text, if one was given, as an expression that fits at each of these spots
abbrev pub fitting_at : World → (bit : Bool) → List (ℕ × ℕ) → Reading → Result (Option Expr) Body
fitting_at w bit spots (NoCondition offset) = Err (body.BadCondAt offset)
fitting_at w bit spots (Condition e offsets) = unless_refused (first_of (map (fit_spot w bit e offsets) spots)) (Some e)

abbrev pub fitting_of : Reader → World → (bit : Bool) → List (ℕ × ℕ) → Option (List ℕ) → Result (Option Expr) Body
fitting_of read w bit spots None = Ok None
fitting_of read w bit spots (Some text) = fitting_at w bit spots (read text)

-- what a line, a path and a text stand for, if these were given: slots, an instance and an expression
pub record Sited : Type 0 where
  pub slots : List ℕ
  pub instance : Option ℕ
  pub expr : Option Expr

-- or why not, but for the limit
abbrev pub sited_on : Reader → World → (bit : Bool) → (line : ℕ) → Option Name → Option (List ℕ) → Result Sited Body
sited_on read w bit line path text = do
  all ← some_slots line (slots_on w line)
  named ← instance_on w all path
  e ← fitting_of read w bit (wanted_spots w named (slots_for w all named)) text
  Ok (record { slots = slots_for w all named; instance = named; expr = e })

-- a breakpoint is armed there, under this number, where so many are armed
abbrev pub breakpoint_at : (armed next : ℕ) → Sited → Result Breakpoint Body
breakpoint_at armed next at = unless_refused (limit_refusal armed next) (record { number = next; slots = at.slots; instance = at.instance; condition = at.expr })

-- and a watch, of this instance and this expression
abbrev pub watch_at : (armed next : ℕ) → List ℕ → (instance : ℕ) → Expr → Result Watch Body
watch_at armed next slots i e = unless_refused (watch_limit armed next) (record { number = next; slots = slots; instance = i; expr = e })

-- what is armed as a watch where this was found; or why it is not
pub data ArmsWatch (armed next : ℕ) (made : Result Watch Body) : Result Sited Body → Type 0 where
  finds : (slots : List ℕ) (i : ℕ) (e : Expr) → made ≡ watch_at armed next slots i e → ArmsWatch armed next made (Ok (record { slots = slots; instance = Some i; expr = Some e }))
  refuses : (refusal : Body) → made ≡ Err refusal → ArmsWatch armed next made (Err refusal)
