-- Numbers of breakpoints are given one after another, and each once; and so are those of watches.
use Rattle.std.proofs.Common.{◌≡◌, ℕ, zero, suc, ◌+◌, ◌-◌, ◌≤◌, ◌==◌, not, Bool, true, false, cond, List, [], ◌∷◌, ◌++◌, map, filter, append-nil, append_assoc, Option, Some, None, Result, Ok, Err, ◌⊎◌, inl, inr, refl, sym, ap, ◌∙◌, subst, arith, nat_le, if◌then◌else◌}
use Rattle.std.specs.List.{list_any}
use Rattle.list_core.specs.Lists.{from}
use Rattle.exec_core.specs.Block.{Name}
use Rattle.gen_tree.specs.Tree.{Expr}
use Rattle.listen.specs.Pairs.{Heard}
use Rattle.trace_core.specs.declared.scan.Way.{Way}
use Rattle.trace_core.specs.declared.scan.Way.TheVariants.{Forward, Backward}
use Rattle.world_core.specs.World.{World}
use Rattle.cond_lang.specs.Judged.{Refusal, not_in_scope, was_removed, is_unset, misfit, judged}
use Rattle.machine_core.specs.declared.request.Cmd.{Cmd}
use Rattle.machine_core.specs.declared.request.Cmd.TheVariants as cmd
use Rattle.machine_core.specs.declared.request.Asked.{Asked}
use Rattle.machine_core.specs.declared.request.Asked.TheVariants.{Good, Bad}
use Rattle.machine_core.specs.declared.reply.Body.{Body}
use Rattle.machine_core.specs.declared.reply.Body.TheVariants as body
use Rattle.machine_core.specs.declared.turn.Motion.{Motion}
use Rattle.machine_core.specs.declared.turn.Motion.TheVariants.{Idle, Running}
use Rattle.machine_core.specs.declared.turn.Turned.{Turned}
use Rattle.machine_core.specs.declared.turn.Turned.TheVariants as turned
use Rattle.machine_core.specs.Positions.{position_count, ahead}
use Rattle.machine_core.specs.Reading.{Reader, Reading, Condition, NoCondition}
use Rattle.machine_core.specs.Matching.{Breakpoint, Watch, matches}
use Rattle.machine_core.specs.Search.{nearest_that}
use Rattle.machine_core.specs.Arming.{◌>>=◌, slots_on, instance_named, scope_at, refusal_at, bit_refusal, first_of, wanted_spots, unless_refused, some_slots, has_one, instance_with, instance_on, slots_for, spot_refusal, condition_at, condition_of, most_armed, last_number, limit_refusal, breakpoint_on, watched_instance, value_refusal, watch_refusal, expression_at, slots_with, most_watched, watch_limit, watch_on}
use Rattle.machine_core.specs.Machine.{Machine, opening, awaited_by, edge_turn, moved_turn, turn_to, turn_by, turn_of, Outcome, Refused, Accepted, accepted_unless, if_idle, if_running, armed_break, has_number, armed_watch, is_watch, named_step, step, position_of, no_stop, if_stopped, at_stop, if_thread, at_thread, judged_value, eval, listener, drop_listener, obey, text_refusal, asked_outcome, asked_id, answer_by, counted, answer_of}
use Rattle.machine_core.specs.Journal.{Line, Replied, notices_of, Ran, turns_from, Entry, Ask, Turns, entry_from, journal_from}
use Rattle.machine_core.specs.Numbers.{Given, ToBreaks, ToWatches, AreRising, armed_numbers, next_of, given_by, given_on, numbers_given, GivesInOrder}
use Rattle.machine_core.specs.Laws.{IsNumbered, TakesTheNext, NumbersAreGivenOnce}

-- ---- rising numbers

rising_from : (low least : ℕ) (xs : List ℕ) (next : ℕ) → low ≤ least → AreRising least xs next → AreRising low xs next
rising_from low least [] next l h = omega (arith, l, h)
rising_from low least (x ∷ xs) next l h = (omega (arith, l, h.0), h.1)

pub rising_filtered : {A : Type 0} (number : A → ℕ) (test : A → Bool) (least : ℕ) (xs : List A) (next : ℕ) → AreRising least (map number xs) next → AreRising least (map number (filter test xs)) next
rising_filtered number test least [] next h = h
rising_filtered number test least (x ∷ xs) next h = by_test (test x) (filter test xs) (rising_filtered number test (number x + 1) xs next h.1)
  where
    by_test : (t : Bool) (kept : List _) → AreRising (number x + 1) (map number kept) next → AreRising least (map number (cond t (x ∷ kept) kept)) next
    by_test true kept more = (h.0, more)
    by_test false kept more = rising_from least (number x + 1) (map number kept) next (omega (arith, h.0)) more

pub rising_kept : (test : Breakpoint → Bool) (least : ℕ) (bs : List Breakpoint) (next : ℕ) → AreRising least (map (λ b. b.number) bs) next → AreRising least (map (λ b. b.number) (filter test bs)) next
rising_kept test least bs next h = rising_filtered (λ (b : Breakpoint). b.number) test least bs next h

pub rising_more : (least : ℕ) (xs : List ℕ) (next : ℕ) → AreRising least xs next → AreRising least (xs ++ next ∷ []) (next + 1)
rising_more least [] next h = (h, omega arith)
rising_more least (x ∷ xs) next h = (h.0, rising_more (x + 1) xs next h.1)

numbers_more : {A : Type 0} (number : A → ℕ) (xs : List A) (x : A) → map number (xs ++ x ∷ []) ≡ map number xs ++ number x ∷ []
numbers_more number [] x = refl
numbers_more number (y ∷ xs) x = ap (λ l. number y ∷ l) (numbers_more number xs x)

from_joined : (k a b : ℕ) → from k a ++ from (k + a) b ≡ from k (a + b)
from_joined k zero b = ap (λ (n : ℕ). from n b) (let e : k + 0 ≡ k = omega arith in e) ∙ ap (from k) (let e : b ≡ 0 + b = omega arith in e)
from_joined k (suc a) b =
    ap (λ (n : ℕ). k ∷ (from (k + 1) a ++ from n b)) (let e : k + suc a ≡ k + 1 + a = omega arith in e)
    ∙ ap (λ l. k ∷ l) (from_joined (k + 1) a b)
    ∙ ap (from k) (let e : suc (a + b) ≡ suc a + b = omega arith in e)

-- ---- no refusal gives a number

abbrev GivesNone : (given : Given) → Option Body → Type 0
GivesNone given None = Unit {0}
GivesNone given (Some refusal) = given_by given refusal ≡ []

abbrev RefusesSo : (given : Given) → {A : Type 0} → Result A Body → Type 0
RefusesSo given (Ok x) = Unit {0}
RefusesSo given (Err refusal) = given_by given refusal ≡ []

-- what is armed is made under this number, or refused
abbrev MakesUnder : (given : Given) → {X : Type 0} → (X → ℕ) → ℕ → Result X Body → Type 0
MakesUnder given number n (Ok x) = number x ≡ n
MakesUnder given number n (Err refusal) = given_by given refusal ≡ []

made_then : (given : Given) → {A X : Type 0} (number : X → ℕ) (n : ℕ) (x : Result A Body) (f : A → Result X Body) → RefusesSo given x → ((a : A) → MakesUnder given number n (f a)) → MakesUnder given number n (x >>= f)
made_then given number n (Ok a) f h more = more a
made_then given number n (Err refusal) f h more = h

unless_made : (given : Given) → {A : Type 0} (o : Option Body) (x : A) → GivesNone given o → RefusesSo given (unless_refused o x)
unless_made given None x h = tt
unless_made given (Some refusal) x h = h

unless_under : (given : Given) → {X : Type 0} (number : X → ℕ) (n : ℕ) (o : Option Body) (x : X) → GivesNone given o → number x ≡ n → MakesUnder given number n (unless_refused o x)
unless_under given number n None x h e = e
unless_under given number n (Some refusal) x h e = h

slots_made : (given : Given) (line : ℕ) (slots : List ℕ) → RefusesSo given (some_slots line slots)
slots_made given line [] = refl
slots_made given line (k ∷ slots) = tt

instance_made : (given : Given) (w : World) (slots : List ℕ) (path : Option Name) → RefusesSo given (instance_on w slots path)
instance_made given w slots None = tt
instance_made given w slots (Some path) = by (instance_named w path)
  where
    by_one : (b : Bool) (i : ℕ) → RefusesSo given (let r : Result (Option ℕ) Body = if b then Ok (Some i) else Err (body.NoInstance path) in r)
    by_one true i = tt
    by_one false i = refl

    by : (o : Option ℕ) → RefusesSo given (instance_with w slots path o)
    by None = refl
    by (Some i) = by_one (has_one w slots i) i

refusal_none : (given : Given) (k : ℕ) (r : Refusal) → given_by given (refusal_at k r) ≡ []
refusal_none given k (not_in_scope x) = refl
refusal_none given k (was_removed x) = refl
refusal_none given k (is_unset x) = refl
refusal_none given k (misfit offset) = refl

bit_none : (given : Given) (k : ℕ) (r : Result ℕ Refusal) → GivesNone given (bit_refusal k r)
bit_none given k (Ok width) = by (width == 1)
  where
    by : (b : Bool) → GivesNone given (if b then None else Some (body.BadCondAt 0))
    by true = tt
    by false = refl
bit_none given k (Err refusal) = refusal_none given k refusal

first_none : (given : Given) (o : Option Body) (rest : List (Option Body)) → GivesNone given o → GivesNone given (first_of rest) → GivesNone given (first_of (o ∷ rest))
first_none given None rest h more = more
first_none given (Some refusal) rest h more = h

spots_none : (given : Given) (w : World) (e : Expr) (offsets : List ℕ) (spots : List (ℕ × ℕ)) → GivesNone given (first_of (map (spot_refusal w e offsets) spots))
spots_none given w e offsets [] = tt
spots_none given w e offsets (spot ∷ spots) = first_none given (spot_refusal w e offsets spot) (map (spot_refusal w e offsets) spots) (bit_none given spot.0 (judged (scope_at w spot.0 spot.1) e offsets)) (spots_none given w e offsets spots)

condition_made : (given : Given) (read : Reader) (w : World) (spots : List (ℕ × ℕ)) (text : Option (List ℕ)) → RefusesSo given (condition_of read w spots text)
condition_made given read w spots None = tt
condition_made given read w spots (Some text) = by (read text)
  where
    by : (r : Reading) → RefusesSo given (condition_at w spots r)
    by (NoCondition offset) = refl
    by (Condition e offsets) = unless_made given _ (Some e) (spots_none given w e offsets spots)

limit_none : (given : Given) (armed next : ℕ) → GivesNone given (limit_refusal armed next)
limit_none given armed next = by (nat_le most_armed armed) (nat_le next last_number)
  where
    by : (b c : Bool) → GivesNone given (if b then Some (body.TooMany most_armed) else if c then None else Some (body.TooMany last_number))
    by true c = refl
    by false true = tt
    by false false = refl

abbrev break_number : Breakpoint → ℕ
break_number b = b.number

breakpoint_made : (given : Given) (read : Reader) (w : World) (armed next line : ℕ) (path : Option Name) (text : Option (List ℕ)) → MakesUnder given break_number next (breakpoint_on read w armed next line path text)
breakpoint_made given read w armed next line path text =
    made_then given break_number next (some_slots line (slots_on w line)) _ (slots_made given line (slots_on w line))
    (λ all. made_then given break_number next (instance_on w all path) _ (instance_made given w all path)
    (λ named. made_then given break_number next (condition_of read w (wanted_spots w named (slots_for w all named)) text) _ (condition_made given read w (wanted_spots w named (slots_for w all named)) text)
    (λ condition. unless_under given break_number next (limit_refusal armed next) (record { number = next; slots = slots_for w all named; instance = named; condition = condition }) (limit_none given armed next) refl)))

watched_made : (given : Given) (w : World) (slots : List ℕ) (path : Name) (o : Option ℕ) → RefusesSo given (watched_instance w slots path o)
watched_made given w slots path None = refl
watched_made given w slots path (Some i) = by_one (has_one w slots i)
  where
    by_one : (b : Bool) → RefusesSo given (let r : Result ℕ Body = if b then Ok i else Err (body.NoInstance path) in r)
    by_one true = tt
    by_one false = refl

value_none : (given : Given) (k : ℕ) (r : Result ℕ Refusal) → GivesNone given (value_refusal k r)
value_none given k (Ok width) = tt
value_none given k (Err refusal) = refusal_none given k refusal

watches_none : (given : Given) (w : World) (e : Expr) (offsets : List ℕ) (spots : List (ℕ × ℕ)) → GivesNone given (first_of (map (watch_refusal w e offsets) spots))
watches_none given w e offsets [] = tt
watches_none given w e offsets (spot ∷ spots) = first_none given (watch_refusal w e offsets spot) (map (watch_refusal w e offsets) spots) (value_none given spot.0 (judged (scope_at w spot.0 spot.1) e offsets)) (watches_none given w e offsets spots)

expression_made : (given : Given) (w : World) (spots : List (ℕ × ℕ)) (r : Reading) → RefusesSo given (expression_at w spots r)
expression_made given w spots (NoCondition offset) = refl
expression_made given w spots (Condition e offsets) = unless_made given _ e (watches_none given w e offsets spots)

watch_limit_none : (given : Given) (armed next : ℕ) → GivesNone given (watch_limit armed next)
watch_limit_none given armed next = by (nat_le most_watched armed) (nat_le next last_number)
  where
    by : (b c : Bool) → GivesNone given (if b then Some (body.TooManyWatches most_watched) else if c then None else Some (body.TooManyWatches most_watched))
    by true c = refl
    by false true = tt
    by false false = refl

abbrev watch_number : Watch → ℕ
watch_number watch = watch.number

watch_made : (given : Given) (read : Reader) (w : World) (armed next line : ℕ) (path : Name) (text : List ℕ) → MakesUnder given watch_number next (watch_on read w armed next line path text)
watch_made given read w armed next line path text =
    made_then given watch_number next (some_slots line (slots_on w line)) _ (slots_made given line (slots_on w line))
    (λ all. made_then given watch_number next (watched_instance w all path (instance_named w path)) _ (watched_made given w all path (instance_named w path))
    (λ i. made_then given watch_number next (expression_at w (wanted_spots w (Some i) (slots_with w all i)) (read text)) _ (expression_made given w (wanted_spots w (Some i) (slots_with w all i)) (read text))
    (λ e. unless_under given watch_number next (watch_limit armed next) (record { number = next; slots = slots_with w all i; instance = i; expr = e }) (watch_limit_none given armed next) refl)))

-- ---- what a request does with numbers

-- it gives none, and arms nothing
record Keeps (given : Given) (m left : Machine) (granted : Body) : Type 0 where
  none : given_by given granted ≡ []
  same : (next_of given left) ≡ (next_of given m)
  rises : AreRising 1 (armed_numbers given m) (next_of given m) → AreRising 1 (armed_numbers given left) (next_of given m)

-- it gives the next one, and arms under it
record Takes (given : Given) (m left : Machine) (granted : Body) : Type 0 where
  one : given_by given granted ≡ (next_of given m) ∷ []
  more : (next_of given left) ≡ (next_of given m) + 1
  armed : armed_numbers given left ≡ armed_numbers given m ++ (next_of given m) ∷ []

abbrev Numbers : (given : Given) → Machine → Outcome → Type 0
Numbers given m (Refused refusal) = given_by given refusal ≡ []
Numbers given m (Accepted left granted) = Keeps given m left granted ⊎ Takes given m left granted

idle_numbers : (given : Given) (m : Machine) (motion : Motion) (o : Outcome) → Numbers given m o → Numbers given m (if_idle motion o)
idle_numbers given m Idle o h = h
idle_numbers given m (Running way want) o h = refl

running_numbers : (given : Given) (m : Machine) (motion : Motion) (o : Outcome) → Numbers given m o → Numbers given m (if_running motion o)
running_numbers given m Idle o h = refl
running_numbers given m (Running way want) o h = h

break_numbers : (given : Given) (m : Machine) (r : Result Breakpoint Body) → MakesUnder given break_number m.next r → Numbers given m (accepted_unless r (armed_break m))
break_numbers ToBreaks m (Ok b) h = inr (record { one = ap (λ (n : ℕ). n ∷ []) h; more = refl; armed = numbers_more break_number m.breakpoints b ∙ ap (λ (n : ℕ). map break_number m.breakpoints ++ n ∷ []) h })
break_numbers ToWatches m (Ok b) h = inl (record { none = refl; same = refl; rises = λ r. r })
break_numbers given m (Err refusal) h = h

watch_numbers : (given : Given) (m : Machine) (r : Result Watch Body) → MakesUnder given watch_number m.next_watch r → Numbers given m (accepted_unless r (armed_watch m))
watch_numbers ToBreaks m (Ok watch) h = inl (record { none = refl; same = refl; rises = λ r. r })
watch_numbers ToWatches m (Ok watch) h = inr (record { one = ap (λ (n : ℕ). n ∷ []) h; more = refl; armed = numbers_more watch_number m.watches watch ∙ ap (λ (n : ℕ). map watch_number m.watches ++ n ∷ []) h })
watch_numbers given m (Err refusal) h = h

by_bool : (given : Given) (m : Machine) (b : Bool) (o p : Outcome) → Numbers given m o → Numbers given m p → Numbers given m (if b then o else p)
by_bool given m true o p h g = h
by_bool given m false o p h g = g

named_numbers : (given : Given) (m : Machine) (way : Way) (granted : Body) (path : Name) (i : Option ℕ) → given_by given granted ≡ [] → Numbers given m (named_step m way granted path i)
named_numbers given m way granted path None e = refl
named_numbers given m way granted path (Some i) e = inl (record { none = e; same = refl; rises = λ h. h })

step_numbers : (given : Given) (w : World) (m : Machine) (way : Way) (granted : Body) (path : Option Name) → given_by given granted ≡ [] → Numbers given m (step w m way granted path)
step_numbers given w m way granted None e = inl (record { none = e; same = refl; rises = λ h. h })
step_numbers given w m way granted (Some path) e = named_numbers given m way granted path (instance_named w path) e

stop_numbers : (given : Given) (w : World) (m : Machine) (p : Option ℕ) (f : ℕ → Outcome) → ((q : ℕ) → Numbers given m (f q)) → Numbers given m (if_stopped w m p f)
stop_numbers given w m None f h = refl
stop_numbers given w m (Some p) f h = h p

at_stop_numbers : (given : Given) (w : World) (m : Machine) (f : ℕ → Outcome) → ((q : ℕ) → Numbers given m (f q)) → Numbers given m (at_stop w m f)
at_stop_numbers given w m f h = idle_numbers given m m.motion _ (stop_numbers given w m (position_of w m.place) f h)

thread_numbers : (given : Given) (w : World) (m : Machine) (p : ℕ) (i : Option ℕ) (f : ℕ → Outcome) → ((j : ℕ) → Numbers given m (f j)) → Numbers given m (if_thread w m p i f)
thread_numbers given w m p None f h = refl
thread_numbers given w m p (Some i) f h = by_bool given m _ (f i) (no_stop w m) (h i) refl

at_thread_numbers : (given : Given) (w : World) (m : Machine) (path : Name) (f : ℕ → ℕ → Outcome) → ((q j : ℕ) → Numbers given m (f q j)) → Numbers given m (at_thread w m path f)
at_thread_numbers given w m path f h = at_stop_numbers given w m _ (λ q. thread_numbers given w m q (instance_named w path) (f q) (h q))

value_numbers : (given : Given) (w : World) (m : Machine) (p i : ℕ) (e : Expr) (r : Result ℕ Refusal) → Numbers given m (judged_value w m p i e r)
value_numbers given w m p i e (Ok width) = inl (record { none = refl; same = refl; rises = λ h. h })
value_numbers given w m p i e (Err refusal) = refusal_none given _ refusal

eval_numbers : (given : Given) (w : World) (m : Machine) (p i : ℕ) (r : Reading) → Numbers given m (eval w m p i r)
eval_numbers given w m p i (NoCondition offset) = refl
eval_numbers given w m p i (Condition e offsets) = value_numbers given w m p i e _

drop_numbers : (given : Given) (m : Machine) (k : ℕ) (h : Option Heard) → Numbers given m (drop_listener m k h)
drop_numbers given m k None = refl
drop_numbers given m k (Some heard) = inl (record { none = refl; same = refl; rises = λ h. h })

-- what is left where a breakpoint is disarmed, and where a watch is
disarmed : Machine → ℕ → Outcome
disarmed m bp = Accepted (record m { breakpoints = filter (λ b. not (has_number bp b)) m.breakpoints }) body.Delete

unwatched : Machine → ℕ → Outcome
unwatched m wp = Accepted (record m { watches = filter (λ watch. not (is_watch wp watch)) m.watches }) body.Unwatch

delete_numbers : (given : Given) (m : Machine) (bp : ℕ) → Numbers given m (disarmed m bp)
unfolding disarmed
delete_numbers ToBreaks m bp = inl (record { none = refl; same = refl; rises = λ h. rising_kept (λ b. not (has_number bp b)) 1 m.breakpoints m.next h })
delete_numbers ToWatches m bp = inl (record { none = refl; same = refl; rises = λ h. h })

unwatch_numbers : (given : Given) (m : Machine) (wp : ℕ) → Numbers given m (unwatched m wp)
unfolding unwatched
unwatch_numbers ToBreaks m wp = inl (record { none = refl; same = refl; rises = λ h. h })
unwatch_numbers ToWatches m wp = inl (record { none = refl; same = refl; rises = λ h. rising_filtered (λ (watch : Watch). watch.number) (λ watch. not (is_watch wp watch)) 1 m.watches m.next_watch h })

obey_numbers : (given : Given) (read : Reader) (w : World) (m : Machine) (c : Cmd) → Numbers given m (obey read w m c)
unfolding disarmed unwatched
obey_numbers given read w m (cmd.Break line path text) = break_numbers given m _ (breakpoint_made given read w _ m.next line path text)
obey_numbers given read w m (cmd.Delete bp) = by_bool given m (list_any (has_number bp) m.breakpoints) (disarmed m bp) (Refused (body.NoBreakpoint bp)) (delete_numbers given m bp) refl
obey_numbers given read w m (cmd.Watch line path text) = watch_numbers given m _ (watch_made given read w _ m.next_watch line path text)
obey_numbers given read w m (cmd.Unwatch wp) = by_bool given m (list_any (is_watch wp) m.watches) (unwatched m wp) (Refused (body.NoWatch wp)) (unwatch_numbers given m wp) refl
obey_numbers given read w m cmd.Continue = idle_numbers given m m.motion _ (inl (record { none = refl; same = refl; rises = λ h. h }))
obey_numbers given read w m cmd.Reverse = idle_numbers given m m.motion _ (inl (record { none = refl; same = refl; rises = λ h. h }))
obey_numbers given read w m (cmd.Step path) = idle_numbers given m m.motion _ (step_numbers given w m _ _ path refl)
obey_numbers given read w m (cmd.Back path) = idle_numbers given m m.motion _ (step_numbers given w m _ _ path refl)
obey_numbers given read w m cmd.Pause = running_numbers given m m.motion _ (inl (record { none = refl; same = refl; rises = λ h. h }))
obey_numbers given read w m cmd.Threads = at_stop_numbers given w m _ (λ q. inl (record { none = refl; same = refl; rises = λ h. h }))
obey_numbers given read w m (cmd.Values path) = at_thread_numbers given w m path _ (λ q j. inl (record { none = refl; same = refl; rises = λ h. h }))
obey_numbers given read w m (cmd.Eval path text) = at_thread_numbers given w m path _ (λ q j. eval_numbers given w m q j (read text))
obey_numbers given read w m (cmd.Drop k) = drop_numbers given m k (listener m k)
obey_numbers given read w m cmd.Status = inl (record { none = refl; same = refl; rises = λ h. h })
obey_numbers given read w m cmd.Bye = inl (record { none = refl; same = refl; rises = λ h. h })

text_none : (given : Given) (code : ℕ) (field : Option (List ℕ)) → given_by given (text_refusal code field) ≡ []
text_none given code field = by (code == 1) (code == 2) (code == 3) _
  where
    by : (b c d : Bool) (name : List ℕ) → given_by given (if b then body.TooLong else if c then body.NotJson else if d then body.BadShape name else body.UnknownCmd) ≡ []
    by true c d name = refl
    by false true d name = refl
    by false false true name = refl
    by false false false name = refl

outcome_numbers : (given : Given) (read : Reader) (w : World) (m : Machine) (asked : Asked) → Numbers given m (asked_outcome read w m asked)
outcome_numbers given read w m (Good request) = obey_numbers given read w m request.cmd
outcome_numbers given read w m (Bad text) = text_none given text.code text.field

-- ---- what is given on the way

-- nothing is given
still_gives : (given : Given) (m left : Machine) (lines : List Line) → numbers_given given lines ≡ [] → (next_of given left) ≡ (next_of given m) → (AreRising 1 (armed_numbers given m) (next_of given m) → AreRising 1 (armed_numbers given left) (next_of given m))
    → GivesInOrder given m (record { after = left; lines = lines })
still_gives given m left lines none same f = record {
  all = none ∙ ap (from (next_of given m)) (let e : 0 ≡ (next_of given left) - (next_of given m) = omega (arith, same) in e);
  grows = omega (arith, same);
  rises = λ h. subst (AreRising 1 (armed_numbers given left)) (sym same) (f h);
}

given_joined : (given : Given) (xs ys : List Line) → numbers_given given (xs ++ ys) ≡ numbers_given given xs ++ numbers_given given ys
given_joined given [] ys = refl
given_joined given (x ∷ xs) ys = ap (λ l. given_on given x ++ l) (given_joined given xs ys) ∙ sym (append_assoc (given_on given x) (numbers_given given xs) (numbers_given given ys))

then_gives : (given : Given) (m mid after : Machine) (lines more : List Line) → GivesInOrder given m (record { after = mid; lines = lines }) → GivesInOrder given mid (record { after = after; lines = more })
    → GivesInOrder given m (record { after = after; lines = lines ++ more })
then_gives given m mid after lines more a b =
    let low = a.grows in
    let high = b.grows in
    record {
      all = given_joined given lines more
          ∙ ap (λ l. l ++ numbers_given given more) a.all
          ∙ ap (λ l. from (next_of given m) (next_of given mid - (next_of given m)) ++ l) b.all
          ∙ ap (λ (n : ℕ). from (next_of given m) (next_of given mid - (next_of given m)) ++ from n (next_of given after - (next_of given mid))) (let e : (next_of given mid) ≡ (next_of given m) + (next_of given mid - (next_of given m)) = omega (arith, low) in e)
          ∙ from_joined (next_of given m) (next_of given mid - (next_of given m)) (next_of given after - (next_of given mid))
          ∙ ap (from (next_of given m)) (let e : (next_of given mid) - (next_of given m) + (next_of given after - (next_of given mid)) ≡ (next_of given after) - (next_of given m) = omega (arith, low, high) in e);
      grows = omega (arith, low, high);
      rises = λ h. b.rises (a.rises h);
    }

answer_gives : (given : Given) (m : Machine) (id : Option ℕ) (o : Outcome) → Numbers given m o → GivesInOrder given m (record { after = (answer_by m id o).after; lines = Replied (answer_by m id o).reply ∷ [] })
answer_gives given m id (Refused refusal) h = still_gives given m m _ (append-nil (given_by given refusal) ∙ h) refl (λ r. r)
answer_gives given m id (Accepted left granted) (inl k) = still_gives given m left _ (append-nil (given_by given granted) ∙ k.none) k.same k.rises
answer_gives given m id (Accepted left granted) (inr t) = let more = t.more in record {
  all = append-nil (given_by given granted) ∙ t.one ∙ ap (from (next_of given m)) (let e : 1 ≡ (next_of given left) - (next_of given m) = omega (arith, more) in e);
  grows = omega (arith, more);
  rises = λ h. subst (λ (xs : List ℕ). AreRising 1 xs (next_of given left)) (sym t.armed) (subst (AreRising 1 (armed_numbers given m ++ (next_of given m) ∷ [])) (sym more) (rising_more 1 (armed_numbers given m) (next_of given m) h));
}

-- ---- turns

told_none : (given : Given) (w : World) (m : Machine) (t : Turned) → numbers_given given (notices_of w m t) ≡ []
told_none given w m turned.Idle = refl
told_none given w m turned.Moved = refl
told_none given w m (turned.Stopped note) = refl
told_none given w m turned.AtEnd = refl
told_none given w m turned.AtStart = refl

abbrev SameNumbers : (given : Given) → Machine → Machine → Type 0
SameNumbers given m left = (next_of given left ≡ next_of given m) × (armed_numbers given left ≡ armed_numbers given m)

edge_same : (given : Given) (w : World) (way : Way) (m : Machine) → SameNumbers given m (edge_turn w way m).after
edge_same given w Forward m = (refl, refl)
edge_same given w Backward m = (refl, refl)

moved_same : (given : Given) (way : Way) (m : Machine) → SameNumbers given m (moved_turn way m).after
moved_same given Forward m = (refl, refl)
moved_same given Backward m = (refl, refl)

to_same : (given : Given) (w : World) (way : Way) (m : Machine) (b : Bool) → SameNumbers given m (if b then edge_turn w way m else moved_turn way m).after
to_same given w way m true = edge_same given w way m
to_same given w way m false = moved_same given way m

found_same : (given : Given) (w : World) (way : Way) (m : Machine) (positions : List ℕ) (found : Option ℕ) → SameNumbers given m (turn_to w way m positions found).after
found_same given w way m positions (Some p) = (refl, refl)
found_same given w way m positions None = to_same given w way m _

motion_same : (given : Given) (w : World) (m : Machine) (motion : Motion) → SameNumbers given m (turn_by w m motion).after
motion_same given w m Idle = (refl, refl)
motion_same given w m (Running way want) =
    found_same given w way m (ahead (position_count w) way m.place) (nearest_that (matches w (awaited_by m) want) (position_count w) way m.place)

turn_same : (given : Given) (w : World) (m : Machine) → SameNumbers given m (turn_of w m).after
unfolding turn_of
turn_same given w m = motion_same given w m m.motion

turn_gives : (given : Given) (w : World) (m : Machine) → GivesInOrder given m (record { after = (turn_of w m).after; lines = notices_of w (turn_of w m).after (turn_of w m).turned })
turn_gives given w m =
    let same = turn_same given w m in
    still_gives given m (turn_of w m).after _ (told_none given w (turn_of w m).after (turn_of w m).turned) same.0 (λ h. subst (λ (xs : List ℕ). AreRising 1 xs (next_of given m)) (sym same.1) h)

turns_give : (given : Given) (w : World) (n : ℕ) (m : Machine) → GivesInOrder given m (turns_from w n m)
turns_give given w zero m = still_gives given m m [] refl refl (λ h. h)
turns_give given w (suc n) m = then_gives given m (turn_of w m).after (turns_from w n (turn_of w m).after).after (notices_of w (turn_of w m).after (turn_of w m).turned) (turns_from w n (turn_of w m).after).lines (turn_gives given w m) (turns_give given w n (turn_of w m).after)

-- ---- journals

-- the count of requests is no matter
counted_gives : (given : Given) (m : Machine) (ran : Ran) → GivesInOrder given (counted m) ran → GivesInOrder given m ran
counted_gives given m ran g = record { all = g.all; grows = g.grows; rises = g.rises }

entry_gives : (given : Given) (read : Reader) (w : World) (m : Machine) (e : Entry) → GivesInOrder given m (entry_from read w m e)
unfolding answer_of
entry_gives given read w m (Ask asked) = counted_gives given m _ (answer_gives given (counted m) (asked_id asked) (asked_outcome read w (counted m) asked) (outcome_numbers given read w (counted m) asked))
entry_gives given read w m (Turns n) = turns_give given w n m

journal_gives : (given : Given) (read : Reader) (w : World) (m : Machine) (journal : List Entry) → GivesInOrder given m (journal_from read w m journal)
journal_gives given read w m [] = still_gives given m m [] refl refl (λ h. h)
journal_gives given read w m (e ∷ rest) =
    let here = entry_from read w m e in
    let behind = journal_from read w here.after rest in
    then_gives given m here.after behind.after here.lines behind.lines (entry_gives given read w m e) (journal_gives given read w here.after rest)

opening_numbered : (given : Given) (read : Reader) (w : World) (heard : List Heard) (journal : List Entry) → IsNumbered given (journal_from read w (opening heard) journal)
opening_numbered ToBreaks read w heard journal =
    let g = journal_gives ToBreaks read w (opening heard) journal in record { all = g.all; some = g.grows; armed = g.rises (let e : 1 ≤ 1 = omega arith in e) }
opening_numbered ToWatches read w heard journal =
    let g = journal_gives ToWatches read w (opening heard) journal in record { all = g.all; some = g.grows; armed = g.rises (let e : 1 ≤ 1 = omega arith in e) }

-- ---- what is accepted

takes_next : (given : Given) (m : Machine) (id : Option ℕ) (o : Outcome) (number : ℕ) → Numbers given m o → given_by given (answer_by m id o).reply.body ≡ number ∷ [] → TakesTheNext given m number (answer_by m id o).after
takes_next given m id (Refused refusal) number h e = absurd (let bad : number ∷ [] ≡ [] = sym e ∙ h in cc)
takes_next given m id (Accepted left granted) number (inl k) e = absurd (let bad : number ∷ [] ≡ [] = sym e ∙ k.none in cc)
takes_next given m id (Accepted left granted) number (inr t) e =
    let both : number ∷ [] ≡ next_of given m ∷ [] = sym e ∙ t.one in
    let same : number ≡ next_of given m = cc in
    record { number_is = same; next = t.more; armed = t.armed ∙ ap (λ (n : ℕ). armed_numbers given m ++ n ∷ []) (sym same) }

counted_takes : (given : Given) (m : Machine) (number : ℕ) (left : Machine) → TakesTheNext given (counted m) number left → TakesTheNext given m number left
counted_takes given m number left t = record { number_is = t.number_is; next = t.next; armed = t.armed }

answer_takes : (given : Given) (read : Reader) (w : World) (m : Machine) (asked : Asked) (number : ℕ) → given_by given (answer_of read w m asked).reply.body ≡ number ∷ [] → TakesTheNext given m number (answer_of read w m asked).after
unfolding answer_of
answer_takes given read w m asked number e =
    counted_takes given m number _ (takes_next given (counted m) (asked_id asked) (asked_outcome read w (counted m) asked) number (outcome_numbers given read w (counted m) asked) e)

break_takes : (read : Reader) (w : World) (m : Machine) (asked : Asked) (number : ℕ) (slots : List ℕ) → (answer_of read w m asked).reply.body ≡ body.Break number slots → TakesTheNext ToBreaks m number (answer_of read w m asked).after
break_takes read w m asked number slots e = answer_takes ToBreaks read w m asked number (ap (given_by ToBreaks) e)

watch_takes : (read : Reader) (w : World) (m : Machine) (asked : Asked) (number : ℕ) (slots : List ℕ) → (answer_of read w m asked).reply.body ≡ body.Watch slots number → TakesTheNext ToWatches m number (answer_of read w m asked).after
watch_takes read w m asked number slots e = answer_takes ToWatches read w m asked number (ap (given_by ToWatches) e)

pub numbers_are_given_once : NumbersAreGivenOnce
numbers_are_given_once = record { journals = opening_numbered; onwards = journal_gives; breaks = break_takes; watches = watch_takes }
