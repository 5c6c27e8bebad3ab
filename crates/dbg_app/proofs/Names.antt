-- Which files a command asked for, from those of its design and those behind them.
use Rattle.std.proofs.Common.{◌≡◌, ◌≤◌, ℕ, ◌+◌, List, [], ◌++◌, Option, Some, None, Result, Ok, Err, IfOk, length, refl, sym, ap, subst, ◌∙◌, arith}
use Rattle.std.proofs.lemmas.List.{append-nil, take_all}
use Rattle.io_edge.specs.Taken.{Appends, AppendsFront}
use Rattle.io_edge.specs.Unread.{StopsAt}
use Rattle.io_edge.proofs.Growth.{grown_twice, front_after, front_of_front}
use Rattle.io_edge.proofs.Stops.{stops_after, stops_of_front}
use Rattle.project_read.specs.Projects.{Contents}
use Rattle.project_read.specs.Asking.{AsksAll, AsksSome, AsksFront, StopsInside}
use Rattle.design_judge.specs.declared.DesignFault.{DesignFault}
use Rattle.design_judge.specs.declared.DesignFault.TheVariants as faults
use Rattle.design_judge.specs.Judging.{AsksFiles}
use Rattle.dbg_app.specs.Command.{Command, file_names, rest_names}
use Rattle.dbg_app.specs.Names.{AsksFrontOf, StopsInsideOf, AsksBehind}
use Rattle.dbg_app.specs.Judged.{AsksOwn, asked_behind}
use Rattle.dbg_app.specs.declared.halt.Halt.{Halt}
use Rattle.dbg_app.specs.declared.judge.Judged.{Judged}
use Rattle.dbg_app.specs.declared.judge.Judged.TheVariants as judged
use Rattle.dbg_app.specs.declared.shown.Shown.{Shown}
use Rattle.dbg_app.specs.declared.shown.Shown.TheVariants as shown
use Rattle.dbg_app.specs.Serving.{AsksShown, asked_show}

-- all of them are the first ones
pub all_some : (told : Option Contents) (src : List ℕ) (old new : Option (List (List ℕ))) → AsksAll told src old new → (count : ℕ) × AsksSome told src old new count
all_some told src old new h = (length h.0, (h.0, h.1, subst (Appends old new) (sym (take_all (length h.0) h.0 (omega arith))) h.3))

-- where the design is refused, some of its files were asked for
pub refused_some : (told : Option Contents) (src : List ℕ) (old new : Option (List (List ℕ))) (fault : DesignFault) → AsksFiles told src old new (Err fault) → (count : ℕ) × AsksSome told src old new count
refused_some told src old new (faults.Text file fault) h = (file + 1, h)
refused_some told src old new (faults.TooManyFiles line name) h = h
refused_some told src old new (faults.Elaboration fault) h = all_some told src old new h
refused_some told src old new (faults.Check fault) h = all_some told src old new h
refused_some told src old new (faults.CombLoop paths) h = all_some told src old new h

-- all of them, and then these
pub all_behind : (told : Option Contents) (src : List ℕ) (old mid new : Option (List (List ℕ))) (more : List (List ℕ)) → AsksAll told src old mid → Appends mid new more → AsksBehind told src more old new
all_behind told src old mid new more h p = (h.0, h.1, h.2, grown_twice old mid new h.0 more h.3 p)

-- and nothing more
pub all_alone : (told : Option Contents) (src : List ℕ) (old new : Option (List (List ℕ))) (more : List (List ℕ)) → more ≡ [] → AsksAll told src old new → AsksBehind told src more old new
all_alone told src old new more e h = (h.0, h.1, h.2, subst (Appends old new) (sym (ap (λ (l : List (List ℕ)). h.0 ++ l) e ∙ append-nil h.0)) h.3)

behind_some : (told : Option Contents) (src : List ℕ) (old mid new : Option (List (List ℕ))) → AsksAll told src old mid → Appends mid new [] → (count : ℕ) × AsksSome told src old new count
behind_some told src old mid new h p =
    all_some told src old new (h.0, h.1, h.2, subst (Appends old new) (append-nil h.0) (grown_twice old mid new h.0 [] h.3 p))

-- what was asked for behind the files of the design, by what was judged
pub own_asked : (told : Option Contents) (command : Command) (old mid new : Option (List (List ℕ))) (j : Judged) → AsksAll told command.source old mid → Appends mid new (asked_behind command.stimulus command.requests j) → AsksOwn told command old new j
own_asked told command old mid new judged.NoCommand h p = tt
own_asked told command old mid new (judged.NoDesign fault) h p = behind_some told command.source old mid new h p
own_asked told command old mid new (judged.NoStimulus fault) h p = all_behind told command.source old mid new (file_names command.stimulus) h p
own_asked told command old mid new judged.NoRequests h p = all_behind told command.source old mid new (rest_names command) h p
own_asked told command old mid new (judged.Alone task mode a) h p = all_behind told command.source old mid new (rest_names command) h p
own_asked told command old mid new (judged.Over task mode a stim) h p = all_behind told command.source old mid new (rest_names command) h p
own_asked told command old mid new (judged.Session mode a stim text) h p = all_behind told command.source old mid new (rest_names command) h p

-- so of a session
pub session_asked : (told : Option Contents) (command : Command) (old mid new : Option (List (List ℕ))) (result : Result Judged Halt) {stimulus requests : List ℕ} → command.stimulus ≡ Some stimulus → command.requests ≡ Some requests → AsksAll told command.source old mid
    → IfOk result (λ j. Appends mid new (asked_behind (Some stimulus) (Some requests) j)) → IfOk result (AsksOwn told command old new)
session_asked told command old mid new (Ok j) {stimulus} {requests} s r h p = own_asked told command old mid new j h (subst (Appends mid new) (λ i. asked_behind (sym s i) (sym r i) j) p)
session_asked told command old mid new (Err halt) s r h p = tt

-- so of a service
pub shown_asked : (told : Option Contents) (command : Command) (old mid new : Option (List (List ℕ))) (result : Result Shown Halt) {stimulus : List ℕ} → command.stimulus ≡ Some stimulus → command.requests ≡ None → AsksAll told command.source old mid
    → IfOk result (λ s. Appends mid new (asked_show stimulus s)) → IfOk result (AsksShown told command old new)
shown_asked told command old mid new (Ok (shown.Refused j)) {stimulus} s r h p = own_asked told command old mid new j h (subst (Appends mid new) (λ i. asked_behind (sym s i) (sym r i) j) p)
shown_asked told command old mid new (Ok (shown.Accepted service)) {stimulus} s r h p =
    all_behind told command.source old mid new (rest_names command) h (subst (Appends mid new) (λ i. file_names (sym s i) ++ file_names (sym r i)) p)
shown_asked told command old mid new (Err halt) s r h p = tt

-- ---- a front

pub front_own : (told : Option Contents) (command : Command) (old new : Option (List (List ℕ))) → AsksFront told command.source old new → AsksFrontOf told (Some command) old new
front_own told command old new h =
    (h.0 ++ rest_names command, record { names = h.0; are = h.1; split = refl }, front_of_front old new h.0 (rest_names command) (h.0 ++ rest_names command) refl h.2)

pub front_behind : (told : Option Contents) (command : Command) (old mid new : Option (List (List ℕ))) (more : List (List ℕ)) → rest_names command ≡ more → AsksAll told command.source old mid → AppendsFront mid new more → AsksFrontOf told (Some command) old new
front_behind told command old mid new more e h q =
    (h.0 ++ rest_names command, record { names = h.0; are = h.1; split = refl }, front_after old mid new h.0 more [] (h.0 ++ rest_names command) (ap (λ (l : List (List ℕ)). h.0 ++ l) (e ∙ sym (append-nil more))) h.3 q)

-- ---- a file that was not read

pub unread_own : {S : Type 0} (asked : S → Option (List (List ℕ))) (faults : S → ℕ) (told : Option Contents) (command : Command) (old new : S) → StopsInside told command.source asked faults old new → StopsInsideOf told (Some command) asked faults old new
unread_own asked faults told command old new h =
    (h.0 ++ rest_names command, record { names = h.0; are = h.1; split = refl }, stops_of_front asked faults old new h.0 (rest_names command) (h.0 ++ rest_names command) refl h.2)

pub unread_behind : {S : Type 0} (asked : S → Option (List (List ℕ))) (faults : S → ℕ) (told : Option Contents) (command : Command) (old mid new : S) (more : List (List ℕ)) → rest_names command ≡ more → AsksAll told command.source (asked old) (asked mid)
    → faults old ≤ faults mid → StopsAt asked faults mid new more → StopsInsideOf told (Some command) asked faults old new
unread_behind asked faults told command old mid new more e h later q =
    (h.0 ++ rest_names command, record { names = h.0; are = h.1; split = refl }, stops_after asked faults old mid new h.0 more [] (h.0 ++ rest_names command) (ap (λ (l : List (List ℕ)). h.0 ++ l) (e ∙ sym (append-nil more))) h.3 later q)
