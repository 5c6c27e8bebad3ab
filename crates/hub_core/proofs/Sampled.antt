-- The sample of two clients: what they are told and what they asked, computed.
use Rattle.std.proofs.Common.{◌≡◌, ℕ, Bool, true, false, List, [], ◌∷◌, ◌++◌, None, refl, ◌∙◌, ap, if◌then◌else◌, nat_eq}
use Rattle.machine_core.specs.declared.request.Asked.{Asked}
use Rattle.machine_core.specs.declared.request.Cmd.TheVariants as cmd
use Rattle.machine_core.specs.Machine.{Machine, answer_of, turn_of}
use Rattle.machine_core.specs.Journal as core
use Rattle.machine_core.specs.Journal.{Replied, closing_lines}
use Rattle.machine_core.specs.SampleBatch.{read_a}
use Rattle.req_json.specs.Asked.{asked}
use Rattle.req_json.specs.Texts.{texts_of}
use Rattle.hub_core.specs.Hubs.{answer_in, told_of_turn}
use Rattle.hub_core.specs.HubJournals.{HubDeed, Asks, Leaves, Goes, hub_deeds, at_client, asks_of, client_lines, hub_entries}
use Rattle.hub_core.specs.Sample.{ask_for, world, start, journal, first_lines, second_lines, TwoAreServed}

-- what is done, once texts were read
data Done : Type 0 where
  Asked_by : ℕ → Asked → Done
  Left_by : ℕ → Done
  Turned : Done

abbrev done : HubDeed → Done
done (Asks client text) = Asked_by client (asked text)
done (Leaves client) = Left_by client
done Goes = Turned

abbrev all_done : List HubDeed → List Done
all_done [] = []
all_done (d ∷ ds) = done d ∷ all_done ds

abbrev lines_by : ℕ → Bool → Machine → List Done → List core.Line
lines_by k here m [] = []
lines_by k here m (Asked_by client x ∷ ds) = at_client client k (Replied (answer_of read_a world m x).reply ∷ []) ++ lines_by k here (answer_of read_a world m x).after ds
lines_by k here m (Left_by client ∷ ds) = lines_by k (if nat_eq client k then false else here) m ds
lines_by k here m (Turned ∷ ds) = (if here then told_of_turn world m else []) ++ lines_by k here (turn_of world m).after ds

lines_are : (k : ℕ) (here : Bool) (m : Machine) (ds : List HubDeed) → client_lines read_a world k here m ds ≡ lines_by k here m (all_done ds)
unfolding client_lines answer_in
lines_are k here m [] = refl
lines_are k here m (Asks client text ∷ ds) = ap (λ l. at_client client k (Replied (answer_in read_a world m text).reply ∷ []) ++ l) (lines_are k here (answer_in read_a world m text).after ds)
lines_are k here m (Leaves client ∷ ds) = lines_are k (if nat_eq client k then false else here) m ds
lines_are k here m (Goes ∷ ds) = ap (λ l. (if here then told_of_turn world m else []) ++ l) (lines_are k here (turn_of world m).after ds)

abbrev row : List Done
row =
    Asked_by 0 (ask_for (cmd.Break 10 None None)) ∷ Asked_by 0 (ask_for cmd.Continue) ∷ Turned ∷ Asked_by 0 (ask_for cmd.Bye) ∷ Left_by 0
    ∷ Asked_by 1 (ask_for cmd.Status) ∷ Asked_by 1 (ask_for cmd.Bye) ∷ Left_by 1 ∷ []

by_hand_first : lines_by 0 true start row ≡ first_lines
unfolding answer_of turn_of told_of_turn
by_hand_first = refl

by_hand_second : lines_by 1 true start row ≡ second_lines
unfolding answer_of turn_of told_of_turn
by_hand_second = refl

abbrev entry_row : List core.Entry
entry_row =
    core.Ask (ask_for (cmd.Break 10 None None)) ∷ core.Ask (ask_for cmd.Continue) ∷ core.Turns 1 ∷ core.Ask (ask_for cmd.Bye)
    ∷ core.Ask (ask_for cmd.Status) ∷ core.Ask (ask_for cmd.Bye) ∷ []

by_hand_closing : texts_of (closing_lines (core.journal_from read_a world start entry_row).after.heard) ≡ []
unfolding answer_of turn_of
by_hand_closing = refl

pub two_are_served : TwoAreServed
unfolding hub_deeds asks_of hub_entries
two_are_served b c y s eb ec ey es =
    let same : all_done (hub_deeds (journal b c y s)) ≡ row = rw (eb, ec, ey, es) refl in
    let entries : hub_entries (journal b c y s) ≡ entry_row = rw (eb, ec, ey, es) refl in
    record {
      first = lines_are 0 true start (hub_deeds (journal b c y s)) ∙ ap (lines_by 0 true start) same ∙ by_hand_first;
      second = lines_are 1 true start (hub_deeds (journal b c y s)) ∙ ap (lines_by 1 true start) same ∙ by_hand_second;
      asked_first = refl;
      asked_second = refl;
      closing = ap (λ es. texts_of (closing_lines (core.journal_from read_a world start es).after.heard)) entries ∙ by_hand_closing;
    }
