-- What a hub does: a machine, and clients that ask it and are told of it.
use Rattle.std.specs.Prelude.{ℕ, zero, suc, Bool, true, false, List, [], ◌∷◌, ◌++◌, map, if◌then◌else◌, set, slice_index_or}
use Rattle.world_core.specs.World.{World}
use Rattle.machine_core.specs.Reading.{Reader}
use Rattle.machine_core.specs.Machine.{Machine, Answer, answer_of, turn_of}
use Rattle.machine_core.specs.Journal as core
use Rattle.machine_core.specs.Journal.{Replied, notices_of, is_bye}
use Rattle.req_json.specs.Asked.{asked}
use Rattle.req_json.specs.Texts.{line_text, texts_of}
use Rattle.hub_core.specs.declared.line.Line.{Line}

-- a machine, and which clients are here, by their numbers
pub record HubState : Type 0 where
  pub machine : Machine
  pub here : List Bool

-- where it has come to, and the lines on the way there, each for one client
pub record HubRan : Type 0 where
  pub after : HubState
  pub lines : List Line

abbrev pub ran_to : HubState → List Line → HubRan
ran_to after lines = record { after = after; lines = lines }

abbrev pub line : ℕ → List ℕ → Line
line client text = record { client = client; text = text }

-- a client is here
abbrev pub is_here : HubState → ℕ → Bool
is_here s client = slice_index_or s.here client false

-- a client is gone
abbrev pub gone : ℕ → HubState → HubState
gone client s = record s { here = set s.here client false }

-- ---- a client asks, by a text

unfoldable pub answer_in : Reader → World → Machine → List ℕ → Answer
answer_in read w m text = answer_of read w m (asked text)

abbrev pub after_ask_in : Reader → World → HubState → List ℕ → HubState
after_ask_in read w s text = record s { machine = (answer_in read w s.machine text).after }

-- a `bye` that is accepted
abbrev pub takes_leave : Reader → World → HubState → List ℕ → Bool
takes_leave read w s text = is_bye (answer_in read w s.machine text).reply.body

-- the reply goes to who asks, and one that takes its leave is gone
abbrev pub asked_by : Reader → World → HubState → ℕ → List ℕ → HubRan
asked_by read w s client text = record {
  after = if takes_leave read w s text then gone client (after_ask_in read w s text) else after_ask_in read w s text;
  lines = line client (line_text (Replied (answer_in read w s.machine text).reply)) ∷ [];
}

-- ---- a turn is made

-- each of these texts goes to each client that is here, from this client on
abbrev pub for_one : Bool → List Line → List Line
for_one true lines = lines
for_one false lines = []

unfoldable pub to_each : ℕ → List Bool → List (List ℕ) → List Line
to_each client [] texts = []
to_each client (is_here ∷ here) texts = for_one is_here (map (line client) texts) ++ to_each (suc client) here texts

-- what is told of a turn
unfoldable pub told_of_turn : World → Machine → List core.Line
told_of_turn w m = notices_of w (turn_of w m).after (turn_of w m).turned

abbrev pub turned : World → HubState → HubRan
turned w s = record {
  after = record s { machine = (turn_of w s.machine).after };
  lines = to_each zero s.here (texts_of (told_of_turn w s.machine));
}
