-- Laws of the machine.
use Rattle.std.specs.Prelude.{◌≡◌, ℕ, ◌+◌, ◌-◌, ◌^◌, ◌≤◌, ◌||◌, min, Bool, List, [], ◌∷◌, ◌++◌, Option, Some, None, find}
use Rattle.list_core.specs.Lists.{from}
use Rattle.listen.specs.Pairs.{Heard}
use Rattle.world_core.specs.World.{World, AreSame}
use Rattle.machine_core.specs.declared.request.Asked.{Asked}
use Rattle.machine_core.specs.declared.reply.Body.TheVariants as body
use Rattle.machine_core.specs.declared.turn.Motion.TheVariants.{Idle, Running}
use Rattle.trace_core.specs.declared.scan.Way.{Way}
use Rattle.trace_core.specs.declared.scan.Want.{Want}
use Rattle.trace_core.specs.declared.scan.Want.TheVariants.{Breakpoints, Step}
use Rattle.machine_core.specs.Positions.{position_count, end_place, ahead}
use Rattle.machine_core.specs.Reading.{Reading, IsReading, Reader, IsReader}
use Rattle.machine_core.specs.Machine.{Machine, opening, awaited_by, Turn, stopped_at, edge_turn, moved_turn, turn_of, Refused, asked_outcome, answer_of, counted}
use Rattle.machine_core.specs.Journal.{Entry, Ran, journal_from, journal_output, batch_output, until_idle, notices_of}
use Rattle.machine_core.specs.Matching.{Awaited, breakpoints_alone, watches_alone, matches}
use Rattle.machine_core.specs.Search.{nearest_that, nearer, searched_for, nearer_found}
use Rattle.machine_core.specs.declared.found.Found.{Found}
use Rattle.machine_core.specs.declared.found.Found.TheVariants as found
use Rattle.machine_core.specs.Numbers.{Given, ToBreaks, ToWatches, AreRising, armed_numbers, next_of, numbers_given, GivesInOrder}

-- over worlds that differ in nothing that can be seen every journal and every batch has one output
pub record AnswersAlike : Type 0 where
  pub journals : (read : Reader) (v w : World) (heard : List Heard) (journal : List Entry) → AreSame v w → journal_output read v heard journal ≡ journal_output read w heard journal
  pub batches : (read : Reader) (v w : World) (heard : List Heard) (requests : List Asked) → AreSame v w → batch_output read v heard requests ≡ batch_output read w heard requests

-- a refused request leaves all as it was but the count of requests
abbrev pub RefusedChangeNothing : Type 0
RefusedChangeNothing = (read : Reader) (w : World) (m : Machine) (asked : Asked) (refusal : _) → asked_outcome read w (counted m) asked ≡ Refused refusal
    → (answer_of read w m asked).after ≡ record m { ordinal = min (m.ordinal + 1) (2 ^ 64 - 1) }

-- no request moves a session
abbrev pub MovesByTurnsAlone : Type 0
MovesByTurnsAlone = (read : Reader) (w : World) (m : Machine) (asked : Asked) → (answer_of read w m asked).after.place ≡ m.place

-- a batch waits for each request to its end: after so many turns the machine is idle
abbrev pub BatchesEnd : Type 0
BatchesEnd = (w : World) (m : Machine) → m.place ≤ end_place w → (until_idle w m).after.motion ≡ Idle

-- where a session that runs comes to: the nearest position that matches, if there is one; else the end or the start
abbrev pub comes_to : World → Machine → Way → Option ℕ → Turn
comes_to w m way (Some p) = stopped_at w m p
comes_to w m way None = edge_turn w way m

abbrev pub nearest_ahead : World → Machine → Way → Want → Option ℕ
nearest_ahead w m way want = find (matches w (awaited_by m) want) (ahead (position_count w) way m.place)

-- turns until it is idle bring it there, of all positions that lie ahead, and tell that alone
abbrev pub RunsToTheNearest : Type 0
RunsToTheNearest = (w : World) (m : Machine) (way : Way) (want : Want) → m.motion ≡ Running way want → m.place ≤ end_place w
    → until_idle w m ≡ record { after = (comes_to w m way (nearest_ahead w m way want)).after; lines = notices_of w (comes_to w m way (nearest_ahead w m way want)).after (comes_to w m way (nearest_ahead w m way want)).turned }

-- a search for what passes one of two tests finds the nearer of what searches for each find. A position matches where a watch or a
-- breakpoint matches; so what a session that runs for both looks for is the nearer of two searches. A step looks at neither
pub record SearchesJoin : Type 0 where
  pub either : (f g : ℕ → Bool) (count : ℕ) (way : Way) (place : ℕ)
      → nearest_that (λ p. f p || g p) count way place ≡ nearer way (nearest_that f count way place) (nearest_that g count way place)
  pub found : (f g : ℕ → Bool) (count : ℕ) (way : Way) (place : ℕ)
      → searched_for (λ p. f p || g p) count way place ≡ nearer_found way (searched_for f count way place) (searched_for g count way place)
  pub matched : (w : World) (awaited : Awaited) (p : ℕ)
      → matches w awaited Breakpoints p ≡ (matches w (watches_alone awaited.watches) Breakpoints p || matches w (breakpoints_alone awaited.breakpoints) Breakpoints p)
  pub nearest : (w : World) (awaited : Awaited) (count : ℕ) (way : Way) (place : ℕ)
      → nearest_that (matches w awaited Breakpoints) count way place
      ≡ nearer way (nearest_that (matches w (watches_alone awaited.watches) Breakpoints) count way place) (nearest_that (matches w (breakpoints_alone awaited.breakpoints) Breakpoints) count way place)
  pub stepped : (w : World) (awaited : Awaited) (named : Option ℕ) (p : ℕ) → matches w awaited (Step named) p ≡ matches w (breakpoints_alone []) (Step named) p

-- the turn that makes use of what a search found: a stop there, the end or the start, or as many positions on as it looked at
abbrev pub turn_from : World → Way → Machine → Found → Turn
turn_from w way m (found.At p) = stopped_at w m p
turn_from w way m found.Edge = edge_turn w way m
turn_from w way m found.Nowhere = moved_turn way m

-- what searches from where it stands find: one for its watches and one for its breakpoints; or one for a step
abbrev pub watches_found : World → Machine → Way → Found
watches_found w m way = searched_for (matches w (watches_alone m.watches) Breakpoints) (position_count w) way m.place

abbrev pub breakpoints_found : World → Machine → Way → Want → Found
breakpoints_found w m way want = searched_for (matches w (breakpoints_alone m.breakpoints) want) (position_count w) way m.place

abbrev pub found_by : World → Machine → Way → Want → Found
found_by w m way Breakpoints = nearer_found way (watches_found w m way) (breakpoints_found w m way Breakpoints)
found_by w m way (Step named) = breakpoints_found w m way (Step named)

-- a turn of a machine that runs is the turn by what these find
abbrev pub TurnsBySearch : Type 0
TurnsBySearch = (w : World) (m : Machine) (way : Way) (want : Want) → m.motion ≡ Running way want → turn_of w m ≡ turn_from w way m (found_by w m way want)

-- each text is read in one way, so there is one reader
pub record HaveOneReading : Type 0 where
  pub some : (read : Reader) × IsReader read
  pub one : (text : List ℕ) (r s : Reading) → IsReading text r → IsReading text s → r ≡ s

-- ---- numbers of breakpoints and of watches

-- over every journal the numbers 1, 2, 3 and so on are given, in this order and each once, to breakpoints and for themselves to watches; those
-- of what is armed rise, and are below the next one, which is the one behind all that were given
pub record IsNumbered (given : Given) (ran : Ran) : Type 0 where
  pub all : numbers_given given ran.lines ≡ from 1 (next_of given ran.after - 1)
  pub some : 1 ≤ next_of given ran.after
  pub armed : AreRising 1 (armed_numbers given ran.after) (next_of given ran.after)

-- what is accepted is armed behind the others, under the number that was next
pub record TakesTheNext (given : Given) (m : Machine) (number : ℕ) (left : Machine) : Type 0 where
  pub number_is : number ≡ next_of given m
  pub next : next_of given left ≡ next_of given m + 1
  pub armed : armed_numbers given left ≡ armed_numbers given m ++ number ∷ []

pub record NumbersAreGivenOnce : Type 0 where
  pub journals : (given : Given) (read : Reader) (w : World) (heard : List Heard) (journal : List Entry) → IsNumbered given (journal_from read w (opening heard) journal)
  pub onwards : (given : Given) (read : Reader) (w : World) (m : Machine) (journal : List Entry) → GivesInOrder given m (journal_from read w m journal)
  pub breaks : (read : Reader) (w : World) (m : Machine) (asked : Asked) (number : ℕ) (slots : List ℕ) → (answer_of read w m asked).reply.body ≡ body.Break number slots
      → TakesTheNext ToBreaks m number (answer_of read w m asked).after
  pub watches : (read : Reader) (w : World) (m : Machine) (asked : Asked) (number : ℕ) (slots : List ℕ) → (answer_of read w m asked).reply.body ≡ body.Watch slots number
      → TakesTheNext ToWatches m number (answer_of read w m asked).after
