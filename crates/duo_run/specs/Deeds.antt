-- What is done with a session, one by one: it is asked, or it goes on by one turn.
use Rattle.std.specs.Prelude.{ℕ, Bool, true, false, not, ◌&&◌, ◌||◌, List, [], ◌∷◌, ◌++◌, if◌then◌else◌}
use Rattle.world_core.specs.World.{World}
use Rattle.machine_core.specs.Reading.{Reader}
use Rattle.machine_core.specs.Machine.{Machine, turn_of, Answer, answer_of, is_running}
use Rattle.machine_core.specs.Journal.{Line, Replied, notices_of, is_bye}
use Rattle.req_json.specs.Asked.{asked}

pub data Deed : Type 0 where
  Asks : List ℕ → Deed
  Goes : Deed

-- a session as its client left it: the machine, and whether the client took its leave by a `bye` that was accepted
pub record Stage : Type 0 where
  pub machine : Machine
  pub left : Bool

abbrev pub at_start : Machine → Stage
at_start m = record { machine = m; left = false }

-- the answer to a text
unfoldable pub answer_to : Reader → World → Machine → List ℕ → Answer
answer_to read w m text = answer_of read w m (asked text)

-- ---- what a deed leaves

unfoldable pub after_ask : Reader → World → Stage → List ℕ → Stage
after_ask read w s text =
    record { machine = (answer_to read w s.machine text).after; left = s.left || is_bye (answer_to read w s.machine text).reply.body }

unfoldable pub after_go : World → Stage → Stage
after_go w s = record { machine = (turn_of w s.machine).after; left = s.left }

abbrev pub after_deed : Reader → World → Stage → Deed → Stage
after_deed read w s (Asks text) = after_ask read w s text
after_deed read w s Goes = after_go w s

unfoldable pub after_deeds : Reader → World → Stage → List Deed → Stage
after_deeds read w s [] = s
after_deeds read w s (d ∷ ds) = after_deeds read w (after_deed read w s d) ds

-- ---- what is told of a deed

abbrev pub told_of : Reader → World → Stage → Deed → List Line
told_of read w s (Asks text) = Replied (answer_to read w s.machine text).reply ∷ []
told_of read w s Goes = notices_of w (turn_of w s.machine).after (turn_of w s.machine).turned

unfoldable pub lines_of : Reader → World → Stage → List Deed → List Line
lines_of read w s [] = []
lines_of read w s (d ∷ ds) = told_of read w s d ++ lines_of read w (after_deed read w s d) ds

-- ---- the requests

abbrev pub request_in : Deed → List (List ℕ)
request_in (Asks text) = text ∷ []
request_in Goes = []

unfoldable pub requests_in : List Deed → List (List ℕ)
requests_in [] = []
requests_in (d ∷ ds) = request_in d ++ requests_in ds

-- ---- what is never done

-- a turn is due: the session runs, and its client has not left
abbrev pub is_turn_due : Stage → Bool
is_turn_due s = is_running s.machine.motion && not s.left

-- no request comes next
abbrev pub no_request_next : List Deed → Bool
no_request_next [] = true
no_request_next (Asks text ∷ ds) = false
no_request_next (Goes ∷ ds) = true

-- each request behind which a turn is due is followed by a turn before the next request
unfoldable pub is_paced : Reader → World → Stage → List Deed → Bool
is_paced read w s [] = true
is_paced read w s (Asks text ∷ ds) = (if is_turn_due (after_ask read w s text) then no_request_next ds else true) && is_paced read w (after_ask read w s text) ds
is_paced read w s (Goes ∷ ds) = is_paced read w (after_go w s) ds

-- nothing is done once the client has left
unfoldable pub ends_with_leave : Reader → World → Stage → List Deed → Bool
ends_with_leave read w s [] = true
ends_with_leave read w s (d ∷ ds) = not s.left && ends_with_leave read w (after_deed read w s d) ds
