-- What a served connection is: by its link, by its session, and in lock step.
use Rattle.std.specs.Prelude.{◌≡◌, ◌≢◌, ◌⊎◌, ℕ, true, List, [], ◌++◌}
use Rattle.io_edge.specs.Faults.{Rose}
use Rattle.io_edge.specs.Taken.{Appends}
use Rattle.world_core.specs.World.{World}
use Rattle.machine_core.specs.Reading.{Reader}
use Rattle.machine_core.specs.Machine.{Machine}
use Rattle.link_edge.specs.Links.{Meaning, NoneFell}
use Rattle.link_edge.specs.declared.answers.End.{End}
use Rattle.link_edge.specs.declared.answers.End.TheVariants.{Bye, Closed, Failed, NoMemory}
use Rattle.duo_run.specs.declared.event.Event.{Event}
use Rattle.duo_run.specs.Deeds.{at_start, is_paced, ends_with_leave}
use Rattle.duo_run.specs.Polls.{Poll, MeetsPolls}
use Rattle.duo_run.specs.Journals.{requests_of, deeds_of, output_of, took_leave}

-- what passed through a link that meant the first and now means the second, and why it ended
pub record Carries (start now : Meaning) (journal : List Event) (unapplied sent unsent : List (List ℕ)) (end : End) : Type 0 where
  -- what was sent is what was made for it; something made was not sent only where the link ended or failed or memory ran out
  pub sent_is : Appends start.sent now.sent sent
  pub all_sent : (unsent ≡ []) ⊎ (Rose start.ends now.ends ⊎ (Rose start.faults now.faults ⊎ (end ≡ NoMemory)))
  -- what was received is what was applied, and then what was not
  pub read : Appends start.received now.received (requests_of journal ++ unapplied)
  pub all_applied : end ≢ Bye → end ≢ NoMemory → unapplied ≡ []
  pub closed : end ≡ Closed → Rose start.ends now.ends
  pub failed : end ≡ Failed → Rose start.faults now.faults
  pub counts : NoneFell start now
  pub shut : now.shut ≡ start.shut

-- what a session that began as this machine over a world made of the requests
pub record Applies (read : Reader) (w : World) (m : Machine) (journal : List Event) (sent unsent : List (List ℕ)) (end : End) : Type 0 where
  -- the lines are the output of the journal, or a front of it where memory ran out
  pub output : (lost : List (List ℕ)) × (output_of read w m journal ≡ (sent ++ unsent) ++ lost) × (end ≢ NoMemory → lost ≡ [])
  -- it ends by `bye` where one was the last request that was applied, and else not
  pub bye : end ≡ Bye → took_leave read w m journal ≡ true
  pub left : took_leave read w m journal ≡ true → (end ≡ Bye) ⊎ (end ≡ NoMemory)
  pub last : ends_with_leave read w (at_start m) (deeds_of journal) ≡ true
  pub paced : is_paced read w (at_start m) (deeds_of journal) ≡ true

-- in lock step what was done is what the polls give
pub record InLockStep (read : Reader) (w : World) (m : Machine) (start now : Meaning) (journal : List Event) (end : End) : Type 0 where
  pub polls : List Poll
  pub told : Appends start.polls now.polls polls
  pub met : MeetsPolls read w (at_start m) end polls (deeds_of journal)
