-- Links and doors in memory: what they are told to do, what a call answers, and what it leaves.
use Rattle.std.specs.Prelude.{◌≡◌, ◌+◌, ◌==◌, ℕ, Bool, true, false, List, [], ◌∷◌, ◌++◌, length, min, take, slice_get, Option, None, Some, Result, Ok, Err}
use Rattle.std.specs.List.{flat_map, list_any}
use Rattle.io_edge.specs.Faults.{one_more}
use Rattle.link_edge.specs.declared.step.Step.{Step}
use Rattle.link_edge.specs.declared.step.Step.TheVariants as step
use Rattle.link_edge.specs.declared.answers.Polled.{Polled}
use Rattle.link_edge.specs.declared.answers.Polled.TheVariants.{Message, Nothing, Closed, Failed, NoMemory}
use Rattle.link_edge.specs.declared.answers.LinkEnd.{LinkEnd}
use Rattle.link_edge.specs.declared.answers.LinkEnd.TheVariants as link_ends
use Rattle.link_edge.specs.Links.{Meaning, messages_in, is_fresh}

-- the steps that it is told, how many of them were taken, the numbers of the sends that fail, how many sends there were, what was
-- sent, and the counts
pub record LinkInMemory : Type 0 where
  pub script : List Step
  pub taken : ℕ
  pub failing : List ℕ
  pub sends : ℕ
  pub sent : List (List ℕ)
  pub faults : ℕ
  pub idles : ℕ
  pub ends : ℕ
  pub shut : Bool

-- a link that is told these steps, and nothing has passed through it
abbrev pub new_link : List Step → List ℕ → LinkInMemory
new_link script failing =
    record { script = script; taken = 0; failing = failing; sends = 0; sent = []; faults = 0; idles = 0; ends = 0; shut = false }

-- ---- what it means

-- what a step adds to the polls
abbrev pub poll_in : Step → List (Option (List ℕ))
poll_in (step.Message text) = Some text ∷ []
poll_in step.Nothing = None ∷ []
poll_in step.Close = []
poll_in step.Fault = []

-- the polls that gave a message or nothing, so far
abbrev pub polls_of : LinkInMemory → List (Option (List ℕ))
polls_of link = flat_map poll_in (take link.taken link.script)

abbrev pub meaning_of : LinkInMemory → Meaning
meaning_of link = record {
  polls = Some (polls_of link);
  received = Some (messages_in (polls_of link));
  sent = Some link.sent;
  faults = link.faults;
  idles = link.idles;
  ends = link.ends;
  shut = link.shut;
}

-- ---- polls

-- what the next poll answers: by the next step, and behind the last that the stream is at its end
abbrev pub answer_to : Option Step → Polled
answer_to None = Closed
answer_to (Some (step.Message text)) = Message text
answer_to (Some step.Nothing) = Nothing
answer_to (Some step.Close) = Closed
answer_to (Some step.Fault) = Failed

abbrev pub next_answer : LinkInMemory → Polled
next_answer link = answer_to (slice_get link.script link.taken)

-- it answers so, unless memory ran out
abbrev pub AnswersPoll : LinkInMemory → Polled → Type 0
AnswersPoll link (Message text) = next_answer link ≡ Message text
AnswersPoll link Nothing = next_answer link ≡ Nothing
AnswersPoll link Closed = next_answer link ≡ Closed
AnswersPoll link Failed = next_answer link ≡ Failed
AnswersPoll link NoMemory = Unit {0}

-- one step further, up to the last
abbrev pub stepped : LinkInMemory → LinkInMemory
stepped link = record link { taken = min (link.taken + 1) (length link.script) }

-- what a poll that answers so leaves
abbrev pub after_poll : Polled → LinkInMemory → LinkInMemory
after_poll (Message text) link = stepped link
after_poll Nothing link = record (stepped link) { idles = one_more link.idles }
after_poll Closed link = record (stepped link) { ends = one_more link.ends }
after_poll Failed link = record (stepped link) { faults = one_more link.faults }
after_poll NoMemory link = link

-- ---- sends

-- the next send is one of those that fail; its number is how many there were that did not end for want of memory
abbrev pub next_send_fails : LinkInMemory → Bool
next_send_fails link = list_any (λ number. number == link.sends) link.failing

-- it answers so, unless memory ran out
abbrev pub AnswersSend : LinkInMemory → Result (Unit {0}) LinkEnd → Type 0
AnswersSend link (Ok done) = next_send_fails link ≡ false
AnswersSend link (Err link_ends.Failed) = next_send_fails link ≡ true
AnswersSend link (Err link_ends.NoMemory) = Unit {0}

-- what a send that answers so leaves
abbrev pub after_send : List ℕ → Result (Unit {0}) LinkEnd → LinkInMemory → LinkInMemory
after_send text (Ok done) link = record link { sends = one_more link.sends; sent = link.sent ++ text ∷ [] }
after_send text (Err link_ends.Failed) link = record link { sends = one_more link.sends; faults = one_more link.faults }
after_send text (Err link_ends.NoMemory) link = link

-- ---- doors

-- nothing has passed through it
abbrev pub is_fresh_link : LinkInMemory → Bool
is_fresh_link link = is_fresh (meaning_of link)

-- the links that are left, each as it was made, and the count of faults
pub record DoorInMemory : Type 0 where
  pub links : List LinkInMemory
  pub faults : ℕ
