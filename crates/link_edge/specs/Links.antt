-- What a link means: what passed through it, where it tells that, and its counts.
use Rattle.std.specs.Prelude.{◌≡◌, ◌≤◌, ◌==◌, ◌&&◌, not, ℕ, Bool, true, false, List, [], ◌∷◌, Option, None, Some, IfSome}
use Rattle.std.specs.List.{flat_map}
use Rattle.io_edge.specs.Faults.{Rose}
use Rattle.io_edge.specs.Taken.{Appends}
use Rattle.link_edge.specs.declared.answers.Polled.{Polled}
use Rattle.link_edge.specs.declared.answers.Polled.TheVariants.{Message, Nothing, Closed, Failed, NoMemory}

-- the polls, each of which is a message or nothing, the messages received, and the messages sent, each list in order and where the
-- link tells it; how often it failed, had nothing, and was at its end; and whether it was shut
pub record Meaning : Type 0 where
  pub polls : Option (List (Option (List ℕ)))
  pub received : Option (List (List ℕ))
  pub sent : Option (List (List ℕ))
  pub faults : ℕ
  pub idles : ℕ
  pub ends : ℕ
  pub shut : Bool

-- what an answer adds to the polls
abbrev pub polled : Polled → List (Option (List ℕ))
polled (Message text) = Some text ∷ []
polled Nothing = None ∷ []
polled Closed = []
polled Failed = []
polled NoMemory = []

-- the messages among polls
abbrev pub message_in : Option (List ℕ) → List (List ℕ)
message_in None = []
message_in (Some text) = text ∷ []

abbrev pub messages_in : List (Option (List ℕ)) → List (List ℕ)
messages_in polls = flat_map message_in polls

-- no count has fallen
pub record NoneFell (old new : Meaning) : Type 0 where
  pub faults : old.faults ≤ new.faults
  pub idles : old.idles ≤ new.idles
  pub ends : old.ends ≤ new.ends

-- what a poll that answers so leaves
pub record AfterPoll (old : Meaning) (answer : Polled) (new : Meaning) : Type 0 where
  pub polls : Appends old.polls new.polls (polled answer)
  pub received : Appends old.received new.received (messages_in (polled answer))
  pub sent : new.sent ≡ old.sent
  pub counts : NoneFell old new
  pub failed : answer ≡ Failed → Rose old.faults new.faults
  pub nothing : answer ≡ Nothing → Rose old.idles new.idles
  pub closed : answer ≡ Closed → Rose old.ends new.ends
  pub shut : new.shut ≡ old.shut

-- what a call that sends these messages leaves: the one that it was given, or none
pub record AfterSend (old : Meaning) (messages : List (List ℕ)) (new : Meaning) : Type 0 where
  pub polls : new.polls ≡ old.polls
  pub received : new.received ≡ old.received
  pub sent : Appends old.sent new.sent messages
  pub counts : NoneFell old new
  pub shut : new.shut ≡ old.shut

-- what a close leaves
abbrev pub after_close : Meaning → Meaning
after_close link = record link { shut = true }

-- as a door hands it out: it is not shut, its counts are 0, and its lists are empty, where it tells them
pub record IsFresh (link : Meaning) : Type 0 where
  pub polls : IfSome link.polls (λ polls. polls ≡ [])
  pub received : IfSome link.received (λ messages. messages ≡ [])
  pub sent : IfSome link.sent (λ messages. messages ≡ [])
  pub faults : link.faults ≡ 0
  pub idles : link.idles ≡ 0
  pub ends : link.ends ≡ 0
  pub shut : link.shut ≡ false

-- the same, as a test
abbrev pub is_bare : {A : Type 0} → Option (List A) → Bool
is_bare None = true
is_bare (Some []) = true
is_bare (Some (x ∷ xs)) = false

abbrev pub is_fresh : Meaning → Bool
is_fresh link =
    is_bare link.polls && (is_bare link.received && (is_bare link.sent
    && ((link.faults == 0) && ((link.idles == 0) && ((link.ends == 0) && not link.shut)))))
