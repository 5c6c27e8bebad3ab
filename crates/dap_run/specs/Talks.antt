-- A conversation over an input and an output: what was taken of the one, the messages of it that were answered, and that what was written is
-- the text of their conversation.
use Rattle.std.specs.Prelude.{◌≡◌, ◌≢◌, ℕ, Bool, true, false, List, [], ◌∷◌, ◌++◌, Option, None, Some}
use Rattle.std.specs.Io.KnownBytes.{Consumes, IsAtEnd, Keeps}
use Rattle.world_core.specs.World.{World}
use Rattle.machine_core.specs.Reading.{Reader}
use Rattle.io_edge.specs.Taken.{Appends, AppendsFront}
use Rattle.dap_link.specs.Frames.{IsFault, IsMessage}
use Rattle.dap_link.specs.Framing.{Framing}
use Rattle.dap_link.specs.Laws.{whole_of}
use Rattle.dap_link.specs.Conversation.{Conversation, Spoken, spoken}
use Rattle.dap_link.specs.Talks.{Begins, conversed, conversed_text, IsOver}
use Rattle.dap_run.specs.declared.ends.TalkEnd.{TalkEnd}
use Rattle.dap_run.specs.declared.ends.TalkEnd.TheVariants as ends

-- ---- one message

-- it was answered, and what it led to was written
pub record Answers (read : Reader) (w : World) (names : List (List ℕ)) (c : Conversation) (body : List ℕ) (after : Conversation) (last : Bool) (old new : Option (List ℕ)) : Type 0 where
  pub after_is : after ≡ (spoken read w names c body).after
  pub last_is : last ≡ (spoken read w names c body).ended
  pub written : Appends old new (whole_of (spoken read w names c body).lines)

-- a front of what it leads to was written
abbrev pub WritesFront : Reader → World → List (List ℕ) → Conversation → List ℕ → Option (List ℕ) → Option (List ℕ) → Type 0
WritesFront read w names c body old new = AppendsFront old new (whole_of (spoken read w names c body).lines)

-- ---- one piece

-- it was taken, and is held behind what was; the input is at its end where it is empty
pub record Hears (left0 left : Option (List ℕ)) (old new : Framing) (ended : Bool) : Type 0 where
  pub piece : List ℕ
  pub input : Consumes left0 left piece
  pub held : new ≡ record { held = old.held ++ piece; fault = old.fault }
  pub at_end : ended ≡ true → IsAtEnd left

-- something may have been taken, that is not held
pub record HearsSome (left0 left : Option (List ℕ)) : Type 0 where
  pub piece : List ℕ
  pub input : Consumes left0 left piece

-- ---- the conversation so far

-- these messages were taken off what came of the input, and this is held of it
pub record Took (left0 left : Option (List ℕ)) (bodies : List (List ℕ)) (held : List ℕ) : Type 0 where
  pub text : List ℕ
  pub input : Consumes left0 left text
  pub begins : Begins text bodies held

-- they were answered, none of them was the last, and their text was written
pub record Stands (read : Reader) (w : World) (names : List (List ℕ)) (first now : Conversation) (left0 left : Option (List ℕ)) (held : List ℕ) (ended : Bool) (old new : Option (List ℕ)) : Type 0 where
  pub bodies : List (List ℕ)
  pub took : Took left0 left bodies held
  pub going : (conversed read w names first bodies).ended ≡ false
  pub now_is : now ≡ (conversed read w names first bodies).after
  pub written : Appends old new (conversed_text read w names first bodies)
  pub at_end : ended ≡ true → IsAtEnd left

-- ---- how it ends

-- all of what was answered was written; this is what is left of the input's text behind that
pub record Finishes (read : Reader) (w : World) (names : List (List ℕ)) (first : Conversation) (left0 left : Option (List ℕ)) (old new : Option (List ℕ)) (IsSo : Spoken → List ℕ → Type 0) : Type 0 where
  pub bodies : List (List ℕ)
  pub held : List ℕ
  pub took : Took left0 left bodies held
  pub written : Appends old new (conversed_text read w names first bodies)
  pub over : IsOver (conversed read w names first bodies) held
  pub so : IsSo (conversed read w names first bodies) held

-- a front of it was
pub record Breaks (read : Reader) (w : World) (names : List (List ℕ)) (first : Conversation) (left0 left : Option (List ℕ)) (old new : Option (List ℕ)) : Type 0 where
  pub bodies : List (List ℕ)
  pub held : List ℕ
  pub took : Took left0 left bodies held
  pub front : AppendsFront old new (conversed_text read w names first bodies)

abbrev pub HasEnded : Spoken → List ℕ → Type 0
HasEnded s held = s.ended ≡ true

-- the input is at its end, and so is the text of whole messages
abbrev pub IsWhole : Option (List ℕ) → Spoken → List ℕ → Type 0
IsWhole left s held = IsAtEnd left × (held ≡ [])

abbrev pub HasFault : ℕ → Spoken → List ℕ → Type 0
HasFault k s held = (ended : Bool) × IsFault held ended k

abbrev pub Anything : Spoken → List ℕ → Type 0
Anything s held = Unit {0}

-- From an input of which this was left, and an output that had taken this: how a conversation ended.
abbrev pub TalksTo : TalkEnd → Reader → World → List (List ℕ) → Conversation → Option (List ℕ) → Option (List ℕ) → Option (List ℕ) → Option (List ℕ) → Type 0
TalksTo ends.Bye read w names first left0 left old new = Finishes read w names first left0 left old new HasEnded
TalksTo ends.AtEnd read w names first left0 left old new = Finishes read w names first left0 left old new (IsWhole left)
TalksTo (ends.Fault k) read w names first left0 left old new = Finishes read w names first left0 left old new (HasFault k)
TalksTo ends.NotRead read w names first left0 left old new = Finishes read w names first left0 left old new Anything
TalksTo ends.NotTaken read w names first left0 left old new = Breaks read w names first left0 left old new
TalksTo ends.NoMemory read w names first left0 left old new = Breaks read w names first left0 left old new

-- one step of it: it stands as before, by what is new; or it ended so
abbrev pub Turns : Option TalkEnd → Reader → World → List (List ℕ) → Conversation → Conversation → Option (List ℕ) → Option (List ℕ) → List ℕ → Bool → Option (List ℕ) → Option (List ℕ) → Type 0
Turns None read w names first now left0 left held ended old new = Stands read w names first now left0 left held ended old new
Turns (Some end) read w names first now left0 left held ended old new = TalksTo end read w names first left0 left old new
