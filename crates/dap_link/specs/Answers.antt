-- Laws of a conversation, in the protocol's own words: each message has one response and at most one event, the numbers rise by one, and what
-- fails leaves all as it was.
use Rattle.std.specs.Prelude.{◌≡◌, ℕ, ◌+◌, ◌*◌, ◌^◌, ◌<◌, false, is_some, List, [], ◌∷◌, ◌++◌, length, map, Some, None}
use Rattle.world_core.specs.World.{World}
use Rattle.machine_core.specs.Reading.{Reader}
use Rattle.machine_core.specs.Machine.{Machine}
use Rattle.dap_text.specs.declared.message.Message.{Message}
use Rattle.dap_text.specs.declared.message.EditorCmd.{EditorCmd}
use Rattle.dap_text.specs.declared.message.EditorCmd.TheVariants as asks
use Rattle.dap_text.specs.declared.payload.Payload.{Payload}
use Rattle.dap_text.specs.declared.payload.Payload.TheVariants as payload
use Rattle.dap_text.specs.declared.payload.Happening.{Happening}
use Rattle.dap_text.specs.Messages.{told_message}
use Rattle.dap_text.specs.Payloads.{failure_in}
use Rattle.dap_text.specs.Texts.{event_text, response_text}
use Rattle.dap_link.specs.Frames.{is_message_text}
use Rattle.dap_link.specs.Conversation.{Conversation, Reaction, Spoken, reaction_to, spoken}
use Rattle.dap_link.specs.Talks.{Converses, conversed}

-- ---- what is written

-- a response to a message, or an event, each under a number of its own
pub data Written : Type 0 where
  Response : (seq request_seq : ℕ) → List ℕ → Payload → Written
  Event : ℕ → Happening → Written

abbrev pub written_text : Written → List ℕ
written_text (Response seq request_seq command told) = response_text seq request_seq command told
written_text (Event seq happened) = event_text seq happened

abbrev pub number_of : Written → ℕ
number_of (Response seq request_seq command told) = seq
number_of (Event seq happened) = seq

-- the numbers rise by one, from the one behind this on
abbrev pub AreNumbered : ℕ → List Written → Type 0
AreNumbered n [] = Unit
AreNumbered n (one ∷ more) = (number_of one ≡ n + 1) × AreNumbered (n + 1) more

-- ---- each message is answered once

-- its response, and at most one event, behind one that did not fail
pub data IsAnswer (message : Message) : List Written → Type 0 where
  single : {seq : ℕ} {told : Payload} → IsAnswer message (Response seq message.seq message.command told ∷ [])
  eventful : {seq next : ℕ} {told : Payload} {happened : Happening} → failure_in told ≡ None → IsAnswer message (Response seq message.seq message.command told ∷ Event next happened ∷ [])

-- each that is one, in order, up to the `disconnect`
pub data AreAnswers : List (List ℕ) → List Written → Type 0 where
  nothing : AreAnswers [] []
  passed : {body : List ℕ} {bodies : List (List ℕ)} {all : List Written} → told_message body ≡ None → AreAnswers bodies all → AreAnswers (body ∷ bodies) all
  answered : {body : List ℕ} {bodies : List (List ℕ)} {message : Message} {first more : List Written} → told_message body ≡ Some message → IsAnswer message first → AreAnswers bodies more → AreAnswers (body ∷ bodies) (first ++ more)
  last : {body : List ℕ} {bodies : List (List ℕ)} {message : Message} {all : List Written} → told_message body ≡ Some message → message.cmd ≡ asks.Disconnect → IsAnswer message all → AreAnswers (body ∷ bodies) all

-- what these bodies led to is their answers, and what is left knows how many were written
pub record InOrder (c : Conversation) (bodies : List (List ℕ)) (s : Spoken) : Type 0 where
  pub all : List Written
  pub lines : s.lines ≡ map written_text all
  pub answers : AreAnswers bodies all
  pub numbered : AreNumbered c.written all
  pub written : s.after.written ≡ c.written + length all

abbrev pub AnsweredInOrder : Type 0
AnsweredInOrder = (read : Reader) (w : World) (names : List (List ℕ)) (c : Conversation) (bodies : List (List ℕ)) → c.written + 2 * length bodies < 2 ^ 64 → InOrder c bodies (conversed read w names c bodies)

-- what an input frames is a message, and so is answered; other bytes say nothing and change nothing
abbrev pub FramedAreMessages : Type 0
FramedAreMessages = (body : List ℕ) → is_some (told_message body) ≡ is_message_text body

abbrev pub OthersSayNothing : Type 0
OthersSayNothing = (read : Reader) (w : World) (names : List (List ℕ)) (c : Conversation) (body : List ℕ) → told_message body ≡ None → spoken read w names c body ≡ record { lines = []; after = c; ended = false }

-- ---- what fails

-- the machine but for the count of its requests; no listener hears of a conversation
abbrev pub uncounted : Machine → Machine
uncounted m = record m { ordinal = 0; heard = [] }

pub record IsUnchanged (c : Conversation) (r : Reaction) : Type 0 where
  pub machine : uncounted r.led.after ≡ uncounted c.machine
  pub set : r.set ≡ c.set
  pub happened : r.led.happened ≡ None

abbrev pub FailedChangeNothing : Type 0
FailedChangeNothing = (read : Reader) (w : World) (names : List (List ℕ)) (c : Conversation) (cmd : EditorCmd) (name : List ℕ) → (reaction_to read w names c cmd).led.told ≡ payload.Failed name → IsUnchanged c (reaction_to read w names c cmd)

-- ---- a text has one conversation, whatever tells where its messages are

abbrev pub ConversationIsOne : Type 0
ConversationIsOne = (read : Reader) (w : World) (names : List (List ℕ)) (c : Conversation) (text : List ℕ) (s t : Spoken) → Converses read w names c text s → Converses read w names c text t → s ≡ t
