-- What the library's answers are to a link: a message that was read, an error of a read, and how a text was sent.
use Rattle.std.specs.Prelude.{◌≡◌, ◌⊎◌, Result, Ok, Err}
use Rattle.std.specs.IoError.{error_kind}
use Rattle.std.specs.declared.io.Error.{Error as IoError}
use Rattle.std.specs.declared.io.ErrorKind.TheVariants.{WouldBlock, Interrupted}
use Rattle.link_edge.specs.declared.answers.Polled.{Polled}
use Rattle.link_edge.specs.declared.answers.Polled.TheVariants as answers
use Rattle.link_edge.specs.declared.answers.LinkEnd.{LinkEnd}
use Rattle.link_edge.specs.declared.answers.LinkEnd.TheVariants as ends
use Rattle.websocket.specs.declared.protocol.frame.coding.CloseCode.{CloseCode}
use Rattle.websocket.specs.declared.protocol.frame.coding.CloseCode.TheVariants as codes
use Rattle.websocket.specs.declared.error.ProtocolError.{ProtocolError}
use Rattle.websocket.specs.declared.error.ProtocolError.TheVariants.{ResetWithoutClosingHandshake}
use Rattle.tungstenite.specs.declared.error.Error.{Error}
use Rattle.tungstenite.specs.declared.error.Error.TheVariants as errors
use Rattle.tungstenite.specs.declared.message.Message.{Message}
use Rattle.tungstenite.specs.declared.message.Message.TheVariants as messages

-- an error of the stream that says no more than that nothing can be done at this time
abbrev pub IsForNow : IoError → Type 0
IsForNow cause = (error_kind cause ≡ WouldBlock) ⊎ (error_kind cause ≡ Interrupted)

-- where it is for now this, and otherwise that
abbrev pub ByIo : {A : Type 0} → IoError → A → A → A → Type 0
ByIo cause now later answer = (IsForNow cause × (answer ≡ now)) ⊎ ((IsForNow cause → ⊥) × (answer ≡ later))

-- ---- what was read

-- a text and a binary message are their bytes, a ping and a pong are nothing, and a close is the end
abbrev pub answer_to : Message → Polled
answer_to (messages.Text text) = answers.Message text
answer_to (messages.Binary bytes) = answers.Message bytes
answer_to (messages.Ping bytes) = answers.Nothing
answer_to (messages.Pong bytes) = answers.Nothing
answer_to (messages.Close frame) = answers.Closed

-- a stream that ends without a close frame has ended all the same
abbrev pub protocol_answer : ProtocolError → Polled
protocol_answer ResetWithoutClosingHandshake = answers.Closed
protocol_answer cause = answers.Failed

abbrev pub AnswersError : Error → Polled → Type 0
AnswersError (errors.Io cause) answer = ByIo cause answers.Nothing answers.Failed answer
AnswersError errors.ConnectionClosed answer = answer ≡ answers.Closed
AnswersError errors.AlreadyClosed answer = answer ≡ answers.Closed
AnswersError (errors.Protocol cause) answer = answer ≡ protocol_answer cause
AnswersError errors.OutOfMemory answer = answer ≡ answers.NoMemory
AnswersError error answer = answer ≡ answers.Failed

-- where memory lasts
abbrev pub AnswersRead : Result Message Error → Polled → Type 0
AnswersRead (Ok message) answer = (answer ≡ answer_to message) ⊎ (answer ≡ answers.NoMemory)
AnswersRead (Err error) answer = AnswersError error answer

-- ---- what was sent

-- what the stream does not take now waits, and goes out later
abbrev pub IsSent : Result (Unit {0}) Error → Result (Unit {0}) LinkEnd → Type 0
IsSent (Ok done) end = end ≡ Ok done
IsSent (Err (errors.Io cause)) end = ByIo cause (Ok tt) (Err ends.Failed) end
IsSent (Err errors.OutOfMemory) end = end ≡ Err ends.NoMemory
IsSent (Err error) end = end ≡ Err ends.Failed

-- ---- how a socket is closed

-- what the peer did, where it broke the rules; that something is wrong on this side; and otherwise that all is well
abbrev pub code_of : Result Message Error → CloseCode
code_of (Ok message) = codes.Normal
code_of (Err (errors.Protocol cause)) = codes.Protocol
code_of (Err errors.Utf8) = codes.Invalid
code_of (Err (errors.Capacity cause)) = codes.Size
code_of (Err errors.OutOfMemory) = codes.Error
code_of (Err error) = codes.Normal
