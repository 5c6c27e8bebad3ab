-- A whole conversation: what the messages of a text lead to, one after another, up to the last of them. What is written is this text, however
-- the input was cut.
use Rattle.std.specs.Prelude.{◌≡◌, ◌⊎◌, ℕ, Bool, true, false, List, [], ◌∷◌, ◌++◌}
use Rattle.world_core.specs.World.{World}
use Rattle.machine_core.specs.Reading.{Reader}
use Rattle.dap_link.specs.Frames.{IsMessage}
use Rattle.dap_link.specs.Laws.{whole_of}
use Rattle.dap_link.specs.Conversation.{Conversation, Spoken, spoken}

-- what one message leads to, and then the others, unless it was the last
abbrev pub spoken_unless : Bool → Spoken → Spoken → Spoken
spoken_unless true s rest = s
spoken_unless false s rest = record { lines = s.lines ++ rest.lines; after = rest.after; ended = rest.ended }

abbrev pub spoken_then : Spoken → Spoken → Spoken
spoken_then s rest = spoken_unless s.ended s rest

-- what these bodies lead to
unfoldable pub conversed : Reader → World → List (List ℕ) → Conversation → List (List ℕ) → Spoken
conversed read w names c [] = record { lines = []; after = c; ended = false }
conversed read w names c (body ∷ bodies) = spoken_then (spoken read w names c body) (conversed read w names (spoken read w names c body).after bodies)

-- its text
abbrev pub conversed_text : Reader → World → List (List ℕ) → Conversation → List (List ℕ) → List ℕ
conversed_text read w names c bodies = whole_of (conversed read w names c bodies).lines

-- ---- the conversation of a text

-- these bodies are messages in front of a text, and this is behind them
pub data Begins : List ℕ → List (List ℕ) → List ℕ → Type 0 where
  started : {text : List ℕ} → Begins text [] text
  onwards : {text body rest : List ℕ} {bodies : List (List ℕ)} {left : List ℕ} → IsMessage text body rest → Begins rest bodies left → Begins text (body ∷ bodies) left

-- it goes no further: the last message was answered, or what is left begins with none
abbrev pub IsOver : Spoken → List ℕ → Type 0
IsOver s left = (s.ended ≡ true) ⊎ ((body rest : List ℕ) → IsMessage left body rest → ⊥)

-- the messages of a text, up to the last of them, lead to this
pub record Converses (read : Reader) (w : World) (names : List (List ℕ)) (c : Conversation) (text : List ℕ) (s : Spoken) : Type 0 where
  pub bodies : List (List ℕ)
  pub left : List ℕ
  pub begins : Begins text bodies left
  pub said : s ≡ conversed read w names c bodies
  pub over : IsOver s left
