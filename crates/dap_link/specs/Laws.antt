-- Frames in the protocol's own words: what is first in a text is one thing, more bytes do not change it, and how a text was cut into pieces
-- does not matter.
use Rattle.std.specs.Prelude.{◌≡◌, ℕ, Bool, false, List, [], ◌∷◌, ◌++◌}
use Rattle.dap_link.specs.Frames.{IsMessage, IsFault, IsAwaited, Frames}

-- ---- what is first

-- what a text can begin with
pub data First : Type 0 where
  message : (body rest : List ℕ) → First
  fault : (k : ℕ) → First
  awaited : First

-- a text begins with this
abbrev pub IsFirstOf : List ℕ → Bool → First → Type 0
IsFirstOf text ended (message body rest) = IsMessage text body rest
IsFirstOf text ended (fault k) = IsFault text ended k
IsFirstOf text ended awaited = IsAwaited text ended

-- it begins with one thing: with a message, which is one, or with a fault, which has one number, or more is awaited
abbrev pub FirstIsOne : Type 0
FirstIsOne = (text : List ℕ) (ended : Bool) (a b : First) → IsFirstOf text ended a → IsFirstOf text ended b → a ≡ b

-- ---- more bytes

-- a message stays the first one, and so does a fault of what has not ended
pub record MoreIsBehind : Type 0 where
  pub message : (text body rest more : List ℕ) → IsMessage text body rest → IsMessage (text ++ more) body (rest ++ more)
  pub fault : (text more : List ℕ) (k : ℕ) (ended : Bool) → IsFault text false k → IsFault (text ++ more) ended k

-- ---- pieces

-- what is taken off the pieces, one after the other: after each piece all messages that are there. `held` is what is held before, and `left`
-- what is held at the end.
pub data Taken : List ℕ → List (List ℕ) → List (List ℕ) → List ℕ → Type 0 where
  over : {held : List ℕ} → Taken held [] [] held
  piece : {held next left : List ℕ} {first : List ℕ} {pieces bodies more : List (List ℕ)} → Frames (held ++ first) bodies next → Taken next pieces more left → Taken held (first ∷ pieces) (bodies ++ more) left

-- the pieces as one text
abbrev pub whole_of : List (List ℕ) → List ℕ
whole_of [] = []
whole_of (first ∷ pieces) = first ++ whole_of pieces

-- whatever the pieces are, the messages that are taken off them are those of the whole text, and so is what is left
abbrev pub PiecesAreOneText : Type 0
PiecesAreOneText = (pieces bodies : List (List ℕ)) (left : List ℕ) → Taken [] pieces bodies left → Frames (whole_of pieces) bodies left
