-- How many brackets are open at once.
use Rattle.std.specs.Prelude.{ℕ, zero, suc, List, [], ◌∷◌, Option, Some, None, option_and_then, IsSome}
use Rattle.gen_token.specs.declared.Mark.TheVariants as mark
use Rattle.gen_token.specs.Words.{Word, Name, Number, Literal, Reserved, Sign, Tok}

-- what a word does to the open brackets
pub data Side : Type 0 where
  opens : Side
  closes : Side
  neither : Side

abbrev pub side : Word → Side
side (Name x) = neither
side (Number n) = neither
side (Literal w v) = neither
side (Reserved k) = neither
side (Sign mark.LeftParen) = opens
side (Sign mark.LeftBrace) = opens
side (Sign mark.LeftBracket) = opens
side (Sign mark.RightParen) = closes
side (Sign mark.RightBrace) = closes
side (Sign mark.RightBracket) = closes
side (Sign _) = neither

-- the brackets that may still be opened, behind one side; None: one too many is open
abbrev pub room_by : Side → ℕ → Option ℕ
room_by opens zero = None
room_by opens (suc room) = Some room
room_by closes room = Some (suc room)
room_by neither room = Some room

abbrev pub room_after : ℕ → Word → Option ℕ
room_after room word = room_by (side word) room

-- the brackets that may still be opened behind these tokens
abbrev pub room_left : ℕ → List Tok → Option ℕ
room_left room [] = Some room
room_left room (t ∷ ts) = option_and_then (λ r. room_left r ts) (room_after room t.word)

-- at most so many brackets are open at once
abbrev pub Within : ℕ → List Tok → Type 0
Within room ts = IsSome (room_left room ts)
