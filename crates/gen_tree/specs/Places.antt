-- Where a list of tokens stops being the beginning of a source.
use Rattle.std.specs.Prelude.{◌≡◌, ℕ, List, [], ◌∷◌, ◌++◌, length, Some, ◌⊎◌}
use Rattle.gen_token.specs.Words.{Tok}
use Rattle.gen_tree.specs.Brackets.{room_left, Within, side, opens}
use Rattle.gen_tree.specs.Grammar.{Spells}
use Rattle.gen_tree.specs.Tree.{Source}

-- some source is spelled so
abbrev pub IsSource : List Tok → Type 0
IsSource ts = (source : Source) × Spells source ts

-- Why the good tokens do not go on with the bad ones, where S says which lists are whole: they end before they are whole;
-- or nothing whole begins with them and the next token, however many brackets are open in it; or that token is a bracket
-- for which there is no room.
abbrev pub IsBad : (List Tok → Type 0) → ℕ → List Tok → List Tok → Type 0
IsBad S room good [] = S good → ⊥
IsBad S room good (t ∷ rest) =
    ((more : List Tok) → S (good ++ t ∷ more) → ⊥) ⊎ ((room_left room good ≡ Some 0) × (side t.word ≡ opens))

-- the tokens before the last `left` begin something whole, and with the next one, or at the end, they do not
pub record FaultAt (S : List Tok → Type 0) (room : ℕ) (ts : List Tok) (left : ℕ) : Type 0 where
  pub good : List Tok
  pub bad : List Tok
  pub parts : ts ≡ good ++ bad
  pub count : length bad ≡ left
  pub completion : List Tok
  pub begins : S (good ++ completion)
  pub within : Within room good
  pub is_bad : IsBad S room good bad

-- the line of the first token, or of the end
abbrev pub line_of : ℕ → List Tok → ℕ
line_of end [] = end
line_of end (t ∷ ts) = t.line

-- this is the line of the place of the fault
pub record FaultOn (S : List Tok → Type 0) (room : ℕ) (ts : List Tok) (end line : ℕ) : Type 0 where
  pub left : ℕ
  pub at : FaultAt S room ts left
  pub line_is : line_of end at.bad ≡ line
