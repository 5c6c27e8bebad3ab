-- How a text is read as a condition, and where it stops being one.
use Rattle.std.specs.Prelude.{◌≡◌, ◌≤◌, ◌-◌, ℕ, Bool, true, false, not, List, [], ◌∷◌, length, position, Option, Some, None, if◌then◌else◌, nat_eq, get_or}
use Rattle.std.specs.List.{list_all}
use Rattle.gen_token.specs.Bytes.{is_text_byte}
use Rattle.gen_token.specs.Tokens.{skip, token_at, TokensFrom, AreTokens}
use Rattle.gen_token.specs.Words.{Word, Tok}
use Rattle.gen_tree.specs.declared.Dialect.TheVariants as dialect
use Rattle.gen_tree.specs.Brackets.{Within}
use Rattle.gen_tree.specs.Grammar.{SpellsExpr}
use Rattle.gen_tree.specs.Places.{FaultAt}
use Rattle.gen_tree.specs.Tree.{Expr}

-- ---- where tokens stand

-- the line of a text's first token, and the text from it on
abbrev pub start : List ℕ → ℕ × List ℕ
start text = skip false 1 text

abbrev pub rest_of : Option (Word × List ℕ) → List ℕ
rest_of None = []
rest_of (Some found) = found.1

-- behind one token, from the next on
abbrev pub next : ℕ × List ℕ → ℕ × List ℕ
next at = skip false at.0 (rest_of (token_at at.1))

-- behind these tokens, from the next on
abbrev pub behind : ℕ × List ℕ → List Tok → ℕ × List ℕ
behind at [] = at
behind at (t ∷ ts) = behind (next at) ts

-- the offset of what stands behind these tokens, which the text begins with: of the next token, of what is none, or of the end
abbrev pub offset_behind : List ℕ → List Tok → ℕ
offset_behind text tokens = length text - length (behind (start text) tokens).1

-- the offsets of these tokens, in a text of this length
abbrev pub offsets_from : ℕ → ℕ × List ℕ → List Tok → List ℕ
offsets_from size at [] = []
offsets_from size at (t ∷ ts) = (size - length at.1) ∷ offsets_from size (next at) ts

-- ---- conditions

-- some expression of a condition is spelled so
abbrev pub IsCondition : List Tok → Type 0
IsCondition tokens = (e : Expr) × SpellsExpr dialect.Condition e tokens []

-- the text is read as this expression, whose tokens have these offsets: all its bytes are those of a source, its tokens are what
-- the expression spells, and at most 64 brackets are open at once
pub record Reads (text : List ℕ) (e : Expr) (offsets : List ℕ) : Type 0 where
  pub bytes : list_all is_text_byte text ≡ true
  pub tokens : List Tok
  pub are : AreTokens text tokens
  pub spelled : SpellsExpr dialect.Condition e tokens []
  pub within : Within 64 tokens
  pub places : offsets ≡ offsets_from (length text) (start text) tokens

-- ---- where a text is no condition

-- a byte that no source holds
abbrev pub IsOtherByte : List ℕ → ℕ → Type 0
IsOtherByte text offset = position (λ byte. not (is_text_byte byte)) text ≡ Some offset

-- the first place where no token begins
pub record IsBadToken (text : List ℕ) (offset : ℕ) : Type 0 where
  pub tokens : List Tok
  pub line : ℕ
  pub stops : TokensFrom (start text) tokens (Some line)
  pub place : offset ≡ offset_behind text tokens

-- the first token with which no condition goes on, however many brackets are open, or the 65th bracket that is open at once; or the
-- end, where the tokens only begin a condition. The tokens are those up to the first place where none begins
pub record IsBadForm (text : List ℕ) (offset : ℕ) : Type 0 where
  pub tokens : List Tok
  pub end : Option ℕ
  pub are : TokensFrom (start text) tokens end
  pub left : ℕ
  pub fault : FaultAt IsCondition 64 tokens left
  pub place : offset ≡ offset_behind text fault.good

-- a place that a condition has not
pub data IsPlace (text : List ℕ) (offset : ℕ) : Type 0 where
  other_byte : IsOtherByte text offset → IsPlace text offset
  bad_token : IsBadToken text offset → IsPlace text offset
  bad_form : IsBadForm text offset → IsPlace text offset

-- the least of those that there are
pub record IsFirstPlace (text : List ℕ) (offset : ℕ) : Type 0 where
  pub place : IsPlace text offset
  pub least : (other : ℕ) → IsPlace text other → offset ≤ other

-- ---- the same, of the tokens alone

-- the least of the places that tokens have, bad ones and those that go on with no condition
pub record IsFirstForm (text : List ℕ) (offset : ℕ) : Type 0 where
  pub place : IsPlace text offset
  pub no_token : (other : ℕ) → IsBadToken text other → offset ≤ other
  pub no_form : (other : ℕ) → IsBadForm text other → offset ≤ other

-- the text's tokens, which have these offsets, are what the expression spells; where each byte is one of a source, it is read so
pub record ReadsForm (text : List ℕ) (e : Expr) (offsets : List ℕ) : Type 0 where
  pub tokens : List Tok
  pub are : AreTokens text tokens
  pub spelled : SpellsExpr dialect.Condition e tokens []
  pub within : Within 64 tokens
  pub places : offsets ≡ offsets_from (length text) (start text) tokens

-- these tokens were taken from the text up to the offset `end`, whole where that is its end; there no other begins
pub record AreTaken (text : List ℕ) (tokens : List Tok) (offsets : List ℕ) (end : ℕ) (whole : Bool) : Type 0 where
  pub line : ℕ
  pub are : TokensFrom (start text) tokens (if whole then None else Some line)
  pub places : offsets ≡ offsets_from (length text) (start text) tokens
  pub place : end ≡ offset_behind text tokens

-- the offset of the token that stands so many tokens before the end, or of the end
abbrev pub offset_of : List ℕ → ℕ → ℕ → ℕ
offset_of offsets end left = if nat_eq left 0 then end else get_or offsets (length offsets - left) 0
