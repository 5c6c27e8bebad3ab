-- Tokens, without where they lie in memory.
use Rattle.std.specs.Prelude.{ℕ, List, Option, map}
use Rattle.std.specs.Borrow.{Bor}
use Rattle.std.specs.Option.{option_map}
use Rattle.gen_token.specs.declared.keyword.Keyword.{Keyword}
use Rattle.gen_token.specs.declared.mark.Mark.{Mark}
use Rattle.gen_token.specs.declared.token.Token.{Token}
use Rattle.gen_token.specs.declared.token.Token.TheVariants as token
use Rattle.gen_token.specs.declared.token.Placed.{Placed}

-- a token: a name, a number, a literal's width and value, a keyword or a mark
pub data Word : Type 0 where
  Name : List ℕ → Word
  Number : ℕ → Word
  Literal : ℕ → ℕ → Word
  Reserved : Keyword → Word
  Sign : Mark → Word

-- a token and the line that it stands on
pub record Tok : Type 0 where
  pub line : ℕ
  pub word : Word

-- the word that a token of the code stands for
abbrev pub word_of : Token → Word
word_of (token.Name name) = Name name.now
word_of (token.Number number) = Number number
word_of (token.Literal width value) = Literal width value
word_of (token.Keyword keyword) = Reserved keyword
word_of (token.Mark mark) = Sign mark

-- tokens with their lines
abbrev pub placed : List Placed → List Tok
placed tokens = map (λ at. record { line = at.line; word = word_of at.token }) tokens

-- a token that was found, and what follows it
abbrev pub found_as : Option (Token × Bor (List ℕ)) → Option (Word × List ℕ)
found_as found = option_map (λ found. (word_of found.0, found.1.now)) found
