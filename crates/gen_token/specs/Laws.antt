-- Laws of the tokens of texts.
use Rattle.std.specs.Prelude.{◌≡◌, ◌↔◌, ℕ, false, List, Option, Some, map, option_map}
use Rattle.places.specs.Places.{place}
use Rattle.gen_token.specs.Spelling.{IsTokenOf}
use Rattle.gen_token.specs.Tokens.{skip, token_at, TokensFrom}
use Rattle.gen_token.specs.Words.{Word, Tok}

-- a text has one list of tokens and one end: its tokens or one bad line, never both
abbrev pub HasOneList : List ℕ → Type 0
HasOneList text =
    (first second : List Tok) (end other : Option ℕ)
    → TokensFrom (skip false 1 text) first end → TokensFrom (skip false 1 text) second other
    → (first ≡ second) × (end ≡ other)

-- a token of a text, at its place in a file
abbrev pub in_file : ℕ → Tok → Tok
in_file file tok = record { line = place file tok.line; word = tok.word }

-- the tokens of a text in a file are its tokens, each at its place there; and so is the line where it ends with none
abbrev pub PlacesTokens : List ℕ → Type 0
PlacesTokens text =
    (file : ℕ) (toks : List Tok) (end : Option ℕ)
    → TokensFrom (skip false 1 text) toks end → TokensFrom (skip false (place file 1) text) (map (in_file file) toks) (option_map (place file) end)

-- what is read in front of a text is the token there, and where nothing is read no token begins
abbrev pub ReadsTokens : List ℕ → Type 0
ReadsTokens text = (word : Word) (rest : List ℕ) → (token_at text ≡ Some (word, rest)) ↔ IsTokenOf text word rest
