-- Reading from left to right, token by token.
use Rattle.std.proofs.Common.{◌≡◌, ℕ, ◌<◌, List, [], ◌∷◌, ◌++◌, Option, Some, None, false, refl, append_assoc, append-nil, length, arith}
use Rattle.gen_token.specs.Tokens.{skip, token_at, TokensFrom}
use Rattle.gen_token.specs.Words.{Word, Tok}

-- whatever follows the second place, with these tokens before it, follows the first
pub record Reaches (start : ℕ × List ℕ) (done : List Tok) (at : ℕ × List ℕ) : Type 0 where
  pub on : (more : List Tok) (end : Option ℕ) → TokensFrom at more end → TokensFrom start (done ++ more) end

-- one more token
pub one_more : (start : ℕ × List ℕ) (done : List Tok) (line : ℕ) (text : List ℕ) (word : Word) (after : List ℕ) → token_at text ≡ Some (word, after) → Reaches start done (line, text)
    → Reaches start (done ++ record { line = line; word = word } ∷ []) (skip false line after)
one_more start done line text word after e r = record {
  on = λ more end h. rw append_assoc (r.on (record { line = line; word = word } ∷ more) end (refl, rw e (refl, h)));
}

empty : (text : List ℕ) → length text ≡ 0 → text ≡ []
empty [] e = refl
empty (byte ∷ bytes) e = absurd (omega arith)

-- at the end of the text
pub whole : (start : ℕ × List ℕ) (done : List Tok) (line : ℕ) (text : List ℕ) → length text ≡ 0 → Reaches start done (line, text) → TokensFrom start done None
whole start done line text e r = rw (append-nil done) at (r.on [] None (empty text e))

-- where no token begins
pub stuck : (start : ℕ × List ℕ) (done : List Tok) (line : ℕ) (text : List ℕ) → 0 < length text → token_at text ≡ None → Reaches start done (line, text) → TokensFrom start done (Some line)
stuck start done line text some e r = rw (append-nil done) at (r.on [] (Some line) (refl, some, e))
