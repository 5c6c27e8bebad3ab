-- The offsets of tokens, taken one after another; what stands behind more tokens stands no earlier.
use Rattle.std.proofs.Common.{◌≡◌, ◌-◌, ℕ, Bool, true, false, List, [], ◌∷◌, ◌++◌, length, Option, Some, None, ◌==◌, if◌then◌else◌, refl, sym, ap, ◌∙◌, arith}
use Rattle.gen_token.specs.Tokens.{skip, token_at, TokensFrom}
use Rattle.gen_token.specs.Words.{Word, Tok}
use Rattle.gen_token.proofs.Runs.{Reaches, whole, stuck}
use Rattle.cond_lang.specs.Reading.{start, rest_of, next, behind, offsets_from, AreTaken}

pub behind_one : (ts : List Tok) (at : ℕ × List ℕ) (t : Tok) → behind at (ts ++ t ∷ []) ≡ next (behind at ts)
behind_one [] at t = refl
behind_one (u ∷ ts) at t = behind_one ts (next at) t

pub behind_more : (good bad : List Tok) (at : ℕ × List ℕ) → behind at (good ++ bad) ≡ behind (behind at good) bad
behind_more [] bad at = refl
behind_more (t ∷ good) bad at = behind_more good bad (next at)

pub offsets_one : (size : ℕ) (ts : List Tok) (at : ℕ × List ℕ) (t : Tok) → offsets_from size at (ts ++ t ∷ []) ≡ offsets_from size at ts ++ (size - length (behind at ts).1) ∷ []
offsets_one size [] at t = refl
offsets_one size (u ∷ ts) at t = ap (λ (os : List ℕ). (size - length at.1) ∷ os) (offsets_one size ts (next at) t)

-- one more token
pub behind_next : (from : ℕ × List ℕ) (ts : List Tok) (line : ℕ) (rest : List ℕ) (word : Word) (after : List ℕ) → token_at rest ≡ Some (word, after) → behind from ts ≡ (line, rest) → behind from (ts ++ record { line = line; word = word } ∷ []) ≡ skip false line after
behind_next from ts line rest word after e h = behind_one ts from (record { line = line; word = word }) ∙ ap next h ∙ ap (λ (o : Option (Word × List ℕ)). skip false line (rest_of o)) e

pub offsets_next : (size : ℕ) (from : ℕ × List ℕ) (ts : List Tok) (line : ℕ) (rest offsets : List ℕ) (t : Tok) → behind from ts ≡ (line, rest) → offsets ≡ offsets_from size from ts → offsets ++ (size - length rest) ∷ [] ≡ offsets_from size from (ts ++ t ∷ [])
offsets_next size from ts line rest offsets t h o =
    ap (λ (os : List ℕ). os ++ (size - length rest) ∷ []) o ∙ ap (λ (at : ℕ × List ℕ). offsets_from size from ts ++ (size - length at.1) ∷ []) (sym h) ∙ sym (offsets_one size ts from t)

-- at the end, or where no token begins
pub taken_so : (text : List ℕ) (ts : List Tok) (offsets : List ℕ) (line : ℕ) (rest : List ℕ) (empty : Bool) → Reaches (start text) ts (line, rest) → behind (start text) ts ≡ (line, rest) → offsets ≡ offsets_from (length text) (start text) ts
    → token_at rest ≡ None → empty ≡ (length rest == 0) → AreTaken text ts offsets (length text - length rest) empty
taken_so text ts offsets line rest empty r h o none is = record { line = line; are = by (length rest == 0) refl; places = o; place = ap (λ (at : ℕ × List ℕ). length text - length at.1) (sym h) }
  where
    by : (b : Bool) → (length rest == 0) ≡ b → TokensFrom (start text) ts (if empty then None else Some line)
    by true e = rw (is, e) (whole (start text) ts line rest (grind arith) r)
    by false e = rw (is, e) (stuck (start text) ts line rest (grind arith) none r)
