-- The tokens of the chain's text, computed.
use Rattle.std.proofs.Common.{◌≡◌, ℕ, zero, suc, List, [], ◌∷◌, ◌++◌, map, Option, Some, None, refl, sym, subst}
use Rattle.std.specs.Prelude.{codes, option_map, IsSomeAnd, false}
use Rattle.gen_token.specs.declared.Keyword.TheVariants as keyword
use Rattle.gen_token.specs.declared.Mark.TheVariants as mark
use Rattle.gen_token.specs.Words.{Word, Name, Number, Literal, Reserved, Sign, Tok}
use Rattle.gen_token.specs.Tokens.{name_at, digits_at, value_at, after_digits, number_at, mark_at, token_at, skip, TokensFrom, AreTokens}
use Rattle.demo_run.specs.Chain.{chain_source}

-- ---- tokens, read one after another

abbrev tok : ℕ → Word → Tok
tok line word = record { line = line; word = word }

-- a token with those behind it
abbrev put_before : (ℕ × List ℕ → Option (List Tok)) → ℕ → Option (Word × List ℕ) → Option (List Tok)
put_before more line None = None
put_before more line (Some found) = option_map (λ toks. tok line found.0 ∷ toks) (more (skip false line found.1))

tokens_step : (ℕ × List ℕ → Option (List Tok)) → ℕ → List ℕ → Option (List Tok)
tokens_step more line [] = Some []
tokens_step more line (byte ∷ bytes) = put_before more line (token_at (byte ∷ bytes))

-- the tokens of a text that has fewer than so many
tokens_by : ℕ → ℕ × List ℕ → Option (List Tok)
tokens_by zero at = None
tokens_by (suc n) at = tokens_step (tokens_by n) at.0 at.1

-- ---- the tokens of the chain

-- words on a line
abbrev on : ℕ → List Word → List Tok
on line words = map (tok line) words

abbrev pub cell_tokens : List Tok
cell_tokens =
    on 1 (Reserved keyword.Module ∷ Name (codes "Cell") ∷ Sign mark.LeftBrace ∷ []) ++
    on 2 (Reserved keyword.Input ∷ Name (codes "x") ∷ Sign mark.Colon ∷ Number 16 ∷ Sign mark.Semicolon ∷ []) ++
    on 3 (Reserved keyword.Output ∷ Name (codes "y") ∷ Sign mark.Colon ∷ Number 16 ∷ Sign mark.Semicolon ∷ []) ++
    on 4 (Reserved keyword.Reg ∷ Name (codes "s") ∷ Sign mark.Colon ∷ Number 16 ∷ Sign mark.Equals ∷ Literal 16 0 ∷ Sign mark.Semicolon ∷ []) ++
    on 5 (Reserved keyword.Comb ∷ Sign mark.LeftBrace ∷ []) ++
    on 6 (Name (codes "y") ∷ Sign mark.Equals ∷ Name (codes "s") ∷ Sign mark.Semicolon ∷ []) ++
    on 7 (Reserved keyword.If ∷ Name (codes "s") ∷ Sign mark.LeftBracket ∷ Number 0 ∷ Sign mark.Colon ∷ Number 0 ∷ Sign mark.RightBracket ∷ Sign mark.LeftBrace ∷ []) ++
    on 8 (Name (codes "y") ∷ Sign mark.Equals ∷ Sign mark.LeftParen ∷ Name (codes "s") ∷ Sign mark.Caret ∷ Literal 16 32768 ∷ Sign mark.RightParen ∷ Sign mark.Semicolon ∷ []) ++
    on 9 (Sign mark.RightBrace ∷ []) ++
    on 10 (Sign mark.RightBrace ∷ []) ++
    on 11 (Reserved keyword.Ff ∷ Sign mark.LeftBrace ∷ Name (codes "s") ∷ Sign mark.LessEquals ∷ Name (codes "x") ∷ Sign mark.Semicolon ∷ Sign mark.RightBrace ∷ []) ++
    on 12 (Sign mark.RightBrace ∷ [])

abbrev pub top_tokens : List Tok
top_tokens =
    on 13 (Reserved keyword.Module ∷ Name (codes "Chain") ∷ Sign mark.LeftParen ∷ Name (codes "N") ∷ Sign mark.Equals ∷ Number 1 ∷ Sign mark.RightParen ∷ Sign mark.LeftBrace ∷ []) ++
    on 14 (Reserved keyword.Input ∷ Name (codes "x") ∷ Sign mark.Colon ∷ Number 16 ∷ Sign mark.Semicolon ∷ []) ++
    on 15 (Reserved keyword.Output ∷ Name (codes "y") ∷ Sign mark.Colon ∷ Number 16 ∷ Sign mark.Semicolon ∷ []) ++
    on 16 (Reserved keyword.Inst ∷ Name (codes "c") ∷ Sign mark.Hash ∷ Number 0 ∷ Sign mark.Colon ∷ Name (codes "Cell") ∷ Sign mark.LeftBrace ∷ Name (codes "x") ∷ Sign mark.Equals ∷ Name (codes "x") ∷ Sign mark.Semicolon ∷ Sign mark.RightBrace ∷ []) ++
    on 17 (Reserved keyword.For ∷ Name (codes "i") ∷ Reserved keyword.In ∷ Number 1 ∷ Sign mark.DotDot ∷ Name (codes "N") ∷ Sign mark.LeftBrace ∷ []) ++
    on 18 (Reserved keyword.Inst ∷ Name (codes "c") ∷ Sign mark.Hash ∷ Name (codes "i") ∷ Sign mark.Colon ∷ Name (codes "Cell") ∷ Sign mark.LeftBrace ∷ Name (codes "x") ∷ Sign mark.Equals ∷ Name (codes "c") ∷ Sign mark.Hash ∷ Sign mark.LeftParen ∷ Name (codes "i") ∷ Sign mark.Minus ∷ Number 1 ∷ Sign mark.RightParen ∷ Sign mark.Dot ∷ Name (codes "y") ∷ Sign mark.Semicolon ∷ Sign mark.RightBrace ∷ []) ++
    on 19 (Sign mark.RightBrace ∷ []) ++
    on 20 (Reserved keyword.Comb ∷ Sign mark.LeftBrace ∷ Name (codes "y") ∷ Sign mark.Equals ∷ Name (codes "c") ∷ Sign mark.Hash ∷ Sign mark.LeftParen ∷ Name (codes "N") ∷ Sign mark.Minus ∷ Number 1 ∷ Sign mark.RightParen ∷ Sign mark.Dot ∷ Name (codes "y") ∷ Sign mark.Semicolon ∷ Sign mark.RightBrace ∷ []) ++
    on 21 (Sign mark.RightBrace ∷ [])

abbrev pub chain_tokens : List Tok
chain_tokens = cell_tokens ++ top_tokens

-- ---- what is read so are the tokens

abbrev TokensOf : ℕ → List ℕ → Option (List Tok) → Type 0
TokensOf line text None = Unit {0}
TokensOf line text (Some toks) = TokensFrom (line, text) toks None

step_tokens : (line : ℕ) (text : List ℕ) (found : Option (Word × List ℕ)) → token_at text ≡ found → (more : ℕ × List ℕ → Option (List Tok))
    → ((line : ℕ) (text : List ℕ) → TokensOf line text (more (line, text))) → TokensOf line text (put_before more line found)
step_tokens line text None e more h = tt
step_tokens line text (Some found) e more h = by (more (skip false line found.1)) (h (skip false line found.1).0 (skip false line found.1).1)
  where
    by : (o : Option (List Tok)) → TokensOf (skip false line found.1).0 (skip false line found.1).1 o → TokensOf line text (option_map (λ toks. tok line found.0 ∷ toks) o)
    by None g = tt
    by (Some toks) g = (refl, subst (λ o. IsSomeAnd o (λ at. (at.0 ≡ found.0) × TokensFrom (skip false line at.1) toks None)) (sym e) (refl, g))

tokens_of : (n : ℕ) (line : ℕ) (text : List ℕ) → TokensOf line text (tokens_by n (line, text))
unfolding tokens_by tokens_step
tokens_of zero line text = tt
tokens_of (suc n) line [] = refl
tokens_of (suc n) line (byte ∷ bytes) = step_tokens line (byte ∷ bytes) (token_at (byte ∷ bytes)) refl (tokens_by n) (tokens_of n)

by_reading : (n : ℕ) (at : ℕ × List ℕ) (toks : List Tok) → tokens_by n at ≡ Some toks → TokensFrom at toks None
by_reading n at toks e = subst (TokensOf at.0 at.1) e (tokens_of n at.0 at.1)

are_read : tokens_by 200 (skip false 1 chain_source) ≡ Some chain_tokens
unfolding tokens_by tokens_step name_at digits_at value_at after_digits number_at mark_at token_at skip
are_read = refl

pub chain_tokens_are : AreTokens chain_source chain_tokens
chain_tokens_are = by_reading 200 (skip false 1 chain_source) chain_tokens are_read
