-- The tokens of a text in a file are its tokens, at their places there.
use Rattle.std.proofs.Common.{◌≡◌, ℕ, ◌+◌, ◌*◌, Bool, true, false, ◌&&◌, ◌||◌, ◌==◌, if◌then◌else◌, List, [], ◌∷◌, map, Option, Some, None, IsSomeAnd, option_map, refl, sym, ap, subst, ◌∙◌, arith}
use Rattle.places.specs.Places.{place}
use Rattle.gen_token.specs.Bytes.{is_blank, begins}
use Rattle.gen_token.specs.Laws.{in_file, PlacesTokens}
use Rattle.gen_token.specs.Tokens.{skip, token_at, EndsAt, TokensFrom}
use Rattle.gen_token.specs.Words.{Word, Tok}

-- a place in a text, in a file
abbrev in_place : ℕ → ℕ × List ℕ → ℕ × List ℕ
in_place file at = (place file at.0, at.1)

by_test : (b : Bool) (file : ℕ) (x y u v : ℕ × List ℕ) → u ≡ in_place file x → v ≡ in_place file y → (if b then u else v) ≡ in_place file (if b then x else y)
by_test true file x y u v e f = e
by_test false file x y u v e f = f

next_line : (file line : ℕ) → place file line + 1 ≡ place file (line + 1)
next_line file line = omega arith

skipped : (file : ℕ) (comment : Bool) (line : ℕ) (text : List ℕ) → skip comment (place file line) text ≡ in_place file (skip comment line text)
unfolding skip
skipped file comment line [] = refl
skipped file comment line (byte ∷ bytes) =
    by_test (byte == 10) file _ _ _ _ (ap (λ (n : ℕ). skip false n bytes) (next_line file line) ∙ skipped file false (line + 1) bytes) (
    by_test (comment || is_blank byte) file _ _ _ _ (skipped file comment line bytes) (
    by_test (byte == 47 && begins (λ next. next == 47) bytes) file _ _ _ _ (skipped file true line bytes) refl))

ends : (file : ℕ) (at : ℕ × List ℕ) (end : Option ℕ) → EndsAt at end → EndsAt (in_place file at) (option_map (place file) end)
ends file at None h = h
ends file at (Some line) h = (ap (place file) h.0, h.1, h.2)

tokens_in : (file : ℕ) (at : ℕ × List ℕ) (toks : List Tok) (end : Option ℕ) → TokensFrom at toks end → TokensFrom (in_place file at) (map (in_file file) toks) (option_map (place file) end)
tokens_in file at [] end h = ends file at end h
tokens_in file at (tok ∷ toks) end h = (ap (place file) h.0, by (token_at at.1) (λ found. tokens_in file found toks end) h.1)
  where
    by : (o : Option (Word × List ℕ)) → ((next : ℕ × List ℕ) → TokensFrom next toks end → TokensFrom (in_place file next) (map (in_file file) toks) (option_map (place file) end))
        → IsSomeAnd o (λ found. (found.0 ≡ tok.word) × TokensFrom (skip false at.0 found.1) toks end)
        → IsSomeAnd o (λ found. (found.0 ≡ tok.word) × TokensFrom (skip false (place file at.0) found.1) (map (in_file file) toks) (option_map (place file) end))
    by None more p = p
    by (Some found) more p =
        (p.0, subst (λ (next : ℕ × List ℕ). TokensFrom next (map (in_file file) toks) (option_map (place file) end)) (sym (skipped file false at.0 found.1)) (more (skip false at.0 found.1) p.1))

pub placed : (text : List ℕ) → PlacesTokens text
placed text file toks end h =
    subst (λ (next : ℕ × List ℕ). TokensFrom next (map (in_file file) toks) (option_map (place file) end)) (sym (skipped file false 1 text)) (tokens_in file (skip false 1 text) toks end h)
