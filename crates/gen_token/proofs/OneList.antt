-- A text has one list of tokens, and one end.
use Rattle.std.proofs.Common.{◌≡◌, ℕ, List, [], ◌∷◌, Option, Some, None, IsSomeAnd, false, refl, sym, ◌∙◌, ap, length, arith}
use Rattle.gen_token.specs.Tokens.{skip, token_at, EndsAt, TokensFrom}
use Rattle.gen_token.specs.Words.{Word, Tok}

-- what was found, where two say what was found
both : (found : Option (Word × List ℕ)) (P Q : Word × List ℕ → Type 0) → IsSomeAnd found P → IsSomeAnd found Q → (at : Word × List ℕ) × P at × Q at
both None P Q p q = absurd p
both (Some at) P Q p q = (at, p, q)

-- a token begins where one was found
begun : (found : Option (Word × List ℕ)) (P : Word × List ℕ → Type 0) → IsSomeAnd found P → found ≡ None → ⊥
begun None P p e = p
begun (Some at) P p e = cc

-- a text ends in one way
one_end : (at : ℕ × List ℕ) (end other : Option ℕ) → EndsAt at end → EndsAt at other → end ≡ other
one_end at None None p q = refl
one_end at None (Some line) p q = absurd (let none : length at.1 ≡ 0 = ap length p in omega (arith, q.1))
one_end at (Some line) None p q = absurd (let none : length at.1 ≡ 0 = ap length q in omega (arith, p.1))
one_end at (Some line) (Some other) p q = ap (λ (l : ℕ). Some l) (p.0 ∙ sym q.0)

-- no token begins where a text ends
ended : (at : ℕ × List ℕ) (end : Option ℕ) → EndsAt at end → token_at at.1 ≡ None
unfolding token_at
ended at None p = ap token_at p
ended at (Some line) p = p.2

pub same : (at : ℕ × List ℕ) (first second : List Tok) (end other : Option ℕ) → TokensFrom at first end → TokensFrom at second other → (first ≡ second) × (end ≡ other)
same at [] [] end other p q = (refl, one_end at end other p q)
same at [] (tok ∷ toks) end other p q = absurd (begun (token_at at.1) _ q.1 (ended at end p))
same at (tok ∷ toks) [] end other p q = absurd (begun (token_at at.1) _ p.1 (ended at other q))
same at (tok ∷ toks) (tok' ∷ toks') end other p q =
    let found = both (token_at at.1)
    (λ found. (found.0 ≡ tok.word) × TokensFrom (skip false at.0 found.1) toks end)
    (λ found. (found.0 ≡ tok'.word) × TokensFrom (skip false at.0 found.1) toks' other) p.1 q.1 in
    let rest = same (skip false at.0 found.0.1) toks toks' end other found.1.1 found.2.1 in
    let line : tok.line ≡ tok'.line = p.0 ∙ sym q.0 in
    let word : tok.word ≡ tok'.word = sym found.1.0 ∙ found.2.0 in
    let here : tok ≡ tok' = λ i. record { line = line i; word = word i } in
    ((λ i. here i ∷ rest.0 i), rest.1)
