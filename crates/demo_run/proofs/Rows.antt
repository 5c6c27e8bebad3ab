-- The rows of the demo's stimulus, one after another.
use Rattle.std.proofs.Common.{◌≡◌, ℕ, zero, suc, ◌+◌, List, [], ◌∷◌, ◌++◌, sym, ap, ◌∙◌, append_assoc, append-nil, arith}
use Rattle.std.specs.Prelude.{codes}
use Rattle.std.specs.List.{flat_map}
use Rattle.std.proofs.Math.Numerals.{add-one}
use Rattle.std.proofs.lemmas.List.Concat.{flat_map-append}
use Rattle.list_core.specs.Lists.{from}
use Rattle.demo_run.specs.Chain.{row_line, chain_stimulus}

from_more : (a n : ℕ) → from a (suc n) ≡ from a n ++ (a + n) ∷ []
from_more a zero = let z : a ≡ a + 0 = omega arith in ap (λ k. k ∷ []) z
from_more a (suc n) = ap (λ l. a ∷ l) (from_more (a + 1) n) ∙ (let z : a + 1 + n ≡ a + suc n = omega arith in ap (λ k. a ∷ (from (a + 1) n ++ k ∷ [])) z)

from_push : (n : ℕ) → from 0 (n + 1) ≡ from 0 n ++ n ∷ []
from_push n = ap (from 0) (add-one n) ∙ from_more 0 n ∙ (let z : 0 + n ≡ n = omega arith in ap (λ k. from 0 n ++ k ∷ []) z)

-- a row more
pub row_more : (n : ℕ) (text : List ℕ) → text ≡ chain_stimulus n → text ++ row_line n ≡ chain_stimulus (n + 1)
row_more n text e =
    ap (λ t. t ++ row_line n) e
    ∙ append_assoc (codes "x\n") (flat_map row_line (from 0 n)) (row_line n)
    ∙ ap (λ t. codes "x\n" ++ (flat_map row_line (from 0 n) ++ t)) (sym (append-nil (row_line n)))
    ∙ ap (λ t. codes "x\n" ++ t) (sym (flat_map-append row_line (from 0 n) (n ∷ [])))
    ∙ ap (λ l. codes "x\n" ++ flat_map row_line l) (sym (from_push n))
