-- Numbers from one on, and what stands at them.
use Rattle.std.proofs.Common.{◌≡◌, ℕ, zero, suc, ◌+◌, ◌-◌, ◌<◌, ◌≤◌, List, [], ◌∷◌, ◌++◌, length, map, drop, get_or, refl, sym, ap, ap₂, ◌∙◌, arith}
use Rattle.list_core.specs.Lists.{from}

pub from_joined : (a m n : ℕ) → from a (m + n) ≡ from a m ++ from (a + m) n
from_joined a zero n = ap (from a) (let e : 0 + n ≡ n = omega arith in e) ∙ ap (λ b. from b n) (let e : a ≡ a + 0 = omega arith in e)
from_joined a (suc m) n =
    ap (from a) (let e : suc m + n ≡ suc (m + n) = omega arith in e)
    ∙ ap (λ l. a ∷ l) (from_joined (a + 1) m n ∙ ap (λ b. from (a + 1) m ++ from b n) (let e : a + 1 + m ≡ a + suc m = omega arith in e))

-- one more number
pub from_next : (n : ℕ) → from 0 (n + 1) ≡ from 0 n ++ n ∷ []
from_next n = from_joined 0 n 1 ∙ ap (λ k. from 0 n ++ k ∷ []) (let e : 0 + n ≡ n = omega arith in e)
