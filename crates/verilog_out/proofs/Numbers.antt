-- Pieces for numbers, one after another.
use Rattle.std.proofs.Common.{◌≡◌, ℕ, zero, suc, ◌+◌, ◌-◌, ◌<◌, List, ◌∷◌, ◌++◌, ap, ◌∙◌, arith, append-nil}
use Rattle.std.specs.List.{flat_map}
use Rattle.std.proofs.lemmas.List.Concat.{flat_map-append}
use Rattle.list_core.specs.Lists.{from}

from_joined : (a m n : ℕ) → from a (m + n) ≡ from a m ++ from (a + m) n
from_joined a zero n = ap (from a) (let e : 0 + n ≡ n = omega arith in e) ∙ ap (λ b. from b n) (let e : a ≡ a + 0 = omega arith in e)
from_joined a (suc m) n =
    ap (from a) (let e : suc m + n ≡ suc (m + n) = omega arith in e)
    ∙ ap (λ l. a ∷ l) (from_joined (a + 1) m n ∙ ap (λ b. from (a + 1) m ++ from b n) (let e : a + 1 + m ≡ a + suc m = omega arith in e))

pub number_next : (f : ℕ → List ℕ) (t : ℕ) → flat_map f (from 0 (t + 1)) ≡ flat_map f (from 0 t) ++ f t
number_next f t =
    ap (flat_map f) (from_joined 0 t 1)
    ∙ flat_map-append f (from 0 t) (from (0 + t) 1)
    ∙ ap (λ l. flat_map f (from 0 t) ++ l) (append-nil (f (0 + t)))
    ∙ ap (λ k. flat_map f (from 0 t) ++ f k) (let e : 0 + t ≡ t = omega arith in e)

pub record Behind (f : ℕ → List ℕ) (t n : ℕ) : Type 0 where
  pub rest : List ℕ
  pub is : flat_map f (from 0 n) ≡ flat_map f (from 0 t) ++ (f t ++ rest)

pub number_of : (f : ℕ → List ℕ) (t n : ℕ) → t < n → Behind f t n
number_of f t n l =
    let split : from 0 n ≡ from 0 t ++ (t ∷ from (t + 1) (n - (t + 1))) =
    ap (from 0) (let e : n ≡ t + suc (n - (t + 1)) = omega arith in e)
    ∙ from_joined 0 t (suc (n - (t + 1)))
    ∙ ap (λ k. from 0 t ++ (k ∷ from (k + 1) (n - (t + 1)))) (let e : 0 + t ≡ t = omega arith in e) in
    record {
      rest = flat_map f (from (t + 1) (n - (t + 1)));
      is = ap (flat_map f) split ∙ flat_map-append f (from 0 t) (t ∷ from (t + 1) (n - (t + 1)));
    }
