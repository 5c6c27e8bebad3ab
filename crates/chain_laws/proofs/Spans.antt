-- Lists of members with numbers.
use Rattle.std.proofs.Common.{◌≡◌, ℕ, zero, suc, ◌+◌, ◌<◌, ◌≤◌, inl, inr, [], ◌∷◌, ◌++◌, length, map, refl, ap, arith}
use Rattle.std.proofs.lemmas.Bool.{cases_lt}
use Rattle.list_core.specs.Lists.{IsIn, IsNotIn, AreApart}
use Rattle.chain_laws.proofs.Cells.{span}

pub length_span : {A : Type 0} (f : ℕ → A) (k n : ℕ) → length (span f k n) ≡ n
length_span f k zero = refl
length_span f k (suc n) = ap suc (length_span f (suc k) n)

-- one more behind them
pub span_more : {A : Type 0} (f : ℕ → A) (k n m : ℕ) → m ≡ k + n → span f k n ++ f m ∷ [] ≡ span f k (suc n)
span_more f k zero m e = let same : m ≡ k = omega arith in ap (λ (i : ℕ). f i ∷ []) same
span_more f k (suc n) m e = ap (λ xs. f k ∷ xs) (span_more f (suc k) n m (omega arith))

pub map_span : {A B : Type 0} (g : A → B) (f : ℕ → A) (k n : ℕ) → map g (span f k n) ≡ span (λ i. g (f i)) k n
map_span g f k zero = refl
map_span g f k (suc n) = ap (λ xs. g (f k) ∷ xs) (map_span g f (suc k) n)

pub in_span : {A : Type 0} (f : ℕ → A) (k n i : ℕ) → k ≤ i → i < k + n → IsIn (f i) (span f k n)
in_span f k zero i l m = absurd (omega arith)
in_span f k (suc n) i l m = elim (cases_lt k i) [ inl lt ↦ inr (in_span f (suc k) n i (omega arith) (omega arith)) | inr ge ↦ inl (ap f (omega arith)) ]

pub from_span : {A : Type 0} (f : ℕ → A) (k n : ℕ) (x : A) → IsIn x (span f k n) → (i : ℕ) × ((k ≤ i) × ((i < k + n) × (x ≡ f i)))
from_span f k zero x h = absurd h
from_span f k (suc n) x (inl e) = (k, (omega arith, (omega arith, e)))
from_span f k (suc n) x (inr h) = let r = from_span f (suc k) n x h in (r.0, (omega arith, (omega arith, r.1.1.1)))

-- none of them is it
pub not_in_span : {A : Type 0} (f : ℕ → A) (k n : ℕ) (x : A) → ((i : ℕ) → k ≤ i → i < k + n → f i ≡ x → ⊥) → IsNotIn x (span f k n)
not_in_span f k zero x h = tt
not_in_span f k (suc n) x h = (h k (omega arith) (omega arith), not_in_span f (suc k) n x (λ i l m. h i (omega arith) (omega arith)))

-- they differ where their numbers do
pub span_apart : {A : Type 0} (f : ℕ → A) (k n : ℕ) → ((i j : ℕ) → i < k + n → j < k + n → f i ≡ f j → i ≡ j) → AreApart (span f k n)
span_apart f k zero h = tt
span_apart f k (suc n) h = (not_in_span f (suc k) n (f k) (λ i l m e. omega (arith, h i k (omega arith) (omega arith) e)), span_apart f (suc k) n (λ i j l m e. h i j (omega arith) (omega arith) e))
