-- The positions that one search looks at, one after another.
use Rattle.std.proofs.Common.{◌≡◌, ℕ, zero, suc, ◌+◌, ◌-◌, ◌<◌, ◌≤◌, min, Bool, true, false, List, [], ◌∷◌, ◌++◌, take, drop, reverse, Some, None, find, cond, refl, sym, ap, ap₂, ◌∙◌, inl, inr, arith, add-one}
use Rattle.std.proofs.lemmas.Bool.{cases_lt}
use Rattle.std.proofs.lemmas.List.{reverse-append}
use Rattle.list_core.specs.Lists.{EachOf, from}
use Rattle.site_core.specs.Positions.{down_from}

-- ---- one position more

pub up_past : (test : ℕ → Bool) (p e : ℕ) → p < e → test p ≡ false → find test (from p (e - p)) ≡ find test (from (p + 1) (e - (p + 1)))
up_past test p e h not_here =
    let d : e - p ≡ suc (e - (p + 1)) = omega arith in rw (d, not_here) refl

pub up_here : (test : ℕ → Bool) (p e : ℕ) → p < e → test p ≡ true → find test (from p (e - p)) ≡ Some p
up_here test p e h here =
    let d : e - p ≡ suc (e - (p + 1)) = omega arith in rw (d, here) refl

pub down_past : (test : ℕ → Bool) (p low : ℕ) → low ≤ p → test p ≡ false → find test (down_from (p + 1) (p + 1 - low)) ≡ find test (down_from p (p - low))
down_past test p low h not_here =
    let d : p + 1 - low ≡ suc (p - low) = omega arith in rw (d, add-one p, not_here) refl

pub down_here : (test : ℕ → Bool) (p low : ℕ) → low ≤ p → test p ≡ true → find test (down_from (p + 1) (p + 1 - low)) ≡ Some p
down_here test p low h here =
    let d : p + 1 - low ≡ suc (p - low) = omega arith in rw (d, add-one p, here) refl

-- ---- no position

pub up_none : (test : ℕ → Bool) (p e : ℕ) → e ≤ p → find test (from p (e - p)) ≡ None
up_none test p e h = let d : e - p ≡ 0 = omega (arith, h) in rw (d) refl

pub down_none : (test : ℕ → Bool) (p low : ℕ) → p ≤ low → find test (down_from p (p - low)) ≡ None
down_none test p low h = let d : p - low ≡ 0 = omega (arith, h) in rw (d) refl

-- ---- positions that are passed over

pub up_over : (test : ℕ → Bool) (p e n : ℕ) → ((r : ℕ) → p ≤ r → r < p + n → test r ≡ false) → find test (from p (e - p)) ≡ find test (from (p + n) (e - (p + n)))
up_over test p e zero h = ap (λ k. find test (from k (e - k))) (let same : p ≡ p + 0 = omega arith in same)
up_over test p e (suc n) h = elim (cases_lt p e) as (λ _. find test (from p (e - p)) ≡ find test (from (p + suc n) (e - (p + suc n)))) [
  | inl more ↦
      up_past test p e more (h p (omega arith) (omega arith)) ∙ up_over test (p + 1) e n (λ r low high. h r (omega (arith, low)) (omega (arith, high)))
      ∙ ap (λ k. find test (from k (e - k))) (let same : p + 1 + n ≡ p + suc n = omega arith in same)
  | inr none ↦ up_none test p e none ∙ sym (up_none test (p + suc n) e (omega (arith, none)))
]

pub down_over : (test : ℕ → Bool) (p low n : ℕ) → n ≤ p → ((r : ℕ) → r < p → p ≤ r + n → test r ≡ false) → find test (down_from p (p - low)) ≡ find test (down_from (p - n) (p - n - low))
down_over test p low zero within h = ap (λ k. find test (down_from k (k - low))) (let same : p ≡ p - 0 = omega arith in same)
down_over test p low (suc n) within h = elim (cases_lt low p) as (λ _. find test (down_from p (p - low)) ≡ find test (down_from (p - suc n) (p - suc n - low))) [
  | inl more ↦
      ap (λ k. find test (down_from k (k - low))) (let same : p ≡ p - 1 + 1 = omega (arith, within) in same)
      ∙ down_past test (p - 1) low (omega (arith, more)) (h (p - 1) (omega (arith, within)) (omega (arith, within)))
      ∙ down_over test (p - 1) low n (omega (arith, within)) (λ r below near. h r (omega (arith, below)) (omega (arith, near, within)))
      ∙ ap (λ k. find test (down_from k (k - low))) (let same : p - 1 - n ≡ p - suc n = omega (arith, within) in same)
  | inr none ↦ down_none test p low none ∙ sym (down_none test (p - suc n) low (omega (arith, none)))
]

-- ---- fronts of positions one after another

drop_from : (n k m : ℕ) → drop n (from k m) ≡ from (k + n) (m - n)
drop_from zero k m = ap₂ from (let e : k ≡ k + 0 = omega arith in e) (let e : m ≡ m - 0 = omega arith in e)
drop_from (suc n) k zero = ap (from (k + suc n)) (let e : 0 ≡ 0 - suc n = omega arith in e)
drop_from (suc n) k (suc m) = drop_from n (k + 1) m ∙ ap₂ from (let e : k + 1 + n ≡ k + suc n = omega arith in e) (let e : m - n ≡ suc m - suc n = omega arith in e)

take_from : (n k m : ℕ) → take n (from k m) ≡ from k (min n m)
take_from zero k m = ap (from k) (let e : 0 ≡ min 0 m = omega arith in e)
take_from (suc n) k zero = ap (from k) (let e : 0 ≡ min (suc n) 0 = omega arith in e)
take_from (suc n) k (suc m) = ap (λ l. k ∷ l) (take_from n (k + 1) m) ∙ ap (from k) (let e : suc (min n m) ≡ min (suc n) (suc m) = omega arith in e)

take_down : (n p m : ℕ) → take n (down_from p m) ≡ down_from p (min n m)
take_down zero p m = ap (down_from p) (let e : 0 ≡ min 0 m = omega arith in e)
take_down (suc n) p zero = ap (down_from p) (let e : 0 ≡ min (suc n) 0 = omega arith in e)
take_down (suc n) zero (suc m) = ap (down_from zero) (let e : suc (min n m) ≡ min (suc n) (suc m) = omega arith in e)
take_down (suc n) (suc p) (suc m) = ap (λ l. p ∷ l) (take_down n p m) ∙ ap (down_from (suc p)) (let e : suc (min n m) ≡ min (suc n) (suc m) = omega arith in e)

last_of : (k n : ℕ) → from k (suc n) ≡ from k n ++ (k + n) ∷ []
last_of k zero = ap (λ (a : ℕ). a ∷ []) (let e : k ≡ k + 0 = omega arith in e)
last_of k (suc n) = ap (λ l. k ∷ l) (last_of (k + 1) n ∙ ap (λ (a : ℕ). from (k + 1) n ++ a ∷ []) (let e : k + 1 + n ≡ k + suc n = omega arith in e))

turned : (n : ℕ) → reverse (from 0 n) ≡ down_from n n
turned zero = refl
turned (suc n) = ap reverse (last_of 0 n) ∙ reverse-append (from 0 n) ((0 + n) ∷ []) ∙ ap₂ (λ (a : ℕ) l. a ∷ l) (let e : 0 + n ≡ n = omega arith in e) (turned n)

-- ---- what a turn looks at

pub forward_looks : (count place : ℕ) → take 64 (drop place (from 0 count)) ≡ from place (min count (place + 64) - place)
forward_looks count place =
    ap (take 64) (drop_from place 0 count) ∙ take_from 64 (0 + place) (count - place)
    ∙ ap₂ from (let e : 0 + place ≡ place = omega arith in e) (let e : min 64 (count - place) ≡ min count (place + 64) - place = omega arith in e)

pub backward_looks : (count place : ℕ) → place ≤ count + 1 → take 64 (reverse (take (place - 1) (from 0 count))) ≡ down_from (place - 1) (place - 1 - (place - 1 - 64))
backward_looks count place h =
    ap (λ l. take 64 (reverse l)) (take_from (place - 1) 0 count ∙ ap (from 0) (let e : min (place - 1) count ≡ place - 1 = omega (arith, h) in e))
    ∙ ap (take 64) (turned (place - 1)) ∙ take_down 64 (place - 1) (place - 1)
    ∙ ap (down_from (place - 1)) (let e : min 64 (place - 1) ≡ place - 1 - (place - 1 - 64) = omega arith in e)

-- ---- tests that agree on these positions

pub found_alike : (count : ℕ) (f g : ℕ → Bool) → ((p : ℕ) → p < count → f p ≡ g p) → (xs : List ℕ) → EachOf (λ p. p < count) xs → find f xs ≡ find g xs
found_alike count f g same [] h = refl
found_alike count f g same (x ∷ xs) h = ap₂ (λ (b : Bool) o. cond b (Some x) o) (same x h.0) (found_alike count f g same xs h.1)

pub from_below : (count k n : ℕ) → n ≤ count - k → EachOf (λ p. p < count) (from k n)
from_below count k zero h = tt
from_below count k (suc n) h = (omega (arith, h), from_below count (k + 1) n (omega (arith, h)))

pub down_below : (count p n : ℕ) → p ≤ count → EachOf (λ q. q < count) (down_from p n)
down_below count p zero h = tt
down_below count zero (suc n) h = tt
down_below count (suc p) (suc n) h = (omega (arith, h), down_below count p n (omega (arith, h)))
