-- The cycle and the slot of a position beside another.
use Rattle.std.proofs.Common.{◌≡◌, ℕ, zero, suc, ◌+◌, ◌*◌, ◌-◌, ◌/◌, ◌%◌, ◌<◌, ◌≤◌, refl, sym, ap, ◌∙◌, arith}
use Rattle.std.proofs.lemmas.Nat.{div-mul-add, mod-mul-add, div-add-mod'}

-- a position is its cycle times the slots, and its slot
whole : (p n : ℕ) → p / n * n + p % n ≡ p
whole p n = div-add-mod' p n

pub slot_below : (p n : ℕ) → 0 < n → p % n < n
slot_below p n some = grind arith

-- what stands in this cycle and this slot
pub spot_of : (p n c k : ℕ) → k < n → c * n + k ≡ p → (c ≡ p / n) × (k ≡ p % n)
spot_of p n c k within is =
    (sym (div-mul-add c n k within) ∙ ap (λ x. x / n) is, sym (mod-mul-add c n k within) ∙ ap (λ x. x % n) is)

-- the next slot of the same cycle
pub next_within : (p n : ℕ) → p % n + 1 < n → (p / n ≡ (p + 1) / n) × (p % n + 1 ≡ (p + 1) % n)
next_within p n within = spot_of (p + 1) n (p / n) (p % n + 1) within (let e : p / n * n + (p % n + 1) ≡ p + 1 = omega (arith, whole p n) in e)

-- the first slot of the next cycle
pub next_beyond : (p n : ℕ) → 0 < n → n ≤ p % n + 1 → (p / n + 1 ≡ (p + 1) / n) × (0 ≡ (p + 1) % n)
next_beyond p n some beyond =
    let last : p % n + 1 ≡ n = omega (arith, slot_below p n some, beyond) in
    let more : (p / n + 1) * n ≡ p / n * n + n = omega arith in
    spot_of (p + 1) n (p / n + 1) 0 some (let e : (p / n + 1) * n + 0 ≡ p + 1 = omega (arith, whole p n, more, last) in e)

-- the slot before in the same cycle
pub before_within : (p n : ℕ) → 0 < n → 0 < p % n → (p / n ≡ (p - 1) / n) × (p % n - 1 ≡ (p - 1) % n)
before_within p n some within =
    spot_of (p - 1) n (p / n) (p % n - 1) (omega (arith, slot_below p n some, within)) (let e : p / n * n + (p % n - 1) ≡ p - 1 = omega (arith, whole p n, within) in e)

pub cycle_above : (p n : ℕ) → 0 < p → p % n ≡ 0 → 0 < p / n
cycle_above p n later first = by_cycle (p / n) refl
  where
    by_cycle : (c : ℕ) → p / n ≡ c → 0 < c
    by_cycle zero e = absurd (omega (arith, later, first, whole p n, ap (λ c. c * n) e))
    by_cycle (suc c) e = omega arith

-- the last slot of the cycle before
pub before_beyond : (p n : ℕ) → 0 < n → 0 < p → p % n ≡ 0 → (p / n - 1 ≡ (p - 1) / n) × (n - 1 ≡ (p - 1) % n)
before_beyond p n some later first =
    let more : p / n * n ≡ (p / n - 1) * n + n = split (p / n) (cycle_above p n later first) in
    spot_of (p - 1) n (p / n - 1) (n - 1) (omega (arith, some)) (let e : (p / n - 1) * n + (n - 1) ≡ p - 1 = omega (arith, whole p n, more, first, some) in e)
  where
    split : (c : ℕ) → 0 < c → c * n ≡ (c - 1) * n + n
    split zero h = absurd (omega (arith, h))
    split (suc c) h = (let e : suc c * n ≡ c * n + n = omega arith in e) ∙ ap (λ x. x * n + n) (let d : c ≡ suc c - 1 = omega arith in d)

-- a cycle is not behind its position
pub cycle_below : (p n : ℕ) → 0 < n → p / n ≤ p
cycle_below p n some = grind arith

-- a slot further on in the same cycle, and one further back
pub up_within : (p n d : ℕ) → p % n + d < n → (p / n ≡ (p + d) / n) × (p % n + d ≡ (p + d) % n)
up_within p n d within = spot_of (p + d) n (p / n) (p % n + d) within (let e : p / n * n + (p % n + d) ≡ p + d = omega (arith, whole p n) in e)

pub down_within : (p n d : ℕ) → 0 < n → d ≤ p % n → (p / n ≡ (p - d) / n) × (p % n - d ≡ (p - d) % n)
down_within p n d some within =
    spot_of (p - d) n (p / n) (p % n - d) (omega (arith, slot_below p n some, within)) (let e : p / n * n + (p % n - d) ≡ p - d = omega (arith, whole p n, within) in e)
