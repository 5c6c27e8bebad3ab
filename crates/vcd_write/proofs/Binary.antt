-- Binary digits eight by eight.
use Rattle.std.proofs.Common.{◌≡◌, ℕ, zero, suc, ◌+◌, ◌-◌, ◌*◌, ◌/◌, ◌%◌, ◌^◌, ◌<◌, ◌≤◌, List, [], ◌∷◌, ◌++◌, refl, sym, ap, ap₂, ◌∙◌, arith, append-nil, append_assoc}
use Rattle.std.proofs.lemmas.Nat.{shr-shr}
use Rattle.vcd_text.specs.Dump.{binary_digits}

-- ---- several at once

pub joined : (a b v : ℕ) → binary_digits (b + a) v ≡ binary_digits a (v / 2 ^ b) ++ binary_digits b v
unfolding binary_digits
joined a zero v =
    ap (λ k. binary_digits k v) (let e : 0 + a ≡ a = omega arith in e)
    ∙ ap (binary_digits a) (let e : v ≡ v / 2 ^ 0 = omega arith in e)
    ∙ sym (append-nil (binary_digits a (v / 2 ^ 0)))
joined a (suc b) v =
    ap (λ k. binary_digits k v) (let e : suc b + a ≡ suc (b + a) = omega arith in e)
    ∙ ap (λ (l : List ℕ). l ++ (48 + v % 2) ∷ []) (joined a b (v / 2))
    ∙ append_assoc (binary_digits a (v / 2 / 2 ^ b)) (binary_digits b (v / 2)) ((48 + v % 2) ∷ [])
    ∙ ap (λ m. binary_digits a m ++ (binary_digits b (v / 2) ++ (48 + v % 2) ∷ [])) (shr-shr v 1 b ∙ ap (λ k. v / 2 ^ k) (let e : 1 + b ≡ suc b = omega arith in e))

pub eight_is : (n : ℕ) → (48 + n / 128 % 2) ∷ (48 + n / 64 % 2) ∷ (48 + n / 32 % 2) ∷ (48 + n / 16 % 2) ∷ (48 + n / 8 % 2) ∷ (48 + n / 4 % 2) ∷ (48 + n / 2 % 2) ∷ (48 + n % 2) ∷ [] ≡ binary_digits 8 n
unfolding binary_digits
eight_is n =
    let a : n / 4 ≡ n / 2 / 2 = omega arith in
    let b : n / 8 ≡ n / 2 / 2 / 2 = omega arith in
    let c : n / 16 ≡ n / 2 / 2 / 2 / 2 = omega arith in
    let d : n / 32 ≡ n / 2 / 2 / 2 / 2 / 2 = omega arith in
    let e : n / 64 ≡ n / 2 / 2 / 2 / 2 / 2 / 2 = omega arith in
    let f : n / 128 ≡ n / 2 / 2 / 2 / 2 / 2 / 2 / 2 = omega arith in
    λ i. (48 + f i % 2) ∷ (48 + e i % 2) ∷ (48 + d i % 2) ∷ (48 + c i % 2) ∷ (48 + b i % 2) ∷ (48 + a i % 2) ∷ (48 + n / 2 % 2) ∷ (48 + n % 2) ∷ []

-- the lowest eight digits are those of what is left by 256
pub eight_low : (n : ℕ) → binary_digits 8 (n % 256) ≡ binary_digits 8 n
eight_low n =
    let m = n % 256 in
    let a : n % 256 / 4 % 2 ≡ n / 4 % 2 = omega arith in
    let b : n % 256 / 8 % 2 ≡ n / 8 % 2 = omega arith in
    let c : n % 256 / 16 % 2 ≡ n / 16 % 2 = omega arith in
    let d : n % 256 / 32 % 2 ≡ n / 32 % 2 = omega arith in
    let e : n % 256 / 64 % 2 ≡ n / 64 % 2 = omega arith in
    let f : n % 256 / 128 % 2 ≡ n / 128 % 2 = omega arith in
    let g : n % 256 / 2 % 2 ≡ n / 2 % 2 = omega arith in
    let h : n % 256 % 2 ≡ n % 2 = omega arith in
    sym (eight_is (n % 256))
    ∙ (λ i. (48 + f i) ∷ (48 + e i) ∷ (48 + d i) ∷ (48 + c i) ∷ (48 + b i) ∷ (48 + a i) ∷ (48 + g i) ∷ (48 + h i) ∷ [])
    ∙ eight_is n

-- the eight digits at one place less
pub more_eight : (count value place next : ℕ) → 0 < next → place ≡ next - 1 → 8 * next ≤ count →
    binary_digits (count - 8 * place) (value / 2 ^ (8 * place)) ≡ binary_digits (count - 8 * next) (value / 2 ^ (8 * next)) ++ binary_digits 8 (value / 2 ^ (8 * place) % 256)
more_eight count value place next some e within =
    let more : count - 8 * place ≡ 8 + (count - 8 * next) = omega arith in
    let after : 8 * place + 8 ≡ 8 * next = omega arith in
    let v = value / 2 ^ (8 * place) in
    ap (λ k. binary_digits k v) more ∙ joined (count - 8 * next) 8 v
    ∙ ap (λ m. binary_digits (count - 8 * next) m ++ binary_digits 8 v) (shr-shr value (8 * place) 8 ∙ ap (λ k. value / 2 ^ k) after)
    ∙ ap (λ (l : List ℕ). binary_digits (count - 8 * next) (value / 2 ^ (8 * next)) ++ l) (sym (eight_low v))

-- no digits
pub none_more : (text : List ℕ) (few n : ℕ) → few ≡ 0 → text ≡ text ++ binary_digits few n
unfolding binary_digits
none_more text few n e = sym (ap (λ k. text ++ binary_digits k n) e ∙ append-nil text)

-- eight by eight, from the first to the last
pub all_eights : (count value : ℕ) → binary_digits (count % 8) (value / 2 ^ (count - count % 8)) ≡ binary_digits (count - 8 * (count / 8)) (value / 2 ^ (8 * (count / 8)))
all_eights count value =
    let a : count % 8 ≡ count - 8 * (count / 8) = omega arith in
    let b : count - count % 8 ≡ 8 * (count / 8) = omega arith in
    ap₂ (λ k m. binary_digits k (value / 2 ^ m)) a b

pub no_eights : (count value : ℕ) → binary_digits (count - 8 * 0) (value / 2 ^ (8 * 0)) ≡ binary_digits count value
no_eights count value =
    let a : count - 8 * 0 ≡ count = omega arith in
    let b : value / 2 ^ (8 * 0) ≡ value = omega arith in
    ap₂ binary_digits a b
