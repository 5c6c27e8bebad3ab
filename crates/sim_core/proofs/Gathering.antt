-- What nodes have, one behind the other.
use Rattle.std.proofs.Common.{◌≡◌, ℕ, ◌+◌, ◌<◌, ◌≤◌, List, [], ◌∷◌, ◌++◌, length, map, drop, if◌then◌else◌, append-nil, append_assoc, sym, ap, ◌∙◌, length-append, ◌==◌, true≢false}
use Rattle.std.proofs.lemmas.List.{drop_more, drop_all, map-append}
use Rattle.net_core.specs.Nodes.{Shape, no_shape, shape_at}
use Rattle.sim_core.specs.Leaves.{gathered, number_in, numbers_from}

pub gather_next : {X : Type 0} (of : Shape → List X) (ns : List Shape) (k : ℕ) (s : Shape) → k < length ns → s ≡ shape_at ns k → gathered of (drop k ns) ≡ of s ++ gathered of (drop (k + 1) ns)
gather_next of ns k s inside at = ap (gathered of) (drop_more ns k no_shape inside) ∙ ap (λ n. of n ++ gathered of (drop (k + 1) ns)) (sym at)

pub gather_end : {X : Type 0} (of : Shape → List X) (ns : List Shape) (k : ℕ) → length ns ≤ k → gathered of (drop k ns) ≡ []
gather_end of ns k past = ap (gathered of) (drop_all k ns past)

-- those so far, and what is left
pub found_next : {X : Type 0} (of : Shape → List X) (ns : List Shape) (k : ℕ) (s : Shape) (old new : List X) → k < length ns → s ≡ shape_at ns k → new ≡ old ++ of s
    → new ++ gathered of (drop (k + 1) ns) ≡ old ++ gathered of (drop k ns)
found_next of ns k s old new inside at is =
    ap (λ found. found ++ gathered of (drop (k + 1) ns)) is
    ∙ append_assoc old (of s) (gathered of (drop (k + 1) ns))
    ∙ ap (λ rest. old ++ rest) (sym (gather_next of ns k s inside at))

pub found_end : {X : Type 0} (of : Shape → List X) (ns : List Shape) (k : ℕ) (found : List X) → length ns ≤ k → found ++ gathered of (drop k ns) ≡ found
found_end of ns k found past = ap (λ rest. found ++ rest) (gather_end of ns k past) ∙ append-nil found

-- how many there are
pub count_next : {X : Type 0} (of : Shape → List X) (ns : List Shape) (k : ℕ) (s : Shape) → k < length ns → s ≡ shape_at ns k
    → length (gathered of (drop k ns)) ≡ length (of s) + length (gathered of (drop (k + 1) ns))
count_next of ns k s inside at = ap length (gather_next of ns k s inside at) ∙ length-append (of s) (gathered of (drop (k + 1) ns))

pub count_end : {X : Type 0} (of : Shape → List X) (ns : List Shape) (k : ℕ) → length ns ≤ k → length (gathered of (drop k ns)) ≡ 0
count_end of ns k past = ap length (gather_end of ns k past)

-- the numbers of registers' nodes
pub numbers_next : (f : ℕ → ℕ) (ns : List Shape) (k : ℕ) (s : Shape) (old new : List ℕ) → k < length ns → s ≡ shape_at ns k → new ≡ old ++ map f (number_in k s)
    → new ++ map f (numbers_from (k + 1) (drop (k + 1) ns)) ≡ old ++ map f (numbers_from k (drop k ns))
numbers_next f ns k s old new inside at is =
    let rest = numbers_from (k + 1) (drop (k + 1) ns) in
    ap (λ found. found ++ map f rest) is
    ∙ append_assoc old (map f (number_in k s)) (map f rest)
    ∙ ap (λ more. old ++ more) (sym (map-append f (number_in k s) rest))
    ∙ ap (λ n. old ++ map f (number_in k n ++ rest)) at
    ∙ ap (λ l. old ++ map f (numbers_from k l)) (sym (drop_more ns k no_shape inside))

pub numbers_end : (f : ℕ → ℕ) (ns : List Shape) (k : ℕ) (found : List ℕ) → length ns ≤ k → found ++ map f (numbers_from k (drop k ns)) ≡ found
numbers_end f ns k found past = ap (λ l. found ++ map f (numbers_from k l)) (drop_all k ns past) ∙ append-nil found
