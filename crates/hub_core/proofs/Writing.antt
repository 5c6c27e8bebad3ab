-- A list that is written through a slice of it.
use Rattle.std.proofs.Common.{◌≡◌, ◌≤◌, ◌++◌, ◌∙◌, ℕ, List, length, take, drop, take_all, arith}
use Rattle.std.proofs.lemmas.List.{take-append-le}

-- what was written through a slice of as many as there are
pub restored : {A : Type 0} (n : ℕ) (new old : List A) → n ≡ length old → length new ≡ length old → take n (new ++ drop (length new) old) ≡ new
restored n new old count long = take-append-le n new (drop (length new) old) (omega (arith, count, long)) ∙ take_all n new (omega (arith, count, long))
