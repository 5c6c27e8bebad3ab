-- Lists of names that differ.
use Rattle.std.proofs.Common.{◌≢◌, ℕ, ◌<◌, List, [], ◌∷◌, sym, arith}
use Rattle.std.specs.Prelude.{All}
use Rattle.std.specs.List.{AllPairs}
use Rattle.std.proofs.lemmas.List.Elements.{All-nil, All-cons}
use Rattle.std.proofs.lemmas.List.Kept.{AllPairs-cons}
use Rattle.std.proofs.lemmas.Map.Made.{IsDistinct-from_AllPairs}
use Rattle.std.proofs.lemmas.Slice.Eq.{bytes_eq-Decides}
use Rattle.list_core.specs.Lists.{IsNotIn, AreApart}
use Rattle.symtab.specs.Apart as symtab

all_other : (x : List ℕ) (xs : List (List ℕ)) → IsNotIn x xs → All (λ y. x ≢ y) xs
all_other x [] h = All-nil (λ y. x ≢ y)
all_other x (y ∷ xs) h = All-cons (λ z. x ≢ z) y xs (λ e. h.0 (sym e)) (all_other x xs h.1)

all_pairs : (xs : List (List ℕ)) → AreApart xs → AllPairs (λ x y. x ≢ y) xs
all_pairs [] a = λ i j d l m. absurd (nothing j m)
  where
    nothing : (j : ℕ) → j < 0 → ⊥
    nothing j m = omega arith
all_pairs (x ∷ xs) a = AllPairs-cons (λ y z. y ≢ z) x xs (all_other x xs a.0) (all_pairs xs a.1)

-- texts of which none is another one differ as texts
pub texts_apart : (xs : List (List ℕ)) → AreApart xs → symtab.AreApart xs
texts_apart xs a = IsDistinct-from_AllPairs bytes_eq-Decides xs (all_pairs xs a)
