-- A tree has a number where it is among the trees.
use Rattle.std.proofs.Common.{◌≡◌, ◌||◌, true, List, [], ◌∷◌, inl, inr, ⊎_elim, ap, subst}
use Rattle.tree_core.specs.Tree.{Whole}
use Rattle.tree_core.specs.Fold.{same_tree, same_origin}
use Rattle.tree_core.proofs.Same.{same_tree-sound, same_tree-refl, same_origin-sound, same_origin-refl}
use Rattle.list_core.specs.Lists.{IsIn}
use Rattle.exec_core.specs.Kept.{has_number}
use Rattle.list_core.proofs.Listing.{either_true, second_true}

pub number_told : (t : Whole) (ts : List Whole) → has_number t ts ≡ true → IsIn t ts
number_told t [] e = cc
number_told t (x ∷ xs) e =
    ⊎_elim (λ s. inl (same_tree-sound same_origin same_origin-sound t x s)) (λ s. inr (number_told t xs s)) (either_true (same_tree same_origin t x) (has_number t xs) e)

pub has_told : (t : Whole) (ts : List Whole) → IsIn t ts → has_number t ts ≡ true
has_told t [] i = absurd i
has_told t (x ∷ xs) (inl e) =
    let same : same_tree same_origin t x ≡ true = subst (λ y. same_tree same_origin t y ≡ true) e (same_tree-refl same_origin same_origin-refl t) in
    ap (λ b. b || has_number t xs) same
has_told t (x ∷ xs) (inr i) = second_true (same_tree same_origin t x) (has_number t xs) (has_told t xs i)
