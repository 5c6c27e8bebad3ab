-- The number of a tree among trees that differ.
use Rattle.std.proofs.Common.{◌≡◌, ℕ, zero, suc, ◌<◌, Bool, true, false, List, [], ◌∷◌, length, if◌then◌else◌, refl, ap, ◌∙◌, arith}
use Rattle.tree_core.specs.Tree.{Whole}
use Rattle.tree_core.specs.Fold.{same_tree, same_origin}
use Rattle.tree_core.proofs.Same.{same_tree-sound, same_tree-refl, same_origin-sound, same_origin-refl}
use Rattle.net_core.specs.Nodes.{tree_at}
use Rattle.net_core.specs.Builder.{HaveOneIdEach}
use Rattle.trim_core.specs.KeptNet.{number_of}

pub number_is : (ts : List Whole) → HaveOneIdEach ts → (i : ℕ) → i < length ts → number_of ts (tree_at ts i) ≡ i
number_is [] h i l = absurd (omega arith)
number_is (x ∷ xs) h zero l = ap (λ b. if b then 0 else suc (number_of xs x)) (same_tree-refl same_origin same_origin-refl x)
number_is (x ∷ xs) h (suc i) l =
    ap (λ b. if b then 0 else suc (number_of xs (tree_at xs i))) (other (same_tree same_origin (tree_at xs i) x) refl)
    ∙ ap suc (number_is xs (record { one = λ j k m n e. let s : suc j ≡ suc k = h.one (suc j) (suc k) (omega arith) (omega arith) e in omega arith }) i (omega arith))
  where
    other : (b : Bool) → same_tree same_origin (tree_at xs i) x ≡ b → b ≡ false
    other true e = absurd (let s : suc i ≡ 0 = h.one (suc i) 0 l (omega arith) (same_tree-sound same_origin same_origin-sound (tree_at xs i) x e) in omega arith)
    other false e = refl
