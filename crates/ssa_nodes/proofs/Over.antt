-- Nodes over what is given, as more are added.
use Rattle.std.proofs.Common.{◌≡◌, Bool, true, false, ◌||◌, List, [], ◌∷◌, map, ◌⊎◌, inl, inr, ⊎_elim, refl, ap, subst}
use Rattle.std.specs.List.{list_any}
use Rattle.tree_core.specs.Tree.{Leaf, Origin, Whole}
use Rattle.tree_core.specs.Fold.{same_origin}
use Rattle.tree_core.proofs.Same.{same_origin-sound, same_origin-refl}
use Rattle.exec_core.specs.Leaves.{EachLeaf}
use Rattle.list_core.specs.Lists.{IsIn}
use Rattle.exec_core.specs.Whole.{Place}
use Rattle.exec_core.specs.Design as exec
use Rattle.exec_core.specs.States.{OverGivens}
use Rattle.exec_core.proofs.Wholes.{each_leaf}
use Rattle.net_core.specs.Nodes.{Shape, tree_of}
use Rattle.net_core.specs.Builder.{Adds}
use Rattle.term_net.specs.Growth.{Grown}
use Rattle.term_net.proofs.Overs.{adds_over}
use Rattle.ssa_nodes.specs.State.{AllOverGivens}

abbrev is_among : List Origin → Origin → Bool
is_among os o = list_any (same_origin o) os

or_cases : (a b : Bool) → (a || b) ≡ true → (a ≡ true) ⊎ (b ≡ true)
or_cases true b e = inl refl
or_cases false b e = inr e

or_right : (a b : Bool) → b ≡ true → (a || b) ≡ true
or_right true b e = refl
or_right false b e = e

or_left : (a b : Bool) → a ≡ true → (a || b) ≡ true
or_left true b e = refl
or_left false b e = cc

among_in : (os : List Origin) (o : Origin) → is_among os o ≡ true → IsIn o os
among_in [] o e = cc
among_in (p ∷ os) o e = ⊎_elim (λ h. inl (same_origin-sound o p h)) (λ h. inr (among_in os o h)) (or_cases (same_origin o p) (is_among os o) e)

in_among : (os : List Origin) (o : Origin) → IsIn o os → is_among os o ≡ true
in_among [] o i = absurd i
in_among (p ∷ os) o (inl e) = or_left (same_origin o p) (is_among os o) (subst (λ q. same_origin o q ≡ true) e (same_origin-refl o))
in_among (p ∷ os) o (inr i) = or_right (same_origin o p) (is_among os o) (in_among os o i)

abbrev origins : exec.Design → List Origin
origins d = map (λ given. given.1) d.givens

over_test : (d : exec.Design) (t : Whole) → OverGivens d t → EachLeaf (λ o. is_among (origins d) o ≡ true) t
over_test d t h = each_leaf (λ o i. in_among (origins d) o i) t h

test_over : (d : exec.Design) (t : Whole) → EachLeaf (λ o. is_among (origins d) o ≡ true) t → OverGivens d t
test_over d t h = each_leaf (λ o e. among_in (origins d) o e) t h

pub over_more : (d : exec.Design) (old new : List Shape) → Grown old new → AllOverGivens d old → AllOverGivens d new
over_more d old new grown h j l = test_over d (tree_of new j) (grown.over (is_among (origins d)) (λ k m. over_test d (tree_of old k) (h k m)) j l)

origin_among : (givens : List (Place × Origin)) (q : Place × Origin) → IsIn q givens → IsIn q.1 (map (λ given. given.1) givens)
origin_among [] q i = absurd i
origin_among (g ∷ givens) q (inl e) = inl (ap (λ (r : Place × Origin). r.1) e)
origin_among (g ∷ givens) q (inr i) = inr (origin_among givens q i)

-- what is given is one more
pub over_leaf : (d : exec.Design) (old new : List Shape) (q : Place × Origin) → IsIn q d.givens → Adds old new (Leaf q.1) → AllOverGivens d old → AllOverGivens d new
over_leaf d old new q m adds h j l =
    test_over d (tree_of new j) (adds_over old new (Leaf q.1) adds (is_among (origins d)) (λ k. in_among (origins d) q.1 (origin_among d.givens q m)) (λ k n. over_test d (tree_of old k) (h k n)) j l)
