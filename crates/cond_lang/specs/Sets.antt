-- Trees that rest on what is a set are a set: two of them are the same in one way at most.
use Rattle.std.proofs.Common.{◌≡◌, ap, refl, subst}
use Rattle.std.proofs.Props.{props}
use mathlib.Core.HLevel.{collapsible→set}
use Rattle.bv_core.specs.Value.{Bits}
use Rattle.bv_core.specs.declared.operators.Op1.{Op1}
use Rattle.bv_core.specs.declared.operators.Op2.{Op2}
use Rattle.tree_core.specs.Tree.{Tree, Const, Leaf, One, Two, Mux}

bits_set : IsSet Bits
bits_set = hlevel props

one_set : IsSet Op1
one_set = hlevel props

two_set : IsSet Op2
two_set = hlevel props

module _ {A : Type 0} (set : IsSet A) where
  -- the same, part by part
  abbrev Same : Tree A → Tree A → Type 0
  Same (Const b) (Const b′) = b ≡ b′
  Same (Const b) (Leaf r′) = ⊥
  Same (Const b) (One o′ a′) = ⊥
  Same (Const b) (Two o′ a′ b′) = ⊥
  Same (Const b) (Mux c′ a′ b′) = ⊥
  Same (Leaf r) (Const b′) = ⊥
  Same (Leaf r) (Leaf r′) = r ≡ r′
  Same (Leaf r) (One o′ a′) = ⊥
  Same (Leaf r) (Two o′ a′ b′) = ⊥
  Same (Leaf r) (Mux c′ a′ b′) = ⊥
  Same (One o a) (Const b′) = ⊥
  Same (One o a) (Leaf r′) = ⊥
  Same (One o a) (One o′ a′) = (o ≡ o′) × Same a a′
  Same (One o a) (Two o′ a′ b′) = ⊥
  Same (One o a) (Mux c′ a′ b′) = ⊥
  Same (Two o a b) (Const b′) = ⊥
  Same (Two o a b) (Leaf r′) = ⊥
  Same (Two o a b) (One o′ a′) = ⊥
  Same (Two o a b) (Two o′ a′ b′) = (o ≡ o′) × Same a a′ × Same b b′
  Same (Two o a b) (Mux c′ a′ b′) = ⊥
  Same (Mux c a b) (Const b′) = ⊥
  Same (Mux c a b) (Leaf r′) = ⊥
  Same (Mux c a b) (One o′ a′) = ⊥
  Same (Mux c a b) (Two o′ a′ b′) = ⊥
  Same (Mux c a b) (Mux c′ a′ b′) = Same c c′ × Same a a′ × Same b b′

  one_way : (s t : Tree A) → IsProp (Same s t)
  one_way (Const b) (Const b′) = hlevel (props, bits_set)
  one_way (Const b) (Leaf r′) = hlevel props
  one_way (Const b) (One o′ a′) = hlevel props
  one_way (Const b) (Two o′ a′ b′) = hlevel props
  one_way (Const b) (Mux c′ a′ b′) = hlevel props
  one_way (Leaf r) (Const b′) = hlevel props
  one_way (Leaf r) (Leaf r′) = hlevel (props, set)
  one_way (Leaf r) (One o′ a′) = hlevel props
  one_way (Leaf r) (Two o′ a′ b′) = hlevel props
  one_way (Leaf r) (Mux c′ a′ b′) = hlevel props
  one_way (One o a) (Const b′) = hlevel props
  one_way (One o a) (Leaf r′) = hlevel props
  one_way (One o a) (One o′ a′) = hlevel (props, one_set, one_way a a′)
  one_way (One o a) (Two o′ a′ b′) = hlevel props
  one_way (One o a) (Mux c′ a′ b′) = hlevel props
  one_way (Two o a b) (Const b′) = hlevel props
  one_way (Two o a b) (Leaf r′) = hlevel props
  one_way (Two o a b) (One o′ a′) = hlevel props
  one_way (Two o a b) (Two o′ a′ b′) = hlevel (props, two_set, one_way a a′, one_way b b′)
  one_way (Two o a b) (Mux c′ a′ b′) = hlevel props
  one_way (Mux c a b) (Const b′) = hlevel props
  one_way (Mux c a b) (Leaf r′) = hlevel props
  one_way (Mux c a b) (One o′ a′) = hlevel props
  one_way (Mux c a b) (Two o′ a′ b′) = hlevel props
  one_way (Mux c a b) (Mux c′ a′ b′) = hlevel (props, one_way c c′, one_way a a′, one_way b b′)

  itself : (t : Tree A) → Same t t
  itself (Const b) = refl
  itself (Leaf r) = refl
  itself (One o a) = (refl, itself a)
  itself (Two o a b) = (refl, itself a, itself b)
  itself (Mux c a b) = (itself c, itself a, itself b)

  same_is : (s t : Tree A) → Same s t → s ≡ t
  same_is (Const b) (Const b′) h = ap Const h
  same_is (Const b) (Leaf r′) h = absurd h
  same_is (Const b) (One o′ a′) h = absurd h
  same_is (Const b) (Two o′ a′ b′) h = absurd h
  same_is (Const b) (Mux c′ a′ b′) h = absurd h
  same_is (Leaf r) (Const b′) h = absurd h
  same_is (Leaf r) (Leaf r′) h = ap Leaf h
  same_is (Leaf r) (One o′ a′) h = absurd h
  same_is (Leaf r) (Two o′ a′ b′) h = absurd h
  same_is (Leaf r) (Mux c′ a′ b′) h = absurd h
  same_is (One o a) (Const b′) h = absurd h
  same_is (One o a) (Leaf r′) h = absurd h
  same_is (One o a) (One o′ a′) h = (λ i. One (h.0 i) (same_is a a′ h.1 i))
  same_is (One o a) (Two o′ a′ b′) h = absurd h
  same_is (One o a) (Mux c′ a′ b′) h = absurd h
  same_is (Two o a b) (Const b′) h = absurd h
  same_is (Two o a b) (Leaf r′) h = absurd h
  same_is (Two o a b) (One o′ a′) h = absurd h
  same_is (Two o a b) (Two o′ a′ b′) h = (λ i. Two (h.0 i) (same_is a a′ h.1 i) (same_is b b′ h.2 i))
  same_is (Two o a b) (Mux c′ a′ b′) h = absurd h
  same_is (Mux c a b) (Const b′) h = absurd h
  same_is (Mux c a b) (Leaf r′) h = absurd h
  same_is (Mux c a b) (One o′ a′) h = absurd h
  same_is (Mux c a b) (Two o′ a′ b′) h = absurd h
  same_is (Mux c a b) (Mux c′ a′ b′) h = (λ i. Mux (same_is c c′ h.0 i) (same_is a a′ h.1 i) (same_is b b′ h.2 i))

  pub tree_set : IsSet (Tree A)
  tree_set = collapsible→set (λ s t p. same_is s t (subst (Same s) p (itself s))) (λ s t p q. ap (same_is s t) (one_way s t _ _))
