-- What walking a tree does to a list of trees.
use Rattle.std.proofs.Common.{◌≡◌, ℕ, zero, suc, ◌<◌, Bool, true, false, ◌||◌, List, [], ◌∷◌, ◌++◌, length, if◌then◌else◌, ◌⊎◌, inl, inr, ⊎_elim, refl, sym, ap, ◌∙◌, subst, arith, append_assoc, append-nil}
use Rattle.tree_core.specs.Tree.{Const, Leaf, One, Two, Mux, Whole}
use Rattle.tree_core.specs.Fold.{same_tree, same_origin}
use Rattle.tree_core.proofs.Same.{tests_trees}
use Rattle.list_core.specs.Lists.{IsIn}
use Rattle.exec_core.specs.Kept.{has_number, add, walk}
use Rattle.list_core.proofs.Lists.{in_left, in_right}
use Rattle.net_core.specs.Nodes.{tree_at}
use Rattle.net_core.specs.Builder.{has_tree, with_tree}
use Rattle.walk_net.specs.Tasks.{OperandsIn}

-- the builder's test of a tree is the walk's
has_is : (t : Whole) (ts : List Whole) → has_tree t ts ≡ has_number t ts
has_is t [] = refl
has_is t (x ∷ xs) = ap (λ b. same_tree same_origin t x || b) (has_is t xs)

pub with_is_add : (t : Whole) (ts : List Whole) → with_tree t ts ≡ add t ts
with_is_add t ts = ap (λ b. if b then ts else ts ++ t ∷ []) (has_is t ts)

pub or_left : (a b : Bool) → a ≡ true → (a || b) ≡ true
or_left true b e = refl
or_left false b e = cc

pub or_right : (a b : Bool) → b ≡ true → (a || b) ≡ true
or_right true b e = refl
or_right false b e = e

in_has : (t : Whole) (ts : List Whole) → IsIn t ts → has_number t ts ≡ true
in_has t [] i = absurd i
in_has t (x ∷ xs) (inl e) = or_left (same_tree same_origin t x) (has_number t xs) ((tests_trees t x).1 e)
in_has t (x ∷ xs) (inr i) = or_right (same_tree same_origin t x) (has_number t xs) (in_has t xs i)

pub or_split : (a b : Bool) → (a || b) ≡ true → (a ≡ true) ⊎ (b ≡ true)
or_split true b e = inl refl
or_split false b e = inr e

has_in : (t : Whole) (ts : List Whole) → has_number t ts ≡ true → IsIn t ts
has_in t [] e = cc
has_in t (x ∷ xs) e =
    ⊎_elim (λ s. inl ((tests_trees t x).0 s)) (λ s. inr (has_in t xs s)) (or_split (same_tree same_origin t x) (has_number t xs) e)

-- a tree that is there is not added
pub add_there : (t : Whole) (ts : List Whole) → IsIn t ts → add t ts ≡ ts
add_there t ts i = ap (λ b. if b then ts else ts ++ t ∷ []) (in_has t ts i)

-- a list that goes on
pub record GoesOn (ts us : List Whole) : Type 0 where
  pub more : List Whole
  pub is : us ≡ ts ++ more

pub same_list : (ts : List Whole) → GoesOn ts ts
same_list ts = record { more = []; is = sym (append-nil ts) }

pub further : {ts us vs : List Whole} → GoesOn ts us → GoesOn us vs → GoesOn ts vs
further {ts} g h = record { more = g.more ++ h.more; is = h.is ∙ ap (λ xs. xs ++ h.more) g.is ∙ append_assoc ts g.more h.more }

pub still_in : {ts us : List Whole} → GoesOn ts us → (x : Whole) → IsIn x ts → IsIn x us
still_in {ts} g x i = subst (IsIn x) (sym g.is) (in_left x ts g.more i)

add_at : (b : Bool) (t : Whole) (ts : List Whole) → GoesOn ts (if b then ts else ts ++ t ∷ [])
add_at true t ts = same_list ts
add_at false t ts = record { more = t ∷ []; is = refl }

pub add_grows : (t : Whole) (ts : List Whole) → GoesOn ts (add t ts)
add_grows t ts = add_at (has_number t ts) t ts

has_at : (b : Bool) (t : Whole) (ts : List Whole) → (b ≡ true → IsIn t ts) → IsIn t (if b then ts else ts ++ t ∷ [])
has_at true t ts h = h refl
has_at false t ts h = in_right t ts (t ∷ []) (inl refl)

pub add_has : (t : Whole) (ts : List Whole) → IsIn t (add t ts)
add_has t ts = has_at (has_number t ts) t ts (has_in t ts)

last_split : (x t : Whole) (ts : List Whole) → IsIn x (ts ++ t ∷ []) → IsIn x ts ⊎ (x ≡ t)
last_split x t [] (inl e) = inr e
last_split x t [] (inr i) = absurd i
last_split x t (y ∷ ys) (inl e) = inl (inl e)
last_split x t (y ∷ ys) (inr i) = ⊎_elim (λ j. inl (inr j)) inr (last_split x t ys i)

split_at : (b : Bool) (x t : Whole) (ts : List Whole) → IsIn x (if b then ts else ts ++ t ∷ []) → IsIn x ts ⊎ (x ≡ t)
split_at true x t ts i = inl i
split_at false x t ts i = last_split x t ts i

pub add_split : (x t : Whole) (ts : List Whole) → IsIn x (add t ts) → IsIn x ts ⊎ (x ≡ t)
add_split x t ts i = split_at (has_number t ts) x t ts i

pub walk_grows : (t : Whole) (ts : List Whole) → GoesOn ts (walk t ts)
walk_grows (Const b) ts = add_grows (Const b) ts
walk_grows (Leaf o) ts = add_grows (Leaf o) ts
walk_grows (One op a) ts = further (walk_grows a ts) (add_grows (One op a) (walk a ts))
walk_grows (Two op a b) ts = further (walk_grows a ts) (further (walk_grows b (walk a ts)) (add_grows (Two op a b) (walk b (walk a ts))))
walk_grows (Mux c a b) ts =
    further (walk_grows c ts) (further (walk_grows a (walk c ts)) (further (walk_grows b (walk a (walk c ts))) (add_grows (Mux c a b) (walk b (walk a (walk c ts))))))

pub walk_has : (t : Whole) (ts : List Whole) → IsIn t (walk t ts)
walk_has (Const b) ts = add_has (Const b) ts
walk_has (Leaf o) ts = add_has (Leaf o) ts
walk_has (One op a) ts = add_has (One op a) (walk a ts)
walk_has (Two op a b) ts = add_has (Two op a b) (walk b (walk a ts))
walk_has (Mux c a b) ts = add_has (Mux c a b) (walk b (walk a (walk c ts)))

-- each tree's operands are there
abbrev pub HasOperands : List Whole → Type 0
HasOperands ts = (x : Whole) → IsIn x ts → OperandsIn x ts

-- walking a tree that is there changes nothing
pub walk_there : (t : Whole) (ts : List Whole) → HasOperands ts → IsIn t ts → walk t ts ≡ ts
walk_there (Const b) ts h i = add_there (Const b) ts i
walk_there (Leaf o) ts h i = add_there (Leaf o) ts i
walk_there (One op a) ts h i = ap (add (One op a)) (walk_there a ts h (h (One op a) i)) ∙ add_there (One op a) ts i
walk_there (Two op a b) ts h i =
    let o = h (Two op a b) i in
    ap (λ us. add (Two op a b) (walk b us)) (walk_there a ts h o.0)
    ∙ ap (add (Two op a b)) (walk_there b ts h o.1)
    ∙ add_there (Two op a b) ts i
walk_there (Mux c a b) ts h i =
    let o = h (Mux c a b) i in
    ap (λ us. add (Mux c a b) (walk b (walk a us))) (walk_there c ts h o.0)
    ∙ ap (λ us. add (Mux c a b) (walk b us)) (walk_there a ts h o.1)
    ∙ ap (add (Mux c a b)) (walk_there b ts h o.2)
    ∙ add_there (Mux c a b) ts i

-- elements by their places
pub at_in : (ts : List Whole) (i : ℕ) → i < length ts → IsIn (tree_at ts i) ts
at_in [] i l = absurd (omega arith)
at_in (t ∷ ts) zero l = inl refl
at_in (t ∷ ts) (suc i) l = inr (at_in ts i (omega arith))

pub record IsAt (x : Whole) (ts : List Whole) : Type 0 where
  pub place : ℕ
  pub within : place < length ts
  pub is : tree_at ts place ≡ x

pub in_at : (x : Whole) (ts : List Whole) → IsIn x ts → IsAt x ts
in_at x [] i = absurd i
in_at x (t ∷ ts) (inl e) = record { place = 0; within = omega arith; is = sym e }
in_at x (t ∷ ts) (inr i) =
    let r = in_at x ts i in
    let l : r.place < length ts = r.within in
    record { place = suc r.place; within = omega arith; is = r.is }
