-- The value that is computed from the bottom up is that which is defined.
use Rattle.std.proofs.Common.{◌≡◌, Bool, true, false, List, [], ◌∷◌, ◌++◌, Option, Some, None, is_some, unwrap_or, refl, ◌&&◌, if◌then◌else◌}
use Rattle.std.specs.List.{list_all}
use Rattle.bv_core.specs.Value.{Bits}
use Rattle.bv_core.specs.Operators.{apply1_of, apply2_of, choose_of}
use Rattle.tree_core.specs.Tree.{Tree, Const, Leaf, One, Two, Mux, value_of}
use Rattle.cond_lang.specs.Meaning.{leaves, nought, is_known, value_in}
use Rattle.cond_lang.specs.Strict.{on_one, on_two, on_three, strict_value}

all_append : {A : Type 0} (p : A → Bool) (xs ys : List A) → list_all p (xs ++ ys) ≡ (list_all p xs && list_all p ys)
all_append p [] ys = refl
all_append p (x ∷ xs) ys = by (p x) (all_append p xs ys)
  where
    by : (b : Bool) → list_all p (xs ++ ys) ≡ (list_all p xs && list_all p ys) → (b && list_all p (xs ++ ys)) ≡ ((b && list_all p xs) && list_all p ys)
    by true e = e
    by false e = refl

one_known : (k : Bool) (x : Bits) (f : Bits → Bits) → on_one f (if k then Some x else None) ≡ (if k then Some (f x) else None)
one_known true x f = refl
one_known false x f = refl

two_known : (j k : Bool) (x y : Bits) (f : Bits → Bits → Bits) → on_two f (if j then Some x else None) (if k then Some y else None) ≡ (if j && k then Some (f x y) else None)
two_known true true x y f = refl
two_known true false x y f = refl
two_known false k x y f = refl

three_known : (h j k : Bool) (w x y : Bits) (f : Bits → Bits → Bits → Bits) → on_three f (if h then Some w else None) (if j then Some x else None) (if k then Some y else None) ≡ (if h && (j && k) then Some (f w x y) else None)
three_known true true true w x y f = refl
three_known true true false w x y f = refl
three_known true false k w x y f = refl
three_known false j k w x y f = refl

leaf_known : (o : Option Bits) → o ≡ (if is_some o && true then Some (unwrap_or o nought) else None)
leaf_known (Some b) = refl
leaf_known None = refl

pub strict_is : {A : Type 0} (shown : A → Option Bits) (t : Tree A) → strict_value shown t ≡ value_in shown t
strict_is shown (Const b) = refl
strict_is shown (Leaf x) = leaf_known (shown x)
strict_is shown (One o a) = rw (strict_is shown a) (one_known (list_all (is_known shown) (leaves a)) (value_of (λ x. unwrap_or (shown x) nought) a) (apply1_of o))
strict_is shown (Two o a b) = rw (strict_is shown a, strict_is shown b, all_append (is_known shown) (leaves a) (leaves b)) (two_known (list_all (is_known shown) (leaves a)) (list_all (is_known shown) (leaves b)) (value_of (λ x. unwrap_or (shown x) nought) a) (value_of (λ x. unwrap_or (shown x) nought) b) (apply2_of o))
strict_is shown (Mux c a b) = rw (strict_is shown c, strict_is shown a, strict_is shown b, all_append (is_known shown) (leaves c) (leaves a ++ leaves b), all_append (is_known shown) (leaves a) (leaves b)) (three_known (list_all (is_known shown) (leaves c)) (list_all (is_known shown) (leaves a)) (list_all (is_known shown) (leaves b)) (value_of (λ x. unwrap_or (shown x) nought) c) (value_of (λ x. unwrap_or (shown x) nought) a) (value_of (λ x. unwrap_or (shown x) nought) b) choose_of)
