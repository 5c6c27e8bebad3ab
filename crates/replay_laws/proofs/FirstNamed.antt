-- The first variable of a node's name is the node's.
use Rattle.std.proofs.Common.{◌≡◌, ℕ, zero, suc, ◌+◌, ◌<◌, false, List, [], ◌∷◌, ◌++◌, map, get_or, Some, refl, sym, ap, ap₂, ◌∙◌, arith}
use Rattle.std.specs.Prelude.{slice_get, bytes_eq}
use Rattle.std.specs.List.{find, IsDistinct, AllByRecursion}
use Rattle.std.proofs.lemmas.Option.{none-some, same_Some}
use Rattle.std.proofs.lemmas.Slice.Eq.{bytes_eq-Decides}
use Rattle.list_core.specs.Lists.{from}
use Rattle.vcd_samples.specs.Samples.{is_var}
use Rattle.vcd_text.specs.Dump.{Variable}
use Rattle.vcd_text.specs.Told.{told_var, told_vars}

-- names that differ, by their places
pub apart_at : (names : List (List ℕ)) → IsDistinct bytes_eq names → (j n : ℕ) (x y : List ℕ) → j < n → slice_get names j ≡ Some x → slice_get names n ≡ Some y → bytes_eq x y ≡ false
unfolding IsDistinct
apart_at [] apart j n x y l e f = absurd (none-some x e)
apart_at (name ∷ names) apart j zero x y l e f = absurd (omega arith)
apart_at (name ∷ names) apart zero (suc n) x y l e f = ap (λ (z : List ℕ). bytes_eq z y) (sym (same_Some name x e)) ∙ others names apart.0 n f
  where
    others : (rest : List (List ℕ)) → AllByRecursion (λ z. bytes_eq name z ≡ false) rest → (k : ℕ) → slice_get rest k ≡ Some y → bytes_eq name y ≡ false
    others [] all k g = absurd (none-some y g)
    others (z ∷ rest) all zero g = ap (bytes_eq name) (sym (same_Some z y g)) ∙ all.0
    others (z ∷ rest) all (suc k) g = others rest all.1 k g
apart_at (name ∷ names) apart (suc j) (suc n) x y l e f = apart_at names apart.1 j n x y (omega arith) e f

-- a variable is found where none before it has its name
pub first_named : (scope : List ℕ) (number : ℕ) (vars : List Variable) (k : ℕ) (var : Variable) → slice_get vars k ≡ Some var
    → ((j : ℕ) (v : Variable) → j < k → slice_get vars j ≡ Some v → bytes_eq v.name var.name ≡ false) → find (is_var scope var.name) (told_vars scope number vars) ≡ Some (told_var scope (number + k) var)
first_named scope number [] k var e before = absurd (none-some var e)
first_named scope number (v ∷ vars) zero var e before =
    ap (λ (x : Variable). find (is_var scope x.name) (told_var scope number v ∷ told_vars scope (number + 1) vars)) (sym (same_Some v var e))
    ∙ rw ((bytes_eq-Decides scope scope).1 refl, (bytes_eq-Decides v.name v.name).1 refl) refl
    ∙ ap₂ (λ (n : ℕ) (x : Variable). Some (told_var scope n x)) (let z : number ≡ number + 0 = omega arith in z) (same_Some v var e)
first_named scope number (v ∷ vars) (suc k) var e before =
    rw ((bytes_eq-Decides scope scope).1 refl, before 0 v (omega arith) refl) refl
    ∙ first_named scope (number + 1) vars k var e (λ j w l f. before (suc j) w (omega arith) f)
    ∙ ap (λ (n : ℕ). Some (told_var scope n var)) (let z : number + 1 + k ≡ number + suc k = omega arith in z)

-- what stands at a number
pub front_at : {A : Type 0} (f : ℕ → A) (a n k : ℕ) (rest : List A) → k < n → slice_get (map f (from a n) ++ rest) k ≡ Some (f (a + k))
front_at f a zero k rest l = absurd (omega arith)
front_at f a (suc n) zero rest l = ap (λ i. Some (f i)) (let z : a ≡ a + 0 = omega arith in z)
front_at f a (suc n) (suc k) rest l = front_at f (a + 1) n k rest (omega arith) ∙ ap (λ i. Some (f i)) (let z : a + 1 + k ≡ a + suc k = omega arith in z)

pub number_at : {A : Type 0} (f : ℕ → A) (a n k : ℕ) (d : A) → k < n → get_or (map f (from a n)) k d ≡ f (a + k)
number_at f a zero k d l = absurd (omega arith)
number_at f a (suc n) zero d l = ap f (let z : a ≡ a + 0 = omega arith in z)
number_at f a (suc n) (suc k) d l = number_at f (a + 1) n k d (omega arith) ∙ ap f (let z : a + 1 + k ≡ a + suc k = omega arith in z)
