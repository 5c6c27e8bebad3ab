-- The children of an instance stand where the definition looks for them.
use Rattle.std.proofs.Common.{◌≡◌, ℕ, zero, suc, ◌+◌, Bool, true, false, List, [], ◌∷◌, ◌++◌, map, Option, Some, None, option_map, if◌then◌else◌, true≢false, add-zero, refl, sym, ap, ◌∙◌, subst, arith, eqb-true}
use Rattle.std.specs.List.{slice_get, enumerate_from, flat_map}
use Rattle.std.proofs.lemmas.Option.{none-some, same_Some, slice_get-map}
use Rattle.exec_core.specs.Block.{Name}
use Rattle.design_core.specs.declared.design.Instance.{Instance}
use Rattle.design_core.specs.Design.{Child}
use Rattle.design_core.specs.WellFormed.{stands_in, standing, IsChild, AreChildren}
use Rattle.design_exec.specs.Processes as processes
use Rattle.design_exec.specs.Processes.{children_in, child_at, kept_below}
use Rattle.design_exec.specs.Standing.{ChildrenStand}

same_test : (i : ℕ) (o : Option ℕ) → processes.stands_in i o ≡ stands_in i o
same_test i None = refl
same_test i (Some p) = refl

-- the numbers of those that stand in an instance
same_numbers : (i n : ℕ) (list : List Instance) → flat_map (kept_below i) (enumerate_from n list) ≡ map (λ s. s.0) (standing i n list)
same_numbers i n [] = refl
same_numbers i n (r ∷ list) =
    ap (λ (l : List ℕ). (if processes.stands_in i r.parent then n ∷ [] else []) ++ l) (same_numbers i (n + 1) list)
    ∙ ap (λ b. (if b then n ∷ [] else []) ++ map (λ s. s.0) (standing i (n + 1) list)) (same_test i r.parent)
    ∙ by_test (stands_in i r.parent)
  where
    by_test : (b : Bool) → (if b then n ∷ [] else []) ++ map (λ s. s.0) (standing i (n + 1) list) ≡ map (λ s. s.0) (if b then (n, r) ∷ standing i (n + 1) list else standing i (n + 1) list)
    by_test true = refl
    by_test false = refl

-- one of them, with its number
record StandsAt (i n : ℕ) (list : List Instance) (s : ℕ × Instance) : Type 0 where
  pub place : ℕ
  pub number : s.0 ≡ n + place
  pub stands : slice_get list place ≡ Some s.1
  pub inside : stands_in i s.1.parent ≡ true

later_at : (i n : ℕ) (r : Instance) (list : List Instance) (s : ℕ × Instance) → StandsAt i (n + 1) list s → StandsAt i n (r ∷ list) s
later_at i n r list s h = record { place = suc h.place; number = omega (arith, h.number); stands = h.stands; inside = h.inside }

one_stands : (i n : ℕ) (list : List Instance) (k : ℕ) (s : ℕ × Instance) → slice_get (standing i n list) k ≡ Some s → StandsAt i n list s
one_stands i n [] k s e = absurd (none-some s e)
one_stands i n (r ∷ list) k s e = by_test (stands_in i r.parent) refl k e (λ j g. later_at i n r list s (one_stands i (n + 1) list j s g))
  where
    by_test : (b : Bool) → stands_in i r.parent ≡ b → (k : ℕ) → slice_get (if b then (n, r) ∷ standing i (n + 1) list else standing i (n + 1) list) k ≡ Some s
        → ((j : ℕ) → slice_get (standing i (n + 1) list) j ≡ Some s → StandsAt i n (r ∷ list) s) → StandsAt i n (r ∷ list) s
    by_test true t zero e f =
        let same = same_Some (n, r) s e in
        record {
          place = zero;
          number = ap (λ (p : ℕ × Instance). p.0) (sym same) ∙ sym (add-zero n);
          stands = ap (λ (p : ℕ × Instance). Some p.1) same;
          inside = ap (λ (p : ℕ × Instance). stands_in i p.1.parent) (sym same) ∙ t;
        }
    by_test true t (suc k) e f = f k e
    by_test false t k e f = f k e

-- the k-th of them is the k-th child
one_child : (i : ℕ) (path : Name) (children : List Child) (list : List (ℕ × Instance)) (k : ℕ) (c : Child) → AreChildren i path children list → slice_get children k ≡ Some c
    → (s : ℕ × Instance) × ((slice_get list k ≡ Some s) × IsChild i path c s)
one_child i path [] list k c h e = absurd (none-some c e)
one_child i path (d ∷ children) [] k c h e = absurd h
one_child i path (d ∷ children) (s ∷ list) zero c h e = (s, (refl, subst (λ x. IsChild i path x s) (same_Some d c e) h.0))
one_child i path (d ∷ children) (s ∷ list) (suc k) c h e = one_child i path children list k c h.1 e

its_parent : (i : ℕ) (o : Option ℕ) → stands_in i o ≡ true → o ≡ Some i
its_parent i None h = absurd (true≢false (sym h))
its_parent i (Some p) h = ap (λ n. Some n) (eqb-true p i h)

pub children_stand : ChildrenStand
children_stand d kept i r k c at is =
    let found = one_child i r.path (children_in d r.variant) (standing i 0 d.instances) k c (kept.children i r at) is in
    let s = found.0 in
    let here = one_stands i 0 d.instances k s found.1.0 in
    let number : s.0 ≡ here.place = omega (arith, here.number) in
    record {
      number = s.0;
      is = ap (λ (l : List ℕ). slice_get l k) (same_numbers i 0 d.instances) ∙ slice_get-map (λ (p : ℕ × Instance). p.0) (standing i 0 d.instances) k ∙ ap (option_map (λ (p : ℕ × Instance). p.0)) found.1.0;
      instance = s.1;
      stands = ap (slice_get d.instances) number ∙ here.stands;
      child = found.1.1;
      parent = its_parent i s.1.parent here.inside;
    }
