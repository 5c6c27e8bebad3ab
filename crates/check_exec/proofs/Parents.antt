-- The parent of an instance, and its place among the children there.
use Rattle.std.proofs.Common.{◌≡◌, ℕ, zero, suc, ◌+◌, ◌<◌, ◌≤◌, ◌==◌, Bool, true, false, List, [], ◌∷◌, ◌++◌, length, Option, Some, None, refl, ap, ◌∙◌, subst, if◌then◌else◌, arith, eq-eqb}
use Rattle.std.specs.Prelude.{slice_get, IsSomeAnd}
use Rattle.std.specs.List.{enumerate_from, flat_map}
use Rattle.std.proofs.lemmas.Option.{none-some, same_Some, slice_get_within}
use Rattle.exec_core.specs.Block.{Name}
use Rattle.design_core.specs.declared.design.Instance.{Instance}
use Rattle.design_core.specs.Design.{Child, Variant, Design}
use Rattle.design_core.specs.WellFormed as formed
use Rattle.design_core.specs.WellFormed.{IsDesign, AreChildren, standing}
use Rattle.design_exec.specs.Processes.{stands_in, kept_below, numbers_below, children_in, child_at}
use Rattle.check_exec.proofs.Instances.{Stands}
use Rattle.check_exec.proofs.Children.{children_are}
use Rattle.list_core.proofs.Listing.{some_at}

-- ---- numbers of the instances that stand in one

-- they are as many as the children
same_length : (j n : ℕ) (list : List Instance) → length (flat_map (kept_below j) (enumerate_from n list)) ≡ length (standing j n list)
same_length j n [] = refl
same_length j n (r ∷ list) = by_parent r.parent (same_length j (n + 1) list)
  where
    by_test : (b : Bool) → length (flat_map (kept_below j) (enumerate_from (n + 1) list)) ≡ length (standing j (n + 1) list)
        → length ((if b then n ∷ [] else []) ++ flat_map (kept_below j) (enumerate_from (n + 1) list)) ≡ length (if b then (n, r) ∷ standing j (n + 1) list else standing j (n + 1) list)
    by_test true h = ap (λ m. suc m) h
    by_test false h = h

    by_parent : (o : Option ℕ) → length (flat_map (kept_below j) (enumerate_from (n + 1) list)) ≡ length (standing j (n + 1) list)
        → length ((if stands_in j o then n ∷ [] else []) ++ flat_map (kept_below j) (enumerate_from (n + 1) list)) ≡ length (if formed.stands_in j o then (n, r) ∷ standing j (n + 1) list else standing j (n + 1) list)
    by_parent None h = by_test false h
    by_parent (Some parent) h = by_test (parent == j) h

as_many : (i : ℕ) (path : Name) (children : List Child) (list : List (ℕ × Instance)) → AreChildren i path children list → length list ≡ length children
as_many i path [] [] h = refl
as_many i path [] (r ∷ list) h = absurd h
as_many i path (c ∷ children) [] h = absurd h
as_many i path (c ∷ children) (r ∷ list) h = ap (λ m. suc m) (as_many i path children list h.1)

-- each of them once
at_least : (j n : ℕ) (list : List Instance) (k a : ℕ) → slice_get (flat_map (kept_below j) (enumerate_from n list)) k ≡ Some a → n ≤ a
at_least j n [] k a e = absurd (none-some a e)
at_least j n (r ∷ list) k a e = by_test (stands_in j r.parent) k e (λ m h. omega (arith, at_least j (n + 1) list m a h))
  where
    by_test : (b : Bool) (k : ℕ) → slice_get ((if b then n ∷ [] else []) ++ flat_map (kept_below j) (enumerate_from (n + 1) list)) k ≡ Some a
        → ((m : ℕ) → slice_get (flat_map (kept_below j) (enumerate_from (n + 1) list)) m ≡ Some a → n ≤ a) → n ≤ a
    by_test true zero e rest = omega (arith, same_Some n a e)
    by_test true (suc k) e rest = rest k e
    by_test false k e rest = rest k e

pub once : (j n : ℕ) (list : List Instance) (k m a : ℕ) → slice_get (flat_map (kept_below j) (enumerate_from n list)) k ≡ Some a → slice_get (flat_map (kept_below j) (enumerate_from n list)) m ≡ Some a → k ≡ m
once j n [] k m a e f = absurd (none-some a e)
once j n (r ∷ list) k m a e f = by_test (stands_in j r.parent) k m e f (λ p q g h. once j (n + 1) list p q a g h)
  where
    by_test : (b : Bool) (k m : ℕ) → slice_get ((if b then n ∷ [] else []) ++ flat_map (kept_below j) (enumerate_from (n + 1) list)) k ≡ Some a
        → slice_get ((if b then n ∷ [] else []) ++ flat_map (kept_below j) (enumerate_from (n + 1) list)) m ≡ Some a
        → ((p q : ℕ) → slice_get (flat_map (kept_below j) (enumerate_from (n + 1) list)) p ≡ Some a → slice_get (flat_map (kept_below j) (enumerate_from (n + 1) list)) q ≡ Some a → p ≡ q) → k ≡ m
    by_test true zero zero e f rest = refl
    by_test true zero (suc m) e f rest = absurd (omega (arith, same_Some n a e, at_least j (n + 1) list m a f))
    by_test true (suc k) zero e f rest = absurd (omega (arith, same_Some n a f, at_least j (n + 1) list k a e))
    by_test true (suc k) (suc m) e f rest = ap (λ p. suc p) (rest k m e f)
    by_test false k m e f rest = rest k m e f

-- and an instance that stands there is among them
found_below : (j n : ℕ) (list : List Instance) (i : ℕ) (r : Instance) → slice_get list i ≡ Some r → r.parent ≡ Some j → (k : ℕ) × (slice_get (flat_map (kept_below j) (enumerate_from n list)) k ≡ Some (n + i))
found_below j n [] i r e p = absurd (none-some r e)
found_below j n (q ∷ list) zero r e p =
    (zero, ap (λ b. slice_get ((if b then n ∷ [] else []) ++ flat_map (kept_below j) (enumerate_from (n + 1) list)) zero) stands ∙ ap (λ m. Some m) (last n))
  where
    stands : stands_in j q.parent ≡ true
    stands = ap (λ (z : Instance). stands_in j z.parent) (same_Some q r e) ∙ ap (stands_in j) p ∙ eq-eqb j j refl

    last : (n : ℕ) → n ≡ n + 0
    last n = omega arith
found_below j n (q ∷ list) (suc i) r e p = by_test (stands_in j q.parent) (found_below j (n + 1) list i r e p)
  where
    further : (n i : ℕ) → n + 1 + i ≡ n + suc i
    further n i = omega arith

    by_test : (b : Bool) → (k : ℕ) × (slice_get (flat_map (kept_below j) (enumerate_from (n + 1) list)) k ≡ Some (n + 1 + i))
        → (k : ℕ) × (slice_get ((if b then n ∷ [] else []) ++ flat_map (kept_below j) (enumerate_from (n + 1) list)) k ≡ Some (n + suc i))
    by_test true h = (suc h.0, h.1 ∙ ap (λ m. Some m) (further n i))
    by_test false h = (h.0, h.1 ∙ ap (λ m. Some m) (further n i))

-- ---- the parent

-- an instance is that of a child of another
pub record IsBelow (d : Design) (i : ℕ) (r : Instance) : Type 0 where
  pub parent : ℕ
  pub up : r.parent ≡ Some parent
  pub instance : Instance
  pub variant : Variant
  pub stands : Stands d parent instance variant
  pub place : ℕ
  pub child : Child
  pub at : slice_get variant.children place ≡ Some child
  pub is : child_at d parent place ≡ Some i

some_parent : (o : Option ℕ) (i : ℕ) → IsSomeAnd o (λ parent. parent < i) → (j : ℕ) × ((o ≡ Some j) × (j < i))
some_parent None i h = absurd h
some_parent (Some j) i h = (j, (refl, h))

pub is_below : (d : Design) → IsDesign d → (i : ℕ) (r : Instance) → slice_get d.instances (i + 1) ≡ Some r → IsBelow d (i + 1) r
is_below d kept i r at =
    let over = some_parent r.parent (i + 1) (kept.parents i r at) in
    let j = over.0 in
    let low : j < length d.instances = omega (arith, (over.1).1, slice_get_within d.instances (i + 1) r at) in
    let instance = some_at d.instances j low in
    let variant = some_at d.variants instance.0.variant (kept.variants j instance.0 instance.1) in
    let stands : Stands d j instance.0 variant.0 = record { instance = instance.1; variant = variant.1 } in
    let found = found_below j 0 d.instances (i + 1) r at (over.1).0 in
    let number : child_at d j found.0 ≡ Some (i + 1) = found.1 ∙ ap (λ m. Some m) (no_more (i + 1)) in
    let many : length (numbers_below d j) ≡ length variant.0.children =
    same_length j 0 d.instances ∙ as_many j instance.0.path (children_in d instance.0.variant) (standing j 0 d.instances) (kept.children j instance.0 instance.1)
    ∙ ap (λ (l : List Child). length l) (children_are d j instance.0 variant.0 stands) in
    let child = some_at variant.0.children found.0 (subst (λ m. found.0 < m) many (slice_get_within (numbers_below d j) found.0 (i + 1) number)) in
    record { parent = j; up = (over.1).0; instance = instance.0; variant = variant.0; stands = stands; place = found.0; child = child.0; at = child.1; is = number }
  where
    no_more : (n : ℕ) → 0 + n ≡ n
    no_more n = omega arith
