-- The sample is sound.
use Rattle.std.proofs.Common.{◌≡◌, ℕ, zero, suc, ◌+◌, ◌<◌, ◌≤◌, ◌==◌, Bool, true, false, not, ◌&&◌, List, [], ◌∷◌, length, Some, None, codes, inl, refl, sym, ap, ◌∙◌, subst, arith, true≢false, eq-eqb}
use Rattle.std.specs.Prelude.{slice_get}
use Rattle.std.specs.List.{list_any}
use Rattle.std.proofs.lemmas.Option.{none-some, same_Some}
use Rattle.std.proofs.lemmas.Bool.{or_parts}
use Rattle.tree_core.proofs.Same.{both_true}
use Rattle.gen_token.specs.Spelling.{is_name, IsName}
use Rattle.gen_token.proofs.ReadName.{name_from_test}
use Rattle.list_core.specs.Lists.{IsNotIn, AreApart}
use Rattle.design_core.specs.declared.design.Instance.{Instance}
use Rattle.design_core.specs.WellFormed.{tree, HasParent, AreChildren, children_at, standing, IsMember, IsVariant, IsDesign}
use Rattle.design_exec.specs.Sample.{top, child, elaborated}
use Rattle.check_core.specs.Verdict.{verdict}
use Rattle.check_exec.specs.Sample.{SampleIsSound}

named_top : IsName (codes "Top")
unfolding is_name
named_top = name_from_test (codes "Top") refl

named_child : IsName (codes "Child")
unfolding is_name
named_child = name_from_test (codes "Child") refl

name_x : IsName (codes "x")
unfolding is_name
name_x = name_from_test (codes "x") refl

name_y : IsName (codes "y")
unfolding is_name
name_y = name_from_test (codes "y") refl

name_a : IsName (codes "a")
unfolding is_name
name_a = name_from_test (codes "a") refl

name_q : IsName (codes "q")
unfolding is_name
name_q = name_from_test (codes "q") refl

name_u : IsName (codes "u")
unfolding is_name
name_u = name_from_test (codes "u") refl

member_u : IsMember (codes "u")
member_u = (codes "u", (name_u, inl refl))

top_is : IsVariant elaborated.variants top
top_is = record {
  children = (omega arith, tt);
  outputs = refl;
  in_turn = refl;
  params = tt;
  few_params = omega arith;
  gens = (tt, (tt, (tt, tt)));
  few_gens = (omega arith, (omega arith, (omega arith, tt)));
  few_names = (omega arith, (omega arith, tt));
  named = named_top;
  ports = (name_x, (name_y, (tt, (tt, tt))));
  names = (∣ member_u ∣₁, tt);
  signal_lines = (omega arith, (omega arith, (omega arith, (omega arith, tt))));
  child_lines = ((omega arith, (omega arith, tt)), tt);
  block_lines = (omega arith, (omega arith, tt));
  lines = (omega arith, (omega arith, (omega arith, tt)));
}

child_is : IsVariant elaborated.variants child
child_is = record {
  children = tt;
  outputs = refl;
  in_turn = refl;
  params = tt;
  few_params = omega arith;
  gens = (tt, (tt, (tt, (tt, tt))));
  few_gens = (omega arith, (omega arith, (omega arith, (omega arith, tt))));
  few_names = (omega arith, tt);
  named = named_child;
  ports = (name_a, (name_q, tt));
  names = tt;
  signal_lines = (omega arith, (omega arith, tt));
  child_lines = tt;
  block_lines = (omega arith, tt);
  lines = (omega arith, (omega arith, (omega arith, (omega arith, tt))));
}

-- ---- instances

each_instance : (P : ℕ → Instance → Type 0) → ((r : Instance) → slice_get elaborated.instances 0 ≡ Some r → P 0 r) → ((r : Instance) → slice_get elaborated.instances 1 ≡ Some r → P 1 r)
    → (n : ℕ) (r : Instance) → slice_get elaborated.instances n ≡ Some r → P n r
each_instance P a b zero r e = a r e
each_instance P a b (suc zero) r e = b r e
each_instance P a b (suc (suc n)) r e = absurd (none-some r e)

parents : (n : ℕ) (r : Instance) → slice_get elaborated.instances n ≡ Some r → 1 ≤ n → HasParent n r
parents = each_instance (λ n r. 1 ≤ n → HasParent n r) (λ r e low. absurd (omega (arith, low))) (λ r e low. subst (HasParent 1) (same_Some _ r e) (omega arith))

variants : (n : ℕ) (r : Instance) → slice_get elaborated.instances n ≡ Some r → r.variant < 2
variants = each_instance (λ n r. r.variant < 2) (λ r e. subst (λ (q : Instance). q.variant < 2) (same_Some _ r e) (omega arith)) (λ r e. subst (λ (q : Instance). q.variant < 2) (same_Some _ r e) (omega arith))

has_instance : (v : ℕ) → v < 2 → list_any (λ r. r.variant == v) elaborated.instances ≡ true
has_instance zero h = refl
has_instance (suc zero) h = refl
has_instance (suc (suc v)) h = absurd (omega (arith, h))

abbrev ChildrenAre : ℕ → Instance → Type 0
ChildrenAre n r = AreChildren n r.path (children_at r.variant elaborated.variants) (standing n 0 elaborated.instances)

children : (n : ℕ) (r : Instance) → slice_get elaborated.instances n ≡ Some r → ChildrenAre n r
children = each_instance ChildrenAre
    (λ r e. subst (ChildrenAre 0) (same_Some _ r e) (record { behind = omega arith; variant = refl; named = refl }, tt))
    (λ r e. subst (ChildrenAre 1) (same_Some _ r e) tt)

-- ---- numbers that differ

abbrev differ : List ℕ → Bool
differ [] = true
differ (n ∷ ns) = not (list_any (λ m. m == n) ns) && differ ns

other : (n m : ℕ) → (m == n) ≡ false → m ≡ n → ⊥
other n m f e = true≢false (sym (eq-eqb m n e) ∙ f)

not_among : (n : ℕ) (ns : List ℕ) → list_any (λ m. m == n) ns ≡ false → IsNotIn n ns
not_among n [] e = tt
not_among n (m ∷ ns) e = let both = or_parts (m == n) (list_any (λ k. k == n) ns) e in (other n m both.0, not_among n ns both.1)

not_true : (b : Bool) → not b ≡ true → b ≡ false
not_true true e = absurd (true≢false (sym e))
not_true false e = refl

numbers_apart : (ns : List ℕ) → differ ns ≡ true → AreApart ns
numbers_apart [] e = tt
numbers_apart (n ∷ ns) e =
    let both = both_true (not (list_any (λ m. m == n) ns)) (differ ns) e in
    (not_among n ns (not_true (list_any (λ m. m == n) ns) both.0), numbers_apart ns both.1)

-- ---- the design

no_prefix : codes "Top.u" ≡ codes "Top" → ⊥
no_prefix e = absurd (omega (arith, ap (λ (l : List ℕ). length l) e))

in_preorder : elaborated.instances ≡ tree 33 elaborated.variants elaborated.top None 0 0
unfolding tree
in_preorder = refl

is_design : IsDesign elaborated
is_design = record {
  top = refl;
  top_module = refl;
  parents = λ i r e. parents (i + 1) r e (omega arith);
  variants = variants;
  instances = has_instance;
  children = children;
  preorder = in_preorder;
  paths = λ h. ((no_prefix, tt), (tt, tt));
  each = (top_is, (child_is, tt));
  apart = numbers_apart (4 ∷ 5 ∷ 6 ∷ 0 ∷ 1 ∷ 2 ∷ 3 ∷ []) refl;
  below = (omega arith, (omega arith, (omega arith, (omega arith, (omega arith, (omega arith, (omega arith, tt)))))));
  few = omega arith;
  statements = omega arith;
  registers = omega arith;
  all_statements = omega arith;
  all_signals = omega arith;
  all_cells = omega arith;
  all_parts = omega arith;
}

accepted : verdict elaborated ≡ None
accepted = refl

pub sample_is_sound : SampleIsSound
sample_is_sound = record { kept = is_design; accepted = accepted }
