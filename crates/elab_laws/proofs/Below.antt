-- The instances that stand in an instance are the children of its variant.
use Rattle.std.proofs.Common.{◌≡◌, ℕ, suc, ◌+◌, ◌<◌, ◌≤◌, ◌==◌, Bool, true, false, List, [], ◌∷◌, ◌++◌, map, length, length-append, append-nil, add-zero, Option, Some, if◌then◌else◌, codes, ◌⊎◌, inl, inr, refl, sym, ap, ap₂, ◌∙◌, subst, arith, ne_eqb, eq-eqb}
use Rattle.std.proofs.lemmas.List.{length-map, map-append}
use Rattle.design_core.specs.declared.Instance.{Instance as Placed}
use Rattle.exec_core.specs.Block.{Name}
use Rattle.design_core.specs.Design as design
use Rattle.design_core.specs.Design.{Gens, Variant}
use Rattle.design_core.specs.WellFormed.{children_at, stands_in, standing, AreChildren, HasParent}
use Rattle.elab_core.specs.Elaborated.{Child, Instance}
use Rattle.elab_core.specs.Design.{variant_of, child_in, instance_in}
use Rattle.elab_laws.proofs.Shapes.{IsTree, a_tree, AreTrees, no_trees, one_behind}
use Rattle.gen_tree.specs.Tree.{Module}
use Rattle.elab_laws.proofs.Preorder.{EachHas, has_first, the_variants}

-- ---- instances with numbers from one on

-- a fact of each of them
abbrev pub EachFrom : (ℕ → Placed → Type 0) → ℕ → List Placed → Type 0
EachFrom P n [] = Unit {0}
EachFrom P n (r ∷ rest) = P n r × EachFrom P (n + 1) rest

further : (n k : ℕ) → n + 1 + k ≡ n + suc k
further n k = omega arith

pub each_append : (P : ℕ → Placed → Type 0) (n : ℕ) (first second : List Placed) → EachFrom P n first → EachFrom P (n + length first) second → EachFrom P n (first ++ second)
each_append P n [] second h g = subst (λ m. EachFrom P m second) (add-zero n) g
each_append P n (r ∷ first) second h g = (h.0, each_append P (n + 1) first second h.1 (subst (λ m. EachFrom P m second) (sym (further n (length first))) g))

pub each_as : (P Q : ℕ → Placed → Type 0) (n : ℕ) (list : List Placed) → ((k : ℕ) (r : Placed) → n ≤ k → k < n + length list → P k r → Q k r) → EachFrom P n list → EachFrom Q n list
each_as P Q n [] f h = tt
each_as P Q n (r ∷ list) f h =
    (f n r (omega arith) (omega arith) h.0, each_as P Q (n + 1) list (λ k s l m p. f k s (omega (arith, l)) (omega (arith, m)) p) h.1)

standing_append : (i n : ℕ) (first second : List Placed) → standing i n (first ++ second) ≡ standing i n first ++ standing i (n + length first) second
standing_append i n [] second = ap (λ m. standing i m second) (sym (add-zero n))
standing_append i n (r ∷ first) second =
    ap (λ (l : List (ℕ × Placed)). if stands_in i r.parent then (n, r) ∷ l else l) (standing_append i (n + 1) first second ∙ ap (λ m. standing i (n + 1) first ++ standing i m second) (further n (length first)))
    ∙ by_test (stands_in i r.parent) (standing i (n + 1) first) (standing i (n + length (r ∷ first)) second)
  where
    by_test : (b : Bool) (l m : List (ℕ × Placed)) → (if b then (n, r) ∷ (l ++ m) else (l ++ m)) ≡ (if b then (n, r) ∷ l else l) ++ m
    by_test true l m = refl
    by_test false l m = refl

children_append : (i : ℕ) (path : Name) (cs ds : List design.Child) (rs ss : List (ℕ × Placed)) → AreChildren i path cs rs → AreChildren i path ds ss → AreChildren i path (cs ++ ds) (rs ++ ss)
children_append i path [] ds [] ss h g = g
children_append i path [] ds (r ∷ rs) ss h g = absurd h
children_append i path (c ∷ cs) ds [] ss h g = absurd h
children_append i path (c ∷ cs) ds (r ∷ rs) ss h g = (h.0, children_append i path cs ds rs ss h.1 g)

-- ---- a tree

-- a number outside a range
abbrev pub Outside : ℕ → ℕ → ℕ → Type 0
Outside i n long = (i < n) ⊎ (n + long ≤ i)

-- its children are there
abbrev pub HasChildren : List Variant → ℕ → List Placed → ℕ → Placed → Type 0
HasChildren variants n list i r = AreChildren i r.path (children_at r.variant variants) (standing i n list)

abbrev pub one : Name → ℕ → Option ℕ → Placed
one path v parent = record { path = path; variant = v; parent = parent }

-- an instance at a number, with those below it
pub record TreeOk (variants : List Variant) (path : Name) (parent : Option ℕ) (v at : ℕ) (list : List Placed) : Type 0 where
  pub under : List Placed
  pub is : list ≡ one path v parent ∷ under
  pub outside : (i : ℕ) → (i == at) ≡ false → Outside i (at + 1) (length under) → standing i (at + 1) under ≡ []
  pub each : EachFrom (HasChildren variants at list) at list
  pub parents : EachFrom HasParent (at + 1) under

-- those below an instance at a number
pub record TreesOk (variants : List Variant) (path : Name) (at : ℕ) (children : List design.Child) (under : List Placed) : Type 0 where
  pub mine : AreChildren at path children (standing at (at + 1) under)
  pub outside : (i : ℕ) → (i == at) ≡ false → Outside i (at + 1) (length under) → standing i (at + 1) under ≡ []
  pub each : EachFrom (HasChildren variants (at + 1) under) (at + 1) under
  pub parents : EachFrom HasParent (at + 1) under

-- nothing at a number or behind it is what this stands in
abbrev pub Before : Option ℕ → ℕ → Type 0
Before parent at = (i : ℕ) → at ≤ i → stands_in i parent ≡ false

root_ok : (variants : List Variant) (path : Name) (parent : Option ℕ) (v at : ℕ) (under : List Placed) → Before parent at → TreesOk variants path at (children_at v variants) under
    → TreeOk variants path parent v at (one path v parent ∷ under)
root_ok variants path parent v at under before ok = record {
  under = under;
  is = refl;
  outside = ok.outside;
  each = (
    subst (AreChildren at path (children_at v variants)) (sym (not_first at (before at (omega arith)))) ok.mine,
    each_as (HasChildren variants (at + 1) under) (HasChildren variants at (one path v parent ∷ under)) (at + 1) under
        (λ k r l m p. subst (AreChildren k r.path (children_at r.variant variants)) (sym (not_first k (before k (omega (arith, l))))) p) ok.each,
  );
  parents = ok.parents;
}
  where
    not_first : (i : ℕ) → stands_in i parent ≡ false → standing i at (one path v parent ∷ under) ≡ standing i (at + 1) under
    not_first i e = ap (λ b. if b then (at, one path v parent) ∷ standing i (at + 1) under else standing i (at + 1) under) e

empty_ok : (variants : List Variant) (path : Name) (at : ℕ) → TreesOk variants path at [] []
empty_ok variants path at = record { mine = tt; outside = λ i e o. refl; each = tt; parents = tt }

-- one more child, with those below it, behind the others
behind_ok : (variants : List Variant) (path : Name) (at : ℕ) (children : List design.Child) (below list : List Placed) (c : design.Child)
    → TreesOk variants path at children below → TreeOk variants (path ++ (codes "." ++ c.name)) (Some at) c.variant (at + 1 + length below) list → TreesOk variants path at (children ++ c ∷ []) (below ++ list)
behind_ok variants path at children below list c ok new =
    let to = at + 1 + length below in
    let root = one (path ++ (codes "." ++ c.name)) c.variant (Some at) in
    let long : length list ≡ length new.under + 1 = ap (λ (l : List Placed). length l) new.is ∙ omega arith in
    let mine : standing at to list ≡ (to, root) ∷ [] =
    ap (standing at to) new.is ∙ ap (λ b. if b then (to, root) ∷ standing at (to + 1) new.under else standing at (to + 1) new.under) (eq-eqb at at refl)
    ∙ ap (λ (l : List (ℕ × Placed)). (to, root) ∷ l) (new.outside at (ne_eqb at to (λ e. absurd (omega (arith, e)))) (inl (omega arith))) in
    let others : (i : ℕ) → (i == at) ≡ false → Outside i to (length list) → standing i to list ≡ [] =
    λ i e o. ap (standing i to) new.is
    ∙ ap (λ b. if b then (to, root) ∷ standing i (to + 1) new.under else standing i (to + 1) new.under) (other_eq i at e)
    ∙ new.outside i (outside_ne i to (length list) (omega (arith, long)) o) (narrower i to (length list) (length new.under) long o) in
    record {
      mine =
          subst (AreChildren at path (children ++ c ∷ [])) (sym (standing_append at (at + 1) below list ∙ ap (λ (l : List (ℕ × Placed)). standing at (at + 1) below ++ l) mine))
          (children_append at path children (c ∷ []) (standing at (at + 1) below) ((to, root) ∷ []) ok.mine (record { behind = omega arith; variant = refl; named = refl }, tt));
      outside = λ i e o.
          standing_append i (at + 1) below list
          ∙ ap₂ (λ (l m : List (ℕ × Placed)). l ++ m) (ok.outside i e (shorter i (at + 1) (length (below ++ list)) (length below) (length list) (length-append below list) o))
          (others i e (later i (at + 1) (length (below ++ list)) (length below) (length list) (length-append below list) o));
      each =
          each_append (HasChildren variants (at + 1) (below ++ list)) (at + 1) below list
          (each_as (HasChildren variants (at + 1) below) (HasChildren variants (at + 1) (below ++ list)) (at + 1) below
          (λ k r l m p. subst (AreChildren k r.path (children_at r.variant variants))
          (sym (standing_append k (at + 1) below list ∙ ap (λ (s : List (ℕ × Placed)). standing k (at + 1) below ++ s) (others k (ne_eqb k at (λ e. absurd (omega (arith, e, l)))) (inl m)) ∙ append-nil _)) p) ok.each)
          (each_as (HasChildren variants to list) (HasChildren variants (at + 1) (below ++ list)) to list
          (λ k r l m p. subst (AreChildren k r.path (children_at r.variant variants))
          (sym (standing_append k (at + 1) below list ∙ ap (λ (s : List (ℕ × Placed)). s ++ standing k to list) (ok.outside k (ne_eqb k at (λ e. absurd (omega (arith, e, l)))) (inr l)))) p) new.each);
      parents =
          each_append HasParent (at + 1) below list ok.parents
          (subst (EachFrom HasParent to) (sym new.is) (omega arith, new.parents));
    }
  where
    other_eq : (i at : ℕ) → (i == at) ≡ false → (at == i) ≡ false
    other_eq i at e = grind (arith, e)

    outside_ne : (i to long : ℕ) → 0 < long → Outside i to long → (i == to) ≡ false
    outside_ne i to long some (inl l) = ne_eqb i to (λ e. absurd (omega (arith, e, l)))
    outside_ne i to long some (inr l) = ne_eqb i to (λ e. absurd (omega (arith, e, l, some)))

    narrower : (i to long under : ℕ) → long ≡ under + 1 → Outside i to long → Outside i (to + 1) under
    narrower i to long under e (inl l) = inl (omega (arith, l))
    narrower i to long under e (inr l) = inr (omega (arith, l, e))

    shorter : (i n all first second : ℕ) → all ≡ first + second → Outside i n all → Outside i n first
    shorter i n all first second e (inl l) = inl l
    shorter i n all first second e (inr l) = inr (omega (arith, l, e))

    later : (i n all first second : ℕ) → all ≡ first + second → Outside i n all → Outside i (n + first) second
    later i n all first second e (inl l) = inl (omega (arith, l))
    later i n all first second e (inr l) = inr (omega (arith, l, e))

-- ---- the tree of a walk

module _ (modules : List Module) (variants : List Instance) where
  mutual
    pub tree_ok : {room : ℕ} {path : Name} {parent : Option ℕ} {place : ℕ} {params : Gens} {at : ℕ} {list : List Instance} → IsTree room path parent place params at list → Before parent at → EachHas modules variants list
        → TreeOk (the_variants modules variants) path parent (variant_of place params variants) at (map (instance_in variants) list)
    tree_ok (a_tree room path parent place params at content below under) before h =
        root_ok (the_variants modules variants) path parent (variant_of place params variants) at (map (instance_in variants) below) before
        (subst (λ (cs : List design.Child). TreesOk (the_variants modules variants) path at cs (map (instance_in variants) below)) (sym h.0) (trees_ok under h.1))

    trees_ok : {room : ℕ} {path : Name} {at : ℕ} {children : List Child} {below : List Instance} → AreTrees room path at children below → EachHas modules variants below
        → TreesOk (the_variants modules variants) path at (map (child_in variants) children) (map (instance_in variants) below)
    trees_ok (no_trees room path at) h = empty_ok (the_variants modules variants) path at
    trees_ok (one_behind room path at children below c list under tree) h =
        let parts = has_first modules variants below list h in
        let shown = the_variants modules variants in
        let long : at + 1 + length (map (instance_in variants) below) ≡ at + 1 + length below = ap (λ n. at + 1 + n) (length-map below (instance_in variants)) in
        let new : TreeOk shown (path ++ (codes "." ++ c.name)) (Some at) (variant_of c.place c.params variants) (at + 1 + length (map (instance_in variants) below)) (map (instance_in variants) list) =
        subst (λ n. TreeOk shown (path ++ (codes "." ++ c.name)) (Some at) (variant_of c.place c.params variants) n (map (instance_in variants) list)) (sym long) (tree_ok tree (λ i l. ne_eqb at i (λ e. absurd (omega (arith, e, l)))) parts.1) in
        let made = behind_ok shown path at (map (child_in variants) children) (map (instance_in variants) below) (map (instance_in variants) list) (child_in variants c) (trees_ok under parts.0) new in
        subst (λ (cs : List design.Child). TreesOk shown path at cs (map (instance_in variants) (below ++ list))) (sym (map-append (child_in variants) children (c ∷ [])))
        (subst (TreesOk shown path at (map (child_in variants) children ++ child_in variants c ∷ [])) (sym (map-append (instance_in variants) below list)) made)
