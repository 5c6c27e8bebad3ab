-- The instances of an elaborated design are a tree in preorder.
use Rattle.std.proofs.Common.{◌≡◌, ℕ, zero, suc, ◌+◌, ◌<◌, Bool, true, false, not, cond, ◌&&◌, ◌==◌, List, [], ◌∷◌, ◌++◌, map, length, length-append, append_assoc, append-nil, add-zero, Option, Some, None, option_map, unwrap_or, Result, Ok, Err, if◌then◌else◌, nat_lt, nat_le, bytes_eq, codes, true≢false, refl, sym, ap, ap₂, ◌∙◌, subst, arith}
use Rattle.std.specs.List.{slice_get, enumerate_from, position_or_len}
use Rattle.std.specs.Ordering.{int_eq}
use Rattle.std.proofs.lemmas.Bool.{eqb-true}
use Rattle.std.proofs.lemmas.Bool.Decides.{Decides-int_eq}
use Rattle.std.proofs.lemmas.Slice.Eq.{bytes_eq-Decides}
use Rattle.std.proofs.lemmas.List.{length-map, map-append}
use Rattle.gen_tree.specs.Tree.{Module}
use Rattle.design_core.specs.declared.Instance as design_instance
use Rattle.exec_core.specs.Block.{Name}
use Rattle.design_core.specs.Design as design
use Rattle.design_core.specs.Design.{Gens, AreInRange, Variant, Design}
use Rattle.design_core.specs.WellFormed.{children_at, trees, tree, AreInPreorder}
use Rattle.elab_core.specs.Elaborated.{Child, Content, Instance}
use Rattle.elab_core.specs.Walk.{Walk, Gives, Faulty, Counted, Fault, Seen, none_seen, seen_of, one_more, limit, too_large, judge}
use Rattle.elab_core.specs.Elab.{Made, top_walk}
use Rattle.elab_core.specs.Design.{same_gens, is_of, variant_of, firsts, variants_of, child_in, numbered_variant, instance_in, designed}
use Rattle.elab_laws.proofs.Contents.{out, HasSome}
use Rattle.elab_laws.proofs.Variants.{Found, EachFound, number_in, each_found, all_grown, stays, is_its_own}
use Rattle.elab_laws.proofs.Shapes.{IsTree, a_tree, AreTrees, no_trees, one_behind, IsGiven, EachGiven, module_out, TopOk, top_ok}

abbrev OnOutcome : {A : Type 0} → (Option A → Type 0) → Result (A × Seen) Fault → Type 0
OnOutcome P (Ok p) = P (Some p.0)
OnOutcome P (Err fault) = Unit {0}

abbrev pub OnDesign : (Design → Type 0) → Result Design Fault → Type 0
OnDesign P (Ok d) = P d
OnDesign P (Err fault) = Unit {0}

-- ---- the variant that is found

pub both_parts : (a b : Bool) → a && b ≡ true → (a ≡ true) × (b ≡ true)
both_parts true b e = (refl, e)
both_parts false b e = absurd (true≢false (sym e))

pub gens_equal : (a b : Gens) → same_gens a b ≡ true → a ≡ b
gens_equal [] [] e = refl
gens_equal [] (h ∷ hs) e = absurd (true≢false (sym e))
gens_equal (g ∷ gs) [] e = absurd (true≢false (sym e))
gens_equal (g ∷ gs) (h ∷ hs) e =
    let p = both_parts (bytes_eq g.0 h.0 && int_eq g.1 h.1) (same_gens gs hs) e in
    let q = both_parts (bytes_eq g.0 h.0) (int_eq g.1 h.1) p.0 in
    ap₂ (λ x (l : Gens). x ∷ l) (ap₂ (λ (n : Name) m. (n, m)) ((bytes_eq-Decides g.0 h.0).0 q.0) ((Decides-int_eq g.1 h.1).0 q.1)) (gens_equal gs hs p.1)

abbrev children_or : Option Variant → List design.Child
children_or o = unwrap_or (option_map (λ w. w.children) o) []

-- what stands where a search ends passes the test
pub passes : {X : Type 0} (p : X → Bool) (xs : List X) → position_or_len p xs < length xs → (x : X) × ((slice_get xs (position_or_len p xs) ≡ Some x) × (p x ≡ true))
passes p [] h = absurd (omega (arith, h))
passes {X = X} p (x ∷ xs) h = by_test (p x) refl (λ l. passes p xs l) h
  where
    by_test : (b : Bool) → p x ≡ b → (position_or_len p xs < length xs → (y : X) × ((slice_get xs (position_or_len p xs) ≡ Some y) × (p y ≡ true)))
        → cond (not b) (1 + position_or_len p xs) 0 < length (x ∷ xs) → (y : X) × ((slice_get (x ∷ xs) (cond (not b) (1 + position_or_len p xs) 0) ≡ Some y) × (p y ≡ true))
    by_test true e rest h = (x, (refl, e))
    by_test false e rest h =
        let found = rest (omega (arith, h)) in
        (found.0, (ap (slice_get (x ∷ xs)) one_suc ∙ found.1.0, found.1.1))
      where
        one_suc : 1 + position_or_len p xs ≡ suc (position_or_len p xs)
        one_suc = omega arith

-- ---- instances of one module with equal parameters have one content

abbrev or_else : {A : Type 0} → A → Option A → A
or_else d None = d
or_else d (Some x) = x

some_equal : {A : Type 0} (a b : A) → Some a ≡ Some b → a ≡ b
some_equal a b e = ap (or_else a) e

both_have : {A B : Type 0} (f : A → B) (x y : B) (o : Option A) → HasSome (λ a. f a ≡ x) o → HasSome (λ a. f a ≡ y) o → x ≡ y
both_have f x y None h g = absurd h
both_have f x y (Some a) h g = sym h ∙ g

pub same_content : (modules : List Module) (i v : Instance) → IsGiven modules i → IsGiven modules v → i.place ≡ v.place → i.params ≡ v.params → v.content ≡ i.content
same_content modules i v h g place params =
    let one : h.«module» ≡ g.«module» = some_equal h.«module» g.«module» (sym h.stands ∙ ap (slice_get modules) place ∙ g.stands) in
    let P : Option Made → Type 0 = HasSome (λ made. made.content ≡ v.content) in
    let here = subst P (ap₂ (λ m p. module_out modules m p) (sym one) (sym params)) g.gives in
    both_have (λ (made : Made). made.content) v.content i.content (module_out modules h.«module» i.params) here h.gives

-- the first instances are among all
pub given_firsts : (modules : List Module) (variants list : List Instance) → EachGiven modules variants → EachGiven modules list → EachGiven modules (firsts variants list)
given_firsts modules variants [] h g = h
given_firsts modules variants (i ∷ list) h g =
    elim (nat_lt (variant_of i.place i.params variants) (length variants)) as (λ b. EachGiven modules (if b then firsts variants list else firsts (variants ++ i ∷ []) list)) [
      | true ↦ given_firsts modules variants list h g.1
      | false ↦ given_firsts modules (variants ++ i ∷ []) list (behind variants h) g.1
    ]
  where
    behind : (variants : List Instance) → EachGiven modules variants → EachGiven modules (variants ++ i ∷ [])
    behind [] h = (g.0, tt)
    behind (v ∷ variants) h = (h.0, behind variants h.1)

pub given_at : (modules : List Module) (list : List Instance) (k : ℕ) (v : Instance) → EachGiven modules list → slice_get list k ≡ Some v → IsGiven modules v
given_at modules [] k v h e = absurd (no_item v e)
  where
    no_item : {A : Type 0} (a : A) → None ≡ Some a → ⊥
    no_item {A = A} a e = let P : Option A → Type 0 = λ o. elim o [ None ↦ Unit {0} | Some x ↦ ⊥ ] in subst P e tt
given_at modules (i ∷ list) zero v h e = subst (IsGiven modules) (some_equal i v e) h.0
given_at modules (i ∷ list) (suc k) v h e = given_at modules list k v h.1 e

-- ---- the children of an instance's variant are its own

pub numbered_at : (f : ℕ × Instance → Variant) (k n : ℕ) (list : List Instance) → slice_get (map f (enumerate_from k list)) n ≡ option_map (λ v. f (k + n, v)) (slice_get list n)
numbered_at f k n [] = refl
numbered_at f k zero (v ∷ list) = ap (λ m. Some (f (m, v))) (sym (add-zero k))
numbered_at f k (suc n) (v ∷ list) = numbered_at f (k + 1) n list ∙ ap (λ m. option_map (λ w. f (m, w)) (slice_get list n)) (further k n)
  where
    further : (k n : ℕ) → k + 1 + n ≡ k + suc n
    further k n = omega arith

-- an instance is well placed where its variant has its children
abbrev pub HasItsChildren : List Module → List Instance → Instance → Type 0
HasItsChildren modules variants i = children_at (number_in variants i) (map (numbered_variant modules variants) (enumerate_from 0 variants)) ≡ map (child_in variants) i.content.children

its_children : (modules : List Module) (variants : List Instance) (i : Instance) → EachGiven modules variants → IsGiven modules i → Found variants i → HasItsChildren modules variants i
its_children modules variants i given here found =
    let first = passes (is_of i.place i.params) variants found in
    let v = first.0 in
    let test = both_parts (i.place == v.place) (same_gens i.params v.params) first.1.1 in
    let content : v.content ≡ i.content = same_content modules i v here (given_at modules variants (number_in variants i) v given first.1.0) (eqb-true i.place v.place test.0) (gens_equal i.params v.params test.1) in
    ap (λ (o : Option Variant). children_or o) (numbered_at (numbered_variant modules variants) 0 (number_in variants i) variants ∙ ap (option_map (λ w. numbered_variant modules variants (0 + number_in variants i, w))) first.1.0)
    ∙ ap (λ (c : Content). map (child_in variants) c.children) content

abbrev pub EachHas : List Module → List Instance → List Instance → Type 0
EachHas modules variants [] = Unit {0}
EachHas modules variants (i ∷ list) = HasItsChildren modules variants i × EachHas modules variants list

pub all_children : (modules : List Module) (variants list : List Instance) → EachGiven modules variants → EachGiven modules list → EachFound variants list → EachHas modules variants list
all_children modules variants [] given h found = tt
all_children modules variants (i ∷ list) given h found = (its_children modules variants i given h.0 found.0, all_children modules variants list given h.1 found.1)

pub has_first : (modules : List Module) (variants first second : List Instance) → EachHas modules variants (first ++ second) → EachHas modules variants first × EachHas modules variants second
has_first modules variants [] second h = (tt, h)
has_first modules variants (i ∷ first) second h = let rest = has_first modules variants first second h.1 in ((h.0, rest.0), rest.1)

-- ---- one child more

trees_behind : (enter : Name → Option ℕ → ℕ → ℕ → List design_instance.Instance) (path : Name) (at next : ℕ) (children : List design.Child) (c : design.Child)
    → trees enter path at next (children ++ c ∷ []) ≡ trees enter path at next children ++ enter (path ++ (codes "." ++ c.name)) (Some at) c.variant (next + length (trees enter path at next children))
trees_behind enter path at next [] c = append-nil _ ∙ ap (enter (path ++ (codes "." ++ c.name)) (Some at) c.variant) (sym (add-zero next))
trees_behind enter path at next (d ∷ children) c =
    let first = enter (path ++ (codes "." ++ d.name)) (Some at) d.variant next in
    let rest = trees enter path at (next + length first) children in
    ap (λ (l : List design_instance.Instance). first ++ l) (trees_behind enter path at (next + length first) children c)
    ∙ sym (append_assoc first rest (enter (path ++ (codes "." ++ c.name)) (Some at) c.variant (next + length first + length rest)))
    ∙ ap (λ n. (first ++ rest) ++ enter (path ++ (codes "." ++ c.name)) (Some at) c.variant n) (further (length first) (length rest) (length (first ++ rest)) (length-append first rest))
  where
    further : (a b n : ℕ) → n ≡ a + b → next + a + b ≡ next + n
    further a b n e = omega (arith, e)

-- ---- the tree

abbrev pub the_variants : List Module → List Instance → List Variant
the_variants modules variants = map (numbered_variant modules variants) (enumerate_from 0 variants)

module _ (modules : List Module) (variants : List Instance) where
  mutual
    unfolding tree

    tree_is : {room : ℕ} {path : Name} {parent : Option ℕ} {place : ℕ} {params : Gens} {at : ℕ} {list : List Instance} → IsTree room path parent place params at list → EachHas modules variants list
        → map (instance_in variants) list ≡ tree room (the_variants modules variants) path parent (variant_of place params variants) at
    tree_is (a_tree room path parent place params at content below under) h =
        ap (λ (l : List design_instance.Instance). record { path = path; variant = variant_of place params variants; parent = parent } ∷ l)
        (trees_are under h.1 ∙ ap (trees (tree room (the_variants modules variants)) path at (at + 1)) (sym h.0))

    trees_are : {room : ℕ} {path : Name} {at : ℕ} {children : List Child} {below : List Instance} → AreTrees room path at children below → EachHas modules variants below
        → map (instance_in variants) below ≡ trees (tree room (the_variants modules variants)) path at (at + 1) (map (child_in variants) children)
    trees_are (no_trees room path at) h = refl
    trees_are (one_behind room path at children below c list under one) h =
        let parts = has_first modules variants below list h in
        let first = trees_are under parts.0 in
        let made = trees (tree room (the_variants modules variants)) path at (at + 1) (map (child_in variants) children) in
        let long : length below ≡ length made = sym (length-map below (instance_in variants)) ∙ ap length first in
        map-append (instance_in variants) below list
        ∙ ap₂ (λ (l m : List design_instance.Instance). l ++ m) first
        (tree_is one parts.1
        ∙ ap (λ n. tree room (the_variants modules variants) (path ++ (codes "." ++ c.name)) (Some at) (variant_of c.place c.params variants) (at + 1 + n)) long)
        ∙ sym (trees_behind (tree room (the_variants modules variants)) path at (at + 1) (map (child_in variants) children) (child_in variants c))
        ∙ ap (trees (tree room (the_variants modules variants)) path at (at + 1)) (sym (map-append (child_in variants) children (c ∷ [])))

-- ---- the design

first_number : (list : List Instance) (i : Instance) → number_in (variants_of (i ∷ list)) i ≡ 0
first_number list i =
    let more = all_grown (i ∷ []) list in
    let found : Found (i ∷ []) i = subst (λ n. n < 1) (sym alone) (omega arith) in
    ap (λ (v : List Instance). number_in v i) more.1 ∙ stays (i ∷ []) more.0 i found ∙ alone
  where
    alone : number_in (i ∷ []) i ≡ 0
    alone = ap (λ b. cond (not b) 1 0) (is_its_own i)

pub top_number : {top : Name} {place : ℕ} {params : Gens} {list : List Instance} → IsTree 33 top None place params 0 list → variant_of place params (variants_of list) ≡ 0
top_number (a_tree room path parent place params at content below under) = first_number below (record { path = path; parent = parent; place = place; params = params; content = content })

-- the instances of an elaborated design are the top and those below it, in preorder
pub in_preorder : (modules : List Module) (top : Name) (list : List Instance) → TopOk modules top list → AreInPreorder (designed modules top list)
in_preorder modules top list ok =
    let variants = variants_of list in
    let given = given_firsts modules [] list tt ok.given in
    tree_is modules variants ok.tree (all_children modules variants list given ok.given (each_found [] list))
    ∙ ap (λ n. tree 33 (the_variants modules variants) top None n 0) (top_number ok.tree)

-- ---- what elaboration gives

ok_outcome : {A : Type 0} (P : Option A → Type 0) (r : Result (A × Seen) Fault) (a : A) (s : Seen) → r ≡ Ok (a, s) → OnOutcome P r → P (Some a)
ok_outcome {A = A} P r a s e h = let Q : Result (A × Seen) Fault → Type 0 = OnOutcome P in subst Q e h

-- what is judged well comes out
judge_out : {A : Type 0} (seen : Seen) (w : Walk A) → OnOutcome (λ o. out w ≡ o) (judge seen w)
unfolding judge out
judge_out seen (Gives a) = refl
judge_out seen (Faulty fault) = tt
judge_out seen (Counted what line w) =
    elim (nat_le (limit what) (seen_of what seen)) as (λ b. OnOutcome (λ o. out w ≡ o) (if b then Err (too_large line what) else judge (one_more what seen) w)) [ true ↦ tt | false ↦ judge_out (one_more what seen) w ]

-- the instances of a walk within its limits
pub walked : (modules : List Module) (top : Name) (given : Gens) (list : List Instance) (seen : Seen) → AreInRange given → judge none_seen (top_walk modules top given) ≡ Ok (list, seen) → TopOk modules top list
walked modules top given list seen fine e =
    top_ok modules top given fine list (ok_outcome (λ o. out (top_walk modules top given) ≡ o) (judge none_seen (top_walk modules top given)) list seen e (judge_out none_seen (top_walk modules top given)))
