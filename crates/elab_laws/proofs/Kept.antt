-- A design that elaboration gives is well formed.
use Rattle.std.proofs.Common.{◌≡◌, ℕ, zero, suc, ◌+◌, ◌<◌, ◌≤◌, ◌==◌, Bool, true, false, not, ◌||◌, List, [], ◌∷◌, ◌++◌, map, length, length-append, add-zero, Option, Some, None, option_map, unwrap_or, Result, Ok, Err, if◌then◌else◌, nat_lt, ◌⊎◌, inl, inr, refl, sym, ap, ap₂, ◌∙◌, subst, arith}
use Rattle.std.specs.List.{slice_get, enumerate_from, flat_map, list_any}
use Rattle.std.proofs.lemmas.Bool.{eqb-true, ltb-false, eq-eqb}
use Rattle.std.proofs.lemmas.List.{length-map}
use Rattle.std.proofs.lemmas.List.FromFn.{length-enumerate_from}
use Rattle.std.proofs.lemmas.List.Sums.{prefix_len-le-length}
use Rattle.std.proofs.lemmas.Option.{none-some, same_Some, slice_get-map, slice_get_within, get_or_from_slice_get}
use Rattle.gen_tree.specs.Tree.{Module, Source, all_modules}
use Rattle.exec_core.specs.Block.{Name}
use Rattle.list_core.specs.Lists.{EachOf, AreApart, from}
use Rattle.design_core.specs.declared.Instance.{Instance as Placed}
use Rattle.design_core.specs.declared.Signal.{Signal}
use Rattle.design_core.specs.declared.Kind.{Kind}
use Rattle.design_core.specs.declared.Kind.TheVariants.{Input, Output, Wire, Reg, ChildOut}
use Rattle.design_core.specs.Design as design
use Rattle.design_core.specs.Design.{Gens, AreInRange, Variant, Design}
use Rattle.design_core.specs.Slots.{AreNumbered, slots_of, variant_heads, blocks_size}
use Rattle.design_core.specs.Sizes.{blocks_parts, variant_signals, variant_statements, variant_cells, variant_parts, in_all}
use Rattle.design_core.specs.WellFormed.{HasParent, AreChildren, standing, children_at, signals_at, output_of, outputs_of, regs, registers, all_slots, AreInTurn, is_plain, IsMember, IfPort, IsLine, AreFew, HasLines, child_names, IsVariant, IsDesign}
use Rattle.elab_laws.proofs.Numbering.{each_numbered, blocks_numbered}
use Rattle.elab_laws.proofs.Ranges.{variants_apart}
use Rattle.elab_core.specs.Walk.{Fault, Seen, none_seen, judge, too_large}
use Rattle.elab_core.specs.declared.Count.TheVariants.{Cells}
use Rattle.elab_core.specs.Elaborated.{Child, Content, Instance}
use Rattle.elab_core.specs.Elab.{output_as, child_outputs, top_walk}
use Rattle.elab_core.specs.Design.{blocks_cells, first_slot, same_gens, is_of, variant_of, firsts, variants_of, name_at, child_in, numbered_variant, instance_in, designed, cells, unless_large, design_from, elaborated_files}
use Rattle.elab_laws.proofs.Variants.{number_in, Found, EachFound, each_found, all_grown, stays, is_its_own, search_last}
use Rattle.elab_laws.proofs.Shapes.{IsTree, a_tree, AreTrees, no_trees, one_behind, IsGiven, EachGiven, TopOk}
use Rattle.elab_laws.proofs.Preorder.{EachHas, all_children, given_firsts, given_at, passes, both_parts, gens_equal, same_content, numbered_at, the_variants, top_number, in_preorder, walked, OnDesign}
use Rattle.elab_laws.proofs.Below.{EachFrom, HasChildren, tree_ok}
use Rattle.elab_laws.proofs.Fine.{HeadFine, SignalFine, ModuleOf, most_params, ChildFine, InstanceFine, of_place, tree_fine, blocks_fine, block_lines}
use Rattle.elab_laws.proofs.Renumbered.{same_size, same_parts, same_cells, few_in}
use Rattle.elab_laws.proofs.Paths.{paths, names, NamesOk, all_apart, plain_member, as_member}
use Rattle.elab_laws.specs.Laws.{AreReadFrom}
use Rattle.elab_laws.proofs.Spelled.{files_named}
use Rattle.gen_token.specs.Spelling.{IsName}
use Rattle.elab_laws.specs.Sizes.{all_statements, all_signals, children_parts, all_parts, all_registers}
use Rattle.elab_laws.proofs.Sums.{slot_within}
use Rattle.elab_laws.proofs.ItemCounts.{Small, walk_small, firsts_few}
use Rattle.elab_laws.proofs.Outputs.{signals_by, met_outputs, given_signals, given_outs}

-- ---- elements of lists

pub each_at : (P : ℕ → Placed → Type 0) (n : ℕ) (list : List Placed) (k : ℕ) (r : Placed) → EachFrom P n list → slice_get list k ≡ Some r → P (n + k) r
each_at P n [] k r h e = absurd (none-some r e)
each_at P n (s ∷ list) zero r h e = subst (P (n + zero)) (same_Some s r e) (subst (λ m. P m s) (sym (add-zero n)) h.0)
each_at P n (s ∷ list) (suc k) r h e = subst (λ m. P m r) (further n k) (each_at P (n + 1) list k r h.1 e)
  where
    further : (n k : ℕ) → n + 1 + k ≡ n + suc k
    further n k = omega arith

pub of_each : {A : Type 0} (P : A → Type 0) (list : List A) (k : ℕ) (a : A) → EachOf P list → slice_get list k ≡ Some a → P a
of_each P [] k a h e = absurd (none-some a e)
of_each P (b ∷ list) zero a h e = subst P (same_Some b a e) h.0
of_each P (b ∷ list) (suc k) a h e = of_each P list k a h.1 e

none_before : (n : ℕ) → 0 + n ≡ n
none_before n = omega arith

one_more : (n : ℕ) → 1 + n ≡ n + 1
one_more n = omega arith

-- an element of a mapped list is that of one
one_of : {A B : Type 0} (f : A → B) (list : List A) (k : ℕ) (b : B) → slice_get (map f list) k ≡ Some b → (a : A) × ((slice_get list k ≡ Some a) × (f a ≡ b))
one_of f [] k b e = absurd (none-some b e)
one_of f (a ∷ list) zero b e = (a, (refl, same_Some (f a) b e))
one_of f (a ∷ list) (suc k) b e = one_of f list k b e

there : {A : Type 0} (list : List A) (k : ℕ) → k < length list → (a : A) × (slice_get list k ≡ Some a)
there [] k h = absurd (omega (arith, h))
there (a ∷ list) zero h = (a, refl)
there (a ∷ list) (suc k) h = there list k (omega (arith, h))

-- ---- instances

found_at : (variants list : List Instance) (k : ℕ) (i : Instance) → EachFound variants list → slice_get list k ≡ Some i → Found variants i
found_at variants [] k i h e = absurd (none-some i e)
found_at variants (j ∷ list) zero i h e = subst (Found variants) (same_Some j i e) h.0
found_at variants (j ∷ list) (suc k) i h e = found_at variants list k i h.1 e

long_variants : (modules : List Module) (variants : List Instance) → length (the_variants modules variants) ≡ length variants
long_variants modules variants = length-map (enumerate_from 0 variants) (numbered_variant modules variants) ∙ length-enumerate_from 0 variants

-- an element of a list with one more is one of the list, or the last
last_or : {A : Type 0} (before : List A) (i x : A) (k : ℕ) → slice_get (before ++ i ∷ []) k ≡ Some x → (slice_get before k ≡ Some x) ⊎ ((k ≡ length before) × (i ≡ x))
last_or [] i x zero e = inr (refl, same_Some i x e)
last_or [] i x (suc k) e = absurd (none-some x e)
last_or (j ∷ before) i x zero e = inl e
last_or (j ∷ before) i x (suc k) e = more (last_or before i x k e)
  where
    more : (slice_get before k ≡ Some x) ⊎ ((k ≡ length before) × (i ≡ x)) → (slice_get before k ≡ Some x) ⊎ ((suc k ≡ length (j ∷ before)) × (i ≡ x))
    more (inl g) = inl g
    more (inr p) = inr (omega (arith, p.0), p.1)

-- the first instances are among all
abbrev Among : List Instance → List Instance → ℕ → Instance → Type 0
Among variants list k x = (slice_get variants k ≡ Some x) ⊎ ((m : ℕ) × (slice_get list m ≡ Some x))

one_later : (i : Instance) (variants list : List Instance) (k : ℕ) (x : Instance) → Among variants list k x → Among variants (i ∷ list) k x
one_later i variants list k x (inl h) = inl h
one_later i variants list k x (inr p) = inr (suc p.0, p.1)

first_later : (i : Instance) (variants list : List Instance) (k : ℕ) (x : Instance) → Among (variants ++ i ∷ []) list k x → Among variants (i ∷ list) k x
first_later i variants list k x (inl h) = choose (last_or variants i x k h)
  where
    choose : (slice_get variants k ≡ Some x) ⊎ ((k ≡ length variants) × (i ≡ x)) → Among variants (i ∷ list) k x
    choose (inl g) = inl g
    choose (inr p) = inr (0, ap (λ (y : Instance). Some y) p.1)
first_later i variants list k x (inr p) = inr (suc p.0, p.1)

among : (variants list : List Instance) (k : ℕ) (x : Instance) → slice_get (firsts variants list) k ≡ Some x → Among variants list k x
among variants [] k x e = inl e
among variants (i ∷ list) k x e =
    by_test (nat_lt (number_in variants i) (length variants)) e (λ g. one_later i variants list k x (among variants list k x g))
    (λ g. first_later i variants list k x (among (variants ++ i ∷ []) list k x g))
  where
    by_test : (b : Bool) → slice_get (if b then firsts variants list else firsts (variants ++ i ∷ []) list) k ≡ Some x → (slice_get (firsts variants list) k ≡ Some x → Among variants (i ∷ list) k x)
        → (slice_get (firsts (variants ++ i ∷ []) list) k ≡ Some x → Among variants (i ∷ list) k x) → Among variants (i ∷ list) k x
    by_test true e f g = f e
    by_test false e f g = g e

-- a first instance is found at its own place
abbrev AtOwn : List Instance → Type 0
AtOwn variants = (k : ℕ) (x : Instance) → slice_get variants k ≡ Some x → number_in variants x ≡ k

own_behind : (variants : List Instance) (i : Instance) → AtOwn variants → length variants ≤ number_in variants i → AtOwn (variants ++ i ∷ [])
own_behind variants i h new k x e = choose (last_or variants i x k e)
  where
    last : number_in (variants ++ i ∷ []) i ≡ length variants
    last = omega (arith, search_last (is_of i.place i.params) variants i (is_its_own i), new, prefix_len-le-length (λ v. not (is_of i.place i.params v)) variants)

    choose : (slice_get variants k ≡ Some x) ⊎ ((k ≡ length variants) × (i ≡ x)) → number_in (variants ++ i ∷ []) x ≡ k
    choose (inl g) = stays variants (i ∷ []) x (omega (arith, h k x g, slice_get_within variants k x g)) ∙ h k x g
    choose (inr p) = ap (λ (y : Instance). number_in (variants ++ i ∷ []) y) (sym p.1) ∙ last ∙ sym p.0

at_own : (variants list : List Instance) → AtOwn variants → AtOwn (firsts variants list)
at_own variants [] h = h
at_own variants (i ∷ list) h =
    by_test (nat_lt (number_in variants i) (length variants)) refl (at_own variants list h)
    (λ e. at_own (variants ++ i ∷ []) list (own_behind variants i h (ltb-false (number_in variants i) (length variants) e)))
  where
    by_test : (b : Bool) → nat_lt (number_in variants i) (length variants) ≡ b → AtOwn (firsts variants list)
        → (nat_lt (number_in variants i) (length variants) ≡ false → AtOwn (firsts (variants ++ i ∷ []) list)) → AtOwn (if b then firsts variants list else firsts (variants ++ i ∷ []) list)
    by_test true e f g = f
    by_test false e f g = g e

-- each variant has an instance
some_is : {A : Type 0} (p : A → Bool) (list : List A) (k : ℕ) (a : A) → slice_get list k ≡ Some a → p a ≡ true → list_any p list ≡ true
some_is p [] k a e h = absurd (none-some a e)
some_is p (b ∷ list) zero a e h = ap (λ t. t || list_any p list) (ap p (same_Some b a e) ∙ h)
some_is p (b ∷ list) (suc k) a e h = either_true (p b) (list_any p list) (some_is p list k a e h)
  where
    either_true : (a b : Bool) → b ≡ true → a || b ≡ true
    either_true true b e = refl
    either_true false b e = e

of_variant : (list : List Instance) (v : ℕ) → v < length (variants_of list) → list_any (λ r. r.variant == v) (map (instance_in (variants_of list)) list) ≡ true
of_variant list v small =
    let x = there (variants_of list) v small in
    choose x.0 x.1 (among [] list v x.0 x.1)
  where
    choose : (x : Instance) → slice_get (variants_of list) v ≡ Some x → Among [] list v x → list_any (λ r. r.variant == v) (map (instance_in (variants_of list)) list) ≡ true
    choose x e (inl h) = absurd (none-some x h)
    choose x e (inr p) =
        some_is (λ (r : Placed). r.variant == v) (map (instance_in (variants_of list)) list) p.0 (instance_in (variants_of list) x)
        (slice_get-map (instance_in (variants_of list)) list p.0 ∙ ap (option_map (instance_in (variants_of list))) p.1)
        (eq-eqb (number_in (variants_of list) x) v (at_own [] list (λ k y g. absurd (none-some y g)) v x e))

-- ---- children

-- the variants of children are among the variants
abbrev ChildFound : List Instance → Child → Type 0
ChildFound variants c = variant_of c.place c.params variants < length variants

abbrev ContentFound : List Instance → Instance → Type 0
ContentFound variants i = EachOf (ChildFound variants) i.content.children

each_both : {A : Type 0} (P : A → Type 0) (xs ys : List A) → EachOf P xs → EachOf P ys → EachOf P (xs ++ ys)
each_both P [] ys h g = g
each_both P (x ∷ xs) ys h g = (h.0, each_both P xs ys h.1 g)

found_parts : (variants xs ys : List Instance) → EachFound variants (xs ++ ys) → EachFound variants xs × EachFound variants ys
found_parts variants [] ys h = (tt, h)
found_parts variants (x ∷ xs) ys h = let rest = found_parts variants xs ys h.1 in ((h.0, rest.0), rest.1)

mutual
  tree_found : (variants : List Instance) {room : ℕ} {path : Name} {parent : Option ℕ} {place : ℕ} {params : Gens} {at : ℕ} {list : List Instance} → IsTree room path parent place params at list → EachFound variants list
      → (variant_of place params variants < length variants) × EachOf (ContentFound variants) list
  tree_found variants (a_tree room path parent place params at content below under) h =
      let rest = trees_found variants under h.1 in
      (h.0, (rest.0, rest.1))

  trees_found : (variants : List Instance) {room : ℕ} {path : Name} {at : ℕ} {children : List Child} {below : List Instance} → AreTrees room path at children below → EachFound variants below
      → EachOf (ChildFound variants) children × EachOf (ContentFound variants) below
  trees_found variants (no_trees room path at) h = (tt, tt)
  trees_found variants (one_behind room path at children below c list under tree) h =
      let parts = found_parts variants below list h in
      let first = trees_found variants under parts.0 in
      let new = tree_found variants tree parts.1 in
      (each_both (ChildFound variants) children (c ∷ []) first.0 (new.0, tt), each_both (ContentFound variants) below list first.1 new.1)

-- so it is of the first instances
each_first : (P : Instance → Type 0) (variants list : List Instance) → EachOf P variants → EachOf P list → EachOf P (firsts variants list)
each_first P variants [] h g = h
each_first P variants (i ∷ list) h g =
    elim (nat_lt (number_in variants i) (length variants)) as (λ b. EachOf P (if b then firsts variants list else firsts (variants ++ i ∷ []) list)) [
      | true ↦ each_first P variants list h g.1
      | false ↦ each_first P (variants ++ i ∷ []) list (each_both P variants (i ∷ []) h (g.0, tt)) g.1
    ]

-- ---- the outputs of children

-- the signals of a variant, by its number
its_signals : (modules : List Module) (variants : List Instance) (place : ℕ) (params : Gens) → EachGiven modules variants → variant_of place params variants < length variants
    → signals_at (variant_of place params variants) (the_variants modules variants) ≡ signals_by modules place params
its_signals modules variants place params given found =
    let n = variant_of place params variants in
    let first = passes (is_of place params) variants found in
    let v = first.0 in
    let test = both_parts (place == v.place) (same_gens params v.params) first.1.1 in
    ap (λ (o : Option Variant). signals_or o) (numbered_at (numbered_variant modules variants) 0 n variants ∙ ap (option_map (λ w. numbered_variant modules variants (0 + n, w))) first.1.0)
    ∙ sym (given_signals modules v (given_at modules variants n v given first.1.0))
    ∙ ap₂ (signals_by modules) (sym (eqb-true place v.place test.0)) (sym (gens_equal params v.params test.1))
  where
    signals_or : Option Variant → List Signal
    signals_or o = unwrap_or (option_map (λ w. w.signals) o) []

one_output : (variants : List Instance) (k : ℕ) (c : Child) (s : Signal) (kind : Kind) → output_as c.line k c.name s kind ≡ output_of k (child_in variants c) s kind
one_output variants k c s Input = refl
one_output variants k c s Output = refl
one_output variants k c s Wire = refl
one_output variants k c s (Reg start) = refl
one_output variants k c s (ChildOut j port) = refl

all_outputs : (variants : List Instance) (k : ℕ) (c : Child) (signals : List Signal) → child_outputs c.line k c.name signals ≡ flat_map (λ s. output_of k (child_in variants c) s s.kind) signals
all_outputs variants k c [] = refl
all_outputs variants k c (s ∷ signals) = ap₂ (λ (l m : List Signal). l ++ m) (one_output variants k c s s.kind) (all_outputs variants k c signals)

child_by_child : (modules : List Module) (variants : List Instance) (k : ℕ) (children : List Child) → EachGiven modules variants → EachOf (ChildFound variants) children
    → flat_map (met_outputs modules) (enumerate_from k children) ≡ flat_map (outputs_of (the_variants modules variants)) (enumerate_from k (map (child_in variants) children))
child_by_child modules variants k [] given found = refl
child_by_child modules variants k (c ∷ children) given found =
    ap₂ (λ (l m : List Signal). l ++ m)
    (ap (child_outputs c.line k c.name) (sym (its_signals modules variants c.place c.params given found.0)) ∙ all_outputs variants k c (signals_at (variant_of c.place c.params variants) (the_variants modules variants)))
    (child_by_child modules variants (k + 1) children given found.1)

-- ---- variants

long_from : (k n : ℕ) → length (from k n) ≡ n
long_from k zero = refl
long_from k (suc n) = ap (λ m. suc m) (long_from (k + 1) n)

from_first : (k n : ℕ) → AreInTurn (from k n)
from_first k zero = refl
from_first k (suc n) = ap (from k) (sym (long_from k (suc n)))

in_turn : (v : Variant) → AreNumbered v → AreInTurn (slots_of (variant_heads v))
in_turn v h = subst AreInTurn (sym h.slots) (from_first h.first h.count)

children_within : (modules : List Module) (variants : List Instance) (children : List Child) → EachOf (ChildFound variants) children
    → EachOf (λ (c : design.Child). c.variant < length (the_variants modules variants)) (map (child_in variants) children)
children_within modules variants [] h = tt
children_within modules variants (c ∷ children) h = (subst (λ n. variant_of c.place c.params variants < n) (sym (long_variants modules variants)) h.0, children_within modules variants children h.1)

module_name : (modules : List Module) (i : Instance) → EachOf (ModuleOf IsName) modules → IsGiven modules i → IsName (name_at i.place modules)
module_name modules i named h =
    subst IsName (sym (ap (λ (o : Option Module). unwrap_or (option_map (λ m. m.name) o) []) h.stands)) (of_place (ModuleOf IsName) modules i.place h.«module» named h.stands).name

child_members : (variants : List Instance) (children : List Child) → EachOf (ChildFine IsName) children → EachOf (λ (c : design.Child). ∥ IsMember c.name ∥₁) (map (child_in variants) children)
child_members variants [] h = tt
child_members variants (c ∷ children) h = (∣ as_member c.name h.0.0 ∣₁, child_members variants children h.1)

each_as : {A : Type 0} (P Q : A → Type 0) → ((a : A) → P a → Q a) → (list : List A) → EachOf P list → EachOf Q list
each_as P Q f [] h = tt
each_as P Q f (a ∷ list) h = (f a h.0, each_as P Q f list h.1)

lines_of_children : (variants : List Instance) (children : List Child) → EachOf (ChildFine IsName) children → EachOf HasLines (map (child_in variants) children)
lines_of_children variants [] h = tt
lines_of_children variants (c ∷ children) h = (h.0.2, lines_of_children variants children h.1)

-- no more signals and statements than all instances may have
abbrev Little : Instance → Type 0
Little i = (length i.content.signals ≤ 200000) × (blocks_size i.content.blocks ≤ 200000)

each_little : (list : List Instance) → all_signals list ≤ 200000 → all_statements list ≤ 200000 → EachOf Little list
each_little [] h g = tt
each_little (i ∷ list) h g = ((omega (arith, h), omega (arith, g)), each_little list (omega (arith, h)) (omega (arith, g)))

are_variants : (modules : List Module) (variants : List Instance) (k : ℕ) (list : List Instance) → EachGiven modules variants → EachGiven modules list → EachOf (ContentFound variants) list
    → EachOf AreNumbered (map (numbered_variant modules variants) (enumerate_from k list)) → EachOf (InstanceFine IsName) list → EachOf Little list → EachOf (ModuleOf IsName) modules
    → EachOf (IsVariant (the_variants modules variants)) (map (numbered_variant modules variants) (enumerate_from k list))
are_variants modules variants k [] given h found numbered fine little named = tt
are_variants modules variants k (i ∷ list) given h found numbered fine little named = (
  let v = numbered_variant modules variants (k, i) in
      let content = fine.0.1 in
      let heads = blocks_fine (first_slot variants (k, i)) i.content.blocks content.blocks in
      record {
        children = children_within modules variants i.content.children found.0;
        outputs = given_outs modules i h.0 ∙ child_by_child modules variants 0 i.content.children given found.0;
        in_turn = in_turn (numbered_variant modules variants (k, i)) numbered.0;
        params = fine.0.0.0;
        few_params = omega (arith, fine.0.0.1);
        gens = each_as HeadFine (λ h. AreInRange h.gens) (λ h p. p.0) (variant_heads v) heads;
        few_gens = each_as HeadFine (λ h. AreFew h.gens) (λ h p. p.1) (variant_heads v) heads;
        few_names = few_in (first_slot variants (k, i)) v i.content.blocks little.0.0 little.0.1;
        named = module_name modules i named h.0;
        ports = each_as (SignalFine IsName) (λ s. IfPort IsName s s.kind) (λ s p. p.0) i.content.signals content.signals;
        names = child_members variants i.content.children content.children;
        signal_lines = each_as (SignalFine IsName) (λ s. IsLine s.line) (λ s p. p.1) i.content.signals content.signals;
        child_lines = lines_of_children variants i.content.children content.children;
        block_lines = block_lines (first_slot variants (k, i)) i.content.blocks content.blocks;
        lines = each_as HeadFine (λ h. IsLine h.line) (λ h p. p.2) (variant_heads v) heads;
      },
  are_variants modules variants (k + 1) list given h.1 found.1 numbered.1 fine.1 little.1 named,
)

-- ---- slots and registers

-- the slots of a variant, from its first on
range_of : (modules : List Module) (variants : List Instance) (v : ℕ × Instance) → slots_of (variant_heads (numbered_variant modules variants v)) ≡ from (first_slot variants v) (blocks_size v.1.content.blocks)
range_of modules variants v = blocks_numbered (first_slot variants v) v.1.content.blocks

long_slots : (modules : List Module) (variants list : List Instance) (k : ℕ) → length (all_slots (map (numbered_variant modules variants) (enumerate_from k list))) ≡ all_statements list
long_slots modules variants [] k = refl
long_slots modules variants (i ∷ list) k =
    length-append (slots_of (variant_heads (numbered_variant modules variants (k, i)))) (all_slots (map (numbered_variant modules variants) (enumerate_from (k + 1) list)))
    ∙ ap₂ (λ m n. m + n) (ap (λ (l : List ℕ). length l) (range_of modules variants (k, i)) ∙ long_from (first_slot variants (k, i)) (blocks_size i.content.blocks)) (long_slots modules variants list (k + 1))

from_below : (k n most : ℕ) → k + n ≤ most → EachOf (λ m. m < most) (from k n)
from_below k zero most h = tt
from_below k (suc n) most h = (omega (arith, h), from_below (k + 1) n most (omega (arith, h)))

-- so many of the variants from one on are those of a list
abbrev Stand : List Instance → ℕ → List Instance → Type 0
Stand variants k list = (j : ℕ) (y : Instance) → slice_get list j ≡ Some y → slice_get variants (k + j) ≡ Some y

each_below : (modules : List Module) (variants list : List Instance) (k : ℕ) → Stand variants k list → EachOf (λ m. m < all_statements variants) (all_slots (map (numbered_variant modules variants) (enumerate_from k list)))
each_below modules variants [] k s = tt
each_below modules variants (i ∷ list) k s =
    let here : slice_get variants k ≡ Some i = ap (slice_get variants) (sym (add-zero k)) ∙ s 0 i refl in
    let within = slot_within variants k i (slice_get_within variants k i here) in
    let at = get_or_from_slice_get variants k i i here in
    let fits : first_slot variants (k, i) + blocks_size i.content.blocks ≤ all_statements variants =
    subst (λ (x : Instance). first_slot variants (k, x) + blocks_size x.content.blocks ≤ all_statements variants) at within in
    each_both (λ m. m < all_statements variants) (slots_of (variant_heads (numbered_variant modules variants (k, i)))) (all_slots (map (numbered_variant modules variants) (enumerate_from (k + 1) list)))
    (subst (EachOf (λ m. m < all_statements variants)) (sym (range_of modules variants (k, i))) (from_below (first_slot variants (k, i)) (blocks_size i.content.blocks) (all_statements variants) fits))
    (each_below modules variants list (k + 1) (λ j y e. ap (slice_get variants) (further k j) ∙ s (suc j) y e))
  where
    further : (k j : ℕ) → k + 1 + j ≡ k + suc j
    further k j = omega arith

slots_below : (modules : List Module) (variants : List Instance) → EachOf (λ m. m < length (all_slots (the_variants modules variants))) (all_slots (the_variants modules variants))
slots_below modules variants =
    subst (λ n. EachOf (λ m. m < n) (all_slots (the_variants modules variants))) (sym (long_slots modules variants variants 0))
    (each_below modules variants variants 0 (λ j y e. ap (slice_get variants) (none_before j) ∙ e))

same_registers : (modules : List Module) (variants list : List Instance) → EachGiven modules variants → EachGiven modules list → EachFound variants list
    → registers (the_variants modules variants) (map (instance_in variants) list) ≡ all_registers list
same_registers modules variants [] given h found = refl
same_registers modules variants (i ∷ list) given h found =
    ap₂ (λ m n. m + n) (ap (λ (l : List Signal). regs l) (its_signals modules variants i.place i.params given found.0 ∙ given_signals modules i h.0)) (same_registers modules variants list given h.1 found.1)

-- ---- sums over all instances

-- what the variant of an instance has, by what the content of each has
its_size : (modules : List Module) (variants : List Instance) (f : Variant → ℕ) (g : Content → ℕ) → ((v : ℕ × Instance) → f (numbered_variant modules variants v) ≡ g v.1.content) → (i : Instance) → EachGiven modules variants → IsGiven modules i → Found variants i
    → unwrap_or (option_map f (slice_get (the_variants modules variants) (number_in variants i))) 0 ≡ g i.content
its_size modules variants f g same i given here found =
    let n = number_in variants i in
    let first = passes (is_of i.place i.params) variants found in
    let v = first.0 in
    let test = both_parts (i.place == v.place) (same_gens i.params v.params) first.1.1 in
    let content : v.content ≡ i.content = same_content modules i v here (given_at modules variants n v given first.1.0) (eqb-true i.place v.place test.0) (gens_equal i.params v.params test.1) in
    ap (λ (o : Option Variant). unwrap_or (option_map f o) 0) (numbered_at (numbered_variant modules variants) 0 n variants ∙ ap (option_map (λ w. numbered_variant modules variants (0 + n, w))) first.1.0)
    ∙ same (0 + n, v)
    ∙ ap g content

abbrev sum_of : (Content → ℕ) → List Instance → ℕ
sum_of g [] = 0
sum_of g (i ∷ list) = g i.content + sum_of g list

in_sum : (modules : List Module) (variants : List Instance) (f : Variant → ℕ) (g : Content → ℕ) → ((v : ℕ × Instance) → f (numbered_variant modules variants v) ≡ g v.1.content)
    → (list : List Instance) → EachGiven modules variants → EachGiven modules list → EachFound variants list → in_all f (the_variants modules variants) (map (instance_in variants) list) ≡ sum_of g list
in_sum modules variants f g same [] given h found = refl
in_sum modules variants f g same (i ∷ list) given h found = ap₂ (λ m n. m + n) (its_size modules variants f g same i given h.0 found.0) (in_sum modules variants f g same list given h.1 found.1)

signals_sum : (list : List Instance) → sum_of (λ c. length c.signals) list ≡ all_signals list
signals_sum [] = refl
signals_sum (i ∷ list) = ap (λ n. length i.content.signals + n) (signals_sum list)

statements_sum : (list : List Instance) → sum_of (λ c. blocks_size c.blocks) list ≡ all_statements list
statements_sum [] = refl
statements_sum (i ∷ list) = ap (λ n. blocks_size i.content.blocks + n) (statements_sum list)

cells_sum : (list : List Instance) → sum_of (λ c. blocks_cells c c.blocks) list ≡ cells list
cells_sum [] = refl
cells_sum (i ∷ list) = ap (λ n. blocks_cells i.content i.content.blocks + n) (cells_sum list)

parts_sum : (list : List Instance) → sum_of (λ c. children_parts c.children + blocks_parts c.blocks) list ≡ all_parts list
parts_sum [] = refl
parts_sum (i ∷ list) = ap (λ n. children_parts i.content.children + blocks_parts i.content.blocks + n) (parts_sum list)

-- ---- paths

abbrev NamesApart : Variant → Type 0
NamesApart v = AreApart (child_names v.children)

at_children : (variants : List Variant) (v : ℕ) → EachOf NamesApart variants → AreApart (child_names (children_at v variants))
at_children [] v h = tt
at_children (w ∷ variants) zero h = h.0
at_children (w ∷ variants) (suc v) h = at_children variants v h.1

same_names : (variants : List Instance) (children : List Child) → child_names (map (child_in variants) children) ≡ names children
same_names variants [] = refl
same_names variants (c ∷ children) = ap (λ (l : List Name). c.name ∷ l) (same_names variants children)

plain_children : (children : List Child) → EachOf (ChildFine IsName) children → EachOf (λ (c : Child). is_plain c.name ≡ true) children
plain_children [] h = tt
plain_children (c ∷ children) h = (plain_member c.name h.0.0, plain_children children h.1)

names_ok : (modules : List Module) (variants list : List Instance) → EachOf NamesApart (the_variants modules variants) → EachOf (InstanceFine IsName) list → EachHas modules variants list → EachOf NamesOk list
names_ok modules variants [] apart fine h = tt
names_ok modules variants (i ∷ list) apart fine h = (
  (subst AreApart (ap child_names h.0 ∙ same_names variants i.content.children) (at_children (the_variants modules variants) (number_in variants i) apart), plain_children i.content.children (fine.0.1).children),
  names_ok modules variants list apart fine.1 h.1,
)

same_paths : (variants list : List Instance) → map (λ (r : Placed). r.path) (map (instance_in variants) list) ≡ paths list
same_paths variants [] = refl
same_paths variants (i ∷ list) = ap (λ (l : List Name). i.path ∷ l) (same_paths variants list)

different_paths : (modules : List Module) (variants list : List Instance) {top : Name} {place : ℕ} {params : Gens} → IsTree 33 top None place params 0 list → EachOf (InstanceFine IsName) list → EachHas modules variants list
    → EachOf NamesApart (the_variants modules variants) → AreApart (map (λ (r : Placed). r.path) (map (instance_in variants) list))
different_paths modules variants list tree fine h apart = subst AreApart (sym (same_paths variants list)) (all_apart tree (names_ok modules variants list apart fine h))

-- ---- the design

top_is : {top : Name} {place : ℕ} {params : Gens} {list : List Instance} (variants : List Instance) → IsTree 33 top None place params 0 list
    → slice_get (map (instance_in variants) list) 0 ≡ Some (record { path = top; variant = variant_of place params variants; parent = None })
top_is variants (a_tree room path parent place params at content below under) = refl

first_module : (modules : List Module) {top : Name} {place : ℕ} {params : Gens} {list : List Instance} → IsTree 33 top None place params 0 list
    → option_map (λ (v : Variant). v.«module») (slice_get (the_variants modules (variants_of list)) 0) ≡ Some (name_at place modules)
first_module modules (a_tree room path parent place params at content below under) =
    let i : Instance = record { path = path; parent = parent; place = place; params = params; content = content } in
    let grown = all_grown (i ∷ []) below in
    ap (λ (variants : List Instance). option_map (λ (v : Variant). v.«module») (slice_get (map (numbered_variant modules (variants_of (i ∷ below))) (enumerate_from 0 variants)) 0)) grown.1

pub is_design : (modules : List Module) (top : Name) (list : List Instance) → TopOk modules top list → Small modules list → cells list ≤ 4000000 → EachOf (ModuleOf IsName) modules → IsDesign (designed modules top list)
is_design modules top list ok small fit named =
    let variants = variants_of list in
    let d = designed modules top list in
    let found = each_found [] list in
    let given = given_firsts modules [] list tt ok.given in
    let few_params = omega_few (length ok.params) (length (ok.«module»).params) ok.few (of_place (ModuleOf IsName) modules ok.place ok.«module» named ok.stands).few in
    let fine = tree_fine IsName modules named ok.tree ok.given (ok.fine, few_params) in
    let contents = (tree_found variants ok.tree found).1 in
    let tree = tree_ok modules variants ok.tree (λ i l. refl) (all_children modules variants list given ok.given found) in
    record {
      top = top_is variants ok.tree ∙ ap (λ n. Some (record { path = top; variant = n; parent = None })) (top_number ok.tree);
      top_module = first_module modules ok.tree ∙ ap (λ (n : Name). Some n) (ap (λ (o : Option Module). unwrap_or (option_map (λ m. m.name) o) []) ok.stands ∙ ok.named);
      parents = λ i r e.
          let one : suc i ≡ i + 1 = omega arith in
          let here : slice_get tree.under i ≡ Some r = ap (λ (l : List Placed). slice_get l (suc i)) (sym tree.is) ∙ ap (slice_get d.instances) one ∙ e in
          subst (λ n. HasParent n r) (one_more i) (each_at HasParent 1 tree.under i r tree.parents here);
      variants = λ i r e.
          let one = one_of (instance_in variants) list i r e in
          let at = found_at variants list i one.0 found one.1.0 in
          omega (arith, at, ap (λ (s : Placed). s.variant) one.1.1, long_variants modules variants);
      instances = λ v small. of_variant list v (omega (arith, small, long_variants modules variants));
      children = λ i r e. subst (λ n. AreChildren n r.path (children_at r.variant d.variants) (standing n 0 d.instances)) (none_before i) (each_at (HasChildren d.variants 0 d.instances) 0 d.instances i r tree.each e);
      preorder = in_preorder modules top list ok;
      each = are_variants modules variants 0 variants given given (each_first (ContentFound variants) [] list tt contents) (each_numbered modules variants (enumerate_from 0 variants))
          (each_first (InstanceFine IsName) [] list tt fine) (each_first Little [] list tt (each_little list small.signals small.statements)) named;
      paths = different_paths modules variants list ok.tree fine (all_children modules variants list given ok.given found);
      apart = variants_apart modules variants;
      below = slots_below modules variants;
      few = omega (arith, small.instances, length-map list (instance_in variants));
      statements = omega (arith, small.statements, firsts_few [] list, long_slots modules variants variants 0);
      registers = omega (arith, small.registers, same_registers modules variants list given ok.given found);
      all_statements = omega (
        arith,
        small.statements,
        in_sum modules variants variant_statements (λ c. blocks_size c.blocks) (λ v. same_size (first_slot variants v) v.1.content.blocks) list given ok.given found ∙ statements_sum list,
      );
      all_signals = omega (arith, small.signals, in_sum modules variants variant_signals (λ c. length c.signals) (λ v. refl) list given ok.given found ∙ signals_sum list);
      all_cells = omega (
        arith,
        fit,
        in_sum modules variants variant_cells (λ c. blocks_cells c c.blocks) (λ v. same_cells (first_slot variants v) (numbered_variant modules variants v) v.1.content v.1.content.blocks refl) list given ok.given found
            ∙ cells_sum list,
      );
      all_parts = omega (
        arith,
        small.parts,
        in_sum modules variants variant_parts (λ c. children_parts c.children + blocks_parts c.blocks) (λ v. same_parts (first_slot variants v) variants v.1.content) list given ok.given found ∙ parts_sum list,
      );
    }
  where
    omega_few : (m n : ℕ) → m ≤ n → n ≤ most_params → m ≤ most_params
    omega_few m n p q = omega (arith, p, q)

-- ---- what elaboration gives

-- what a judged walk gives
pub record IsJudged (modules : List Module) (top : Name) (list : List Instance) : Type 0 where
  pub ok : TopOk modules top list
  pub small : Small modules list
  pub named : EachOf (ModuleOf IsName) modules

design_kept : (modules : List Module) (top : Name) (r : Result (List Instance × Seen) Fault) → ((list : List Instance) (seen : Seen) → r ≡ Ok (list, seen) → IsJudged modules top list)
    → OnDesign IsDesign (design_from modules top (unless_large r))
design_kept modules top (Ok p) h = by_test (nat_lt 4000000 (cells p.0)) refl (h p.0 p.1 refl)
  where
    by_test : (b : Bool) → nat_lt 4000000 (cells p.0) ≡ b → IsJudged modules top p.0 → OnDesign IsDesign (design_from modules top (if b then Err (too_large 0 Cells) else Ok p.0))
    by_test true e j = tt
    by_test false e j = is_design modules top p.0 j.ok j.small (ltb-false 4000000 (cells p.0) e) j.named
design_kept modules top (Err fault) h = tt

pub elaboration_keeps : (sources : List Source) (top : Name) (given : Gens) (d : Design) → AreReadFrom 0 sources → length sources ≤ 64 → AreInRange given → elaborated_files sources top given ≡ Ok d → IsDesign d
elaboration_keeps sources top given d read few fine e =
    let modules = all_modules sources in
    let all = design_kept modules top (judge none_seen (top_walk modules top given)) (λ list seen g. record { ok = walked modules top given list seen fine g; small = walk_small modules top given list seen g; named = files_named 0 sources (omega (arith, few)) read }) in
    let P : Result Design Fault → Type 0 = OnDesign IsDesign in subst P e all
