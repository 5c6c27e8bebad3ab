-- The inputs and registers of a net are all different, so each can be given a value.
use Rattle.std.proofs.Common.{◌≡◌, ℕ, suc, ◌<◌, ◌⊎◌, inl, inr, ⊎_elim, Bool, true, false, true≢false, ◌||◌, List, [], ◌∷◌, ◌++◌, length, map, if◌then◌else◌, refl, sym, ap, ap₂, ◌∙◌, subst, arith}
use Rattle.std.specs.Prelude.{All}
use Rattle.std.specs.List.{list_any, zip}
use Rattle.std.proofs.lemmas.List.{length-map}
use Rattle.std.proofs.lemmas.List.Elements.{All-head, All-tail}
use Rattle.bv_core.specs.Value.{Bits, IsBits}
use Rattle.std.proofs.lemmas.Nat.{pow_pos}
use Rattle.bv_core.specs.Operators.{width1_of, width2_of}
use Rattle.bv_core.proofs.Results.{one_has_width, two_have_width, choice_has_width}
use Rattle.tree_core.specs.Tree as tree
use Rattle.tree_core.specs.Width.{origin_width, tree_width, IsOrigin, IsOf, IsWhole}
use Rattle.tree_core.specs.Fold.{same_origin}
use Rattle.tree_core.proofs.Same.{same_origin-sound, same_origin-refl}
use Rattle.net_core.specs.Nodes.{Shape, Fixed, TopInput, Register, OfOne, OfTwo, OfMux, shape_at, node_tree, trees_of, tree_of}
use Rattle.net_core.specs.Builder.{AreShared}
use Rattle.net_core.proofs.TreeLists.{tree_is, trees_length}
use Rattle.sim_core.specs.Leaves.{gathered, input_in, register_in, inputs_of, registers_of}
use Rattle.sim_core.specs.Given.{HaveWidths, value_beside, given}
use Rattle.sim_core.specs.Laws.{AnyCanBeGiven, WidthsAreGiven, NodesHaveWidths}

-- ---- different inputs and registers

abbrev Apart : List tree.Origin → Type 0
Apart [] = Unit {0}
Apart (o ∷ os) = (list_any (same_origin o) os ≡ false) × Apart os

or_false : (a b : Bool) → (a || b) ≡ false → (a ≡ false) × (b ≡ false)
or_false true b e = absurd (true≢false e)
or_false false b e = (refl, e)

passed : (o : tree.Origin) (v : Bits) (pairs : List (tree.Origin × Bits)) (os : List tree.Origin) → list_any (same_origin o) os ≡ false → map (value_beside ((o, v) ∷ pairs)) os ≡ map (value_beside pairs) os
passed o v pairs [] e = refl
passed o v pairs (p ∷ os) e =
    let both = or_false (same_origin o p) (list_any (same_origin o) os) e in
    ap₂ (λ x xs. x ∷ xs) (ap (λ b. if b then v else value_beside pairs p) both.0) (passed o v pairs os both.1)

looked_up : (os : List tree.Origin) (values : List Bits) → Apart os → length values ≡ length os → map (value_beside (zip os values)) os ≡ values
looked_up [] [] apart e = refl
looked_up [] (v ∷ values) apart e = absurd (omega arith)
looked_up (o ∷ os) [] apart e = absurd (omega arith)
looked_up (o ∷ os) (v ∷ values) apart e =
    ap₂ (λ x xs. x ∷ xs) (ap (λ b. if b then v else value_beside (zip os values) o) (same_origin-refl o))
    (passed o v (zip os values) os apart.0 ∙ looked_up os values apart.1 (omega arith))

-- ---- those of nodes

abbrev Distinct : List Shape → Type 0
Distinct ns = (i j : ℕ) → i < length ns → j < length ns → shape_at ns i ≡ shape_at ns j → i ≡ j

distinct : (ns : List Shape) → AreShared ns → Distinct ns
distinct ns g i j l m e =
    g.trees.one_id.one i j (omega (arith, trees_length ns)) (omega (arith, trees_length ns))
    (tree_is ns g.numbered i l ∙ ap (node_tree (trees_of ns)) e ∙ sym (tree_is ns g.numbered j m))

distinct_rest : (n : Shape) (ns : List Shape) → Distinct (n ∷ ns) → Distinct ns
distinct_rest n ns d i j l m e = let same : suc i ≡ suc j = d (suc i) (suc j) (omega arith) (omega arith) e in omega arith

-- the node of an input or a register
abbrev shape_from : tree.Origin → Shape
shape_from (tree.Input name width) = TopInput name width
shape_from (tree.Register instance name start) = Register instance name start

-- each node has none, or the one that it is
abbrev Leafy : (Shape → List tree.Origin) → Type 0
Leafy of = (s : Shape) → (of s ≡ []) ⊎ ((o : tree.Origin) × (of s ≡ o ∷ []) × (s ≡ shape_from o))

inputs_leafy : Leafy input_in
inputs_leafy (Fixed b) = inl refl
inputs_leafy (TopInput name width) = inr (tree.Input name width, refl, refl)
inputs_leafy (Register instance name start) = inl refl
inputs_leafy (OfOne op a) = inl refl
inputs_leafy (OfTwo op a b) = inl refl
inputs_leafy (OfMux c a b) = inl refl

registers_leafy : Leafy register_in
registers_leafy (Fixed b) = inl refl
registers_leafy (TopInput name width) = inl refl
registers_leafy (Register instance name start) = inr (tree.Register instance name start, refl, refl)
registers_leafy (OfOne op a) = inl refl
registers_leafy (OfTwo op a b) = inl refl
registers_leafy (OfMux c a b) = inl refl

record Found (ns : List Shape) (o : tree.Origin) : Type 0 where
  place : ℕ
  within : place < length ns
  is_node : shape_at ns place ≡ shape_from o

found_later : (n : Shape) (ns : List Shape) (o : tree.Origin) → Found ns o → Found (n ∷ ns) o
found_later n ns o f = let l : f.place < length ns = f.within in record { place = suc f.place; within = omega arith; is_node = f.is_node }

among : (of : Shape → List tree.Origin) → Leafy of → (ns : List Shape) (o : tree.Origin) → list_any (same_origin o) (gathered of ns) ≡ true → Found ns o
among of leafy [] o e = cc
among of leafy (n ∷ ns) o e =
    ⊎_elim
    (λ none. found_later n ns o (among of leafy ns o (ap (λ os. list_any (same_origin o) (os ++ gathered of ns)) (sym none) ∙ e)))
    (λ one. by_test one.0 one.2 (λ h. among of leafy ns o h) (same_origin o one.0) refl (ap (λ os. list_any (same_origin o) (os ++ gathered of ns)) (sym one.1) ∙ e))
    (leafy n)
  where
    by_test : (p : tree.Origin) → n ≡ shape_from p → (list_any (same_origin o) (gathered of ns) ≡ true → Found ns o) → (b : Bool) → same_origin o p ≡ b → (same_origin o p || list_any (same_origin o) (gathered of ns)) ≡ true → Found (n ∷ ns) o
    by_test p is later true t h = record { place = 0; within = omega arith; is_node = is ∙ ap shape_from (sym (same_origin-sound o p t)) }
    by_test p is later false t h = found_later n ns o (later (ap (λ b. b || list_any (same_origin o) (gathered of ns)) (sym t) ∙ h))

apart : (of : Shape → List tree.Origin) → Leafy of → (ns : List Shape) → Distinct ns → Apart (gathered of ns)
apart of leafy [] d = tt
apart of leafy (n ∷ ns) d =
    ⊎_elim
    (λ none. subst (λ os. Apart (os ++ gathered of ns)) (sym none) (apart of leafy ns (distinct_rest n ns d)))
    (λ one. subst (λ os. Apart (os ++ gathered of ns)) (sym one.1) (by_test one.0 one.2 (list_any (same_origin one.0) (gathered of ns)) refl, apart of leafy ns (distinct_rest n ns d)))
    (leafy n)
  where
    by_test : (o : tree.Origin) → n ≡ shape_from o → (b : Bool) → list_any (same_origin o) (gathered of ns) ≡ b → list_any (same_origin o) (gathered of ns) ≡ false
    by_test o is false e = e
    by_test o is true e =
        let f = among of leafy ns o e in
        let l : f.place < length ns = f.within in
        let same : 0 ≡ suc f.place = d 0 (suc f.place) (omega arith) (omega arith) (is ∙ sym f.is_node) in
        absurd (omega arith)

-- ---- what is given

given_inputs : (E F : tree.Origin → Bits) → ((name : List ℕ) (width : ℕ) → E (tree.Input name width) ≡ F (tree.Input name width)) → (ns : List Shape) → map E (inputs_of ns) ≡ map F (inputs_of ns)
given_inputs E F same [] = refl
given_inputs E F same (Fixed b ∷ ns) = given_inputs E F same ns
given_inputs E F same (TopInput name width ∷ ns) = ap₂ (λ x xs. x ∷ xs) (same name width) (given_inputs E F same ns)
given_inputs E F same (Register instance name start ∷ ns) = given_inputs E F same ns
given_inputs E F same (OfOne op a ∷ ns) = given_inputs E F same ns
given_inputs E F same (OfTwo op a b ∷ ns) = given_inputs E F same ns
given_inputs E F same (OfMux c a b ∷ ns) = given_inputs E F same ns

given_registers : (E F : tree.Origin → Bits) → ((instance name : List ℕ) (start : Bits) → E (tree.Register instance name start) ≡ F (tree.Register instance name start)) → (ns : List Shape) → map E (registers_of ns) ≡ map F (registers_of ns)
given_registers E F same [] = refl
given_registers E F same (Fixed b ∷ ns) = given_registers E F same ns
given_registers E F same (TopInput name width ∷ ns) = given_registers E F same ns
given_registers E F same (Register instance name start ∷ ns) = ap₂ (λ x xs. x ∷ xs) (same instance name start) (given_registers E F same ns)
given_registers E F same (OfOne op a ∷ ns) = given_registers E F same ns
given_registers E F same (OfTwo op a b ∷ ns) = given_registers E F same ns
given_registers E F same (OfMux c a b ∷ ns) = given_registers E F same ns

pub same_count : (os : List tree.Origin) (values : List Bits) → HaveWidths os values → length values ≡ length os
same_count os values e = sym (length-map values (λ (v : Bits). v.width)) ∙ ap length e ∙ length-map os origin_width

pub any_can_be_given : AnyCanBeGiven
any_can_be_given net is_net inputs registers i r =
    let d = distinct net.nodes is_net.shared in
    record {
      to_inputs =
          given_inputs (given net.nodes inputs registers) (value_beside (zip (inputs_of net.nodes) inputs)) (λ name width. refl) net.nodes
          ∙ looked_up (inputs_of net.nodes) inputs (apart input_in inputs_leafy net.nodes d) (same_count (inputs_of net.nodes) inputs i);
      to_registers =
          given_registers (given net.nodes inputs registers) (value_beside (zip (registers_of net.nodes) registers)) (λ instance name start. refl) net.nodes
          ∙ looked_up (registers_of net.nodes) registers (apart register_in registers_leafy net.nodes d) (same_count (registers_of net.nodes) registers r);
    }

-- ---- widths of what is given

origin_bits : (o : tree.Origin) → IsOrigin o → IsOf (origin_width o) (record { width = origin_width o; value = 0 })
origin_bits (tree.Input name width) good = record { width = refl; bits = record { some = good.0; most = good.1; fits = pow_pos width } }
origin_bits (tree.Register instance name start) good = record { width = refl; bits = record { some = good.some; most = good.most; fits = pow_pos start.width } }

beside_of : (os : List tree.Origin) (values : List Bits) → HaveWidths os values → All IsBits values → (o : tree.Origin) → IsOrigin o → IsOf (origin_width o) (value_beside (zip os values) o)
beside_of [] values e all o good = origin_bits o good
beside_of (p ∷ os) [] e all o good = cc
beside_of (p ∷ os) (v ∷ values) e all o good =
    let rest : map (λ (x : Bits). x.width) values ≡ map origin_width os = cc in
    by_test (beside_of os values rest (All-tail IsBits v values all) o good) (same_origin p o) refl
  where
    by_test : IsOf (origin_width o) (value_beside (zip os values) o) → (b : Bool) → same_origin p o ≡ b → IsOf (origin_width o) (if same_origin p o then v else value_beside (zip os values) o)
    by_test later true t =
        let w : v.width ≡ origin_width p = cc in
        subst (λ b. IsOf (origin_width o) (if b then v else value_beside (zip os values) o)) (sym t)
        (record { width = w ∙ ap origin_width (same_origin-sound p o t); bits = All-head IsBits v values all })
    by_test later false t = subst (λ b. IsOf (origin_width o) (if b then v else value_beside (zip os values) o)) (sym t) later

pub widths_are_given : WidthsAreGiven
widths_are_given net inputs registers i r all_inputs all_registers (tree.Input name width) good = beside_of (inputs_of net.nodes) inputs i all_inputs (tree.Input name width) good
widths_are_given net inputs registers i r all_inputs all_registers (tree.Register instance name start) good = beside_of (registers_of net.nodes) registers r all_registers (tree.Register instance name start) good

pub beside_width : (os : List tree.Origin) (values : List Bits) → HaveWidths os values → (o : tree.Origin) → (value_beside (zip os values) o).width ≡ origin_width o
beside_width [] values e o = refl
beside_width (p ∷ os) [] e o = cc
beside_width (p ∷ os) (v ∷ values) e o =
    let rest : map (λ (x : Bits). x.width) values ≡ map origin_width os = cc in
    let first : v.width ≡ origin_width p = cc in
    by_test first (beside_width os values rest o) (same_origin p o) refl
  where
    by_test : v.width ≡ origin_width p → (value_beside (zip os values) o).width ≡ origin_width o → (b : Bool) → same_origin p o ≡ b → (if same_origin p o then v else value_beside (zip os values) o).width ≡ origin_width o
    by_test first later true t = ap (λ b. (if b then v else value_beside (zip os values) o).width) t ∙ first ∙ ap origin_width (same_origin-sound p o t)
    by_test first later false t = ap (λ b. (if b then v else value_beside (zip os values) o).width) t ∙ later

given_width : (ns : List Shape) (inputs registers : List Bits) → HaveWidths (inputs_of ns) inputs → HaveWidths (registers_of ns) registers → (o : tree.Origin) → (given ns inputs registers o).width ≡ origin_width o
given_width ns inputs registers i r (tree.Input name width) = beside_width (inputs_of ns) inputs i (tree.Input name width)
given_width ns inputs registers i r (tree.Register instance name start) = beside_width (registers_of ns) registers r (tree.Register instance name start)

value_width : (E : tree.Origin → Bits) → ((o : tree.Origin) → (E o).width ≡ origin_width o) → (t : tree.Whole) → IsWhole t → (tree.value_of E t).width ≡ tree_width t
value_width E known (tree.Const b) whole = refl
value_width E known (tree.Leaf o) whole = known o
value_width E known (tree.One op a) whole = one_has_width op (tree.value_of E a) ∙ ap (width1_of op) (value_width E known a whole.0)
value_width E known (tree.Two op a b) whole =
    two_have_width op (tree.value_of E a) (tree.value_of E b) ∙ ap₂ (width2_of op) (value_width E known a whole.0) (value_width E known b whole.1)
value_width E known (tree.Mux c a b) whole =
    choice_has_width (tree.value_of E c) (tree.value_of E a) (tree.value_of E b)
    (value_width E known c whole.0 ∙ whole.3.0, value_width E known a whole.1 ∙ whole.3.1 ∙ sym (value_width E known b whole.2))
    ∙ value_width E known a whole.1

pub nodes_have_widths : NodesHaveWidths
nodes_have_widths net is_net inputs registers i r j l =
    value_width (given net.nodes inputs registers) (given_width net.nodes inputs registers i r) (tree_of net.nodes j) (is_net.shared.trees.whole j (omega (arith, trees_length net.nodes)))
