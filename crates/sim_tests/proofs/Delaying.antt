-- A register that takes an input: its next value, and its ports.
use Rattle.std.proofs.Common.{◌≡◌, ℕ, zero, suc, ◌<◌, true, List, [], ◌∷◌, ◌++◌, length, map, slice_get, codes, get_or, inl, inr, Some, true≢false, false, eq-eqb, ◌==◌, refl, sym, ap, ap₂, ◌∙◌, subst, arith}
use Rattle.std.proofs.lemmas.Option.{slice_get_within, get_or_from_slice_get}
use Rattle.bv_core.specs.Value.{Bits}
use Rattle.bv_core.specs.declared.reference.NodeId.{NodeId}
use Rattle.tree_core.specs.Tree.{Whole, Leaf, Input, Register}
use Rattle.tree_core.specs.Width.{tree_width}
use Rattle.list_core.specs.Lists.{IsIn, AreApart}
use Rattle.design_core.specs.declared.ports.Ports.{Ports}
use Rattle.net_core.specs.Nodes.{Shape, TopInput, no_shape, node_tree, tree_at, trees_of, tree_of, width_at}
use Rattle.net_core.specs.Builder.{with_tree, Adds, Stands, Keeps}
use Rattle.net_core.specs.Nets.{NetParts, is_register, IsNext, NextsFit, IsNet, nexts_of}
use Rattle.net_core.proofs.TreeLists.{trees_length, no_trees, tree_is}
use Rattle.verilog_out.specs.Printed.{FitsPorts}
use Rattle.sim_hist.specs.Run.{InputsArePorts}

module _ (start : Bits) where
  abbrev data_in : Whole
  data_in = Leaf (Input (codes "d") 8)

  abbrev register : Whole
  register = Leaf (Register (codes "A") (codes "r") start)

  abbrev both : List Whole
  both = data_in ∷ register ∷ []

  -- the calls that make it
  pub record Made (ns0 ns1 ns2 : List Shape) (d r : ℕ) : Type 0 where
    pub none : ns0 ≡ []
    pub first : Adds ns0 ns1 (Leaf (Input (codes "d") 8))
    pub data_is : Stands ns1 d (Leaf (Input (codes "d") 8))
    pub second : Adds ns1 ns2 (Leaf (Register (codes "A") (codes "r") start))
    pub keeps : Keeps ns1 ns2
    pub register_is : Stands ns2 r (Leaf (Register (codes "A") (codes "r") start))

  module _ (ns0 ns1 ns2 : List Shape) (d r : ℕ) (m : Made ns0 ns1 ns2 d r) where
    d2 : d < length ns2
    d2 = let a : d < length ns1 = m.data_is.within in omega (arith, m.keeps.longer)

    r2 : r < length ns2
    r2 = m.register_is.within

    data2 : tree_of ns2 d ≡ data_in
    data2 = m.keeps.same d m.data_is.within ∙ m.data_is.tree

    register2 : tree_of ns2 r ≡ register
    register2 = m.register_is.tree

    trees2 : trees_of ns2 ≡ both
    trees2 = m.second ∙ ap (with_tree register) (m.first ∙ ap (λ v. with_tree data_in (trees_of v)) m.none ∙ ap (with_tree data_in) no_trees)

    two : length ns2 ≡ 2
    two = sym (trees_length ns2) ∙ ap length trees2

    register_at : (i : ℕ) → i < 2 → is_register (tree_at both i) ≡ true → i ≡ 1
    register_at zero l h = cc
    register_at (suc zero) l h = refl
    register_at (suc (suc i)) l h = absurd (omega arith)

    only : (i : ℕ) → i < length ns2 → is_register (tree_of ns2 i) ≡ true → i ≡ 1
    only i l h = register_at i (subst (λ k. i < k) two l) (ap (λ ts. is_register (tree_at ts i)) (sym trees2) ∙ h)

    the_next : start.width ≡ 8 → IsNext ns2 (r, d)
    the_next w = record {
      within = r2;
      register = ap is_register register2;
      next = d2;
      width = ap tree_width data2 ∙ sym w ∙ sym (ap tree_width register2);
    }

    some_pair : (a b : ℕ × ℕ) → Some a ≡ Some b → a ≡ b
    some_pair a b h = cc

    registers : start.width ≡ 8 → (k : ℕ) (pair : ℕ × ℕ) → slice_get {X = ℕ × ℕ} ((r, d) ∷ []) k ≡ Some pair → IsNext ns2 pair
    registers w zero pair h = subst (IsNext ns2) (some_pair _ _ h) (the_next w)
    registers w (suc k) pair h = cc

    once : (j k i x y : ℕ) → slice_get {X = ℕ × ℕ} ((r, d) ∷ []) j ≡ Some (i, x) → slice_get {X = ℕ × ℕ} ((r, d) ∷ []) k ≡ Some (i, y) → j ≡ k
    once zero zero i x y p q = refl
    once zero (suc k) i x y p q = cc
    once (suc j) k i x y p q = cc

    pub next_fits : start.width ≡ 8 → NextsFit ns2 ((r, d) ∷ [])
    next_fits w = record {
      registers = registers w;
      each = λ i l h. (0, (d, ap (λ k. Some (k, d)) (only r r2 (ap is_register register2) ∙ sym (only i l h))));
      once = once;
    }

    -- ---- its ports

    input_at : (i : ℕ) → i < 2 → (name : List ℕ) (width : ℕ) → tree_at both i ≡ Leaf (Input name width) → (codes "d" ≡ name) × (8 ≡ width)
    input_at zero l name width h = let p : codes "d" ≡ name = cc in let q : 8 ≡ width = cc in (p, q)
    input_at (suc zero) l name width h = cc
    input_at (suc (suc i)) l name width h = absurd (omega arith)

    inputs_are : (net : NetParts) → IsNet net → net.nodes ≡ ns2 → (i : ℕ) (name : List ℕ) (width : ℕ) → slice_get net.nodes i ≡ Some (TopInput name width) → (codes "d" ≡ name) × (8 ≡ width)
    inputs_are net is same i name width h =
        let l = slice_get_within net.nodes i _ h in
        let leaf : tree_of net.nodes i ≡ Leaf (Input name width) = tree_is net.nodes is.shared.numbered i l ∙ ap (node_tree (trees_of net.nodes)) (get_or_from_slice_get net.nodes i _ no_shape h) in
        input_at i (subst (λ k. i < k) (ap length same ∙ two) l) name width (ap (λ ts. tree_at ts i) (sym trees2) ∙ ap (λ v. tree_of v i) (sym same) ∙ leaf)

    differ : (a b : List ℕ) → (get_or a 0 0 == get_or b 0 0) ≡ false → a ≡ b → ⊥
    differ a b f same = true≢false (sym (eq-eqb (get_or a 0 0) (get_or b 0 0) (ap (λ (l : List ℕ). get_or l 0 0) same)) ∙ f)

    pub placed : (net : NetParts) → IsNet net → net.nodes ≡ ns2 → (ports : Ports) → ports.inputs ≡ (codes "x", 8) ∷ (codes "d", 8) ∷ [] → InputsArePorts net.nodes ports
    placed net is same ports ins i name width h =
        let e = inputs_are net is same i name width h in
        (1, ap (λ (ps : List (List ℕ × ℕ)). slice_get ps 1) ins ∙ (λ k. Some (e.0 k, e.1 k)))

    pub fits : (net : NetParts) → IsNet net → net.nodes ≡ ns2 → net.outputs ≡ [] → (ports : Ports) → ports.inputs ≡ (codes "x", 8) ∷ (codes "d", 8) ∷ [] → ports.outputs ≡ [] → FitsPorts net ports
    fits net is same outs ports ins out = record {
      inputs = λ i name width h. let e = inputs_are net is same i name width h in subst (IsIn {A = List ℕ × ℕ} (name, width)) (sym ins) (inr (inl (λ k. (sym e.0 k, sym e.1 k))));
      apart =
          subst AreApart (sym (ap₂ (λ (a b : List (List ℕ × ℕ)). map (λ (port : List ℕ × ℕ). port.0) (a ++ b)) ins out))
          ((differ (codes "d") (codes "x") refl, tt), (tt, tt));
      outputs =
          ap (map (λ (output : List ℕ × ℕ). (output.0, width_at net.nodes output.1))) outs
          ∙ sym out;
    }

-- the list that a program hands over
pub one_next : (items old : List (NodeId × NodeId)) (r d : NodeId) → old ≡ [] → items ≡ old ++ (r, d) ∷ [] → nexts_of items ≡ (r.0, d.0) ∷ []
one_next items old r d e f = ap nexts_of (f ∙ ap (λ v. v ++ (r, d) ∷ []) e)
