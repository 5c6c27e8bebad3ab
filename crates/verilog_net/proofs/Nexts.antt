-- What a register takes next is told by trees.
use Rattle.std.proofs.Common.{◌≡◌, ℕ, ◌<◌, ◌≤◌, ◌==◌, nat_lt, Bool, true, false, true≢false, eqb-true, eq-eqb, List, [], ◌∷◌, length, map, Option, Some, None, option_map, if◌then◌else◌, ◌⊎◌, inl, inr, refl, sym, ap, ◌∙◌, subst, arith}
use Rattle.std.specs.Prelude.{slice_get, option_and_then}
use Rattle.std.specs.List.{filter_map, cons_option}
use Rattle.std.proofs.lemmas.List.{get_or_past}
use Rattle.std.proofs.lemmas.Option.{none-some, same_Some}
use Rattle.std.proofs.lemmas.Bool.Decides.{nat_tests}
use Rattle.bv_core.specs.Value.{Bits}
use Rattle.tree_core.specs.Tree as tree
use Rattle.tree_core.specs.Tree.{Leaf, Origin, Whole}
use Rattle.list_core.specs.Lists.{IsIn, from}
use Rattle.exec_core.specs.Whole.{Place}
use Rattle.exec_core.specs.Design.{next_tree, folded_tree}
use Rattle.exec_core.specs.Kept.{next_if, next_in}
use Rattle.exec_core.specs.States.{OverGivens}
use Rattle.list_core.proofs.Lists.{each_member}
use Rattle.exec_core.proofs.Running.{holder_found}
use Rattle.design_core.specs.Design.{Design}
use Rattle.design_exec.specs.Processes.{Given, processes_of}
use Rattle.net_core.specs.Nodes.{Shape, Fixed, TopInput, Register, OfOne, OfTwo, OfMux, no_shape, shape_at, tree_at, node_tree, trees_of, tree_of}
use Rattle.net_core.specs.Builder.{Stands}
use Rattle.net_core.specs.Nets.{NetParts, NextsFit, next_node}
use Rattle.net_core.proofs.TreeLists.{trees_length, tree_is}
use Rattle.check_exec.specs.Premises.{IsSound}
use Rattle.check_exec.proofs.Givens.{givens_are_apart}
use Rattle.world_core.specs.declared.mode.Mode.{Mode}
use Rattle.list_core.proofs.Listing.{map_from}
use Rattle.walk_net.proofs.Nodes.{tree_in, one_node}
use Rattle.lower_core.specs.Lowered.{HasNext}
use Rattle.trim_core.specs.Trimmed.{IsKeptNet, NextKept}
use Rattle.verilog_out.specs.Printed.{is_register}
use Rattle.verilog_out.proofs.Members.{place_of, from_in}
use Rattle.verilog_out.proofs.MeansNet as means
use Rattle.trim_core.specs.KeptNet.{number_of, origin_of, next_at}
use Rattle.trim_table.proofs.Nodes.{stands_at}

-- ---- what stands beside a number

-- in a list that names each number once
beside : (ns : List Shape) (nexts : List (ℕ × ℕ)) → NextsFit ns nexts → (i n : ℕ) → IsIn (i, n) nexts → next_node nexts i ≡ n
beside ns nexts fit i n among =
    let p = place_of nexts (i, n) among in
    let q = place_of nexts (i, next_node nexts i) (means.next_in nexts i n among) in
    let place : q.place ≡ p.place = fit.once q.place p.place i (next_node nexts i) n q.at p.at in
    let one : ◌≡◌ {A = Option (ℕ × ℕ)} (Some (i, next_node nexts i)) (Some (i, n)) = sym q.at ∙ ap (slice_get nexts) place ∙ p.at in
    ap (λ (pair : ℕ × ℕ). pair.1) (same_Some (i, next_node nexts i) (i, n) one)

-- in a list of what numbers are given, each by its own number
found : (f : ℕ → Option (ℕ × ℕ)) → ((j : ℕ) (pair : ℕ × ℕ) → f j ≡ Some pair → pair.0 ≡ j) → (js : List ℕ) (i n : ℕ) → IsIn i js → f i ≡ Some (i, n) → next_node (filter_map f js) i ≡ n
found f own [] i n m e = absurd m
found f own (j ∷ js) i n m e = by_found (λ at. found f own js i n at e) (f j) refl m
  where
    by_test : (IsIn i js → next_node (filter_map f js) i ≡ n) → (pair : ℕ × ℕ) → f j ≡ Some pair → (i ≡ j) ⊎ IsIn i js → (b : Bool) → (pair.0 == i) ≡ b → (if b then pair.1 else next_node (filter_map f js) i) ≡ n
    by_test rest pair g k true t =
        let here : j ≡ i = sym (own j pair g) ∙ eqb-true pair.0 i t in
        let both : ◌≡◌ {A = Option (ℕ × ℕ)} (Some pair) (Some (i, n)) = sym g ∙ ap f here ∙ e in
        ap (λ (p : ℕ × ℕ). p.1) (same_Some pair (i, n) both)
    by_test rest pair g (inl same) false t = absurd (true≢false (sym (eq-eqb pair.0 i (own j pair g ∙ sym same)) ∙ t))
    by_test rest pair g (inr at) false t = rest at

    by_found : (IsIn i js → next_node (filter_map f js) i ≡ n) → (o : Option (ℕ × ℕ)) → f j ≡ o → (i ≡ j) ⊎ IsIn i js → next_node (cons_option o (filter_map f js)) i ≡ n
    by_found rest None g (inl same) = absurd (none-some (i, n) (sym g ∙ ap f (sym same) ∙ e))
    by_found rest None g (inr at) = rest at
    by_found rest (Some pair) g k = by_test rest pair g k (pair.0 == i) refl

own_number : (next : Origin → Option Whole) (ts : List Whole) (j : ℕ) (pair : ℕ × ℕ) → next_at next ts j ≡ Some pair → pair.0 ≡ j
own_number next ts j pair e = by_tree (option_and_then next (origin_of (tree_at ts j))) e
  where
    by_tree : (o : Option Whole) → option_map (λ t. (j, number_of ts t)) o ≡ Some pair → pair.0 ≡ j
    by_tree None e = absurd (none-some pair e)
    by_tree (Some t) e = ap (λ (p : ℕ × ℕ). p.0) (sym (same_Some (j, number_of ts t) pair e))

-- ---- a register

record IsRegister (s : Shape) : Type 0 where
  instance : List ℕ
  name : List ℕ
  start : Bits
  is : s ≡ Register instance name start

register_of : (s : Shape) → is_register s ≡ true → IsRegister s
register_of (TopInput name width) e = cc
register_of (Fixed b) e = cc
register_of (Register instance name start) e = record { instance = instance; name = name; start = start; is = refl }
register_of (OfOne op a) e = cc
register_of (OfTwo op a b) e = cc
register_of (OfMux c a b) e = cc

register_within : (ns : List Shape) (i : ℕ) → is_register (shape_at ns i) ≡ true → i < length ns
register_within ns i e = by_test (nat_lt i (length ns)) refl
  where
    by_test : (b : Bool) → nat_lt i (length ns) ≡ b → i < length ns
    by_test true t = grind (arith, nat_tests, t)
    by_test false t =
        let past : length ns ≤ i = grind (arith, nat_tests, t) in
        absurd (true≢false (sym e ∙ ap is_register (get_or_past ns i no_shape past)))

module _ (d : Design) (n : ℕ) (mode : Mode) (net : NetParts) (sound : IsSound d) (kept : IsKeptNet d n mode net) where
  abbrev ts : List Whole
  ts = trees_of net.nodes

  abbrev next : Origin → Option Whole
  next = next_in (processes_of d) n

  -- the tree that a register of the design takes next
  next_is : (p : Place) (instance name : List ℕ) (start : Bits) → IsIn (p, tree.Register instance name start) (processes_of d).givens
      → next (tree.Register instance name start) ≡ Some (folded_tree (processes_of d) n (next_tree (processes_of d) p))
  next_is p instance name start m = ap (next_if (processes_of d) n) (holder_found (processes_of d).givens (givens_are_apart d sound) (p, tree.Register instance name start) m)

  -- the node beside a register's node is that of this tree
  module _ (i : ℕ) (within : i < length net.nodes) (instance name : List ℕ) (start : Bits) (is : tree_of net.nodes i ≡ Leaf (tree.Register instance name start)) (p : Place) (there : IsIn (p, tree.Register instance name start) (processes_of d).givens) where
    abbrev origin : Origin
    origin = tree.Register instance name start

    has : HasNext d n net p origin
    has = each_member (λ (given : Given). NextKept d n net given.0 given.1) (processes_of d).givens kept.nexts (p, origin) there (subst (λ t. IsIn t ts) is (tree_in net.nodes i within))

    same : has.id ≡ i
    same = one_node net.nodes kept.is_net.shared has.id i has.register.within within (has.register.tree ∙ sym is)

    left : next_node net.nexts i ≡ has.next
    left = beside net.nodes net.nexts kept.is_net.nexts i has.next (subst (λ j. IsIn (j, has.next) net.nexts) same has.among)

    -- whatever stands beside the register's node stands for the tree that it takes next
    pub next_stands : (k : ℕ) → IsIn (i, k) net.nexts → Stands net.nodes k (folded_tree (processes_of d) n (next_tree (processes_of d) p))
    next_stands k among = subst (λ j. Stands net.nodes j (folded_tree (processes_of d) n (next_tree (processes_of d) p))) (sym left ∙ beside net.nodes net.nexts kept.is_net.nexts i k among) has.stands

    given : next_at next ts i ≡ Some (i, has.next)
    given =
        ap (λ t. option_map (λ (u : Whole). (i, number_of ts u)) (option_and_then next (origin_of t))) is
        ∙ ap (option_map (λ (u : Whole). (i, number_of ts u))) (next_is p instance name start there)
        ∙ ap (λ k. Some (i, k)) (stands_at net.nodes kept.is_net.shared has.next _ has.stands)

    pub beside_same : next_node net.nexts i ≡ next_node (filter_map (next_at next ts) (from 0 (length ts))) i
    beside_same =
        let inside : i < length ts = omega (arith, trees_length net.nodes, within) in
        left ∙ sym (found (next_at next ts) (own_number next ts) (from 0 (length ts)) i has.next (from_in 0 (length ts) i (omega arith) (omega (arith, inside))) given)

  -- each register of the net is one of the design
  pub nexts_are : (i : ℕ) → is_register (shape_at net.nodes i) ≡ true → next_node net.nexts i ≡ next_node (filter_map (next_at next ts) (from 0 (length ts))) i
  nexts_are i e =
      let within = register_within net.nodes i e in
      let r = register_of (shape_at net.nodes i) e in
      let is : tree_of net.nodes i ≡ Leaf (tree.Register r.instance r.name r.start) = tree_is net.nodes kept.is_net.shared.numbered i within ∙ ap (node_tree ts) r.is in
      let among : IsIn (tree.Register r.instance r.name r.start) (map (λ (given : Given). given.1) (processes_of d).givens) = subst (λ (t : Whole). OverGivens (processes_of d) t) is (kept.over i within) in
      let given = map_from (λ (given : Given). given.1) (processes_of d).givens (tree.Register r.instance r.name r.start) among in
      let there : IsIn (given.0.0, tree.Register r.instance r.name r.start) (processes_of d).givens = subst (λ (o : Origin). IsIn (given.0.0, o) (processes_of d).givens) (sym given.1.1) given.1.0 in
      beside_same i within r.instance r.name r.start is given.0.0 there
