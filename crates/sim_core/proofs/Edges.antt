-- What a simulator's calls make of its state.
use Rattle.std.proofs.Common.{◌≡◌, ℕ, zero, suc, ◌+◌, ◌<◌, ◌==◌, Bool, true, false, true≢false, List, [], ◌∷◌, length, map, if◌then◌else◌, Option, Some, None, slice_get, refl, sym, ap, ap₂, ◌∙◌, subst, arith, eqb-true, eq-eqb}
use Rattle.std.specs.Prelude.{All, IsSome, IfSome}
use Rattle.std.proofs.lemmas.List.{length-map}
use Rattle.std.proofs.lemmas.List.Elements.{All-nil, All-cons, All-head, All-tail}
use Rattle.bv_core.specs.Value.{Bits}
use Rattle.tree_core.specs.Tree as tree
use Rattle.tree_core.specs.Width.{tree_width}
use Rattle.net_core.specs.Nodes.{Shape, Fixed, TopInput, Register, OfOne, OfTwo, OfMux, shape_at, node_tree, trees_of, tree_of, width_at}
use Rattle.net_core.specs.Nets.{NetParts, IsNet, IsNext, is_register, next_node}
use Rattle.net_core.proofs.TreeLists.{tree_is}
use Rattle.net_core.proofs.Solutions.{one_solution}
use Rattle.sim_core.specs.Leaves.{inputs_of, registers_of, starts_of, numbers_from, sources_of}
use Rattle.sim_core.specs.Given.{HaveWidths, Gives, given, node_value, next_registers, IsValue}
use Rattle.sim_core.specs.Steps.{bits_at}
use Rattle.sim_core.specs.State.{Simulated, IsSimulator, settled_under, after_edge}
use Rattle.sim_core.proofs.Origins.{any_can_be_given, same_count, nodes_have_widths}

-- ---- a new simulator

pub start_widths : (ns : List Shape) → HaveWidths (registers_of ns) (starts_of ns)
start_widths [] = refl
start_widths (Fixed b ∷ ns) = start_widths ns
start_widths (TopInput name width ∷ ns) = start_widths ns
start_widths (Register instance name start ∷ ns) = ap (λ ws. start.width ∷ ws) (start_widths ns)
start_widths (OfOne op a ∷ ns) = start_widths ns
start_widths (OfTwo op a b ∷ ns) = start_widths ns
start_widths (OfMux c a b ∷ ns) = start_widths ns

pub new_kept : (net : NetParts) (sources : List ℕ) (registers inputs values : List Bits) → IsNet net → sources ≡ sources_of net → registers ≡ starts_of net.nodes
    → length inputs ≡ length (inputs_of net.nodes) → length values ≡ length net.nodes → IsSimulator net sources registers inputs values false
new_kept net sources registers inputs values is_net beside starts count long = record {
  is_net = is_net;
  beside = beside;
  register_widths = subst (HaveWidths (registers_of net.nodes)) (sym starts) (start_widths net.nodes);
  input_count = count;
  value_count = long;
  input_widths = λ e. absurd (true≢false (sym e));
  solved = λ e. absurd (true≢false (sym e));
}

-- ---- the nodes of next values

number_count : (k : ℕ) (ns : List Shape) → length (numbers_from k ns) ≡ length (registers_of ns)
number_count k [] = refl
number_count k (Fixed b ∷ ns) = number_count (k + 1) ns
number_count k (TopInput name width ∷ ns) = number_count (k + 1) ns
number_count k (Register instance name start ∷ ns) = ap suc (number_count (k + 1) ns)
number_count k (OfOne op a ∷ ns) = number_count (k + 1) ns
number_count k (OfTwo op a b ∷ ns) = number_count (k + 1) ns
number_count k (OfMux c a b ∷ ns) = number_count (k + 1) ns

source_count : (net : NetParts) → length (sources_of net) ≡ length (registers_of net.nodes)
source_count net = length-map (numbers_from 0 net.nodes) (next_node net.nexts) ∙ number_count 0 net.nodes

pub record Named (nexts : List (ℕ × ℕ)) (i : ℕ) : Type 0 where
  pub place : ℕ
  pub at : slice_get nexts place ≡ Some (i, next_node nexts i)

pub named : (nexts : List (ℕ × ℕ)) (k i m : ℕ) → slice_get nexts k ≡ Some (i, m) → Named nexts i
named [] k i m e = cc
named (pair ∷ pairs) k i m e = by_test (λ j h. named pairs j i m h) k e (pair.0 == i) refl
  where
    by_test : ((j : ℕ) → slice_get pairs j ≡ Some (i, m) → Named pairs i) → (k : ℕ) → slice_get (pair ∷ pairs) k ≡ Some (i, m) → (b : Bool) → (pair.0 == i) ≡ b → Named (pair ∷ pairs) i
    by_test later k e true t =
        let same : pair.0 ≡ i = eqb-true pair.0 i t in
        record { place = 0; at = (λ z. Some (same z, pair.1)) ∙ ap (λ b. Some (i, if b then pair.1 else next_node pairs i)) (sym t) }
    by_test later zero e false t =
        let same : pair ≡ (i, m) = cc in
        absurd (true≢false (sym (eq-eqb pair.0 i (ap (λ (p : ℕ × ℕ). p.0) same)) ∙ t))
    by_test later (suc k) e false t =
        let more = later k e in
        record { place = suc more.place; at = more.at ∙ ap (λ b. Some (i, if b then pair.1 else next_node pairs i)) (sym t) }

module _ (net : NetParts) (is_net : IsNet net) where
  leaf : (k : ℕ) (instance name : List ℕ) (start : Bits) → k < length net.nodes → shape_at net.nodes k ≡ Register instance name start → tree_of net.nodes k ≡ tree.Leaf (tree.Register instance name start)
  leaf k instance name start l e = tree_is net.nodes is_net.shared.numbered k l ∙ ap (node_tree (trees_of net.nodes)) e

  next_is : (k : ℕ) (instance name : List ℕ) (start : Bits) → k < length net.nodes → shape_at net.nodes k ≡ Register instance name start → IsNext net.nodes (k, next_node net.nexts k)
  next_is k instance name start l e =
      let pair = is_net.nexts.each k l (ap is_register (leaf k instance name start l e)) in
      let found = named net.nexts pair.0 k pair.1.0 pair.1.1 in
      is_net.nexts.registers found.place (k, next_node net.nexts k) found.at

-- the nodes from k on
record From (ns : List Shape) (k : ℕ) (ms : List Shape) : Type 0 where
  count : k + length ms ≡ length ns
  at : (i : ℕ) → i < length ms → shape_at ns (k + i) ≡ shape_at ms i

from_all : (ns : List Shape) → From ns 0 ns
from_all ns = record { count = omega arith; at = λ i l. ap (shape_at ns) (let e : 0 + i ≡ i = omega arith in e) }

from_more : (ns : List Shape) (k : ℕ) (n : Shape) (ms : List Shape) → From ns k (n ∷ ms) → From ns (k + 1) ms
from_more ns k n ms f = record {
  count = let all = f.count in omega arith;
  at = λ i l. ap (shape_at ns) (let e : k + 1 + i ≡ k + suc i = omega arith in e) ∙ f.at (suc i) (omega arith);
}

from_inside : (ns : List Shape) (k : ℕ) (n : Shape) (ms : List Shape) → From ns k (n ∷ ms) → k < length ns
from_inside ns k n ms f = let all = f.count in omega arith

from_head : (ns : List Shape) (k : ℕ) (n : Shape) (ms : List Shape) → From ns k (n ∷ ms) → shape_at ns k ≡ n
from_head ns k n ms f = ap (shape_at ns) (let e : k ≡ k + 0 = omega arith in e) ∙ f.at 0 (omega arith)

module _ (net : NetParts) (is_net : IsNet net) where
  below_from : (k : ℕ) (ms : List Shape) → From net.nodes k ms → All (λ source. source < length net.nodes) (map (next_node net.nexts) (numbers_from k ms))
  below_from k [] f = All-nil (λ source. source < length net.nodes)
  below_from k (Fixed b ∷ ms) f = below_from (k + 1) ms (from_more net.nodes k _ ms f)
  below_from k (TopInput name width ∷ ms) f = below_from (k + 1) ms (from_more net.nodes k _ ms f)
  below_from k (Register instance name start ∷ ms) f =
      All-cons (λ source. source < length net.nodes) (next_node net.nexts k) (map (next_node net.nexts) (numbers_from (k + 1) ms))
      (next_is net is_net k instance name start (from_inside net.nodes k _ ms f) (from_head net.nodes k _ ms f)).next
      (below_from (k + 1) ms (from_more net.nodes k _ ms f))
  below_from k (OfOne op a ∷ ms) f = below_from (k + 1) ms (from_more net.nodes k _ ms f)
  below_from k (OfTwo op a b ∷ ms) f = below_from (k + 1) ms (from_more net.nodes k _ ms f)
  below_from k (OfMux c a b ∷ ms) f = below_from (k + 1) ms (from_more net.nodes k _ ms f)

  widths_from : (V : ℕ → Bits) → ((j : ℕ) → j < length net.nodes → (V j).width ≡ width_at net.nodes j) → (k : ℕ) (ms : List Shape) → From net.nodes k ms
      → HaveWidths (registers_of ms) (map V (map (next_node net.nexts) (numbers_from k ms)))
  widths_from V known k [] f = refl
  widths_from V known k (Fixed b ∷ ms) f = widths_from V known (k + 1) ms (from_more net.nodes k _ ms f)
  widths_from V known k (TopInput name width ∷ ms) f = widths_from V known (k + 1) ms (from_more net.nodes k _ ms f)
  widths_from V known k (Register instance name start ∷ ms) f =
      let inside = from_inside net.nodes k _ ms f in
      let here = from_head net.nodes k _ ms f in
      let next = next_is net is_net k instance name start inside here in
      ap₂ (λ x xs. x ∷ xs) (known (next_node net.nexts k) next.next ∙ next.width ∙ ap tree_width (leaf net is_net k instance name start inside here)) (widths_from V known (k + 1) ms (from_more net.nodes k _ ms f))
  widths_from V known k (OfOne op a ∷ ms) f = widths_from V known (k + 1) ms (from_more net.nodes k _ ms f)
  widths_from V known k (OfTwo op a b ∷ ms) f = widths_from V known (k + 1) ms (from_more net.nodes k _ ms f)
  widths_from V known k (OfMux c a b ∷ ms) f = widths_from V known (k + 1) ms (from_more net.nodes k _ ms f)

  pub sources_below : All (λ source. source < length net.nodes) (sources_of net)
  sources_below = below_from 0 net.nodes (from_all net.nodes)

  pub source_widths : (V : ℕ → Bits) → ((j : ℕ) → j < length net.nodes → (V j).width ≡ width_at net.nodes j) → HaveWidths (registers_of net.nodes) (map V (sources_of net))
  source_widths V known = widths_from V known 0 net.nodes (from_all net.nodes)

-- the registers after a cycle have their widths
pub next_widths : (net : NetParts) → IsNet net → (inputs registers : List Bits) → HaveWidths (inputs_of net.nodes) inputs → HaveWidths (registers_of net.nodes) registers
    → HaveWidths (registers_of net.nodes) (next_registers net inputs registers)
next_widths net is_net inputs registers i r =
    source_widths net is_net (node_value net.nodes inputs registers) (λ j l. nodes_have_widths net is_net inputs registers i r j l)

-- lists that agree at what stands in them
map_along : (V W : ℕ → Bits) (n : ℕ) → ((j : ℕ) → j < n → V j ≡ W j) → (xs : List ℕ) → All (λ x. x < n) xs → map V xs ≡ map W xs
map_along V W n same [] all = refl
map_along V W n same (x ∷ xs) all = ap₂ (λ y ys. y ∷ ys) (same x (All-head (λ y. y < n) x xs all)) (map_along V W n same xs (All-tail (λ y. y < n) x xs all))

-- ---- the state

-- a simulator that is settled, or is not
pub told : (settled : Bool) (inputs : List Bits) (P : List Bits → Type 0) → (settled ≡ true → P inputs) → IfSome (settled_under settled inputs) P
told true inputs P h = h refl
told false inputs P h = tt

pub is_settled : (settled : Bool) (inputs : List Bits) (o : Option (List Bits)) → settled_under settled inputs ≡ o → IsSome o → settled ≡ true
is_settled true inputs o e h = refl
is_settled false inputs o e h = let none : IsSome {T = List Bits} None = subst IsSome (sym e) h in cc

module _ (net : NetParts) (sources : List ℕ) (registers inputs values : List Bits) (settled : Bool) (k : IsSimulator net sources registers inputs values settled) where
  pub kept_sources : length registers ≡ length sources
  kept_sources =
      same_count (registers_of net.nodes) registers k.register_widths ∙ sym (source_count net) ∙ sym (ap length k.beside)

  pub kept_below : All (λ source. source < length values) sources
  kept_below = subst (λ n. All (λ source. source < n) sources) (sym k.value_count) (subst (All (λ source. source < length net.nodes)) (sym k.beside) (sources_below net k.is_net))

  module _ (e : settled ≡ true) where
    gives : Gives net.nodes inputs registers (given net.nodes inputs registers)
    gives = any_can_be_given net k.is_net inputs registers (k.input_widths e) k.register_widths

    pub value_of_node : (n : ℕ) → n < length net.nodes → bits_at values n ≡ node_value net.nodes inputs registers n
    value_of_node n l = (k.solved e).solved (given net.nodes inputs registers) gives n l

    pub solution_of_node : (n : ℕ) → n < length net.nodes → IsValue net.nodes inputs registers n (bits_at values n)
    solution_of_node n l = record {
      by_tree = λ E g. (k.solved e).solved E g n l;
      by_equations = λ E g V v. (k.solved e).solved E g n l ∙ sym ((one_solution net.nodes k.is_net.shared.numbered E).only V v n l);
    }

    pub next_taken : map (bits_at values) sources ≡ next_registers net inputs registers
    next_taken =
        ap (map (bits_at values)) k.beside
        ∙ map_along (bits_at values) (node_value net.nodes inputs registers) (length net.nodes) value_of_node (sources_of net) (sources_below net k.is_net)

    pub edge_kept : (new : List Bits) → new ≡ map (bits_at values) sources → IsSimulator net sources new inputs values false
    edge_kept new is = record {
      is_net = k.is_net;
      beside = k.beside;
      register_widths = subst (HaveWidths (registers_of net.nodes)) (ap (map (bits_at values)) (sym k.beside) ∙ sym is) (source_widths net k.is_net (bits_at values) (k.solved e).widths);
      input_count = k.input_count;
      value_count = k.value_count;
      input_widths = λ f. absurd (true≢false (sym f));
      solved = λ f. absurd (true≢false (sym f));
    }

  module _ (settles : ℕ) (s : Simulated) (view : ◌≡◌ {A = Simulated} (record { net = net; registers = registers; settled = settled_under settled inputs; settles = settles }) s) where
    pub settled_now : IsSome s.settled → settled ≡ true
    settled_now h = is_settled settled inputs s.settled (ap (λ (x : Simulated). x.settled) view) h

    pub value_told : (n : ℕ) (v : Bits) → n < length s.net.nodes → v ≡ bits_at values n → IfSome s.settled (λ given. v ≡ node_value s.net.nodes given s.registers n)
    value_told n v l is =
        subst (λ (x : Simulated). n < length x.net.nodes → IfSome x.settled (λ given. v ≡ node_value x.net.nodes given x.registers n)) view
        (λ m. told settled inputs (λ given. v ≡ node_value net.nodes given registers n) (λ e. is ∙ value_of_node e n m)) l

    pub solution_told : (n : ℕ) (v : Bits) → n < length s.net.nodes → v ≡ bits_at values n → IfSome s.settled (λ given. IsValue s.net.nodes given s.registers n v)
    solution_told n v l is =
        subst (λ (x : Simulated). n < length x.net.nodes → IfSome x.settled (λ given. IsValue x.net.nodes given x.registers n v)) view
        (λ m. told settled inputs (λ given. IsValue net.nodes given registers n v) (λ e. subst (IsValue net.nodes inputs registers n) (sym is) (solution_of_node e n m))) l

    pub edge_told : (new : List Bits) → new ≡ map (bits_at values) sources
        → IfSome s.settled (λ given. ◌≡◌ {A = Simulated} (record { net = net; registers = new; settled = None; settles = settles }) (after_edge given s))
    edge_told new is =
        subst (λ (x : Simulated). IfSome x.settled (λ given. ◌≡◌ {A = Simulated} (record { net = net; registers = new; settled = None; settles = settles }) (after_edge given x))) view
        (told settled inputs (λ given. ◌≡◌ {A = Simulated} (record { net = net; registers = new; settled = None; settles = settles }) (record { net = net; registers = next_registers net given registers; settled = None; settles = settles }))
        (λ e. ap (λ rs. record { net = net; registers = rs; settled = None; settles = settles }) (is ∙ next_taken e)))
