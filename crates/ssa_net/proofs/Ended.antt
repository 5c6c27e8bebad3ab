-- What lowering comes to.
use Rattle.std.proofs.Common.{◌≡◌, ℕ, true, List, [], ◌∷◌, length, Option, Some, None, IsSome, refl, sym, ap, ◌∙◌, subst, arith}
use Rattle.std.specs.Prelude.{slice_index_or}
use Rattle.std.proofs.lemmas.Option.{none-some}
use Rattle.bv_core.specs.declared.reference.NodeId.{NodeId}
use Rattle.tree_core.specs.Tree.{Leaf, Origin, Input, Register}
use Rattle.exec_core.specs.Block.{Name}
use Rattle.list_core.specs.Lists.{EachOf, IsIn}
use Rattle.exec_core.specs.Design.{next_tree}
use Rattle.exec_core.specs.Whole.{Place}
use Rattle.list_core.proofs.Lists.{each_member}
use Rattle.design_core.specs.Design as design
use Rattle.design_core.specs.Ports.{ports_in, top_signals}
use Rattle.design_exec.specs.Processes.{processes_of}
use Rattle.check_exec.proofs.Facts.{in_at, each_index}
use Rattle.place_core.specs.Numbering.{number_in}
use Rattle.net_core.specs.Nodes.{Shape}
use Rattle.net_core.specs.Builder.{AreShared, Stands}
use Rattle.net_core.specs.Nets.{NetParts, IsNet}
use Rattle.world_core.specs.declared.mode.Mode.{Mode}
use Rattle.lower_core.specs.declared.row.Lowered as lowered
use Rattle.lower_core.specs.Shape.{shape_of}
use Rattle.world_core.specs.Sites.{all_spots}
use Rattle.lower_core.specs.Rows.{AreTold}
use Rattle.lower_core.specs.Lowered.{HasNode, OutputsTold, NextTold as NextIs, IsLowered}
use Rattle.next_net.specs.Nexts.{NextTold, AllNext}
use Rattle.place_core.specs.Orders.{Pair}
use Rattle.term_net.specs.Leaves.{node_in}
use Rattle.ssa_nodes.specs.State.{node_of, AllOverGivens}
use Rattle.ssa_nodes.specs.declared.parts.Parts as code
use Rattle.ssa_nodes.specs.Parts.{HasParts, HasSignals, HasState, all_in, design_in, folded_of}
use Rattle.ssa_nodes.specs.Driving.{AllHave}
use Rattle.ssa_nodes.proofs.Sources.{accepted, by_node}

-- a builder without nodes
pub nothing_yet : (p : code.Parts) (ns : List Shape) (nodes : List (Option NodeId)) → ns ≡ [] → AreShared ns → ((k : ℕ) → slice_index_or nodes k None ≡ None) → HasSignals p ns nodes
nothing_yet p ns nodes e shared none = record {
  shared = shared;
  placed = record { within = λ k id at. absurd (none-some id (sym (none k) ∙ at)) };
  signals = record { told = λ q id at. absurd (by_number (number_in (all_in p) q) id at) };
}
  where
    by_number : (o : Option ℕ) (id : NodeId) → node_in nodes o ≡ Some id → ⊥
    by_number None id at = none-some id at
    by_number (Some k) id at = none-some id (sym (none k) ∙ at)

pub over_nothing : (p : code.Parts) (ns : List Shape) → ns ≡ [] → AllOverGivens (processes_of (design_in p)) ns
over_nothing p ns e j below = absurd (let never : ⊥ = omega (arith, below, ap length e) in never)

-- what is given has a node
pub givens_have : (p : code.Parts) → HasParts p → (ns : List Shape) (nodes : List (Option NodeId)) (memos : List (List (Option NodeId))) → HasState p ns nodes memos → AllHave p nodes → EachOf (HasNode ns) (processes_of (design_in p)).givens
givens_have p h ns nodes memos s all = each_index (HasNode ns) (processes_of (design_in p)).givens (λ k given at. has given (in_at (processes_of (design_in p)).givens k given at))
  where
    has : (given : Place × Origin) → IsIn given (processes_of (design_in p)).givens → HasNode ns given
    has given m = by_node_of (node_of (all_in p) nodes given.0) refl (all given.0 (each_member _ (processes_of (design_in p)).givens (accepted p h).givens given m).signal)
      where
        by_node_of : (o : Option NodeId) → node_of (all_in p) nodes given.0 ≡ o → IsSome o → HasNode ns given
        by_node_of None at some = cc
        by_node_of (Some id) at some = record {
          id = id.0;
          stands = subst (Stands ns id.0) (each_member (λ (g : Place × Origin). folded_of p (Leaf g.0) ≡ Leaf g.1) (processes_of (design_in p)).givens (by_node p h).given given m) (s.signals.told given.0 id at);
        }

-- ---- next values

next_of : (p : code.Parts) (net : NetParts) (ns : List Shape) (nexts : List (ℕ × ℕ)) → net.nodes ≡ ns → net.nexts ≡ nexts → (q : Place) (o : Origin) → NextTold p ns nexts q o → NextIs (design_in p) (length p.order.now) net q o
next_of p net ns nexts e f q (Input name width) h = tt
next_of p net ns nexts e f q (Register instance name start) h = record {
  id = h.id;
  next = h.next;
  among = subst (IsIn (h.id, h.next)) (sym f) h.among;
  register = subst (λ s. Stands s h.id (Leaf (Register instance name start))) (sym e) h.register;
  stands = subst (λ s. Stands s h.next (folded_of p (next_tree (processes_of (design_in p)) q))) (sym e) h.stands;
}

pub all_next : (p : code.Parts) (net : NetParts) (ns : List Shape) (nexts : List (ℕ × ℕ)) (givens : List (Place × Origin)) → net.nodes ≡ ns → net.nexts ≡ nexts → EachOf (λ given. NextTold p ns nexts given.0 given.1) givens → EachOf (λ given. NextIs (design_in p) (length p.order.now) net given.0 given.1) givens
all_next p net ns nexts [] e f h = tt
all_next p net ns nexts (g ∷ givens) e f h = (next_of p net ns nexts e f g.0 g.1 h.0, all_next p net ns nexts givens e f h.1)

-- ---- the whole

pub lowered_by :
    (p : code.Parts) → HasParts p → (nodes : List (Option NodeId)) (memos : List (List (Option NodeId))) (ns : List Shape) (outputs : List (Name × ℕ)) (nexts : List (ℕ × ℕ)) (wanted : Mode) (l : lowered.Lowered)
    → HasState p ns nodes memos → AllHave p nodes
    → l.mode ≡ wanted → l.shape ≡ shape_of (design_in p) → IsNet l.net → l.net ≡ record { nodes = ns; outputs = outputs; nexts = nexts }
    → AreTold (design_in p) (length p.order.now) ns (all_spots (design_in p)) l.rows
    → OutputsTold (design_in p) (length p.order.now) ns (ports_in true (top_signals (design_in p))) outputs → AllNext p ns nexts
    → IsLowered (design_in p) (length p.order.now) wanted l
lowered_by p h nodes memos ns outputs nexts wanted l s all mode shape net is rows outs next =
    let e : l.net.nodes ≡ ns = ap (λ (n : NetParts). n.nodes) is in
    let o : l.net.outputs ≡ outputs = ap (λ (n : NetParts). n.outputs) is in
    let f : l.net.nexts ≡ nexts = ap (λ (n : NetParts). n.nexts) is in
    let d = design_in p in
    let n = length p.order.now in
    record {
      mode = mode;
      shape = shape;
      is_net = net;
      rows = subst (λ m. AreTold d n m (all_spots d) l.rows) (sym e) rows;
      outputs = subst (λ m. OutputsTold d n m (ports_in true (top_signals d)) l.net.outputs) (sym e) (subst (OutputsTold d n ns (ports_in true (top_signals d))) (sym o) outs);
      givens = subst (λ m. EachOf (HasNode m) (processes_of d).givens) (sym e) (givens_have p h ns nodes memos s all);
      nexts = all_next p l.net ns nexts (processes_of d).givens e f next;
      over = subst (AllOverGivens (processes_of d)) (sym e) s.over;
    }

-- of this design and order
pub lowered_of : (p : code.Parts) (d : design.Design) (order : List Pair) (wanted : Mode) (l : lowered.Lowered) → design_in p ≡ d → p.order.now ≡ order → IsLowered (design_in p) (length p.order.now) wanted l → IsLowered d (length order) wanted l
lowered_of p d order wanted l e f h = subst (λ x. IsLowered x (length order) wanted l) e (subst (λ os. IsLowered (design_in p) (length os) wanted l) f h)
