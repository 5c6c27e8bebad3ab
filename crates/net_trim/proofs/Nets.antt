-- The net that is kept of a lowered design is that of the design's kept trees.
use Rattle.std.proofs.Common.{◌≡◌, ℕ, zero, suc, ◌<◌, true, List, [], ◌∷◌, length, map, Some, inl, inr, refl, sym, ap, ◌∙◌, subst}
use Rattle.std.specs.Prelude.{slice_get}
use Rattle.std.proofs.lemmas.List.{length-map}
use Rattle.std.proofs.lemmas.Option.{none-some, same_Some, slice_get_within, get_or_from_slice_get, slice_get-get_or}
use Rattle.bv_core.specs.declared.reference.NodeId.{NodeId}
use Rattle.tree_core.specs.Tree.{Leaf, One, Two, Mux, Origin, Input, Register, Whole}
use Rattle.tree_core.specs.Width.{tree_width}
use Rattle.exec_core.specs.Block.{Name}
use Rattle.list_core.specs.Lists.{EachOf, IsIn}
use Rattle.exec_core.specs.Whole.{Place}
use Rattle.exec_core.specs.Design.{next_tree, folded_tree}
use Rattle.exec_core.specs.States.{OverGivens}
use Rattle.exec_core.specs.Kept.{IsKept, root, of_one, of_left, of_right, of_test, of_then, of_else, of_register, NumberedAreKept, next_in, numbered}
use Rattle.list_core.proofs.Lists.{each_member, each_from}
use Rattle.design_core.specs.Design.{Design}
use Rattle.design_core.specs.Ports.{ports_in, top_signals}
use Rattle.design_exec.specs.Processes.{Given, processes_of}
use Rattle.net_core.specs.Nodes.{Shape, trees_of, tree_of}
use Rattle.net_core.specs.Builder.{Stands}
use Rattle.net_core.specs.Nets.{NetParts, IsNet, is_register}
use Rattle.net_core.proofs.TreeLists.{trees_length}
use Rattle.check_exec.proofs.Facts.{in_index}
use Rattle.world_core.specs.declared.mode.Mode.{Mode}
use Rattle.world_core.specs.Kept.{asked_trees, kept_trees}
use Rattle.lower_core.specs.declared.row.Lowered as code
use Rattle.lower_core.specs.Lowered.{OutputsTold, IsLowered}
use Rattle.walk_net.specs.Next.{tree_by, trees_by, next_whole}
use Rattle.walk_net.specs.Renaming.{IsNode}
use Rattle.walk_net.specs.Answer.{AreNumbers, OutputsStand, NextStands}
use Rattle.trim_core.specs.Trimmed.{NextKept, IsKeptNet}
use Rattle.net_trim.specs.Roots.{root_ids}
use Rattle.net_trim.proofs.Asked.{asked_are, asked_nodes}
use Rattle.net_trim.proofs.Nexts.{nexts_same, next_given, next_over, register_next}

got_in : {A : Type 0} (xs : List A) (k : ℕ) (x : A) → slice_get xs k ≡ Some x → IsIn x xs
got_in [] k x e = absurd (none-some x e)
got_in (y ∷ xs) zero x e = inl (sym (same_Some y x e))
got_in (y ∷ xs) (suc k) x e = inr (got_in xs k x e)

-- what the walk over a net gave
pub record IsKeptOf (net : NetParts) (roots : List Whole) (kept : NetParts) : Type 0 where
  pub rounds : AreNumbers roots (next_whole net) (trees_of kept.nodes)
  pub are_kept : NumberedAreKept roots (next_whole net) (trees_of kept.nodes)
  pub outputs : OutputsStand net.nodes kept.nodes net.outputs kept.outputs
  pub nexts : EachOf (NextStands (next_whole net) kept.nodes) kept.nexts
  pub is_net : IsNet kept

-- a node's tree is among the trees, and each of these is a node's
pub node_in : (ns : List Shape) (id : ℕ) (t : Whole) → Stands ns id t → IsIn t (trees_of ns)
node_in ns id t s = got_in (trees_of ns) id t (slice_get-get_or (trees_of ns) id _ (subst (λ m. id < m) (sym (trees_length ns)) s.within) ∙ ap (λ u. Some u) s.tree)

pub in_node : (ns : List Shape) (t : Whole) → IsIn t (trees_of ns) → (id : ℕ) × Stands ns id t
in_node ns t i =
    let at = in_index (trees_of ns) t i in (
      at.0,
      record {
        within = subst (λ m. at.0 < m) (trees_length ns) (slice_get_within (trees_of ns) at.0 t at.1);
        tree = get_or_from_slice_get (trees_of ns) at.0 t _ at.1;
      },
    )

outputs_told : (d : Design) (n : ℕ) (old new : List Shape) (ports before now : List (Name × ℕ)) → OutputsTold d n old ports before → OutputsStand old new before now → OutputsTold d n new ports now
outputs_told d n old new [] [] [] h g = tt
outputs_told d n old new [] [] (o ∷ now) h g = absurd g
outputs_told d n old new [] (b ∷ before) now h g = absurd h
outputs_told d n old new (p ∷ ports) [] now h g = absurd h
outputs_told d n old new (p ∷ ports) (b ∷ before) [] h g = absurd g
outputs_told d n old new (p ∷ ports) (b ∷ before) (o ∷ now) h g = (
  record {
    name = g.0.name ∙ h.0.name;
    stands = record { within = g.0.stands.within; tree = g.0.stands.tree ∙ h.0.stands.tree };
    width = ap tree_width g.0.stands.tree ∙ h.0.width;
  },
  outputs_told d n old new ports before now h.1 g.1,
)

module _ (d : Design) (n : ℕ) (mode : Mode) (l : code.Lowered) (h : IsLowered d n mode l) (kept : NetParts) (g : IsKeptOf l.net (trees_by l.net.nodes (root_ids l.net.outputs l.mode l.rows)) kept) where
  roots_same : trees_by l.net.nodes (root_ids l.net.outputs l.mode l.rows) ≡ asked_trees d n l.mode
  roots_same = asked_are d n l.net.nodes l.net.outputs h.outputs l.mode l.rows h.rows

  next_same : next_whole l.net ≡ next_in (processes_of d) n
  next_same = λ i o. nexts_same d n mode l h o i

  abbrev registers : List Origin
  registers = map (λ (given : Given). given.1) (processes_of d).givens

  trees_same : trees_of kept.nodes ≡ kept_trees d n l.mode
  trees_same =
      g.rounds registers (λ o t e. (next_given d n mode l h o t e).0)
      ∙ (λ i. numbered (roots_same i) (next_same i) (length registers))
      ∙ ap (numbered (asked_trees d n l.mode) (next_in (processes_of d) n)) (length-map (processes_of d).givens (λ (given : Given). given.1))

  pub kept_same : NumberedAreKept (asked_trees d n l.mode) (next_in (processes_of d) n) (trees_of kept.nodes)
  kept_same = subst (λ next. NumberedAreKept (asked_trees d n l.mode) next (trees_of kept.nodes)) next_same (subst (λ roots. NumberedAreKept roots (next_whole l.net) (trees_of kept.nodes)) roots_same g.are_kept)

  -- what is kept is of inputs of the top and registers
  roots_over : (ids : List NodeId) → EachOf (IsNode l.net.nodes) ids → (t : Whole) → IsIn t (map (tree_by l.net.nodes) ids) → OverGivens (processes_of d) t
  roots_over [] e t i = absurd i
  roots_over (id ∷ ids) e t (inl same) = subst (OverGivens (processes_of d)) (sym same) (h.over id.0 e.0)
  roots_over (id ∷ ids) e t (inr i) = roots_over ids e.1 t i

  over_kept : (t : Whole) → IsKept (trees_by l.net.nodes (root_ids l.net.outputs l.mode l.rows)) (next_whole l.net) t → OverGivens (processes_of d) t
  over_kept t (root u i) = roots_over (root_ids l.net.outputs l.mode l.rows) (asked_nodes d n l.net.nodes l.net.outputs h.outputs l.mode l.rows h.rows) t i
  over_kept t (of_one op a k) = over_kept (One op t) k
  over_kept t (of_left op a b k) = (over_kept (Two op t b) k).0
  over_kept t (of_right op a b k) = (over_kept (Two op a t) k).1
  over_kept t (of_test c a b k) = (over_kept (Mux t a b) k).0
  over_kept t (of_then c a b k) = (over_kept (Mux c t b) k).1
  over_kept t (of_else c a b k) = (over_kept (Mux c a t) k).2
  over_kept t (of_register o u e k) = next_over d n mode l h o t e

  next_kept : (p : Place) (o : Origin) → IsIn (p, o) (processes_of d).givens → NextKept d n kept p o
  next_kept p (Input name width) i = tt
  next_kept p (Register instance name start) i = λ among.
      let node = in_node kept.nodes (Leaf (Register instance name start)) among in
      let each = g.is_net.nexts.each node.0 node.1.within (ap is_register node.1.tree) in
      let stands : NextStands (next_whole l.net) kept.nodes (node.0, each.1.0) = each_member (NextStands (next_whole l.net) kept.nodes) kept.nexts g.nexts (node.0, each.1.0) (got_in kept.nexts each.0 (node.0, each.1.0) each.1.1) in
      let same : stands.origin ≡ Register instance name start = leaf_same stands.origin (Register instance name start) (sym stands.register.tree ∙ node.1.tree) in
      let tree : stands.tree ≡ folded_tree (processes_of d) n (next_tree (processes_of d) p) = same_Some _ _ (sym stands.next_is ∙ ap (next_whole l.net) same ∙ register_next d n mode l h p instance name start i) in
      record {
        id = node.0;
        next = each.1.0;
        among = got_in kept.nexts each.0 (node.0, each.1.0) each.1.1;
        register = node.1;
        stands = record { within = stands.stands.within; tree = stands.stands.tree ∙ tree };
      }
    where
      leaf_same : (o q : Origin) → Leaf o ≡ Leaf q → o ≡ q
      leaf_same o q e = cc

  pub net_is_kept : IsKeptNet d n l.mode kept
  net_is_kept = record {
    numbered = trees_same;
    kept = kept_same.kept;
    once = kept_same.once;
    is_net = g.is_net;
    outputs = outputs_told d n l.net.nodes kept.nodes (ports_in true (top_signals d)) l.net.outputs kept.outputs h.outputs g.outputs;
    nexts = each_from (λ (given : Given). NextKept d n kept given.0 given.1) (processes_of d).givens (λ given i. next_kept given.0 given.1 i);
    over = λ j within.
        over_kept (tree_of kept.nodes j) ((g.are_kept.kept (tree_of kept.nodes j)).0 (node_in kept.nodes j (tree_of kept.nodes j) (record { within = within; tree = refl })));
  }
