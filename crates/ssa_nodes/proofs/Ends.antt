-- What the blocks of processes end with, by nodes.
use Rattle.std.proofs.Common.{◌≡◌, ℕ, ◌≤◌, true, List, Option, Some, None, IsSome, refl, sym, ap, ◌∙◌, subst}
use Rattle.std.specs.Prelude.{slice_get}
use Rattle.std.proofs.lemmas.Option.{same_Some, none-some}
use Rattle.bv_core.specs.declared.reference.NodeId.{NodeId}
use Rattle.tree_core.specs.Tree.{Tree}
use Rattle.exec_core.specs.Block as blocks
use Rattle.exec_core.specs.Block.{Name, Key, Now, Next, own}
use Rattle.design_exec.specs.Processes.{body_of, process, processes_of, signals_in}
use Rattle.list_core.specs.Lists.{IsIn}
use Rattle.check_exec.proofs.Facts.{in_at}
use Rattle.exec_core.specs.Design.{Process, moved, width_in}
use Rattle.design_core.specs.Design as design
use Rattle.net_core.specs.Nodes.{Shape}
use Rattle.block_net.specs.Blocks.{BlockParts, Tells}
use Rattle.block_net.specs.Walks.{held}
use Rattle.names.specs.Maps.{value_of}
use Rattle.term_net.specs.Growth.{Grown}
use Rattle.term_net.specs.Leaves.{IsReady, leaf_id, leaf_tree}
use Rattle.ssa_core.specs.declared.process.ProcessKey.{ProcessKey}
use Rattle.ssa_core.specs.Processes.{process_at, terms_at}
use Rattle.ssa_nodes.specs.State.{names_in}
use Rattle.ssa_nodes.specs.Held.{CanHaveNode, NodeTold}
use Rattle.ssa_nodes.specs.declared.parts.Parts as code
use Rattle.ssa_nodes.specs.Parts.{HasParts, HasSignals, HasState, HasNodeBy, CanHave, IsReadyBy, IsEnd, EndStands, StandsBy, all_in, blocks_in, design_in, ends_by}
use Rattle.ssa_nodes.proofs.Sources.{ready_here, stands_here}
use Rattle.ssa_nodes.proofs.Driven.{process_in}
use Rattle.ssa_core.proofs.Wide.{own_bits, width_of_process}
use Rattle.ssa_nodes.proofs.Looking.{process_terms}

abbrev process_body : design.Block → blocks.Body
process_body b = body_of b.clocked b.body

module _ (p : code.Parts) (h : HasParts p) where
  pub signals_of : (ns : List Shape) (nodes : List (Option NodeId)) (memos : List (List (Option NodeId))) → HasState p ns nodes memos → HasSignals p ns nodes
  signals_of ns nodes memos s = record { shared = s.shared; placed = s.placed; signals = s.signals }

  -- what can have a node, by names that are those of the instance
  pub can_have : (ns : List Shape) (nodes : List (Option NodeId)) (i : ℕ) (names : Name → Option ℕ) (o : Option (Tree Name)) → names ≡ names_in (all_in p) i → HasSignals p ns nodes → CanHave p nodes i o → CanHaveNode (leaf_id names nodes) (leaf_tree ns names nodes) o
  can_have ns nodes i names None e s c = c
  can_have ns nodes i names (Some t) e s c = subst (λ (f : Name → Option ℕ). IsReady (leaf_id f nodes) (leaf_tree ns f nodes) t) (sym e) (ready_here p h ns nodes i t s c)

  pub has_node : (old new : List Shape) (nodes : List (Option NodeId)) (i : ℕ) (names : Name → Option ℕ) (o : Option (Tree Name)) (id : Option NodeId) → names ≡ names_in (all_in p) i → HasSignals p old nodes → Grown old new → CanHave p nodes i o →
      NodeTold new (leaf_tree new names nodes) o id → HasNodeBy p new i o id
  has_node old new nodes i names None None e s g c told = told
  has_node old new nodes i names None (Some id) e s g c told = told
  has_node old new nodes i names (Some t) None e s g c told = told
  has_node old new nodes i names (Some t) (Some id) e s g c told = stands_here p h old new nodes i t names id e s g c told

  -- ---- the end of a block

  -- terms tell of a process's body by the widths that it gives to names; and each own name of it has some bit
  pub record TellsHere (parts : BlockParts) (b : Process) : Type 0 where
    pub tells : Tells parts (width_in (processes_of (design_in p)) b) b.body
    pub some_bit : (x : Name) → own b.body x ≡ true → 1 ≤ width_in (processes_of (design_in p)) b x

  pub end_now : (parts : BlockParts) (b : Process) (x : Name) → TellsHere parts b → held parts.terms x (value_of parts.names x) ≡ ends_by p b (Now x)
  end_now parts b x tells = ap (λ (env : Key → Option (Tree Name)). env (Now x)) tells.tells.ends

  pub end_next : (parts : BlockParts) (b : Process) (x : Name) → TellsHere parts b → held parts.terms x (value_of parts.registers x) ≡ ends_by p b (Next x)
  end_next parts b x tells = ap (λ (env : Key → Option (Tree Name)). env (Next x)) tells.tells.ends

  -- the terms of a process's block tell of its body, by the widths that the process gives to names
  pub tells_of : (k : ℕ) (key : ProcessKey) (b : Process) (parts : BlockParts) → slice_get p.keys.items k ≡ Some key → process_at (design_in p) key ≡ Some b → terms_at (blocks_in p) key.variant key.block ≡ Some parts → TellsHere parts b
  tells_of k key b parts here e at =
      let terms = process_terms (design_in p) (blocks_in p) key b h.parts.terms e in
      let same : terms.has.parts ≡ parts = same_Some terms.has.parts parts (sym terms.has.found ∙ at) in
      let among : IsIn b (processes_of (design_in p)).processes = in_at (processes_of (design_in p)).processes k b (process_in p h k key b here e) in
      record {
        tells = subst (λ w. Tells parts w b.body) (sym (width_of_process (design_in p) h.parts.sound b among))
            (subst (λ (c : Process). Tells parts c.let_width c.body) terms.is
            (subst (λ q. Tells q (process key.instance (signals_in (design_in p) key.variant) terms.block).let_width (process_body terms.block)) same terms.has.tells));
        some_bit = own_bits (design_in p) h.parts.sound b among;
      }

  pub instance_of : (key : ProcessKey) (b : Process) → process_at (design_in p) key ≡ Some b → b.instance ≡ key.instance
  instance_of key b e = let terms = process_terms (design_in p) (blocks_in p) key b h.parts.terms e in ap (λ (c : Process). c.instance) (sym terms.is)

  -- what stands at the end can have a node, and its node stands for it
  pub end_can : (nodes : List (Option NodeId)) (k : ℕ) (y : Key) (key : ProcessKey) (o : Option (Tree Name)) (ends : IsEnd p nodes k y) → slice_get p.keys.items k ≡ Some key → o ≡ ends_by p ends.process y → CanHave p nodes key.instance o
  end_can nodes k y key o ends found is =
      let same : ends.key ≡ key = same_Some ends.key key (sym ends.found ∙ found) in
      let i : ends.process.instance ≡ key.instance = instance_of ends.key ends.process ends.is ∙ ap (λ (q : ProcessKey). q.instance) same in
      subst (CanHave p nodes key.instance) (sym (is ∙ ends.ends)) (subst (λ n. IsReadyBy p nodes (moved n ends.tree)) i ends.ready)

  pub end_some : (new : List Shape) (nodes : List (Option NodeId)) (k : ℕ) (y : Key) (i : ℕ) (o : Option (Tree Name)) (id : Option NodeId) (ends : IsEnd p nodes k y) → o ≡ ends_by p ends.process y → HasNodeBy p new i o id → IsSome id
  end_some new nodes k y i o id ends is has = some_id (o) id (is ∙ ends.ends) has
    where
      some_id : (o : Option (Tree Name)) (id : Option NodeId) → o ≡ Some ends.tree → HasNodeBy p new i o id → IsSome id
      some_id None id e has = absurd (none-some ends.tree e)
      some_id (Some t) None e has = absurd has
      some_id (Some t) (Some n) e has = refl

  pub end_stands : (new : List Shape) (nodes : List (Option NodeId)) (k : ℕ) (y : Key) (key : ProcessKey) (o : Option (Tree Name)) (id : Option NodeId) (found : NodeId) (ends : IsEnd p nodes k y) → slice_get p.keys.items k ≡ Some key →
      o ≡ ends_by p ends.process y → HasNodeBy p new key.instance o id → id ≡ Some found → EndStands p new k y found
  end_stands new nodes k y key o id found ends at is has e other b t there its tree =
      let same_key : key ≡ other = same_Some key other (sym at ∙ there) in
      let same_ends : ends.key ≡ other = same_Some ends.key other (sym ends.found ∙ there) in
      let same_process : ends.process ≡ b = same_Some ends.process b (sym ends.is ∙ ap (process_at (design_in p)) same_ends ∙ its) in
      let o_is : o ≡ Some t = is ∙ ap (λ (c : Process). ends_by p c y) same_process ∙ tree in
      let i : key.instance ≡ b.instance = ap (λ (q : ProcessKey). q.instance) same_key ∙ sym (instance_of other b its) in
      subst (λ n. StandsBy p new (moved n t) found) i (subst (λ (q : Option NodeId). HasNodeBy p new key.instance (Some t) q) e (subst (λ q. HasNodeBy p new key.instance q id) o_is has))
