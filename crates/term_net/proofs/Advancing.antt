-- A step of an evaluation: the top gets its node, or waits for an operand.
use Rattle.std.proofs.Common.{◌≡◌, ℕ, ◌+◌, ◌*◌, ◌<◌, List, [], ◌∷◌, ◌++◌, length, set, Option, Some, Result, Ok, Err, OnOk, refl, sym, subst, arith}
use Rattle.text_core.specs.declared.memory.NoMemory.{NoMemory}
use Rattle.bv_core.specs.declared.reference.NodeId.{NodeId}
use Rattle.exec_core.specs.Block.{Name}
use Rattle.net_core.specs.Nodes.{Shape}
use Rattle.net_core.specs.Builder.{Stands}
use Rattle.block_net.specs.declared.term.Term.{Term}
use Rattle.block_net.specs.declared.term.TermId.{TermId}
use Rattle.block_net.specs.Terms.{AreNumbered}
use Rattle.term_net.specs.Leaves.{leaf_id, leaf_tree, term_whole}
use Rattle.term_net.specs.Growth.{Grown, Stay}
use Rattle.term_net.specs.Memos.{Fits}
use Rattle.term_net.specs.Pending.{term_at, IsMissing, IsPending, Fall, FallTo, top_of, unknown_count, work, GetsNode}
use Rattle.term_net.proofs.Stacks.{fall_push, fall_onto, fall_below, fall_keeps, top_below, less_by_operand, less_by_node}
use Rattle.term_net.proofs.Fitting.{term_same, ready_more, fits_more, set_fits, set_stays, pending_more, pending_set, operand_is}

pub on_ok : {A : Type 0} (r : Result A NoMemory) (P Q : Type 0) → (P → Q) → OnOk r P → OnOk r Q
on_ok (Ok x) P Q f h = f h
on_ok (Err e) P Q f h = h

pub both_ok : {A : Type 0} (r : Result A NoMemory) (P Q R : Type 0) → (P → Q → R) → OnOk r P → OnOk r Q → OnOk r R
both_ok (Ok x) P Q R f h g = f h g
both_ok (Err e) P Q R f h g = h

-- the node of one more term is known
pub settled : (old new : List Shape) (places : Name → Option ℕ) (nodes : List (Option NodeId)) (terms : List Term) (memo : List (Option NodeId)) (k : ℕ) (id : NodeId) → Fits old places nodes terms memo → Grown old new → k < length terms → IsPending old places nodes terms memo k → Stands new id.0 (term_whole (leaf_tree old places nodes) terms k) → Fits new places nodes terms (set memo k (Some id))
settled old new places nodes terms memo k id f g l p s =
    let e = f.each in
    set_fits new places nodes terms memo _ k id (fits_more old new places nodes terms memo g.shared g.keeps f) refl (omega arith)
    (ready_more old new places nodes _ g.keeps f.leaves p.ready)
    (subst (Stands new id.0) (sym (term_same old new places nodes terms k g.keeps f.leaves)) s)

module _ (ns : List Shape) (places : Name → Option ℕ) (nodes : List (Option NodeId)) (terms : List Term) (memo : List (Option NodeId)) (stack : List TermId) (top : TermId) (fits : Fits ns places nodes terms memo) (numbered : AreNumbered terms) (falls : FallTo (IsPending ns places nodes terms memo) (length terms) stack top.0) (pending : IsPending ns places nodes terms memo top.0) where
  abbrev pub Pending : ℕ → Type 0
  Pending k = IsPending ns places nodes terms memo k

  pub top_within : top.0 < length terms
  top_within = fall_below Pending (length terms) stack top.0 falls

  -- an operand of the top, which has no node, comes above it
  operand_pending : (operand : TermId) → IsMissing memo (term_at terms top.0) operand.0 → (operand.0 < top.0) × Pending operand.0
  operand_pending operand m =
      let r = operand_is terms numbered top.0 top_within (leaf_id places nodes) (leaf_tree ns places nodes) operand.0 m.operand pending.ready in
      (r.0, record { unknown = m.unknown; ready = r.1 })

  pub put_off_falls : (operand : TermId) (new : List TermId) → IsMissing memo (term_at terms top.0) operand.0 → new ≡ stack ++ top ∷ [] ++ operand ∷ [] → Fall Pending (length terms) new
  put_off_falls operand new m e =
      let r = operand_pending operand m in
      subst (Fall Pending (length terms)) (sym e)
      (fall_push Pending (length terms) (stack ++ top ∷ []) operand (fall_onto Pending (length terms) stack top operand.0 falls pending r.0) r.1)

  pub put_off_less : (operand : TermId) (new : List TermId) → IsMissing memo (term_at terms top.0) operand.0 → new ≡ stack ++ top ∷ [] ++ operand ∷ [] → (root : ℕ) → root < length terms → work root memo new < unknown_count memo * (length memo + 1) + top.0
  put_off_less operand new m e root l =
      subst (λ s. work root memo s < unknown_count memo * (length memo + 1) + top.0) (sym e)
      (less_by_operand root memo (stack ++ top ∷ []) operand top.0 (operand_pending operand m).0)

  -- the top has its node
  pub settled_falls : (new : List Shape) (known : List (Option NodeId)) → Grown ns new → GetsNode memo known top.0 → Fall (IsPending new places nodes terms known) (length terms) stack
  settled_falls new known g s =
      fall_keeps Pending (IsPending new places nodes terms known) (length terms) stack top.0
      (λ i l p. pending_set new places nodes terms memo known i top.0 s.id s.is l (pending_more ns new places nodes terms memo i g.keeps fits.leaves p)) falls

  pub settled_stay : (known : List (Option NodeId)) → GetsNode memo known top.0 → Stay memo known
  settled_stay known s = set_stays memo known top.0 s.id pending.unknown s.is

  pub settled_less : (new : List Shape) (known : List (Option NodeId)) → Grown ns new → GetsNode memo known top.0 → (root : ℕ) → root < length terms → work root known stack < unknown_count memo * (length memo + 1) + top.0
  settled_less new known g s root l =
      let e = fits.each in
      let within = top_within in
      let below : top_of root stack < length terms = top_below (IsPending new places nodes terms known) root (length terms) stack l (settled_falls new known g s) in
      less_by_node root memo known top.0 s.id stack top.0 (omega arith) pending.unknown s.is (omega arith)
