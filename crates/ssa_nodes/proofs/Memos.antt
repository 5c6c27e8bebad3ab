-- Nodes of the terms of blocks, as more are added.
use Rattle.std.proofs.Common.{◌≡◌, ℕ, ◌<◌, List, Option, Some, length, sym, ap, ◌∙◌, subst, ⊎_elim}
use Rattle.std.specs.Prelude.{slice_get}
use Rattle.std.proofs.Math.ListN.{set}
use Rattle.std.proofs.lemmas.Option.{same_Some, slice_get_within}
use Rattle.bv_core.specs.declared.reference.NodeId.{NodeId}
use Rattle.tree_core.specs.Tree.{Leaf}
use Rattle.exec_core.specs.Design as exec
use Rattle.exec_core.specs.Design.{folded_tree}
use Rattle.net_core.specs.Nodes.{Shape}
use Rattle.block_net.specs.Blocks.{BlockParts}
use Rattle.place_core.specs.Numbering.{Numbers}
use Rattle.term_net.specs.Growth.{Grown}
use Rattle.term_net.specs.Memos.{Fits}
use Rattle.term_net.proofs.Fitting.{fits_more, stands_more, nodes_more}
use Rattle.ssa_core.specs.declared.process.ProcessKey.{ProcessKey}
use Rattle.ssa_core.specs.Processes.{terms_at}
use Rattle.ssa_core.proofs.Places.{get_set_same, get_set_other, same_or_not}
use Rattle.ssa_nodes.specs.State.{names_in, MemoFits, IsState}
use Rattle.ssa_nodes.proofs.Over.{over_more}

module _ (d : exec.Design) (n : ℕ) (keys : List ProcessKey) (blocks : List (List BlockParts)) (all : List Numbers) where
  memo_more : (old new : List Shape) (nodes : List (Option NodeId)) (memos : List (List (Option NodeId))) (k i : ℕ) (parts : BlockParts) → Grown old new → MemoFits old all nodes memos k i parts → MemoFits new all nodes memos k i parts
  memo_more old new nodes memos k i parts g m = record { memo = m.memo; found = m.found; fits = fits_more old new (names_in all i) nodes parts.terms m.memo g.shared g.keeps m.fits }

  pub state_more : (old new : List Shape) (nodes : List (Option NodeId)) (memos : List (List (Option NodeId))) → Grown old new → IsState d n keys blocks all old nodes memos → IsState d n keys blocks all new nodes memos
  state_more old new nodes memos g s = record {
    shared = g.shared;
    placed = nodes_more old new nodes g.keeps s.placed;
    signals = record { told = λ q id e. stands_more old new id.0 (folded_tree d n (Leaf q)) g.keeps (s.signals.told q id e) };
    terms = record { each = λ k key parts found at. memo_more old new nodes memos k key.instance parts g (s.terms.each k key parts found at) };
    over = over_more d old new g s.over;
  }

  -- the memo of one process
  pub memo_set : (ns : List Shape) (nodes : List (Option NodeId)) (memos : List (List (Option NodeId))) (k : ℕ) (key : ProcessKey) (parts : BlockParts) (memo : List (Option NodeId)) → IsState d n keys blocks all ns nodes memos →
      slice_get keys k ≡ Some key → terms_at blocks key.variant key.block ≡ Some parts → Fits ns (names_in all key.instance) nodes parts.terms memo → IsState d n keys blocks all ns nodes (set memos k memo)
  memo_set ns nodes memos k key parts memo s found at fits = record { shared = s.shared; placed = s.placed; signals = s.signals; terms = record { each = each }; over = s.over }
    where
      within : k < length memos
      within = let m = s.terms.each k key parts found at in slice_get_within memos k m.memo m.found

      each : (j : ℕ) (other : ProcessKey) (its : BlockParts) → slice_get keys j ≡ Some other → terms_at blocks other.variant other.block ≡ Some its → MemoFits ns all nodes (set memos k memo) j other.instance its
      each j other its there is = ⊎_elim here elsewhere (same_or_not j k)
        where
          here : j ≡ k → MemoFits ns all nodes (set memos k memo) j other.instance its
          here e =
              let same_key : key ≡ other = same_Some key other (sym found ∙ ap (slice_get keys) (sym e) ∙ there) in
              let same_parts : parts ≡ its = same_Some parts its (sym at ∙ ap (λ (q : ProcessKey). terms_at blocks q.variant q.block) same_key ∙ is) in
              let its_fits : Fits ns (names_in all other.instance) nodes its.terms memo =
              subst (λ (q : BlockParts). Fits ns (names_in all other.instance) nodes q.terms memo) same_parts (subst (λ (q : ProcessKey). Fits ns (names_in all q.instance) nodes parts.terms memo) same_key fits) in
              record { memo = memo; found = ap (slice_get (set memos k memo)) e ∙ get_set_same memos k memo within; fits = its_fits }

          elsewhere : (j ≡ k → ⊥) → MemoFits ns all nodes (set memos k memo) j other.instance its
          elsewhere ne = let m = s.terms.each j other its there is in record { memo = m.memo; found = get_set_other memos k j memo ne ∙ m.found; fits = m.fits }
