use Rattle.std.proofs.Common.{sym, subst}
use Rattle.ssa_nodes.specs.Parts.{HasSignals, blocks_in}
use Rattle.ssa_core.specs.Processes.{lists_of}
use Rattle.ssa_net.specs.Blank.{AreBlank}
use Rattle.ssa_net.proofs.Begun.{begun}
use Rattle.ssa_net.proofs.signals.signal_nodes.Goals as goal

pub resolve_all-requires-clause-state : goal.resolve_all-requires-clause-state
resolve_all-requires-clause-state c =
    let p = c.args.parts.now in
    begun p c.given_nodes.new.builder c.deref_mut.result.now (lists_of c.deref_mut-2.result.now)
    (subst (HasSignals p c.given_nodes.new.builder) (sym c.deref_mut.ensures.value) c.in_ok-nodes.ensures.signals)
    c.in_ok-nodes.ensures.over
    (subst (λ ms. AreBlank (blocks_in p) p.keys.items (lists_of ms)) (sym c.deref_mut-2.ensures.value) c.in_ok-memos.ensures)
