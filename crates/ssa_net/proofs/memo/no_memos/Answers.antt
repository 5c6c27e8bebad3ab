use Rattle.std.proofs.Common.{sym, ap, ◌∙◌}
use Rattle.std.specs.Prelude.{slice_get}
use Rattle.std.proofs.lemmas.Option.{slice_get-get_or}
use Rattle.ssa_nodes.specs.Parts.{blocks_in}
use Rattle.ssa_net.proofs.Begun.{is_process, blank_next}
use Rattle.ssa_net.proofs.memo.no_memos.Goals as goal

pub no_memo-requires-clause-process : goal.no_memo-requires-clause-process
no_memo-requires-clause-process c =
    let p = c.args.parts.now in
    let items = c.deref-key-items.result.now in
    is_process p c.requires c.loop-key.key-index _ (ap (λ ks. slice_get ks c.loop-key.key-index) (sym c.deref-key-items.ensures.value) ∙ slice_get-get_or items c.loop-key.key-index _ c.loop-key-test.true)

pub loop-key-preserved : goal.loop-key-preserved
loop-key-preserved c =
    blank_next (blocks_in c.args.parts.now) c.deref-key-items.result.now c.loop-key.key-index _ c.loop-key.memos.items c.push.new.self.items c.in_ok-no_memo.field-0 c.loop-key-test.true c.in_ok-push.ensures.items c.loop-key.invariant c.in_ok-no_memo.ensures
