use Rattle.std.proofs.Common.{◌∙◌, ap, sym, arith}
use Rattle.design_core.specs.declared.statement.Arm as code_arm
use Rattle.exec_core.specs.Block.{body_assigns}
use Rattle.block_net.specs.Source.{body_in, else_in}
use Rattle.block_net.specs.Walks.{among, either}
use Rattle.block_net.proofs.ArmSteps.{counts_back, counts_start, keys_back, keys_start}
use Rattle.block_net.proofs.order.order_of.Goals as goal

pub loop-left-init : goal.loop-left-init
loop-left-init c = record {
  inside = omega arith;
  kept = c.in_ok-add_else.ensures.kept;
  keys = keys_start c.args.clocked c.args.arms.now (else_in c.args.clocked c.args.other.now) _ c.new-set.result.keys.items _ c.new-set.ensures.keys (omega arith) c.in_ok-add_else.ensures.keys;
  counts = counts_start c.args.clocked c.args.arms.now (else_in c.args.clocked c.args.other.now) _ _ _ c.new-counts.ensures.items (omega arith);
}

pub loop-left-preserved : goal.loop-left-preserved
loop-left-preserved c =
    let inside = c.loop-left.invariant.inside in
    let some = c.loop-left-test.true in
    let keys = c.in_ok-add_body.ensures.keys ∙ ap (λ l. either (among c.loop-left.set.keys.items) (body_assigns (body_in c.args.clocked l))) (c.deref.ensures.value ∙ ap (λ (a : code_arm.Arm). a.body.items) (sym c.index-arms-left.is)) in
    record {
      inside = omega (arith, inside);
      kept = c.in_ok-add_body.ensures.kept;
      keys = keys_back c.args.clocked c.args.arms.now (else_in c.args.clocked c.args.other.now) c.loop-left.left _ c.index-arms-left.result c.loop-left.set.keys.items _ (omega (arith, some)) (omega (arith, inside, some)) c.index-arms-left.is keys c.loop-left.invariant.keys;
      counts = counts_back c.args.clocked c.args.arms.now (else_in c.args.clocked c.args.other.now) c.loop-left.left _ c.len.result c.index-arms-left.result c.loop-left.set.keys.items _ _ c.loop-left.counts.items _ (omega (arith, some)) (omega (arith, inside, some)) c.index-arms-left.is
          c.in_ok-add_body.ensures.more.is keys c.loop-left.invariant.keys (omega (arith, c.len.ensures, c.add_body.new.set.keys.ok.0)) c.in_ok-push.ensures.items c.loop-left.invariant.counts;
    }
