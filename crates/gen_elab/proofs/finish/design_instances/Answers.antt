use Rattle.std.proofs.Common.{refl, ◌∙◌}
use Rattle.gen_elab.proofs.VariantLemmas.{instance_turn}
use Rattle.gen_elab.proofs.finish.design_instances.Goals as goal

pub loop-index-preserved : goal.loop-index-preserved
loop-index-preserved c =
    let x = c.index-instances-index.result in
    instance_turn c.args.instances.now c.args.numbers.now c.loop-index.index _ 0 x x c.in_ok-path.path c.loop-index.made.items c.push.new.self.items
    c.requires.numbers c.loop-index-test.true c.index-instances-index.is refl (c.in_ok-path.ensures ∙ c.bytes.ensures) c.loop-index.invariant c.in_ok-push.ensures.items
