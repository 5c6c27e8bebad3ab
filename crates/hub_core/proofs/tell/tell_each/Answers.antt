use Rattle.std.proofs.Common.{option_map, ◌<◌, length, arith}
use Rattle.listen.specs.Pairs.{after}
use Rattle.dbg_core.proofs.Told.{told_more}
use Rattle.hub_core.proofs.tell.tell_each.Goals as goal

pub loop-to-preserved : goal.loop-to-preserved
loop-to-preserved g c =
    let within : c.loop-to.to-index < length c.loop-to.all = omega arith in
    told_more (option_map (λ b. (goal.Listener-dyn g (b.vtable, b.value)).heard b.value)) (option_map (after c.args.note.now))
    _ _ _ _ _ c.loop-to.auto.all within c.to-item.is c.loop-to.invariant c.tell_one.ensures
