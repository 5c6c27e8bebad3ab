use Rattle.design_core.specs.DesignView.{design_of}
use Rattle.headline_laws.proofs.laws.debugged_is_replayed.Goals as goal

pub returns : goal.returns
returns c =
    c.replays_are_debugged.ensures (design_of c.args.design.now) c.args.order.now c.args.mode c.in_ok-compile.field-0.net c.in_ok-compile.field-0.table c.args.stim.now c.in_ok-compile.ensures.ok
