use Rattle.machine_core.specs.Journal.{until_idle}
use Rattle.dbg_core.specs.World.{world_of}
use Rattle.dap_link.specs.State.{alone, world_in}
use Rattle.dap_link.proofs.Runs.{ran_out}
use Rattle.dap_link.proofs.asking.run_out.Goals as goal

pub returns-clause-led : goal.returns-clause-led
returns-clause-led g c = λ told.
    ran_out _ _ _ told (until_idle (world_in c.args.session.now) (alone c.args.session.now)) _ _ _ _ (λ i. world_of (c.settle.ensures.table i) (c.settle.ensures.samples i)) c.in_ok-turned.ensures.after c.in_ok-turned.ensures.lines
    c.happening_of.ensures.state c.in_ok-happened.ensures.happened
