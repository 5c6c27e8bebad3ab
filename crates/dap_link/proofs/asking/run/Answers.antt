use Rattle.std.proofs.Common.{◌∙◌, sym}
use Rattle.dbg_core.specs.World.{world_of}
use Rattle.dap_link.proofs.Runs.{run_granted}
use Rattle.dap_link.proofs.asking.run.Goals as goal

pub returns-clause-led : goal.returns-clause-led
returns-clause-led g c = λ read reader told.
    run_granted _ _ _ told _ _ _ _ (λ i. world_of (c.ask.ensures.table i) (c.ask.ensures.samples i)) (c.in_ok-body.ensures.told read reader) (sym c.in-None.is ∙ c.in_ok-name.ensures)
    (c.in_ok-happened-in-None.ensures.led told)
