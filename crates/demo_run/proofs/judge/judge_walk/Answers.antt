use Rattle.design_core.specs.DesignView.{design_of}
use Rattle.demo_run.specs.Judged.{given_as}
use Rattle.demo_run.proofs.Ending.{no_stimulus, no_requests}
use Rattle.demo_run.proofs.judge.judge_walk.Goals as goal

pub returns-in-Err-clause-judged : goal.returns-in-Err-clause-judged
returns-in-Err-clause-judged g c =
    no_stimulus (g.F.Files.told c.args.files.now) (given_as c.args.demo.now) (design_of c.args.accepted.design) c.args.accepted.ports c.in-Err.fault c.requires.chain c.requires.kept.ports (rw c.in-Err.is at c.in_ok-stim.ensures.rows)

pub returns-in-None-clause-judged : goal.returns-in-None-clause-judged
returns-in-None-clause-judged g c =
    no_requests (g.F.Files.told c.args.files.now) (given_as c.args.demo.now) (design_of c.args.accepted.design) c.args.accepted.ports c.in-Ok.stim.rows c.requires.chain c.requires.kept.ports (rw c.in-Ok.is at c.in_ok-stim.ensures.rows)
    (rw c.in-None.is at c.in_ok-requests.ensures.found)
