use Rattle.demo_run.specs.Judged.{given_as}
use Rattle.demo_run.proofs.Ending.{no_chain}
use Rattle.demo_run.proofs.judge.judge.Goals as goal

pub returns-in-Err-clause-judged : goal.returns-in-Err-clause-judged
returns-in-Err-clause-judged g c = no_chain (g.F.Files.told c.args.files.now) (given_as c.args.demo.now) c.in-Err.fault (rw c.in-Err.is at c.in_ok-accepted.ensures.judged)
