use Rattle.design_judge.proofs.files.judge_design.Goals as goal

pub returns-in-Ok-clause-judged : goal.returns-in-Ok-clause-judged
returns-in-Ok-clause-judged g c = rw c.accepted_in.ensures c.in-Ok.ensures.judged

pub returns-in-Ok-clause-fit : goal.returns-in-Ok-clause-fit
returns-in-Ok-clause-fit g c = rw c.accepted_in.ensures c.in-Ok.ensures.fit

pub returns-in-Ok-clause-asked : goal.returns-in-Ok-clause-asked
returns-in-Ok-clause-asked g c = rw c.accepted_in.ensures c.in-Ok.ensures.asked
