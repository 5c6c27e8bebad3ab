use Rattle.std.proofs.lemmas.Result.{IfOk-weaker}
use Rattle.gen_tree.specs.View.{sources_of}
use Rattle.design_core.specs.DesignView.{design_of}
use Rattle.design_judge.specs.Judging.{JudgesDesign, JudgesSources}
use Rattle.design_judge.proofs.Sources.{sources_judged}
use Rattle.design_judge.proofs.source.judge_sources.Goals as goal

pub returns-in-Ok-clause-judged : goal.returns-in-Ok-clause-judged
returns-in-Ok-clause-judged c =
    IfOk-weaker c.judge_elaborated.result (JudgesDesign (design_of c.in-Ok.design)) (JudgesSources (record { name = c.args.top.now; given = c.args.given.now }) (sources_of c.args.sources.now))
    (λ found j. sources_judged (record { name = c.args.top.now; given = c.args.given.now }) (sources_of c.args.sources.now) (design_of c.in-Ok.design) found c.in-Ok.ensures j) c.judge_elaborated.ensures.judged
