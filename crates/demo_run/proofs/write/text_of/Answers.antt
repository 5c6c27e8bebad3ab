use Rattle.std.proofs.lemmas.Result.{IfOk-weaker}
use Rattle.demo_run.proofs.Lining.{walked_text}
use Rattle.demo_run.proofs.write.text_of.Goals as goal

pub returns-in-Walked : goal.returns-in-Walked
returns-in-Walked g c = IfOk-weaker c.walk_line.result _ _ (λ line h. walked_text _ c.args.judged c.in-Walked.walk line.items c.in-Walked.is h) c.walk_line.ensures
