use Rattle.std.proofs.Common.{◌≡◌, rules}
use Rattle.std.proofs.lemmas.Result.{IfOk-weaker}
use Rattle.demo_run.proofs.Lining.{the_line}
use Rattle.demo_run.proofs.write.walk_line.Goals as goal

pub returns : goal.returns
returns g c =
    let bytes : c.deref.result.now ≡ c.args.walk.requests.items = search rules in
    IfOk-weaker c.summary_line.result _ _ (λ line h. the_line _ c.args.walk c.in_ok-summary.summary c.deref.result.now line.items bytes c.in_ok-summary.ensures h) c.summary_line.ensures
