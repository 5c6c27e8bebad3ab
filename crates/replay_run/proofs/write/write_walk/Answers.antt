use Rattle.std.proofs.Common.{◌≡◌, rules}
use Rattle.std.proofs.lemmas.Result.{on_ok_weaker, on_err_weaker}
use Rattle.replay_run.proofs.Ending.{walk_taken, walk_front}
use Rattle.replay_run.proofs.write.write_walk.Goals as goal

pub returns-clause-ok : goal.returns-clause-ok
returns-clause-ok g c =
    let bytes : c.deref.result.now ≡ c.args.walk.requests.items = search rules in
    on_ok_weaker c.write_batch.result (λ h. walk_taken _ _ _ _ c.deref.result.now _ _ bytes h) c.write_batch.ensures.ok

pub returns-clause-front : goal.returns-clause-front
returns-clause-front g c =
    let bytes : c.deref.result.now ≡ c.args.walk.requests.items = search rules in
    on_err_weaker c.write_batch.result (λ h. walk_front _ _ _ _ c.deref.result.now _ _ bytes h) c.write_batch.ensures.front
