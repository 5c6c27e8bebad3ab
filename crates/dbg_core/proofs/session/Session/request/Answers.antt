use Rattle.dbg_core.proofs.Batches.{on_each}
use Rattle.dbg_core.proofs.session.Session.request.Goals as goal

pub returns-in_err-reply-clause-memory : goal.returns-in_err-reply-clause-memory
returns-in_err-reply-clause-memory g c = on_each c.from_residual.result _ (c.in_err-reply.ensures.memory _)
