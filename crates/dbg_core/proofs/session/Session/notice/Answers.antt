use Rattle.std.proofs.lemmas.Result.{IfOk-weaker}
use Rattle.std.proofs.Common.{refl}
use Rattle.dbg_core.specs.State.{machine_of}
use Rattle.dbg_core.proofs.Own.{watches_again}
use Rattle.dbg_core.proofs.session.Session.notice.Goals as goal

pub notice_of-requires-clause-own : goal.notice_of-requires-clause-own
notice_of-requires-clause-own g c = watches_again c.args.self.now.table c.args.self.now.watch c.args.self.now.own_watches

pub returns-clause-lines : goal.returns-clause-lines
returns-clause-lines g c = IfOk-weaker c.notice_of.result _ _ (λ notice told. λ heard. told (machine_of c.args.self.now heard) refl) c.notice_of.ensures.lines
