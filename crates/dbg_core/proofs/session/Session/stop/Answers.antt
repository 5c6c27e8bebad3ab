use Rattle.dbg_core.proofs.Own.{watches_again}
use Rattle.dbg_core.proofs.session.Session.stop.Goals as goal

pub note_at-note-requires-clause-own : goal.note_at-note-requires-clause-own
note_at-note-requires-clause-own g c = watches_again c.args.self.now.table c.args.self.now.watch c.args.self.now.own_watches
