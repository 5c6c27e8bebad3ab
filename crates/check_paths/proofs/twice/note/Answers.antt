use Rattle.std.proofs.Common.{sym, ◌∙◌}
use Rattle.check_paths.proofs.Drives.{note_new}
use Rattle.check_paths.proofs.twice.note.Goals as goal

pub returns-in_ok-put-in-None : goal.returns-in_ok-put-in-None
returns-in_ok-put-in-None c = note_new _ _ _ _ (sym c.get.ensures ∙ c.in-None.is) c.in_ok-put-in-None.ensures.ok
