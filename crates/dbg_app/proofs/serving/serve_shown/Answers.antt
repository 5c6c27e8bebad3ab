use Rattle.std.proofs.Common.{refl}
use Rattle.dbg_app.proofs.serving.serve_shown.Goals as goal

pub returns-in-InTurn-clause-all : goal.returns-in-InTurn-clause-all
returns-in-InTurn-clause-all g c = λ done over shows. rw c.in-InTurn.is (c.serve_links-status.ensures.all done over shows, refl)

pub returns-in-InTurn-clause-some : goal.returns-in-InTurn-clause-some
returns-in-InTurn-clause-some g c = λ late over shows. rw c.in-InTurn.is (c.serve_links-status.ensures.some late over shows, refl)

pub returns-in-AtOnce-clause-all : goal.returns-in-AtOnce-clause-all
returns-in-AtOnce-clause-all g c = λ done over shows. rw c.in-AtOnce.is (rw c.last_set-listeners.ensures.last at (c.serve_clients-status.ensures.all done over shows), c.new.ensures.items)

pub returns-in-AtOnce-clause-some : goal.returns-in-AtOnce-clause-some
returns-in-AtOnce-clause-some g c = λ late over shows. rw c.in-AtOnce.is (rw c.last_set-listeners.ensures.last at (c.serve_clients-status.ensures.some late over shows), c.new.ensures.items)
