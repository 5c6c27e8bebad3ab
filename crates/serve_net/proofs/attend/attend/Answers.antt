use Rattle.std.proofs.Common.{[], reverse, sym}
use Rattle.show_net.specs.Over.{Shows}
use Rattle.serve_net.proofs.Attending.{attended, broken}
use Rattle.serve_net.proofs.attend.attend.Goals as goal

pub returns-in-Ok-connect-clause-few : goal.returns-in-Ok-connect-clause-few
returns-in-Ok-connect-clause-few g c = rw c.keep.ensures.sets c.next_set-listeners.ensures.rest

pub returns-in-Ok-connect-clause-ok : goal.returns-in-Ok-connect-clause-ok
returns-in-Ok-connect-clause-ok g c =
    attended _ (λ over. Shows c.args.service.now over) _ _ c.args.hall.now.served.items c.keep.new.self.served.items _ _ _ _ c.in-Ok-connect.served c.keep.result
    (rw c.keep.ensures.sets c.next_set-listeners.ensures.left)
    (λ over sh. rw (sym c.next_set-listeners.ensures.next) (c.in-Ok-connect.ensures.member over sh))
    (record { left = c.in-Ok.ensures.ok; later = c.next.ensures.later })
    (rw (sym c.next_set-listeners.ensures.served) c.keep.ensures.kept)

pub returns-in-Ok-connect-clause-err : goal.returns-in-Ok-connect-clause-err
returns-in-Ok-connect-clause-err g c =
    broken _ (λ over. Shows c.args.service.now over) _ (reverse []) c.args.hall.now.served.items c.keep.new.self.served.items _ _ _ _ c.in-Ok-connect.served c.keep.result
    (λ over sh. rw (sym c.next_set-listeners.ensures.next) (c.in-Ok-connect.ensures.member over sh))
    (record { left = c.in-Ok.ensures.ok; later = c.next.ensures.later })
    (rw (sym c.next_set-listeners.ensures.served) c.keep.ensures.kept)
