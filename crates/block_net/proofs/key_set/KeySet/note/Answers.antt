use Rattle.std.proofs.Common.{refl}
use Rattle.block_net.proofs.SetSteps.{note_now, note_next}
use Rattle.block_net.proofs.key_set.KeySet.note.Goals as goal

pub returns-in_ok-new-in-Now-clause-seen : goal.returns-in_ok-new-in-Now-clause-seen
returns-in_ok-new-in-Now-clause-seen c = note_now c.args.self.now (record { keys = c.args.self.now.keys; now = c.insert.new.self; next = c.args.self.now.next }) _ _ _ c.in-Now.is c.bytes.ensures c.in_ok-new-in-Now.ensures.known refl

pub returns-in_ok-new-in-Next-clause-seen : goal.returns-in_ok-new-in-Next-clause-seen
returns-in_ok-new-in-Next-clause-seen c = note_next c.args.self.now (record { keys = c.args.self.now.keys; now = c.args.self.now.now; next = c.insert-in-Next.new.self }) _ _ _ c.in-Next.is c.bytes-in-Next.ensures c.in_ok-new-in-Next.ensures.known refl
