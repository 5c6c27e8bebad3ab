use Rattle.std.proofs.Common.{arith, ◌≤◌, length}
use Rattle.std.proofs.lemmas.List.Elements.{All-push}
use Rattle.hgdb.proofs.serve_over.Goals as goal

pub loop-preserved : goal.loop-preserved
loop-preserved g c =
    let short : length c.push-in-loop.new.self.items ≤ 65536 = rw (c.in_ok-push-2.ensures.items, c.in_ok-push.ensures.items, c.new-set.ensures.items) (omega arith) in
    rw c.in_ok-push-3.ensures.items (All-push (λ s. length s.items ≤ 65536) c.loop.sets.items c.push-in-loop.new.self c.loop.invariant short)
