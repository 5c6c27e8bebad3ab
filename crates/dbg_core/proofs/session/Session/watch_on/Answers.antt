use Rattle.std.proofs.Common.{length, ap, ap₂, ◌∙◌}
use Rattle.machine_core.specs.Arming.{watch_on}
use Rattle.machine_core.specs.Reading.{IsReader}
use Rattle.watch.specs.Watching.{watches, next_watch}
use Rattle.dbg_core.specs.World.{world_of}
use Rattle.dbg_core.specs.State.{counted_as}
use Rattle.dbg_core.specs.Answering.{answered, watched}
use Rattle.dbg_core.proofs.Own.{watches_kept}
use Rattle.dbg_core.proofs.Standing.{watch_answered, watching_with, ok_for_samples}
use Rattle.dbg_core.proofs.session.Session.watch_on.Goals as goal

pub invariant_of-self-clause-own_watches : goal.invariant_of-self-clause-own_watches
invariant_of-self-clause-own_watches g c = watches_kept c.args.self.now.table c.args.self.now.watch c.watch_asked.new.list c.watch_asked.ensures.own c.args.self.now.own_watches

pub returns-clause-answer : goal.returns-clause-answer
returns-clause-answer g c =
    let s = g.T.Trace.samples c.args.self.now.trace in
    let w = world_of c.args.self.now.table s in
    let old = watches c.args.self.now.watch in
    let next = next_watch c.args.self.now.watch in
    ok_for_samples c.watch_asked.result IsReader _ _
    (λ body h. λ read ordinal heard id reader.
    ap (λ left. answered (watching_with (counted_as c.args.self.now ordinal heard) left) id left.2)
    (h read s reader ∙ ap₂ (λ path text. watched (watch_on read w (length old) next c.args.line path text) old next) c.text.ensures (c.as_bytes.ensures.value ∙ c.text-2.ensures))
    ∙ watch_answered (counted_as c.args.self.now ordinal heard) id _)
    c.watch_asked.ensures.body
