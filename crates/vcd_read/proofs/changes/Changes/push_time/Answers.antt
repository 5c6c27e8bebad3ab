use Rattle.std.proofs.Common.{◌∷◌, [], length, ap}
use Rattle.vcd_read.specs.Changes.{Story}
use Rattle.vcd_read.proofs.Rows.{columns-time, changes-times}
use Rattle.vcd_read.proofs.changes.Changes.push_time.Goals as goal

pub invariant_of-self-2 : goal.invariant_of-self-2
invariant_of-self-2 c =
    let s = c.self.inside in
    rw (c.in_ok-push.ensures.items) (columns-time s.time c.args.time s.times.items s.digits.items s.rows.items c.self.invariant)

pub returns : goal.returns
returns c =
    let s = c.self.inside in
    let same = changes-times s.times.items (c.args.time ∷ []) s.digits.items (length s.digits.items) 0 s.rows.items c.self.invariant.whole in
    rw (c.in_ok-push.ensures.items, same) (ap (λ (s : Story). record { time = c.args.time; changes = s.changes }) c.self.view_is)
