use Rattle.std.proofs.Common.{◌≡◌, ◌+◌, ◌-◌, ◌++◌, ◌∷◌, [], length, ap, rules}
use Rattle.vcd_read.specs.Changes.{Story}
use Rattle.vcd_read.specs.declared.changes.Row.{Row}
use Rattle.vcd_read.proofs.Rows.{columns-push, pushed}
use Rattle.vcd_read.proofs.changes.Changes.push.Goals as goal

pub invariant_of-self-else-is_err : goal.invariant_of-self-else-is_err
invariant_of-self-else-is_err c =
    let s = c.self.inside in
    let row : Row = record { step = c.in_ok-step.step; code = c.args.code; end = c.in_ok-end.end } in
    let put : c.push.new.self.items ≡ s.rows.items ++ row ∷ [] = search rules in
    let step : row.step ≡ length s.times.items - 1 = search rules in
    let ends : row.end ≡ length s.digits.items + length c.args.digits.now = search rules in
    rw (c.in_ok-extend_from_slice.ensures.items, put) (columns-push s.time s.times.items s.digits.items c.args.digits.now s.rows.items row c.self.invariant step ends)

pub returns : goal.returns
returns c =
    let s = c.self.inside in
    let row : Row = record { step = c.in_ok-step.step; code = c.args.code; end = c.in_ok-end.end } in
    let put : c.push.new.self.items ≡ s.rows.items ++ row ∷ [] = search rules in
    let step : row.step ≡ length s.times.items - 1 = search rules in
    let ends : row.end ≡ length s.digits.items + length c.args.digits.now = search rules in
    rw (c.in_ok-extend_from_slice.ensures.items, put, pushed s.time s.times.items s.digits.items c.args.digits.now s.rows.items row c.self.invariant step ends)
    (ap (λ (s : Story). record { time = s.time; changes = s.changes ++ record { time = s.time; code = c.args.code; digits = c.args.digits.now } ∷ [] }) c.self.view_is)
