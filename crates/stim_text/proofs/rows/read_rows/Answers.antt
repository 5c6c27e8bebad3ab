use Rattle.std.proofs.Common.{◌≡◌, ◌∷◌, length, arith, ap}
use Rattle.std.specs.Str.Lines.{lines}
use Rattle.stim_text.specs.Rows.{rows_from}
use Rattle.stim_text.proofs.RowLists.{IsRead, none_read, one_more}
use Rattle.stim_text.proofs.rows.read_rows.Goals as goal

pub loop-line-init : goal.loop-line-init
loop-line-init c = (omega arith, rw c.in_ok-values.ensures.items (none_read c.args.inputs.now (lines c.args.text.now)))

pub loop-line-preserved : goal.loop-line-preserved
loop-line-preserved c =
    let read = c.loop-line.invariant.1 in
    let cut : lines c.loop-line.rest.now ≡ c.in-Some.line.now ∷ lines c.in-Some.others.now = c.in-Some.ensures.line in
    let left = ap length cut in
    let before : IsRead c.args.inputs.now c.loop-line.row c.loop-line.values.items (c.in-Some.line.now ∷ lines c.in-Some.others.now) (rows_from 0 c.args.inputs.now (lines c.args.text.now)) =
    rw (← cut) read in
    (omega arith, one_more c.args.inputs.now c.loop-line.row c.loop-line.values.items c.push_row.new.values.items c.in-Some.line.now (lines c.in-Some.others.now) (rows_from 0 c.args.inputs.now (lines c.args.text.now)) before c.in_ok-push_row.ensures)
