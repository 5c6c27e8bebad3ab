use Rattle.std.proofs.Common.{◌≡◌, sym, subst}
use Rattle.std.specs.Prelude.{IfOk}
use Rattle.cond_lang.specs.Faults.{IsCause}
use Rattle.cond_lang.specs.Reading.{Reads}
use Rattle.cond_lang.specs.TextShown.{text_expr, text_offsets}
use Rattle.site_core.specs.Sampled.{cycle_samples}
use Rattle.site_core.proofs.Readings.{read_once}
use Rattle.dbg_core.specs.Eval.{table_body}
use Rattle.dbg_core.proofs.Evals.{unread_body}
use Rattle.dbg_core.proofs.eval.eval_in.Goals as goal

pub returns-in-Ok : goal.returns-in-Ok
returns-in-Ok g c = λ read reader.
    let samples = cycle_samples (g.T.Trace.samples c.args.trace.now) (g.T.Trace.cursor c.args.trace.now) in
    let reads = subst (λ bytes. Reads bytes (text_expr c.in-Ok.text) (text_offsets c.in-Ok.text)) c.as_bytes.ensures.value c.in-Ok.ensures.found in
    subst (λ r. IfOk c.bound.result (λ body. body ≡ table_body c.args.table.now samples c.args.slot c.args.instance r)) (sym (read_once read reader c.args.text.now _ _ reads)) c.bound.ensures

pub returns-in-Err : goal.returns-in-Err
returns-in-Err g c = λ read reader.
    let cause = subst (λ bytes. IsCause bytes c.in-Err.fault) c.as_bytes.ensures.value c.in-Err.ensures.refused in
    unread_body c.args.table.now (cycle_samples (g.T.Trace.samples c.args.trace.now) (g.T.Trace.cursor c.args.trace.now)) c.args.slot c.args.instance read reader c.args.text.now c.in-Err.fault c.unread.result cause c.unread.ensures
