use Rattle.std.proofs.Common.{◌∙◌}
use Rattle.cond_lang.specs.Form.{seats}
use Rattle.cond_lang.proofs.Judging.{whole_bound}
use Rattle.cond_lang.proofs.binding.cond_at.Goals as goal

pub invariant_of-result : goal.invariant_of-result
invariant_of-result c =
    let text = c.args.text.now in
    rw c.in_ok-try_clone-in-Ok.ensures (record {
      fits = whole_bound c.args.refs.items text.offsets.items text.form.value.parts.items _ c.len.result c.in-Ok.width c.judge-width.result.2 c.judge-width.result.0 (seats c.judge-width.result.1.now)
          c.requires text.formed text.sized (c.len.ensures ∙ text.offsets.ok.0)
          (rw (c.deref-2.ensures.value, c.deref-3.ensures.value, c.deref-4.ensures.value, c.deref.ensures) at c.judge-width.ensures.judged) c.in-Ok.is;
    })
