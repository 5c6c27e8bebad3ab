use Rattle.std.proofs.Common.{rules, ◌≡◌, ◌<◌, ◌∙◌, length, get_or, refl, sym, ap}
use Rattle.std.specs.Prelude.{unwrap_or}
use Rattle.std.proofs.lemmas.Option.{slice_get_read}
use Rattle.slot_sched.specs.Spans.{no_span, span_of}
use Rattle.slot_sched.proofs.Gaps.{gaps_narrowed, gaps_placed}
use Rattle.slot_sched.proofs.spans.widen_at.Goals as goal

pub returns-clause-gaps : goal.returns-clause-gaps
returns-clause-gaps c = λ gaps.
    let within : c.args.slot < length c.cut_off.new.spans.items = search rules in
    let read : c.index.result.now ≡ get_or c.cut_off.new.spans.items c.args.slot c.index.result.now = search rules in
    let here : c.index.result.now ≡ span_of c.cut_off.new.spans.items c.args.slot =
    sym (ap (λ o. unwrap_or o no_span) (slice_get_read c.cut_off.new.spans.items (length c.cut_off.new.spans.items) c.args.slot c.index.result.now refl within read)) in
    gaps_placed c.cut_off.new.spans.items c.args.slot c.with.result within (c.with.ensures.tells.0 ∙ ap (λ t. t.ahead) here) (c.with.ensures.tells.1 ∙ ap (λ t. t.behind) here)
    (λ k. c.cut_off.ensures.short gaps k) (gaps_narrowed c.args.spans.now.items c.cut_off.new.spans.items c.cut_off.ensures.narrows gaps)
