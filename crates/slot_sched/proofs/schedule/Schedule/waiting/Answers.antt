use Rattle.std.proofs.Common.{◌-◌, ◌∙◌, List, take, drop, ap, sym, subst}
use Rattle.std.specs.Prelude.{slice_get, unwrap_or}
use Rattle.std.proofs.lemmas.List.Elements.{All-take, All-drop}
use Rattle.slot_sched.specs.declared.armed.Armed.{Armed}
use Rattle.slot_sched.specs.declared.spans.Span.{Span}
use Rattle.slot_sched.specs.Spans.{no_span}
use Rattle.slot_sched.specs.Waiting.{any_stops, IsArmedReady, AreReady}
use Rattle.slot_sched.proofs.Spanning.{span_is_enough}
use Rattle.slot_sched.proofs.schedule.Schedule.waiting.Goals as goal

pub returns-clause-stops : goal.returns-clause-stops
returns-clause-stops c = λ parts samples.
    ap (λ (l : List Armed). any_stops parts samples c.args.slot (take (c.min-to.result - c.min-from.result) (drop c.min-from.result l))) c.deref-2.ensures.value
    ∙ span_is_enough parts samples c.args.slot c.args.self.now.spans.items c.span_at-span.result c.args.self.now.armed.items c.len.result c.min-from.result c.min-to.result c.args.self.now.spanned
    (sym (c.span_at-span.ensures ∙ ap (λ (l : List Span). unwrap_or (slice_get l c.args.slot) no_span) c.deref.ensures.value)) (c.len.ensures ∙ c.args.self.now.armed.ok.0) c.min-to.ensures c.min-from.ensures

pub returns-clause-ready : goal.returns-clause-ready
returns-clause-ready c = λ parts s ready.
    subst (λ (l : List Armed). AreReady parts s (take (c.min-to.result - c.min-from.result) (drop c.min-from.result l))) (sym c.deref-2.ensures.value)
    (record { each = All-take (IsArmedReady parts s) _ (drop c.min-from.result c.args.self.now.armed.items) (All-drop (IsArmedReady parts s) c.min-from.result c.args.self.now.armed.items ready.each) })
