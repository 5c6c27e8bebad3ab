use Rattle.std.proofs.Common.{◌≡◌, ◌≤◌, false, ap, sym, subst, ◌∙◌, arith}
use Rattle.trace_core.specs.declared.scan.Want.{Want}
use Rattle.symtab.specs.Lookups.{instances_of}
use Rattle.machine_core.specs.Matching.{is_wanted}
use Rattle.slot_sched.specs.declared.spans.Span.{Span}
use Rattle.slot_sched.specs.Spans.{span_of}
use Rattle.site_core.specs.Sampled.{is_thread}
use Rattle.slot_sched.specs.Waiting.{slot_stops}
use Rattle.slot_sched.proofs.Gaps.{passed_ahead}
use Rattle.slot_sched.proofs.Spanning.{none_offered, vacant_stops}
use Rattle.slot_sched.proofs.schedule.Schedule.passed_up.Goals as goal

pub returns-in-Breakpoints-clause-none : goal.returns-in-Breakpoints-clause-none
returns-in-Breakpoints-clause-none c = λ k samples low high.
    let here : c.span_at-span.result ≡ span_of c.args.self.now.spans.items c.args.slot = c.span_at-span.ensures ∙ ap (λ l. span_of l c.args.slot) c.deref.ensures.value in
    let told = c.min.ensures in
    let vacant = passed_ahead c.args.self.now.spans.items c.args.self.now.gaps c.args.slot c.min.result k
    (λ some. subst (λ (s : Span). s.to ≤ s.from) here (c.passed.ensures.here (omega (arith, some, told))))
    (λ more. let most = c.passed.ensures.most (omega (arith, more, told)) in let same = ap (λ (s : Span). s.ahead) here in omega (arith, told, most, same)) low high in
    subst (λ (want : Want). slot_stops c.args.table.now samples k c.args.self.now.armed.items want ≡ false) (sym c.in-Breakpoints.is)
    (vacant_stops c.args.table.now samples k c.args.self.now.spans.items 0 c.args.self.now.armed.items c.args.self.now.spanned vacant)

pub returns-else-any_wanted-clause-none : goal.returns-else-any_wanted-clause-none
returns-else-any_wanted-clause-none c = λ k samples low high.
    let here : c.args.slot ≡ k = omega (arith, low, high) in
    subst (λ n. slot_stops c.args.table.now samples n c.args.self.now.armed.items c.args.want ≡ false) here
    (subst (λ (want : Want). slot_stops c.args.table.now samples c.args.slot c.args.self.now.armed.items want ≡ false) (sym c.in-Step.is)
    (none_offered (is_wanted c.in-Step.named) (is_thread c.args.table.now samples c.args.slot) (instances_of c.args.table.now c.args.slot) (sym c.any_wanted.ensures ∙ c.if-any_wanted.false)))
