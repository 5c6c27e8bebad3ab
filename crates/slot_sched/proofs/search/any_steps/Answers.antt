use Rattle.std.proofs.Common.{◌∙◌, ◌&&◌, sym, ap}
use Rattle.symtab.specs.Lookups.{instances_of}
use Rattle.site_core.specs.Sampled.{cycle_samples, is_thread}
use Rattle.slot_sched.specs.Waiting.{any_steps}
use Rattle.slot_sched.proofs.Wanted.{named_alone, wanted_there}
use Rattle.slot_sched.proofs.search.any_steps.Goals as goal

pub is_thread-requires-clause-instance : goal.is_thread-requires-clause-instance
is_thread-requires-clause-instance g c =
    wanted_there c.in-Some.instance (instances_of c.args.table.now c.args.slot) (sym c.has_instance.ensures ∙ c.if-has_instance.true)

pub returns-then-has_instance : goal.returns-then-has_instance
returns-then-has_instance g c =
    let parts = c.args.table.now in
    let samples = cycle_samples (g.T.Trace.samples c.args.trace.now) (g.T.Trace.cursor c.args.trace.now) in
    c.is_thread.ensures ∙ sym (ap (λ n. any_steps parts samples c.args.slot n) c.in-Some.is
    ∙ named_alone (is_thread parts samples c.args.slot) c.in-Some.instance (instances_of parts c.args.slot)
    ∙ ap (λ b. b && is_thread parts samples c.args.slot c.in-Some.instance) (sym c.has_instance.ensures ∙ c.if-has_instance.true))

pub returns-else-has_instance : goal.returns-else-has_instance
returns-else-has_instance g c =
    let parts = c.args.table.now in
    let samples = cycle_samples (g.T.Trace.samples c.args.trace.now) (g.T.Trace.cursor c.args.trace.now) in
    c.if-has_instance.false ∙ sym (ap (λ n. any_steps parts samples c.args.slot n) c.in-Some.is
    ∙ named_alone (is_thread parts samples c.args.slot) c.in-Some.instance (instances_of parts c.args.slot)
    ∙ ap (λ b. b && is_thread parts samples c.args.slot c.in-Some.instance) (sym c.has_instance.ensures ∙ c.if-has_instance.false))
