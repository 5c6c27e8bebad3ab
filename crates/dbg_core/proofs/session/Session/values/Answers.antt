use Rattle.std.proofs.Common.{◌≡◌, true, rules, sym, subst, ◌∙◌, inl, inr}
use Rattle.std.specs.Prelude.{IfOk, nat_eq}
use Rattle.std.specs.List.{list_any}
use Rattle.machine_core.specs.declared.reply.At.TheVariants.{Start, End}
use Rattle.dbg_core.specs.World.{world_of}
use Rattle.machine_core.specs.Machine.{threads_of}
use Rattle.dbg_core.proofs.Values.{instance_here, cycle_here, values_here, no_threads, none_in}
use Rattle.dbg_core.proofs.session.Session.values.Goals as goal

pub values_in-requires-clause-there : goal.values_in-requires-clause-there
values_in-requires-clause-there g c =
    instance_here c.args.self.now.table (g.T.Trace.samples c.args.self.now.trace) c.args.self.now.place c.in-Position.cycle c.in-Position.slot c.args.self.now.within (sym c.in-Position.ensures) c.args.instance
    (search rules)

pub returns-in-Position-clause-values : goal.returns-in-Position-clause-values
returns-in-Position-clause-values g c =
    let s = g.T.Trace.samples c.args.self.now.trace in
    let inside = cycle_here c.args.self.now.table s c.args.self.now.place c.in-Position.cycle c.in-Position.slot c.args.self.now.within (sym c.in-Position.ensures) in
    let same = values_here c.args.self.now.table s c.args.self.now.place c.in-Position.cycle c.in-Position.slot c.args.self.now.within (sym c.in-Position.ensures)
    (g.T.Trace.samples c.seek.new.self) (g.T.Trace.cursor c.seek.new.self) c.args.instance c.seek.ensures.kept (c.seek.ensures.within inside).1 (search rules) in
    subst (λ shown. IfOk c.values_in.result (λ values. values.items ≡ shown)) same c.values_in.ensures

pub returns-in-Start : goal.returns-in-Start
returns-in-Start g c =
    let w = world_of c.args.self.now.table (g.T.Trace.samples c.args.self.now.trace) in
    let thread : list_any (nat_eq c.args.instance) (threads_of w c.args.self.now.place) ≡ true = search rules in
    elim c.in-Start.is [
      | inl start ↦ absurd (none_in c.args.instance (threads_of w c.args.self.now.place)
          (no_threads c.args.self.now.table (g.T.Trace.samples c.args.self.now.trace) c.args.self.now.place Start (sym c.at_place.ensures ∙ start) (λ cycle slot e. cc)) thread)
      | inr end ↦ absurd (none_in c.args.instance (threads_of w c.args.self.now.place)
          (no_threads c.args.self.now.table (g.T.Trace.samples c.args.self.now.trace) c.args.self.now.place End (sym c.at_place.ensures ∙ end) (λ cycle slot e. cc)) thread)
    ]
