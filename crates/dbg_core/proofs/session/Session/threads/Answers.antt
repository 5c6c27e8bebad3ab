use Rattle.std.proofs.Common.{refl, sym, ◌∙◌, inl, inr}
use Rattle.machine_core.specs.declared.reply.At.TheVariants.{Start, End}
use Rattle.dbg_core.proofs.Values.{no_threads}
use Rattle.dbg_core.proofs.session.Session.threads.Goals as goal

pub returns-in-Start : goal.returns-in-Start
returns-in-Start g c = record {
  table = refl;
  samples = refl;
  state = λ heard. refl;
  threads = elim c.in-Start.is [
    | inl start ↦ c.new.ensures.items ∙ sym (no_threads c.args.self.now.table (g.T.Trace.samples c.args.self.now.trace) c.args.self.now.place Start (sym c.at_place.ensures ∙ start) (λ cycle slot e. cc))
    | inr end ↦ c.new.ensures.items ∙ sym (no_threads c.args.self.now.table (g.T.Trace.samples c.args.self.now.trace) c.args.self.now.place End (sym c.at_place.ensures ∙ end) (λ cycle slot e. cc))
  ];
}
