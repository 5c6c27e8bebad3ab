use Rattle.std.proofs.Common.{map, ap, ◌∙◌}
use Rattle.design_core.specs.View.{variant_of}
use Rattle.design_core.proofs.PortSteps.{widths_kept, names_kept}
use Rattle.design_core.proofs.top.ports_of.Goals as goal

pub invariant_of-result : goal.invariant_of-result
invariant_of-result c = record {
  widths =
      widths_kept (map variant_of c.args.design.now.variants.items) (map variant_of c.deref.result.now) c.signals_of-signals.result.now c.new-2.result c.new-3.result (ap (map variant_of) c.deref.ensures.value)
      c.signals_of-signals.ensures c.requires (c.new-2.ensures ∙ c.in_ok-inputs.ensures) (c.new-3.ensures ∙ c.in_ok-outputs.ensures);
  names =
      names_kept (map variant_of c.args.design.now.variants.items) (map variant_of c.deref.result.now) c.signals_of-signals.result.now c.args.design.now.top c.in_ok-module.module c.new-2.result c.new-3.result
      (ap (map variant_of) c.deref.ensures.value) c.signals_of-signals.ensures c.args.design.now.kept.each c.args.design.now.kept.top_module (c.in_ok-module.ensures ∙ c.bytes.ensures) (c.new-2.ensures ∙ c.in_ok-inputs.ensures)
      (c.new-3.ensures ∙ c.in_ok-outputs.ensures);
}
