use Rattle.std.proofs.Common.{subst, map, ap, ◌∙◌}
use Rattle.design_core.specs.View.{variant_of}
use Rattle.check_core.specs.Names.{named, is_child_output}
use Rattle.names.specs.Known.{Known}
use Rattle.check_core.specs.Faults.{Tells}
use Rattle.check_core.specs.Ports.{unknown_port_among}
use Rattle.check_names.proofs.ports.unknown_port.Goals as goal

pub returns : goal.returns
returns c = subst (λ (k : Known). Tells c.unknown_port_among.result (unknown_port_among k (map variant_of c.args.variants.now) (variant_of c.args.variant.now))) (c.in_ok-outputs.ensures ∙ ap (λ l. named is_child_output l) c.items.ensures) c.unknown_port_among.ensures
