-- Parameters with defaults, computed.
use Rattle.std.proofs.Common.{refl}
use Rattle.std.specs.Fmt.{digits}
use Rattle.elab_core.specs.Walk.{and_then, judge}
use Rattle.elab_core.specs.Numbers.{number, index_name, two_numbers}
use Rattle.elab_core.specs.Elab.{literal, expr, part_bounds, turns, statement, distinct, arguments, parameters, values, ports, conns, asked, count_outputs, register, wire_signal, item_walk, module_walk, instance, top_arguments, top_values, top_walk}
use Rattle.elab_core.specs.Replace.{put_stmt, put_item, closed_stmt, closed_body}
use Rattle.elab_core.specs.Closed.{closed_item, closed_all, closed_module, closed_instance, closed_top}
use Rattle.hand_samples.specs.Defaults.{DefaultsAreSeen}

pub defaults_are_seen : DefaultsAreSeen
unfolding digits and_then judge number index_name two_numbers literal expr part_bounds turns statement distinct arguments parameters values ports conns asked count_outputs register wire_signal item_walk module_walk instance top_arguments top_values top_walk put_stmt put_item closed_stmt closed_body closed_item closed_all closed_module closed_instance closed_top
defaults_are_seen = record {
  by_defaults = (refl, refl);
  given = (refl, refl);
  later_default = (refl, refl);
  later_given = (refl, refl);
  childs_own = (refl, refl);
}
