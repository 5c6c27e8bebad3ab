-- The samples, computed.
use Rattle.std.proofs.Common.{refl}
use Rattle.std.specs.Fmt.{digits}
use Rattle.elab_core.specs.Walk.{and_then, judge}
use Rattle.elab_core.specs.Numbers.{number, index_name, two_numbers}
use Rattle.elab_core.specs.Elab.{literal, expr, part_bounds, turns, statement, distinct, arguments, parameters, values, ports, conns, asked, count_outputs, register, wire_signal, item_walk, module_walk, instance, top_arguments, top_values, top_walk}
use Rattle.elab_core.specs.Samples.{loops_is_elaborated, loops_is_refused, endless_is_refused, family_is_elaborated, files_are_elaborated, files_are_refused}

pub loops : loops_is_elaborated
unfolding and_then judge number index_name two_numbers literal expr part_bounds turns statement distinct arguments parameters values ports conns asked count_outputs register wire_signal item_walk module_walk instance top_arguments top_values top_walk
loops = refl

pub loops_refused : loops_is_refused
unfolding and_then judge number index_name two_numbers literal expr part_bounds turns statement distinct arguments parameters values ports conns asked count_outputs register wire_signal item_walk module_walk instance top_arguments top_values top_walk
loops_refused = (refl, refl)

pub endless : endless_is_refused
unfolding and_then judge number index_name two_numbers literal expr part_bounds turns statement distinct arguments parameters values ports conns asked count_outputs register wire_signal item_walk module_walk instance top_arguments top_values top_walk
endless = (refl, refl)

pub family : family_is_elaborated
unfolding digits and_then judge number index_name two_numbers literal expr part_bounds turns statement distinct arguments parameters values ports conns asked count_outputs register wire_signal item_walk module_walk instance top_arguments top_values top_walk
family = (refl, refl, refl)

pub files : files_are_elaborated
unfolding and_then judge number index_name two_numbers literal expr part_bounds turns statement distinct arguments parameters values ports conns asked count_outputs register wire_signal item_walk module_walk instance top_arguments top_values top_walk
files = (refl, refl)

pub files_refused : files_are_refused
unfolding and_then judge number index_name two_numbers literal expr part_bounds turns statement distinct arguments parameters values ports conns asked count_outputs register wire_signal item_walk module_walk instance top_arguments top_values top_walk
files_refused = (refl, refl)
