-- What a compiled design shows of a run is known, since it is what the run shows.
use Rattle.std.proofs.Common.{ℕ, ◌<◌, false, List, length, sym, ap, ◌∙◌, subst}
use Rattle.std.specs.Prelude.{slice_get}
use Rattle.std.proofs.lemmas.Option.{slice_get_within}
use Rattle.list_core.specs.Lists.{IsIn}
use Rattle.exec_core.specs.Run.{starts}
use Rattle.design_core.specs.Ports.{ports_in, top_signals}
use Rattle.design_exec.specs.Processes.{processes_of}
use Rattle.sim_hist.specs.Run.{run_samples}
use Rattle.world_core.specs.World as world
use Rattle.world_core.specs.World.{World, IsInScope, AreSame}
use Rattle.world_core.specs.Source.{rows_named, source_world}
use Rattle.trace_world.specs.TraceWorld.{trace_world}
use Rattle.world_laws.specs.Values.{NothingIsUnknown}
use Rattle.world_laws.proofs.Valued.{source_is_known}
use Rattle.trim_laws.specs.Shown.{TraceIsKnown}
use Rattle.trim_laws.proofs.Worlds.{count_same, worlds_are_same}

-- where nothing is unknown in a world, so it is in one that is the same
same_known : (v w : World) → AreSame v w → NothingIsUnknown w → NothingIsUnknown v
same_known v w s known t k i x inside thread scope unknown =
    let there : IsInScope w k x = record { shows = scope.shows; slot = ap (λ (l : List world.Shows). slice_get l k) (sym s.slots) ∙ scope.slot; name = scope.name } in
    let now : t < w.cycles = subst (λ (n : ℕ). t < n) s.cycles inside in
    let at : k < length w.slots = slice_get_within w.slots k there.shows there.slot in
    let mine : IsIn i (w.threads t k) = subst (λ (l : List ℕ). IsIn i l) (s.threads t k now at) thread in
    known t k i x now mine there (sym (s.shown t k i x now mine there) ∙ unknown)

pub trace_is_known : TraceIsKnown
trace_is_known d pairs mode net parts stim run h =
    same_known (trace_world parts (run_samples net stim)) (source_world d (length pairs) mode run) (worlds_are_same d pairs mode net parts stim run h)
    (subst (λ (n : ℕ). NothingIsUnknown (source_world d n mode run)) (sym (count_same d pairs mode net parts stim run h))
    (source_is_known d h.sound h.order.order h.order.in_order mode (starts (processes_of d)) (rows_named (ports_in false (top_signals d)) stim.rows) run h.run_over))
