-- What compiling a design gives the function that writes its trail.
use Rattle.std.proofs.Common.{◌≡◌, ℕ, false, List, length, Option, ap, ◌∙◌, subst}
use Rattle.std.specs.Prelude.{slice_get}
use Rattle.std.specs.List.{enumerate_from}
use Rattle.std.proofs.lemmas.List.{length-map}
use Rattle.std.proofs.lemmas.List.FromFn.{length-enumerate_from}
use Rattle.bv_core.specs.Value.{Bits}
use Rattle.exec_core.specs.Whole.{Place}
use Rattle.design_core.specs.declared.Ports.{Ports}
use Rattle.design_core.specs.Design.{Design}
use Rattle.design_core.specs.Ports.{ports_in, top_signals}
use Rattle.net_core.specs.Nets.{NetParts}
use Rattle.io_edge.specs.Taken.{Appends, AppendsFront}
use Rattle.io_edge.proofs.Growth.{no_growth}
use Rattle.symtab.specs.declared.parts.NodeName.{NodeName}
use Rattle.symtab.specs.declared.parts.TableParts.{TableParts}
use Rattle.stim_text.specs.Stimulus.{Stimulus, IsStimulus}
use Rattle.sim_hist.specs.Run.{InputsArePorts, run_samples}
use Rattle.check_exec.specs.Premises.{IsSound}
use Rattle.check_exec.proofs.Facts.{in_index}
use Rattle.place_core.specs.Orders.{TellsOrder}
use Rattle.world_core.specs.declared.mode.Mode.{Mode}
use Rattle.world_core.specs.World.{trail_text}
use Rattle.world_core.specs.Source.{source_world}
use Rattle.world_core.proofs.Trails.{same_trails}
use Rattle.trace_world.specs.TraceWorld.{trace_world}
use Rattle.trim_core.specs.Named.{named}
use Rattle.trim_core.specs.Trimmed.{IsTrimmed}
use Rattle.trim_laws.specs.Runs.{HasInputs, RunsOver}
use Rattle.design_net.proofs.Inputs.{inputs_among}
use Rattle.trim_laws.proofs.Worlds.{worlds_are_same}
use Rattle.trail_net.specs.Taken.{TakesTrail, TakesTrailFront}

-- each input of the net is one of the ports
pub inputs_are_ports : (d : Design) (n : ℕ) (mode : Mode) (net : NetParts) (parts : TableParts) (ports : Ports) → IsSound d → IsTrimmed d n mode net parts → HasInputs d ports → InputsArePorts net.nodes ports
inputs_are_ports d n mode net parts ports sound trimmed inputs i name width at =
    let place = in_index (ports_in false (top_signals d)) (name, width) (inputs_among d n mode net sound trimmed.is_kept i name width at) in
    (place.0, ap (λ ps. slice_get ps place.0) inputs ∙ place.1)

-- the table has the nodes of the net
pub as_many_nodes : (d : Design) (n : ℕ) (mode : Mode) (net : NetParts) (parts : TableParts) → IsTrimmed d n mode net parts → length parts.nodes ≡ length net.nodes
as_many_nodes d n mode net parts trimmed =
    ap (λ (ns : List NodeName). length ns) trimmed.tells.names ∙ length-map (enumerate_from 0 net.nodes) (named net.nodes) ∙ length-enumerate_from 0 net.nodes

-- what was taken is the trail of each run
module _ (d : Design) (pairs : List (ℕ × ℕ)) (mode : Mode) (net : NetParts) (parts : TableParts) (stim : Stimulus) (sound : IsSound d) (order : TellsOrder d pairs) (trimmed : IsTrimmed d (length pairs) mode net parts) (kept : IsStimulus stim) (inputs : HasInputs d stim.ports) where
  trail_is : (run : List (Place → Bits)) → RunsOver d stim.rows run → trail_text (trace_world parts (run_samples net stim)) ≡ trail_text (source_world d (length pairs) mode run)
  trail_is run over =
      same_trails (trace_world parts (run_samples net stim)) (source_world d (length pairs) mode run)
      (worlds_are_same d pairs mode net parts stim run (record { sound = sound; order = order; trimmed = trimmed; stimulus = kept; inputs = inputs; run_over = over }))

  pub trail_taken : (old new : Option (List ℕ)) → Appends old new (trail_text (trace_world parts (run_samples net stim))) → TakesTrail d (length pairs) mode stim.rows old new
  trail_taken old new h = record { taken = λ run over. subst (Appends old new) (trail_is run over) h }

  pub front_taken : (old new : Option (List ℕ)) → AppendsFront old new (trail_text (trace_world parts (run_samples net stim))) → TakesTrailFront d (length pairs) mode stim.rows old new
  front_taken old new h = record { taken = λ run over. subst (AppendsFront old new) (trail_is run over) h }

pub none_taken : (d : Design) (n : ℕ) (mode : Mode) (rows : List (List Bits)) (old new : Option (List ℕ)) → new ≡ old → TakesTrailFront d n mode rows old new
none_taken d n mode rows old new e = record { taken = λ run over. no_growth old new (trail_text (source_world d n mode run)) e }
