-- What compiling and simulating a design gives the batch over its run.
use Rattle.std.proofs.Common.{◌≡◌, ℕ, List, length, Option, ap, ◌∙◌, subst}
use Rattle.bv_core.specs.Value.{Bits}
use Rattle.exec_core.specs.Whole.{Place}
use Rattle.io_edge.specs.Taken.{Appends, AppendsFront}
use Rattle.io_edge.proofs.Growth.{no_growth}
use Rattle.listen.specs.Pairs.{Heard}
use Rattle.design_core.specs.Design.{Design}
use Rattle.net_core.specs.Nets.{NetParts}
use Rattle.symtab.specs.declared.parts.TableParts.{TableParts}
use Rattle.stim_text.specs.Stimulus.{Stimulus, IsStimulus}
use Rattle.sim_hist.specs.Run.{run_samples}
use Rattle.check_exec.specs.Premises.{IsSound}
use Rattle.place_core.specs.Orders.{TellsOrder}
use Rattle.world_core.specs.declared.mode.Mode.{Mode}
use Rattle.world_core.specs.World.{World}
use Rattle.world_core.specs.Source.{source_world}
use Rattle.trace_world.specs.TraceWorld.{trace_world}
use Rattle.trim_core.specs.Trimmed.{IsTrimmed}
use Rattle.trim_laws.specs.Runs.{HasInputs, RunsOver}
use Rattle.trim_laws.proofs.Worlds.{worlds_are_seen_alike}
use Rattle.machine_core.specs.Reading.{Reader}
use Rattle.machine_core.specs.Machine.{opening}
use Rattle.machine_core.specs.Journal.{batch_from, closed}
use Rattle.batch_run.specs.Texts.{requests_of, session_text, batch_text}
use Rattle.batch_run.specs.Batch.{TakesOutput, TakesOutputFront}
use Rattle.debug_net.specs.Taken.{TakesSession, TakesSessionFront}

-- what a batch puts out over the world of a compiled design's table and samples is what it puts out over the source's world
module _ (d : Design) (pairs : List (ℕ × ℕ)) (mode : Mode) (net : NetParts) (parts : TableParts) (stim : Stimulus) (sound : IsSound d) (order : TellsOrder d pairs) (trimmed : IsTrimmed d (length pairs) mode net parts) (kept : IsStimulus stim) (inputs : HasInputs d stim.ports)
    (v : World) (same : v ≡ trace_world parts (run_samples net stim)) (heard : List Heard) (requests : List ℕ) where
  output_is : (run : List (Place → Bits)) → RunsOver d stim.rows run → (read : Reader) → batch_text read v heard requests ≡ batch_text read (source_world d (length pairs) mode run) heard requests
  output_is run over read =
      let alike = worlds_are_seen_alike d pairs mode net parts stim run (record { sound = sound; order = order; trimmed = trimmed; stimulus = kept; inputs = inputs; run_over = over }) in
      ap (λ (w : World). batch_text read w heard requests) same ∙ (λ i. session_text (closed (batch_from read (alike i) (requests_of requests) (opening heard))))

  pub session_taken : (old new : Option (List ℕ)) → TakesOutput v heard requests old new → TakesSession d (length pairs) mode stim.rows heard requests old new
  session_taken old new h = record { taken = λ run over read reader. subst (Appends old new) (output_is run over read) (h read reader) }

  pub front_taken : (old new : Option (List ℕ)) → TakesOutputFront v heard requests old new → TakesSessionFront d (length pairs) mode stim.rows heard requests old new
  front_taken old new h = record { taken = λ run over read reader. subst (AppendsFront old new) (output_is run over read) (h read reader) }

pub none_taken : (d : Design) (n : ℕ) (mode : Mode) (rows : List (List Bits)) (heard : List Heard) (requests : List ℕ) (old new : Option (List ℕ)) → new ≡ old → TakesSessionFront d n mode rows heard requests old new
none_taken d n mode rows heard requests old new e =
    record { taken = λ run over read reader. no_growth old new (batch_text read (source_world d n mode run) heard requests) e }
