-- What a session at the start puts out over the world of its table and its trace.
use Rattle.std.proofs.Common.{◌≡◌, ℕ, List, Option, subst}
use Rattle.io_edge.specs.Taken.{Appends, AppendsFront}
use Rattle.listen.specs.Pairs.{Heard}
use Rattle.symtab.specs.declared.parts.TableParts.{TableParts}
use Rattle.trace_core.specs.Samples.{Samples}
use Rattle.trace_world.specs.TraceWorld.{trace_world}
use Rattle.machine_core.specs.Reading.{Reader, IsReader}
use Rattle.machine_core.specs.Machine.{Machine, opening}
use Rattle.machine_core.specs.Journal.{batch_from, closed}
use Rattle.dbg_core.specs.World.{world_of}
use Rattle.batch_run.specs.Texts.{requests_of, session_text, batch_text}
use Rattle.batch_run.specs.Batch.{output_from, TakesBatch, TakesBatchFront, TakesOutput, TakesOutputFront}

module _ (parts shown : TableParts) (s told : Samples) (heard : List Heard) (m : Machine) (requests : List ℕ) (table : parts ≡ shown) (samples : s ≡ told) (opens : m ≡ opening heard) where
  output_is : (read : Reader) → output_from read (world_of parts s) m requests ≡ batch_text read (trace_world shown told) heard requests
  output_is read = λ i. session_text (closed (batch_from read (world_of (table i) (samples i)) (requests_of requests) (opens i)))

  pub output_taken : (old new : Option (List ℕ)) → TakesBatch (world_of parts s) m requests old new → TakesOutput (trace_world shown told) heard requests old new
  output_taken old new h read reader = subst (Appends old new) (output_is read) (h read reader)

  pub front_taken : (old new : Option (List ℕ)) → TakesBatchFront (world_of parts s) m requests old new → TakesOutputFront (trace_world shown told) heard requests old new
  front_taken old new h read reader = subst (AppendsFront old new) (output_is read) (h read reader)
