-- The whole output of a batch, as a sink takes it.
use Rattle.std.specs.Prelude.{ℕ, List, Option}
use Rattle.io_edge.specs.Taken.{Appends, AppendsFront}
use Rattle.listen.specs.Pairs.{Heard}
use Rattle.world_core.specs.World.{World}
use Rattle.machine_core.specs.Reading.{Reader, IsReader}
use Rattle.machine_core.specs.Machine.{Machine}
use Rattle.machine_core.specs.Journal.{batch_from, closed}
use Rattle.batch_run.specs.Texts.{requests_of, session_text, batch_text}

-- what a batch puts out over a world from a state of the machine, closing lines included
abbrev pub output_from : Reader → World → Machine → List ℕ → List ℕ
output_from read w m requests = session_text (closed (batch_from read w (requests_of requests) m))

-- by the one way to read conditions the whole was taken, or a front of it
abbrev pub TakesBatch : World → Machine → List ℕ → (old new : Option (List ℕ)) → Type 0
TakesBatch w m requests old new = (read : Reader) → IsReader read → Appends old new (output_from read w m requests)

abbrev pub TakesBatchFront : World → Machine → List ℕ → (old new : Option (List ℕ)) → Type 0
TakesBatchFront w m requests old new = (read : Reader) → IsReader read → AppendsFront old new (output_from read w m requests)

-- from the start of a session over a world, with listeners that mean this
abbrev pub TakesOutput : World → List Heard → List ℕ → (old new : Option (List ℕ)) → Type 0
TakesOutput w heard requests old new = (read : Reader) → IsReader read → Appends old new (batch_text read w heard requests)

abbrev pub TakesOutputFront : World → List Heard → List ℕ → (old new : Option (List ℕ)) → Type 0
TakesOutputFront w heard requests old new = (read : Reader) → IsReader read → AppendsFront old new (batch_text read w heard requests)
