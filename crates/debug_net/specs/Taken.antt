-- The output of a debugger over a design's runs, as a sink takes it.
use Rattle.std.specs.Prelude.{ℕ, List, Option}
use Rattle.bv_core.specs.Value.{Bits}
use Rattle.exec_core.specs.Whole.{Place}
use Rattle.io_edge.specs.Taken.{Appends, AppendsFront}
use Rattle.listen.specs.Pairs.{Heard}
use Rattle.design_core.specs.Design.{Design}
use Rattle.world_core.specs.declared.mode.Mode.{Mode}
use Rattle.world_core.specs.Source.{source_world}
use Rattle.trim_laws.specs.Runs.{RunsOver}
use Rattle.machine_core.specs.Reading.{Reader, IsReader}
use Rattle.batch_run.specs.Texts.{batch_text}

-- of each run, and of the one way to read conditions, the whole output of the batch over the source's world was taken, or a front of it; n
-- is how many signals are driven
pub record TakesSession (d : Design) (n : ℕ) (mode : Mode) (rows : List (List Bits)) (heard : List Heard) (requests : List ℕ) (old new : Option (List ℕ)) : Type 0 where
  pub taken : (run : List (Place → Bits)) → RunsOver d rows run → (read : Reader) → IsReader read → Appends old new (batch_text read (source_world d n mode run) heard requests)

pub record TakesSessionFront (d : Design) (n : ℕ) (mode : Mode) (rows : List (List Bits)) (heard : List Heard) (requests : List ℕ) (old new : Option (List ℕ)) : Type 0 where
  pub taken : (run : List (Place → Bits)) → RunsOver d rows run → (read : Reader) → IsReader read → AppendsFront old new (batch_text read (source_world d n mode run) heard requests)
