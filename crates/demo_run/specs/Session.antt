-- What a session over a world, and over a design's runs, counts.
use Rattle.std.specs.Prelude.{ℕ, List}
use Rattle.bv_core.specs.Value.{Bits}
use Rattle.exec_core.specs.Whole.{Place}
use Rattle.listen.specs.Pairs.{Heard}
use Rattle.design_core.specs.Design.{Design}
use Rattle.world_core.specs.declared.mode.Mode.{Mode}
use Rattle.world_core.specs.World.{World}
use Rattle.world_core.specs.Seen.{seen}
use Rattle.world_core.specs.Source.{source_world}
use Rattle.trim_laws.specs.Runs.{RunsOver}
use Rattle.machine_core.specs.Reading.{Reader, IsReader}
use Rattle.machine_core.specs.Machine.{opening}
use Rattle.batch_run.specs.Texts.{requests_of}
use Rattle.demo_run.specs.Stops.{batch_stops}
use Rattle.demo_run.specs.Summing.{Tells}
use Rattle.demo_run.specs.declared.line.Summary.{Summary}

-- by the one way to read conditions
abbrev pub TellsTrace : World → List Heard → List ℕ → Summary → Type 0
TellsTrace w heard requests summary = (read : Reader) → IsReader read → Tells w (batch_stops read (seen w) (requests_of requests) (opening heard)) summary

-- of each run, over the source's world; n is how many signals are driven
pub record TellsSession (d : Design) (n : ℕ) (mode : Mode) (rows : List (List Bits)) (heard : List Heard) (requests : List ℕ) (summary : Summary) : Type 0 where
  pub tells : (run : List (Place → Bits)) → RunsOver d rows run → TellsTrace (source_world d n mode run) heard requests summary
