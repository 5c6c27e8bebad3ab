-- The numbers of a demo's line, as the code counts them.
use Rattle.std.specs.Prelude.{◌≡◌, ℕ, List, ◌++◌, length, codes}
use Rattle.world_core.specs.World.{World}
use Rattle.demo_run.specs.Stops.{Reached}
use Rattle.demo_run.specs.Line.{said, world_part, stops_part}
use Rattle.demo_run.specs.Answers.{Counted}
use Rattle.demo_run.specs.declared.line.Summary.{Summary}

pub record Tells (w : World) (stops : List Reached) (summary : Summary) : Type 0 where
  pub instances : summary.instances ≡ length w.paths
  pub slots : summary.slots ≡ length w.slots
  pub counts : Counted stops summary.counts

abbrev pub summary_line : ℕ → Summary → List ℕ
summary_line number summary =
    said (codes "demo ") number ++ world_part summary.instances summary.slots ++ stops_part summary.counts.forward summary.counts.backward summary.counts.threads ++ codes "\n"
