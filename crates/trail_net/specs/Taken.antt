-- The trails of a design's runs, as a sink takes them.
use Rattle.std.specs.Prelude.{ℕ, List, Option}
use Rattle.bv_core.specs.Value.{Bits}
use Rattle.exec_core.specs.Whole.{Place}
use Rattle.io_edge.specs.Taken.{Appends, AppendsFront}
use Rattle.design_core.specs.Design.{Design}
use Rattle.world_core.specs.declared.mode.Mode.{Mode}
use Rattle.world_core.specs.World.{trail_text}
use Rattle.world_core.specs.Source.{source_world}
use Rattle.trim_laws.specs.Runs.{RunsOver}

-- of each run the whole trail was taken, or a front of it; n is how many signals are driven
pub record TakesTrail (d : Design) (n : ℕ) (mode : Mode) (rows : List (List Bits)) (old new : Option (List ℕ)) : Type 0 where
  pub taken : (run : List (Place → Bits)) → RunsOver d rows run → Appends old new (trail_text (source_world d n mode run))

pub record TakesTrailFront (d : Design) (n : ℕ) (mode : Mode) (rows : List (List Bits)) (old new : Option (List ℕ)) : Type 0 where
  pub taken : (run : List (Place → Bits)) → RunsOver d rows run → AppendsFront old new (trail_text (source_world d n mode run))
