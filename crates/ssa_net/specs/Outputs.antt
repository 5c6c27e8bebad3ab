-- Outputs of the top, one after another.
use Rattle.std.specs.Prelude.{◌≡◌, ℕ, true, List, length, ◌++◌}
use Rattle.exec_core.specs.Block.{Name}
use Rattle.design_core.specs.declared.variant.Signal.{Signal}
use Rattle.design_core.specs.Ports.{one_port}
use Rattle.lower_core.specs.Lowered.{OutputsTold}
use Rattle.net_core.specs.Nodes.{Shape}
use Rattle.ssa_nodes.specs.declared.parts.Parts as code
use Rattle.ssa_nodes.specs.Parts.{design_in}

-- a signal's output, if it is one, stands behind those of before
pub record OneMore (p : code.Parts) (ns : List Shape) (old new : List (Name × ℕ)) (s : Signal) : Type 0 where
  pub outputs : List (Name × ℕ)
  pub behind : new ≡ old ++ outputs
  pub told : OutputsTold (design_in p) (length p.order.now) ns (one_port true s) outputs
