use Rattle.exec_core.proofs.KeptTrees.{design_walk_keeps}
use Rattle.design_exec.specs.Processes.{processes_of}
use Rattle.world_core.specs.Kept.{asked_trees}
use Rattle.world_core.proofs.laws.kept_are_least.Goals as goal

pub returns : goal.returns
returns c = λ d n mode. design_walk_keeps (processes_of d) n (asked_trees d n mode)
