use Rattle.std.proofs.Common.{take}
use Rattle.design_exec.specs.Processes.{processes_of}
use Rattle.ssa_nodes.specs.Parts.{all_in, design_in}
use Rattle.next_net.specs.Writers.{AreWriters}
use Rattle.next_net.proofs.writer.put_processes.Given as goal

abbrev pub invariant-loop-place : goal.invariant-loop-place
invariant-loop-place l = AreWriters (take l.place (processes_of (design_in l.parts)).processes) l.parts.count (all_in l.parts) l.list
