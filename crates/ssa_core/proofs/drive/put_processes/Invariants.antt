use Rattle.design_core.specs.DesignView.{design_of}
use Rattle.place_core.specs.Numbering.{numbers_of}
use Rattle.ssa_core.specs.Drives.{Grows, ProcessesBefore}
use Rattle.ssa_core.proofs.drive.put_processes.Given as goal

abbrev pub invariant-loop-place : goal.invariant-loop-place
invariant-loop-place l = record {
  grows : Grows (design_of l.design) l.links l.keys (numbers_of l.maps) l.initial.list l.list;
  driven : ProcessesBefore (design_of l.design) l.keys (numbers_of l.maps) l.place l.list;
}
