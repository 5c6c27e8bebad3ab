use Rattle.design_core.specs.DesignView.{design_of}
use Rattle.place_core.specs.Numbering.{numbers_of}
use Rattle.ssa_core.specs.Drives.{Grows, LinksBefore}
use Rattle.ssa_core.proofs.drive.put_links.Given as goal

abbrev pub invariant-loop-place : goal.invariant-loop-place
invariant-loop-place l = record {
  grows : Grows (design_of l.design) l.links l.keys (numbers_of l.maps) l.initial.list l.list;
  driven : LinksBefore l.links (numbers_of l.maps) l.place l.list;
}
