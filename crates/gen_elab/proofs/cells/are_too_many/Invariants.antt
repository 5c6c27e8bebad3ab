use Rattle.std.proofs.Common.{◌≡◌, ◌+◌, ◌<◌, ◌≤◌, min, map, drop}
use Rattle.elab_core.specs.View.{instance_of}
use Rattle.elab_core.specs.Design.{cells}
use Rattle.gen_elab.specs.Offsets.{all_statements}
use Rattle.gen_elab.proofs.cells.are_too_many.Given as goal

-- those so far and those that are left are all
abbrev pub invariant-loop-instance : goal.invariant-loop-instance
invariant-loop-instance l = record {
  cells : min (l.total + cells (map instance_of (drop l.instance-index l.instances))) 18446744073709551615 ≡ min (cells (map instance_of l.instances)) 18446744073709551615;
  fits : l.total < 18446744073709551616;
  left : all_statements (map instance_of (drop l.instance-index l.instances)) ≤ 200000;
}
