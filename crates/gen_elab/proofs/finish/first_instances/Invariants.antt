use Rattle.std.proofs.Common.{◌≡◌, map, drop}
use Rattle.std.specs.Vec.Iter.{into_iter_items}
use Rattle.elab_core.specs.Design.{firsts, variants_of}
use Rattle.elab_core.specs.View.{instance_of}
use Rattle.elab_laws.proofs.Variants.{number_in}
use Rattle.gen_elab.proofs.finish.first_instances.Given as goal

-- with those that are left, the first instances are those of all, and the numbers that are left are theirs
abbrev pub invariant-loop-instance : goal.invariant-loop-instance
invariant-loop-instance l = record {
  firsts : firsts (map instance_of l.firsts.items) (map instance_of (into_iter_items l.instance-iterator)) ≡ variants_of (map instance_of l.fn.instances.items);
  numbers : drop l.index l.numbers ≡ map (number_in (variants_of (map instance_of l.fn.instances.items))) (map instance_of (into_iter_items l.instance-iterator));
}
