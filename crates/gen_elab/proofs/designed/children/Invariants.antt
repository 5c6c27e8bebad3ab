use Rattle.std.proofs.Common.{◌≡◌, ◌++◌, map}
use Rattle.std.specs.Vec.Iter.{into_iter_items}
use Rattle.design_core.specs.View.{child_of}
use Rattle.elab_core.specs.View as met
use Rattle.gen_elab.specs.Keys.{key_child}
use Rattle.gen_elab.proofs.designed.children.Given as goal

-- those so far and those that are left are all
abbrev pub invariant-loop-one : goal.invariant-loop-one
invariant-loop-one l = map child_of l.made.items ++ map (key_child l.variants) (map met.child_of (into_iter_items l.one-iterator)) ≡ map (key_child l.variants) (map met.child_of l.fn.met.items)
