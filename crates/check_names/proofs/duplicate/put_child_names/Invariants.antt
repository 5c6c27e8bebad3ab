use Rattle.std.proofs.Common.{◌≡◌, ◌++◌, drop, map}
use Rattle.design_core.specs.View.{child_of}
use Rattle.check_core.specs.Names.{child_thing}
use Rattle.check_names.specs.Things.{things_at}
use Rattle.check_names.proofs.duplicate.put_child_names.Given as goal

-- those that were put and those of what is left are all
abbrev pub invariant-loop-child : goal.invariant-loop-child
invariant-loop-child l = things_at l.found.items ++ map child_thing (map child_of (drop l.child-index l.children)) ≡ things_at l.initial.found.items ++ map child_thing (map child_of l.children)
