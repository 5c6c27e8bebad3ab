use Rattle.std.proofs.Common.{◌≡◌, drop, map}
use Rattle.design_core.specs.View.{child_of}
use Rattle.names.specs.Known.{has, either}
use Rattle.check_core.specs.Names.{child_named}
use Rattle.check_names.proofs.scope.put_children.Given as goal

-- those so far, and those of what is left
abbrev pub invariant-loop-child : goal.invariant-loop-child
invariant-loop-child l = either (has l.names) (child_named (map child_of (drop l.child-index l.children))) ≡ either (has l.initial.names) (child_named (map child_of l.children))
