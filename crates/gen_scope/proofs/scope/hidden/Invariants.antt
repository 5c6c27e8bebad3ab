use Rattle.std.proofs.Common.{◌≡◌, ◌++◌}
use Rattle.gen_scope.specs.Gens.{without}
use Rattle.gen_scope.proofs.scope.hidden.Given as goal

abbrev pub invariant-loop-other : goal.invariant-loop-other
invariant-loop-other l = l.rest.items ++ without l.name l.other-iterator.rest.items ≡ without l.name l.fn.gens.items
