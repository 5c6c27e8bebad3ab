use Rattle.std.proofs.Common.{◌≡◌, ◌++◌, map}
use Rattle.gen_scope.proofs.Names.{entry_of}
use Rattle.gen_scope.proofs.params.Params.list.Given as goal

abbrev pub invariant-loop-name : goal.invariant-loop-name
invariant-loop-name l = l.gens.items ++ map entry_of l.name-iterator ≡ l.self
