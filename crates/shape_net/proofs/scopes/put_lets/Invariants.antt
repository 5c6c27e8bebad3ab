use Rattle.std.proofs.Common.{◌≡◌, ◌++◌, take}
use Rattle.design_core.specs.Heads.{names_at}
use Rattle.shape_net.proofs.scopes.put_lets.Given as goal

abbrev pub invariant-loop-name : goal.invariant-loop-name
invariant-loop-name l = l.names.items ≡ l.initial.names.items ++ names_at (take l.name-index l.lets)
