use Rattle.std.proofs.Common.{◌≡◌, take}
use Rattle.design_core.proofs.ports.copied.Given as goal

abbrev pub invariant-loop-name : goal.invariant-loop-name
invariant-loop-name l = l.found.items ≡ take l.name-index l.ports
