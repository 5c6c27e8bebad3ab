use Rattle.std.proofs.Common.{◌≡◌, take}
use Rattle.gen_elab.specs.Keys.{the_params}
use Rattle.gen_elab.proofs.variants.copied.Given as goal

-- so far the copy is of what came
abbrev pub invariant-loop-name : goal.invariant-loop-name
invariant-loop-name l = the_params l.copy.items ≡ take l.name-index l.name-items
