use Rattle.std.proofs.Common.{◌≡◌, ◌++◌, drop}
use Rattle.gen_tree.specs.View.{lent_of, modules_of}
use Rattle.gen_elab.proofs.whole.put_modules.Given as goal

abbrev pub invariant-loop-module : goal.invariant-loop-module
invariant-loop-module l = lent_of l.all.items ++ modules_of (drop l.module-index l.modules) ≡ lent_of l.fn.all.items ++ modules_of l.modules
