use Rattle.std.proofs.Common.{◌≡◌, ◌++◌, drop}
use Rattle.gen_tree.specs.Tree.{all_modules}
use Rattle.gen_tree.specs.View.{lent_of, sources_of}
use Rattle.gen_elab.proofs.whole.modules_in.Given as goal

abbrev pub invariant-loop-source : goal.invariant-loop-source
invariant-loop-source l = lent_of l.all.items ++ all_modules (sources_of (drop l.source-index l.sources)) ≡ all_modules (sources_of l.sources)
