use Rattle.std.proofs.Common.{◌≡◌, length}
use Rattle.gen_token.specs.Words.{placed}
use Rattle.gen_tree.specs.View.{modules_of}
use Rattle.gen_text.specs.Reading.{modules_at}
use Rattle.gen_text.proofs.ModuleLoop.{closing}
use Rattle.gen_text.proofs.modules.module_list.Given as goal

abbrev pub invariant-turns : goal.invariant-turns
invariant-turns l = closing 64 (modules_of l.all.items) (placed l.rest) ≡ modules_at 64 (placed l.tokens)

abbrev pub decreases-turns : goal.decreases-turns
decreases-turns l = length l.rest
