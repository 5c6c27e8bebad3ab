use Rattle.std.proofs.Common.{◌≡◌, length, map}
use Rattle.gen_token.specs.Words.{placed}
use Rattle.gen_tree.specs.View.{import_of}
use Rattle.gen_text.specs.Reading.{imports_at}
use Rattle.gen_text.proofs.Loops.{with_front}
use Rattle.gen_text.proofs.imports.import_list.Given as goal

abbrev pub invariant-turns : goal.invariant-turns
invariant-turns l = with_front (map import_of l.all.items) (imports_at (placed l.rest)) ≡ imports_at (placed l.tokens)

abbrev pub decreases-turns : goal.decreases-turns
decreases-turns l = length l.rest
