use Rattle.std.proofs.Common.{◌≡◌, length, map}
use Rattle.gen_token.specs.Words.{placed}
use Rattle.gen_tree.specs.View.{lit_of}
use Rattle.gen_text.specs.Reading.{each_at, begins_test, more_test_at, tests_at}
use Rattle.gen_text.proofs.Loops.{with_front}
use Rattle.gen_text.proofs.stmts.tests.Given as goal

abbrev pub invariant-turns : goal.invariant-turns
invariant-turns l = with_front (map lit_of l.all.items) (each_at begins_test (more_test_at l.room) (placed l.rest)) ≡ tests_at l.room (placed l.tokens)

abbrev pub decreases-turns : goal.decreases-turns
decreases-turns l = length l.rest
