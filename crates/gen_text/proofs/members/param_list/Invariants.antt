use Rattle.std.proofs.Common.{◌≡◌, length, map}
use Rattle.gen_token.specs.Words.{placed}
use Rattle.gen_tree.specs.View.{param_of}
use Rattle.gen_text.specs.Reading.{each_at, begins_param, more_param_at, param_list_at}
use Rattle.gen_text.proofs.Loops.{with_front}
use Rattle.gen_text.proofs.members.param_list.Given as goal

abbrev pub invariant-turns : goal.invariant-turns
invariant-turns l = with_front (map param_of l.all.items) (each_at begins_param (more_param_at l.room) (placed l.rest)) ≡ param_list_at l.room (placed l.tokens)

abbrev pub decreases-turns : goal.decreases-turns
decreases-turns l = length l.rest
