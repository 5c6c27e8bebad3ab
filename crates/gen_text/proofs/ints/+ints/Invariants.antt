use Rattle.std.proofs.Common.{◌+◌, ◌*◌}
use Rattle.gen_text.proofs.ints.+ints.Given as goal

abbrev pub decreases-int : goal.decreases-int
decreases-int l = 3 * l.room + 1

abbrev pub decreases-int_form : goal.decreases-int_form
decreases-int_form l = 3 * l.room

abbrev pub decreases-int_group : goal.decreases-int_group
decreases-int_group l = 3 * l.room + 2
