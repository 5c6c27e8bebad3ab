use Rattle.std.proofs.Common.{◌+◌, ◌*◌}
use Rattle.gen_text.proofs.exprs.+exprs.Given as goal

abbrev pub decreases-expr : goal.decreases-expr
decreases-expr l = 4 * l.room + 2

abbrev pub decreases-prim : goal.decreases-prim
decreases-prim l = 4 * l.room + 1

abbrev pub decreases-bracket : goal.decreases-bracket
decreases-bracket l = 4 * l.room

abbrev pub decreases-unary : goal.decreases-unary
decreases-unary l = 4 * l.room

abbrev pub decreases-cat : goal.decreases-cat
decreases-cat l = 4 * l.room

abbrev pub decreases-zext : goal.decreases-zext
decreases-zext l = 4 * l.room

abbrev pub decreases-mux : goal.decreases-mux
decreases-mux l = 4 * l.room
