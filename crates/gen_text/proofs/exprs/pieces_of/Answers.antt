use Rattle.std.proofs.Common.{List, ◌∷◌, ap, ◌∙◌}
use Rattle.gen_tree.specs.Tree.{Expr}
use Rattle.gen_text.specs.Pieces.{top, exprs_of}
use Rattle.gen_text.proofs.Piles.{no_pieces}
use Rattle.gen_text.proofs.exprs.pieces_of.Goals as goal

pub returns-clause-one : goal.returns-clause-one
returns-clause-one c = c.in_ok-rest.ensures.behind ∙ ap (λ (es : List Expr). top (exprs_of c.expr.new.pieces.items) ∷ es) (ap exprs_of c.in_ok-pieces.ensures.items ∙ no_pieces)
