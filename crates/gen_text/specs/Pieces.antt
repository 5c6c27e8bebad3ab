-- An expression as a list of its pieces, operands before their operator: each piece takes the last expressions that stand before it, and
-- stands for one itself. Where too few stand before it, a nought is taken in place of one.
use Rattle.std.specs.Prelude.{List, [], ◌∷◌, option_map}
use Rattle.gen_tree.specs.Tree.{plain, Expr, read, out, value, unary, binary, mux, zext, slice}
use Rattle.gen_tree.specs.View.{int_of, lit_of}
use Rattle.gen_text.specs.declared.pieces.Piece.{Piece}
use Rattle.gen_text.specs.declared.pieces.Piece.TheVariants as piece
use Rattle.gen_text.specs.Reading.{fam_of_name}

-- the last of these expressions, which come last first, and those before it
abbrev pub top : List Expr → Expr
top [] = value (plain 0 0)
top (e ∷ es) = e

abbrev pub below : List Expr → List Expr
below [] = []
below (e ∷ es) = es

-- what stands for expressions when a piece is behind them
abbrev pub with_piece : Piece → List Expr → List Expr
with_piece (piece.Read x i) es = read (fam_of_name x.now (option_map (λ i. int_of i.value) i)) ∷ es
with_piece (piece.Out x i q) es = out (fam_of_name x.now (option_map (λ i. int_of i.value) i)) q.now ∷ es
with_piece (piece.Value l) es = value (lit_of l) ∷ es
with_piece (piece.Un o) es = unary o (top es) ∷ below es
with_piece (piece.Bin o) es = binary o (top (below es)) (top es) ∷ below (below es)
with_piece piece.Mux es = mux (top (below (below es))) (top (below es)) (top es) ∷ below (below (below es))
with_piece (piece.Zext w) es = zext (top es) (int_of w) ∷ below es
with_piece (piece.Slice h l) es = slice (top es) (int_of h.value) (int_of l.value) ∷ below es

-- the expressions of pieces that stand behind others
abbrev pub piled : List Expr → List Piece → List Expr
piled es [] = es
piled es (p ∷ ps) = piled (with_piece p es) ps

-- the expressions of pieces, the last first
unfoldable pub exprs_of : List Piece → List Expr
exprs_of ps = piled [] ps
