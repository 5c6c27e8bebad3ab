-- A form: the parts of an expression from the last to the first, an operator before its operands, the last operand first. A name is told
-- by its place among the distinct names of the text, and by how many tokens it has.
use Rattle.std.specs.Prelude.{ℕ, ◌+◌, List, [], ◌∷◌, ◌++◌, option_map, bytes_eq, if◌then◌else◌}
use Rattle.std.specs.List.{position_or_len}
use Rattle.names.specs.Known.{has}
use Rattle.bv_core.specs.declared.Op1.{Op1}
use Rattle.bv_core.specs.declared.Op1.TheVariants as op1
use Rattle.bv_core.specs.Value.{Bits}
use Rattle.tree_core.specs.Tree.{Tree, Const, Leaf, One, Two, Mux}
use Rattle.gen_tree.specs.Tree.{Expr, read, out, value, unary, binary, mux, zext, slice}
use Rattle.gen_tree.specs.View.{int_of, lit_of}
use Rattle.gen_text.specs.declared.pieces.Piece.{Piece}
use Rattle.gen_text.specs.declared.pieces.Piece.TheVariants as piece
use Rattle.gen_text.specs.Reading.{fam_of_name}
use Rattle.cond_lang.specs.declared.form.Unary.{Unary}
use Rattle.cond_lang.specs.declared.form.Unary.TheVariants as one_value
use Rattle.cond_lang.specs.declared.form.Part.{Part}
use Rattle.cond_lang.specs.declared.form.Part.TheVariants as part
use Rattle.cond_lang.specs.Names.{Name, number, fam_name, output_name}
use Rattle.cond_lang.specs.Meaning.{literal, unary_of, binary_of, tree_of}
use Rattle.cond_lang.specs.Judged.{fam_tokens}

-- ---- names

-- the place of a name among names, or behind them
abbrev pub place_in : List Name → Name → ℕ
place_in names x = position_or_len (bytes_eq x) names

-- names, and behind them one that is not there
abbrev pub noted : List Name → Name → List Name
noted names x = if has names x then names else names ++ x ∷ []

-- names, and behind them those of a tree that are not there, in the order in which they first come
abbrev pub names_in : List Name → Tree Name → List Name
names_in names (Const b) = names
names_in names (Leaf x) = noted names x
names_in names (One o a) = names_in names a
names_in names (Two o a b) = names_in (names_in names a) b
names_in names (Mux c a b) = names_in (names_in (names_in names c) a) b

-- the names of expressions, which come last first
abbrev pub all_names : List Expr → List Name
all_names [] = []
all_names (e ∷ es) = names_in (all_names es) (tree_of e)

-- ---- what trees a form stands for

-- where a name of an expression stands: its place among the distinct names of the text, and how many tokens it has
pub record Seat : Type 0 where
  pub place : ℕ
  pub tokens : ℕ

-- the operator, whatever its numbers are
abbrev pub op_of : Unary → Op1
op_of (one_value.Plain o) = unary_of o
op_of (one_value.Zext to) = op1.Zext to
op_of (one_value.Slice high low) = op1.Slice high low

-- the first of these trees, and those behind it; where there is none it is a literal that is no value
abbrev pub first_tree : {A : Type 0} → List (Tree A) → Tree A
first_tree [] = Const (record { width = 0; value = 0 })
first_tree (t ∷ ts) = t

abbrev pub later : {A : Type 0} → List (Tree A) → List (Tree A)
later [] = []
later (t ∷ ts) = ts

-- an operator takes the trees that stand behind it
abbrev pub with_one : {A : Type 0} → Op1 → List (Tree A) → List (Tree A)
with_one o ts = One o (first_tree ts) ∷ later ts

abbrev pub with_two : {A : Type 0} → (Tree A → Tree A → Tree A) → List (Tree A) → List (Tree A)
with_two f ts = f (first_tree (later ts)) (first_tree ts) ∷ later (later ts)

abbrev pub with_three : {A : Type 0} → List (Tree A) → List (Tree A)
with_three ts = Mux (first_tree (later (later ts))) (first_tree (later ts)) (first_tree ts) ∷ later (later (later ts))

abbrev pub grown : {A : Type 0} → (Seat → A) → Part → List (Tree A) → List (Tree A)
grown leaf (part.Const w v) ts = Const (record { width = w; value = v }) ∷ ts
grown leaf (part.Leaf k n) ts = Leaf (leaf (record { place = k; tokens = n })) ∷ ts
grown leaf (part.One o) ts = with_one (op_of o) ts
grown leaf (part.Two o) ts = with_two (Two o) ts
grown leaf part.Mux ts = with_three ts

-- the trees of a form, the last of the text first, where names stand for these
abbrev pub trees : {A : Type 0} → (Seat → A) → List Part → List (Tree A)
trees leaf [] = []
trees leaf (p ∷ ps) = grown leaf p (trees leaf ps)

-- the same, where each name stands for where it stands
abbrev pub seats : List Part → List (Tree Seat)
seats parts = trees (λ s. s) parts

-- ---- what an expression is as a form

-- an expression's tree, where these names came before
abbrev pub seated : List Name → Expr → Tree Seat
seated names (read f) = Leaf (record { place = place_in names (fam_name f); tokens = fam_tokens f })
seated names (out f q) = Leaf (record { place = place_in names (output_name f q); tokens = fam_tokens f + 2 })
seated names (value l) = Const (literal l)
seated names (unary o e) = One (unary_of o) (seated names e)
seated names (binary o e f) = Two (binary_of o) (seated names e) (seated (names_in names (tree_of e)) f)
seated names (mux e f g) =
    Mux (seated names e) (seated (names_in names (tree_of e)) f) (seated (names_in (names_in names (tree_of e)) (tree_of f)) g)
seated names (zext e w) = One (op1.Zext (number w)) (seated names e)
seated names (slice e h l) = One (op1.Slice (number h) (number l)) (seated names e)

-- the trees of expressions, which come last first
abbrev pub seats_of : List Expr → List (Tree Seat)
seats_of [] = []
seats_of (e ∷ es) = seated (all_names es) e ∷ seats_of es

-- a literal, whether it is a value or not
abbrev pub const_of : Bits → Part
const_of b = part.Const b.width b.value

-- a piece that was read as a part, where these names came before
abbrev pub part_of : List Name → Piece → Part
part_of names (piece.Read x i) =
    let f = fam_of_name x.now (option_map (λ i. int_of i.value) i) in part.Leaf (place_in names (fam_name f)) (fam_tokens f)
part_of names (piece.Out x i q) =
    let f = fam_of_name x.now (option_map (λ i. int_of i.value) i) in part.Leaf (place_in names (output_name f q.now)) (fam_tokens f + 2)
part_of names (piece.Value l) = const_of (literal (lit_of l))
part_of names (piece.Un o) = part.One (one_value.Plain o)
part_of names (piece.Bin o) = part.Two (binary_of o)
part_of names piece.Mux = part.Mux
part_of names (piece.Zext w) = part.One (one_value.Zext (number (int_of w)))
part_of names (piece.Slice h l) = part.One (one_value.Slice (number (int_of h.value)) (number (int_of l.value)))

-- names, and behind them that of a piece, if it has one that is not there
abbrev pub noted_by : List Name → Piece → List Name
noted_by names (piece.Read x i) = noted names (fam_name (fam_of_name x.now (option_map (λ i. int_of i.value) i)))
noted_by names (piece.Out x i q) = noted names (output_name (fam_of_name x.now (option_map (λ i. int_of i.value) i)) q.now)
noted_by names (piece.Value l) = names
noted_by names (piece.Un o) = names
noted_by names (piece.Bin o) = names
noted_by names piece.Mux = names
noted_by names (piece.Zext w) = names
noted_by names (piece.Slice h l) = names
