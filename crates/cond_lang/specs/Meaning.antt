-- What a condition means over what names show: its value by the operators of the language, in whole numbers, and Unknown where
-- a name of it is. It knows nothing of where values come from.
use Rattle.std.specs.Prelude.{Bool, List, [], ◌∷◌, ◌++◌, Option, Some, None, is_some, unwrap_or, if◌then◌else◌}
use Rattle.std.specs.List.{list_all}
use Rattle.bv_core.specs.Value.{Bits}
use Rattle.bv_core.specs.declared.Op1.{Op1}
use Rattle.bv_core.specs.declared.Op1.TheVariants as op1
use Rattle.bv_core.specs.declared.Op2.{Op2}
use Rattle.bv_core.specs.declared.Op2.TheVariants as op2
use Rattle.tree_core.specs.Tree.{Tree, Const, Leaf, One, Two, Mux, value_of}
use Rattle.gen_tree.specs.declared.UnOp.{UnOp}
use Rattle.gen_tree.specs.declared.UnOp.TheVariants as un_op
use Rattle.gen_tree.specs.declared.Op.{Op}
use Rattle.gen_tree.specs.declared.Op.TheVariants as op
use Rattle.gen_tree.specs.Tree.{Lit, plain, bits, Expr, read, out, value, unary, binary, mux, zext, slice}
use Rattle.cond_lang.specs.Names.{Name, number, fam_name, output_name}

-- ---- the expression

-- a literal's width and value
abbrev pub literal : Lit → Bits
literal (plain w v) = record { width = w; value = v }
literal (bits w v) = record { width = number w; value = number v }

abbrev pub unary_of : UnOp → Op1
unary_of un_op.Not = op1.Not
unary_of un_op.All = op1.All
unary_of un_op.Any = op1.Any
unary_of un_op.Parity = op1.Parity

abbrev pub binary_of : Op → Op2
binary_of op.Add = op2.Add
binary_of op.Sub = op2.Sub
binary_of op.Mul = op2.Mul
binary_of op.And = op2.And
binary_of op.Or = op2.Or
binary_of op.Xor = op2.Xor
binary_of op.Eq = op2.Eq
binary_of op.Ne = op2.Ne
binary_of op.Lt = op2.Lt
binary_of op.Le = op2.Le
binary_of op.Shl = op2.Shl
binary_of op.Shr = op2.Shr
binary_of op.Cat = op2.Cat

-- the operators over the names that they read
abbrev pub tree_of : Expr → Tree Name
tree_of (read f) = Leaf (fam_name f)
tree_of (out f q) = Leaf (output_name f q)
tree_of (value l) = Const (literal l)
tree_of (unary o e) = One (unary_of o) (tree_of e)
tree_of (binary o a b) = Two (binary_of o) (tree_of a) (tree_of b)
tree_of (mux c a b) = Mux (tree_of c) (tree_of a) (tree_of b)
tree_of (zext e w) = One (op1.Zext (number w)) (tree_of e)
tree_of (slice e h l) = One (op1.Slice (number h) (number l)) (tree_of e)

-- ---- the value

-- the leaves, from left to right
abbrev pub leaves : {A : Type 0} → Tree A → List A
leaves (Const b) = []
leaves (Leaf x) = x ∷ []
leaves (One o a) = leaves a
leaves (Two o a b) = leaves a ++ leaves b
leaves (Mux c a b) = leaves c ++ (leaves a ++ leaves b)

-- what an unknown leaf is taken for, where nothing rests on it
abbrev pub nought : Bits
nought = record { width = 1; value = 0 }

-- whether a leaf is known
abbrev pub is_known : {A : Type 0} → (A → Option Bits) → A → Bool
is_known shown x = is_some (shown x)

-- a tree's value where each leaf shows one, and None, which is Unknown, where a leaf shows none, in a branch of a choice that is
-- not taken too
abbrev pub value_in : {A : Type 0} → (A → Option Bits) → Tree A → Option Bits
value_in shown t = if list_all (is_known shown) (leaves t) then Some (value_of (λ x. unwrap_or (shown x) nought) t) else None

-- a condition's value, where names show these values
abbrev pub value_by : (Name → Option Bits) → Expr → Option Bits
value_by shown e = value_in shown (tree_of e)
