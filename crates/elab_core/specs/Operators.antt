-- The operators of the source, as those of the elaborated design.
use Rattle.gen_tree.specs.declared.UnOp as source_unary
use Rattle.gen_tree.specs.declared.UnOp.TheVariants as un_op
use Rattle.gen_tree.specs.declared.Op as source_binary
use Rattle.gen_tree.specs.declared.Op.TheVariants as op
use Rattle.design_core.specs.declared.UnOp.{UnOp}
use Rattle.design_core.specs.declared.UnOp.TheVariants.{Not, All, Any, Parity}
use Rattle.design_core.specs.declared.Op.{Op}
use Rattle.design_core.specs.declared.Op.TheVariants.{Add, Sub, Mul, And, Or, Xor, Eq, Ne, Lt, Le, Shl, Shr, Cat}

abbrev pub unary_of : source_unary.UnOp → UnOp
unary_of un_op.Not = Not
unary_of un_op.All = All
unary_of un_op.Any = Any
unary_of un_op.Parity = Parity

abbrev pub binary_of : source_binary.Op → Op
binary_of op.Add = Add
binary_of op.Sub = Sub
binary_of op.Mul = Mul
binary_of op.And = And
binary_of op.Or = Or
binary_of op.Xor = Xor
binary_of op.Eq = Eq
binary_of op.Ne = Ne
binary_of op.Lt = Lt
binary_of op.Le = Le
binary_of op.Shl = Shl
binary_of op.Shr = Shr
binary_of op.Cat = Cat
