-- What a node feeds a hasher.
use Rattle.std.specs.Prelude.{◌+◌, ◌++◌}
use Rattle.std.specs.Hash as fed
use Rattle.bv_core.specs.declared.operators.Op1.{Op1}
use Rattle.bv_core.specs.declared.operators.Op1.TheVariants.{Not, All, Any, Parity, Slice, Zext}
use Rattle.tree_core.specs.Fold.{op2_number}
use Rattle.net_core.specs.Nodes.{Shape, Fixed, TopInput, Register, OfOne, OfTwo, OfMux}

-- the variant, and its numbers
abbrev pub fed_op1 : Op1 → fed.HashWrites
fed_op1 Not = fed.u8 0
fed_op1 All = fed.u8 1
fed_op1 Any = fed.u8 2
fed_op1 Parity = fed.u8 3
fed_op1 (Slice high low) = fed.u8 4 ++ fed.u8 high ++ fed.u8 low
fed_op1 (Zext to) = fed.u8 5 ++ fed.u8 to

-- the variant, which for an operator on two nodes tells the operator too, and what it names
abbrev pub fed_shape : Shape → fed.HashWrites
fed_shape (Fixed b) = fed.u8 0 ++ fed.u8 b.width ++ fed.u128 b.value
fed_shape (TopInput name width) = fed.u8 1 ++ fed.slice fed.u8 name
fed_shape (Register instance name start) = fed.u8 2 ++ fed.slice fed.u8 instance ++ fed.slice fed.u8 name
fed_shape (OfOne op a) = fed.u8 3 ++ fed.u64 a ++ fed_op1 op
fed_shape (OfTwo op a b) = fed.u8 (4 + op2_number op) ++ fed.u64 a ++ fed.u64 b
fed_shape (OfMux c a b) = fed.u8 17 ++ fed.u64 c ++ fed.u64 a ++ fed.u64 b
