-- The module that a net is printed as, and its text.
use Rattle.std.specs.Prelude.{◌≡◌, ℕ, ◌-◌, Bool, true, false, ◌==◌, nat_lt, if◌then◌else◌, List, [], ◌∷◌, ◌++◌, length, map, filter_map, slice_get, Option, Some, None}
use Rattle.std.specs.Option.{option_map}
use Rattle.bv_core.specs.declared.operators.Op1.{Op1}
use Rattle.bv_core.specs.declared.operators.Op1.TheVariants.{Not, All, Any, Parity, Slice, Zext}
use Rattle.bv_core.specs.declared.operators.Op2.{Op2}
use Rattle.bv_core.specs.declared.operators.Op2.TheVariants.{Add, Sub, Mul, And, Or, Xor, Eq, Ne, Lt, Le, Shl, Shr, Cat}
use Rattle.list_core.specs.Lists.{IsIn, AreApart, from}
use Rattle.design_core.specs.declared.ports.Ports.{Ports}
use Rattle.net_core.specs.Nodes.{Shape, Fixed, TopInput, Register, OfOne, OfTwo, OfMux, shape_at, width_at}
use Rattle.net_core.specs.Nets.{NetParts, next_node}
use Rattle.verilog_out.specs.Syntax.{Identifier, Given, Numbered, Invert, AllOf, AnyOf, ParityOf, Plus, Minus, Times, BitAnd, BitOr, BitXor, Equal, Unequal, Less, AtMost, ShiftLeft, ShiftRight, Expression, Literal, Copy, Before, Between, Join, Pad, Select, Choose, Declaration, Wire, Reg, Assignment, Step, Module}
use Rattle.verilog_out.specs.Spelling.{module_text}

-- a node's name: an input's own, or else that of its number
abbrev pub identifier_of : ℕ → Shape → Identifier
identifier_of i (TopInput name width) = Given name
identifier_of i (Fixed b) = Numbered i
identifier_of i (Register instance name start) = Numbered i
identifier_of i (OfOne op a) = Numbered i
identifier_of i (OfTwo op a b) = Numbered i
identifier_of i (OfMux c a b) = Numbered i

abbrev pub identifier_at : List Shape → ℕ → Identifier
identifier_at ns i = identifier_of i (shape_at ns i)

-- an operator on a node of this width and name; where the width stays, what widens is the name alone
abbrev pub one_printed : Op1 → ℕ → Identifier → Expression
one_printed Not width a = Before Invert a
one_printed All width a = Before AllOf a
one_printed Any width a = Before AnyOf a
one_printed Parity width a = Before ParityOf a
one_printed (Slice high low) width a = Select a high low
one_printed (Zext to) width a = if nat_lt width to then Pad (to - width) a else Copy a

-- an operator on nodes of these names
abbrev pub two_printed : Op2 → Identifier → Identifier → Expression
two_printed Add a b = Between Plus a b
two_printed Sub a b = Between Minus a b
two_printed Mul a b = Between Times a b
two_printed And a b = Between BitAnd a b
two_printed Or a b = Between BitOr a b
two_printed Xor a b = Between BitXor a b
two_printed Eq a b = Between Equal a b
two_printed Ne a b = Between Unequal a b
two_printed Lt a b = Between Less a b
two_printed Le a b = Between AtMost a b
two_printed Shl a b = Between ShiftLeft a b
two_printed Shr a b = Between ShiftRight a b
two_printed Cat a b = Join a b

-- the right side of a node's assignment; inputs and registers have none
abbrev pub expression_of : List Shape → Shape → Option Expression
expression_of ns (Fixed b) = Some (Literal b)
expression_of ns (TopInput name width) = None
expression_of ns (Register instance name start) = None
expression_of ns (OfOne op a) = Some (one_printed op (width_at ns a) (identifier_at ns a))
expression_of ns (OfTwo op a b) = Some (two_printed op (identifier_at ns a) (identifier_at ns b))
expression_of ns (OfMux c a b) = Some (Choose (identifier_at ns c) (identifier_at ns a) (identifier_at ns b))

-- the declaration of a node of this number and width; an input is declared as a port
abbrev pub declaration_of : ℕ → ℕ → Shape → Option Declaration
declaration_of i width (TopInput name w) = None
declaration_of i width (Register instance name start) = Some (Reg width (Numbered i) start)
declaration_of i width (Fixed b) = Some (Wire width (Numbered i))
declaration_of i width (OfOne op a) = Some (Wire width (Numbered i))
declaration_of i width (OfTwo op a b) = Some (Wire width (Numbered i))
declaration_of i width (OfMux c a b) = Some (Wire width (Numbered i))

abbrev pub declared : List Shape → ℕ → Option Declaration
declared ns i = declaration_of i (width_at ns i) (shape_at ns i)

abbrev pub assigned : List Shape → ℕ → Option Assignment
assigned ns i = option_map (λ e. record { target = Numbered i; value = e }) (expression_of ns (shape_at ns i))

-- an output is given the value of its node
abbrev pub output_assigned : List Shape → List ℕ × ℕ → Assignment
output_assigned ns output = record { target = Given output.0; value = Copy (identifier_at ns output.1) }

-- whether a node is a register
abbrev pub is_register : Shape → Bool
is_register (TopInput name width) = false
is_register (Register instance name start) = true
is_register (Fixed b) = false
is_register (OfOne op a) = false
is_register (OfTwo op a b) = false
is_register (OfMux c a b) = false

-- a register takes its next value
abbrev pub stepped : NetParts → ℕ → Option Step
stepped net i = if is_register (shape_at net.nodes i) then Some (record { register = Numbered i; next = identifier_at net.nodes (next_node net.nexts i) }) else None

-- declarations, assignments and steps by number, and the outputs behind the other assignments
abbrev pub module_of : NetParts → Ports → Module
module_of net ports = record {
  name = ports.module;
  inputs = ports.inputs;
  outputs = ports.outputs;
  declarations = filter_map (declared net.nodes) (from 0 (length net.nodes));
  assignments = filter_map (assigned net.nodes) (from 0 (length net.nodes)) ++ map (output_assigned net.nodes) net.outputs;
  steps = filter_map (stepped net) (from 0 (length net.nodes));
}

unfoldable pub printed : NetParts → Ports → List ℕ
printed net ports = module_text (module_of net ports)

-- each input node is an input port of its name and width, no two ports have one name, and the outputs are the output
-- ports, in order, with names and widths
pub record FitsPorts (net : NetParts) (ports : Ports) : Type 0 where
  pub inputs : (i : ℕ) (name : List ℕ) (width : ℕ) → slice_get net.nodes i ≡ Some (TopInput name width) → IsIn (name, width) ports.inputs
  pub apart : AreApart (map (λ (port : List ℕ × ℕ). port.0) (ports.inputs ++ ports.outputs))
  pub outputs : map (λ (output : List ℕ × ℕ). (output.0, width_at net.nodes output.1)) net.outputs ≡ ports.outputs
