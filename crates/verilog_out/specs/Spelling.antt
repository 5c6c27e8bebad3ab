-- How the part of Verilog that a net is printed in is spelled.
use Rattle.std.specs.Prelude.{ℕ, ◌-◌, List, ◌++◌, codes}
use Rattle.std.specs.List.{flat_map}
use Rattle.std.specs.Fmt.{decimal}
use Rattle.bv_core.specs.Text.{shown}
use Rattle.verilog_out.specs.Syntax.{Identifier, Given, Numbered, Prefix, Invert, AllOf, AnyOf, ParityOf, Infix, Plus, Minus, Times, BitAnd, BitOr, BitXor, Equal, Unequal, Less, AtMost, ShiftLeft, ShiftRight, Expression, Literal, Copy, Before, Between, Join, Pad, Select, Choose, Declaration, Wire, Reg, Assignment, Step, Module}

-- a name of the source as an escaped identifier, which the blank behind it ends
abbrev pub escaped : List ℕ → List ℕ
escaped name = codes "\\" ++ name ++ codes " "

-- the name of a number
abbrev pub numbered : ℕ → List ℕ
numbered number = codes "_" ++ decimal number

abbrev pub identifier_text : Identifier → List ℕ
identifier_text (Given name) = escaped name
identifier_text (Numbered number) = numbered number

-- the places of a width, from the highest down to 0
abbrev pub range_text : ℕ → List ℕ
range_text width = codes "[" ++ decimal (width - 1) ++ codes ":0]"

abbrev pub prefix_text : Prefix → List ℕ
prefix_text Invert = codes "~"
prefix_text AllOf = codes "&"
prefix_text AnyOf = codes "|"
prefix_text ParityOf = codes "^"

-- with a blank on both sides
abbrev pub infix_text : Infix → List ℕ
infix_text Plus = codes " + "
infix_text Minus = codes " - "
infix_text Times = codes " * "
infix_text BitAnd = codes " & "
infix_text BitOr = codes " | "
infix_text BitXor = codes " ^ "
infix_text Equal = codes " == "
infix_text Unequal = codes " != "
infix_text Less = codes " < "
infix_text AtMost = codes " <= "
infix_text ShiftLeft = codes " << "
infix_text ShiftRight = codes " >> "

abbrev pub expression_text : Expression → List ℕ
expression_text (Literal bits) = shown bits
expression_text (Copy a) = identifier_text a
expression_text (Before sign a) = prefix_text sign ++ identifier_text a
expression_text (Between sign a b) = identifier_text a ++ infix_text sign ++ identifier_text b
expression_text (Join a b) = codes "{" ++ identifier_text a ++ codes ", " ++ identifier_text b ++ codes "}"
expression_text (Pad zeros a) = codes "{" ++ decimal zeros ++ codes "'h0, " ++ identifier_text a ++ codes "}"
expression_text (Select a high low) = identifier_text a ++ codes "[" ++ decimal high ++ codes ":" ++ decimal low ++ codes "]"
expression_text (Choose c a b) = identifier_text c ++ codes " ? " ++ identifier_text a ++ codes " : " ++ identifier_text b

abbrev pub declaration_text : Declaration → List ℕ
declaration_text (Wire width name) = codes "  wire " ++ range_text width ++ codes " " ++ identifier_text name ++ codes ";\n"
declaration_text (Reg width name start) = codes "  reg " ++ range_text width ++ codes " " ++ identifier_text name ++ codes " = " ++ shown start ++ codes ";\n"

abbrev pub assignment_text : Assignment → List ℕ
assignment_text a = codes "  assign " ++ identifier_text a.target ++ codes " = " ++ expression_text a.value ++ codes ";\n"

-- at each rising edge of the clock
unfoldable pub edge_text : List ℕ
edge_text = codes "  always @(posedge clk) "

abbrev pub step_text : Step → List ℕ
step_text s = edge_text ++ identifier_text s.register ++ codes " <= " ++ identifier_text s.next ++ codes ";\n"

-- a port in the list of all of them
abbrev pub listed_text : List ℕ × ℕ → List ℕ
listed_text port = codes ", " ++ escaped port.0

-- the clock, which has no range, stands first
abbrev pub head_text : List ℕ → List (List ℕ × ℕ) → List (List ℕ × ℕ) → List ℕ
head_text name inputs outputs =
    codes "module " ++ escaped name ++ codes "(clk" ++ flat_map listed_text inputs ++ flat_map listed_text outputs ++ codes ");\n  input clk;\n"

-- a port with its places, behind the word for its direction
abbrev pub port_text : List ℕ → List ℕ × ℕ → List ℕ
port_text direction port = direction ++ range_text port.1 ++ codes " " ++ escaped port.0 ++ codes ";\n"

-- the head and the ports
abbrev pub front_text : List ℕ → List (List ℕ × ℕ) → List (List ℕ × ℕ) → List ℕ
front_text name inputs outputs = head_text name inputs outputs ++ flat_map (port_text (codes "  input ")) inputs ++ flat_map (port_text (codes "  output ")) outputs

-- line by line: the head, the ports, the declarations, the assignments, the steps, and the end
abbrev pub module_text : Module → List ℕ
module_text m =
    front_text m.name m.inputs m.outputs
    ++ (flat_map declaration_text m.declarations ++ (flat_map assignment_text m.assignments ++ (flat_map step_text m.steps ++ codes "endmodule\n")))
