-- Small nets and their texts.
use Rattle.std.specs.Prelude.{◌≡◌, true, refl, [], ◌∷◌, ◌++◌, codes}
use Rattle.bv_core.specs.declared.operators.Op1.TheVariants.{Not, All, Any, Parity, Slice, Zext}
use Rattle.bv_core.specs.declared.operators.Op2.TheVariants.{Add, Sub, Mul, And, Or, Xor, Eq, Ne, Lt, Le, Shl, Shr, Cat}
use Rattle.gen_token.specs.Spelling.{is_name}
use Rattle.design_core.specs.declared.ports.Ports.{Ports}
use Rattle.design_core.specs.Ports.{have_names}
use Rattle.net_core.specs.Nodes.{Fixed, TopInput, Register, OfOne, OfTwo, OfMux}
use Rattle.net_core.specs.Nets.{NetParts}
use Rattle.verilog_out.specs.Printed.{printed}

-- a counter: while `en` is 1, a register adds `d` to itself; `q` is its next value
abbrev pub sample : NetParts
sample = record {
  nodes =
      TopInput (codes "en") 1
      ∷ Register (codes "A") (codes "r") (record { width = 8; value = 0 })
      ∷ TopInput (codes "d") 8
      ∷ OfTwo Add 1 2
      ∷ OfMux 0 3 1
      ∷ Fixed (record { width = 1; value = 1 })
      ∷ [];
  outputs = (codes "q", 4) ∷ [];
  nexts = (1, 4) ∷ [];
}

pub sample_names : have_names (codes "A") ((codes "en", 1) ∷ (codes "d", 8) ∷ []) ((codes "q", 8) ∷ []) ≡ true
unfolding is_name
sample_names = refl

abbrev pub sample_ports : Ports
sample_ports = record { «module» = codes "A"; inputs = (codes "en", 1) ∷ (codes "d", 8) ∷ []; outputs = (codes "q", 8) ∷ []; registers = 1; widths = refl; names = sample_names }

abbrev pub sample_is_printed : Type 0
sample_is_printed =
    printed sample sample_ports
    ≡ codes "module \\A (clk, \\en , \\d , \\q );\n"
    ++ codes "  input clk;\n"
    ++ codes "  input [0:0] \\en ;\n"
    ++ codes "  input [7:0] \\d ;\n"
    ++ codes "  output [7:0] \\q ;\n"
    ++ codes "  reg [7:0] _1 = 8'h00;\n"
    ++ codes "  wire [7:0] _3;\n"
    ++ codes "  wire [7:0] _4;\n"
    ++ codes "  wire [0:0] _5;\n"
    ++ codes "  assign _3 = _1 + \\d ;\n"
    ++ codes "  assign _4 = \\en  ? _3 : _1;\n"
    ++ codes "  assign _5 = 1'h1;\n"
    ++ codes "  assign \\q  = _4;\n"
    ++ codes "  always @(posedge clk) _1 <= _4;\n"
    ++ codes "endmodule\n"

-- every operator, and widths from 1 to 128
abbrev pub operators : NetParts
operators = record {
  nodes =
      TopInput (codes "a") 8
      ∷ TopInput (codes "b") 8
      ∷ OfOne Not 0
      ∷ OfOne All 0
      ∷ OfOne Any 0
      ∷ OfOne Parity 0
      ∷ OfOne (Slice 7 0) 0
      ∷ OfOne (Slice 3 3) 0
      ∷ OfOne (Zext 128) 0
      ∷ OfOne (Zext 8) 0
      ∷ OfTwo Add 0 1
      ∷ OfTwo Sub 0 1
      ∷ OfTwo Mul 0 1
      ∷ OfTwo And 0 1
      ∷ OfTwo Or 0 1
      ∷ OfTwo Xor 0 1
      ∷ OfTwo Eq 0 1
      ∷ OfTwo Ne 0 1
      ∷ OfTwo Lt 0 1
      ∷ OfTwo Le 0 1
      ∷ OfTwo Shl 0 1
      ∷ OfTwo Shr 0 1
      ∷ OfTwo Cat 0 1
      ∷ OfMux 3 1 0
      ∷ Fixed (record { width = 128; value = 255 })
      ∷ [];
  outputs = (codes "p", 0) ∷ (codes "q", 22) ∷ [];
  nexts = [];
}

pub operators_names : have_names (codes "Every") ((codes "a", 8) ∷ (codes "b", 8) ∷ []) ((codes "p", 8) ∷ (codes "q", 16) ∷ []) ≡ true
unfolding is_name
operators_names = refl

abbrev pub operators_ports : Ports
operators_ports = record { «module» = codes "Every"; inputs = (codes "a", 8) ∷ (codes "b", 8) ∷ []; outputs = (codes "p", 8) ∷ (codes "q", 16) ∷ []; registers = 0; widths = refl; names = operators_names }

abbrev pub operators_are_printed : Type 0
operators_are_printed =
    printed operators operators_ports
    ≡ codes "module \\Every (clk, \\a , \\b , \\p , \\q );\n"
    ++ codes "  input clk;\n"
    ++ codes "  input [7:0] \\a ;\n"
    ++ codes "  input [7:0] \\b ;\n"
    ++ codes "  output [7:0] \\p ;\n"
    ++ codes "  output [15:0] \\q ;\n"
    ++ codes "  wire [7:0] _2;\n"
    ++ codes "  wire [0:0] _3;\n"
    ++ codes "  wire [0:0] _4;\n"
    ++ codes "  wire [0:0] _5;\n"
    ++ codes "  wire [7:0] _6;\n"
    ++ codes "  wire [0:0] _7;\n"
    ++ codes "  wire [127:0] _8;\n"
    ++ codes "  wire [7:0] _9;\n"
    ++ codes "  wire [7:0] _10;\n"
    ++ codes "  wire [7:0] _11;\n"
    ++ codes "  wire [7:0] _12;\n"
    ++ codes "  wire [7:0] _13;\n"
    ++ codes "  wire [7:0] _14;\n"
    ++ codes "  wire [7:0] _15;\n"
    ++ codes "  wire [0:0] _16;\n"
    ++ codes "  wire [0:0] _17;\n"
    ++ codes "  wire [0:0] _18;\n"
    ++ codes "  wire [0:0] _19;\n"
    ++ codes "  wire [7:0] _20;\n"
    ++ codes "  wire [7:0] _21;\n"
    ++ codes "  wire [15:0] _22;\n"
    ++ codes "  wire [7:0] _23;\n"
    ++ codes "  wire [127:0] _24;\n"
    ++ codes "  assign _2 = ~\\a ;\n"
    ++ codes "  assign _3 = &\\a ;\n"
    ++ codes "  assign _4 = |\\a ;\n"
    ++ codes "  assign _5 = ^\\a ;\n"
    ++ codes "  assign _6 = \\a [7:0];\n"
    ++ codes "  assign _7 = \\a [3:3];\n"
    ++ codes "  assign _8 = {120'h0, \\a };\n"
    ++ codes "  assign _9 = \\a ;\n"
    ++ codes "  assign _10 = \\a  + \\b ;\n"
    ++ codes "  assign _11 = \\a  - \\b ;\n"
    ++ codes "  assign _12 = \\a  * \\b ;\n"
    ++ codes "  assign _13 = \\a  & \\b ;\n"
    ++ codes "  assign _14 = \\a  | \\b ;\n"
    ++ codes "  assign _15 = \\a  ^ \\b ;\n"
    ++ codes "  assign _16 = \\a  == \\b ;\n"
    ++ codes "  assign _17 = \\a  != \\b ;\n"
    ++ codes "  assign _18 = \\a  < \\b ;\n"
    ++ codes "  assign _19 = \\a  <= \\b ;\n"
    ++ codes "  assign _20 = \\a  << \\b ;\n"
    ++ codes "  assign _21 = \\a  >> \\b ;\n"
    ++ codes "  assign _22 = {\\a , \\b };\n"
    ++ codes "  assign _23 = _3 ? \\b  : \\a ;\n"
    ++ codes "  assign _24 = 128'h000000000000000000000000000000ff;\n"
    ++ codes "  assign \\p  = \\a ;\n"
    ++ codes "  assign \\q  = _22;\n"
    ++ codes "endmodule\n"

-- names that are words of Verilog, and no nodes but an input
abbrev pub words : NetParts
words = record { nodes = TopInput (codes "always") 1 ∷ []; outputs = (codes "begin", 0) ∷ []; nexts = [] }

pub words_names : have_names (codes "endmodule") ((codes "always", 1) ∷ []) ((codes "begin", 1) ∷ []) ≡ true
unfolding is_name
words_names = refl

abbrev pub words_ports : Ports
words_ports = record { «module» = codes "endmodule"; inputs = (codes "always", 1) ∷ []; outputs = (codes "begin", 1) ∷ []; registers = 0; widths = refl; names = words_names }

abbrev pub words_are_printed : Type 0
words_are_printed =
    printed words words_ports
    ≡ codes "module \\endmodule (clk, \\always , \\begin );\n"
    ++ codes "  input clk;\n"
    ++ codes "  input [0:0] \\always ;\n"
    ++ codes "  output [0:0] \\begin ;\n"
    ++ codes "  assign \\begin  = \\always ;\n"
    ++ codes "endmodule\n"

-- no inputs, no outputs, and a register that keeps its value
abbrev pub alone : NetParts
alone = record { nodes = Register (codes "E") (codes "r") (record { width = 10; value = 100 }) ∷ []; outputs = []; nexts = (0, 0) ∷ [] }

pub alone_names : have_names (codes "E") ([]) ([]) ≡ true
unfolding is_name
alone_names = refl

abbrev pub alone_ports : Ports
alone_ports = record { «module» = codes "E"; inputs = []; outputs = []; registers = 1; widths = refl; names = alone_names }

abbrev pub alone_is_printed : Type 0
alone_is_printed =
    printed alone alone_ports
    ≡ codes "module \\E (clk);\n"
    ++ codes "  input clk;\n"
    ++ codes "  reg [9:0] _0 = 10'h064;\n"
    ++ codes "  always @(posedge clk) _0 <= _0;\n"
    ++ codes "endmodule\n"
