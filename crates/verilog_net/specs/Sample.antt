-- The Verilog of the design of two instances that design_exec translates by hand.
use Rattle.std.specs.Prelude.{◌≡◌, true, refl, [], ◌∷◌, ◌++◌, codes}
use Rattle.gen_token.specs.Spelling.{is_name}
use Rattle.design_core.specs.declared.ports.Ports.{Ports}
use Rattle.design_core.specs.Ports.{have_names}
use Rattle.design_exec.specs.Sample.{elaborated}
use Rattle.world_core.specs.declared.mode.Mode.TheVariants.{Opt}
use Rattle.world_core.specs.Sample.{driven}
use Rattle.verilog_out.specs.Printed.{printed}
use Rattle.trim_core.specs.KeptNet.{kept_net}

pub top_names : have_names (codes "Top") ((codes "x", 4) ∷ []) ((codes "y", 4) ∷ []) ≡ true
unfolding is_name
top_names = refl

abbrev pub top_ports : Ports
top_ports = record { «module» = codes "Top"; inputs = (codes "x", 4) ∷ []; outputs = (codes "y", 4) ∷ []; registers = 1; widths = refl; names = top_names }

-- the output is walked first: `r` is 0 and `mux((r == 4'h3), (r + 4'h1), 4'h0)` is 6; then the enables, of which the first is
-- `1'h1`, the else-branch's `~((r == 4'h3))`, and the last `(x < r)`; then what the register takes next
abbrev pub design_is_printed : Type 0
design_is_printed =
    printed (kept_net elaborated driven Opt) top_ports
    ≡ codes "module \\Top (clk, \\x , \\y );\n"
    ++ codes "  input clk;\n"
    ++ codes "  input [3:0] \\x ;\n"
    ++ codes "  output [3:0] \\y ;\n"
    ++ codes "  reg [3:0] _0 = 4'h3;\n"
    ++ codes "  wire [3:0] _1;\n"
    ++ codes "  wire [0:0] _2;\n"
    ++ codes "  wire [3:0] _3;\n"
    ++ codes "  wire [3:0] _4;\n"
    ++ codes "  wire [3:0] _5;\n"
    ++ codes "  wire [3:0] _6;\n"
    ++ codes "  wire [0:0] _7;\n"
    ++ codes "  wire [0:0] _8;\n"
    ++ codes "  wire [0:0] _10;\n"
    ++ codes "  wire [3:0] _11;\n"
    ++ codes "  assign _1 = 4'h3;\n"
    ++ codes "  assign _2 = _0 == _1;\n"
    ++ codes "  assign _3 = 4'h1;\n"
    ++ codes "  assign _4 = _0 + _3;\n"
    ++ codes "  assign _5 = 4'h0;\n"
    ++ codes "  assign _6 = _2 ? _4 : _5;\n"
    ++ codes "  assign _7 = 1'h1;\n"
    ++ codes "  assign _8 = ~_2;\n"
    ++ codes "  assign _10 = \\x  < _0;\n"
    ++ codes "  assign _11 = _10 ? _6 : _0;\n"
    ++ codes "  assign \\y  = _6;\n"
    ++ codes "  always @(posedge clk) _0 <= _11;\n"
    ++ codes "endmodule\n"
