-- Small nets under stimuli, and the texts of their files.
use Rattle.std.specs.Prelude.{◌≡◌, true, refl, [], ◌∷◌, ◌++◌, codes}
use Rattle.bv_core.specs.Value.{Bits}
use Rattle.stim_text.specs.Stimulus.{Stimulus}
use Rattle.net_core.specs.Nodes.{Register, TopInput}
use Rattle.net_core.specs.Nets.{NetParts}
use Rattle.verilog_out.specs.Sample.{sample, sample_ports, alone, alone_ports}
use Rattle.vcd_text.specs.Dump.{code_text}
use Rattle.vcd_write.specs.Run.{waves_text}

abbrev pub three_rows : Stimulus
three_rows = record {
  ports = sample_ports;
  rows =
      (record { width = 1; value = 1 } ∷ record { width = 8; value = 5 } ∷ [])
      ∷ (record { width = 1; value = 0 } ∷ record { width = 8; value = 9 } ∷ [])
      ∷ (record { width = 1; value = 1 } ∷ record { width = 8; value = 255 } ∷ [])
      ∷ [];
}

-- the counter that adds `d` to itself while `en` is 1, in three cycles
abbrev pub counter_is_told : Type 0
counter_is_told =
    waves_text sample three_rows
    ≡ codes "$timescale 1ns $end\n"
    ++ codes "$scope module A $end\n"
    ++ codes "$var wire 1 ! clk $end\n"
    ++ codes "$var wire 1 \" en $end\n"
    ++ codes "$var reg 8 # _1 [7:0] $end\n"
    ++ codes "$var wire 8 $ d [7:0] $end\n"
    ++ codes "$var wire 8 % _3 [7:0] $end\n"
    ++ codes "$var wire 8 & _4 [7:0] $end\n"
    ++ codes "$var wire 1 ' _5 $end\n"
    ++ codes "$var wire 8 ( q [7:0] $end\n"
    ++ codes "$upscope $end\n"
    ++ codes "$enddefinitions $end\n"
    ++ codes "#0\n"
    ++ codes "$dumpvars\n"
    ++ codes "0!\n"
    ++ codes "1\"\n"
    ++ codes "b00000000 #\n"
    ++ codes "b00000101 $\n"
    ++ codes "b00000101 %\n"
    ++ codes "b00000101 &\n"
    ++ codes "1'\n"
    ++ codes "b00000101 (\n"
    ++ codes "$end\n"
    ++ codes "#5\n"
    ++ codes "1!\n"
    ++ codes "0\"\n"
    ++ codes "b00000101 #\n"
    ++ codes "b00001001 $\n"
    ++ codes "b00001110 %\n"
    ++ codes "#10\n"
    ++ codes "0!\n"
    ++ codes "#15\n"
    ++ codes "1!\n"
    ++ codes "1\"\n"
    ++ codes "b11111111 $\n"
    ++ codes "b00000100 %\n"
    ++ codes "b00000100 &\n"
    ++ codes "b00000100 (\n"
    ++ codes "#20\n"
    ++ codes "0!\n"
    ++ codes "#25\n"
    ++ codes "1!\n"
    ++ codes "#30\n"
    ++ codes "0!\n"

-- a register of 10 bits with no inputs and no outputs, in no cycle: the clock is the only value
abbrev pub alone_is_told : Type 0
alone_is_told =
    waves_text alone (record { ports = alone_ports; rows = [] })
    ≡ codes "$timescale 1ns $end\n"
    ++ codes "$scope module E $end\n"
    ++ codes "$var wire 1 ! clk $end\n"
    ++ codes "$var reg 10 \" _0 [9:0] $end\n"
    ++ codes "$upscope $end\n"
    ++ codes "$enddefinitions $end\n"
    ++ codes "#0\n"
    ++ codes "$dumpvars\n"
    ++ codes "0!\n"
    ++ codes "$end\n"

-- codes of one, two and three bytes
pub record CodesAre : Type 0 where
  pub one : code_text 93 ≡ codes "~"
  pub two : code_text 94 ≡ codes "!\""
  pub most_of_two : code_text 8835 ≡ codes "~~"
  pub three : code_text 8836 ≡ codes "!!\""
