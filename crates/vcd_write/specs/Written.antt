-- The pieces in which the file is written.
use Rattle.std.specs.Prelude.{ℕ, ◌+◌, ◌<◌, Bool, true, false, get_or, List, [], ◌∷◌, ◌++◌, length, codes, nat_lt, if◌then◌else◌}
use Rattle.std.specs.List.{flat_map}
use Rattle.bv_core.specs.Value.{Bits}
use Rattle.bv_core.specs.declared.reference.NodeId.{NodeId}
use Rattle.bv_core.specs.declared.reference.Sample.{Sample}
use Rattle.bv_core.specs.declared.reference.Sample.TheVariants.{Known, Unknown}
use Rattle.list_core.specs.Lists.{from}
use Rattle.net_core.specs.Nodes.{Shape}
use Rattle.net_core.specs.Nets.{NetParts}
use Rattle.stim_text.specs.Stimulus.{Stimulus}
use Rattle.vcd_text.specs.Dump.{Variable, line_text, variable_words, values_text, time_text, front_text, step_text}
use Rattle.vcd_text.specs.Waves.{bit, all_from, differing_from, first_of, cycle_steps, clock}
use Rattle.vcd_write.specs.Run.{node_variable, output_variable, variables_of, row_of}

-- the declaration of a node, which is the variable of the number behind its own
abbrev pub node_line : List Shape → ℕ → List ℕ
node_line ns i = line_text (variable_words (i + 1) (node_variable ns i))

-- the declarations of outputs, the first of which is the variable of this number
abbrev pub output_lines : List Shape → ℕ → List (List ℕ × NodeId) → List ℕ
output_lines ns number [] = []
output_lines ns number (output ∷ outputs) = line_text (variable_words number (output_variable ns (output.0, output.1.0))) ++ output_lines ns (number + 1) outputs

-- the value of a sample is known
abbrev pub is_known : Sample → Bool
is_known (Known value) = true
is_known Unknown = false

-- numbers of nodes, of which there are so many
pub record AreNodes (count : ℕ) (nodes : List ℕ) : Type 0 where
  pub each : (k : ℕ) → k < length nodes → get_or nodes k 0 < count

-- the values of the first cycle, where there is one
abbrev pub first_text : NetParts → Stimulus → List ℕ
first_text net s = values_text (if nat_lt 0 (length s.rows) then all_from 1 (row_of net s 0) else [])

-- what stands before the steps
abbrev pub start_text : NetParts → Stimulus → List ℕ
start_text net s =
    front_text s.ports.module (clock ∷ variables_of net)
    ++ (values_text (first_of (length s.rows) (row_of net s)) ++ line_text (codes "$end" ∷ []))

-- the values that change where a cycle ends
abbrev pub next_text : NetParts → Stimulus → ℕ → List ℕ
next_text net s t = values_text (if nat_lt (t + 1) (length s.rows) then differing_from 1 (row_of net s t) (row_of net s (t + 1)) else [])

-- the two steps of a cycle
abbrev pub cycle_text : NetParts → Stimulus → ℕ → List ℕ
cycle_text net s t = flat_map step_text (cycle_steps (length s.rows) (row_of net s) t)

abbrev pub cycles_text : NetParts → Stimulus → List ℕ
cycles_text net s = flat_map (cycle_text net s) (from 0 (length s.rows))
