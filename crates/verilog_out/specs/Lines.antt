-- The lines of a node in the parts of a module, and the next values by number.
use Rattle.std.specs.Prelude.{ℕ, List, [], ◌++◌, length, Option, Some, None}
use Rattle.std.specs.List.{flat_map}
use Rattle.list_core.specs.Lists.{from}
use Rattle.bv_core.specs.declared.reference.NodeId.{NodeId}
use Rattle.net_core.specs.Nodes.{Shape}
use Rattle.net_core.specs.Nets.{NetParts}
use Rattle.verilog_out.specs.declared.part.Part.{Part}
use Rattle.verilog_out.specs.declared.part.Part.TheVariants.{Declarations, Assignments, Steps}
use Rattle.verilog_out.specs.Spelling.{declaration_text, assignment_text, step_text}
use Rattle.verilog_out.specs.Printed.{declared, assigned, output_assigned, stepped}

-- the line of what there is, or none
abbrev pub line_of : {A : Type 0} → (A → List ℕ) → Option A → List ℕ
line_of text None = []
line_of text (Some item) = text item

-- the line of a node's number in a part
abbrev pub part_line : NetParts → Part → ℕ → List ℕ
part_line net Declarations i = line_of declaration_text (declared net.nodes i)
part_line net Assignments i = line_of assignment_text (assigned net.nodes i)
part_line net Steps i = line_of step_text (stepped net i)

-- the lines of all nodes in a part, those of the outputs, and what stands behind the ports
abbrev pub part_text : NetParts → Part → List ℕ
part_text net part = flat_map (part_line net part) (from 0 (length net.nodes))

-- the line of an output
abbrev pub output_line : List Shape → List ℕ × NodeId → List ℕ
output_line ns output = assignment_text (output_assigned ns (output.0, output.1.0))

abbrev pub outputs_text : NetParts → List ℕ
outputs_text net = flat_map (λ output. assignment_text (output_assigned net.nodes output)) net.outputs

abbrev pub body_text : NetParts → List ℕ
body_text net = part_text net Declarations ++ (part_text net Assignments ++ (outputs_text net ++ part_text net Steps))
