-- The module that a net is printed as means the net.
use Rattle.std.specs.Prelude.{◌≡◌, ◌↔◌, ℕ, ◌^◌, ◌<◌, List, ◌++◌, length, map, slice_get, Some}
use Rattle.bv_core.specs.Value.{Bits}
use Rattle.gen_token.specs.Spelling.{IsName}
use Rattle.tree_core.specs.Tree as tree
use Rattle.tree_core.specs.Width.{GivesWidths}
use Rattle.list_core.specs.Lists.{EachOf, IsIn}
use Rattle.design_core.specs.declared.ports.Ports.{Ports}
use Rattle.net_core.specs.Nodes.{Shape, Fixed, TopInput, Register, OfOne, OfTwo, OfMux, shape_at}
use Rattle.net_core.specs.Nets.{NetParts, Solves, IsNet}
use Rattle.verilog_out.specs.Syntax.{Numbered, Reg, Step, Module}
use Rattle.verilog_out.specs.Spelling.{module_text}
use Rattle.verilog_out.specs.Printed.{identifier_at, printed, FitsPorts}
use Rattle.verilog_out.specs.Reading.{IsModule}
use Rattle.verilog_out.specs.Meaning.{name_of, AreDeclaredOnce, Meets}

-- the values of the nodes, by their names
abbrev pub by_number : List Shape → (List ℕ → Bits) → ℕ → Bits
by_number ns W i = W (name_of (identifier_at ns i))

-- an input's or a register's node has the value that is given
abbrev pub IsGiven : (tree.Origin → Bits) → Bits → Shape → Type 0
IsGiven E value (Fixed b) = Unit {0}
IsGiven E value (TopInput name width) = E (tree.Input name width) ≡ value
IsGiven E value (Register instance name start) = E (tree.Register instance name start) ≡ value
IsGiven E value (OfOne op a) = Unit {0}
IsGiven E value (OfTwo op a b) = Unit {0}
IsGiven E value (OfMux c a b) = Unit {0}

-- the names of inputs and registers have the values that are given
abbrev pub AreGiven : List Shape → (tree.Origin → Bits) → (List ℕ → Bits) → Type 0
AreGiven ns E W = (i : ℕ) → i < length ns → IsGiven E (by_number ns W i) (shape_at ns i)

-- values of the names that meet a net: the inputs have their widths, the nodes solve the equations, and each output is its
-- node
pub record MeetsNet (net : NetParts) (ports : Ports) (E : tree.Origin → Bits) (W : List ℕ → Bits) : Type 0 where
  pub inputs : EachOf (λ (port : List ℕ × ℕ). (W port.0).width ≡ port.1) ports.inputs
  pub solves : Solves net.nodes E (by_number net.nodes W)
  pub outputs : EachOf (λ (output : List ℕ × ℕ). W output.0 ≡ by_number net.nodes W output.1) net.outputs

-- the module and the ports have names of the source
pub record HaveNames (ports : Ports) : Type 0 where
  pub module_name : IsName ports.module
  pub port_names : EachOf (λ (port : List ℕ × ℕ). IsName port.0) (ports.inputs ++ ports.outputs)

-- there are values of the names that meet a module and have what is given
pub record IsSatisfied (net : NetParts) (ports : Ports) (m : Module) (E : tree.Origin → Bits) : Type 0 where
  pub values : List ℕ → Bits
  pub given : AreGiven net.nodes E values
  pub meets : Meets m values

-- each name is declared once. Values meet the module exactly where they meet the net, whatever is given, and there are such
-- values. The registers start with their values, and step to their next values, and no other does
pub record Means (net : NetParts) (ports : Ports) (m : Module) : Type 0 where
  pub once : AreDeclaredOnce m
  pub equations : (E : tree.Origin → Bits) (W : List ℕ → Bits) → GivesWidths E → AreGiven net.nodes E W → Meets m W ↔ MeetsNet net ports E W
  pub satisfied : (E : tree.Origin → Bits) → GivesWidths E → IsSatisfied net ports m E
  pub starts : (i width : ℕ) (start : Bits) → IsIn (Reg width (Numbered i) start) m.declarations
      ↔ ((instance : List ℕ) × ((name : List ℕ) × ((slice_get net.nodes i ≡ Some (Register instance name start)) × (start.width ≡ width))))
  pub steps : (step : Step) → IsIn step m.steps ↔ IsIn step (map (λ (pair : ℕ × ℕ). record { register = Numbered pair.0; next = identifier_at net.nodes pair.1 }) net.nexts)

-- what is printed is the text of a module, and each module of that text means the net
pub record ReadsBack (net : NetParts) (ports : Ports) : Type 0 where
  pub one : Module
  pub is : IsModule one
  pub spelled : printed net ports ≡ module_text one
  pub means : (m : Module) → IsModule m → printed net ports ≡ module_text m → Means net ports m

-- so it is for a net whose nodes have numbers of 64 bits
abbrev pub PrintedMeansNet : Type 0
PrintedMeansNet = (net : NetParts) (ports : Ports) → length net.nodes < 2 ^ 64 → IsNet net → FitsPorts net ports → HaveNames ports → ReadsBack net ports
