-- What the printed Verilog of a design computes in a cycle, and what executing its source gives there.
use Rattle.std.specs.Prelude.{◌≡◌, ℕ, ◌^◌, ◌<◌, List, length, slice_get, Some}
use Rattle.bv_core.specs.Value.{Bits}
use Rattle.tree_core.specs.Tree as tree
use Rattle.tree_core.specs.Tree.{Origin}
use Rattle.tree_core.specs.Width.{GivesWidths}
use Rattle.exec_core.specs.Block.{Name}
use Rattle.list_core.specs.Lists.{EachOf, IsIn}
use Rattle.exec_core.specs.Whole.{Place}
use Rattle.exec_core.specs.Design.{place}
use Rattle.exec_core.specs.Run.{Settled, next_value}
use Rattle.exec_core.specs.States.{Gives}
use Rattle.design_core.specs.declared.Ports.{Ports}
use Rattle.design_core.specs.Design.{Design}
use Rattle.design_exec.specs.Processes.{processes_of}
use Rattle.place_core.specs.Orders.{Pair, TellsOrder}
use Rattle.net_core.specs.Nodes.{Register}
use Rattle.net_core.specs.Nets.{NetParts}
use Rattle.check_exec.specs.Premises.{IsSound}
use Rattle.world_core.specs.declared.mode.Mode.{Mode}
use Rattle.trim_core.specs.Trimmed.{IsKeptNet}
use Rattle.verilog_out.specs.Syntax.{Numbered, Step, Module}
use Rattle.verilog_out.specs.Spelling.{module_text}
use Rattle.verilog_out.specs.Printed.{printed}
use Rattle.verilog_out.specs.Reading.{IsModule}
use Rattle.verilog_out.specs.Meaning.{name_of, Meets}
use Rattle.verilog_out.specs.ReadBack.{HaveNames, AreGiven}
use Rattle.trim_core.specs.KeptNet.{kept_net}
use Rattle.verilog_net.specs.Printing.{HasPorts}

-- an accepted design with an order, compiled; the ports of its top; and a module of Verilog that has the text of its net
pub record IsPrintedAs (d : Design) (pairs : List Pair) (mode : Mode) (net : NetParts) (ports : Ports) (m : Module) : Type 0 where
  pub sound : IsSound d
  pub order : TellsOrder d pairs
  pub kept : IsKeptNet d (length pairs) mode net
  pub few : length net.nodes < 2 ^ 64
  pub ports_are : HasPorts d ports
  pub names : HaveNames ports
  pub is_module : IsModule m
  pub text : printed (kept_net d (length pairs) mode) ports ≡ module_text m

-- a cycle of execution that has settled to E, with these registers and this row of the inputs; and values W of the module's names that
-- meet the module, where the names of inputs and registers have what they have in that cycle
pub record IsCycleOf (d : Design) (net : NetParts) (m : Module) (registers : Place → Bits) (row : Name → Bits) (E : Place → Bits) (G : Origin → Bits) (W : Name → Bits) : Type 0 where
  pub settled : Settled (processes_of d) registers row E
  pub gives : Gives (processes_of d) registers row G
  pub widths : GivesWidths G
  pub given : AreGiven net.nodes G W
  pub meets : Meets m W

-- each output has the value that it settles to, and each step of a register of the design gives it what it holds next
pub record ComputesCycle (d : Design) (net : NetParts) (ports : Ports) (m : Module) (E : Place → Bits) (W : Name → Bits) : Type 0 where
  pub outputs : EachOf (λ port. W port.0 ≡ E (place 0 port.0)) ports.outputs
  pub steps :
      (p : Place) (instance name : List ℕ) (start : Bits) (i : ℕ) → IsIn (p, tree.Register instance name start) (processes_of d).givens → slice_get net.nodes i ≡ Some (Register instance name start) →
      (step : Step) → IsIn step m.steps → step.register ≡ Numbered i → W (name_of step.next) ≡ next_value (processes_of d) E p

-- so it is of each module that is printed, in each cycle
abbrev pub ModulesComputeSources : Type 0
ModulesComputeSources =
    (d : Design) (pairs : List Pair) (mode : Mode) (net : NetParts) (ports : Ports) (m : Module) → IsPrintedAs d pairs mode net ports m →
    (registers : Place → Bits) (row : Name → Bits) (E : Place → Bits) (G : Origin → Bits) (W : Name → Bits) → IsCycleOf d net m registers row E G W → ComputesCycle d net ports m E W
