-- A compiled net is the net of its design, and its text is the text of that.
use Rattle.std.proofs.Common.{◌≡◌, ℕ, Bool, true, false, List, ◌++◌, length, map, Option, Some, None, if◌then◌else◌, refl, ap, ◌∙◌, subst}
use Rattle.std.specs.List.{filter_map}
use Rattle.tree_core.specs.Tree.{Whole}
use Rattle.exec_core.specs.Kept.{next_in}
use Rattle.design_core.specs.declared.Ports.{Ports}
use Rattle.design_core.specs.Design.{Design}
use Rattle.list_core.specs.Lists.{from}
use Rattle.design_core.specs.Ports.{ports_in, top_signals}
use Rattle.design_exec.specs.Processes.{processes_of}
use Rattle.net_core.specs.Nodes.{Shape, shape_at}
use Rattle.net_core.specs.Nets.{NetParts, next_node}
use Rattle.check_exec.specs.Premises.{IsSound}
use Rattle.world_core.specs.declared.mode.Mode.{Mode}
use Rattle.trim_core.specs.Trimmed.{IsKeptNet}
use Rattle.verilog_out.specs.Syntax.{Numbered, Step, Module}
use Rattle.verilog_out.specs.Spelling.{module_text}
use Rattle.verilog_out.specs.Printed.{identifier_at, declared, assigned, output_assigned, is_register, stepped, module_of, printed}
use Rattle.trim_core.specs.KeptNet.{net_of, top_outputs, kept_net}
use Rattle.verilog_net.specs.Printing.{AreAlike, CompiledAreKept}
use Rattle.trim_table.proofs.Nodes.{nodes_are}
use Rattle.verilog_net.proofs.Outputs.{outputs_are}
use Rattle.verilog_net.proofs.Nexts.{nexts_are}

-- ---- the net

pub compiled_are_kept : CompiledAreKept
compiled_are_kept d n mode net sound kept =
    subst (λ (ts : List Whole). AreAlike net (net_of ts (top_outputs d n) (next_in (processes_of d) n))) kept.numbered
    (record {
      nodes = nodes_are net.nodes kept.is_net.shared;
      outputs = outputs_are d n net.nodes kept.is_net.shared (ports_in true (top_signals d)) net.outputs kept.outputs;
      nexts = nexts_are d n mode net sound kept;
    })

-- ---- its text

step_by : Bool → List Shape → ℕ → ℕ → Option Step
step_by b ns i next = if b then Some (record { register = Numbered i; next = identifier_at ns next }) else None

module _ (v w : NetParts) (ports : Ports) (alike : AreAlike v w) where
  step_same : (i : ℕ) → stepped v i ≡ stepped w i
  unfolding step_by
  step_same i =
      by_test (is_register (shape_at v.nodes i)) refl
      ∙ ap (λ (ns : List Shape). step_by (is_register (shape_at ns i)) ns i (next_node w.nexts i)) alike.nodes
    where
      by_test : (b : Bool) → is_register (shape_at v.nodes i) ≡ b → step_by b v.nodes i (next_node v.nexts i) ≡ step_by b v.nodes i (next_node w.nexts i)
      by_test true e = ap (λ k. step_by true v.nodes i k) (alike.nexts i e)
      by_test false e = refl

  steps_same : filter_map (stepped v) (from 0 (length v.nodes)) ≡ filter_map (stepped w) (from 0 (length w.nodes))
  steps_same = λ k. filter_map (λ i. step_same i k) (from 0 (length (alike.nodes k)))

  modules_same : module_of v ports ≡ module_of w ports
  modules_same = λ k. record {
    name = ports.module;
    inputs = ports.inputs;
    outputs = ports.outputs;
    declarations = filter_map (declared (alike.nodes k)) (from 0 (length (alike.nodes k)));
    assignments = filter_map (assigned (alike.nodes k)) (from 0 (length (alike.nodes k))) ++ map (output_assigned (alike.nodes k)) (alike.outputs k);
    steps = steps_same k;
  }

  pub printed_same : printed v ports ≡ printed w ports
  unfolding printed
  printed_same = ap (λ (m : Module). module_text m) modules_same

-- the text of a compiled net is that of the net of its design
pub compiled_text : (d : Design) (n : ℕ) (mode : Mode) (net : NetParts) (ports : Ports) → IsSound d → IsKeptNet d n mode net → printed net ports ≡ printed (kept_net d n mode) ports
compiled_text d n mode net ports sound kept = printed_same net (kept_net d n mode) ports (compiled_are_kept d n mode net sound kept)

-- a text is told by the names of the module and its ports
pub one_text : (net : NetParts) (p q : Ports) → p.module ≡ q.module → p.inputs ≡ q.inputs → p.outputs ≡ q.outputs → printed net p ≡ printed net q
unfolding printed
one_text net p q name inputs outputs = λ k. module_text (record {
  name = name k;
  inputs = inputs k;
  outputs = outputs k;
  declarations = (module_of net p).declarations;
  assignments = (module_of net p).assignments;
  steps = (module_of net p).steps;
})
