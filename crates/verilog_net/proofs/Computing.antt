-- Values that meet a printed module are those that execution gives.
use Rattle.std.proofs.Common.{◌≡◌, ℕ, ◌<◌, Bool, true, false, List, [], ◌∷◌, ◌++◌, length, Some, option_map, unwrap_or, bytes_eq, if◌then◌else◌, inl, inr, refl, sym, ap, ◌∙◌, subst}
use Rattle.std.specs.Prelude.{slice_get}
use Rattle.std.specs.List.{list_any}
use Rattle.std.proofs.lemmas.List.{length-map}
use Rattle.std.proofs.lemmas.Option.{slice_get_within, get_or_from_slice_get}
use Rattle.bv_core.specs.Value.{Bits}
use Rattle.tree_core.specs.Tree as tree
use Rattle.tree_core.specs.Tree.{Leaf, Origin, Whole, value_of}
use Rattle.exec_core.specs.Block.{Name}
use Rattle.list_core.specs.Lists.{EachOf, IsIn}
use Rattle.exec_core.specs.Whole.{Place}
use Rattle.exec_core.specs.Design.{place}
use Rattle.exec_core.specs.Run.{next_value}
use Rattle.exec_core.specs.Accepted.{GivenFits}
use Rattle.exec_core.specs.States.{CycleAgrees}
use Rattle.list_core.proofs.Lists.{each_member}
use Rattle.exec_core.proofs.Cycles.{settled_agrees}
use Rattle.design_core.specs.declared.Ports.{Ports}
use Rattle.design_core.specs.declared.design.Instance.{Instance}
use Rattle.design_core.specs.declared.variant.Signal.{Signal}
use Rattle.design_core.specs.Design.{Design}
use Rattle.design_core.specs.Ports.{is_port, ports_in, top_signals}
use Rattle.design_core.specs.Widths.{bits}
use Rattle.design_exec.specs.Processes.{processes_of, is_signal_of, signals_in}
use Rattle.place_core.specs.Orders.{Pair, signal_at}
use Rattle.check_exec.proofs.Orders.{orders_are_accepted}
use Rattle.net_core.specs.Nodes.{Register, no_shape, node_tree, trees_of, tree_of}
use Rattle.net_core.specs.Nets.{NetParts}
use Rattle.net_core.proofs.TreeLists.{tree_is}
use Rattle.net_core.proofs.Solutions.{one_solution}
use Rattle.check_exec.specs.Premises.{IsSound}
use Rattle.check_exec.proofs.Facts.{in_any, name_same}
use Rattle.check_exec.proofs.Givens.{givens_fit}
use Rattle.world_core.specs.declared.mode.Mode.{Mode}
use Rattle.lower_core.specs.Lowered.{OutputsTold}
use Rattle.verilog_out.specs.Syntax.{Numbered, Step, Module}
use Rattle.verilog_out.specs.Printed.{identifier_at}
use Rattle.verilog_out.specs.Meaning.{name_of}
use Rattle.verilog_out.specs.ReadBack.{by_number, MeetsNet, Means}
use Rattle.verilog_out.proofs.Members.{in_mapped}
use Rattle.verilog_out.proofs.MeansNet.{printed_means_net}
use Rattle.verilog_net.specs.Cycles.{IsPrintedAs, IsCycleOf, ComputesCycle, ModulesComputeSources}
use Rattle.verilog_net.proofs.Alike.{compiled_text}
use Rattle.verilog_net.proofs.Fits.{fits_ports}
use Rattle.verilog_net.proofs.Nexts.{next_stands}

-- a signal of the top is one of instance 0
top_is_signal : (d : Design) → IsSound d → (s : Signal) → IsIn s (top_signals d) → is_signal_of d (place 0 s.name) ≡ true
top_is_signal d sound s i =
    ap (λ o. list_any (λ (t : Signal). bytes_eq t.name s.name) (unwrap_or (option_map (λ (r : Instance). signals_in d r.variant) o) [])) sound.kept.top
    ∙ in_any (λ (t : Signal). bytes_eq t.name s.name) (top_signals d) s i (name_same s.name s.name refl)

-- an output port is a signal of the top
record OfSignal (signals : List Signal) (x : Name) : Type 0 where
  signal : Signal
  among : IsIn signal signals
  name : x ≡ signal.name

port_signal : (output : Bool) (signals : List Signal) (port : Name × ℕ) → IsIn port (ports_in output signals) → OfSignal signals port.0
port_signal output [] port i = absurd i
port_signal output (s ∷ signals) port i = by_test (λ j. later (port_signal output signals port j)) (is_port output s.kind) i
  where
    later : OfSignal signals port.0 → OfSignal (s ∷ signals) port.0
    later r = record { signal = r.signal; among = inr r.among; name = r.name }

    by_test : (IsIn port (ports_in output signals) → OfSignal (s ∷ signals) port.0) → (b : Bool) → IsIn port ((if b then (s.name, bits s.width) ∷ [] else []) ++ ports_in output signals) → OfSignal (s ∷ signals) port.0
    by_test rest true (inl e) = record { signal = s; among = inl refl; name = ap (λ (p : Name × ℕ). p.0) e }
    by_test rest true (inr j) = rest j
    by_test rest false j = rest j

module _ (d : Design) (pairs : List Pair) (mode : Mode) (net : NetParts) (ports : Ports) (m : Module) (h : IsPrintedAs d pairs mode net ports m)
    (registers : Place → Bits) (row : Name → Bits) (E : Place → Bits) (G : Origin → Bits) (W : Name → Bits) (c : IsCycleOf d net m registers row E G W) where
  abbrev n : ℕ
  n = length pairs

  count_same : length h.order.order ≡ n
  count_same = sym (sym (length-map pairs (signal_at d)) ∙ ap length h.order.signals ∙ length-map h.order.order (λ (p : Place). Some p))

  agrees : CycleAgrees (processes_of d) n E G
  agrees =
      subst (λ k. CycleAgrees (processes_of d) k E G) count_same
      (settled_agrees (processes_of d) h.order.order (orders_are_accepted d pairs h.sound h.order) registers row E c.settled G c.gives)

  means : Means net ports m
  means =
      (printed_means_net net ports h.few h.kept.is_net (fits_ports d n mode net ports h.sound h.kept h.ports_are) h.names).means m h.is_module
      (compiled_text d n mode net ports h.sound h.kept ∙ h.text)

  met : MeetsNet net ports G W
  met = (means.equations G W c.widths c.given).0 c.meets

  -- each node has the value of its tree
  node_value : (j : ℕ) → j < length net.nodes → by_number net.nodes W j ≡ value_of G (tree_of net.nodes j)
  node_value j l = (one_solution net.nodes h.kept.is_net.shared.numbered G).only (by_number net.nodes W) met.solves j l

  -- ---- the outputs

  outputs_settle : (told outputs : List (Name × ℕ)) → ((port : Name × ℕ) → IsIn port told → is_signal_of d (place 0 port.0) ≡ true) → OutputsTold d n net.nodes told outputs
      → EachOf (λ (output : Name × ℕ). W output.0 ≡ by_number net.nodes W output.1) outputs → EachOf (λ (port : Name × ℕ). W port.0 ≡ E (place 0 port.0)) told
  outputs_settle [] [] signal t w = tt
  outputs_settle [] (output ∷ outputs) signal t w = absurd t
  outputs_settle (port ∷ told) [] signal t w = absurd t
  outputs_settle (port ∷ told) (output ∷ outputs) signal t w = (
    ap W (sym t.0.name)
        ∙ w.0
        ∙ node_value output.1 t.0.stands.within
        ∙ ap (λ (u : Whole). value_of G u) t.0.stands.tree
        ∙ sym (agrees.signals (place 0 port.0) (signal port (inl refl))),
    outputs_settle told outputs (λ other i. signal other (inr i)) t.1 w.1,
  )

  port_is : (port : Name × ℕ) → IsIn port (ports_in true (top_signals d)) → is_signal_of d (place 0 port.0) ≡ true
  port_is port i =
      let r = port_signal true (top_signals d) port i in
      subst (λ x. is_signal_of d (place 0 x) ≡ true) (sym r.name) (top_is_signal d h.sound r.signal r.among)

  -- ---- the registers

  step_value : (p : Place) (instance name : List ℕ) (start : Bits) (i : ℕ) → IsIn (p, tree.Register instance name start) (processes_of d).givens → slice_get net.nodes i ≡ Some (Register instance name start)
      → (step : Step) → IsIn step m.steps → step.register ≡ Numbered i → W (name_of step.next) ≡ next_value (processes_of d) E p
  step_value p instance name start i there at step among of =
      let r = in_mapped (λ (pair : ℕ × ℕ). record { register = Numbered pair.0; next = identifier_at net.nodes pair.1 }) net.nexts step ((means.steps step).0 among) in
      let register : Numbered r.one.0 ≡ Numbered i = ap (λ (s : Step). s.register) (sym r.is) ∙ of in
      let here : r.one.0 ≡ i = cc in
      let within = slice_get_within net.nodes i (Register instance name start) at in
      let is : tree_of net.nodes i ≡ Leaf (tree.Register instance name start) =
      tree_is net.nodes h.kept.is_net.shared.numbered i within ∙ ap (node_tree (trees_of net.nodes)) (get_or_from_slice_get net.nodes i (Register instance name start) no_shape at) in
      let pair : IsIn (i, r.one.1) net.nexts = subst (λ k. IsIn (k, r.one.1) net.nexts) here r.among in
      let stands = next_stands d n mode net h.sound h.kept i within instance name start is p there r.one.1 pair in
      let signal : (processes_of d).is_signal p ≡ true = (each_member (GivenFits (processes_of d)) (processes_of d).givens (givens_fit d h.sound) (p, tree.Register instance name start) there).signal in
      ap (λ (s : Step). W (name_of s.next)) r.is
      ∙ node_value r.one.1 stands.within
      ∙ ap (λ (u : Whole). value_of G u) stands.tree
      ∙ sym (agrees.nexts p signal)

  pub computes : ComputesCycle d net ports m E W
  computes = record {
    outputs =
        subst (λ (l : List (Name × ℕ)). EachOf (λ (port : Name × ℕ). W port.0 ≡ E (place 0 port.0)) l) (sym h.ports_are.outputs)
        (outputs_settle (ports_in true (top_signals d)) net.outputs port_is h.kept.outputs met.outputs);
    steps = step_value;
  }

pub modules_compute_sources : ModulesComputeSources
modules_compute_sources d pairs mode net ports m h registers row E G W c = computes d pairs mode net ports m h registers row E G W c
