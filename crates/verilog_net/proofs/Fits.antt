-- A compiled net fits the ports of its design's top.
use Rattle.std.proofs.Common.{◌≡◌, ℕ, Bool, true, false, List, [], ◌∷◌, ◌++◌, map, Option, Some, None, option_map, unwrap_or, if◌then◌else◌, refl, sym, ap₂, ◌∙◌, subst}
use Rattle.std.specs.Prelude.{slice_get}
use Rattle.std.proofs.lemmas.List.{map-append}
use Rattle.exec_core.specs.Block.{Name}
use Rattle.list_core.specs.Lists.{EachOf, IsIn, IsNotIn, AreApart}
use Rattle.design_core.specs.declared.Ports.{Ports}
use Rattle.design_core.specs.declared.variant.Signal.{Signal}
use Rattle.design_core.specs.declared.variant.Kind.{Kind}
use Rattle.design_core.specs.declared.variant.Kind.TheVariants as kind
use Rattle.design_core.specs.Design.{Variant, Design}
use Rattle.design_core.specs.Ports.{is_port, ports_in, top_signals}
use Rattle.design_core.specs.Widths.{bits}
use Rattle.net_core.specs.Nodes.{Shape, width_at}
use Rattle.net_core.specs.Nets.{NetParts}
use Rattle.check_exec.specs.Premises.{IsSound}
use Rattle.check_exec.proofs.Instances.{Stands, clean}
use Rattle.world_core.specs.declared.mode.Mode.{Mode}
use Rattle.lower_core.specs.Lowered.{OutputsTold}
use Rattle.trim_core.specs.Trimmed.{IsKeptNet}
use Rattle.list_core.proofs.Lists.{apart_both}
use Rattle.trim_table.proofs.Scopes.{signals_apart}
use Rattle.verilog_out.specs.Printed.{FitsPorts}
use Rattle.design_net.proofs.Inputs.{inputs_among}
use Rattle.verilog_net.specs.Printing.{HasPorts}

abbrev Port : Type 0
Port = Name × ℕ

abbrev port_name : Port → Name
port_name port = port.0

abbrev signal_name : Signal → Name
signal_name s = s.name

abbrev port_names : Bool → List Signal → List Name
port_names output signals = map port_name (ports_in output signals)

-- ---- no two ports have one name

-- one more port, where a signal is one
abbrev with_port : Bool → Signal → List Name → List Name
with_port b s names = if b then s.name ∷ names else names

names_more : (output : Bool) (s : Signal) (signals : List Signal) → port_names output (s ∷ signals) ≡ with_port (is_port output s.kind) s (port_names output signals)
names_more output s signals = by_test (is_port output s.kind)
  where
    by_test : (b : Bool) → map port_name ((if b then (s.name, bits s.width) ∷ [] else []) ++ ports_in output signals) ≡ with_port b s (port_names output signals)
    by_test true = refl
    by_test false = refl

-- a name that no signal has, no port has
not_named : (output : Bool) (x : Name) (signals : List Signal) → IsNotIn x (map signal_name signals) → IsNotIn x (port_names output signals)
not_named output x [] h = tt
not_named output x (s ∷ signals) h = subst (IsNotIn x) (sym (names_more output s signals)) (by_test (not_named output x signals h.1) (is_port output s.kind))
  where
    by_test : IsNotIn x (port_names output signals) → (b : Bool) → IsNotIn x (with_port b s (port_names output signals))
    by_test rest true = (h.0, rest)
    by_test rest false = rest

names_apart : (output : Bool) (signals : List Signal) → AreApart (map signal_name signals) → AreApart (port_names output signals)
names_apart output [] h = tt
names_apart output (s ∷ signals) h = subst AreApart (sym (names_more output s signals)) (by_test (names_apart output signals h.1) (is_port output s.kind))
  where
    by_test : AreApart (port_names output signals) → (b : Bool) → AreApart (with_port b s (port_names output signals))
    by_test rest true = (not_named output s.name signals h.0, rest)
    by_test rest false = rest

-- an input is no output
abbrev Crossed : List Name → List Name → Type 0
Crossed xs ys = EachOf (λ x. IsNotIn x ys) xs

one_more : (x : Name) (xs ys : List Name) → IsNotIn x xs → Crossed xs ys → Crossed xs (x ∷ ys)
one_more x [] ys h c = tt
one_more x (z ∷ xs) ys h c = ((λ e. h.0 (sym e), c.0), one_more x xs ys h.1 c.1)

names_crossed : (signals : List Signal) → AreApart (map signal_name signals) → Crossed (port_names false signals) (port_names true signals)
names_crossed [] h = tt
names_crossed (s ∷ signals) h =
    subst (λ xs. Crossed xs (port_names true (s ∷ signals))) (sym (names_more false s signals))
    (subst (λ ys. Crossed (with_port (is_port false s.kind) s (port_names false signals)) ys) (sym (names_more true s signals)) (by_kind (names_crossed signals h.1) s.kind))
  where
    by_kind : Crossed (port_names false signals) (port_names true signals) → (k : Kind) → Crossed (with_port (is_port false k) s (port_names false signals)) (with_port (is_port true k) s (port_names true signals))
    by_kind rest kind.Input = (not_named true s.name signals h.0, rest)
    by_kind rest kind.Output = one_more s.name (port_names false signals) (port_names true signals) (not_named false s.name signals h.0) rest
    by_kind rest kind.Wire = rest
    by_kind rest (kind.Reg start) = rest
    by_kind rest (kind.ChildOut k port) = rest

abbrev signals_or : Option Variant → List Signal
signals_or o = unwrap_or (option_map (λ (w : Variant). w.signals) o) []

top_apart : (d : Design) → IsSound d → AreApart (map signal_name (top_signals d))
top_apart d sound = by_variant (slice_get d.variants 0) refl
  where
    by_variant : (o : Option Variant) → slice_get d.variants 0 ≡ o → AreApart (map signal_name (signals_or o))
    by_variant None e = tt
    by_variant (Some v) e =
        let stands : Stands d 0 (record { path = d.top; variant = 0; parent = None }) v = record { instance = sound.kept.top; variant = e } in
        signals_apart v (clean d sound.accepted 0 (record { path = d.top; variant = 0; parent = None }) v stands).apart

ports_apart : (signals : List Signal) → AreApart (map signal_name signals) → AreApart (map port_name (ports_in false signals ++ ports_in true signals))
ports_apart signals h =
    subst AreApart (sym (map-append port_name (ports_in false signals) (ports_in true signals)))
    (apart_both (port_names false signals) (port_names true signals) (names_apart false signals h) (names_apart true signals h) (names_crossed signals h))

-- ---- the outputs

outputs_fit : (d : Design) (n : ℕ) (nodes : List Shape) (ports outputs : List Port) → OutputsTold d n nodes ports outputs → map (λ (o : Port). (o.0, width_at nodes o.1)) outputs ≡ ports
outputs_fit d n nodes [] [] h = refl
outputs_fit d n nodes [] (output ∷ outputs) h = absurd h
outputs_fit d n nodes (port ∷ ports) [] h = absurd h
outputs_fit d n nodes (port ∷ ports) (output ∷ outputs) h =
    let first : (output.0, width_at nodes output.1) ≡ port = λ i. (h.0.name i, h.0.width i) in
    ap₂ (λ (p : Port) (ps : List Port). p ∷ ps) first (outputs_fit d n nodes ports outputs h.1)

-- ---- the ports

pub fits_ports : (d : Design) (n : ℕ) (mode : Mode) (net : NetParts) (ports : Ports) → IsSound d → IsKeptNet d n mode net → HasPorts d ports → FitsPorts net ports
fits_ports d n mode net ports sound kept has = record {
  inputs = λ i name width at. subst (λ (l : List Port). IsIn (name, width) l) (sym has.inputs) (inputs_among d n mode net sound kept i name width at);
  apart =
      subst (λ (l : List Port). AreApart (map port_name l)) (ap₂ (λ (a b : List Port). a ++ b) (sym has.inputs) (sym has.outputs)) (ports_apart (top_signals d) (top_apart d sound));
  outputs = outputs_fit d n net.nodes (ports_in true (top_signals d)) net.outputs kept.outputs ∙ sym has.outputs;
}
