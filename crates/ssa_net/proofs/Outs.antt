-- Outputs of the top.
use Rattle.std.proofs.Common.{◌≡◌, ℕ, zero, suc, ◌+◌, ◌<◌, true, ℤ, List, [], ◌∷◌, ◌++◌, length, take, get_or, Option, Some, None, inl, inr, refl, sym, ap, ◌∙◌, subst, arith, append_assoc, if◌then◌else◌}
use Rattle.std.specs.Prelude.{slice_get, option_map, unwrap_or}
use Rattle.std.proofs.lemmas.List.{map-append, append-nil}
use Rattle.std.proofs.lemmas.Option.{same_Some, none-some}
use Rattle.bv_core.specs.declared.reference.NodeId.{NodeId}
use Rattle.tree_core.specs.Tree.{Leaf}
use Rattle.tree_core.specs.Width.{tree_width}
use Rattle.exec_core.specs.Block.{Name}
use Rattle.list_core.specs.Lists.{IsIn}
use Rattle.exec_core.specs.Design.{place}
use Rattle.design_core.specs.declared.variant.Signal.{Signal}
use Rattle.design_core.specs.declared.variant.Kind.{Kind}
use Rattle.design_core.specs.declared.variant.Kind.TheVariants as kind
use Rattle.design_core.specs.declared.design.Instance.{Instance}
use Rattle.design_core.specs.Design as design
use Rattle.design_core.specs.Ports.{is_port, one_port, ports_in, top_signals}
use Rattle.design_core.specs.Widths.{bits}
use Rattle.design_exec.specs.Processes as processes
use Rattle.check_exec.proofs.Instances.{Stands as StandsAt, clean}
use Rattle.check_exec.proofs.Givens.{IsSignal, signal_of}
use Rattle.check_exec.specs.Premises.{IsSound}
use Rattle.lower_core.specs.Lowered.{OutputTold, OutputsTold}
use Rattle.net_core.specs.Nodes.{Shape}
use Rattle.net_core.specs.Nets.{outputs_of, OutputsFit}
use Rattle.list_core.proofs.Growing.{more_of}
use Rattle.ssa_nodes.specs.declared.parts.Parts as code
use Rattle.ssa_nodes.specs.Parts.{HasParts, StandsBy, design_in}
use Rattle.ssa_nodes.proofs.Sources.{by_node}
use Rattle.ssa_net.specs.Outputs.{OneMore}

-- ---- signals of the top

record TopStands (d : design.Design) (s : Signal) : Type 0 where
  instance : Instance
  variant : design.Variant
  stands : StandsAt d 0 instance variant
  among : IsIn s variant.signals

top_stands : (d : design.Design) → IsSound d → (s : Signal) → IsIn s (top_signals d) → TopStands d s
top_stands d sound s m = by_variant (slice_get d.variants 0) refl m
  where
    by_variant : (o : Option design.Variant) → slice_get d.variants 0 ≡ o → IsIn s (unwrap_or (option_map (λ (w : design.Variant). w.signals) o) []) → TopStands d s
    by_variant None at i = absurd i
    by_variant (Some v) at i = record { instance = record { path = d.top; variant = 0; parent = None }; variant = v; stands = record { instance = sound.kept.top; variant = at }; among = i }

pub top_signal : (d : design.Design) → IsSound d → (s : Signal) → IsIn s (top_signals d) → IsSignal d 0 s
top_signal d sound s m = let t = top_stands d sound s m in signal_of d 0 t.instance t.variant t.stands (clean d sound.accepted 0 t.instance t.variant t.stands) s t.among

-- ---- an output

pub output_told : (p : code.Parts) (h : HasParts p) (ns : List Shape) (s : Signal) (id : NodeId) → IsIn s (top_signals (design_in p)) → StandsBy p ns (Leaf (place 0 s.name)) id → OutputTold (design_in p) (length p.order.now) ns (s.name, bits s.width) (s.name, id.0)
output_told p h ns s id m stands =
    let is = top_signal (design_in p) h.parts.sound s m in
    record {
      name = refl;
      stands = stands;
      width = ap tree_width stands.tree ∙ ((by_node p h).fits (Leaf (place 0 s.name)) is.signal).1 ∙ is.width;
    }

pub one_more : (p : code.Parts) (h : HasParts p) (ns : List Shape) (old new : List (Name × ℕ)) (s : Signal) (x : Name) (id : NodeId) → s.kind ≡ kind.Output → x ≡ s.name → IsIn s (top_signals (design_in p)) → StandsBy p ns (Leaf (place 0 x)) id → new ≡ old ++ (x, id.0) ∷ [] → OneMore p ns old new s
one_more p h ns old new s x id is e m stands same = record {
  outputs = (s.name, id.0) ∷ [];
  behind = subst (λ y. new ≡ old ++ (y, id.0) ∷ []) e same;
  told = subst (λ (k : Kind). OutputsTold (design_in p) (length p.order.now) ns (if is_port true k then (s.name, bits s.width) ∷ [] else []) ((s.name, id.0) ∷ [])) (sym is)
      (output_told p h ns s id m (subst (λ y. StandsBy p ns (Leaf (place 0 y)) id) e stands), tt);
}

pub outputs_push : (old new : List (Name × NodeId)) (x : Name) (id : NodeId) → new ≡ old ++ (x, id) ∷ [] → outputs_of new ≡ outputs_of old ++ (x, id.0) ∷ []
outputs_push old new x id e = ap outputs_of e ∙ map-append _ old ((x, id) ∷ [])

pub outputs_both : (p : code.Parts) (ns : List Shape) (ports others : List (Name × ℕ)) (outputs more : List (Name × ℕ)) → OutputsTold (design_in p) (length p.order.now) ns ports outputs → OutputsTold (design_in p) (length p.order.now) ns others more → OutputsTold (design_in p) (length p.order.now) ns (ports ++ others) (outputs ++ more)
outputs_both p ns [] others [] more h g = g
outputs_both p ns [] others (o ∷ outputs) more h g = absurd h
outputs_both p ns (q ∷ ports) others [] more h g = absurd h
outputs_both p ns (q ∷ ports) others (o ∷ outputs) more h g = (h.0, outputs_both p ns ports others outputs more h.1 g)

ports_push : (signals : List Signal) (s : Signal) → ports_in true (signals ++ s ∷ []) ≡ ports_in true signals ++ one_port true s
ports_push [] s = append-nil (one_port true s)
ports_push (t ∷ signals) s = ap (λ l. one_port true t ++ l) (ports_push signals s) ∙ sym (append_assoc (one_port true t) (ports_in true signals) (one_port true s))

pub outputs_more : (p : code.Parts) (ns : List Shape) (old new : List (Name × ℕ)) (signals : List Signal) (k : ℕ) (s : Signal) → k < length signals → s ≡ get_or signals k s → OutputsTold (design_in p) (length p.order.now) ns (ports_in true (take k signals)) old → OneMore p ns old new s → OutputsTold (design_in p) (length p.order.now) ns (ports_in true (take (k + 1) signals)) new
outputs_more p ns old new signals k s below at h m =
    subst (λ l. OutputsTold (design_in p) (length p.order.now) ns l new) (sym (ap (ports_in true) (more_of signals k s below at) ∙ ports_push (take k signals) s))
    (subst (OutputsTold (design_in p) (length p.order.now) ns (ports_in true (take k signals) ++ one_port true s)) (sym m.behind)
    (outputs_both p ns (ports_in true (take k signals)) (one_port true s) old m.outputs h m.told))

pub outputs_fit : (p : code.Parts) (ns : List Shape) (ports outputs : List (Name × ℕ)) → OutputsTold (design_in p) (length p.order.now) ns ports outputs → OutputsFit ns outputs
outputs_fit p ns ports outputs h = record { nodes = each ports outputs h }
  where
    each : (ports outputs : List (Name × ℕ)) → OutputsTold (design_in p) (length p.order.now) ns ports outputs → (k : ℕ) (output : Name × ℕ) → slice_get outputs k ≡ Some output → output.1 < length ns
    each [] [] h k output e = absurd (none-some output e)
    each [] (o ∷ outputs) h k output e = absurd h
    each (q ∷ ports) [] h k output e = absurd h
    each (q ∷ ports) (o ∷ outputs) h zero output e = subst (λ (r : Name × ℕ). r.1 < length ns) (same_Some o output e) (h.0).stands.within
    each (q ∷ ports) (o ∷ outputs) h (suc k) output e = each ports outputs h.1 k output e

pub signal_in : (signals : List Signal) (k : ℕ) (s : Signal) → k < length signals → s ≡ get_or signals k s → IsIn s signals
signal_in [] k s below at = absurd (let never : ⊥ = omega arith in never)
signal_in (t ∷ signals) zero s below at = inl at
signal_in (t ∷ signals) (suc k) s below at = inr (signal_in signals k s (omega arith) at)
