-- The simulated trace of a compiled design fits its symbol table.
use Rattle.std.proofs.Common.{◌≡◌, ℕ, zero, suc, ◌+◌, ◌*◌, ◌^◌, ◌<◌, ◌≤◌, List, [], ◌∷◌, length, map, Some, refl, sym, ap, ◌∙◌, subst, arith}
use Rattle.std.specs.Prelude.{slice_get}
use Rattle.std.specs.List.{enumerate_from}
use Rattle.std.proofs.lemmas.List.{length-map}
use Rattle.std.proofs.lemmas.List.FromFn.{length-enumerate_from}
use Rattle.std.proofs.lemmas.Option.{none-some, same_Some, slice_get_within}
use Rattle.std.proofs.Math.Nat.{mul-le-mul_left}
use Rattle.design_core.specs.Design.{Design}
use Rattle.net_core.specs.Nodes.{Shape, width_at}
use Rattle.net_core.specs.Nets.{NetParts}
use Rattle.symtab.specs.declared.parts.NodeName.{NodeName}
use Rattle.symtab.specs.declared.parts.TableParts.{TableParts}
use Rattle.trace_core.specs.Samples.{HasWidth}
use Rattle.stim_text.specs.Stimulus.{Stimulus, IsStimulus}
use Rattle.sim_core.specs.Given.{node_value}
use Rattle.sim_hist.specs.Run.{inputs_in, registers_in, run_samples}
use Rattle.sim_hist.proofs.Samples.{have_widths}
use Rattle.world_core.specs.declared.mode.Mode.{Mode}
use Rattle.trace_world.specs.Fitting.{widths_of}
use Rattle.trim_core.specs.Named.{named, node_names}
use Rattle.trim_core.specs.Trimmed.{IsTrimmed}
use Rattle.trim_laws.specs.Fitted.{SimulatedFit, SimulatedAreKnown}

-- the names of nodes have the widths of the nodes
named_width : (ns rest : List Shape) (n j w : ℕ) → slice_get (map (λ (node : NodeName). node.width) (map (named ns) (enumerate_from n rest))) j ≡ Some w → w ≡ width_at ns (n + j)
named_width ns [] n j w e = absurd (none-some w e)
named_width ns (s ∷ rest) n zero w e = sym (same_Some (width_at ns n) w e) ∙ ap (width_at ns) (let z : n ≡ n + 0 = omega arith in z)
named_width ns (s ∷ rest) n (suc j) w e = named_width ns rest (n + 1) j w e ∙ ap (width_at ns) (let z : n + 1 + j ≡ n + suc j = omega arith in z)

few_positions : (rows slots : ℕ) → rows ≤ 1000000 → slots < 2 ^ 32 → rows * slots < 2 ^ 62
few_positions rows slots few short = omega (arith, mul-le-mul_left slots few)

module _ (d : Design) (n : ℕ) (mode : Mode) (net : NetParts) (parts : TableParts) (stim : Stimulus) (trimmed : IsTrimmed d n mode net parts) (kept : IsStimulus stim) where
  widths_are : widths_of parts ≡ map (λ (node : NodeName). node.width) (node_names net.nodes)
  widths_are = ap (λ (nodes : List NodeName). map (λ (node : NodeName). node.width) nodes) trimmed.tells.names

  count : length (widths_of parts) ≡ length net.nodes
  count =
      ap (λ (ws : List ℕ). length ws) widths_are
      ∙ length-map (node_names net.nodes) (λ (node : NodeName). node.width)
      ∙ length-map (enumerate_from 0 net.nodes) (named net.nodes)
      ∙ length-enumerate_from 0 net.nodes

  width_is : (j w : ℕ) → slice_get (widths_of parts) j ≡ Some w → w ≡ width_at net.nodes j
  width_is j w e =
      named_width net.nodes net.nodes 0 j w (ap (λ ws. slice_get ws j) (sym widths_are) ∙ e)
      ∙ ap (width_at net.nodes) (let z : 0 + j ≡ j = omega arith in z)

  sample_width : (t j w : ℕ) → t < length stim.rows → slice_get (widths_of parts) j ≡ Some w → HasWidth w ((run_samples net stim).sample t j)
  sample_width t j w inside e =
      λ value is. have_widths net trimmed.is_kept.is_net stim kept t j inside (subst (λ m. j < m) count (slice_get_within (widths_of parts) j w e)) value is ∙ sym (width_is j w e)

pub simulated_fit : SimulatedFit
simulated_fit d n mode net parts stim trimmed kept = record {
  sampled = let many = count d n mode net parts stim trimmed kept in omega (arith, many);
  width = λ t j w inside e. sample_width d n mode net parts stim trimmed kept t j w inside e;
  positions = few_positions (length stim.rows) (length parts.slots) kept.few trimmed.is_table.short_slots;
}

pub simulated_are_known : SimulatedAreKnown
simulated_are_known d n mode net parts stim trimmed kept = λ t j w inside e.
    sample_width d n mode net parts stim trimmed kept t j w inside e (node_value net.nodes (inputs_in net stim t) (registers_in net stim t) j) refl
