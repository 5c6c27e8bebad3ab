-- Nets that are alike have one file of waves.
use Rattle.std.proofs.Common.{◌≡◌, ℕ, zero, suc, ◌+◌, true, List, [], ◌∷◌, ◌++◌, length, map, refl, ap, ap₂, subst, ◌∙◌, arith}
use Rattle.std.specs.List.{zip}
use Rattle.std.specs.Prelude.{slice_index_or}
use Rattle.bv_core.specs.Value.{Bits}
use Rattle.list_core.specs.Lists.{from}
use Rattle.net_core.specs.Nodes.{Shape, Fixed, TopInput, Register, OfOne, OfTwo, OfMux, shape_at}
use Rattle.net_core.specs.Nets.{NetParts, next_node}
use Rattle.stim_text.specs.Stimulus.{Stimulus}
use Rattle.sim_core.specs.Leaves.{inputs_of, starts_of, numbers_from, sources_of}
use Rattle.sim_core.specs.Given.{value_beside, node_value}
use Rattle.sim_hist.specs.Run.{port_origins, inputs_in, registers_in}
use Rattle.verilog_out.specs.Printed.{is_register}
use Rattle.verilog_net.specs.Printing.{AreAlike}
use Rattle.verilog_net.proofs.Alike.{compiled_are_kept}
use Rattle.vcd_text.specs.Dump.{dump_text}
use Rattle.vcd_text.specs.Waves.{dump_of}
use Rattle.vcd_write.specs.Run.{node_variable, output_variable, value_in, waves_text}
use Rattle.trim_core.specs.KeptNet.{kept_net}
use Rattle.wave_net.specs.Waves.{CompiledWavesAreKept}

-- what is known of the nodes behind the first
behind : (f g : ℕ → ℕ) (k : ℕ) (n : Shape) (ns : List Shape) → ((i : ℕ) → is_register (shape_at (n ∷ ns) i) ≡ true → f (k + i) ≡ g (k + i)) → (i : ℕ) → is_register (shape_at ns i) ≡ true → f (k + 1 + i) ≡ g (k + 1 + i)
behind f g k n ns h i e = subst (λ (j : ℕ). f j ≡ g j) (omega arith) (h (suc i) e)

-- what two functions give for the registers among nodes, where they agree on these
sources_from : (f g : ℕ → ℕ) (k : ℕ) (ns : List Shape) → ((i : ℕ) → is_register (shape_at ns i) ≡ true → f (k + i) ≡ g (k + i)) → map f (numbers_from k ns) ≡ map g (numbers_from k ns)
sources_from f g k [] h = refl
sources_from f g k (Fixed b ∷ ns) h = sources_from f g (k + 1) ns (behind f g k (Fixed b) ns h)
sources_from f g k (TopInput name width ∷ ns) h = sources_from f g (k + 1) ns (behind f g k (TopInput name width) ns h)
sources_from f g k (Register instance name start ∷ ns) h =
    ap₂ (λ (x : ℕ) (xs : List ℕ). x ∷ xs) (subst (λ (i : ℕ). f i ≡ g i) (omega arith) (h 0 refl)) (sources_from f g (k + 1) ns (behind f g k (Register instance name start) ns h))
sources_from f g k (OfOne op a ∷ ns) h = sources_from f g (k + 1) ns (behind f g k (OfOne op a) ns h)
sources_from f g k (OfTwo op a b ∷ ns) h = sources_from f g (k + 1) ns (behind f g k (OfTwo op a b) ns h)
sources_from f g k (OfMux c a b ∷ ns) h = sources_from f g (k + 1) ns (behind f g k (OfMux c a b) ns h)

module _ (v w : NetParts) (s : Stimulus) (alike : AreAlike v w) where
  sources_same : sources_of v ≡ sources_of w
  sources_same =
      sources_from (next_node v.nexts) (next_node w.nexts) 0 v.nodes (λ i e. subst (λ (j : ℕ). next_node v.nexts j ≡ next_node w.nexts j) (omega arith) (alike.nexts i e))
      ∙ ap (λ (ns : List Shape). map (next_node w.nexts) (numbers_from 0 ns)) alike.nodes

  inputs_same : (t : ℕ) → inputs_in v s t ≡ inputs_in w s t
  inputs_same t = ap (λ (ns : List Shape). map (value_beside (zip (port_origins s.ports.inputs) (slice_index_or s.rows t []))) (inputs_of ns)) alike.nodes

  registers_same : (t : ℕ) → registers_in v s t ≡ registers_in w s t
  unfolding registers_in
  registers_same zero = ap starts_of alike.nodes
  registers_same (suc t) = λ k. map (node_value (alike.nodes k) (inputs_same t k) (registers_same t k)) (sources_same k)

  pub value_same : (t n : ℕ) → value_in v s t n ≡ value_in w s t n
  value_same t n = λ k. node_value (alike.nodes k) (inputs_same t k) (registers_same t k) n

  pub waves_same : waves_text v s ≡ waves_text w s
  unfolding waves_text
  waves_same = λ k. dump_text (dump_of (record {
    scope = s.ports.module;
    variables = map (node_variable (alike.nodes k)) (from 0 (length (alike.nodes k))) ++ map (output_variable (alike.nodes k)) (alike.outputs k);
    cycles = length s.rows;
    row = λ t. map (node_value (alike.nodes k) (inputs_same t k) (registers_same t k)) (from 0 (length (alike.nodes k)) ++ map (λ (output : List ℕ × ℕ). output.1) (alike.outputs k));
  }))

pub compiled_waves : CompiledWavesAreKept
compiled_waves d n mode net s sound kept = waves_same net (kept_net d n mode) s (compiled_are_kept d n mode net sound kept)
