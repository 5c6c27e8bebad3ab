-- The counter of 4 bits, over three rows.
use Rattle.std.specs.Prelude.{◌≡◌, true, [], ◌∷◌, codes, refl}
use Rattle.bv_core.specs.declared.reference.Sample.TheVariants.{Known}
use Rattle.gen_token.specs.Spelling.{is_name}
use Rattle.design_core.specs.declared.Ports.{Ports}
use Rattle.design_core.specs.Ports.{have_names}
use Rattle.trace_core.specs.Samples.{Samples}
use Rattle.stim_text.specs.Stimulus.{Stimulus}
use Rattle.sim_core.specs.Sample.{bits, counter}
use Rattle.sim_hist.specs.Run.{run_samples}

-- the names of its ports
pub counter_names : have_names (codes "Top") ((codes "d", 8) ∷ (codes "en", 1) ∷ []) ((codes "count", 4) ∷ []) ≡ true
unfolding is_name
counter_names = refl

-- its ports are more than its net's inputs
abbrev pub counter_ports : Ports
counter_ports = record {
  «module» = codes "Top";
  inputs = (codes "d", 8) ∷ (codes "en", 1) ∷ [];
  outputs = (codes "count", 4) ∷ [];
  registers = 1;
  widths = refl;
  names = counter_names;
}

-- it is enabled in the first row and in the last
abbrev pub three_rows : Stimulus
three_rows = record {
  ports = counter_ports;
  rows = (bits 8 7 ∷ bits 1 1 ∷ []) ∷ (bits 8 0 ∷ bits 1 0 ∷ []) ∷ (bits 8 1 ∷ bits 1 1 ∷ []) ∷ [];
}

abbrev pub counted : Samples
counted = run_samples counter three_rows

-- it counts after the first row, stays after the second, and its next value in the third is 0
pub record Traces : Type 0 where
  pub cycle_count : counted.cycles ≡ 3
  pub node_count : counted.nodes ≡ 5
  pub start : counted.sample 0 1 ≡ Known (bits 4 14)
  pub counts : counted.sample 1 1 ≡ Known (bits 4 15)
  pub stays : counted.sample 2 1 ≡ Known (bits 4 15)
  pub input : counted.sample 1 0 ≡ Known (bits 1 0)
  pub next : counted.sample 2 4 ≡ Known (bits 4 0)
