-- The samples of a text that was written by hand: nested scopes, short vectors, an x, two rises of the clock.
use Rattle.std.specs.Prelude.{◌≡◌, ℕ, List, [], ◌∷◌, codes}
use Rattle.bv_core.specs.declared.reference.Sample.{Sample}
use Rattle.bv_core.specs.declared.reference.Sample.TheVariants.{Known, Unknown}
use Rattle.trace_core.specs.Samples.{Samples}
use Rattle.vcd_read.specs.Examples.{told}
use Rattle.vcd_samples.specs.Samples.{value_of, rises, samples_told}

abbrev pub known : ℕ → ℕ → Sample
known width number = Known (record { width = width; value = number })

abbrev pub samples : Samples
samples = samples_told told (codes "tb.dut") (codes "en" ∷ codes "d" ∷ codes "_1" ∷ codes "_4" ∷ codes "_5" ∷ [])

-- the clock rises at 3 and at 9: what changes there shows in the next cycle alone; a name that is not declared is not known
pub record IsRead : Type 0 where
  pub times : rises told (codes "tb.dut") ≡ 3 ∷ 9 ∷ []
  pub cycle_count : samples.cycles ≡ 2
  pub enable_first : samples.sample 0 0 ≡ Unknown
  pub enable_then : samples.sample 1 0 ≡ known 1 1
  pub data_first : samples.sample 0 1 ≡ Unknown
  pub data_then : samples.sample 1 1 ≡ known 8 5
  pub register_first : samples.sample 0 2 ≡ known 8 0
  pub register_then : samples.sample 1 2 ≡ known 8 0
  pub node_then : samples.sample 1 3 ≡ known 8 15
  pub not_declared : samples.sample 1 4 ≡ Unknown
  pub no_scope : rises told (codes "tb") ≡ []
  pub extended_by_x : value_of 8 (codes "x1") ≡ Unknown
  pub too_wide : value_of 129 (codes "1") ≡ Unknown
