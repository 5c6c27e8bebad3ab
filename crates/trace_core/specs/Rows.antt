-- Samples as rows, one for each cycle.
use Rattle.std.specs.Prelude.{ℕ, List, length, Option, Some, None, slice_get}
use Rattle.bv_core.specs.declared.reference.Sample.{Sample}
use Rattle.bv_core.specs.declared.reference.Sample.TheVariants.{Unknown}
use Rattle.trace_core.specs.Samples.{Samples}

-- a trace in memory: a row of samples for each cycle, one for each node, and the cycle at which its cursor stands
pub record TraceInMemory : Type 0 where
  pub rows : List (List Sample)
  pub nodes : ℕ
  pub cursor : Option ℕ

abbrev pub sample_or : Option Sample → Sample
sample_or (Some sample) = sample
sample_or None = Unknown

abbrev pub sample_of : Option (List Sample) → ℕ → Sample
sample_of (Some row) node = sample_or (slice_get row node)
sample_of None node = Unknown

-- the samples of rows
abbrev pub samples_of : List (List Sample) → ℕ → Samples
samples_of rows nodes = record { cycles = length rows; nodes = nodes; sample = λ cycle node. sample_of (slice_get rows cycle) node }
