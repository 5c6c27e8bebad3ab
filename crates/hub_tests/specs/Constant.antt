-- One node, whose sample is the same in every cycle.
use Rattle.std.specs.Prelude.{ℕ}
use Rattle.bv_core.specs.declared.reference.Sample.{Sample}
use Rattle.trace_core.specs.Samples.{Samples}

abbrev pub constant : ℕ → Sample → Samples
constant cycles one = record { cycles = cycles; nodes = 1; sample = λ t n. one }
