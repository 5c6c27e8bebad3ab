-- One node, whose sample is the same in every cycle, or in every cycle but one.
use Rattle.std.specs.Prelude.{ℕ, ◌==◌, if◌then◌else◌}
use Rattle.bv_core.specs.declared.reference.Sample.{Sample}
use Rattle.trace_core.specs.Samples.{Samples}

abbrev pub constant : ℕ → Sample → Samples
constant cycles one = record { cycles = cycles; nodes = 1; sample = λ t n. one }

abbrev pub once : ℕ → ℕ → Sample → Sample → Samples
once cycles last off on = record { cycles = cycles; nodes = 1; sample = λ t n. if t == last then on else off }
