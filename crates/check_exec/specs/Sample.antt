-- A design of two instances, worked by hand: a register, a child with an input and an output, a `let`, an `if` and an `ff`.
use Rattle.design_exec.specs.Sample.{elaborated}
use Rattle.check_exec.specs.Premises.{IsSound}

-- it is well formed, and no check refuses it
abbrev pub SampleIsSound : Type 0
SampleIsSound = IsSound elaborated
