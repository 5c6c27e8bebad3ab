use Rattle.std.proofs.Common.{◌≡◌}
use Rattle.demo_run.specs.Chain.{chain_stimulus}
use Rattle.demo_run.proofs.chain.chain_stimulus.Given as goal

-- the rows so far
abbrev pub invariant-loop-row : goal.invariant-loop-row
invariant-loop-row l = l.text.items ≡ chain_stimulus l.row
