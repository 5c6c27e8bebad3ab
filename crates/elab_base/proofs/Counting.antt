-- No count falls, and none goes past its limit, from one call to the next.
use Rattle.std.proofs.Common.{ℕ, arith}
use Rattle.elab_core.specs.declared.Count.{Count}
use Rattle.elab_core.specs.declared.Count.TheVariants.{Instances, Turns, Statements, Signals, Parts}
use Rattle.elab_base.specs.declared.met.Met.{Met}
use Rattle.elab_base.specs.Met.{CountUp, CountsUp}

one_same : (what : Count) (a : ℕ) → CountUp what a a
one_same what a = (omega arith, omega arith)

one_further : (what : Count) (a b c : ℕ) → CountUp what a b → CountUp what b c → CountUp what a c
one_further what a b c p q = (omega (arith, p.0, q.0), omega (arith, p.1, q.1))

pub same_counts : (met : Met) → CountsUp met met
unfolding CountsUp
same_counts met = (one_same Instances _, one_same Turns _, one_same Statements _, one_same Signals _, one_same Parts _)

pub counts_further : (a b c : Met) → CountsUp a b → CountsUp b c → CountsUp a c
unfolding CountsUp
counts_further a b c p q = (
  one_further Instances _ _ _ p.0 q.0,
  one_further Turns _ _ _ p.1 q.1,
  one_further Statements _ _ _ p.2 q.2,
  one_further Signals _ _ _ p.3 q.3,
  one_further Parts _ _ _ p.4 q.4,
)

pub ruleset count_steps = (same_counts, counts_further)
