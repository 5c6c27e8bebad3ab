use Rattle.vcd_read.specs.Buckets.{IsSought}
use Rattle.vcd_read.proofs.codes.find_from.Given as goal

-- the code is none behind the last
abbrev pub invariant-loop-last : goal.invariant-loop-last
invariant-loop-last l = IsSought l.texts l.rows l.code l.last

abbrev pub decreases-loop-last : goal.decreases-loop-last
decreases-loop-last l = l.last
