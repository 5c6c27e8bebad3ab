use Rattle.std.proofs.Common.{◌≡◌, drop}
use Rattle.bit_sets.specs.BitSets.{joined, set_of}
use Rattle.check_paths.specs.Frames.{bits_at, seen}
use Rattle.check_paths.proofs.frames.seen_bits.Given as goal

-- those so far and those of what is left are all
abbrev pub invariant-loop-frame : goal.invariant-loop-frame
invariant-loop-frame l = joined (set_of l.set) (bits_at (seen (drop l.frame-index l.outer)) l.name) ≡ bits_at (seen l.outer) l.name
