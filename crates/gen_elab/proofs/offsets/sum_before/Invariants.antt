use Rattle.std.proofs.Common.{◌≡◌, ◌+◌, ◌++◌, take, drop}
use Rattle.gen_elab.specs.Offsets.{total, prefix_sums}
use Rattle.gen_elab.proofs.offsets.sum_before.Given as goal

-- those so far are done, and those that are left go on from here
abbrev pub invariant-loop-index : goal.invariant-loop-index
invariant-loop-index l = record {
  sums : take l.index l.numbers ++ prefix_sums l.next (drop l.index l.numbers) ≡ prefix_sums 0 l.initial.numbers;
  next : l.next + total (drop l.index l.numbers) ≡ total l.initial.numbers;
}
