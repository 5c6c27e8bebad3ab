use Rattle.std.proofs.Common.{◌≡◌, drop}
use Rattle.symtab_json.specs.Judged.{are_full}
use Rattle.symtab_json.specs.Places.{times_counted}
use Rattle.symtab_json.proofs.judged.are_full.Given as goal

-- the slots that are left decide
abbrev pub invariant-loop-slot : goal.invariant-loop-slot
invariant-loop-slot l = are_full l.variants (times_counted l.counts) (drop l.slot-index l.slots) ≡ are_full l.variants (times_counted l.counts) l.slots
