use Rattle.std.proofs.Common.{◌≡◌, ◌++◌, ◌<◌, ◌^◌, map}
use Rattle.std.specs.List.{AllByRecursion}
use Rattle.symtab_json.specs.Judged.{slot_parts}
use Rattle.symtab_json.proofs.numbers.slot_parts.Given as goal

-- the parts so far, and those of what is left, are all; what is left is small
abbrev pub invariant-loop-slot : goal.invariant-loop-slot
invariant-loop-slot l =
    (l.parts.items ++ map slot_parts l.slot-iterator.rest.items ≡ map slot_parts l.fn.slots.items)
    × AllByRecursion (λ slot. slot.variant < 2 ^ 32) l.slot-iterator.rest.items
