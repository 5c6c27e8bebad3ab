use Rattle.std.proofs.Common.{◌≡◌, drop, map}
use Rattle.symtab_json.specs.Places.{are_apart, are_new}
use Rattle.symtab_json.proofs.judged.are_apart.Given as goal

-- the names that are left decide
abbrev pub invariant-loop-item : goal.invariant-loop-item
invariant-loop-item g l =
    are_new l.names (map (λ item. g.T.Named.name_of item) (drop l.item-index l.items)) ≡ are_apart (map (λ item. g.T.Named.name_of item) l.items)
