use Rattle.std.proofs.Common.{◌≡◌, map}
use Rattle.names.specs.Known.{Begins, both, either, has}
use Rattle.names.proofs.set.NameSet.insert_common.Given as goal

-- what was put in and what is left give what all give
abbrev pub invariant-loop-name : goal.invariant-loop-name
invariant-loop-name l = record {
  known : either (has l.self) (both (has (map (λ name. name.items) l.name-iterator)) (has l.second)) ≡ either (has l.initial.self) (both (has l.first) (has l.second));
  before : Begins l.initial.self l.self;
}
