use Rattle.symtab.proofs.Apart.{AreFront}
use Rattle.symtab.proofs.named.distinct_names.Given as goal

abbrev pub invariant-loop-item : goal.invariant-loop-item
invariant-loop-item g l = AreFront (λ item. g.T.Named.name_of item) l.items l.item-index l.names
