use Rattle.std.proofs.Common.{◌≡◌, Option, [], drop}
use Rattle.bv_core.specs.declared.Binding as binding
use Rattle.cond_lang.specs.Names.{Name}
use Rattle.cond_lang.specs.Found.{Finds, found_after}
use Rattle.cond_lang.specs.Places.{AreRefs}
use Rattle.cond_lang.proofs.binding.refs_of.Given as goal

abbrev pub invariant-loop-name : goal.invariant-loop-name
invariant-loop-name g l =
    AreRefs l.refs.items
    × ((places : Name → Option binding.Binding) → Finds g.F.Fn l.find places l.names → found_after places l.refs.items (drop l.name-index l.names) ≡ found_after places [] l.names)
