-- Laws of walks.
use Rattle.std.specs.Prelude.{◌≡◌, ℕ, List, []}
use Rattle.gen_tree.specs.Tree.{Module}
use Rattle.elab_core.specs.Walk.{none_seen, judge}
use Rattle.exec_core.specs.Block.{Name}
use Rattle.design_core.specs.Design.{Gens}
use Rattle.elab_core.specs.Numbers.{AreInRange}
use Rattle.elab_core.specs.Elab.{top_walk}
use Rattle.elab_core.specs.Closed.{closed_top, NestBelow}
use Rattle.elab_core.specs.Events.{events, first_fault, fault_in}

-- the fault of a walk is that of the first of its events that has one
abbrev pub IsFirstFault : List Module → Name → Gens → Type 0
IsFirstFault modules top rest =
    fault_in (judge none_seen (top_walk modules top rest)) ≡ first_fault [] (events (top_walk modules top rest))

-- elaboration is substitution: loops are their bodies with the variable replaced by each number, and a module is its body with
-- the parameters replaced
abbrev pub IsSubstitution : ℕ → List Module → Name → Gens → Type 0
IsSubstitution depth modules top rest =
    NestBelow depth modules → AreInRange rest → top_walk modules top rest ≡ closed_top depth modules top rest
