-- The arms of a `case` that were walked through: what each of them leaves, and the keys of each with all that comes after it.
use Rattle.std.specs.Prelude.{◌≡◌, ℕ, ◌≤◌, List, [], ◌∷◌, length, take, Option}
use Rattle.tree_core.specs.Tree.{Tree}
use Rattle.exec_core.specs.Block.{Name, Body, body_assigns}
use Rattle.exec_core.specs.Cases.{Arm}
use Rattle.exec_core.specs.Exec.{State}
use Rattle.exec_core.specs.Trees.{body_trees_after}
use Rattle.block_net.specs.declared.arms.ArmEnd.{ArmEnd}
use Rattle.block_net.specs.declared.key.Key as code_key
use Rattle.block_net.specs.declared.order.Order.{Order}
use Rattle.block_net.specs.declared.term.Term.{Term}
use Rattle.block_net.specs.Terms.{Stands}
use Rattle.block_net.specs.Cases.{arm_test, arms_assign}
use Rattle.block_net.specs.Walks.{Bind, among, either, keys_of}

-- the keys that each arm and what comes after it assign are so many of these, from the first on
abbrev pub AreCounts : List code_key.Key → List Arm → Body → List ℕ → Type 0
AreCounts keys [] other [] = Unit {0}
AreCounts keys [] other (n ∷ counts) = ⊥
AreCounts keys (arm ∷ arms) other [] = ⊥
AreCounts keys (arm ∷ arms) other (n ∷ counts) =
    (n ≤ length keys) × (among (take n keys) ≡ arms_assign (arm ∷ arms) other) × AreCounts keys arms other counts

abbrev pub IsOrder : List Arm → Body → Order → Type 0
IsOrder arms other o = AreCounts o.keys.items arms other o.counts.items

-- an arm's condition, and what the keys of it and of what comes after it hold at its end, where each key held this before it
pub record ArmEnds (ns : List Term) (width : Name → ℕ) (value : Option (Tree Name)) (trees : State (Tree Name)) (arm : Arm) (arms : List Arm) (other : Body) (end : ArmEnd) : Type 0 where
  pub test : Stands ns end.test (arm_test value arm.tests)
  pub keys : among (keys_of end.firsts.items) ≡ either (body_assigns arm.body) (arms_assign arms other)
  pub bind : Bind ns (body_trees_after width arm.body trees) end.firsts.items

-- that of the first arms
abbrev pub AllEnd : List Term → (Name → ℕ) → Option (Tree Name) → State (Tree Name) → List Arm → Body → List ArmEnd → Type 0
AllEnd ns width value trees arms other [] = Unit {0}
AllEnd ns width value trees [] other (e ∷ ends) = ⊥
AllEnd ns width value trees (arm ∷ arms) other (e ∷ ends) = ArmEnds ns width value trees arm arms other e × AllEnd ns width value trees arms other ends
