-- What was walked through: the branches of an `if`, the arms of a `case`, and how the ends of these are joined.
use Rattle.std.specs.Prelude.{◌≡◌, ℕ, false, ◌||◌, List, [], ◌∷◌, ◌++◌, length, Option, Some}
use Rattle.bv_core.specs.Operators.{flag_of}
use Rattle.tree_core.specs.Tree.{Tree, Const}
use Rattle.exec_core.specs.Block.{Name, Body, body_assigns}
use Rattle.exec_core.specs.Cases.{Arm}
use Rattle.exec_core.specs.Exec.{State}
use Rattle.exec_core.specs.Trees.{Row, then_enable, else_enable, merged, body_rows, body_trees_after}
use Rattle.block_net.specs.declared.arms.ArmEnd.{ArmEnd}
use Rattle.block_net.specs.declared.term.Term.{Term}
use Rattle.block_net.specs.declared.walk.Walk.{Walk}
use Rattle.block_net.specs.Terms.{IsWithin, tree_for}
use Rattle.block_net.specs.Arms.{AllEnd}
use Rattle.block_net.specs.Cases.{arms_rows, arms_after}
use Rattle.block_net.specs.Walks.{Bind, HaveTerms, Walked, among, chosen, keys_of, overlay, state_of}

-- of both branches of an `if` with this condition: the rows, and what each key holds afterwards
abbrev pub both_rows : (Name → ℕ) → Option (Tree Name) → Body → Body → Option (Tree Name) → State (Tree Name) → List Row
both_rows width test a b enable trees = body_rows width a (then_enable enable test) trees ++ body_rows width b (else_enable enable test) trees

abbrev pub both_after : (Name → ℕ) → Option (Tree Name) → Body → Body → State (Tree Name) → State (Tree Name)
both_after width test a b trees = λ y. merged (body_assigns a y || body_assigns b y) test (body_trees_after width a trees y) (body_trees_after width b trees y) (trees y)

-- of a `case` whose value has this tree; one without arms is an `if` whose condition is never so
abbrev pub case_rows : (Name → ℕ) → Option (Tree Name) → List Arm → Body → Option (Tree Name) → State (Tree Name) → List Row
case_rows width value [] other enable trees = body_rows width other (else_enable enable (Some (Const (flag_of false)))) trees
case_rows width value (arm ∷ arms) other enable trees = arms_rows width value (arm ∷ arms) other enable trees

abbrev pub case_after : (Name → ℕ) → Option (Tree Name) → List Arm → Body → State (Tree Name) → State (Tree Name)
case_after width value [] other trees = λ y. merged (body_assigns other y) (Some (Const (flag_of false))) (trees y) (body_trees_after width other trees y) (trees y)
case_after width value (arm ∷ arms) other trees = arms_after width value (arm ∷ arms) other trees

-- the branches with this enable and condition were walked through
abbrev pub ThroughBoth : (Name → ℕ) → Option (Tree Name) → Option (Tree Name) → Body → Body → Walk → Walk → Type 0
ThroughBoth width enable test a b old new = Walked width old new (both_rows width test a b enable (state_of old)) (both_after width test a b (state_of old))

-- so was a `case` whose value has this tree
abbrev pub ThroughCase : (Name → ℕ) → Option (Tree Name) → Option (Tree Name) → List Arm → Body → Walk → Walk → Type 0
ThroughCase width enable value arms other old new = Walked width old new (case_rows width value arms other enable (state_of old)) (case_after width value arms other (state_of old))

-- so were its arms and its default, of which the last leaves what each key holds
abbrev pub ThroughArms : (Name → ℕ) → Option (Tree Name) → Option (Tree Name) → List Arm → Body → Walk → Walk → Type 0
ThroughArms width enable value arms other old new = Walked width old new (arms_rows width value arms other enable (state_of old)) (body_trees_after width other (state_of old))

-- the ends of arms have terms
abbrev pub EndsHaveTerms : List Term → List ArmEnd → Type 0
EndsHaveTerms ns [] = Unit {0}
EndsHaveTerms ns (e ∷ ends) = IsWithin ns e.test × HaveTerms ns e.firsts.items × EndsHaveTerms ns ends

-- the end of an arm is joined with what comes after it
abbrev pub JoinsArm : (Name → ℕ) → ArmEnd → Walk → Walk → Type 0
JoinsArm width end old new =
    (trees : State (Tree Name)) → Bind old.terms trees end.firsts.items
    → Walked width old new [] (overlay (among (keys_of end.firsts.items)) (chosen (tree_for old.terms end.test) trees (state_of old)) (state_of old))

-- the ends of all arms are joined, behind what the default leaves
abbrev pub JoinsArms : (Name → ℕ) → List ArmEnd → Walk → Walk → Type 0
JoinsArms width ends old new =
    (value : Option (Tree Name)) (trees : State (Tree Name)) (arms : List Arm) (other : Body) → AllEnd old.terms width value trees arms other ends → length ends ≡ length arms
    → state_of old ≡ body_trees_after width other trees
    → Walked width old new [] (arms_after width value arms other trees)
