-- The arms of a `case`, by the tree of its value: their conditions, the keys that they assign, their rows, and what they leave.
use Rattle.std.specs.Prelude.{ℕ, Bool, false, ◌||◌, List, [], ◌∷◌, ◌++◌, Option, Some}
use Rattle.bv_core.specs.Value.{Bits}
use Rattle.bv_core.specs.Operators.{flag_of}
use Rattle.bv_core.specs.declared.operators.Op2.TheVariants.{Eq, Or}
use Rattle.tree_core.specs.Tree.{Tree, Const, Two}
use Rattle.exec_core.specs.Block.{Name, Key, Body, body_assigns}
use Rattle.exec_core.specs.Cases.{Arm}
use Rattle.exec_core.specs.Exec.{State, on_two}
use Rattle.exec_core.specs.Trees.{Row, then_enable, else_enable, merged, body_rows, body_trees_after}

-- the value is a literal; and a condition with more of these
abbrev pub literal_is : Option (Tree Name) → Bits → Option (Tree Name)
literal_is value l = on_two (Two Eq) value (Some (Const l))

abbrev pub or_literals : Option (Tree Name) → Option (Tree Name) → List Bits → Option (Tree Name)
or_literals test value [] = test
or_literals test value (l ∷ ls) = or_literals (on_two (Two Or) test (literal_is value l)) value ls

abbrev pub arm_test : Option (Tree Name) → List Bits → Option (Tree Name)
arm_test value [] = Some (Const (flag_of false))
arm_test value (l ∷ ls) = or_literals (literal_is value l) value ls

-- the keys that arms and a default assign
abbrev pub arms_assign : List Arm → Body → Key → Bool
arms_assign [] other y = body_assigns other y
arms_assign (arm ∷ arms) other y = body_assigns arm.body y || arms_assign arms other y

-- the rows, arm by arm
abbrev pub arms_rows : (Name → ℕ) → Option (Tree Name) → List Arm → Body → Option (Tree Name) → State (Tree Name) → List Row
arms_rows width value [] other enable trees = body_rows width other enable trees
arms_rows width value (arm ∷ arms) other enable trees =
    body_rows width arm.body (then_enable enable (arm_test value arm.tests)) trees
    ++ arms_rows width value arms other (else_enable enable (arm_test value arm.tests)) trees

-- what each key holds afterwards: a choice by the first arm's condition, whose other side is what the arms after it leave
abbrev pub arms_after : (Name → ℕ) → Option (Tree Name) → List Arm → Body → State (Tree Name) → State (Tree Name)
arms_after width value [] other trees = body_trees_after width other trees
arms_after width value (arm ∷ arms) other trees =
    λ y.
    merged (body_assigns arm.body y || arms_assign arms other y) (arm_test value arm.tests) (body_trees_after width arm.body trees y) (arms_after width value arms other trees y)
    (trees y)
