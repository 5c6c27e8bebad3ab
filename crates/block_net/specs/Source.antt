-- The statements of the code as statements that execute.
use Rattle.std.specs.Prelude.{Bool, List, Option, Vec, map}
use Rattle.exec_core.specs.Block as blocks
use Rattle.exec_core.specs.Cases as cases
use Rattle.design_core.specs.declared.expr.Expr as code_expr
use Rattle.design_core.specs.declared.statement.Arm as code_arm
use Rattle.design_core.specs.declared.statement.Stmt as code_stmt
use Rattle.design_core.specs.View as view
use Rattle.design_exec.specs.Processes as processes

abbrev pub expr_in : code_expr.Expr → blocks.Expr
expr_in e = processes.tree_of (view.expr_of e)

abbrev pub stmt_in : Bool → code_stmt.Stmt → blocks.Stmt
stmt_in clocked s = processes.stmt_of clocked (view.stmt_of s)

abbrev pub body_in : Bool → List code_stmt.Stmt → blocks.Body
body_in clocked stmts = processes.body_of clocked (view.body_of stmts)

abbrev pub else_in : {A : Type 0} → Bool → Option (Vec code_stmt.Stmt A) → blocks.Body
else_in clocked rest = processes.else_of clocked (view.else_of rest)

abbrev pub arm_in : Bool → code_arm.Arm → cases.Arm
arm_in clocked a = record { tests = map processes.value_of a.tests.items; body = body_in clocked a.body.items }

abbrev pub arms_in : Bool → List code_arm.Arm → List cases.Arm
arms_in clocked arms = processes.arms_of clocked (view.arms_of arms)
