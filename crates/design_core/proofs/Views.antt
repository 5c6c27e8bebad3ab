-- What the designs that the code makes stand for.
use Rattle.std.proofs.Common.{◌≡◌, ℕ, ℤ, Option, Some, None, Vec, Global, refl, sym, ap, ap₂, ◌∙◌}
use Rattle.design_core.specs.declared.expr.Expr as code_expr
use Rattle.design_core.specs.declared.statement.Stmt as code_stmt
use Rattle.design_core.specs.declared.statement.Stmt.TheBlock.{hidden-the_row-Stmt-0, hidden-the_row-Arm-1}
use Rattle.design_core.specs.declared.statement.Stmt.TheVariants as code_stmts
use Rattle.design_core.specs.declared.statement.Arm as code_arm
use Rattle.exec_core.specs.Block.{Name}
use Rattle.design_core.specs.Design.{Gens, Assign, Let, If, Case, Body, Then, NoElse, Otherwise, Arms, ThenArm}
use Rattle.design_core.specs.View.{expr_of, stmt_of, row_of, arms_row, held_of, body_of, arms_of, else_of}

row_items : {n : _} (k : code_stmt.Row_of-Stmt n) → row_of k ≡ body_of (code_stmt.items-the_row-Stmt n k)
unfolding row_of
row_items code_stmt.end_of-Stmt = refl
row_items (code_stmt.more_of-Stmt s rest) = ap (Then (stmt_of s)) (row_items rest)

hidden_items : (v : Vec code_stmt.Stmt Global) → row_of (hidden-the_row-Stmt-0 v) ≡ body_of v.items
hidden_items v = row_items (hidden-the_row-Stmt-0 v) ∙ ap body_of (code_stmt.items_hidden-the_row-Stmt-0 v)

arm_items : {n : _} (k : code_stmt.Row_of-Arm n) → arms_row k ≡ arms_of (code_stmt.items-the_row-Arm n k)
unfolding arms_row
arm_items code_stmt.end_of-Arm = refl
arm_items (code_stmt.more_of-Arm tests shape row rest) =
    ap₂ (λ (body : Body) (arms : Arms). ThenArm tests.items body arms) (row_items row ∙ ap body_of (sym (code_stmt.items_shown-the_row-Stmt-0 shape row))) (arm_items rest)

hidden_arms : (v : Vec code_arm.Arm Global) → arms_row (hidden-the_row-Arm-1 v) ≡ arms_of v.items
hidden_arms v = arm_items (hidden-the_row-Arm-1 v) ∙ ap arms_of (code_stmt.items_hidden-the_row-Arm-1 v)

pub stmt_assign : (slot line : ℕ) (gens : Gens) (x : Name) (part : Option (ℤ × ℤ)) (e : code_expr.Expr)
    → stmt_of (code_stmts.Assign slot line gens x part e) ≡ Assign slot line gens x part (expr_of e)
unfolding stmt_of
stmt_assign slot line gens x part e = refl

pub stmt_let : (slot line : ℕ) (gens : Gens) (x : Name) (e : code_expr.Expr)
    → stmt_of (code_stmts.Let slot line gens x e) ≡ Let slot line gens x (expr_of e)
unfolding stmt_of
stmt_let slot line gens x e = refl

pub stmt_if : (slot line : ℕ) (gens : Gens) (c : code_expr.Expr) (a : Vec code_stmt.Stmt Global) (b : Option (Vec code_stmt.Stmt Global))
    → stmt_of (code_stmts.If slot line gens c a b) ≡ If slot line gens (expr_of c) (body_of a.items) (else_of b)
unfolding stmt_of held_of
stmt_if slot line gens c a None = ap (λ s. If slot line gens (expr_of c) s NoElse) (hidden_items a)
stmt_if slot line gens c a (Some b) = ap₂ (λ s t. If slot line gens (expr_of c) s (Otherwise t)) (hidden_items a) (hidden_items b)

pub stmt_case : (slot line : ℕ) (gens : Gens) (v : code_expr.Expr) (a : Vec code_arm.Arm Global) (b : Option (Vec code_stmt.Stmt Global))
    → stmt_of (code_stmts.Case slot line gens v a b) ≡ Case slot line gens (expr_of v) (arms_of a.items) (else_of b)
unfolding stmt_of held_of
stmt_case slot line gens v a None = ap (λ s. Case slot line gens (expr_of v) s NoElse) (hidden_arms a)
stmt_case slot line gens v a (Some b) = ap₂ (λ s t. Case slot line gens (expr_of v) s (Otherwise t)) (hidden_arms a) (hidden_items b)

-- each statement of the code stands for one
pub ruleset design_views = (stmt_assign, stmt_let, stmt_if, stmt_case)
