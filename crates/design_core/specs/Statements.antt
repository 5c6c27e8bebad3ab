-- The statements of a body, one after another.
use Rattle.std.specs.Prelude.{List, [], ◌∷◌, ◌++◌, map}
use Rattle.std.specs.Borrow.{Bor}
use Rattle.design_core.specs.declared.statement.Stmt as code_stmt
use Rattle.design_core.specs.View.{stmt_of}
use Rattle.design_core.specs.Design.{Stmt, Assign, Let, If, Case, Body, Done, Then, Else, NoElse, Otherwise, Arms, NoArms, ThenArm}

-- in preorder, with those inside others: of a `case` those of its arms in order, then those of its default
abbrev mutual
  pub inside : Stmt → List Stmt
  inside (Assign slot line gens x part e) = []
  inside (Let slot line gens x e) = []
  inside (If slot line gens c first second) = statements first ++ else_statements second
  inside (Case slot line gens v arms other) = arms_statements arms ++ else_statements other

  pub statements : Body → List Stmt
  statements Done = []
  statements (Then s rest) = s ∷ (inside s ++ statements rest)

  pub else_statements : Else → List Stmt
  else_statements NoElse = []
  else_statements (Otherwise body) = statements body

  pub arms_statements : Arms → List Stmt
  arms_statements NoArms = []
  arms_statements (ThenArm tests body rest) = statements body ++ arms_statements rest

-- the code's statements, which stand elsewhere
abbrev pub stmt_at : Bor code_stmt.Stmt → Stmt
stmt_at s = stmt_of s.now

abbrev pub stmts_at : List (Bor code_stmt.Stmt) → List Stmt
stmts_at all = map stmt_at all
