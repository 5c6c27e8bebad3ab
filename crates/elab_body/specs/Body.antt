-- The statements that a block has so far, and the steps of the walk over statements.
use Rattle.std.specs.Prelude.{ℕ, ℤ, Bool, true, false, List, [], Option, Vec}
use Rattle.std.specs.Global.{Global}
use Rattle.gen_tree.specs.Tree.{Int, Fam, Lit, Stmts, no_stmt, no_else, otherwise, assign, bind, choose, select, repeat, given}
use Rattle.gen_tree.specs.Tree as tree
use Rattle.elab_core.specs.declared.Count.TheVariants.{Statements, Turns}
use Rattle.elab_core.specs.Walk.{Walk, Gives, ◌>>=◌, counts}
use Rattle.elab_core.specs.Numbers.{bound, fam_name}
use Rattle.elab_core.specs.Elab.{expr, literals, part_bounds, statements, arm_bodies, else_body}
use Rattle.design_core.specs.declared.Stmt as code_stmt
use Rattle.design_core.specs.declared.Literal.{Literal}
use Rattle.exec_core.specs.Block.{Name}
use Rattle.design_core.specs.Design.{Gens, Expr, Body, Done, Else, arms_from}
use Rattle.design_core.specs.Design as design
use Rattle.design_core.specs.View.{body_of}

-- a statement that stands for none of its own: those of its turns, or of one of its branches, stand there
abbrev pub is_generated : tree.Stmt → Bool
is_generated (assign line f p e) = false
is_generated (bind line f e) = false
is_generated (choose line c first second) = false
is_generated (select line v all other) = false
is_generated (repeat line x from to body) = true
is_generated (given line left cmp right first second) = true

-- what a list of statements is
unfoldable pub made_of : Vec code_stmt.Stmt Global → Body
made_of made = body_of made.items

-- an assignment as it is elaborated
unfoldable pub assigned : ℕ → Gens → Fam → Option (Int × Int) → tree.Expr → Walk design.Stmt
assigned line gens f p e = do
  counted ← counts Statements line
  x ← fam_name line gens f
  part ← part_bounds line gens p
  v ← expr line gens e
  Gives (design.Assign 0 line gens x part v)

-- a `let` as it is elaborated
unfoldable pub bound_let : ℕ → Gens → Fam → tree.Expr → Walk design.Stmt
bound_let line gens f e = do
  counted ← counts Statements line
  x ← fam_name line gens f
  v ← expr line gens e
  Gives (design.Let 0 line gens x v)

-- the count of an `if` or a `case`, and its condition or value
unfoldable pub tested : ℕ → Gens → tree.Expr → Walk Expr
tested line gens c = do
  counted ← counts Statements line
  expr line gens c

-- the branches of an `if`
unfoldable pub branches : Stmts → tree.Else → Gens → Walk (Body × Else)
branches first second gens = do
  yes_body ← statements first gens Done
  no_body ← else_body second gens
  Gives (yes_body, no_body)

-- an `if` as it is elaborated
unfoldable pub chosen : ℕ → Gens → tree.Expr → Stmts → tree.Else → Walk design.Stmt
chosen line gens c first second = do
  test ← tested line gens c
  both ← branches first second gens
  Gives (design.If 0 line gens test both.0 both.1)

-- an arm of a `case` as it is elaborated
unfoldable pub one_arm : ℕ → List Lit → Stmts → Gens → Walk (List Literal × Body)
one_arm line tests body gens = do
  ls ← literals line gens tests []
  b ← statements body gens Done
  Gives (ls, b)

-- the arms of a `case`, and its default
unfoldable pub cases : ℕ → tree.Arms → tree.Else → Gens → Walk (List (List Literal × Body) × Else)
cases line all other gens = do
  made ← arm_bodies line all gens []
  last ← else_body other gens
  Gives (made, last)

-- a `case` as it is elaborated
unfoldable pub selected : ℕ → Gens → tree.Expr → tree.Arms → tree.Else → Walk design.Stmt
selected line gens v all other = do
  value ← tested line gens v
  both ← cases line all other gens
  Gives (design.Case 0 line gens value (arms_from both.0) both.1)

-- a turn of a loop, with the names inside
unfoldable pub turn : ℕ → Stmts → Gens → Body → Walk Body
turn line body inner made = do
  counted ← counts Turns line
  statements body inner made

-- what a turn gives, by its number
unfoldable pub in_turn : Stmts → Name → Gens → ℤ → Body → Walk Body
in_turn body x gens k made = statements body (bound x k gens) made

-- the statements of an `else`
abbrev pub else_stmts : tree.Else → Stmts
else_stmts no_else = no_stmt
else_stmts (otherwise body) = body
