-- The parts of a design of the code, as parts of a design.
use Rattle.std.specs.Prelude.{List, Option, Some, None, Vec, map}
use Rattle.design_core.specs.declared.expr.Expr as code_expr
use Rattle.design_core.specs.declared.expr.Expr.TheVariants as exprs
use Rattle.design_core.specs.declared.statement.Stmt as code_stmt
use Rattle.design_core.specs.declared.statement.Stmt.TheVariants as code_stmts
use Rattle.design_core.specs.declared.statement.Arm as code_arm
use Rattle.design_core.specs.declared.expr.Literal.{Literal}
use Rattle.design_core.specs.declared.variant.Conn as code_conn
use Rattle.design_core.specs.declared.variant.Child as code_child
use Rattle.design_core.specs.declared.variant.Block as code_block
use Rattle.design_core.specs.declared.variant.Variant as code_variant
use Rattle.design_core.specs.Design.{Expr, Read, Out, Value, Unary, Binary, Mux, Zext, Slice, Stmt, Assign, Let, If, Case, Body, Done, Then, body, Else, NoElse, Otherwise, Arms, NoArms, ThenArm, arms_from, Conn, Child, Block, Variant}

abbrev pub expr_of : code_expr.Expr → Expr
expr_of (exprs.Read x) = Read x
expr_of (exprs.Out u q) = Out u q
expr_of (exprs.Value l) = Value l
expr_of (exprs.Un' o p e) = Unary o (expr_of e)
expr_of (exprs.Bin' o p a q b) = Binary o (expr_of a) (expr_of b)
expr_of (exprs.Mux' p c q a r b) = Mux (expr_of c) (expr_of a) (expr_of b)
expr_of (exprs.Zext' p e w) = Zext (expr_of e) w
expr_of (exprs.Slice' p e h l) = Slice (expr_of e) h l

unfoldable mutual
  pub stmt_of : code_stmt.Stmt → Stmt
  stmt_of (code_stmts.Assign slot line gens x part e) = Assign slot line gens x part (expr_of e)
  stmt_of (code_stmts.Let slot line gens x e) = Let slot line gens x (expr_of e)
  stmt_of (code_stmts.If' slot line gens c shape row rest) = If slot line gens (expr_of c) (row_of row) (held_of rest)
  stmt_of (code_stmts.Case' slot line gens v shape row rest) = Case slot line gens (expr_of v) (arms_row row) (held_of rest)

  pub row_of : {m : _} → code_stmt.Row_of-Stmt m → Body
  row_of code_stmt.end_of-Stmt = Done
  row_of (code_stmt.more_of-Stmt s rest) = Then (stmt_of s) (row_of rest)

  pub arms_row : {m : _} → code_stmt.Row_of-Arm m → Arms
  arms_row code_stmt.end_of-Arm = NoArms
  arms_row (code_stmt.more_of-Arm tests shape row rest) = ThenArm tests.items (row_of row) (arms_row rest)

  pub held_of : code_stmt.Held-Stmt-If-5 → Else
  held_of code_stmt.None' = NoElse
  held_of (code_stmt.Some' shape row) = Otherwise (row_of row)

-- statements, arms, and what an `else` or a default holds
abbrev pub body_of : List code_stmt.Stmt → Body
body_of all = body (map stmt_of all)

abbrev pub else_of : {A : Type 0} → Option (Vec code_stmt.Stmt A) → Else
else_of None = NoElse
else_of (Some v) = Otherwise (body_of v.items)

abbrev pub arm_of : code_arm.Arm → List Literal × Body
arm_of a = (a.tests.items, body_of a.body.items)

abbrev pub arms_of : List code_arm.Arm → Arms
arms_of all = arms_from (map arm_of all)

abbrev pub conn_of : code_conn.Conn → Conn
conn_of c = record { line = c.line; port = c.port; value = expr_of c.value }

abbrev pub child_of : code_child.Child → Child
child_of c = record { line = c.line; name = c.name; variant = c.variant; conns = map conn_of c.conns.items }

abbrev pub block_of : code_block.Block → Block
block_of b = record { line = b.line; clocked = b.clocked; body = body_of b.body.items }

abbrev pub variant_of : code_variant.Variant → Variant
variant_of v = record {
  «module» = v.module;
  params = v.params;
  signals = v.signals;
  children = map child_of v.children.items;
  blocks = map block_of v.blocks.items;
}
