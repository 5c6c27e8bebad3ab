-- The trees of the code, as trees of the grammar.
use Rattle.std.specs.Prelude.{List, Option, Some, None, option_map, Vec, Box, map}
use Rattle.std.specs.Borrow.{Bor}
use Rattle.gen_tree.specs.declared.expr.Int as code_int
use Rattle.gen_tree.specs.declared.expr.Int.TheVariants as ints
use Rattle.gen_tree.specs.declared.expr.Fam as code_fam
use Rattle.gen_tree.specs.declared.expr.Lit as code_lit
use Rattle.gen_tree.specs.declared.expr.Lit.TheVariants as lits
use Rattle.gen_tree.specs.declared.expr.Expr as code_expr
use Rattle.gen_tree.specs.declared.expr.Expr.TheVariants as exprs
use Rattle.gen_tree.specs.declared.statement.Stmt as code_stmt
use Rattle.gen_tree.specs.declared.statement.Stmt.TheVariants as code_stmts
use Rattle.gen_tree.specs.declared.statement.Arm as code_arm
use Rattle.gen_tree.specs.declared.item.Param as code_param
use Rattle.gen_tree.specs.declared.item.Conn as code_conn
use Rattle.gen_tree.specs.declared.item.Item as code_item
use Rattle.gen_tree.specs.declared.item.Item.TheVariants as code_items
use Rattle.gen_tree.specs.declared.source.Port as code_port
use Rattle.gen_tree.specs.declared.source.Module as code_module
use Rattle.gen_tree.specs.declared.source.Import as code_import
use Rattle.gen_tree.specs.declared.source.Source as code_source
use Rattle.gen_tree.specs.Tree.{Int, num, var, bin, Fam, Lit, plain, bits, Expr, read, out, value, unary, binary, mux, zext, slice, Stmt, assign, bind, choose, select, repeat, given, Stmts, no_stmt, stmt, stmts, Else, no_else, otherwise, Arms, no_arm, arm, arms, Param, Conn, Item, wire, reg, inst, comb, ff, repeat_items, given_items, Items, no_item, item, items, ElseItems, no_else_items, otherwise_items, Port, Module, Import, Source}

abbrev pub int_of : code_int.Int → Int
int_of (ints.Num n) = num n
int_of (ints.Var x) = var x
int_of (ints.Bin' o p a q b) = bin o (int_of a) (int_of b)

abbrev pub fam_of : code_fam.Fam → Fam
fam_of f = record { name = f.name; index = option_map (λ i. int_of i.value) f.index }

abbrev pub lit_of : code_lit.Lit → Lit
lit_of (lits.Plain w v) = plain w v
lit_of (lits.Bits w v) = bits (int_of w.value) (int_of v.value)

abbrev pub expr_of : code_expr.Expr → Expr
expr_of (exprs.Read f) = read (fam_of f)
expr_of (exprs.Out f q) = out (fam_of f.value) q
expr_of (exprs.Value l) = value (lit_of l)
expr_of (exprs.Un' o p e) = unary o (expr_of e)
expr_of (exprs.Bin' o p a q b) = binary o (expr_of a) (expr_of b)
expr_of (exprs.Mux' p c q a r b) = mux (expr_of c) (expr_of a) (expr_of b)
expr_of (exprs.Zext' p e w) = zext (expr_of e) (int_of w)
expr_of (exprs.Slice' p e h l) = slice (expr_of e) (int_of h.value) (int_of l.value)

-- the bounds of a part
abbrev pub bounds_of : {A : Type 0} → Box code_int.Int A × Box code_int.Int A → Int × Int
bounds_of p = (int_of p.0.value, int_of p.1.value)

unfoldable mutual
  pub stmt_of : code_stmt.Stmt → Stmt
  stmt_of (code_stmts.Assign line f part e) = assign line (fam_of f) (option_map bounds_of part) (expr_of e)
  stmt_of (code_stmts.Let line f e) = bind line (fam_of f) (expr_of e)
  stmt_of (code_stmts.If' line c shape row rest) = choose line (expr_of c) (row_of row) (held_of rest)
  stmt_of (code_stmts.Case' line v shape row rest) = select line (expr_of v) (arms_row row) (held_of rest)
  stmt_of (code_stmts.For' line x a b shape row) = repeat line x (int_of a) (int_of b) (row_of row)
  stmt_of (code_stmts.GenIf' line a c b shape row rest) = given line (int_of a) c (int_of b) (row_of row) (held_of rest)

  pub row_of : {m : _} → code_stmt.Row_of-Stmt m → Stmts
  row_of code_stmt.end_of-Stmt = no_stmt
  row_of (code_stmt.more_of-Stmt s rest) = stmt (stmt_of s) (row_of rest)

  pub arms_row : {m : _} → code_stmt.Row_of-Arm m → Arms
  arms_row code_stmt.end_of-Arm = no_arm
  arms_row (code_stmt.more_of-Arm tests shape row rest) = arm (map lit_of tests.items) (row_of row) (arms_row rest)

  pub held_of : code_stmt.Held-Stmt-If-3 → Else
  held_of code_stmt.None' = no_else
  held_of (code_stmt.Some' shape row) = otherwise (row_of row)

-- statements, arms, and what an `else` or a `default` holds
abbrev pub stmts_of : List code_stmt.Stmt → Stmts
stmts_of all = stmts (map stmt_of all)

abbrev pub else_of : {A : Type 0} → Option (Vec code_stmt.Stmt A) → Else
else_of None = no_else
else_of (Some v) = otherwise (stmts_of v.items)

abbrev pub arm_of : code_arm.Arm → List Lit × Stmts
arm_of a = (map lit_of a.tests.items, stmts_of a.body.items)

abbrev pub arms_of : List code_arm.Arm → Arms
arms_of all = arms (map arm_of all)

abbrev pub param_of : code_param.Param → Param
param_of p = record { name = p.name; value = int_of p.value }

abbrev pub conn_of : code_conn.Conn → Conn
conn_of c = record { line = c.line; port = c.port; value = expr_of c.value }

unfoldable mutual
  pub item_of : code_item.Item → Item
  item_of (code_items.Wire line f w) = wire line (fam_of f) (int_of w)
  item_of (code_items.Reg line f w l) = reg line (fam_of f) (int_of w) (lit_of l)
  item_of (code_items.Inst line f x args conns) = inst line (fam_of f) x (map param_of args.items) (map conn_of conns.items)
  item_of (code_items.Comb line body) = comb line (stmts_of body.items)
  item_of (code_items.Ff line body) = ff line (stmts_of body.items)
  item_of (code_items.For' line x a b shape row) = repeat_items line x (int_of a) (int_of b) (item_row_of row)
  item_of (code_items.GenIf' line a c b shape row rest) = given_items line (int_of a) c (int_of b) (item_row_of row) (item_held_of rest)

  pub item_row_of : {m : _} → code_item.Row_of-Item m → Items
  item_row_of code_item.end_of-Item = no_item
  item_row_of (code_item.more_of-Item i rest) = item (item_of i) (item_row_of rest)

  pub item_held_of : code_item.Held-Item-GenIf-5 → ElseItems
  item_held_of code_item.None' = no_else_items
  item_held_of (code_item.Some' shape row) = otherwise_items (item_row_of row)

-- items, and what an `else` holds
abbrev pub items_of : List code_item.Item → Items
items_of all = items (map item_of all)

abbrev pub else_items_of : {A : Type 0} → Option (Vec code_item.Item A) → ElseItems
else_items_of None = no_else_items
else_items_of (Some v) = otherwise_items (items_of v.items)

abbrev pub port_of : code_port.Port → Port
port_of p = record { line = p.line; output = p.output; name = p.name; width = int_of p.width }

abbrev pub module_of : code_module.Module → Module
module_of m = record {
  line = m.line;
  name = m.name;
  params = map param_of m.params.items;
  ports = map port_of m.ports.items;
  items = items_of m.items.items;
}

abbrev pub modules_of : List code_module.Module → List Module
modules_of ms = map module_of ms

abbrev pub import_of : code_import.Import → Import
import_of i = record { line = i.line; name = i.name }

abbrev pub source_of : code_source.Source → Source
source_of s = record { imports = map import_of s.imports.items; modules = modules_of s.modules.items }

abbrev pub sources_of : List code_source.Source → List Source
sources_of ss = map source_of ss

-- the modules that are lent
abbrev pub lent_of : List (Bor code_module.Module) → List Module
lent_of ms = map (λ m. module_of m.now) ms
