-- What the trees that the code makes stand for.
use Rattle.std.proofs.Common.{◌≡◌, ℕ, List, map, option_map, Option, Some, None, Vec, Box, Global, refl, sym, ap, ap₂, ◌∙◌}
use Rattle.gen_tree.specs.declared.expr.Cmp.{Cmp}
use Rattle.gen_tree.specs.declared.expr.Int as code_int
use Rattle.gen_tree.specs.declared.expr.Fam as code_fam
use Rattle.gen_tree.specs.declared.expr.Lit as code_lit
use Rattle.gen_tree.specs.declared.expr.Expr as code_expr
use Rattle.gen_tree.specs.declared.statement.Stmt as code_stmt
use Rattle.gen_tree.specs.declared.statement.Stmt.TheBlock.{hidden-the_row-Stmt-0, hidden-the_row-Arm-1}
use Rattle.gen_tree.specs.declared.statement.Stmt.TheVariants as code_stmts
use Rattle.gen_tree.specs.declared.statement.Arm as code_arm
use Rattle.gen_tree.specs.declared.item.Param as code_param
use Rattle.gen_tree.specs.declared.item.Conn as code_conn
use Rattle.gen_tree.specs.declared.item.Item as code_item
use Rattle.gen_tree.specs.declared.item.Item.TheBlock.{hidden-the_row-Item-0}
use Rattle.gen_tree.specs.declared.item.Item.TheVariants as code_items
use Rattle.gen_tree.specs.Tree.{Stmts, assign, bind, choose, select, repeat, given, stmt, no_else, otherwise, Arms, arm, wire, reg, inst, comb, ff, repeat_items, given_items, item, no_else_items, otherwise_items}
use Rattle.gen_tree.specs.View.{int_of, fam_of, lit_of, expr_of, bounds_of, stmt_of, row_of, arms_row, held_of, stmts_of, arms_of, else_of, param_of, conn_of, item_of, item_row_of, item_held_of, items_of, else_items_of}

-- ---- statements

row_items : {n : _} (k : code_stmt.Row_of-Stmt n) → row_of k ≡ stmts_of (code_stmt.items-the_row-Stmt n k)
unfolding row_of
row_items code_stmt.end_of-Stmt = refl
row_items (code_stmt.more_of-Stmt s rest) = ap (stmt (stmt_of s)) (row_items rest)

hidden_items : (v : Vec code_stmt.Stmt Global) → row_of (hidden-the_row-Stmt-0 v) ≡ stmts_of v.items
hidden_items v = row_items (hidden-the_row-Stmt-0 v) ∙ ap stmts_of (code_stmt.items_hidden-the_row-Stmt-0 v)

arm_items : {n : _} (k : code_stmt.Row_of-Arm n) → arms_row k ≡ arms_of (code_stmt.items-the_row-Arm n k)
unfolding arms_row
arm_items code_stmt.end_of-Arm = refl
arm_items (code_stmt.more_of-Arm tests shape row rest) =
    ap₂ (λ (body : Stmts) (more : Arms). arm (map lit_of tests.items) body more) (row_items row ∙ ap stmts_of (sym (code_stmt.items_shown-the_row-Stmt-0 shape row))) (arm_items rest)

hidden_arms : (v : Vec code_arm.Arm Global) → arms_row (hidden-the_row-Arm-1 v) ≡ arms_of v.items
hidden_arms v = arm_items (hidden-the_row-Arm-1 v) ∙ ap arms_of (code_stmt.items_hidden-the_row-Arm-1 v)

pub stmt_assign : (line : ℕ) (f : code_fam.Fam) (part : Option (Box code_int.Int Global × Box code_int.Int Global)) (e : code_expr.Expr)
    → stmt_of (code_stmts.Assign line f part e) ≡ assign line (fam_of f) (option_map bounds_of part) (expr_of e)
unfolding stmt_of
stmt_assign line f part e = refl

pub stmt_let : (line : ℕ) (f : code_fam.Fam) (e : code_expr.Expr) → stmt_of (code_stmts.Let line f e) ≡ bind line (fam_of f) (expr_of e)
unfolding stmt_of
stmt_let line f e = refl

pub stmt_if : (line : ℕ) (c : code_expr.Expr) (a : Vec code_stmt.Stmt Global) (b : Option (Vec code_stmt.Stmt Global)) → stmt_of (code_stmts.If line c a b) ≡ choose line (expr_of c) (stmts_of a.items) (else_of b)
unfolding stmt_of held_of
stmt_if line c a None = ap (λ s. choose line (expr_of c) s no_else) (hidden_items a)
stmt_if line c a (Some b) = ap₂ (λ s t. choose line (expr_of c) s (otherwise t)) (hidden_items a) (hidden_items b)

pub stmt_case : (line : ℕ) (v : code_expr.Expr) (a : Vec code_arm.Arm Global) (b : Option (Vec code_stmt.Stmt Global)) → stmt_of (code_stmts.Case line v a b) ≡ select line (expr_of v) (arms_of a.items) (else_of b)
unfolding stmt_of held_of
stmt_case line v a None = ap (λ s. select line (expr_of v) s no_else) (hidden_arms a)
stmt_case line v a (Some b) = ap₂ (λ s t. select line (expr_of v) s (otherwise t)) (hidden_arms a) (hidden_items b)

pub stmt_for : (line : ℕ) (x : List ℕ) (a b : code_int.Int) (body : Vec code_stmt.Stmt Global) → stmt_of (code_stmts.For line x a b body) ≡ repeat line x (int_of a) (int_of b) (stmts_of body.items)
unfolding stmt_of
stmt_for line x a b body = ap (repeat line x (int_of a) (int_of b)) (hidden_items body)

pub stmt_given : (line : ℕ) (a : code_int.Int) (c : Cmp) (b : code_int.Int) (first : Vec code_stmt.Stmt Global) (second : Option (Vec code_stmt.Stmt Global))
    → stmt_of (code_stmts.GenIf line a c b first second) ≡ given line (int_of a) c (int_of b) (stmts_of first.items) (else_of second)
unfolding stmt_of held_of
stmt_given line a c b first None = ap (λ s. given line (int_of a) c (int_of b) s no_else) (hidden_items first)
stmt_given line a c b first (Some second) = ap₂ (λ s t. given line (int_of a) c (int_of b) s (otherwise t)) (hidden_items first) (hidden_items second)

-- ---- items

item_row_items : {n : _} (k : code_item.Row_of-Item n) → item_row_of k ≡ items_of (code_item.items-the_row-Item n k)
unfolding item_row_of
item_row_items code_item.end_of-Item = refl
item_row_items (code_item.more_of-Item i rest) = ap (item (item_of i)) (item_row_items rest)

hidden_item_items : (v : Vec code_item.Item Global) → item_row_of (hidden-the_row-Item-0 v) ≡ items_of v.items
hidden_item_items v = item_row_items (hidden-the_row-Item-0 v) ∙ ap items_of (code_item.items_hidden-the_row-Item-0 v)

pub item_wire : (line : ℕ) (f : code_fam.Fam) (w : code_int.Int) → item_of (code_items.Wire line f w) ≡ wire line (fam_of f) (int_of w)
unfolding item_of
item_wire line f w = refl

pub item_reg : (line : ℕ) (f : code_fam.Fam) (w : code_int.Int) (l : code_lit.Lit) → item_of (code_items.Reg line f w l) ≡ reg line (fam_of f) (int_of w) (lit_of l)
unfolding item_of
item_reg line f w l = refl

pub item_inst : (line : ℕ) (f : code_fam.Fam) (x : List ℕ) (args : Vec code_param.Param Global) (conns : Vec code_conn.Conn Global)
    → item_of (code_items.Inst line f x args conns) ≡ inst line (fam_of f) x (map param_of args.items) (map conn_of conns.items)
unfolding item_of
item_inst line f x args conns = refl

pub item_comb : (line : ℕ) (body : Vec code_stmt.Stmt Global) → item_of (code_items.Comb line body) ≡ comb line (stmts_of body.items)
unfolding item_of
item_comb line body = refl

pub item_ff : (line : ℕ) (body : Vec code_stmt.Stmt Global) → item_of (code_items.Ff line body) ≡ ff line (stmts_of body.items)
unfolding item_of
item_ff line body = refl

pub item_for : (line : ℕ) (x : List ℕ) (a b : code_int.Int) (body : Vec code_item.Item Global) → item_of (code_items.For line x a b body) ≡ repeat_items line x (int_of a) (int_of b) (items_of body.items)
unfolding item_of
item_for line x a b body = ap (repeat_items line x (int_of a) (int_of b)) (hidden_item_items body)

pub item_given : (line : ℕ) (a : code_int.Int) (c : Cmp) (b : code_int.Int) (first : Vec code_item.Item Global) (second : Option (Vec code_item.Item Global))
    → item_of (code_items.GenIf line a c b first second) ≡ given_items line (int_of a) c (int_of b) (items_of first.items) (else_items_of second)
unfolding item_of item_held_of
item_given line a c b first None = ap (λ s. given_items line (int_of a) c (int_of b) s no_else_items) (hidden_item_items first)
item_given line a c b first (Some second) = ap₂ (λ s t. given_items line (int_of a) c (int_of b) s (otherwise_items t)) (hidden_item_items first) (hidden_item_items second)

pub ruleset view_steps = (stmt_assign, stmt_let, stmt_if, stmt_case, stmt_for, stmt_given, item_wire, item_reg, item_inst, item_comb, item_ff, item_for, item_given)
