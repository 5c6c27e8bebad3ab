-- How many brackets are open at once in what a tree spells.
use Rattle.std.specs.Prelude.{ℕ, suc, max, List, [], ◌∷◌, Option, Some, None}
use Rattle.gen_tree.specs.Tree.{Int, num, var, bin, Lit, plain, bits, Expr, read, out, value, unary, binary, mux, zext, slice, Stmt, assign, bind, choose, select, repeat, given, Stmts, no_stmt, stmt, Else, no_else, otherwise, Arms, no_arm, arm, Param, Conn, Item, wire, reg, inst, comb, ff, repeat_items, given_items, Items, no_item, item, ElseItems, no_else_items, otherwise_items, Port, Module}

abbrev pub int_depth : Int → ℕ
int_depth (num n) = 0
int_depth (var x) = 0
int_depth (bin o a b) = suc (max (int_depth a) (int_depth b))

abbrev pub index_depth : Option Int → ℕ
index_depth None = 0
index_depth (Some i) = int_depth i

abbrev pub lit_depth : Lit → ℕ
lit_depth (plain w v) = 0
lit_depth (bits w v) = suc (max (int_depth w) (int_depth v))

abbrev pub expr_depth : Expr → ℕ
expr_depth (read f) = index_depth f.index
expr_depth (out f q) = index_depth f.index
expr_depth (value l) = lit_depth l
expr_depth (unary o e) = suc (expr_depth e)
expr_depth (binary o a b) = suc (max (expr_depth a) (expr_depth b))
expr_depth (mux c a b) = suc (max (expr_depth c) (max (expr_depth a) (expr_depth b)))
expr_depth (zext e w) = suc (max (expr_depth e) (int_depth w))
expr_depth (slice e h l) = max (expr_depth e) (suc (max (int_depth h) (int_depth l)))

abbrev pub each_depth : {A : Type 0} → (A → ℕ) → List A → ℕ
each_depth f [] = 0
each_depth f (x ∷ xs) = max (f x) (each_depth f xs)

abbrev pub part_depth : Option (Int × Int) → ℕ
part_depth None = 0
part_depth (Some p) = suc (max (int_depth p.0) (int_depth p.1))

abbrev mutual
  pub stmt_depth : Stmt → ℕ
  stmt_depth (assign line f part e) = max (index_depth f.index) (max (part_depth part) (expr_depth e))
  stmt_depth (bind line f e) = max (index_depth f.index) (expr_depth e)
  stmt_depth (choose line c a b) = max (expr_depth c) (max (suc (stmts_depth a)) (else_depth b))
  stmt_depth (select line v cases other) = max (expr_depth v) (suc (max (arms_depth cases) (else_depth other)))
  stmt_depth (repeat line x a b body) = max (int_depth a) (max (int_depth b) (suc (stmts_depth body)))
  stmt_depth (given line a c b first second) = max (suc (max (int_depth a) (int_depth b))) (max (suc (stmts_depth first)) (else_depth second))

  pub stmts_depth : Stmts → ℕ
  stmts_depth no_stmt = 0
  stmts_depth (stmt s more) = max (stmt_depth s) (stmts_depth more)

  pub else_depth : Else → ℕ
  else_depth no_else = 0
  else_depth (otherwise b) = suc (stmts_depth b)

  pub arms_depth : Arms → ℕ
  arms_depth no_arm = 0
  arms_depth (arm tests body more) = max (max (each_depth lit_depth tests) (suc (stmts_depth body))) (arms_depth more)

abbrev pub param_depth : Param → ℕ
param_depth p = int_depth p.value

abbrev pub params_depth : List Param → ℕ
params_depth [] = 0
params_depth (p ∷ ps) = suc (each_depth param_depth (p ∷ ps))

abbrev pub conn_depth : Conn → ℕ
conn_depth c = expr_depth c.value

abbrev mutual
  pub item_depth : Item → ℕ
  item_depth (wire line f w) = max (index_depth f.index) (int_depth w)
  item_depth (reg line f w l) = max (index_depth f.index) (max (int_depth w) (lit_depth l))
  item_depth (inst line f x args conns) = max (index_depth f.index) (max (params_depth args) (suc (each_depth conn_depth conns)))
  item_depth (comb line b) = suc (stmts_depth b)
  item_depth (ff line b) = suc (stmts_depth b)
  item_depth (repeat_items line x a b body) = max (int_depth a) (max (int_depth b) (suc (items_depth body)))
  item_depth (given_items line a c b first second) = max (suc (max (int_depth a) (int_depth b))) (max (suc (items_depth first)) (else_items_depth second))

  pub items_depth : Items → ℕ
  items_depth no_item = 0
  items_depth (item i more) = max (item_depth i) (items_depth more)

  pub else_items_depth : ElseItems → ℕ
  else_items_depth no_else_items = 0
  else_items_depth (otherwise_items b) = suc (items_depth b)

abbrev pub port_depth : Port → ℕ
port_depth p = int_depth p.width

abbrev pub module_depth : Module → ℕ
module_depth m = max (params_depth m.params) (suc (max (each_depth port_depth m.ports) (items_depth m.items)))
