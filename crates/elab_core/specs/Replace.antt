-- Names replaced by numbers in a source, and elaboration by it: no name is ever looked up.
use Rattle.std.specs.Prelude.{ℕ, zero, suc, max, ℤ, pos, negsuc, List, [], ◌∷◌, Option, Some, None, option_map, map, if◌then◌else◌, bytes_eq, ◌++◌}
use Rattle.gen_tree.specs.declared.IntOp.TheVariants as int_op
use Rattle.gen_tree.specs.Tree as tree
use Rattle.gen_tree.specs.Tree.{Int, num, var, bin, Fam, Lit, plain, bits, read, out, value, unary, binary, mux, zext, slice, assign, bind, choose, select, repeat, given, Stmts, no_stmt, stmt, no_else, otherwise, no_arm, arm, Param, wire, reg, inst, comb, ff, repeat_items, given_items, Items, no_item, item, ElseItems, no_else_items, otherwise_items, Port, Module}
use Rattle.elab_core.specs.declared.fault.Count.TheVariants.{Statements}
use Rattle.design_core.specs.declared.Literal.{Literal}
use Rattle.elab_core.specs.Walk.{Walk, Gives, ◌>>=◌, counts}
use Rattle.exec_core.specs.Block.{Name}
use Rattle.elab_core.specs.Numbers.{bound, fam_name, two_numbers, turn_count, holds}
use Rattle.design_core.specs.Design.{Gens, Assign, Let, If, Case, Body, Done, Else, NoElse, Otherwise, arms_from}
use Rattle.elab_core.specs.Elaborated.{added}
use Rattle.elab_core.specs.Elab.{expr, literals, part_bounds, turns}

-- what a name stands for, if it is to be replaced
abbrev pub Numbers : Type 0
Numbers = Name → Option ℤ

-- a number as a source writes it
abbrev pub as_int : ℤ → Int
as_int (pos n) = num n
as_int (negsuc n) = bin int_op.Sub (num 0) (num (suc n))

abbrev pub or_name : Option ℤ → Name → Int
or_name (Some n) x = as_int n
or_name None x = var x

abbrev pub put : Numbers → Int → Int
put σ (num n) = num n
put σ (var x) = or_name (σ x) x
put σ (bin o a b) = bin o (put σ a) (put σ b)

abbrev pub put_fam : Numbers → Fam → Fam
put_fam σ f = record { name = f.name; index = option_map (put σ) f.index }

abbrev pub put_lit : Numbers → Lit → Lit
put_lit σ (plain w v) = plain w v
put_lit σ (bits w v) = bits (put σ w) (put σ v)

abbrev pub put_expr : Numbers → tree.Expr → tree.Expr
put_expr σ (read f) = read (put_fam σ f)
put_expr σ (out f q) = out (put_fam σ f) q
put_expr σ (value l) = value (put_lit σ l)
put_expr σ (unary o a) = unary o (put_expr σ a)
put_expr σ (binary o a b) = binary o (put_expr σ a) (put_expr σ b)
put_expr σ (mux c a b) = mux (put_expr σ c) (put_expr σ a) (put_expr σ b)
put_expr σ (zext a w) = zext (put_expr σ a) (put σ w)
put_expr σ (slice a h l) = slice (put_expr σ a) (put σ h) (put σ l)

abbrev pub put_part : Numbers → Int × Int → Int × Int
put_part σ p = (put σ p.0, put σ p.1)

-- inside a loop over x, x is another name
abbrev pub but : Name → Numbers → Numbers
but x σ y = if bytes_eq x y then None else σ y

unfoldable mutual
  pub put_stmt : Numbers → tree.Stmt → tree.Stmt
  put_stmt σ (assign line f p e) = assign line (put_fam σ f) (option_map (put_part σ) p) (put_expr σ e)
  put_stmt σ (bind line f e) = bind line (put_fam σ f) (put_expr σ e)
  put_stmt σ (choose line c first second) = choose line (put_expr σ c) (put_stmts σ first) (put_else σ second)
  put_stmt σ (select line v cases other) = select line (put_expr σ v) (put_arms σ cases) (put_else σ other)
  put_stmt σ (repeat line x from to body) = repeat line x (put σ from) (put σ to) (put_stmts (but x σ) body)
  put_stmt σ (given line left c right first second) = given line (put σ left) c (put σ right) (put_stmts σ first) (put_else σ second)

  pub put_stmts : Numbers → Stmts → Stmts
  put_stmts σ no_stmt = no_stmt
  put_stmts σ (stmt s rest) = stmt (put_stmt σ s) (put_stmts σ rest)

  pub put_else : Numbers → tree.Else → tree.Else
  put_else σ no_else = no_else
  put_else σ (otherwise body) = otherwise (put_stmts σ body)

  pub put_arms : Numbers → tree.Arms → tree.Arms
  put_arms σ no_arm = no_arm
  put_arms σ (arm tests body more) = arm (map (put_lit σ) tests) (put_stmts σ body) (put_arms σ more)

abbrev pub put_params : Numbers → List Param → List Param
put_params σ [] = []
put_params σ (p ∷ ps) = record { name = p.name; value = put σ p.value } ∷ put_params σ ps

abbrev pub put_conns : Numbers → List tree.Conn → List tree.Conn
put_conns σ [] = []
put_conns σ (c ∷ cs) = record { line = c.line; port = c.port; value = put_expr σ c.value } ∷ put_conns σ cs

unfoldable mutual
  pub put_item : Numbers → tree.Item → tree.Item
  put_item σ (wire line f w) = wire line (put_fam σ f) (put σ w)
  put_item σ (reg line f w l) = reg line (put_fam σ f) (put σ w) (put_lit σ l)
  put_item σ (inst line f x args cs) = inst line (put_fam σ f) x (put_params σ args) (put_conns σ cs)
  put_item σ (comb line body) = comb line (put_stmts σ body)
  put_item σ (ff line body) = ff line (put_stmts σ body)
  put_item σ (repeat_items line x from to body) = repeat_items line x (put σ from) (put σ to) (put_items (but x σ) body)
  put_item σ (given_items line left c right first second) = given_items line (put σ left) c (put σ right) (put_items σ first) (put_else_items σ second)

  pub put_items : Numbers → Items → Items
  put_items σ no_item = no_item
  put_items σ (item i rest) = item (put_item σ i) (put_items σ rest)

  pub put_else_items : Numbers → ElseItems → ElseItems
  put_else_items σ no_else_items = no_else_items
  put_else_items σ (otherwise_items body) = otherwise_items (put_items σ body)

abbrev pub put_ports : Numbers → List Port → List Port
put_ports σ [] = []
put_ports σ (p ∷ ps) = record { line = p.line; output = p.output; name = p.name; width = put σ p.width } ∷ put_ports σ ps

-- one name alone
abbrev pub only_this : Name → ℤ → Numbers
only_this x n y = if bytes_eq x y then Some n else None

-- ---- elaboration by substitution; `shown` are the generator variables that are kept at a statement, and nothing more

-- `turn` is what the body of a loop's turn gives
module _ (turn : Gens → Stmts → Body → Walk Body) where
  unfoldable mutual
    pub closed_stmt : Gens → tree.Stmt → Body → Walk Body
    closed_stmt shown (assign line f p e) made = do
      counted ← counts Statements line
      x ← fam_name line [] f
      part ← part_bounds line [] p
      v ← expr line [] e
      Gives (added made (Assign 0 line shown x part v))
    closed_stmt shown (bind line f e) made = do
      counted ← counts Statements line
      x ← fam_name line [] f
      v ← expr line [] e
      Gives (added made (Let 0 line shown x v))
    closed_stmt shown (choose line c first second) made = do
      counted ← counts Statements line
      test ← expr line [] c
      yes_body ← closed_stmts shown first Done
      no_body ← closed_else shown second
      Gives (added made (If 0 line shown test yes_body no_body))
    closed_stmt shown (select line v cases other) made = do
      counted ← counts Statements line
      chosen ← expr line [] v
      all ← closed_arms line shown cases []
      last ← closed_else shown other
      Gives (added made (Case 0 line shown chosen (arms_from all) last))
    closed_stmt shown (repeat line x from to body) made = do
      range ← two_numbers line [] from to
      count ← turn_count line range.0 range.1
      turns line (λ k more. turn (bound x k shown) (put_stmts (only_this x k) body) more) range.0 count made
    closed_stmt shown (given line left c right first second) made = do
      pair ← two_numbers line [] left right
      if holds c pair.0 pair.1 then closed_stmts shown first made else closed_else_stmts shown second made

    pub closed_stmts : Gens → Stmts → Body → Walk Body
    closed_stmts shown no_stmt made = Gives made
    closed_stmts shown (stmt s rest) made = do
      more ← closed_stmt shown s made
      closed_stmts shown rest more

    pub closed_arms : ℕ → Gens → tree.Arms → List (List Literal × Body) → Walk (List (List Literal × Body))
    closed_arms line shown no_arm made = Gives made
    closed_arms line shown (arm tests body more) made = do
      ls ← literals line [] tests []
      b ← closed_stmts shown body Done
      closed_arms line shown more (made ++ (ls, b) ∷ [])

    pub closed_else : Gens → tree.Else → Walk Else
    closed_else shown no_else = Gives NoElse
    closed_else shown (otherwise body) = do
      made ← closed_stmts shown body Done
      Gives (Otherwise made)

    pub closed_else_stmts : Gens → tree.Else → Body → Walk Body
    closed_else_stmts shown no_else made = Gives made
    closed_else_stmts shown (otherwise body) made = closed_stmts shown body made

-- with loops that nest at most so deep
unfoldable pub closed_body : ℕ → Gens → Stmts → Body → Walk Body
closed_body zero shown body made = Gives made
closed_body (suc depth) shown body made = closed_stmts (closed_body depth) shown body made

-- how deep loops nest
unfoldable mutual
  pub loops_stmt : tree.Stmt → ℕ
  loops_stmt (assign line f p e) = 0
  loops_stmt (bind line f e) = 0
  loops_stmt (choose line c first second) = max (loops_stmts first) (loops_else second)
  loops_stmt (select line v cases other) = max (loops_arms cases) (loops_else other)
  loops_stmt (repeat line x from to body) = suc (loops_stmts body)
  loops_stmt (given line left c right first second) = max (loops_stmts first) (loops_else second)

  pub loops_stmts : Stmts → ℕ
  loops_stmts no_stmt = 0
  loops_stmts (stmt s rest) = max (loops_stmt s) (loops_stmts rest)

  pub loops_else : tree.Else → ℕ
  loops_else no_else = 0
  loops_else (otherwise body) = loops_stmts body

  pub loops_arms : tree.Arms → ℕ
  loops_arms no_arm = 0
  loops_arms (arm tests body more) = max (loops_stmts body) (loops_arms more)
