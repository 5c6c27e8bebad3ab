-- Reading from left to right with one token ahead. A fault is the number of tokens from the bad one on. `room` is how many
-- brackets may still be opened.
use Rattle.std.specs.Prelude.{ℕ, zero, suc, ◌-◌, List, [], ◌∷◌, length, Bool, true, false, cond, Option, Some, None, Result, Ok, Err, is_some}
use Rattle.gen_token.specs.declared.Keyword.{Keyword}
use Rattle.gen_token.specs.declared.Keyword.TheVariants as keyword
use Rattle.gen_token.specs.declared.Mark.{Mark}
use Rattle.gen_token.specs.declared.Mark.TheVariants as mark
use Rattle.gen_token.specs.Words.{Word, Tok}
use Rattle.gen_tree.specs.declared.IntOp.{IntOp}
use Rattle.gen_tree.specs.declared.Cmp.{Cmp}
use Rattle.gen_tree.specs.declared.UnOp.{UnOp}
use Rattle.gen_tree.specs.declared.Op.{Op}
use Rattle.gen_tree.specs.declared.Op.TheVariants as op
use Rattle.gen_tree.specs.declared.Dialect.{Dialect}
use Rattle.gen_tree.specs.declared.Dialect.TheVariants as dialect
use Rattle.gen_tree.specs.Grammar.{assign_mark}
use Rattle.gen_tree.specs.Tree.{Int, num, var, bin, Fam, Lit, plain, bits, Expr, read, out, value, unary, binary, mux, zext, slice, Stmt, assign, bind, choose, select, repeat, given, Stmts, stmts, Else, no_else, otherwise, Arms, arms, Param, Conn, Item, wire, reg, inst, comb, ff, repeat_items, given_items, Items, items, ElseItems, no_else_items, otherwise_items, Port, Module, Import, Source}
use Rattle.gen_text.specs.Forms.{is_mark, is_keyword, name_form, IntForm, a_number, a_variable, a_group, no_int, int_form, int_op_form, cmp_form, LitForm, a_plain, a_bits, no_lit, lit_form, is_lit, op_form, PrimForm, a_name, a_lit, a_bracket, a_unary, a_cat, a_mux, a_zext, prim_form, StmtForm, an_assign, a_let, an_if, a_case, a_for, a_gen, no_stmt_form, stmt_form, ItemForm, a_wire, a_reg, an_inst, a_block, a_for_item, a_gen_item, no_item_form, item_form, port_form}

abbrev pub Read : Type 0 → Type 0
Read A = Result (A × List Tok) ℕ

infixl 10 ◌>>=◌
abbrev pub ◌>>=◌ : {A B : Type 0} → Result A ℕ → (A → Result B ℕ) → Result B ℕ
(Ok x) >>= f = f x
(Err e) >>= f = Err e

-- what was read, seen otherwise
abbrev pub seen : {A B : Type 0} → (A → B) → Read A → Read B
seen f o = o >>= λ x. Ok (f x.0, x.1)

-- ---- one token

-- what follows a token that passes the test
abbrev pub behind : (Word → Bool) → List Tok → Result (List Tok) ℕ
behind test [] = Err 0
behind test (t ∷ ts) = cond (test t.word) (Ok ts) (Err (suc (length ts)))

abbrev pub mark_at : Mark → List Tok → Result (List Tok) ℕ
mark_at m ts = behind (is_mark m) ts

abbrev pub keyword_at : Keyword → List Tok → Result (List Tok) ℕ
keyword_at k ts = behind (is_keyword k) ts

-- a token that passes the test stands in front
abbrev pub begins : (Word → Bool) → List Tok → Bool
begins test [] = false
begins test (t ∷ ts) = test t.word

abbrev pub rest_of : List Tok → List Tok
rest_of [] = []
rest_of (t ∷ ts) = ts

abbrev pub some_at : {A : Type 0} → Option A → List Tok → Read A
some_at None ts = Err (suc (length ts))
some_at (Some x) ts = Ok (x, ts)

-- what the first token is read as
abbrev pub first_as : {A : Type 0} → (Word → Option A) → List Tok → Read A
first_as form [] = Err 0
first_as form (t ∷ ts) = some_at (form t.word) ts

abbrev pub name_at : List Tok → Read (List ℕ)
name_at ts = first_as name_form ts

-- a bracket opens only where there is room
abbrev pub within : {A : Type 0} → ℕ → ℕ → Result A ℕ → Result A ℕ
within zero left inner = Err left
within (suc room) left inner = inner

abbrev pub open_at : Mark → ℕ → List Tok → Result (List Tok) ℕ
open_at m room ts = within room (length ts) (mark_at m ts)

-- ---- integers

abbrev pub int_op_at : List Tok → Read IntOp
int_op_at ts = first_as int_op_form ts

abbrev pub cmp_at : List Tok → Read Cmp
cmp_at ts = first_as cmp_form ts

-- behind the bracket of an integer
abbrev pub group_at : (List Tok → Read Int) → List Tok → Read Int
group_at inner ts = do
  a ← inner ts
  o ← int_op_at a.1
  b ← inner o.1
  rest ← mark_at mark.RightParen b.1
  Ok (bin o.0 a.0 b.0, rest)

abbrev pub int_by : ℕ → (List Tok → Read Int) → IntForm → List Tok → Read Int
int_by room inner (a_number n) ts = Ok (num n, ts)
int_by room inner (a_variable x) ts = Ok (var x, ts)
int_by room inner a_group ts = within room (suc (length ts)) (group_at inner ts)
int_by room inner no_int ts = Err (suc (length ts))

abbrev pub int_step : Dialect → ℕ → (List Tok → Read Int) → List Tok → Read Int
int_step m room inner [] = Err 0
int_step m room inner (t ∷ ts) = int_by room inner (int_form m t.word) ts

unfoldable pub int_at : Dialect → ℕ → List Tok → Read Int
int_at m zero ts = int_step m zero (λ ts. Err 0) ts
int_at m (suc room) ts = int_step m (suc room) (int_at m room) ts

-- behind a bracket
abbrev pub inner_int : Dialect → ℕ → List Tok → Read Int
inner_int m zero = λ ts. Err 0
inner_int m (suc room) = int_at m room

-- ---- names with an index

abbrev pub index_at : Dialect → ℕ → List Tok → Read (Option Int)
index_at m room ts = cond (begins (is_mark mark.Hash) ts) (seen (λ i. Some i) (int_at m room (rest_of ts))) (Ok (None, ts))

abbrev pub fam_of_name : List ℕ → Option Int → Fam
fam_of_name x i = record { name = x; index = i }

-- behind the name
abbrev pub fam_rest_at : Dialect → ℕ → List ℕ → List Tok → Read Fam
fam_rest_at m room x ts = seen (fam_of_name x) (index_at m room ts)

abbrev pub fam_at : ℕ → List Tok → Read Fam
fam_at room ts = name_at ts >>= λ x. fam_rest_at dialect.Source room x.0 x.1

-- ---- expressions

-- behind `bits`
abbrev pub bits_at : Dialect → ℕ → List Tok → Read Lit
bits_at m room ts = do
  t1 ← open_at mark.LeftParen room ts
  w ← int_at m (room - 1) t1
  t2 ← mark_at mark.Comma w.1
  v ← int_at m (room - 1) t2
  rest ← mark_at mark.RightParen v.1
  Ok (bits w.0 v.0, rest)

abbrev pub lit_by : Dialect → ℕ → LitForm → List Tok → Read Lit
lit_by m room (a_plain w v) ts = Ok (plain w v, ts)
lit_by m room a_bits ts = bits_at m room ts
lit_by m room no_lit ts = Err (suc (length ts))

abbrev pub lit_at : Dialect → ℕ → List Tok → Read Lit
lit_at m room [] = Err 0
lit_at m room (t ∷ ts) = lit_by m room (lit_form m t.word) ts

abbrev pub dot_at : List Tok → Read (Option (List ℕ))
dot_at ts = cond (begins (is_mark mark.Dot) ts) (seen (λ q. Some q) (name_at (rest_of ts))) (Ok (None, ts))

abbrev pub read_of : Fam → Option (List ℕ) → Expr
read_of f None = read f
read_of f (Some q) = out f q

-- behind the name that is read
abbrev pub read_at : Dialect → ℕ → List ℕ → List Tok → Read Expr
read_at m room x ts = fam_rest_at m room x ts >>= λ f. seen (read_of f.0) (dot_at f.1)

abbrev pub op_at : List Tok → Read Op
op_at ts = first_as op_form ts

-- from the bracket of an operator on
abbrev pub bracket_at : ℕ → (List Tok → Read Expr) → List Tok → Read Expr
bracket_at room inner ts = do
  t1 ← open_at mark.LeftParen room ts
  a ← inner t1
  o ← op_at a.1
  b ← inner o.1
  rest ← mark_at mark.RightParen b.1
  Ok (binary o.0 a.0 b.0, rest)

-- behind the operator
abbrev pub unary_at : ℕ → (List Tok → Read Expr) → UnOp → List Tok → Read Expr
unary_at room inner o ts = do
  t1 ← open_at mark.LeftParen room ts
  e ← inner t1
  rest ← mark_at mark.RightParen e.1
  Ok (unary o e.0, rest)

-- behind `cat`
abbrev pub cat_at : ℕ → (List Tok → Read Expr) → List Tok → Read Expr
cat_at room inner ts = do
  t1 ← open_at mark.LeftParen room ts
  a ← inner t1
  t2 ← mark_at mark.Comma a.1
  b ← inner t2
  rest ← mark_at mark.RightParen b.1
  Ok (binary op.Cat a.0 b.0, rest)

-- behind `zext`
abbrev pub zext_at : Dialect → ℕ → (List Tok → Read Expr) → List Tok → Read Expr
zext_at m room inner ts = do
  t1 ← open_at mark.LeftParen room ts
  e ← inner t1
  t2 ← mark_at mark.Comma e.1
  w ← int_at m (room - 1) t2
  rest ← mark_at mark.RightParen w.1
  Ok (zext e.0 w.0, rest)

-- behind `mux`
-- behind the condition of `mux`
abbrev pub choice_at : (List Tok → Read Expr) → Expr → List Tok → Read Expr
choice_at inner test ts = do
  a ← inner ts
  t3 ← mark_at mark.Comma a.1
  b ← inner t3
  rest ← mark_at mark.RightParen b.1
  Ok (mux test a.0 b.0, rest)

abbrev pub mux_at : ℕ → (List Tok → Read Expr) → List Tok → Read Expr
mux_at room inner ts = do
  t1 ← open_at mark.LeftParen room ts
  c ← inner t1
  t2 ← mark_at mark.Comma c.1
  choice_at inner c.0 t2

-- by the form of the first token, from it on and from behind it on
abbrev pub prim_by : Dialect → ℕ → (List Tok → Read Expr) → PrimForm → List Tok → List Tok → Read Expr
prim_by m room inner (a_name x) from ts = read_at m room x ts
prim_by m room inner (a_lit l) from ts = seen (λ l. value l) (lit_by m room l ts)
prim_by m room inner a_bracket from ts = bracket_at room inner from
prim_by m room inner (a_unary o) from ts = unary_at room inner o ts
prim_by m room inner a_cat from ts = cat_at room inner ts
prim_by m room inner a_mux from ts = mux_at room inner ts
prim_by m room inner a_zext from ts = zext_at m room inner ts

abbrev pub prim_step : Dialect → ℕ → (List Tok → Read Expr) → List Tok → Read Expr
prim_step m room inner [] = Err 0
prim_step m room inner (t ∷ ts) = prim_by m room inner (prim_form m t.word) (t ∷ ts) ts

-- from the bracket of two bounds on
abbrev pub range_at : Dialect → ℕ → List Tok → Read (Int × Int)
range_at m room ts = do
  t1 ← open_at mark.LeftBracket room ts
  h ← int_at m (room - 1) t1
  t2 ← mark_at mark.Colon h.1
  l ← int_at m (room - 1) t2
  rest ← mark_at mark.RightBracket l.1
  Ok ((h.0, l.0), rest)

-- from the bracket of a slice on
abbrev pub bounds_at : Dialect → ℕ → Expr → List Tok → Read Expr
bounds_at m room e ts = seen (λ b. slice e b.0 b.1) (range_at m room ts)

-- a slice behind an expression, or none
abbrev pub slice_at : Dialect → ℕ → Expr → List Tok → Read Expr
slice_at m room e ts = cond (begins (is_mark mark.LeftBracket) ts) (bounds_at m room e ts) (Ok (e, ts))

abbrev pub expr_step : Dialect → ℕ → (List Tok → Read Expr) → List Tok → Read Expr
expr_step m room inner ts = prim_step m room inner ts >>= λ p. slice_at m room p.0 p.1

unfoldable pub expr_at : Dialect → ℕ → List Tok → Read Expr
expr_at m zero ts = expr_step m zero (λ ts. Err 0) ts
expr_at m (suc room) ts = expr_step m (suc room) (expr_at m room) ts

-- behind a bracket
abbrev pub inner_expr : Dialect → ℕ → List Tok → Read Expr
inner_expr m zero = λ ts. Err 0
inner_expr m (suc room) = expr_at m room

-- in a source
abbrev pub source_int_at : ℕ → List Tok → Read Int
source_int_at room ts = int_at dialect.Source room ts

abbrev pub source_expr_at : ℕ → List Tok → Read Expr
source_expr_at room ts = expr_at dialect.Source room ts

-- ---- lists

-- members up to a closing brace, and what follows it; the number bounds the turns
unfoldable pub until_by : {A : Type 0} → (List Tok → Read A) → ℕ → List Tok → Read (List A)
until_by one zero ts = Err 0
until_by one (suc n) ts =
    cond (begins (is_mark mark.RightBrace) ts) (Ok ([], rest_of ts))
    (one ts >>= λ x. until_by one n x.1 >>= λ more. Ok (x.0 ∷ more.0, more.1))

abbrev pub until_at : {A : Type 0} → (List Tok → Read A) → List Tok → Read (List A)
until_at one ts = until_by one (suc (length ts)) ts

-- members as long as one begins; the number bounds the turns
unfoldable pub each_by : {A : Type 0} → (List Tok → Bool) → (List Tok → Read A) → ℕ → List Tok → Read (List A)
each_by goes one zero ts = Err 0
each_by goes one (suc n) ts =
    cond (goes ts) (one ts >>= λ x. each_by goes one n x.1 >>= λ more. Ok (x.0 ∷ more.0, more.1)) (Ok ([], ts))

abbrev pub each_at : {A : Type 0} → (List Tok → Bool) → (List Tok → Read A) → List Tok → Read (List A)
each_at goes one ts = each_by goes one (suc (length ts)) ts

-- ---- what statements and items share

-- behind `for`
abbrev pub turns_at : ℕ → List Tok → Read (List ℕ × Int × Int)
turns_at room ts = do
  x ← name_at ts
  t1 ← keyword_at keyword.In x.1
  a ← source_int_at room t1
  t2 ← mark_at mark.DotDot a.1
  b ← source_int_at room t2
  Ok ((x.0, a.0, b.0), b.1)

-- behind `gen`
abbrev pub given_at : ℕ → List Tok → Read (Int × Cmp × Int)
given_at room ts = do
  t1 ← keyword_at keyword.If ts
  t2 ← open_at mark.LeftParen room t1
  a ← source_int_at (room - 1) t2
  c ← cmp_at a.1
  b ← source_int_at (room - 1) c.1
  rest ← mark_at mark.RightParen b.1
  Ok ((a.0, c.0, b.0), rest)

-- members in braces
abbrev pub body_by : {A : Type 0} → ℕ → (List Tok → Read A) → List Tok → Read A
body_by room inner ts = open_at mark.LeftBrace room ts >>= λ t. inner t

-- a body behind a keyword, `else` or `default`, or none
abbrev pub else_by : {A B : Type 0} → Keyword → B → (A → B) → ℕ → (List Tok → Read A) → List Tok → Read B
else_by k none some room inner ts = cond (begins (is_keyword k) ts) (seen some (body_by room inner (rest_of ts))) (Ok (none, ts))

-- ---- statements

abbrev pub else_at : ℕ → (List Tok → Read Stmts) → List Tok → Read Else
else_at room inner ts = else_by keyword.Else no_else otherwise room inner ts

abbrev pub default_at : ℕ → (List Tok → Read Stmts) → List Tok → Read Else
default_at room inner ts = else_by keyword.Default no_else otherwise room inner ts

-- the bounds of a part, or none
abbrev pub part_at : ℕ → List Tok → Read (Option (Int × Int))
part_at room ts = cond (begins (is_mark mark.LeftBracket) ts) (seen (λ b. Some b) (range_at dialect.Source room ts)) (Ok (None, ts))

-- behind the target's name
abbrev pub assign_at : Bool → ℕ → ℕ → List ℕ → List Tok → Read Stmt
assign_at clocked room line x ts = do
  f ← fam_rest_at dialect.Source room x ts
  p ← part_at room f.1
  t1 ← mark_at (assign_mark clocked) p.1
  e ← source_expr_at room t1
  rest ← mark_at mark.Semicolon e.1
  Ok (assign line f.0 p.0 e.0, rest)

-- behind `let`
abbrev pub let_at : ℕ → ℕ → List Tok → Read Stmt
let_at room line ts = do
  f ← fam_at room ts
  t1 ← mark_at mark.Equals f.1
  e ← source_expr_at room t1
  rest ← mark_at mark.Semicolon e.1
  Ok (bind line f.0 e.0, rest)

-- behind `if`
abbrev pub if_at : ℕ → (List Tok → Read Stmts) → ℕ → List Tok → Read Stmt
if_at room inner line ts = do
  c ← source_expr_at room ts
  first ← body_by room inner c.1
  second ← else_at room inner first.1
  Ok (choose line c.0 first.0 second.0, second.1)

-- a comma and a literal
abbrev pub more_test_at : ℕ → List Tok → Read Lit
more_test_at room ts = mark_at mark.Comma ts >>= λ t. lit_at dialect.Source room t

abbrev pub begins_test : List Tok → Bool
begins_test ts = begins (is_mark mark.Comma) ts

-- one literal or more
abbrev pub tests_at : ℕ → List Tok → Read (List Lit)
tests_at room ts = lit_at dialect.Source room ts >>= λ l. seen (λ more. l.0 ∷ more) (each_at begins_test (more_test_at room) l.1)

abbrev pub arm_at : ℕ → (List Tok → Read Stmts) → List Tok → Read (List Lit × Stmts)
arm_at room inner ts = do
  ls ← tests_at room ts
  t1 ← mark_at mark.Colon ls.1
  b ← body_by room inner t1
  Ok ((ls.0, b.0), b.1)

abbrev pub begins_arm : List Tok → Bool
begins_arm ts = begins (λ w. is_lit (lit_form dialect.Source w)) ts

-- one arm or more
abbrev pub arm_list_at : ℕ → (List Tok → Read Stmts) → List Tok → Read (List (List Lit × Stmts))
arm_list_at room inner ts = arm_at room inner ts >>= λ a. seen (λ more. a.0 ∷ more) (each_at begins_arm (arm_at room inner) a.1)

-- behind the brace of a `case`
abbrev pub arms_step : ℕ → (List Tok → Read Stmts) → List Tok → Read (Arms × Else)
arms_step room inner ts = do
  all ← arm_list_at room inner ts
  other ← default_at room inner all.1
  rest ← mark_at mark.RightBrace other.1
  Ok ((arms all.0, other.0), rest)

-- behind `case`
abbrev pub case_at : ℕ → (List Tok → Read (Arms × Else)) → ℕ → List Tok → Read Stmt
case_at room cases line ts = do
  v ← source_expr_at room ts
  t1 ← open_at mark.LeftBrace room v.1
  c ← cases t1
  Ok (select line v.0 c.0.0 c.0.1, c.1)

-- behind `for`
abbrev pub for_at : ℕ → (List Tok → Read Stmts) → ℕ → List Tok → Read Stmt
for_at room inner line ts = do
  h ← turns_at room ts
  b ← body_by room inner h.1
  Ok (repeat line h.0.0 h.0.1 h.0.2 b.0, b.1)

-- behind `gen`
abbrev pub gen_at : ℕ → (List Tok → Read Stmts) → ℕ → List Tok → Read Stmt
gen_at room inner line ts = do
  h ← given_at room ts
  first ← body_by room inner h.1
  second ← else_at room inner first.1
  Ok (given line h.0.0 h.0.1 h.0.2 first.0 second.0, second.1)

abbrev pub stmt_by : Bool → ℕ → (List Tok → Read Stmts) → (List Tok → Read (Arms × Else)) → StmtForm → ℕ → List Tok → Read Stmt
stmt_by clocked room inner cases (an_assign x) line ts = assign_at clocked room line x ts
stmt_by clocked room inner cases a_let line ts = let_at room line ts
stmt_by clocked room inner cases an_if line ts = if_at room inner line ts
stmt_by clocked room inner cases a_case line ts = case_at room cases line ts
stmt_by clocked room inner cases a_for line ts = for_at room inner line ts
stmt_by clocked room inner cases a_gen line ts = gen_at room inner line ts
stmt_by clocked room inner cases no_stmt_form line ts = Err (suc (length ts))

abbrev pub stmt_step : Bool → ℕ → (List Tok → Read Stmts) → (List Tok → Read (Arms × Else)) → List Tok → Read Stmt
stmt_step clocked room inner cases [] = Err 0
stmt_step clocked room inner cases (t ∷ ts) = stmt_by clocked room inner cases (stmt_form t.word) t.line ts

-- up to a closing brace
abbrev pub stmts_until : (List Tok → Read Stmt) → List Tok → Read Stmts
stmts_until one ts = seen stmts (until_at one ts)

-- a statement, and what stands behind the brace of a `case`
unfoldable mutual
  pub stmt_at : Bool → ℕ → List Tok → Read Stmt
  stmt_at clocked zero ts = stmt_step clocked zero (λ ts. Err 0) (λ ts. Err 0) ts
  stmt_at clocked (suc room) ts = stmt_step clocked (suc room) (stmts_until (stmt_at clocked room)) (arms_at clocked room) ts

  pub arms_at : Bool → ℕ → List Tok → Read (Arms × Else)
  arms_at clocked zero ts = arms_step zero (λ ts. Err 0) ts
  arms_at clocked (suc room) ts = arms_step (suc room) (stmts_until (stmt_at clocked room)) ts

-- behind a brace: statements, and the arms of a `case`
abbrev pub inner_stmts : Bool → ℕ → List Tok → Read Stmts
inner_stmts clocked zero = λ ts. Err 0
inner_stmts clocked (suc room) = stmts_until (stmt_at clocked room)

abbrev pub inner_arms : Bool → ℕ → List Tok → Read (Arms × Else)
inner_arms clocked zero = λ ts. Err 0
inner_arms clocked (suc room) = arms_at clocked room

-- ---- items

abbrev pub param_at : ℕ → List Tok → Read Param
param_at room ts = do
  x ← name_at ts
  t1 ← mark_at mark.Equals x.1
  i ← source_int_at room t1
  Ok (record { name = x.0; value = i.0 }, i.1)

abbrev pub more_param_at : ℕ → List Tok → Read Param
more_param_at room ts = mark_at mark.Comma ts >>= λ t. param_at room t

abbrev pub begins_param : List Tok → Bool
begins_param ts = begins (is_mark mark.Comma) ts

-- one parameter or more
abbrev pub param_list_at : ℕ → List Tok → Read (List Param)
param_list_at room ts = param_at room ts >>= λ p. seen (λ more. p.0 ∷ more) (each_at begins_param (more_param_at room) p.1)

abbrev pub params_in_at : ℕ → List Tok → Read (List Param)
params_in_at room ts = do
  t1 ← open_at mark.LeftParen room ts
  ps ← param_list_at (room - 1) t1
  rest ← mark_at mark.RightParen ps.1
  Ok (ps.0, rest)

abbrev pub params_at : ℕ → List Tok → Read (List Param)
params_at room ts = cond (begins (is_mark mark.LeftParen) ts) (params_in_at room ts) (Ok ([], ts))

abbrev pub conn_rest_at : ℕ → ℕ → List ℕ → List Tok → Read Conn
conn_rest_at room line x ts = do
  t1 ← mark_at mark.Equals ts
  e ← source_expr_at room t1
  rest ← mark_at mark.Semicolon e.1
  Ok (record { line = line; port = x; value = e.0 }, rest)

abbrev pub conn_by : ℕ → Option (List ℕ) → ℕ → List Tok → Read Conn
conn_by room None line ts = Err (suc (length ts))
conn_by room (Some x) line ts = conn_rest_at room line x ts

abbrev pub conn_at : ℕ → List Tok → Read Conn
conn_at room [] = Err 0
conn_at room (t ∷ ts) = conn_by room (name_form t.word) t.line ts

abbrev pub wire_at : ℕ → ℕ → List Tok → Read Item
wire_at room line ts = do
  f ← fam_at room ts
  t1 ← mark_at mark.Colon f.1
  w ← source_int_at room t1
  rest ← mark_at mark.Semicolon w.1
  Ok (wire line f.0 w.0, rest)

abbrev pub reg_at : ℕ → ℕ → List Tok → Read Item
reg_at room line ts = do
  f ← fam_at room ts
  t1 ← mark_at mark.Colon f.1
  w ← source_int_at room t1
  t2 ← mark_at mark.Equals w.1
  l ← lit_at dialect.Source room t2
  rest ← mark_at mark.Semicolon l.1
  Ok (reg line f.0 w.0 l.0, rest)

abbrev pub conns_at : ℕ → List Tok → Read (List Conn)
conns_at room ts = open_at mark.LeftBrace room ts >>= λ t. until_at (conn_at (room - 1)) t

abbrev pub inst_at : ℕ → ℕ → List Tok → Read Item
inst_at room line ts = do
  f ← fam_at room ts
  t1 ← mark_at mark.Colon f.1
  x ← name_at t1
  args ← params_at room x.1
  conns ← conns_at room args.1
  Ok (inst line f.0 x.0 args.0 conns.0, conns.1)

abbrev pub block_of : Bool → ℕ → Stmts → Item
block_of false line b = comb line b
block_of true line b = ff line b

abbrev pub block_at : Bool → ℕ → ℕ → List Tok → Read Item
block_at clocked room line ts = seen (block_of clocked line) (body_by room (inner_stmts clocked room) ts)

abbrev pub else_items_at : ℕ → (List Tok → Read Items) → List Tok → Read ElseItems
else_items_at room inner ts = else_by keyword.Else no_else_items otherwise_items room inner ts

abbrev pub for_item_at : ℕ → (List Tok → Read Items) → ℕ → List Tok → Read Item
for_item_at room inner line ts = do
  h ← turns_at room ts
  b ← body_by room inner h.1
  Ok (repeat_items line h.0.0 h.0.1 h.0.2 b.0, b.1)

abbrev pub gen_item_at : ℕ → (List Tok → Read Items) → ℕ → List Tok → Read Item
gen_item_at room inner line ts = do
  h ← given_at room ts
  first ← body_by room inner h.1
  second ← else_items_at room inner first.1
  Ok (given_items line h.0.0 h.0.1 h.0.2 first.0 second.0, second.1)

abbrev pub item_by : ℕ → (List Tok → Read Items) → ItemForm → ℕ → List Tok → Read Item
item_by room inner a_wire line ts = wire_at room line ts
item_by room inner a_reg line ts = reg_at room line ts
item_by room inner an_inst line ts = inst_at room line ts
item_by room inner (a_block clocked) line ts = block_at clocked room line ts
item_by room inner a_for_item line ts = for_item_at room inner line ts
item_by room inner a_gen_item line ts = gen_item_at room inner line ts
item_by room inner no_item_form line ts = Err (suc (length ts))

abbrev pub item_step : ℕ → (List Tok → Read Items) → List Tok → Read Item
item_step room inner [] = Err 0
item_step room inner (t ∷ ts) = item_by room inner (item_form t.word) t.line ts

-- up to a closing brace
abbrev pub items_until : (List Tok → Read Item) → List Tok → Read Items
items_until one ts = seen items (until_at one ts)

unfoldable pub item_at : ℕ → List Tok → Read Item
item_at zero ts = item_step zero (λ ts. Err 0) ts
item_at (suc room) ts = item_step (suc room) (items_until (item_at room)) ts

-- behind a brace
abbrev pub inner_items : ℕ → List Tok → Read Items
inner_items zero = λ ts. Err 0
inner_items (suc room) = items_until (item_at room)

-- ---- modules

abbrev pub port_rest_at : ℕ → ℕ → Bool → List Tok → Read Port
port_rest_at room line output ts = do
  x ← name_at ts
  t1 ← mark_at mark.Colon x.1
  w ← source_int_at room t1
  rest ← mark_at mark.Semicolon w.1
  Ok (record { line = line; output = output; name = x.0; width = w.0 }, rest)

abbrev pub port_by : ℕ → Option Bool → ℕ → List Tok → Read Port
port_by room None line ts = Err (suc (length ts))
port_by room (Some output) line ts = port_rest_at room line output ts

abbrev pub port_at : ℕ → List Tok → Read Port
port_at room [] = Err 0
port_at room (t ∷ ts) = port_by room (port_form t.word) t.line ts

abbrev pub begins_port : List Tok → Bool
begins_port ts = begins (λ w. is_some (port_form w)) ts

-- a brace, and ports behind it
abbrev pub ports_at : ℕ → List Tok → Read (List Port)
ports_at room ts = open_at mark.LeftBrace room ts >>= λ t. each_at begins_port (port_at (room - 1)) t

-- ports and items in braces
abbrev pub content_at : ℕ → List Tok → Read (List Port × Items)
content_at room ts = do
  ports ← ports_at room ts
  body ← items_until (item_at (room - 1)) ports.1
  Ok ((ports.0, body.0), body.1)

-- behind the module's name
abbrev pub module_body_at : ℕ → ℕ → List ℕ → List Tok → Read Module
module_body_at room line x ts = do
  params ← params_at room ts
  content ← content_at room params.1
  Ok (record { line = line; name = x; params = params.0; ports = content.0.0; items = content.0.1 }, content.1)

abbrev pub module_rest_at : ℕ → ℕ → List Tok → Read Module
module_rest_at room line ts = name_at ts >>= λ x. module_body_at room line x.0 x.1

unfoldable pub module_at : ℕ → List Tok → Read Module
module_at room [] = Err 0
module_at room (t ∷ ts) = cond (is_keyword keyword.Module t.word) (module_rest_at room t.line ts) (Err (suc (length ts)))

abbrev pub none_left : List Tok → Bool
none_left [] = true
none_left (t ∷ ts) = false

-- modules up to the end, one at least; the number bounds the turns
unfoldable pub modules_by : ℕ → ℕ → List Tok → Result (List Module) ℕ
modules_by zero room ts = Err 0
modules_by (suc n) room ts =
    module_at room ts >>= λ m. cond (none_left m.1) (Ok (m.0 ∷ [])) (modules_by n room m.1 >>= λ more. Ok (m.0 ∷ more))

abbrev pub modules_at : ℕ → List Tok → Result (List Module) ℕ
modules_at room ts = modules_by (suc (length ts)) room ts

-- ---- imports

-- behind `import`
abbrev pub import_rest_at : ℕ → List Tok → Read Import
import_rest_at line ts = do
  x ← name_at ts
  rest ← mark_at mark.Semicolon x.1
  Ok (record { line = line; name = x.0 }, rest)

unfoldable pub import_at : List Tok → Read Import
import_at [] = Err 0
import_at (t ∷ ts) = cond (is_keyword keyword.Import t.word) (import_rest_at t.line ts) (Err (suc (length ts)))

abbrev pub begins_import : List Tok → Bool
begins_import ts = begins (is_keyword keyword.Import) ts

abbrev pub imports_at : List Tok → Read (List Import)
imports_at ts = each_at begins_import import_at ts

abbrev pub with_imports : List Import → List Module → Source
with_imports imports modules = record { imports = imports; modules = modules }

-- imports, and then modules up to the end
abbrev pub source_at : ℕ → List Tok → Result Source ℕ
source_at room ts = imports_at ts >>= λ found. modules_at room found.1 >>= λ modules. Ok (with_imports found.0 modules)
