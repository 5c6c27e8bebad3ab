-- What is still to come, as a stack of symbols, and how a token changes it. In a source another module may follow at the end.
use Rattle.std.specs.Prelude.{ℕ, suc, List, [], ◌∷◌, ◌++◌, length, Bool, true, false, cond, Option, Some, None}
use Rattle.gen_token.specs.declared.Keyword.{Keyword}
use Rattle.gen_token.specs.declared.Keyword.TheVariants as keyword
use Rattle.gen_token.specs.declared.Mark.{Mark}
use Rattle.gen_token.specs.declared.Mark.TheVariants as mark
use Rattle.gen_token.specs.Words.{Word, Reserved, Sign, Tok}
use Rattle.gen_tree.specs.declared.Dialect.{Dialect}
use Rattle.gen_tree.specs.declared.Dialect.TheVariants as dialect
use Rattle.gen_tree.specs.Brackets.{room_after}
use Rattle.gen_tree.specs.Grammar.{assign_mark}
use Rattle.gen_text.specs.Forms.{is_mark, is_keyword, name_form, IntForm, a_number, a_variable, a_group, no_int, int_form, int_op_form, cmp_form, LitForm, a_plain, a_bits, no_lit, lit_form, op_form, PrimForm, a_name, a_lit, a_bracket, a_unary, a_cat, a_mux, a_zext, prim_form, StmtForm, an_assign, a_let, an_if, a_case, a_for, a_gen, no_stmt_form, stmt_form, ItemForm, a_wire, a_reg, an_inst, a_block, a_for_item, a_gen_item, no_item_form, item_form, port_form}

-- a word that stands at its place alone
pub data Fixed : Type 0 where
  key : Keyword → Fixed
  sign : Mark → Fixed

abbrev pub fixed_word : Fixed → Word
fixed_word (key k) = Reserved k
fixed_word (sign m) = Sign m

abbrev pub is_fixed : Fixed → Word → Bool
is_fixed (key k) = is_keyword k
is_fixed (sign m) = is_mark m

pub data Symbol : Type 0 where
  need : Fixed → Symbol
  need_name : Symbol
  an_int : Symbol
  an_int_op : Symbol
  a_cmp : Symbol
  an_index : Symbol
  a_literal : Symbol
  a_dot : Symbol
  an_op : Symbol
  a_prim : Symbol
  an_expr : Symbol
  a_slice : Symbol
  a_stmt : Bool → Symbol
  stmts_end : Bool → Symbol
  an_else : Bool → Symbol
  another_test : Symbol
  tests_end : Symbol
  an_arm : Bool → Symbol
  arms_end : Bool → Symbol
  a_default : Bool → Symbol
  a_param : Symbol
  another_param : Symbol
  params_end : Symbol
  params : Symbol
  a_conn : Symbol
  conns_end : Symbol
  an_item : Symbol
  items_end : Symbol
  else_items : Symbol
  a_port : Symbol
  ports_end : Symbol
  a_module : Symbol
  an_import : Symbol
  imports_end : Symbol

pub data Move : Type 0 where
  shift : List Symbol → Move
  skip : Move
  stuck : Move

-- the symbols that a token leads to, and then these; or there it is stuck
abbrev pub lead : Option (List Symbol) → List Symbol → Move
lead None after = stuck
lead (Some more) after = shift (more ++ after)

-- the same, or another move
abbrev pub lead_or : Option (List Symbol) → List Symbol → Move → Move
lead_or None after otherwise = otherwise
lead_or (Some more) after otherwise = shift (more ++ after)

abbrev pub if_some : {A : Type 0} → List Symbol → Option A → Option (List Symbol)
if_some more None = None
if_some more (Some x) = Some more

-- ---- where a token leads

abbrev pub int_lead : IntForm → Option (List Symbol)
int_lead (a_number n) = Some []
int_lead (a_variable x) = Some []
int_lead a_group = Some (an_int ∷ an_int_op ∷ an_int ∷ need (sign mark.RightParen) ∷ [])
int_lead no_int = None

abbrev pub lit_lead : LitForm → Option (List Symbol)
lit_lead (a_plain w v) = Some []
lit_lead a_bits = Some (need (sign mark.LeftParen) ∷ an_int ∷ need (sign mark.Comma) ∷ an_int ∷ need (sign mark.RightParen) ∷ [])
lit_lead no_lit = None

abbrev pub prim_lead : PrimForm → Option (List Symbol)
prim_lead (a_name x) = Some (an_index ∷ a_dot ∷ [])
prim_lead (a_lit l) = lit_lead l
prim_lead a_bracket = Some (an_expr ∷ an_op ∷ an_expr ∷ need (sign mark.RightParen) ∷ [])
prim_lead (a_unary o) = Some (need (sign mark.LeftParen) ∷ an_expr ∷ need (sign mark.RightParen) ∷ [])
prim_lead a_cat = Some (need (sign mark.LeftParen) ∷ an_expr ∷ need (sign mark.Comma) ∷ an_expr ∷ need (sign mark.RightParen) ∷ [])
prim_lead a_mux = Some (need (sign mark.LeftParen) ∷ an_expr ∷ need (sign mark.Comma) ∷ an_expr ∷ need (sign mark.Comma) ∷ an_expr ∷ need (sign mark.RightParen) ∷ [])
prim_lead a_zext = Some (need (sign mark.LeftParen) ∷ an_expr ∷ need (sign mark.Comma) ∷ an_int ∷ need (sign mark.RightParen) ∷ [])

abbrev pub fam_symbols : List Symbol
fam_symbols = need_name ∷ an_index ∷ []

abbrev pub turn_symbols : List Symbol
turn_symbols = need_name ∷ need (key keyword.In) ∷ an_int ∷ need (sign mark.DotDot) ∷ an_int ∷ []

abbrev pub given_symbols : List Symbol
given_symbols = need (key keyword.If) ∷ need (sign mark.LeftParen) ∷ an_int ∷ a_cmp ∷ an_int ∷ need (sign mark.RightParen) ∷ []

abbrev pub body_symbols : Symbol → List Symbol
body_symbols ends = need (sign mark.LeftBrace) ∷ ends ∷ []

-- behind the first literal of an arm
abbrev pub arm_symbols : Bool → List Symbol
arm_symbols clocked = tests_end ∷ body_symbols (stmts_end clocked)

-- behind the brace of a `case`
abbrev pub case_symbols : Bool → List Symbol
case_symbols clocked = an_arm clocked ∷ arms_end clocked ∷ []

abbrev pub stmt_lead : Bool → StmtForm → Option (List Symbol)
stmt_lead clocked (an_assign x) = Some (an_index ∷ a_slice ∷ need (sign (assign_mark clocked)) ∷ an_expr ∷ need (sign mark.Semicolon) ∷ [])
stmt_lead clocked a_let = Some (need_name ∷ an_index ∷ need (sign mark.Equals) ∷ an_expr ∷ need (sign mark.Semicolon) ∷ [])
stmt_lead clocked an_if = Some (an_expr ∷ need (sign mark.LeftBrace) ∷ stmts_end clocked ∷ an_else clocked ∷ [])
stmt_lead clocked a_case = Some (an_expr ∷ need (sign mark.LeftBrace) ∷ case_symbols clocked)
stmt_lead clocked a_for = Some (turn_symbols ++ body_symbols (stmts_end clocked))
stmt_lead clocked a_gen = Some (given_symbols ++ body_symbols (stmts_end clocked) ++ an_else clocked ∷ [])
stmt_lead clocked no_stmt_form = None

abbrev pub item_lead : ItemForm → Option (List Symbol)
item_lead a_wire = Some (need_name ∷ an_index ∷ need (sign mark.Colon) ∷ an_int ∷ need (sign mark.Semicolon) ∷ [])
item_lead a_reg = Some (need_name ∷ an_index ∷ need (sign mark.Colon) ∷ an_int ∷ need (sign mark.Equals) ∷ a_literal ∷ need (sign mark.Semicolon) ∷ [])
item_lead an_inst = Some (need_name ∷ an_index ∷ need (sign mark.Colon) ∷ need_name ∷ params ∷ need (sign mark.LeftBrace) ∷ conns_end ∷ [])
item_lead (a_block clocked) = Some (need (sign mark.LeftBrace) ∷ stmts_end clocked ∷ [])
item_lead a_for_item = Some (turn_symbols ++ body_symbols items_end)
item_lead a_gen_item = Some (given_symbols ++ body_symbols items_end ++ else_items ∷ [])
item_lead no_item_form = None

abbrev pub param_symbols : List Symbol
param_symbols = need (sign mark.Equals) ∷ an_int ∷ []

abbrev pub conn_symbols : List Symbol
conn_symbols = need (sign mark.Equals) ∷ an_expr ∷ need (sign mark.Semicolon) ∷ []

abbrev pub port_symbols : List Symbol
port_symbols = need_name ∷ need (sign mark.Colon) ∷ an_int ∷ need (sign mark.Semicolon) ∷ []

abbrev pub module_symbols : List Symbol
module_symbols = need_name ∷ params ∷ need (sign mark.LeftBrace) ∷ ports_end ∷ []

abbrev pub import_symbols : List Symbol
import_symbols = need_name ∷ need (sign mark.Semicolon) ∷ []

-- ---- the machine

abbrev pub until_step : Word → Option (List Symbol) → Symbol → Move
until_step w more ends = cond (is_mark mark.RightBrace w) (shift []) (lead more (ends ∷ []))

-- behind the arms of a `case`
abbrev pub last_step : Bool → Word → Move
last_step clocked w =
    cond (is_keyword keyword.Default w) (shift (need (sign mark.LeftBrace) ∷ stmts_end clocked ∷ need (sign mark.RightBrace) ∷ []))
    (cond (is_mark mark.RightBrace w) (shift []) stuck)

abbrev pub step : Dialect → Symbol → Word → Move
step m (need f) w = cond (is_fixed f w) (shift []) stuck
step m need_name w = lead (if_some [] (name_form w)) []
step m an_int w = lead (int_lead (int_form m w)) []
step m an_int_op w = lead (if_some [] (int_op_form w)) []
step m a_cmp w = lead (if_some [] (cmp_form w)) []
step m an_index w = cond (is_mark mark.Hash w) (shift (an_int ∷ [])) skip
step m a_literal w = lead (lit_lead (lit_form m w)) []
step m a_dot w = cond (is_mark mark.Dot w) (shift (need_name ∷ [])) skip
step m an_op w = lead (if_some [] (op_form w)) []
step m a_prim w = lead (prim_lead (prim_form m w)) []
step m an_expr w = lead (prim_lead (prim_form m w)) (a_slice ∷ [])
step m a_slice w = cond (is_mark mark.LeftBracket w) (shift (an_int ∷ need (sign mark.Colon) ∷ an_int ∷ need (sign mark.RightBracket) ∷ [])) skip
step m (a_stmt clocked) w = lead (stmt_lead clocked (stmt_form w)) []
step m (stmts_end clocked) w = until_step w (stmt_lead clocked (stmt_form w)) (stmts_end clocked)
step m (an_else clocked) w = cond (is_keyword keyword.Else w) (shift (need (sign mark.LeftBrace) ∷ stmts_end clocked ∷ [])) skip
step m another_test w = cond (is_mark mark.Comma w) (shift (a_literal ∷ [])) stuck
step m tests_end w = cond (is_mark mark.Comma w) (shift (a_literal ∷ tests_end ∷ [])) (cond (is_mark mark.Colon w) (shift []) stuck)
step m (an_arm clocked) w = lead (lit_lead (lit_form m w)) (arm_symbols clocked)
step m (arms_end clocked) w = lead_or (lit_lead (lit_form m w)) (arm_symbols clocked ++ arms_end clocked ∷ []) (last_step clocked w)
step m (a_default clocked) w = cond (is_keyword keyword.Default w) (shift (need (sign mark.LeftBrace) ∷ stmts_end clocked ∷ [])) skip
step m a_param w = lead (if_some param_symbols (name_form w)) []
step m another_param w = cond (is_mark mark.Comma w) (shift (a_param ∷ [])) stuck
step m params_end w = cond (is_mark mark.Comma w) (shift (a_param ∷ params_end ∷ [])) (cond (is_mark mark.RightParen w) (shift []) stuck)
step m params w = cond (is_mark mark.LeftParen w) (shift (a_param ∷ params_end ∷ [])) skip
step m a_conn w = lead (if_some conn_symbols (name_form w)) []
step m conns_end w = until_step w (if_some conn_symbols (name_form w)) conns_end
step m an_item w = lead (item_lead (item_form w)) []
step m items_end w = until_step w (item_lead (item_form w)) items_end
step m else_items w = cond (is_keyword keyword.Else w) (shift (need (sign mark.LeftBrace) ∷ items_end ∷ [])) skip
step m a_port w = lead (if_some port_symbols (port_form w)) []
step m ports_end w = lead_or (if_some port_symbols (port_form w)) (ports_end ∷ []) (until_step w (item_lead (item_form w)) items_end)
step m a_module w = cond (is_keyword keyword.Module w) (shift module_symbols) stuck
step m an_import w = cond (is_keyword keyword.Import w) (shift import_symbols) stuck
step m imports_end w =
    cond (is_keyword keyword.Import w) (shift (import_symbols ++ imports_end ∷ [])) (cond (is_keyword keyword.Module w) (shift module_symbols) stuck)

-- whether a symbol may stand for nothing, at the end
abbrev pub may_end : Symbol → Bool
may_end an_index = true
may_end a_dot = true
may_end a_slice = true
may_end (an_else clocked) = true
may_end (a_default clocked) = true
may_end params = true
may_end else_items = true
may_end _ = false

pub data End : Type 0 where
  accepted : End
  stopped : ℕ → End

abbrev pub settle_by : Move → List Symbol → Option (List Symbol) → Option (List Symbol)
settle_by (shift more) stack below = Some (more ++ stack)
settle_by skip stack below = below
settle_by stuck stack below = None

-- at the bottom another module may come in a source, and nothing in a condition
abbrev pub bottom : Dialect → Word → Option (List Symbol)
bottom dialect.Source w = cond (is_keyword keyword.Module w) (Some module_symbols) None
bottom dialect.Condition w = None

unfoldable pub settle : Dialect → List Symbol → Word → Option (List Symbol)
settle m [] w = bottom m w
settle m (symbol ∷ stack) w = settle_by (step m symbol w) stack (settle m stack w)

unfoldable pub at_end : List Symbol → End
at_end [] = accepted
at_end (symbol ∷ stack) = cond (may_end symbol) (at_end stack) (stopped 0)

abbrev pub run_by : Option (List Symbol) → Option ℕ → ℕ → (ℕ → List Symbol → End) → End
run_by None room left more = stopped left
run_by (Some stack) None left more = stopped left
run_by (Some stack) (Some room) left more = more room stack

unfoldable pub run : Dialect → ℕ → List Symbol → List Tok → End
run m room stack [] = at_end stack
run m room stack (t ∷ ts) = run_by (settle m stack t.word) (room_after room t.word) (suc (length ts)) (λ r s. run m r s ts)
