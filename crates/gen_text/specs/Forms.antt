-- What a token begins: the one token that a reader looks at.
use Rattle.std.specs.Prelude.{ℕ, List, Bool, true, false, Option, Some, None}
use denote.Enum.Bare.{sameb}
use Rattle.gen_token.specs.contracts.Keyword as keyword_enum
use Rattle.gen_token.specs.contracts.Mark as mark_enum
use Rattle.gen_token.specs.declared.Keyword.{Keyword}
use Rattle.gen_token.specs.declared.Keyword.TheVariants as keyword
use Rattle.gen_token.specs.declared.Mark.{Mark}
use Rattle.gen_token.specs.declared.Mark.TheVariants as mark
use Rattle.gen_token.specs.Words.{Word, Name, Number, Literal, Reserved, Sign}
use Rattle.gen_tree.specs.declared.IntOp.{IntOp}
use Rattle.gen_tree.specs.declared.IntOp.TheVariants as int_op
use Rattle.gen_tree.specs.declared.Cmp.{Cmp}
use Rattle.gen_tree.specs.declared.Cmp.TheVariants as cmp
use Rattle.gen_tree.specs.declared.UnOp.{UnOp}
use Rattle.gen_tree.specs.declared.UnOp.TheVariants as un_op
use Rattle.gen_tree.specs.declared.Op.{Op}
use Rattle.gen_tree.specs.declared.Op.TheVariants as op
use Rattle.gen_tree.specs.declared.Dialect.{Dialect}
use Rattle.gen_tree.specs.declared.Dialect.TheVariants as dialect

-- whether a word is this mark
abbrev pub is_mark : Mark → Word → Bool
is_mark m (Name x) = false
is_mark m (Number n) = false
is_mark m (Literal w v) = false
is_mark m (Reserved k) = false
is_mark m (Sign found) = sameb mark_enum.the_type found m

-- whether a word is this keyword
abbrev pub is_keyword : Keyword → Word → Bool
is_keyword k (Name x) = false
is_keyword k (Number n) = false
is_keyword k (Literal w v) = false
is_keyword k (Reserved found) = sameb keyword_enum.the_type found k
is_keyword k (Sign m) = false

-- a name's bytes
abbrev pub name_form : Word → Option (List ℕ)
name_form (Name x) = Some x
name_form (Number n) = None
name_form (Literal w v) = None
name_form (Reserved k) = None
name_form (Sign m) = None

-- a form in a source, and another in a condition
abbrev pub in_source : {A : Type 0} → Dialect → A → A → A
in_source dialect.Source form other = form
in_source dialect.Condition form other = other

-- ---- integers

pub data IntForm : Type 0 where
  a_number : ℕ → IntForm
  a_variable : List ℕ → IntForm
  a_group : IntForm
  no_int : IntForm

abbrev pub int_form : Dialect → Word → IntForm
int_form m (Number n) = a_number n
int_form m (Name x) = in_source m (a_variable x) no_int
int_form m (Literal w v) = no_int
int_form m (Reserved k) = no_int
int_form m (Sign mark.LeftParen) = in_source m a_group no_int
int_form m (Sign _) = no_int

abbrev pub int_op_form : Word → Option IntOp
int_op_form (Name x) = None
int_op_form (Number n) = None
int_op_form (Literal w v) = None
int_op_form (Reserved k) = None
int_op_form (Sign mark.Plus) = Some int_op.Add
int_op_form (Sign mark.Minus) = Some int_op.Sub
int_op_form (Sign mark.Star) = Some int_op.Mul
int_op_form (Sign _) = None

abbrev pub cmp_form : Word → Option Cmp
cmp_form (Name x) = None
cmp_form (Number n) = None
cmp_form (Literal w v) = None
cmp_form (Reserved k) = None
cmp_form (Sign mark.EqualsEquals) = Some cmp.Eq
cmp_form (Sign mark.NotEquals) = Some cmp.Ne
cmp_form (Sign mark.Less) = Some cmp.Lt
cmp_form (Sign mark.LessEquals) = Some cmp.Le
cmp_form (Sign _) = None

-- ---- expressions

pub data LitForm : Type 0 where
  a_plain : ℕ → ℕ → LitForm
  a_bits : LitForm
  no_lit : LitForm

abbrev pub lit_form : Dialect → Word → LitForm
lit_form m (Name x) = no_lit
lit_form m (Number n) = no_lit
lit_form m (Literal w v) = a_plain w v
lit_form m (Reserved keyword.Bits) = in_source m a_bits no_lit
lit_form m (Reserved _) = no_lit
lit_form m (Sign _) = no_lit

-- whether a literal begins so
abbrev pub is_lit : LitForm → Bool
is_lit (a_plain w v) = true
is_lit a_bits = true
is_lit no_lit = false

abbrev pub op_form : Word → Option Op
op_form (Name x) = None
op_form (Number n) = None
op_form (Literal w v) = None
op_form (Reserved k) = None
op_form (Sign mark.Plus) = Some op.Add
op_form (Sign mark.Minus) = Some op.Sub
op_form (Sign mark.Star) = Some op.Mul
op_form (Sign mark.Ampersand) = Some op.And
op_form (Sign mark.Bar) = Some op.Or
op_form (Sign mark.Caret) = Some op.Xor
op_form (Sign mark.EqualsEquals) = Some op.Eq
op_form (Sign mark.NotEquals) = Some op.Ne
op_form (Sign mark.Less) = Some op.Lt
op_form (Sign mark.LessEquals) = Some op.Le
op_form (Sign mark.LessLess) = Some op.Shl
op_form (Sign mark.GreaterGreater) = Some op.Shr
op_form (Sign _) = None

pub data PrimForm : Type 0 where
  a_name : List ℕ → PrimForm
  a_lit : LitForm → PrimForm
  a_bracket : PrimForm
  a_unary : UnOp → PrimForm
  a_cat : PrimForm
  a_mux : PrimForm
  a_zext : PrimForm

abbrev pub prim_form : Dialect → Word → PrimForm
prim_form m (Name x) = a_name x
prim_form m (Number n) = a_lit no_lit
prim_form m (Literal w v) = a_lit (lit_form m (Literal w v))
prim_form m (Reserved keyword.All) = a_unary un_op.All
prim_form m (Reserved keyword.Any) = a_unary un_op.Any
prim_form m (Reserved keyword.Parity) = a_unary un_op.Parity
prim_form m (Reserved keyword.Cat) = a_cat
prim_form m (Reserved keyword.Mux) = a_mux
prim_form m (Reserved keyword.Zext) = a_zext
prim_form m (Reserved k) = a_lit (lit_form m (Reserved k))
prim_form m (Sign mark.LeftParen) = a_bracket
prim_form m (Sign mark.Tilde) = a_unary un_op.Not
prim_form m (Sign _) = a_lit no_lit

-- ---- statements and items

pub data StmtForm : Type 0 where
  an_assign : List ℕ → StmtForm
  a_let : StmtForm
  an_if : StmtForm
  a_case : StmtForm
  a_for : StmtForm
  a_gen : StmtForm
  no_stmt_form : StmtForm

abbrev pub stmt_form : Word → StmtForm
stmt_form (Name x) = an_assign x
stmt_form (Number n) = no_stmt_form
stmt_form (Literal w v) = no_stmt_form
stmt_form (Reserved keyword.Let) = a_let
stmt_form (Reserved keyword.If) = an_if
stmt_form (Reserved keyword.Case) = a_case
stmt_form (Reserved keyword.For) = a_for
stmt_form (Reserved keyword.Gen) = a_gen
stmt_form (Reserved _) = no_stmt_form
stmt_form (Sign m) = no_stmt_form

pub data ItemForm : Type 0 where
  a_wire : ItemForm
  a_reg : ItemForm
  an_inst : ItemForm
  a_block : Bool → ItemForm
  a_for_item : ItemForm
  a_gen_item : ItemForm
  no_item_form : ItemForm

abbrev pub item_form : Word → ItemForm
item_form (Name x) = no_item_form
item_form (Number n) = no_item_form
item_form (Literal w v) = no_item_form
item_form (Reserved keyword.Wire) = a_wire
item_form (Reserved keyword.Reg) = a_reg
item_form (Reserved keyword.Inst) = an_inst
item_form (Reserved keyword.Comb) = a_block false
item_form (Reserved keyword.Ff) = a_block true
item_form (Reserved keyword.For) = a_for_item
item_form (Reserved keyword.Gen) = a_gen_item
item_form (Reserved _) = no_item_form
item_form (Sign m) = no_item_form

-- the keyword of a port: whether it is an output
abbrev pub port_form : Word → Option Bool
port_form (Name x) = None
port_form (Number n) = None
port_form (Literal w v) = None
port_form (Reserved keyword.Output) = Some true
port_form (Reserved keyword.Input) = Some false
port_form (Reserved _) = None
port_form (Sign m) = None
