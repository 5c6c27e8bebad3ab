-- The grammar of the language: what a tree spells, as the tokens from one place up to another.
use Rattle.std.specs.Prelude.{◌≡◌, ℕ, Bool, true, false, List, [], ◌∷◌, Option, Some, None}
use Rattle.gen_token.specs.declared.Keyword.{Keyword}
use Rattle.gen_token.specs.declared.Keyword.TheVariants as keyword
use Rattle.gen_token.specs.declared.Mark.{Mark}
use Rattle.gen_token.specs.declared.Mark.TheVariants as mark
use Rattle.gen_token.specs.Words.{Word, Name, Number, Literal, Reserved, Sign, Tok}
use Rattle.gen_tree.specs.declared.expr.IntOp.{IntOp}
use Rattle.gen_tree.specs.declared.expr.IntOp.TheVariants as int_op
use Rattle.gen_tree.specs.declared.expr.Cmp.{Cmp}
use Rattle.gen_tree.specs.declared.expr.Cmp.TheVariants as cmp
use Rattle.gen_tree.specs.declared.expr.UnOp.{UnOp}
use Rattle.gen_tree.specs.declared.expr.UnOp.TheVariants as un_op
use Rattle.gen_tree.specs.declared.expr.Op.{Op}
use Rattle.gen_tree.specs.declared.expr.Op.TheVariants as op
use Rattle.gen_tree.specs.declared.dialect.Dialect.{Dialect}
use Rattle.gen_tree.specs.declared.dialect.Dialect.TheVariants as dialect
use Rattle.gen_tree.specs.Tree.{Int, num, var, bin, Fam, Lit, plain, bits, Expr, read, out, value, unary, binary, mux, zext, slice, Stmt, assign, bind, choose, select, repeat, given, Stmts, no_stmt, stmt, Else, no_else, otherwise, Arms, no_arm, arm, Param, Conn, Item, wire, reg, inst, comb, ff, repeat_items, given_items, Items, no_item, item, ElseItems, no_else_items, otherwise_items, Port, Module, Import, Source}

-- tokens from here on, and what is left of them there: what lies between is the span
abbrev pub Span : Type 1
Span = List Tok → List Tok → Type 0

infixr 6 ◌⨾◌
-- one span after the other
abbrev pub ◌⨾◌ : Span → Span → Span
(P ⨾ Q) ts rest = (mid : List Tok) × P ts mid × Q mid rest

-- no span
abbrev pub Never : Span
Never ts rest = ⊥

-- one token, which is this word
abbrev pub Single : Word → Span
Single word [] rest = ⊥
Single word (t ∷ ts) rest = (t.word ≡ word) × (ts ≡ rest)

-- one keyword
abbrev pub Key : Keyword → Span
Key k = Single (Reserved k)

-- one mark
abbrev pub Sym : Mark → Span
Sym m = Single (Sign m)

-- the first token stands on this line
abbrev pub StartsAt : ℕ → List Tok → Type 0
StartsAt line [] = ⊥
StartsAt line (t ∷ ts) = t.line ≡ line

-- any number of members, one after the other: { member }
abbrev pub Each : {A : Type 0} → (A → Span) → List A → Span
Each S [] ts rest = ts ≡ rest
Each S (x ∷ xs) ts rest = (S x ⨾ Each S xs) ts rest

-- in round brackets
abbrev pub Parens : Span → Span
Parens S = Sym mark.LeftParen ⨾ S ⨾ Sym mark.RightParen

-- in braces
abbrev pub Braces : Span → Span
Braces S = Sym mark.LeftBrace ⨾ S ⨾ Sym mark.RightBrace

-- ---- integers

-- "+" | "-" | "*"
abbrev pub int_op_mark : IntOp → Mark
int_op_mark int_op.Add = mark.Plus
int_op_mark int_op.Sub = mark.Minus
int_op_mark int_op.Mul = mark.Star

-- "==" | "!=" | "<" | "<="
abbrev pub cmp_mark : Cmp → Mark
cmp_mark cmp.Eq = mark.EqualsEquals
cmp_mark cmp.Ne = mark.NotEquals
cmp_mark cmp.Lt = mark.Less
cmp_mark cmp.Le = mark.LessEquals

-- in a source alone
abbrev pub InSource : Dialect → Span → Span
InSource dialect.Source S = S
InSource dialect.Condition S = Never

-- int = NUMBER | NAME | "(" int ( "+" | "-" | "*" ) int ")"; in a condition NUMBER alone
abbrev pub SpellsInt : Dialect → Int → Span
SpellsInt m (num n) = Single (Number n)
SpellsInt m (var x) = InSource m (Single (Name x))
SpellsInt m (bin o a b) =
    InSource m (Sym mark.LeftParen ⨾ SpellsInt m a ⨾ Sym (int_op_mark o) ⨾ SpellsInt m b ⨾ Sym mark.RightParen)

-- [ "#" int ]
abbrev pub SpellsIndex : Dialect → Option Int → Span
SpellsIndex m None ts rest = ts ≡ rest
SpellsIndex m (Some i) ts rest = (Sym mark.Hash ⨾ SpellsInt m i) ts rest

-- fam = NAME [ "#" int ]
abbrev pub SpellsFam : Dialect → Fam → Span
SpellsFam m f = Single (Name f.name) ⨾ SpellsIndex m f.index

-- ---- expressions

-- lit = LIT | "bits" "(" int "," int ")"; in a condition LIT alone
abbrev pub SpellsLit : Dialect → Lit → Span
SpellsLit m (plain w v) = Single (Literal w v)
SpellsLit m (bits w v) =
    InSource m (Key keyword.Bits ⨾ Sym mark.LeftParen ⨾ SpellsInt m w ⨾ Sym mark.Comma ⨾ SpellsInt m v ⨾ Sym mark.RightParen)

-- "~" | "all" | "any" | "parity"
abbrev pub un_op_word : UnOp → Word
un_op_word un_op.Not = Sign mark.Tilde
un_op_word un_op.All = Reserved keyword.All
un_op_word un_op.Any = Reserved keyword.Any
un_op_word un_op.Parity = Reserved keyword.Parity

-- "+" "-" "*" "&" "|" "^" "==" "!=" "<" "<=" "<<" ">>"; `cat` does not stand between its operands
abbrev pub op_mark : Op → Option Mark
op_mark op.Add = Some mark.Plus
op_mark op.Sub = Some mark.Minus
op_mark op.Mul = Some mark.Star
op_mark op.And = Some mark.Ampersand
op_mark op.Or = Some mark.Bar
op_mark op.Xor = Some mark.Caret
op_mark op.Eq = Some mark.EqualsEquals
op_mark op.Ne = Some mark.NotEquals
op_mark op.Lt = Some mark.Less
op_mark op.Le = Some mark.LessEquals
op_mark op.Shl = Some mark.LessLess
op_mark op.Shr = Some mark.GreaterGreater
op_mark op.Cat = None

-- "(" expr op expr ")" | "cat" "(" expr "," expr ")"
abbrev pub SpellsTwo : Option Mark → Span → Span → Span
SpellsTwo (Some m) A B = Sym mark.LeftParen ⨾ A ⨾ Sym m ⨾ B ⨾ Sym mark.RightParen
SpellsTwo None A B = Key keyword.Cat ⨾ Sym mark.LeftParen ⨾ A ⨾ Sym mark.Comma ⨾ B ⨾ Sym mark.RightParen

-- fam [ "." NAME ], the latter where a name is given
abbrev pub SpellsRead : Dialect → Fam → Option (List ℕ) → Span
SpellsRead m f None = SpellsFam m f
SpellsRead m f (Some q) = SpellsFam m f ⨾ Sym mark.Dot ⨾ Single (Name q)

abbrev mutual
  -- prim: an expression that does not end with a slice
  pub SpellsPrim : Dialect → Expr → Span
  SpellsPrim m (read f) = SpellsRead m f None
  SpellsPrim m (out f q) = SpellsRead m f (Some q)
  SpellsPrim m (value l) = SpellsLit m l
  SpellsPrim m (unary o e) = Single (un_op_word o) ⨾ Sym mark.LeftParen ⨾ SpellsExpr m e ⨾ Sym mark.RightParen
  SpellsPrim m (binary o a b) = SpellsTwo (op_mark o) (SpellsExpr m a) (SpellsExpr m b)
  SpellsPrim m (mux c a b) =
      Key keyword.Mux ⨾ Sym mark.LeftParen ⨾ SpellsExpr m c ⨾ Sym mark.Comma ⨾ SpellsExpr m a ⨾ Sym mark.Comma
      ⨾ SpellsExpr m b ⨾ Sym mark.RightParen
  SpellsPrim m (zext e w) =
      Key keyword.Zext ⨾ Sym mark.LeftParen ⨾ SpellsExpr m e ⨾ Sym mark.Comma ⨾ SpellsInt m w ⨾ Sym mark.RightParen
  SpellsPrim m (slice e h l) = Never

  -- expr = prim [ "[" int ":" int "]" ]
  pub SpellsExpr : Dialect → Expr → Span
  SpellsExpr m (read f) = SpellsRead m f None
  SpellsExpr m (out f q) = SpellsRead m f (Some q)
  SpellsExpr m (value l) = SpellsLit m l
  SpellsExpr m (unary o e) = Single (un_op_word o) ⨾ Sym mark.LeftParen ⨾ SpellsExpr m e ⨾ Sym mark.RightParen
  SpellsExpr m (binary o a b) = SpellsTwo (op_mark o) (SpellsExpr m a) (SpellsExpr m b)
  SpellsExpr m (mux c a b) =
      Key keyword.Mux ⨾ Sym mark.LeftParen ⨾ SpellsExpr m c ⨾ Sym mark.Comma ⨾ SpellsExpr m a ⨾ Sym mark.Comma
      ⨾ SpellsExpr m b ⨾ Sym mark.RightParen
  SpellsExpr m (zext e w) =
      Key keyword.Zext ⨾ Sym mark.LeftParen ⨾ SpellsExpr m e ⨾ Sym mark.Comma ⨾ SpellsInt m w ⨾ Sym mark.RightParen
  SpellsExpr m (slice e h l) =
      SpellsPrim m e ⨾ Sym mark.LeftBracket ⨾ SpellsInt m h ⨾ Sym mark.Colon ⨾ SpellsInt m l ⨾ Sym mark.RightBracket

-- ---- what statements and items share

-- an integer, a fam and an expression of a source
abbrev pub SourceInt : Int → Span
SourceInt i = SpellsInt dialect.Source i

abbrev pub SourceFam : Fam → Span
SourceFam f = SpellsFam dialect.Source f

abbrev pub SourceExpr : Expr → Span
SourceExpr e = SpellsExpr dialect.Source e

-- "for" NAME "in" int ".." int
abbrev pub SpellsTurns : List ℕ → Int → Int → Span
SpellsTurns x a b =
    Key keyword.For ⨾ Single (Name x) ⨾ Key keyword.In ⨾ SourceInt a ⨾ Sym mark.DotDot ⨾ SourceInt b

-- "gen" "if" "(" int cmp int ")"
abbrev pub SpellsGiven : Int → Cmp → Int → Span
SpellsGiven a c b =
    Key keyword.Gen ⨾ Key keyword.If ⨾ Sym mark.LeftParen ⨾ SourceInt a ⨾ Sym (cmp_mark c) ⨾ SourceInt b
    ⨾ Sym mark.RightParen

-- param = NAME "=" int
abbrev pub SpellsParam : Param → Span
SpellsParam p = Single (Name p.name) ⨾ Sym mark.Equals ⨾ SourceInt p.value

-- { "," param }
abbrev pub SpellsMoreParams : List Param → Span
SpellsMoreParams ps = Each (λ p. Sym mark.Comma ⨾ SpellsParam p) ps

-- [ "(" param { "," param } ")" ]
abbrev pub SpellsParams : List Param → Span
SpellsParams [] ts rest = ts ≡ rest
SpellsParams (p ∷ ps) ts rest = (Sym mark.LeftParen ⨾ SpellsParam p ⨾ SpellsMoreParams ps ⨾ Sym mark.RightParen) ts rest

-- ---- statements

-- "<=" in an ff, "=" in a comb
abbrev pub assign_mark : Bool → Mark
assign_mark true = mark.LessEquals
assign_mark false = mark.Equals

-- [ "[" int ":" int "]" ]
abbrev pub SpellsPart : Option (Int × Int) → Span
SpellsPart None ts rest = ts ≡ rest
SpellsPart (Some p) ts rest = (Sym mark.LeftBracket ⨾ SourceInt p.0 ⨾ Sym mark.Colon ⨾ SourceInt p.1 ⨾ Sym mark.RightBracket) ts rest

-- lit { "," lit }
abbrev pub SpellsTests : List Lit → Span
SpellsTests [] = Never
SpellsTests (l ∷ ls) = SpellsLit dialect.Source l ⨾ Each (λ l. Sym mark.Comma ⨾ SpellsLit dialect.Source l) ls

abbrev mutual
  -- a statement of an ff (true) or a comb (false)
  pub SpellsStmt : Bool → Stmt → Span
  SpellsStmt clocked (assign line f part e) ts rest =
      StartsAt line ts × (SourceFam f ⨾ SpellsPart part ⨾ Sym (assign_mark clocked) ⨾ SourceExpr e ⨾ Sym mark.Semicolon) ts rest
  SpellsStmt clocked (bind line f e) ts rest =
      StartsAt line ts × (Key keyword.Let ⨾ SourceFam f ⨾ Sym mark.Equals ⨾ SourceExpr e ⨾ Sym mark.Semicolon) ts rest
  SpellsStmt clocked (choose line c a b) ts rest =
      StartsAt line ts × (Key keyword.If ⨾ SourceExpr c ⨾ Braces (SpellsStmts clocked a) ⨾ SpellsElse clocked b) ts rest
  SpellsStmt clocked (select line v cases other) ts rest =
      StartsAt line ts × (Key keyword.Case ⨾ SourceExpr v ⨾ Braces (SpellsSomeArms clocked cases ⨾ SpellsDefault clocked other)) ts rest
  SpellsStmt clocked (repeat line x a b body) ts rest =
      StartsAt line ts × (SpellsTurns x a b ⨾ Braces (SpellsStmts clocked body)) ts rest
  SpellsStmt clocked (given line a c b first second) ts rest =
      StartsAt line ts × (SpellsGiven a c b ⨾ Braces (SpellsStmts clocked first) ⨾ SpellsElse clocked second) ts rest

  -- { stmt }
  pub SpellsStmts : Bool → Stmts → Span
  SpellsStmts clocked no_stmt ts rest = ts ≡ rest
  SpellsStmts clocked (stmt s more) ts rest = (SpellsStmt clocked s ⨾ SpellsStmts clocked more) ts rest

  -- [ "else" "{" { stmt } "}" ]
  pub SpellsElse : Bool → Else → Span
  SpellsElse clocked no_else ts rest = ts ≡ rest
  SpellsElse clocked (otherwise body) ts rest = (Key keyword.Else ⨾ Braces (SpellsStmts clocked body)) ts rest

  -- [ "default" "{" { stmt } "}" ]
  pub SpellsDefault : Bool → Else → Span
  SpellsDefault clocked no_else ts rest = ts ≡ rest
  SpellsDefault clocked (otherwise body) ts rest = (Key keyword.Default ⨾ Braces (SpellsStmts clocked body)) ts rest

  -- { arm }, where arm = lit { "," lit } ":" "{" { stmt } "}"
  pub SpellsArms : Bool → Arms → Span
  SpellsArms clocked no_arm ts rest = ts ≡ rest
  SpellsArms clocked (arm tests body more) ts rest = ((SpellsTests tests ⨾ Sym mark.Colon ⨾ Braces (SpellsStmts clocked body)) ⨾ SpellsArms clocked more) ts rest

  -- arm { arm }
  pub SpellsSomeArms : Bool → Arms → Span
  SpellsSomeArms clocked no_arm ts rest = ⊥
  SpellsSomeArms clocked (arm tests body more) ts rest = ((SpellsTests tests ⨾ Sym mark.Colon ⨾ Braces (SpellsStmts clocked body)) ⨾ SpellsArms clocked more) ts rest

-- ---- modules

-- conn = NAME "=" expr ";"
abbrev pub SpellsConn : Conn → Span
SpellsConn c ts rest =
    StartsAt c.line ts × (Single (Name c.port) ⨾ Sym mark.Equals ⨾ SourceExpr c.value ⨾ Sym mark.Semicolon) ts rest

abbrev mutual
  pub SpellsItem : Item → Span
  SpellsItem (wire line f w) ts rest =
      StartsAt line ts × (Key keyword.Wire ⨾ SourceFam f ⨾ Sym mark.Colon ⨾ SourceInt w ⨾ Sym mark.Semicolon) ts rest
  SpellsItem (reg line f w l) ts rest =
      StartsAt line ts
      × (Key keyword.Reg ⨾ SourceFam f ⨾ Sym mark.Colon ⨾ SourceInt w ⨾ Sym mark.Equals ⨾ SpellsLit dialect.Source l
      ⨾ Sym mark.Semicolon) ts rest
  SpellsItem (inst line f x args conns) ts rest =
      StartsAt line ts
      × (Key keyword.Inst ⨾ SourceFam f ⨾ Sym mark.Colon ⨾ Single (Name x) ⨾ SpellsParams args
      ⨾ Braces (Each SpellsConn conns)) ts rest
  SpellsItem (comb line body) ts rest = StartsAt line ts × (Key keyword.Comb ⨾ Braces (SpellsStmts false body)) ts rest
  SpellsItem (ff line body) ts rest = StartsAt line ts × (Key keyword.Ff ⨾ Braces (SpellsStmts true body)) ts rest
  SpellsItem (repeat_items line x a b body) ts rest =
      StartsAt line ts × (SpellsTurns x a b ⨾ Braces (SpellsItems body)) ts rest
  SpellsItem (given_items line a c b first second) ts rest =
      StartsAt line ts × (SpellsGiven a c b ⨾ Braces (SpellsItems first) ⨾ SpellsElseItems second) ts rest

  -- { item }
  pub SpellsItems : Items → Span
  SpellsItems no_item ts rest = ts ≡ rest
  SpellsItems (item i more) ts rest = (SpellsItem i ⨾ SpellsItems more) ts rest

  -- [ "else" "{" { item } "}" ]
  pub SpellsElseItems : ElseItems → Span
  SpellsElseItems no_else_items ts rest = ts ≡ rest
  SpellsElseItems (otherwise_items body) ts rest = (Key keyword.Else ⨾ Braces (SpellsItems body)) ts rest

-- the keyword of an output, or else of an input
abbrev pub direction : Bool → Keyword
direction true = keyword.Output
direction false = keyword.Input

-- port = ( "input" | "output" ) NAME ":" int ";"
abbrev pub SpellsPort : Port → Span
SpellsPort p ts rest =
    StartsAt p.line ts
    × (Key (direction p.output) ⨾ Single (Name p.name) ⨾ Sym mark.Colon ⨾ SourceInt p.width ⨾ Sym mark.Semicolon) ts rest

-- module = "module" NAME [ "(" param { "," param } ")" ] "{" { port } { item } "}"
abbrev pub SpellsModule : Module → Span
SpellsModule m ts rest =
    StartsAt m.line ts
    × (Key keyword.Module ⨾ Single (Name m.name) ⨾ SpellsParams m.params
    ⨾ Sym mark.LeftBrace ⨾ Each SpellsPort m.ports ⨾ SpellsItems m.items ⨾ Sym mark.RightBrace) ts rest

-- module { module }, and nothing behind it
abbrev pub SpellsModules : List Module → List Tok → Type 0
SpellsModules [] ts = ⊥
SpellsModules (m ∷ ms) ts = Each SpellsModule (m ∷ ms) ts []

-- "import" NAME ";"
abbrev pub SpellsImport : Import → Span
SpellsImport i ts rest = StartsAt i.line ts × (Key keyword.Import ⨾ Single (Name i.name) ⨾ Sym mark.Semicolon) ts rest

-- source = { "import" NAME ";" } module { module }, and nothing behind it
abbrev pub Spells : Source → List Tok → Type 0
Spells s ts = (mid : List Tok) × Each SpellsImport s.imports ts mid × SpellsModules s.modules mid
