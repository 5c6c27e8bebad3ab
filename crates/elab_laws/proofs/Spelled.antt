-- Names of a source that was read are names, its lines are lines, and there are no more of its parts than it has tokens.
use Rattle.std.proofs.Common.{◌≡◌, ℕ, ◌+◌, ◌^◌, ◌<◌, ◌≤◌, ◌==◌, Bool, true, false, ◌&&◌, ◌||◌, if◌then◌else◌, List, [], ◌∷◌, length, length-append, append-nil, Option, Some, None, IsSomeAnd, true≢false, refl, sym, ap, ◌∙◌, subst, arith}
use Rattle.gen_token.specs.declared.Keyword.{Keyword}
use Rattle.gen_token.specs.declared.Keyword.TheVariants as keyword
use Rattle.gen_token.specs.declared.Mark.{Mark}
use Rattle.gen_token.specs.declared.Mark.TheVariants as mark
use Rattle.gen_token.specs.Bytes.{is_blank, begins}
use Rattle.gen_token.specs.Words.{Word, Name, Number, Literal, Reserved, Sign, Tok}
use Rattle.gen_token.specs.Spelling.{IsName, IsTokenOf}
use Rattle.gen_token.specs.Spelling as spelling
use Rattle.gen_token.specs.Tokens.{skip, token_at, TokensFrom}
use Rattle.gen_token.proofs.Beginnings.{first_of, text_begins}
use Rattle.gen_token.proofs.ReadToken.{exact}
use Rattle.places.specs.Places.{place}
use Rattle.gen_text.specs.Source.{Reads}
use Rattle.gen_tree.specs.declared.Dialect.TheVariants as dialect
use Rattle.gen_tree.specs.Grammar.{◌⨾◌, Single, StartsAt, Key, Sym, Each, Braces, int_op_mark, cmp_mark, SourceInt, SourceFam, SourceExpr, SpellsIndex, SpellsLit, un_op_word, op_mark, SpellsTwo, SpellsPrim, SpellsTurns, SpellsGiven, SpellsParam, SpellsParams, assign_mark, SpellsPart, SpellsTests, SpellsStmt, SpellsStmts, SpellsElse, SpellsDefault, SpellsArms, SpellsSomeArms, SpellsConn, SpellsItem, SpellsItems, SpellsElseItems, direction, SpellsPort, SpellsModule, SpellsModules, SpellsImport}
use Rattle.gen_tree.specs.Tree.{Int, num, var, bin, Fam, Lit, plain, bits, Expr, read, out, value, unary, binary, mux, zext, slice, Stmt, assign, bind, choose, select, repeat, given, Stmts, no_stmt, stmt, Else, no_else, otherwise, Arms, no_arm, arm, Param, Conn, Item, wire, reg, inst, comb, ff, repeat_items, given_items, Items, no_item, item, ElseItems, no_else_items, otherwise_items, Port, Module, Import, Source, all_modules}
use Rattle.list_core.specs.Lists.{EachOf}
use Rattle.design_core.specs.WellFormed.{IsLine}
use Rattle.elab_laws.proofs.Fine.{Stands, StmtOf, StmtsOf, ElseOf, ArmsOf, most_params, ItemOf, ItemsOf, ElseItemsOf, PortOf, ModuleOf, both_each}
use Rattle.elab_laws.specs.Laws.{AreReadFrom}

-- what holds of tokens, and then of those behind the first of them
pub record Falls : Type 1 where
  pub holds : List Tok → Type 0
  pub behind : (t : Tok) (ts : List Tok) → holds (t ∷ ts) → holds ts

-- behind a span it holds too
record Keeps (P : Falls) (S : List Tok → List Tok → Type 0) : Type 0 where
  pub on : (ts rest : List Tok) → S ts rest → P.holds ts → P.holds rest

infixr 6 ◌▷◌
◌▷◌ : {P : Falls} {A B : List Tok → List Tok → Type 0} → Keeps P A → Keeps P B → Keeps P (A ⨾ B)
a ▷ b = record { on = λ ts rest s h. b.on s.0 rest s.2 (a.on ts s.0 s.1 h) }

one : (P : Falls) (w : Word) → Keeps P (Single w)
one P w = record { on = λ ts rest. first ts rest }
  where
    first : (ts rest : List Tok) → Single w ts rest → P.holds ts → P.holds rest
    first [] rest s h = absurd s
    first (t ∷ ts) rest s h = subst P.holds s.1 (P.behind t ts h)

key : (P : Falls) (k : Keyword) → Keeps P (Key k)
key P k = one P (Reserved k)

mark_of : (P : Falls) (m : Mark) → Keeps P (Sym m)
mark_of P m = one P (Sign m)

each : {A : Type 0} (P : Falls) (S : A → List Tok → List Tok → Type 0) → ((a : A) → Keeps P (S a)) → (xs : List A) → Keeps P (Each S xs)
each P S k [] = record { on = λ ts rest e h. subst P.holds e h }
each P S k (x ∷ xs) = record { on = λ ts rest s h. (k x ▷ each P S k xs).on ts rest s h }

braces : {S : List Tok → List Tok → Type 0} (P : Falls) → Keeps P S → Keeps P (Braces S)
braces P k = mark_of P mark.LeftBrace ▷ k ▷ mark_of P mark.RightBrace

-- ---- expressions

int : (P : Falls) (i : Int) → Keeps P (SourceInt i)
int P (num n) = one P (Number n)
int P (var x) = one P (Name x)
int P (bin o a b) = mark_of P mark.LeftParen ▷ int P a ▷ mark_of P (int_op_mark o) ▷ int P b ▷ mark_of P mark.RightParen

index : (P : Falls) (o : Option Int) → Keeps P (SpellsIndex dialect.Source o)
index P None = record { on = λ ts rest e h. subst P.holds e h }
index P (Some i) = record { on = λ ts rest s h. (mark_of P mark.Hash ▷ int P i).on ts rest s h }

fam : (P : Falls) (f : Fam) → Keeps P (SourceFam f)
fam P f = one P (Name f.name) ▷ index P f.index

lit : (P : Falls) (l : Lit) → Keeps P (SpellsLit dialect.Source l)
lit P (plain w v) = one P (Literal w v)
lit P (bits w v) = key P keyword.Bits ▷ mark_of P mark.LeftParen ▷ int P w ▷ mark_of P mark.Comma ▷ int P v ▷ mark_of P mark.RightParen

two : {A B : List Tok → List Tok → Type 0} (P : Falls) (o : Option Mark) → Keeps P A → Keeps P B → Keeps P (SpellsTwo o A B)
two P (Some m) a b = mark_of P mark.LeftParen ▷ a ▷ mark_of P m ▷ b ▷ mark_of P mark.RightParen
two P None a b = key P keyword.Cat ▷ mark_of P mark.LeftParen ▷ a ▷ mark_of P mark.Comma ▷ b ▷ mark_of P mark.RightParen

mutual
  prim : (P : Falls) (e : Expr) → Keeps P (SpellsPrim dialect.Source e)
  prim P (read f) = fam P f
  prim P (out f q) = fam P f ▷ mark_of P mark.Dot ▷ one P (Name q)
  prim P (value l) = lit P l
  prim P (unary o e) = one P (un_op_word o) ▷ mark_of P mark.LeftParen ▷ expr P e ▷ mark_of P mark.RightParen
  prim P (binary o a b) = two P (op_mark o) (expr P a) (expr P b)
  prim P (mux c a b) = key P keyword.Mux ▷ mark_of P mark.LeftParen ▷ expr P c ▷ mark_of P mark.Comma ▷ expr P a ▷ mark_of P mark.Comma ▷ expr P b ▷ mark_of P mark.RightParen
  prim P (zext e w) = key P keyword.Zext ▷ mark_of P mark.LeftParen ▷ expr P e ▷ mark_of P mark.Comma ▷ int P w ▷ mark_of P mark.RightParen
  prim P (slice e h l) = record { on = λ ts rest s h. absurd s }

  expr : (P : Falls) (e : Expr) → Keeps P (SourceExpr e)
  expr P (read f) = fam P f
  expr P (out f q) = fam P f ▷ mark_of P mark.Dot ▷ one P (Name q)
  expr P (value l) = lit P l
  expr P (unary o e) = one P (un_op_word o) ▷ mark_of P mark.LeftParen ▷ expr P e ▷ mark_of P mark.RightParen
  expr P (binary o a b) = two P (op_mark o) (expr P a) (expr P b)
  expr P (mux c a b) = key P keyword.Mux ▷ mark_of P mark.LeftParen ▷ expr P c ▷ mark_of P mark.Comma ▷ expr P a ▷ mark_of P mark.Comma ▷ expr P b ▷ mark_of P mark.RightParen
  expr P (zext e w) = key P keyword.Zext ▷ mark_of P mark.LeftParen ▷ expr P e ▷ mark_of P mark.Comma ▷ int P w ▷ mark_of P mark.RightParen
  expr P (slice e h l) = prim P e ▷ mark_of P mark.LeftBracket ▷ int P h ▷ mark_of P mark.Colon ▷ int P l ▷ mark_of P mark.RightBracket

-- ---- statements

loop : (P : Falls) (x : List ℕ) (a b : Int) → Keeps P (SpellsTurns x a b)
loop P x a b = key P keyword.For ▷ one P (Name x) ▷ key P keyword.In ▷ int P a ▷ mark_of P mark.DotDot ▷ int P b

either : (P : Falls) (a : Int) (c : _) (b : Int) → Keeps P (SpellsGiven a c b)
either P a c b = key P keyword.Gen ▷ key P keyword.If ▷ mark_of P mark.LeftParen ▷ int P a ▷ mark_of P (cmp_mark c) ▷ int P b ▷ mark_of P mark.RightParen

param : (P : Falls) (p : Param) → Keeps P (SpellsParam p)
param P p = one P (Name p.name) ▷ mark_of P mark.Equals ▷ int P p.value

params : (P : Falls) (ps : List Param) → Keeps P (SpellsParams ps)
params P [] = record { on = λ ts rest e h. subst P.holds e h }
params P (p ∷ ps) = record {
  on = λ ts rest s h. (mark_of P mark.LeftParen ▷ param P p ▷ each P (λ q. Sym mark.Comma ⨾ SpellsParam q) (λ q. mark_of P mark.Comma ▷ param P q) ps ▷ mark_of P mark.RightParen).on ts rest s h;
}

part : (P : Falls) (p : Option (Int × Int)) → Keeps P (SpellsPart p)
part P None = record { on = λ ts rest e h. subst P.holds e h }
part P (Some p) = record { on = λ ts rest s h. (mark_of P mark.LeftBracket ▷ int P p.0 ▷ mark_of P mark.Colon ▷ int P p.1 ▷ mark_of P mark.RightBracket).on ts rest s h }

tests_of : (P : Falls) (ls : List Lit) → Keeps P (SpellsTests ls)
tests_of P [] = record { on = λ ts rest s h. absurd s }
tests_of P (l ∷ ls) = record { on = λ ts rest s h. (lit P l ▷ each P (λ k. Sym mark.Comma ⨾ SpellsLit dialect.Source k) (λ k. mark_of P mark.Comma ▷ lit P k) ls).on ts rest s h }

mutual
  statement : (P : Falls) (clocked : Bool) (s : Stmt) → Keeps P (SpellsStmt clocked s)
  statement P clocked (assign line f p e) = record { on = λ ts rest s h. (fam P f ▷ part P p ▷ mark_of P (assign_mark clocked) ▷ expr P e ▷ mark_of P mark.Semicolon).on ts rest s.1 h }
  statement P clocked (bind line f e) = record { on = λ ts rest s h. (key P keyword.Let ▷ fam P f ▷ mark_of P mark.Equals ▷ expr P e ▷ mark_of P mark.Semicolon).on ts rest s.1 h }
  statement P clocked (choose line c a b) = record { on = λ ts rest s h. (key P keyword.If ▷ expr P c ▷ braces P (statements P clocked a) ▷ else_part P clocked b).on ts rest s.1 h }
  statement P clocked (select line v cases other) = record { on = λ ts rest s h. (key P keyword.Case ▷ expr P v ▷ braces P (some_arms P clocked cases ▷ default_part P clocked other)).on ts rest s.1 h }
  statement P clocked (repeat line x a b body) = record { on = λ ts rest s h. (loop P x a b ▷ braces P (statements P clocked body)).on ts rest s.1 h }
  statement P clocked (given line a c b first second) = record { on = λ ts rest s h. (either P a c b ▷ braces P (statements P clocked first) ▷ else_part P clocked second).on ts rest s.1 h }

  statements : (P : Falls) (clocked : Bool) (s : Stmts) → Keeps P (SpellsStmts clocked s)
  statements P clocked no_stmt = record { on = λ ts rest e h. subst P.holds e h }
  statements P clocked (stmt s more) = record { on = λ ts rest p h. (statement P clocked s ▷ statements P clocked more).on ts rest p h }

  else_part : (P : Falls) (clocked : Bool) (e : Else) → Keeps P (SpellsElse clocked e)
  else_part P clocked no_else = record { on = λ ts rest e h. subst P.holds e h }
  else_part P clocked (otherwise body) = record { on = λ ts rest s h. (key P keyword.Else ▷ braces P (statements P clocked body)).on ts rest s h }

  default_part : (P : Falls) (clocked : Bool) (e : Else) → Keeps P (SpellsDefault clocked e)
  default_part P clocked no_else = record { on = λ ts rest e h. subst P.holds e h }
  default_part P clocked (otherwise body) = record { on = λ ts rest s h. (key P keyword.Default ▷ braces P (statements P clocked body)).on ts rest s h }

  arm_list : (P : Falls) (clocked : Bool) (cases : Arms) → Keeps P (SpellsArms clocked cases)
  arm_list P clocked no_arm = record { on = λ ts rest e h. subst P.holds e h }
  arm_list P clocked (arm tests body more) = record { on = λ ts rest s h. ((tests_of P tests ▷ mark_of P mark.Colon ▷ braces P (statements P clocked body)) ▷ arm_list P clocked more).on ts rest s h }

  some_arms : (P : Falls) (clocked : Bool) (cases : Arms) → Keeps P (SpellsSomeArms clocked cases)
  some_arms P clocked no_arm = record { on = λ ts rest s h. absurd s }
  some_arms P clocked (arm tests body more) = record { on = λ ts rest s h. ((tests_of P tests ▷ mark_of P mark.Colon ▷ braces P (statements P clocked body)) ▷ arm_list P clocked more).on ts rest s h }

-- ---- items

conn : (P : Falls) (c : Conn) → Keeps P (SpellsConn c)
conn P c = record { on = λ ts rest s h. (one P (Name c.port) ▷ mark_of P mark.Equals ▷ expr P c.value ▷ mark_of P mark.Semicolon).on ts rest s.1 h }

mutual
  one_item : (P : Falls) (i : Item) → Keeps P (SpellsItem i)
  one_item P (wire line f w) = record { on = λ ts rest s h. (key P keyword.Wire ▷ fam P f ▷ mark_of P mark.Colon ▷ int P w ▷ mark_of P mark.Semicolon).on ts rest s.1 h }
  one_item P (reg line f w l) = record { on = λ ts rest s h. (key P keyword.Reg ▷ fam P f ▷ mark_of P mark.Colon ▷ int P w ▷ mark_of P mark.Equals ▷ lit P l ▷ mark_of P mark.Semicolon).on ts rest s.1 h }
  one_item P (inst line f x args cs) = record { on = λ ts rest s h. (key P keyword.Inst ▷ fam P f ▷ mark_of P mark.Colon ▷ one P (Name x) ▷ params P args ▷ braces P (each P SpellsConn (conn P) cs)).on ts rest s.1 h }
  one_item P (comb line body) = record { on = λ ts rest s h. (key P keyword.Comb ▷ braces P (statements P false body)).on ts rest s.1 h }
  one_item P (ff line body) = record { on = λ ts rest s h. (key P keyword.Ff ▷ braces P (statements P true body)).on ts rest s.1 h }
  one_item P (repeat_items line x a b body) = record { on = λ ts rest s h. (loop P x a b ▷ braces P (all_items P body)).on ts rest s.1 h }
  one_item P (given_items line a c b first second) = record { on = λ ts rest s h. (either P a c b ▷ braces P (all_items P first) ▷ else_items P second).on ts rest s.1 h }

  all_items : (P : Falls) (body : Items) → Keeps P (SpellsItems body)
  all_items P no_item = record { on = λ ts rest e h. subst P.holds e h }
  all_items P (item i more) = record { on = λ ts rest s h. (one_item P i ▷ all_items P more).on ts rest s h }

  else_items : (P : Falls) (e : ElseItems) → Keeps P (SpellsElseItems e)
  else_items P no_else_items = record { on = λ ts rest e h. subst P.holds e h }
  else_items P (otherwise_items body) = record { on = λ ts rest s h. (key P keyword.Else ▷ braces P (all_items P body)).on ts rest s h }

-- ---- modules

port : (P : Falls) (p : Port) → Keeps P (SpellsPort p)
port P p = record { on = λ ts rest s h. (key P (direction p.output) ▷ one P (Name p.name) ▷ mark_of P mark.Colon ▷ int P p.width ▷ mark_of P mark.Semicolon).on ts rest s.1 h }

one_module : (P : Falls) (m : Module) → Keeps P (SpellsModule m)
one_module P m = record {
  on = λ ts rest s h.
      (key P keyword.Module ▷ one P (Name m.name) ▷ params P m.params ▷ mark_of P mark.LeftBrace ▷ each P SpellsPort (port P) m.ports ▷ all_items P m.items ▷ mark_of P mark.RightBrace).on ts rest s.1 h;
}

-- ---- tokens of a source

-- a token on a line; a name is a name
abbrev pub TokFine : Tok → Type 0
TokFine t = IsLine t.line × ((x : List ℕ) → t.word ≡ Name x → IsName x)

-- so they are all, and with so many more there are at most twice as many as there may be parameters
pub record AreSound (n : ℕ) (ts : List Tok) : Type 0 where
  pub each : EachOf TokFine ts
  pub few : n + length ts ≤ 2097152

one_less : (n : ℕ) (t : Tok) (ts : List Tok) → AreSound n (t ∷ ts) → AreSound (n + 1) ts
one_less n t ts h = record { each = h.each.1; few = omega (arith, h.few) }

fewer : (n : ℕ) (ts : List Tok) → AreSound (n + 1) ts → AreSound n ts
fewer n ts h = record { each = h.each; few = omega (arith, h.few) }

abbrev sound : ℕ → Falls
sound n = record { holds = AreSound n; behind = λ t ts h. fewer n ts (one_less n t ts h) }

-- behind one token there is one less
behind_one : (n : ℕ) (w : Word) (ts rest : List Tok) → Single w ts rest → AreSound n ts → AreSound (n + 1) rest
behind_one n w [] rest s h = absurd s
behind_one n w (t ∷ ts) rest s h = subst (AreSound (n + 1)) s.1 (one_less n t ts h)

the_name : (n : ℕ) (x : List ℕ) (ts rest : List Tok) → Single (Name x) ts rest → AreSound n ts → IsName x
the_name n x [] rest s h = absurd s
the_name n x (t ∷ ts) rest s h = h.each.0.1 x s.0

the_line : (n line : ℕ) (ts : List Tok) → StartsAt line ts → AreSound n ts → IsLine line
the_line n line [] s h = absurd s
the_line n line (t ∷ ts) s h = subst IsLine s h.each.0.0

here : (n line : ℕ) (ts : List Tok) → StartsAt line ts → AreSound n ts → Stands n line
here n line ts s h = (the_line n line ts s h, omega (arith, h.few))

-- a loop has one more
in_loop : (n : ℕ) (x : List ℕ) (a b : Int) (ts rest : List Tok) → SpellsTurns x a b ts rest → AreSound n ts → AreSound (n + 1) rest
in_loop n x a b ts rest s h =
    let P = sound (n + 1) in
    (one P (Name x) ▷ key P keyword.In ▷ int P a ▷ mark_of P mark.DotDot ▷ int P b).on s.0 rest s.2 (behind_one n (Reserved keyword.For) ts s.0 s.1 h)

mutual
  stmt_of : (n : ℕ) (clocked : Bool) (s : Stmt) (ts rest : List Tok) → SpellsStmt clocked s ts rest → AreSound n ts → StmtOf n s
  stmt_of n clocked (assign line f p e) ts rest s h = here n line ts s.0 h
  stmt_of n clocked (bind line f e) ts rest s h = here n line ts s.0 h
  stmt_of n clocked (choose line c first second) ts rest s h =
      let P = sound n in
      let p = s.1 in
      let q = p.2 in
      let r = q.2 in
      let body = r.1 in
      let inner = body.2 in
      let before = (key P keyword.If ▷ expr P c).on ts q.0 (p.0, p.1, q.1) h in (
        here n line ts s.0 h,
        stmts_of n clocked first body.0 inner.0 inner.1 ((mark_of P mark.LeftBrace).on q.0 body.0 body.1 before),
        else_of n clocked second r.0 rest r.2 ((braces P (statements P clocked first)).on q.0 r.0 r.1 before),
      )
  stmt_of n clocked (select line v cases other) ts rest s h =
      let P = sound n in
      let p = s.1 in
      let q = p.2 in
      let body = q.2 in
      let inner = body.2 in
      let split = inner.1 in
      let at_arms = (mark_of P mark.LeftBrace).on q.0 body.0 body.1 ((key P keyword.Case ▷ expr P v).on ts q.0 (p.0, p.1, q.1) h) in (
        here n line ts s.0 h,
        some_arms_of n clocked cases body.0 split.0 split.1 at_arms,
        default_of n clocked other split.0 inner.0 split.2 ((some_arms P clocked cases).on body.0 split.0 split.1 at_arms),
      )
  stmt_of n clocked (repeat line x a b body) ts rest s h =
      let p = s.1 in
      let q = p.2 in
      let r = q.2 in
      stmts_of (n + 1) clocked body q.0 r.0 r.1 ((mark_of (sound (n + 1)) mark.LeftBrace).on p.0 q.0 q.1 (in_loop n x a b ts p.0 p.1 h))
  stmt_of n clocked (given line a c b first second) ts rest s h =
      let P = sound n in
      let p = s.1 in
      let q = p.2 in
      let body = q.1 in
      let inner = body.2 in
      let before = (either P a c b).on ts p.0 p.1 h in
      (stmts_of n clocked first body.0 inner.0 inner.1 ((mark_of P mark.LeftBrace).on p.0 body.0 body.1 before), else_of n clocked second q.0 rest q.2 ((braces P (statements P clocked first)).on p.0 q.0 q.1 before))

  stmts_of : (n : ℕ) (clocked : Bool) (body : Stmts) (ts rest : List Tok) → SpellsStmts clocked body ts rest → AreSound n ts → StmtsOf n body
  stmts_of n clocked no_stmt ts rest s h = tt
  stmts_of n clocked (stmt first more) ts rest s h = (stmt_of n clocked first ts s.0 s.1 h, stmts_of n clocked more s.0 rest s.2 ((statement (sound n) clocked first).on ts s.0 s.1 h))

  else_of : (n : ℕ) (clocked : Bool) (e : Else) (ts rest : List Tok) → SpellsElse clocked e ts rest → AreSound n ts → ElseOf n e
  else_of n clocked no_else ts rest s h = tt
  else_of n clocked (otherwise body) ts rest s h =
      let P = sound n in
      let q = s.2 in
      let r = q.2 in
      stmts_of n clocked body q.0 r.0 r.1 ((mark_of P mark.LeftBrace).on s.0 q.0 q.1 ((key P keyword.Else).on ts s.0 s.1 h))

  default_of : (n : ℕ) (clocked : Bool) (e : Else) (ts rest : List Tok) → SpellsDefault clocked e ts rest → AreSound n ts → ElseOf n e
  default_of n clocked no_else ts rest s h = tt
  default_of n clocked (otherwise body) ts rest s h =
      let P = sound n in
      let q = s.2 in
      let r = q.2 in
      stmts_of n clocked body q.0 r.0 r.1 ((mark_of P mark.LeftBrace).on s.0 q.0 q.1 ((key P keyword.Default).on ts s.0 s.1 h))

  arms_of : (n : ℕ) (clocked : Bool) (cases : Arms) (ts rest : List Tok) → SpellsArms clocked cases ts rest → AreSound n ts → ArmsOf n cases
  arms_of n clocked no_arm ts rest s h = tt
  arms_of n clocked (arm tests body more) ts rest s h =
      let P = sound n in
      let first = s.1 in
      let colon = first.2 in
      let brace = colon.2 in
      let inner = brace.2 in (
        stmts_of n clocked body brace.0 inner.0 inner.1 ((mark_of P mark.LeftBrace).on colon.0 brace.0 brace.1 ((tests_of P tests ▷ mark_of P mark.Colon).on ts colon.0 (first.0, first.1, colon.1) h)),
        arms_of n clocked more s.0 rest s.2 ((tests_of P tests ▷ mark_of P mark.Colon ▷ braces P (statements P clocked body)).on ts s.0 s.1 h),
      )

  some_arms_of : (n : ℕ) (clocked : Bool) (cases : Arms) (ts rest : List Tok) → SpellsSomeArms clocked cases ts rest → AreSound n ts → ArmsOf n cases
  some_arms_of n clocked no_arm ts rest s h = absurd s
  some_arms_of n clocked (arm tests body more) ts rest s h =
      let P = sound n in
      let first = s.1 in
      let colon = first.2 in
      let brace = colon.2 in
      let inner = brace.2 in (
        stmts_of n clocked body brace.0 inner.0 inner.1 ((mark_of P mark.LeftBrace).on colon.0 brace.0 brace.1 ((tests_of P tests ▷ mark_of P mark.Colon).on ts colon.0 (first.0, first.1, colon.1) h)),
        arms_of n clocked more s.0 rest s.2 ((tests_of P tests ▷ mark_of P mark.Colon ▷ braces P (statements P clocked body)).on ts s.0 s.1 h),
      )

conns_of : (n : ℕ) (cs : List Conn) (ts rest : List Tok) → Each SpellsConn cs ts rest → AreSound n ts → EachOf (λ (c : Conn). IsLine c.line) cs
conns_of n [] ts rest s h = tt
conns_of n (c ∷ cs) ts rest s h = (the_line n c.line ts s.1.0 h, conns_of n cs s.0 rest s.2 ((conn (sound n) c).on ts s.0 s.1 h))

mutual
  item_of : (n : ℕ) (i : Item) (ts rest : List Tok) → SpellsItem i ts rest → AreSound n ts → ItemOf IsName n i
  item_of n (wire line f w) ts rest s h = the_line n line ts s.0 h
  item_of n (reg line f w l) ts rest s h = the_line n line ts s.0 h
  item_of n (inst line f x args cs) ts rest s h =
      let P = sound n in
      let a = s.1 in
      let b = a.2 in
      let c = b.2 in
      let d = c.2 in
      let e = d.2 in
      let body = e.2 in
      let inner = body.2 in
      let at_name = (key P keyword.Inst).on ts a.0 a.1 h in
      let at_body = (fam P f ▷ mark_of P mark.Colon ▷ one P (Name x) ▷ params P args).on a.0 e.0 (b.0, b.1, (c.0, c.1, (d.0, d.1, e.1))) at_name in
      (the_name n f.name a.0 b.1.0 b.1.1 at_name, the_line n line ts s.0 h, conns_of n cs body.0 inner.0 inner.1 ((mark_of P mark.LeftBrace).on e.0 body.0 body.1 at_body))
  item_of n (comb line body) ts rest s h =
      let P = sound n in
      let p = s.1 in
      let q = p.2 in
      let r = q.2 in
      (the_line n line ts s.0 h, stmts_of n false body q.0 r.0 r.1 ((key P keyword.Comb ▷ mark_of P mark.LeftBrace).on ts q.0 (p.0, p.1, q.1) h))
  item_of n (ff line body) ts rest s h =
      let P = sound n in
      let p = s.1 in
      let q = p.2 in
      let r = q.2 in
      (the_line n line ts s.0 h, stmts_of n true body q.0 r.0 r.1 ((key P keyword.Ff ▷ mark_of P mark.LeftBrace).on ts q.0 (p.0, p.1, q.1) h))
  item_of n (repeat_items line x a b body) ts rest s h =
      let p = s.1 in
      let q = p.2 in
      let r = q.2 in
      items_of (n + 1) body q.0 r.0 r.1 ((mark_of (sound (n + 1)) mark.LeftBrace).on p.0 q.0 q.1 (in_loop n x a b ts p.0 p.1 h))
  item_of n (given_items line a c b first second) ts rest s h =
      let P = sound n in
      let p = s.1 in
      let q = p.2 in
      let body = q.1 in
      let inner = body.2 in
      let before = (either P a c b).on ts p.0 p.1 h in
      (items_of n first body.0 inner.0 inner.1 ((mark_of P mark.LeftBrace).on p.0 body.0 body.1 before), else_items_of n second q.0 rest q.2 ((braces P (all_items P first)).on p.0 q.0 q.1 before))

  items_of : (n : ℕ) (body : Items) (ts rest : List Tok) → SpellsItems body ts rest → AreSound n ts → ItemsOf IsName n body
  items_of n no_item ts rest s h = tt
  items_of n (item i more) ts rest s h = (item_of n i ts s.0 s.1 h, items_of n more s.0 rest s.2 ((one_item (sound n) i).on ts s.0 s.1 h))

  else_items_of : (n : ℕ) (e : ElseItems) (ts rest : List Tok) → SpellsElseItems e ts rest → AreSound n ts → ElseItemsOf IsName n e
  else_items_of n no_else_items ts rest s h = tt
  else_items_of n (otherwise_items body) ts rest s h =
      let P = sound n in
      let q = s.2 in
      let r = q.2 in
      items_of n body q.0 r.0 r.1 ((mark_of P mark.LeftBrace).on s.0 q.0 q.1 ((key P keyword.Else).on ts s.0 s.1 h))

ports_of : (n : ℕ) (ps : List Port) (ts rest : List Tok) → Each SpellsPort ps ts rest → AreSound n ts → EachOf (PortOf IsName) ps
ports_of n [] ts rest s h = tt
ports_of n (p ∷ ps) ts rest s h =
    let q = s.1.1 in (
      (the_name n p.name q.0 q.2.0 q.2.1 ((key (sound n) (direction p.output)).on ts q.0 q.1 h), the_line n p.line ts s.1.0 h),
      ports_of n ps s.0 rest s.2 ((port (sound n) p).on ts s.0 s.1 h),
    )

-- each parameter behind the first has a comma
more_params : (n : ℕ) (ps : List Param) (ts rest : List Tok) → Each (λ p. Sym mark.Comma ⨾ SpellsParam p) ps ts rest → AreSound n ts → length ps + n ≤ 2097152
more_params n [] ts rest s h = omega (arith, h.few)
more_params n (p ∷ ps) ts rest s h =
    let q = s.1 in
    omega (arith, more_params (n + 1) ps s.0 rest s.2 ((param (sound (n + 1)) p).on q.0 s.0 q.2 (behind_one n (Sign mark.Comma) ts q.0 q.1 h)))

params_of : (n : ℕ) (ps : List Param) (ts rest : List Tok) → SpellsParams ps ts rest → AreSound n ts → length ps + n ≤ 2097152
params_of n [] ts rest s h = omega (arith, h.few)
params_of n (p ∷ ps) ts rest s h =
    let q = s.2 in
    let r = q.2 in
    omega (arith, more_params (n + 1) ps q.0 r.0 r.1 ((param (sound (n + 1)) p).on s.0 q.0 q.1 (behind_one n (Sign mark.LeftParen) ts s.0 s.1 h)))

module_of : (m : Module) (ts rest : List Tok) → SpellsModule m ts rest → AreSound most_params ts → ModuleOf IsName m
module_of m ts rest s h =
    let P = sound most_params in
    let a = s.1 in
    let b = a.2 in
    let c = b.2 in
    let d = c.2 in
    let e = d.2 in
    let f = e.2 in
    let at_name = (key P keyword.Module).on ts a.0 a.1 h in
    let at_params = (one P (Name m.name)).on a.0 b.0 b.1 at_name in
    let at_ports = (mark_of P mark.LeftBrace).on c.0 d.0 d.1 ((params P m.params).on b.0 c.0 c.1 at_params) in
    record {
      name = the_name most_params m.name a.0 b.0 b.1 at_name;
      few = omega (arith, params_of most_params m.params b.0 c.0 c.1 at_params);
      ports = ports_of most_params m.ports d.0 e.0 e.1 at_ports;
      items = items_of most_params m.items e.0 f.0 f.1 ((each P SpellsPort (port P) m.ports).on d.0 e.0 e.1 at_ports);
    }

modules_of : (ms : List Module) (ts rest : List Tok) → Each SpellsModule ms ts rest → AreSound most_params ts → EachOf (ModuleOf IsName) ms
modules_of [] ts rest s h = tt
modules_of (m ∷ ms) ts rest s h = (module_of m ts s.0 s.1 h, modules_of ms s.0 rest s.2 ((one_module (sound most_params) m).on ts s.0 s.1 h))

spelled : (ms : List Module) (ts : List Tok) → SpellsModules ms ts → AreSound most_params ts → EachOf (ModuleOf IsName) ms
spelled [] ts s h = absurd s
spelled (m ∷ ms) ts s h = modules_of (m ∷ ms) ts [] s h

one_import : (P : Falls) (i : Import) → Keeps P (SpellsImport i)
one_import P i = record { on = λ ts rest s h. (key P keyword.Import ▷ one P (Name i.name) ▷ mark_of P mark.Semicolon).on ts rest s.1 h }

-- ---- the tokens of a text

begun : (p : ℕ → Bool) (bytes : List ℕ) → begins p bytes ≡ true → 0 < length bytes
begun p [] e = absurd (true≢false (sym e))
begun p (byte ∷ bytes) e = omega arith

-- a token, where it stands: it has a byte at least, and a name is a name
pub record IsHere (text : List ℕ) (word : Word) (rest : List ℕ) : Type 0 where
  pub shorter : length rest < length text
  pub named : (x : List ℕ) → word ≡ Name x → IsName x

token_here : (text : List ℕ) (word : Word) (rest : List ℕ) → token_at text ≡ Some (word, rest) → IsHere text word rest
token_here text word rest e =
    let token : IsTokenOf text word rest = (exact text word rest).0 e in
    let lexeme = token.longest.lexeme in
    let some : 0 < length lexeme = begun (first_of word) lexeme (text_begins word lexeme lexeme [] (sym (append-nil lexeme)) token.longest.spelled) in
    record {
      shorter = omega (arith, some, ap (λ (l : List ℕ). length l) token.longest.split ∙ length-append lexeme rest);
      named = λ x is. let spells : spelling.Spells (Name x) lexeme = subst (λ w. spelling.Spells w lexeme) is token.longest.spelled in subst IsName spells.0 spells.1;
    }

-- blanks and comments: a line feed less is a line more at most
abbrev Before : ℕ → List ℕ → ℕ × List ℕ → Type 0
Before line text at = (at.0 + length at.1 ≤ line + length text) × (length at.1 ≤ length text)

before_more : (line : ℕ) (byte : ℕ) (bytes : List ℕ) (at : ℕ × List ℕ) → Before (line + 1) bytes at → Before line (byte ∷ bytes) at
before_more line byte bytes at h = (omega (arith, h.0), omega (arith, h.1))

before_one : (line : ℕ) (byte : ℕ) (bytes : List ℕ) (at : ℕ × List ℕ) → Before line bytes at → Before line (byte ∷ bytes) at
before_one line byte bytes at h = (omega (arith, h.0), omega (arith, h.1))

skipped : (comment : Bool) (line : ℕ) (text : List ℕ) → Before line text (skip comment line text)
unfolding skip
skipped comment line [] = (omega arith, omega arith)
skipped comment line (byte ∷ bytes) =
    by_test (byte == 10) _ _ (before_more line byte bytes (skip false (line + 1) bytes) (skipped false (line + 1) bytes)) (
    by_test (comment || is_blank byte) _ _ (before_one line byte bytes (skip comment line bytes) (skipped comment line bytes)) (
    by_test (byte == 47 && begins (λ next. next == 47) bytes) _ _ (before_one line byte bytes (skip true line bytes) (skipped true line bytes)) (omega arith, omega arith)
    )
    )
  where
    by_test : (b : Bool) (x y : ℕ × List ℕ) → Before line (byte ∷ bytes) x → Before line (byte ∷ bytes) y → Before line (byte ∷ bytes) (if b then x else y)
    by_test true x y h g = h
    by_test false x y h g = g

-- tokens from a place on: their lines are lines, and there are no more of them than bytes
tokens_fine : (at : ℕ × List ℕ) (toks : List Tok) (end : Option ℕ) → at.0 + length at.1 < 2 ^ 30 → TokensFrom at toks end → EachOf TokFine toks × (length toks ≤ length at.1)
tokens_fine at [] end l h = (tt, omega arith)
tokens_fine at (t ∷ toks) end l h = by_token (token_at at.1) refl h.1 (λ rest m g. tokens_fine (skip false at.0 rest) toks end m g)
  where
    by_token : (o : Option (Word × List ℕ)) → token_at at.1 ≡ o → IsSomeAnd o (λ found. (found.0 ≡ t.word) × TokensFrom (skip false at.0 found.1) toks end)
        → ((rest : List ℕ) → (skip false at.0 rest).0 + length (skip false at.0 rest).1 < 2 ^ 30 → TokensFrom (skip false at.0 rest) toks end → EachOf TokFine toks × (length toks ≤ length (skip false at.0 rest).1))
        → EachOf TokFine (t ∷ toks) × (length (t ∷ toks) ≤ length at.1)
    by_token None e p more = absurd p
    by_token (Some found) e p more =
        let this = token_here at.1 found.0 found.1 e in
        let next = skipped false at.0 found.1 in
        let rest = more found.1 (omega (arith, next.0, this.shorter, l)) p.1 in
        (((omega (arith, h.0, l), λ x is. this.named x (p.0 ∙ is)), rest.0), omega (arith, rest.1, next.1, this.shorter))

-- the modules of a text that was read in a file
pub read_named : (file : ℕ) (text : List ℕ) (source : Source) → file < 64 → Reads file text source → EachOf (ModuleOf IsName) source.modules
read_named file text source low r =
    let start = skipped false (place file 1) text in
    let fine = tokens_fine (skip false (place file 1) text) r.tokens None (omega (arith, low, start.0, r.is_text.fits)) r.are in
    let are_sound : AreSound most_params r.tokens = record { each = fine.0; few = omega (arith, fine.1, start.1, r.is_text.fits) } in
    let s = r.spelled in
    spelled source.modules s.0 s.2 ((each (sound most_params) SpellsImport (one_import (sound most_params)) source.imports).on r.tokens s.0 s.1 are_sound)

-- the modules of files from a number on
pub files_named : (file : ℕ) (sources : List Source) → file + length sources ≤ 64 → AreReadFrom file sources → EachOf (ModuleOf IsName) (all_modules sources)
files_named file [] few texts = tt
files_named file (s ∷ sources) few texts =
    both_each (ModuleOf IsName) s.modules (all_modules sources) (read_named file texts.0.0 s (omega (arith, few)) texts.0.1) (files_named (file + 1) sources (omega (arith, few)) texts.1)
