-- The names of a source that was read from a text are texts: a name of a text has letters, digits and _ alone.
use Rattle.std.proofs.Common.{◌≡◌, ℕ, zero, suc, ◌+◌, ◌<◌, ◌&&◌, Bool, true, false, List, [], ◌∷◌, Option, Some, None, IsSomeAnd, IsUtf8, refl, subst, arith}
use Rattle.std.specs.List.{list_all}
use Rattle.std.specs.Str.{IsAscii}
use Rattle.std.proofs.lemmas.Bool.Decides.{nat_tests}
use Rattle.std.proofs.lemmas.Str.{IsUtf8-from_ascii}
use Rattle.list_core.specs.Lists.{EachOf}
use Rattle.gen_token.specs.declared.Keyword.{Keyword}
use Rattle.gen_token.specs.declared.Keyword.TheVariants as keyword
use Rattle.gen_token.specs.declared.Mark.{Mark}
use Rattle.gen_token.specs.declared.Mark.TheVariants as mark
use Rattle.gen_token.specs.Bytes.{is_name_byte, is_letter}
use Rattle.gen_token.specs.Spelling.{is_name_text}
use Rattle.gen_token.specs.Spelling as spelling
use Rattle.gen_token.specs.Tokens.{skip, token_at, TokensFrom}
use Rattle.gen_token.specs.Words.{Word, Name, Number, Literal, Reserved, Sign, Tok}
use Rattle.gen_token.proofs.ReadToken.{exact}
use Rattle.places.specs.Places.{place}
use Rattle.gen_text.specs.Source.{Reads}
use Rattle.elab_laws.specs.Laws.{AreReadFrom}
use Rattle.elab_laws.proofs.Fine.{both_each}
use Rattle.gen_tree.specs.declared.Dialect.TheVariants as dialect
use Rattle.gen_tree.specs.Grammar.{Span, ◌⨾◌, Single, Key, Sym, Each, Braces, int_op_mark, cmp_mark, SourceInt, SourceFam, SourceExpr, SpellsIndex, SpellsLit, un_op_word, op_mark, SpellsTwo, SpellsPrim, SpellsTurns, SpellsGiven, SpellsParam, SpellsMoreParams, SpellsParams, assign_mark, SpellsPart, SpellsTests, SpellsStmt, SpellsStmts, SpellsElse, SpellsDefault, SpellsArms, SpellsSomeArms, SpellsConn, SpellsItem, SpellsItems, SpellsElseItems, direction, SpellsPort, SpellsModule, SpellsModules, SpellsImport}
use Rattle.gen_tree.specs.Tree.{Int, num, var, bin, Fam, Lit, plain, bits, Expr, read, out, value, unary, binary, mux, zext, slice, Stmt, assign, bind, choose, select, repeat, given, Stmts, no_stmt, stmt, Else, no_else, otherwise, Arms, no_arm, arm, Param, Conn, Item, wire, reg, inst, comb, ff, repeat_items, given_items, Items, no_item, item, ElseItems, no_else_items, otherwise_items, Port, Module, Import, Source, all_modules}
use Rattle.gen_tree.specs.declared.Cmp.{Cmp}
use Rattle.name_laws.proofs.Source.{StmtNamed, StmtsNamed, ElseNamed, ArmsNamed, ItemNamed, ItemsNamed, ElseItemsNamed, ParamNamed, PortNamed, ModuleNamed}

-- ---- bytes

both : (a b : Bool) → (a && b) ≡ true → (a ≡ true) × (b ≡ true)
both true b e = (refl, e)
both false b e = absurd (cc)

low_byte : (byte : ℕ) → is_name_byte byte ≡ true → byte < 128
low_byte byte e = grind (arith, nat_tests, e)

low_letter : (byte : ℕ) → is_letter byte ≡ true → byte < 128
low_letter byte e = grind (arith, nat_tests, e)

bytes_low : (bytes : List ℕ) → list_all is_name_byte bytes ≡ true → IsAscii bytes
bytes_low [] e i = omega arith
bytes_low (byte ∷ bytes) e zero = low_byte byte (both (is_name_byte byte) (list_all is_name_byte bytes) e).0
bytes_low (byte ∷ bytes) e (suc i) = bytes_low bytes (both (is_name_byte byte) (list_all is_name_byte bytes) e).1 i

name_low : (bytes : List ℕ) → is_name_text bytes ≡ true → IsAscii bytes
name_low [] e i = omega arith
name_low (byte ∷ bytes) e zero = low_letter byte (both (is_letter byte) (list_all is_name_byte bytes) e).0
name_low (byte ∷ bytes) e (suc i) = bytes_low bytes (both (is_letter byte) (list_all is_name_byte bytes) e).1 i

-- a name is a text
pub name_is_text : (x : List ℕ) → spelling.IsName x → IsUtf8 x
name_is_text x h = IsUtf8-from_ascii x (name_low x h.text)

-- ---- words of a text

abbrev WordNamed : Word → Type 0
WordNamed (Name bytes) = IsUtf8 bytes
WordNamed (Number n) = Unit {0}
WordNamed (Literal w v) = Unit {0}
WordNamed (Reserved k) = Unit {0}
WordNamed (Sign m) = Unit {0}

abbrev Named : List Tok → Type 0
Named toks = EachOf (λ (t : Tok). WordNamed t.word) toks

word_named : (word : Word) (lexeme : List ℕ) → spelling.Spells word lexeme → WordNamed word
word_named (Name bytes) lexeme h = IsUtf8-from_ascii bytes (name_low bytes (subst (λ l. is_name_text l ≡ true) h.0 h.1.text))
word_named (Number n) lexeme h = tt
word_named (Literal w v) lexeme h = tt
word_named (Reserved k) lexeme h = tt
word_named (Sign m) lexeme h = tt

words_named : (at : ℕ × List ℕ) (toks : List Tok) (end : Option ℕ) → TokensFrom at toks end → Named toks
words_named at [] end h = tt
words_named at (tok ∷ toks) end h = by_token (λ next g. words_named next toks end g) (token_at at.1) refl h.1
  where
    by_token : ((next : ℕ × List ℕ) → TokensFrom next toks end → Named toks) → (o : Option (Word × List ℕ)) → token_at at.1 ≡ o
        → IsSomeAnd o (λ found. (found.0 ≡ tok.word) × TokensFrom (skip false at.0 found.1) toks end) → Named (tok ∷ toks)
    by_token more None e g = absurd g
    by_token more (Some found) e g =
        let token = (exact at.1 found.0 found.1).0 e in
        (subst WordNamed g.0 (word_named found.0 token.longest.lexeme token.longest.spelled), more (skip false at.0 found.1) g.1)

-- ---- what spans give: the names in them, and that those behind are texts

abbrev Gives : Span → Type 0 → Type 0
Gives S N = (ts rest : List Tok) → S ts rest → Named ts → N × Named rest

infixr 6 ◌▷◌
◌▷◌ : {A B : Span} {M N : Type 0} → Gives A M → Gives B N → Gives (A ⨾ B) (M × N)
(a ▷ b) ts rest h w = let x = a ts h.0 h.1 w in let y = b h.0 rest h.2 x.1 in ((x.0, y.0), y.1)

giving : {S : Span} {M N : Type 0} → (M → N) → Gives S M → Gives S N
giving f a ts rest h w = let x = a ts rest h w in (f x.0, x.1)

nothing : {S : Span} {M : Type 0} → Gives S M → Gives S (Unit {0})
nothing a = giving (λ x. tt) a

single : (word : Word) → Gives (Single word) (WordNamed word)
single word [] rest h w = absurd h
single word (t ∷ ts) rest h w = (subst WordNamed h.0 w.0, subst Named h.1 w.1)

key : (k : Keyword) → Gives (Key k) (Unit {0})
key k = single (Reserved k)

sign : (m : Mark) → Gives (Sym m) (Unit {0})
sign m = single (Sign m)

each : {A : Type 0} (S : A → Span) (N : A → Type 0) → ((a : A) → Gives (S a) (N a)) → (xs : List A) → Gives (Each S xs) (EachOf N xs)
each S N g [] ts rest h w = (tt, subst Named h w)
each S N g (x ∷ xs) ts rest h w = (g x ▷ each S N g xs) ts rest h w

braces : {S : Span} {N : Type 0} → Gives S N → Gives (Braces S) N
braces g = giving (λ x. x.1.0) (sign mark.LeftBrace ▷ g ▷ sign mark.RightBrace)

-- ---- expressions

int : (i : Int) → Gives (SourceInt i) (Unit {0})
int (num n) = single (Number n)
int (var x) = nothing (single (Name x))
int (bin o a b) = nothing (sign mark.LeftParen ▷ int a ▷ sign (int_op_mark o) ▷ int b ▷ sign mark.RightParen)

index : (o : Option Int) → Gives (SpellsIndex dialect.Source o) (Unit {0})
index None ts rest h w = (tt, subst Named h w)
index (Some i) ts rest h w = nothing (sign mark.Hash ▷ int i) ts rest h w

fam : (f : Fam) → Gives (SourceFam f) (IsUtf8 f.name)
fam f = giving (λ x. x.0) (single (Name f.name) ▷ index f.index)

lit : (l : Lit) → Gives (SpellsLit dialect.Source l) (Unit {0})
lit (plain w v) = single (Literal w v)
lit (bits w v) = nothing (key keyword.Bits ▷ sign mark.LeftParen ▷ int w ▷ sign mark.Comma ▷ int v ▷ sign mark.RightParen)

two : (o : Option Mark) {A B : Span} → Gives A (Unit {0}) → Gives B (Unit {0}) → Gives (SpellsTwo o A B) (Unit {0})
two (Some m) a b = nothing (sign mark.LeftParen ▷ a ▷ sign m ▷ b ▷ sign mark.RightParen)
two None a b = nothing (key keyword.Cat ▷ sign mark.LeftParen ▷ a ▷ sign mark.Comma ▷ b ▷ sign mark.RightParen)

prim_is_expr : (e : Expr) (ts rest : List Tok) → SpellsPrim dialect.Source e ts rest → SourceExpr e ts rest
prim_is_expr (read f) ts rest h = h
prim_is_expr (out f q) ts rest h = h
prim_is_expr (value l) ts rest h = h
prim_is_expr (unary o e) ts rest h = h
prim_is_expr (binary o a b) ts rest h = h
prim_is_expr (mux c a b) ts rest h = h
prim_is_expr (zext e w) ts rest h = h
prim_is_expr (slice e x y) ts rest h = absurd h

as_prim : (e : Expr) → Gives (SourceExpr e) (Unit {0}) → Gives (SpellsPrim dialect.Source e) (Unit {0})
as_prim e g ts rest h w = g ts rest (prim_is_expr e ts rest h) w

expr : (e : Expr) → Gives (SourceExpr e) (Unit {0})
expr (read f) = nothing (fam f)
expr (out f q) = nothing (fam f ▷ sign mark.Dot ▷ single (Name q))
expr (value l) = lit l
expr (unary o e) = nothing (single (un_op_word o) ▷ sign mark.LeftParen ▷ expr e ▷ sign mark.RightParen)
expr (binary o a b) = two (op_mark o) (expr a) (expr b)
expr (mux c a b) = nothing (key keyword.Mux ▷ sign mark.LeftParen ▷ expr c ▷ sign mark.Comma ▷ expr a ▷ sign mark.Comma ▷ expr b ▷ sign mark.RightParen)
expr (zext e w) = nothing (key keyword.Zext ▷ sign mark.LeftParen ▷ expr e ▷ sign mark.Comma ▷ int w ▷ sign mark.RightParen)
expr (slice e h l) = nothing (as_prim e (expr e) ▷ sign mark.LeftBracket ▷ int h ▷ sign mark.Colon ▷ int l ▷ sign mark.RightBracket)

-- ---- statements

loop : (x : List ℕ) (a b : Int) → Gives (SpellsTurns x a b) (IsUtf8 x)
loop x a b = giving (λ x. x.1.0) (key keyword.For ▷ single (Name x) ▷ key keyword.In ▷ int a ▷ sign mark.DotDot ▷ int b)

choice : (a : Int) (c : Cmp) (b : Int) → Gives (SpellsGiven a c b) (Unit {0})
choice a c b = nothing (key keyword.Gen ▷ key keyword.If ▷ sign mark.LeftParen ▷ int a ▷ sign (cmp_mark c) ▷ int b ▷ sign mark.RightParen)

part : (p : Option (Int × Int)) → Gives (SpellsPart p) (Unit {0})
part None ts rest h w = (tt, subst Named h w)
part (Some p) ts rest h w = nothing (sign mark.LeftBracket ▷ int p.0 ▷ sign mark.Colon ▷ int p.1 ▷ sign mark.RightBracket) ts rest h w

tests_of : (ls : List Lit) → Gives (SpellsTests ls) (Unit {0})
tests_of [] ts rest h w = absurd h
tests_of (l ∷ ls) ts rest h w = nothing (lit l ▷ each (λ k. Sym mark.Comma ⨾ SpellsLit dialect.Source k) (λ k. Unit {0}) (λ k. nothing (sign mark.Comma ▷ lit k)) ls) ts rest h w

mutual
  statement : (clocked : Bool) (s : Stmt) → Gives (SpellsStmt clocked s) (StmtNamed s)
  statement clocked (assign line f p e) = λ ts rest h w. nothing (fam f ▷ part p ▷ sign (assign_mark clocked) ▷ expr e ▷ sign mark.Semicolon) ts rest h.1 w
  statement clocked (bind line f e) = λ ts rest h w. giving (λ x. x.1.0) (key keyword.Let ▷ fam f ▷ sign mark.Equals ▷ expr e ▷ sign mark.Semicolon) ts rest h.1 w
  statement clocked (choose line c a b) = λ ts rest h w. giving (λ x. x.1.1) (key keyword.If ▷ expr c ▷ braces (statements clocked a) ▷ else_part clocked b) ts rest h.1 w
  statement clocked (select line v cases other) = λ ts rest h w. giving (λ x. x.1.1) (key keyword.Case ▷ expr v ▷ braces (some_arms clocked cases ▷ default_part clocked other)) ts rest h.1 w
  statement clocked (repeat line x a b body) = λ ts rest h w. (loop x a b ▷ braces (statements clocked body)) ts rest h.1 w
  statement clocked (given line a c b first second) = λ ts rest h w. giving (λ x. x.1) (choice a c b ▷ braces (statements clocked first) ▷ else_part clocked second) ts rest h.1 w

  statements : (clocked : Bool) (s : Stmts) → Gives (SpellsStmts clocked s) (StmtsNamed s)
  statements clocked no_stmt = λ ts rest h w. (tt, subst Named h w)
  statements clocked (stmt s more) = λ ts rest h w. (statement clocked s ▷ statements clocked more) ts rest h w

  else_part : (clocked : Bool) (e : Else) → Gives (SpellsElse clocked e) (ElseNamed e)
  else_part clocked no_else = λ ts rest h w. (tt, subst Named h w)
  else_part clocked (otherwise body) = λ ts rest h w. giving (λ x. x.1) (key keyword.Else ▷ braces (statements clocked body)) ts rest h w

  default_part : (clocked : Bool) (e : Else) → Gives (SpellsDefault clocked e) (ElseNamed e)
  default_part clocked no_else = λ ts rest h w. (tt, subst Named h w)
  default_part clocked (otherwise body) = λ ts rest h w. giving (λ x. x.1) (key keyword.Default ▷ braces (statements clocked body)) ts rest h w

  arm_list : (clocked : Bool) (cases : Arms) → Gives (SpellsArms clocked cases) (ArmsNamed cases)
  arm_list clocked no_arm = λ ts rest h w. (tt, subst Named h w)
  arm_list clocked (arm tests body more) = λ ts rest h w. (giving (λ x. x.1.1) (tests_of tests ▷ sign mark.Colon ▷ braces (statements clocked body)) ▷ arm_list clocked more) ts rest h w

  some_arms : (clocked : Bool) (cases : Arms) → Gives (SpellsSomeArms clocked cases) (ArmsNamed cases)
  some_arms clocked no_arm = λ ts rest h w. absurd h
  some_arms clocked (arm tests body more) = λ ts rest h w. (giving (λ x. x.1.1) (tests_of tests ▷ sign mark.Colon ▷ braces (statements clocked body)) ▷ arm_list clocked more) ts rest h w

-- ---- items

param : (p : Param) → Gives (SpellsParam p) (ParamNamed p)
param p = giving (λ x. x.0) (single (Name p.name) ▷ sign mark.Equals ▷ int p.value)

more_params : (ps : List Param) → Gives (SpellsMoreParams ps) (EachOf ParamNamed ps)
more_params ps = each (λ p. Sym mark.Comma ⨾ SpellsParam p) ParamNamed (λ p. giving (λ x. x.1) (sign mark.Comma ▷ param p)) ps

params : (ps : List Param) → Gives (SpellsParams ps) (EachOf ParamNamed ps)
params [] ts rest h w = (tt, subst Named h w)
params (p ∷ ps) ts rest h w = giving (λ x. (x.1.0, x.1.1.0)) (sign mark.LeftParen ▷ param p ▷ more_params ps ▷ sign mark.RightParen) ts rest h w

conn : (c : Conn) → Gives (SpellsConn c) (Unit {0})
conn c ts rest h w = nothing (single (Name c.port) ▷ sign mark.Equals ▷ expr c.value ▷ sign mark.Semicolon) ts rest h.1 w

mutual
  one_item : (i : Item) → Gives (SpellsItem i) (ItemNamed i)
  one_item (wire line f w) = λ ts rest h n. giving (λ x. x.1.0) (key keyword.Wire ▷ fam f ▷ sign mark.Colon ▷ int w ▷ sign mark.Semicolon) ts rest h.1 n
  one_item (reg line f w l) = λ ts rest h n. giving (λ x. x.1.0) (key keyword.Reg ▷ fam f ▷ sign mark.Colon ▷ int w ▷ sign mark.Equals ▷ lit l ▷ sign mark.Semicolon) ts rest h.1 n
  one_item (inst line f x args cs) = λ ts rest h n.
      giving (λ x. x.1.0) (key keyword.Inst ▷ fam f ▷ sign mark.Colon ▷ single (Name x) ▷ params args ▷ braces (each SpellsConn (λ c. Unit {0}) conn cs)) ts rest h.1 n
  one_item (comb line body) = λ ts rest h n. giving (λ x. x.1) (key keyword.Comb ▷ braces (statements false body)) ts rest h.1 n
  one_item (ff line body) = λ ts rest h n. giving (λ x. x.1) (key keyword.Ff ▷ braces (statements true body)) ts rest h.1 n
  one_item (repeat_items line x a b body) = λ ts rest h n. (loop x a b ▷ braces (all_items body)) ts rest h.1 n
  one_item (given_items line a c b first second) = λ ts rest h n. giving (λ x. x.1) (choice a c b ▷ braces (all_items first) ▷ else_items second) ts rest h.1 n

  all_items : (body : Items) → Gives (SpellsItems body) (ItemsNamed body)
  all_items no_item = λ ts rest h n. (tt, subst Named h n)
  all_items (item i more) = λ ts rest h n. (one_item i ▷ all_items more) ts rest h n

  else_items : (e : ElseItems) → Gives (SpellsElseItems e) (ElseItemsNamed e)
  else_items no_else_items = λ ts rest h n. (tt, subst Named h n)
  else_items (otherwise_items body) = λ ts rest h n. giving (λ x. x.1) (key keyword.Else ▷ braces (all_items body)) ts rest h n

-- ---- modules

port : (p : Port) → Gives (SpellsPort p) (PortNamed p)
port p ts rest h w = giving (λ x. x.1.0) (key (direction p.output) ▷ single (Name p.name) ▷ sign mark.Colon ▷ int p.width ▷ sign mark.Semicolon) ts rest h.1 w

one_module : (m : Module) → Gives (SpellsModule m) (ModuleNamed m)
one_module m ts rest h w =
    giving (λ x. record { name = x.1.0; params = x.1.1.0; ports = x.1.1.1.1.0; items = x.1.1.1.1.1.0 })
    (key keyword.Module ▷ single (Name m.name) ▷ params m.params ▷ sign mark.LeftBrace ▷ each SpellsPort PortNamed port m.ports ▷ all_items m.items ▷ sign mark.RightBrace) ts rest h.1 w

modules_named : (ms : List Module) (ts : List Tok) → SpellsModules ms ts → Named ts → EachOf ModuleNamed ms
modules_named [] ts h w = absurd h
modules_named (m ∷ ms) ts h w = (each SpellsModule ModuleNamed one_module (m ∷ ms) ts [] h w).0

one_import : (i : Import) → Gives (SpellsImport i) (IsUtf8 i.name)
one_import i ts rest h w = giving (λ x. x.1.0) (key keyword.Import ▷ single (Name i.name) ▷ sign mark.Semicolon) ts rest h.1 w

-- the modules of a text that was read in a file
read_named : (file : ℕ) (text : List ℕ) (source : Source) → Reads file text source → EachOf ModuleNamed source.modules
read_named file text source r =
    let s = r.spelled in
    let behind = each SpellsImport (λ i. IsUtf8 i.name) one_import source.imports r.tokens s.0 s.1 (words_named (skip false (place file 1) text) r.tokens None r.are) in
    modules_named source.modules s.0 s.2 behind.1

-- the modules of files from a number on
pub files_named : (file : ℕ) (sources : List Source) → AreReadFrom file sources → EachOf ModuleNamed (all_modules sources)
files_named file [] texts = tt
files_named file (s ∷ sources) texts =
    both_each ModuleNamed s.modules (all_modules sources) (read_named file texts.0.0 s texts.0.1) (files_named (file + 1) sources texts.1)
