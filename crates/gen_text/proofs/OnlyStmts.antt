-- What a tree spells is read as that tree: statements.
use Rattle.std.proofs.Common.{◌≡◌, ◌≤◌, ◌<◌, ◌-◌, ℕ, zero, suc, max, Bool, true, false, List, [], ◌∷◌, length, Option, Ok, refl, ap, ◌∙◌, arith}
use Rattle.gen_token.specs.declared.Keyword.TheVariants as keyword
use Rattle.gen_token.specs.declared.Mark.TheVariants as mark
use Rattle.gen_token.specs.Words.{Word, Name, Reserved, Sign, Tok}
use Rattle.gen_tree.specs.declared.Cmp.{Cmp}
use Rattle.gen_tree.specs.declared.Dialect.TheVariants as dialect
use Rattle.gen_tree.specs.Tree.{Int, Fam, Lit, Expr, Stmt, assign, bind, choose, select, repeat, given, Stmts, no_stmt, stmt, stmts, Else, no_else, otherwise, Arms, no_arm, arm}
use Rattle.gen_tree.specs.Grammar.{Sym, Each, Braces, SpellsTurns, SpellsGiven, SpellsTests, SpellsStmt, SpellsStmts, SpellsElse, SpellsDefault, SpellsArms, SpellsSomeArms}
use Rattle.gen_text.specs.Forms.{is_mark, is_keyword, is_lit, lit_form}
use Rattle.gen_text.specs.Reading.{Read, source_expr_at, open_at, case_at, begins, until_at, each_at, turns_at, given_at, body_by, else_at, default_at, begins_arm, arm_at, arms_step, stmt_step, stmt_at, arms_at, inner_stmts, inner_arms}
use Rattle.gen_text.specs.declared.fault.ReadFault.{ReadFault}
use Rattle.gen_text.specs.declared.fault.ReadFault.TheVariants as faults
use Rattle.gen_text.specs.Faults.{Fails}
use Rattle.gen_text.proofs.Machine.{key, sign}
use Rattle.gen_text.proofs.Lists.{until_only, takes}
use Rattle.gen_text.proofs.StmtsRead.{stmt_reads, inner_stmts_read}
use Rattle.gen_text.proofs.Loops.{Shortens, Bodies}
use Rattle.gen_text.proofs.Depth.{int_depth, lit_depth, each_depth, stmt_depth, stmts_depth, else_depth, arms_depth}
use Rattle.gen_text.proofs.Lists.{each_only}
use Rattle.gen_text.proofs.CasesRead.{SpellsArm, arm_reads, arms_flat}
use Rattle.gen_text.proofs.OnlyCases.{part_only, no_hash, tests_only, tests_begin, arm_list, arms_are}
use Rattle.gen_text.proofs.OnlyExprs.{mark_only, key_only, not_next, next_is, name_only, less_one, cmp_only, int_only, fam_rest_only, fam_only, source_expr_only}

pub stmt_opened : (clocked : Bool) (room : ℕ) (ts : List Tok) → stmt_at clocked room ts ≡ stmt_step clocked room (inner_stmts clocked room) (inner_arms clocked room) ts
unfolding stmt_at
stmt_opened clocked zero ts = refl
stmt_opened clocked (suc room) ts = refl

pub arms_opened : (clocked : Bool) (room : ℕ) (ts : List Tok) → arms_at clocked room ts ≡ arms_step room (inner_stmts clocked room) ts
unfolding arms_at
arms_opened clocked zero ts = refl
arms_opened clocked (suc room) ts = refl

-- behind the brace of a `case`
pub within_case : (clocked : Bool) (room : ℕ) → 0 < room → inner_arms clocked room ≡ arms_step (room - 1) (inner_stmts clocked (room - 1))
within_case clocked zero h = absurd (omega arith)
within_case clocked (suc room) h = (λ i ts. arms_opened clocked room ts i) ∙ ap (λ n. arms_step n (inner_stmts clocked n)) same
  where
    same : room ≡ suc room - 1
    same = omega arith

pub case_done : (room line : ℕ) (cases : List Tok → Read (Arms × Else)) (v : Expr) (c : Arms × Else) (ts t1 t2 rest : List Tok) → source_expr_at room ts ≡ Ok (v, t1) → open_at mark.LeftBrace room t1 ≡ Ok t2 → cases t2 ≡ Ok (c, rest)
    → case_at room cases line ts ≡ Ok (select line v c.0 c.1, rest)
case_done room line cases v c ts t1 t2 rest e f g = rw (e, f, g) refl

pub case_fails : (fault : ReadFault) (room line : ℕ) (cases : List Tok → Read (Arms × Else)) (v : Expr) (ts t1 t2 : List Tok) → source_expr_at room ts ≡ Ok (v, t1) → open_at mark.LeftBrace room t1 ≡ Ok t2 → Fails fault (cases t2)
    → Fails fault (case_at room cases line ts)
case_fails (faults.At left) room line cases v ts t1 t2 e f g = rw (e, f, g) refl
case_fails faults.NoMemory room line cases v ts t1 t2 e f g = tt

pub stmt_shorter : (clocked : Bool) (room : ℕ) (s : Stmt) (ts rest : List Tok) → stmt_at clocked room ts ≡ Ok (s, rest) → length rest < length ts
stmt_shorter clocked room s ts rest e = takes dialect.Source room _ (SpellsStmt clocked) ts s rest _ (stmt_reads clocked room ts) e

pub arms_shorten : (clocked : Bool) (room : ℕ) → Shortens (arm_at room (inner_stmts clocked room))
arms_shorten clocked room = record {
  shortens = λ ts a rest e. takes dialect.Source room _ (SpellsArm clocked) ts a rest _ (arm_reads clocked room (inner_stmts clocked room) ts (inner_stmts_read clocked room)) e;
}

pub stmts_shorten : (clocked : Bool) (room : ℕ) → Shortens (stmt_at clocked room)
stmts_shorten clocked room = record { shortens = λ ts s rest e. stmt_shorter clocked room s ts rest e }

pub stmts_bodies : (clocked : Bool) → Bodies stmts (stmt_at clocked) (inner_stmts clocked)
stmts_bodies clocked = record { bodies = λ room ts. refl; shorten = stmts_shorten clocked }

-- ---- heads

pub turns_only : (x : List ℕ) (a b : Int) (room : ℕ) (t : Tok) (ts rest : List Tok) → max (int_depth a) (int_depth b) ≤ room → SpellsTurns x a b (t ∷ ts) rest → (t.word ≡ Reserved keyword.For) × (turns_at room ts ≡ Ok ((x, a, b), rest))
turns_only x a b room t ts rest le (t1, w, (t2, n, (t3, i, (t4, sa, (t5, d, sb))))) =
    (w.0, rw (w.1, name_only x t1 t2 n, key_only keyword.In t2 t3 i, int_only dialect.Source a room t3 t4 (omega arith) sa, mark_only mark.DotDot t4 t5 d, int_only dialect.Source b room t5 rest (omega arith) sb) refl)

pub given_only : (a : Int) (c : Cmp) (b : Int) (room : ℕ) (t : Tok) (ts rest : List Tok) → suc (max (int_depth a) (int_depth b)) ≤ room → SpellsGiven a c b (t ∷ ts) rest → (t.word ≡ Reserved keyword.Gen) × (given_at room ts ≡ Ok ((a, c, b), rest))
given_only a c b zero t ts rest le h = absurd (omega arith)
given_only a c b (suc room) t ts rest le (t1, w, (t2, k, (t3, s1, (t4, sa, (t5, sc, (t6, sb, s2)))))) =
    (w.0, rw (w.1, key_only keyword.If t1 t2 k, mark_only mark.LeftParen t2 t3 s1, less_one room, int_only dialect.Source a room t3 t4 (omega arith) sa, cmp_only c t4 t5 sc, int_only dialect.Source b room t5 t6 (omega arith) sb, mark_only mark.RightParen t6 rest s2) refl)

-- ---- how a statement begins

-- a statement begins with a name or with one of four keywords
stmt_not : (clocked : Bool) (test : Word → Bool) (s : Stmt) (ts rest : List Tok) → ((x : List ℕ) → test (Name x) ≡ false) → test (Reserved keyword.Let) ≡ false → test (Reserved keyword.If) ≡ false → test (Reserved keyword.Case) ≡ false → test (Reserved keyword.For) ≡ false → test (Reserved keyword.Gen) ≡ false
    → SpellsStmt clocked s ts rest → begins test ts ≡ false
stmt_not clocked test (assign line f part e) ts rest h1 h2 h3 hc h4 h5 (ln, (t1, (t0, w, si), more)) = not_next test (Name f.name) ts t0 (h1 f.name) w
stmt_not clocked test (bind line f e) ts rest h1 h2 h3 hc h4 h5 (ln, (t1, w, more)) = not_next test (Reserved keyword.Let) ts t1 h2 w
stmt_not clocked test (choose line c a b) ts rest h1 h2 h3 hc h4 h5 (ln, (t1, w, more)) = not_next test (Reserved keyword.If) ts t1 h3 w
stmt_not clocked test (select line v cases other) ts rest h1 h2 h3 hc h4 h5 (ln, (t1, w, more)) = not_next test (Reserved keyword.Case) ts t1 hc w
stmt_not clocked test (repeat line x a b body) ts rest h1 h2 h3 hc h4 h5 (ln, (t1, (t2, w, head), more)) = not_next test (Reserved keyword.For) ts t2 h4 w
stmt_not clocked test (given line a c b first second) ts rest h1 h2 h3 hc h4 h5 (ln, (t1, (t2, w, head), more)) = not_next test (Reserved keyword.Gen) ts t2 h5 w

not_brace : (clocked : Bool) (s : Stmt) (ts rest : List Tok) → SpellsStmt clocked s ts rest → begins (is_mark mark.RightBrace) ts ≡ false
not_brace clocked s ts rest h = stmt_not clocked (is_mark mark.RightBrace) s ts rest (λ x. refl) refl refl refl refl refl h

not_else : (clocked : Bool) (b : Stmts) (ts mid rest : List Tok) → SpellsStmts clocked b ts mid → Sym mark.RightBrace mid rest → begins (is_keyword keyword.Else) ts ≡ false
not_else clocked no_stmt ts mid rest h w = rw h (not_next (is_keyword keyword.Else) (Sign mark.RightBrace) mid rest refl w)
not_else clocked (stmt s more) ts mid rest (t1, hs, hm) w = stmt_not clocked (is_keyword keyword.Else) s ts t1 (λ x. refl) refl refl refl refl refl hs

-- ---- bodies

abbrev list_of : Stmts → List Stmt
list_of no_stmt = []
list_of (stmt s more) = s ∷ list_of more

list_is : (b : Stmts) → stmts (list_of b) ≡ b
list_is no_stmt = refl
list_is (stmt s more) = ap (stmt s) (list_is more)

-- each statement of a list is spelled, and read
abbrev AreRead : Bool → ℕ → Stmts → List Tok → List Tok → Type 0
AreRead clocked room b ts mid = Each (λ s ts rest. SpellsStmt clocked s ts rest × (stmt_at clocked room ts ≡ Ok (s, rest))) (list_of b) ts mid

body_only : (clocked : Bool) (b : Stmts) (room : ℕ) (ts t1 mid rest : List Tok) → Sym mark.LeftBrace ts t1 → AreRead clocked room b t1 mid → Sym mark.RightBrace mid rest
    → body_by (suc room) (inner_stmts clocked (suc room)) ts ≡ Ok (b, rest)
body_only clocked b room ts t1 mid rest s1 h s2 =
    let all : until_at (stmt_at clocked room) t1 ≡ Ok (list_of b, rest) =
    until_only (list_of b) (suc (length t1)) (SpellsStmt clocked) (stmt_at clocked room) t1 mid rest (λ s ts rest g e. (not_brace clocked s ts rest g, stmt_shorter clocked room s ts rest e)) h (next_is (sign mark.RightBrace) mid rest s2) (omega arith) in
    rw (mark_only mark.LeftBrace ts t1 s1, all, list_is b) refl

-- ---- arms

-- each arm of a list is read
abbrev ArmIs : Bool → ℕ → List Lit × Stmts → List Tok → List Tok → Type 0
ArmIs clocked room a ts rest = (begins_arm ts ≡ true) × (arm_at room (inner_stmts clocked room) ts ≡ Ok (a, rest)) × (length rest < length ts)

abbrev ArmsAre : Bool → ℕ → Arms → List Tok → List Tok → Type 0
ArmsAre clocked room cases ts mid = Each (ArmIs clocked room) (arm_list cases) ts mid

arm_is : (clocked : Bool) (tests : List Lit) (b : Stmts) (room : ℕ) (ts t1 t2 t3 t4 rest : List Tok) → each_depth lit_depth tests ≤ suc room → SpellsTests tests ts t1 → Sym mark.Colon t1 t2 → SpellsArm clocked (tests, b) ts rest
    → Sym mark.LeftBrace t2 t3 → AreRead clocked room b t3 t4 → Sym mark.RightBrace t4 rest → ArmIs clocked (suc room) (tests, b) ts rest
arm_is clocked tests b room ts t1 t2 t3 t4 rest le st wc whole s1 h s2 =
    let e : arm_at (suc room) (inner_stmts clocked (suc room)) ts ≡ Ok ((tests, b), rest) =
    rw (
      tests_only tests (suc room) ts t1 le st (not_next (is_mark mark.Comma) (Sign mark.Colon) t1 t2 refl wc),
      mark_only mark.Colon t1 t2 wc,
      body_only clocked b room t2 t3 t4 rest s1 h s2,
    ) refl in
    (tests_begin tests ts t1 st, e, takes dialect.Source (suc room) _ (SpellsArm clocked) ts (tests, b) rest _ (arm_reads clocked (suc room) (inner_stmts clocked (suc room)) ts (inner_stmts_read clocked (suc room))) e)

cases_only : (clocked : Bool) (room : ℕ) (cases : Arms) (other : Else) (ts mid last rest : List Tok) → (SpellsArms clocked cases ts mid → ArmsAre clocked room cases ts mid) → SpellsSomeArms clocked cases ts mid
    → default_at room (inner_stmts clocked room) mid ≡ Ok (other, last) → begins_arm mid ≡ false → Sym mark.RightBrace last rest → arms_step room (inner_stmts clocked room) ts ≡ Ok ((cases, other), rest)
cases_only clocked room no_arm other ts mid last rest h s d ne w = absurd s
cases_only clocked room (arm tests body more) other ts mid last rest h s d ne w =
    let all = h s in
    let first = all.1 in
    let others : each_at begins_arm (arm_at room (inner_stmts clocked room)) all.0 ≡ Ok (arm_list more, mid) =
    each_only (arm_list more) (suc (length all.0)) begins_arm (ArmIs clocked room) (arm_at room (inner_stmts clocked room)) all.0 mid (λ a ts rest g. g) ne (omega arith) all.2 in
    arms_flat room (inner_stmts clocked room) ts ∙ rw (first.1, others, d, mark_only mark.RightBrace last rest w, arms_are more) refl

default_begins : (other : Else) (clocked : Bool) (ts mid rest : List Tok) → SpellsDefault clocked other ts mid → Sym mark.RightBrace mid rest → begins_arm ts ≡ false
default_begins no_else clocked ts mid rest h w = rw h (not_next (λ w. is_lit (lit_form dialect.Source w)) (Sign mark.RightBrace) mid rest refl w)
default_begins (otherwise b) clocked ts mid rest (t1, k, more) w = not_next (λ w. is_lit (lit_form dialect.Source w)) (Reserved keyword.Default) ts t1 refl k

-- ---- statements

assign_only : (clocked : Bool) (line : ℕ) (f : Fam) (p : Option (Int × Int)) (e : Expr) (room : ℕ) (ts rest : List Tok) → stmt_depth (assign line f p e) ≤ room → SpellsStmt clocked (assign line f p e) ts rest
    → stmt_step clocked room (inner_stmts clocked room) (inner_arms clocked room) ts ≡ Ok (assign line f p e, rest)
assign_only clocked line f p e room [] rest le h = absurd h.0
assign_only true line f p e room (t ∷ ts) rest le (ln, (t4, (t0, w, si), (t1, sp, (t2, w2, (t3, se, w3))))) =
    rw (
      w.0,
      w.1,
      ln,
      fam_rest_only dialect.Source f room t0 t4 (omega arith) si (no_hash p t4 t1 sp (not_next (is_mark mark.Hash) (Sign mark.LessEquals) t1 t2 refl w2)),
      part_only p (Sign mark.LessEquals) room t4 t1 t2 (omega arith) sp (not_next (is_mark mark.LeftBracket) (Sign mark.LessEquals) t1 t2 refl w2),
      mark_only mark.LessEquals t1 t2 w2,
      source_expr_only e room t2 t3 rest (Sign mark.Semicolon) (omega arith) se refl refl refl w3,
      mark_only mark.Semicolon t3 rest w3,
    ) refl
assign_only false line f p e room (t ∷ ts) rest le (ln, (t4, (t0, w, si), (t1, sp, (t2, w2, (t3, se, w3))))) =
    rw (
      w.0,
      w.1,
      ln,
      fam_rest_only dialect.Source f room t0 t4 (omega arith) si (no_hash p t4 t1 sp (not_next (is_mark mark.Hash) (Sign mark.Equals) t1 t2 refl w2)),
      part_only p (Sign mark.Equals) room t4 t1 t2 (omega arith) sp (not_next (is_mark mark.LeftBracket) (Sign mark.Equals) t1 t2 refl w2),
      mark_only mark.Equals t1 t2 w2,
      source_expr_only e room t2 t3 rest (Sign mark.Semicolon) (omega arith) se refl refl refl w3,
      mark_only mark.Semicolon t3 rest w3,
    ) refl

let_only : (clocked : Bool) (line : ℕ) (f : Fam) (e : Expr) (room : ℕ) (ts rest : List Tok) → stmt_depth (bind line f e) ≤ room → SpellsStmt clocked (bind line f e) ts rest → stmt_step clocked room (inner_stmts clocked room) (inner_arms clocked room) ts ≡ Ok (bind line f e, rest)
let_only clocked line f e room [] rest le h = absurd h.0
let_only clocked line f e room (t ∷ ts) rest le (ln, (t0, w, (t1, sf, (t2, w2, (t3, se, w3))))) =
    rw (
      w.0,
      w.1,
      ln,
      fam_only f room t0 t1 (omega arith) sf (not_next (is_mark mark.Hash) (Sign mark.Equals) t1 t2 refl w2),
      mark_only mark.Equals t1 t2 w2,
      source_expr_only e room t2 t3 rest (Sign mark.Semicolon) (omega arith) se refl refl refl w3,
      mark_only mark.Semicolon t3 rest w3,
    ) refl

mutual
  stmt_only : (s : Stmt) (clocked : Bool) (room : ℕ) (ts rest : List Tok) → stmt_depth s ≤ room → SpellsStmt clocked s ts rest → begins (is_keyword keyword.Else) rest ≡ false → stmt_step clocked room (inner_stmts clocked room) (inner_arms clocked room) ts ≡ Ok (s, rest)
  stmt_only (assign line f p e) clocked room ts rest le h ne = assign_only clocked line f p e room ts rest le h
  stmt_only (bind line f e) clocked room ts rest le h ne = let_only clocked line f e room ts rest le h
  stmt_only (choose line c a b) clocked room [] rest le h ne = absurd h.0
  stmt_only (choose line c a b) clocked zero (t ∷ ts) rest le h ne = absurd (omega arith)
  stmt_only (choose line c a b) clocked (suc room) (t ∷ ts) rest le (ln, (t1, w, (t2, sc, (t5, (t3, w2, (t4, sa, w3)), sb)))) ne =
      rw (
        w.0,
        w.1,
        ln,
        source_expr_only c (suc room) t1 t2 t3 (Sign mark.LeftBrace) (omega arith) sc refl refl refl w2,
        body_only clocked a room t2 t3 t4 t5 w2 (stmts_only a clocked room t3 t4 t5 (omega arith) sa w3) w3,
        else_only b clocked (suc room) t5 rest (omega arith) sb ne,
      ) refl
  stmt_only (select line v cases other) clocked room [] rest le h ne = absurd h.0
  stmt_only (select line v cases other) clocked zero (t ∷ ts) rest le h ne = absurd (omega arith)
  stmt_only (select line v cases other) clocked (suc room) (t ∷ ts) rest le (ln, (t1, w, (t2, sv, (t3, w2, (t5, (t4, sa, sd), w3))))) ne =
      rw (
        w.0,
        w.1,
        ln,
        source_expr_only v (suc room) t1 t2 t3 (Sign mark.LeftBrace) (omega arith) sv refl refl refl w2,
        mark_only mark.LeftBrace t2 t3 w2,
        arms_opened clocked room t3
            ∙ cases_only clocked room cases other t3 t4 t5 rest (arms_only cases clocked room t3 t4 (omega arith)) sa (default_only other clocked room t4 t5 (omega arith) sd (not_next (is_keyword keyword.Default) (Sign mark.RightBrace) t5 rest refl w3)) (default_begins other clocked t4 t5 rest sd w3) w3,
      ) refl
  stmt_only (repeat line x a b body) clocked room [] rest le h ne = absurd h.0
  stmt_only (repeat line x a b body) clocked zero (t ∷ ts) rest le h ne = absurd (omega arith)
  stmt_only (repeat line x a b body) clocked (suc room) (t ∷ ts) rest le (ln, (t1, head, (t2, w2, (t3, sb, w3)))) ne =
      let g = turns_only x a b (suc room) t ts t1 (omega arith) head in
      rw (g.0, ln, g.1, body_only clocked body room t1 t2 t3 rest w2 (stmts_only body clocked room t2 t3 rest (omega arith) sb w3) w3) refl
  stmt_only (given line a c b first second) clocked room [] rest le h ne = absurd h.0
  stmt_only (given line a c b first second) clocked zero (t ∷ ts) rest le h ne = absurd (omega arith)
  stmt_only (given line a c b first second) clocked (suc room) (t ∷ ts) rest le (ln, (t1, head, (t4, (t2, w2, (t3, sa, w3)), sb))) ne =
      let g = given_only a c b (suc room) t ts t1 (omega arith) head in
      rw (
        g.0,
        ln,
        g.1,
        body_only clocked first room t1 t2 t3 t4 w2 (stmts_only first clocked room t2 t3 t4 (omega arith) sa w3) w3,
        else_only second clocked (suc room) t4 rest (omega arith) sb ne,
      ) refl

  stmts_only : (b : Stmts) (clocked : Bool) (room : ℕ) (ts mid rest : List Tok) → stmts_depth b ≤ room → SpellsStmts clocked b ts mid → Sym mark.RightBrace mid rest → AreRead clocked room b ts mid
  stmts_only no_stmt clocked room ts mid rest le h w = h
  stmts_only (stmt s more) clocked room ts mid rest le (t1, hs, hm) w =
      (t1, (hs, stmt_opened clocked room ts ∙ stmt_only s clocked room ts t1 (omega arith) hs (not_else clocked more t1 mid rest hm w)), stmts_only more clocked room t1 mid rest (omega arith) hm w)

  else_only : (b : Else) (clocked : Bool) (room : ℕ) (ts rest : List Tok) → else_depth b ≤ room → SpellsElse clocked b ts rest → begins (is_keyword keyword.Else) rest ≡ false → else_at room (inner_stmts clocked room) ts ≡ Ok (b, rest)
  else_only no_else clocked room ts rest le h ne = rw (h, ne) refl
  else_only (otherwise b) clocked zero ts rest le h ne = absurd (omega arith)
  else_only (otherwise b) clocked (suc room) ts rest le (t1, w, (t2, w2, (t3, sb, w3))) ne =
      let e = next_is (key keyword.Else) ts t1 w in
      rw (e.0, e.1, body_only clocked b room t1 t2 t3 rest w2 (stmts_only b clocked room t2 t3 rest (omega arith) sb w3) w3) refl

  default_only : (b : Else) (clocked : Bool) (room : ℕ) (ts rest : List Tok) → else_depth b ≤ room → SpellsDefault clocked b ts rest → begins (is_keyword keyword.Default) rest ≡ false → default_at room (inner_stmts clocked room) ts ≡ Ok (b, rest)
  default_only no_else clocked room ts rest le h ne = rw (h, ne) refl
  default_only (otherwise b) clocked zero ts rest le h ne = absurd (omega arith)
  default_only (otherwise b) clocked (suc room) ts rest le (t1, w, (t2, w2, (t3, sb, w3))) ne =
      let e = next_is (key keyword.Default) ts t1 w in
      rw (e.0, e.1, body_only clocked b room t1 t2 t3 rest w2 (stmts_only b clocked room t2 t3 rest (omega arith) sb w3) w3) refl

  arms_only : (cases : Arms) (clocked : Bool) (room : ℕ) (ts mid : List Tok) → arms_depth cases ≤ room → SpellsArms clocked cases ts mid → ArmsAre clocked room cases ts mid
  arms_only no_arm clocked room ts mid le h = h
  arms_only (arm tests body more) clocked zero ts mid le h = absurd (omega arith)
  arms_only (arm tests body more) clocked (suc room) ts mid le (t5, (t1, st, (t2, wc, (t3, s1, (t4, sb, s2)))), sm) =
      (t5, arm_is clocked tests body room ts t1 t2 t3 t4 t5 (omega arith) st wc (t1, st, (t2, wc, (t3, s1, (t4, sb, s2)))) s1 (stmts_only body clocked room t3 t4 t5 (omega arith) sb s2) s2, arms_only more clocked (suc room) t5 mid (omega arith) sm)

-- a block of statements
pub block_only : (b : Stmts) (clocked : Bool) (room : ℕ) (ts rest : List Tok) → suc (stmts_depth b) ≤ room → Braces (SpellsStmts clocked b) ts rest → body_by room (inner_stmts clocked room) ts ≡ Ok (b, rest)
block_only b clocked zero ts rest le h = absurd (omega arith)
block_only b clocked (suc room) ts rest le (t1, w, (t2, sb, w2)) = body_only clocked b room ts t1 t2 rest w (stmts_only b clocked room t1 t2 rest (omega arith) sb w2) w2
