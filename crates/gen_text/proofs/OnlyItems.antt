-- What a tree spells is read as that tree: parameters, connections and items.
use Rattle.std.proofs.Common.{◌≡◌, ◌≤◌, ◌<◌, ℕ, zero, suc, Bool, true, false, cond, List, [], ◌∷◌, length, Ok, refl, ap, ◌∙◌, arith}
use Rattle.gen_token.specs.declared.Keyword.TheVariants as keyword
use Rattle.gen_token.specs.declared.Mark.TheVariants as mark
use Rattle.gen_token.specs.Words.{Word, Name, Reserved, Sign, Tok}
use Rattle.gen_tree.specs.declared.Dialect.TheVariants as dialect
use Rattle.gen_tree.specs.Tree.{Int, Fam, Lit, Stmts, Param, Conn, Item, wire, reg, inst, comb, ff, repeat_items, given_items, Items, no_item, item, items, ElseItems, no_else_items, otherwise_items}
use Rattle.gen_tree.specs.Grammar.{Span, ◌⨾◌, Sym, Each, Braces, SpellsParam, SpellsParams, SpellsConn, SpellsItem, SpellsItems, SpellsElseItems}
use Rattle.gen_text.specs.Forms.{is_mark, is_keyword}
use Rattle.gen_text.specs.Reading.{begins, until_at, each_at, param_at, more_param_at, begins_param, params_in_at, params_at, conn_at, conns_at, body_by, else_items_at, item_step, items_until, item_at, inner_items}
use Rattle.gen_text.proofs.Machine.{key, sign}
use Rattle.gen_text.proofs.Lists.{each_only, until_only, takes}
use Rattle.gen_text.proofs.ItemsRead.{conn_reads, item_reads, more_param_reads, params_flat}
use Rattle.gen_text.proofs.Loops.{Bodies}
use Rattle.gen_text.proofs.Depth.{each_depth, param_depth, params_depth, conn_depth, item_depth, items_depth, else_items_depth}
use Rattle.gen_text.proofs.OnlyExprs.{mark_only, not_next, next_is, name_only, less_one, int_only, fam_only, lit_only, source_expr_only}
use Rattle.gen_text.proofs.OnlyStmts.{turns_only, given_only, block_only}

pub within_each : {A : Type 0} (S : A → Span) (f : A → ℕ) (room : ℕ) (xs : List A) (ts rest : List Tok) → each_depth f xs ≤ room → Each S xs ts rest → Each (λ x ts rest. S x ts rest × (f x ≤ room)) xs ts rest
within_each S f room [] ts rest le h = h
within_each S f room (x ∷ xs) ts rest le (t1, s, more) = (t1, (s, omega arith), within_each S f room xs t1 rest (omega arith) more)

-- ---- parameters

param_only : (p : Param) (room : ℕ) (ts rest : List Tok) → param_depth p ≤ room → SpellsParam p ts rest → param_at room ts ≡ Ok (p, rest)
param_only p room ts rest le (t1, n, (t2, w, s)) = rw (name_only p.name ts t1 n, mark_only mark.Equals t1 t2 w, int_only dialect.Source p.value room t2 rest le s) refl

abbrev More : Param → Span
More p = Sym mark.Comma ⨾ SpellsParam p

more_only : (room : ℕ) (p : Param) (ts rest : List Tok) → More p ts rest × (param_depth p ≤ room) → (begins_param ts ≡ true) × (more_param_at room ts ≡ Ok (p, rest)) × (length rest < length ts)
more_only room p ts rest ((t1, w, s), le) =
    let e : more_param_at room ts ≡ Ok (p, rest) = rw (mark_only mark.Comma ts t1 w) (param_only p room t1 rest le s) in
    ((next_is (sign mark.Comma) ts t1 w).0, e, takes dialect.Source room _ More ts p rest _ (more_param_reads room ts) e)

pub params_only : (ps : List Param) (room : ℕ) (ts rest : List Tok) → params_depth ps ≤ room → SpellsParams ps ts rest → begins (is_mark mark.LeftParen) rest ≡ false → params_at room ts ≡ Ok (ps, rest)
params_only [] room ts rest le h ne = rw (h, ne) refl
params_only (p ∷ ps) zero ts rest le h ne = absurd (omega arith)
params_only (p ∷ ps) (suc room) ts rest le (t1, w, (t2, sp, (t3, ss, w2))) ne =
    let first : param_at room t1 ≡ Ok (p, t2) = param_only p room t1 t2 (omega arith) sp in
    let more : each_at begins_param (more_param_at room) t2 ≡ Ok (ps, t3) =
    each_only ps (suc (length t2)) begins_param (λ p ts rest. More p ts rest × (param_depth p ≤ room)) (more_param_at room) t2 t3 (more_only room) (not_next (is_mark mark.Comma) (Sign mark.RightParen) t3 rest refl w2) (omega arith) (within_each More param_depth room ps t2 t3 (omega arith) ss) in
    let next = next_is (sign mark.LeftParen) ts t1 w in
    let inside : params_in_at (suc room) ts ≡ Ok (p ∷ ps, rest) = params_flat (suc room) ts ∙ rw (mark_only mark.LeftParen ts t1 w, less_one room, first, more, mark_only mark.RightParen t3 rest w2) refl in
    ap (λ b. cond b (params_in_at (suc room) ts) (Ok ([], ts))) next.0 ∙ inside

-- ---- connections

conn_only : (c : Conn) (room : ℕ) (ts rest : List Tok) → conn_depth c ≤ room → SpellsConn c ts rest → conn_at room ts ≡ Ok (c, rest)
conn_only c room [] rest le h = absurd h.0
conn_only c room (t ∷ ts) rest le (ln, (t1, n, (t2, w, (t3, s, w2)))) =
    rw (n.0, n.1, ln, mark_only mark.Equals t1 t2 w, source_expr_only c.value room t2 t3 rest (Sign mark.Semicolon) le s refl refl refl w2, mark_only mark.Semicolon t3 rest w2) refl

conns_each : (cs : List Conn) (room : ℕ) (ts rest : List Tok) → each_depth conn_depth cs ≤ room → Each SpellsConn cs ts rest → Each (λ c ts rest. SpellsConn c ts rest × (conn_at room ts ≡ Ok (c, rest))) cs ts rest
conns_each [] room ts rest le h = h
conns_each (c ∷ cs) room ts rest le (t1, s, more) = (t1, (s, conn_only c room ts t1 (omega arith) s), conns_each cs room t1 rest (omega arith) more)

conn_begins : (room : ℕ) (c : Conn) (ts rest : List Tok) → SpellsConn c ts rest → conn_at room ts ≡ Ok (c, rest) → (begins (is_mark mark.RightBrace) ts ≡ false) × (length rest < length ts)
conn_begins room c ts rest h e = (not_next (is_mark mark.RightBrace) (Name c.port) ts h.1.0 refl h.1.1, takes dialect.Source room _ SpellsConn ts c rest _ (conn_reads room ts) e)

conns_only : (cs : List Conn) (room : ℕ) (ts rest : List Tok) → suc (each_depth conn_depth cs) ≤ room → Braces (Each SpellsConn cs) ts rest → conns_at room ts ≡ Ok (cs, rest)
conns_only cs zero ts rest le h = absurd (omega arith)
conns_only cs (suc room) ts rest le (t1, w, (t2, s, w2)) =
    rw (mark_only mark.LeftBrace ts t1 w, less_one room)
    (until_only cs (suc (length t1)) SpellsConn (conn_at room) t1 t2 rest (conn_begins room) (conns_each cs room t1 t2 (omega arith) s) (next_is (sign mark.RightBrace) t2 rest w2) (omega arith))

-- ---- how an item begins

pub item_opened : (room : ℕ) (ts : List Tok) → item_at room ts ≡ item_step room (inner_items room) ts
unfolding item_at
item_opened zero ts = refl
item_opened (suc room) ts = refl

pub item_shorter : (room : ℕ) (i : Item) (ts rest : List Tok) → item_at room ts ≡ Ok (i, rest) → length rest < length ts
item_shorter room i ts rest e = takes dialect.Source room _ SpellsItem ts i rest _ (item_reads room ts) e

pub items_bodies : Bodies items item_at inner_items
items_bodies = record { bodies = λ room ts. refl; shorten = λ room. record { shortens = λ ts i rest e. item_shorter room i ts rest e } }

-- an item begins with one of its keywords
pub record NoItem (test : Word → Bool) : Type 0 where
  pub wires : test (Reserved keyword.Wire) ≡ false
  pub regs : test (Reserved keyword.Reg) ≡ false
  pub insts : test (Reserved keyword.Inst) ≡ false
  pub combs : test (Reserved keyword.Comb) ≡ false
  pub ffs : test (Reserved keyword.Ff) ≡ false
  pub fors : test (Reserved keyword.For) ≡ false
  pub gens : test (Reserved keyword.Gen) ≡ false

pub item_not : (test : Word → Bool) (i : Item) (ts rest : List Tok) → NoItem test → SpellsItem i ts rest → begins test ts ≡ false
item_not test (wire line f w) ts rest h (ln, (t1, k, more)) = not_next test (Reserved keyword.Wire) ts t1 h.wires k
item_not test (reg line f w l) ts rest h (ln, (t1, k, more)) = not_next test (Reserved keyword.Reg) ts t1 h.regs k
item_not test (inst line f x args conns) ts rest h (ln, (t1, k, more)) = not_next test (Reserved keyword.Inst) ts t1 h.insts k
item_not test (comb line b) ts rest h (ln, (t1, k, more)) = not_next test (Reserved keyword.Comb) ts t1 h.combs k
item_not test (ff line b) ts rest h (ln, (t1, k, more)) = not_next test (Reserved keyword.Ff) ts t1 h.ffs k
item_not test (repeat_items line x a b body) ts rest h (ln, (t1, (t2, k, head), more)) = not_next test (Reserved keyword.For) ts t2 h.fors k
item_not test (given_items line a c b first second) ts rest h (ln, (t1, (t2, k, head), more)) = not_next test (Reserved keyword.Gen) ts t2 h.gens k

no_brace : NoItem (is_mark mark.RightBrace)
no_brace = record { wires = refl; regs = refl; insts = refl; combs = refl; ffs = refl; fors = refl; gens = refl }

no_else : NoItem (is_keyword keyword.Else)
no_else = record { wires = refl; regs = refl; insts = refl; combs = refl; ffs = refl; fors = refl; gens = refl }

not_else : (b : Items) (ts mid rest : List Tok) → SpellsItems b ts mid → Sym mark.RightBrace mid rest → begins (is_keyword keyword.Else) ts ≡ false
not_else no_item ts mid rest h w = rw h (not_next (is_keyword keyword.Else) (Sign mark.RightBrace) mid rest refl w)
not_else (item i more) ts mid rest (t1, hs, hm) w = item_not (is_keyword keyword.Else) i ts t1 no_else hs

-- ---- bodies

abbrev pub list_of : Items → List Item
list_of no_item = []
list_of (item i more) = i ∷ list_of more

list_is : (b : Items) → items (list_of b) ≡ b
list_is no_item = refl
list_is (item i more) = ap (item i) (list_is more)

-- each item of a list is spelled, and read
abbrev AreRead : ℕ → Items → List Tok → List Tok → Type 0
AreRead room b ts mid = Each (λ i ts rest. SpellsItem i ts rest × (item_at room ts ≡ Ok (i, rest))) (list_of b) ts mid

until_items : (b : Items) (room : ℕ) (ts mid rest : List Tok) → AreRead room b ts mid → Sym mark.RightBrace mid rest → items_until (item_at room) ts ≡ Ok (b, rest)
until_items b room ts mid rest h s =
    let all : until_at (item_at room) ts ≡ Ok (list_of b, rest) =
    until_only (list_of b) (suc (length ts)) SpellsItem (item_at room) ts mid rest (λ i ts rest g e. (item_not (is_mark mark.RightBrace) i ts rest no_brace g, item_shorter room i ts rest e)) h (next_is (sign mark.RightBrace) mid rest s) (omega arith) in
    rw (all, list_is b) refl

body_only : (b : Items) (room : ℕ) (ts t1 mid rest : List Tok) → Sym mark.LeftBrace ts t1 → AreRead room b t1 mid → Sym mark.RightBrace mid rest
    → body_by (suc room) (inner_items (suc room)) ts ≡ Ok (b, rest)
body_only b room ts t1 mid rest s1 h s2 = rw (mark_only mark.LeftBrace ts t1 s1) (until_items b room t1 mid rest h s2)

-- ---- items

wire_only : (line : ℕ) (f : Fam) (w : Int) (room : ℕ) (ts rest : List Tok) → item_depth (wire line f w) ≤ room → SpellsItem (wire line f w) ts rest → item_step room (inner_items room) ts ≡ Ok (wire line f w, rest)
wire_only line f w room [] rest le h = absurd h.0
wire_only line f w room (t ∷ ts) rest le (ln, (t1, k, (t2, sf, (t3, s1, (t4, sw, s2))))) =
    rw (k.0, k.1, ln, fam_only f room t1 t2 (omega arith) sf (not_next (is_mark mark.Hash) (Sign mark.Colon) t2 t3 refl s1), mark_only mark.Colon t2 t3 s1, int_only dialect.Source w room t3 t4 (omega arith) sw, mark_only mark.Semicolon t4 rest s2) refl

reg_only : (line : ℕ) (f : Fam) (w : Int) (l : Lit) (room : ℕ) (ts rest : List Tok) → item_depth (reg line f w l) ≤ room → SpellsItem (reg line f w l) ts rest → item_step room (inner_items room) ts ≡ Ok (reg line f w l, rest)
reg_only line f w l room [] rest le h = absurd h.0
reg_only line f w l room (t ∷ ts) rest le (ln, (t1, k, (t2, sf, (t3, s1, (t4, sw, (t5, s2, (t6, sl, s3))))))) =
    rw (
      k.0,
      k.1,
      ln,
      fam_only f room t1 t2 (omega arith) sf (not_next (is_mark mark.Hash) (Sign mark.Colon) t2 t3 refl s1),
      mark_only mark.Colon t2 t3 s1,
      int_only dialect.Source w room t3 t4 (omega arith) sw,
      mark_only mark.Equals t4 t5 s2,
      lit_only dialect.Source l room t5 t6 (omega arith) sl,
      mark_only mark.Semicolon t6 rest s3,
    ) refl

inst_only : (line : ℕ) (f : Fam) (x : List ℕ) (args : List Param) (conns : List Conn) (room : ℕ) (ts rest : List Tok) → item_depth (inst line f x args conns) ≤ room → SpellsItem (inst line f x args conns) ts rest
    → item_step room (inner_items room) ts ≡ Ok (inst line f x args conns, rest)
inst_only line f x args conns room [] rest le h = absurd h.0
inst_only line f x args conns room (t ∷ ts) rest le (ln, (t1, k, (t2, sf, (t3, s1, (t4, n, (t5, sp, (t6, s2, more))))))) =
    rw (
      k.0,
      k.1,
      ln,
      fam_only f room t1 t2 (omega arith) sf (not_next (is_mark mark.Hash) (Sign mark.Colon) t2 t3 refl s1),
      mark_only mark.Colon t2 t3 s1,
      name_only x t3 t4 n,
      params_only args room t4 t5 (omega arith) sp (not_next (is_mark mark.LeftParen) (Sign mark.LeftBrace) t5 t6 refl s2),
      conns_only conns room t5 rest (omega arith) (t6, s2, more),
    ) refl

comb_only : (line : ℕ) (b : Stmts) (room : ℕ) (ts rest : List Tok) → item_depth (comb line b) ≤ room → SpellsItem (comb line b) ts rest → item_step room (inner_items room) ts ≡ Ok (comb line b, rest)
comb_only line b room [] rest le h = absurd h.0
comb_only line b room (t ∷ ts) rest le (ln, (t1, k, h)) = rw (k.0, k.1, ln, block_only b false room t1 rest le h) refl

ff_only : (line : ℕ) (b : Stmts) (room : ℕ) (ts rest : List Tok) → item_depth (ff line b) ≤ room → SpellsItem (ff line b) ts rest → item_step room (inner_items room) ts ≡ Ok (ff line b, rest)
ff_only line b room [] rest le h = absurd h.0
ff_only line b room (t ∷ ts) rest le (ln, (t1, k, h)) = rw (k.0, k.1, ln, block_only b true room t1 rest le h) refl

mutual
  item_only : (i : Item) (room : ℕ) (ts rest : List Tok) → item_depth i ≤ room → SpellsItem i ts rest → begins (is_keyword keyword.Else) rest ≡ false → item_step room (inner_items room) ts ≡ Ok (i, rest)
  item_only (wire line f w) room ts rest le h ne = wire_only line f w room ts rest le h
  item_only (reg line f w l) room ts rest le h ne = reg_only line f w l room ts rest le h
  item_only (inst line f x args conns) room ts rest le h ne = inst_only line f x args conns room ts rest le h
  item_only (comb line b) room ts rest le h ne = comb_only line b room ts rest le h
  item_only (ff line b) room ts rest le h ne = ff_only line b room ts rest le h
  item_only (repeat_items line x a b body) room [] rest le h ne = absurd h.0
  item_only (repeat_items line x a b body) zero (t ∷ ts) rest le h ne = absurd (omega arith)
  item_only (repeat_items line x a b body) (suc room) (t ∷ ts) rest le (ln, (t1, head, (t2, w2, (t3, sb, w3)))) ne =
      let g = turns_only x a b (suc room) t ts t1 (omega arith) head in
      rw (g.0, ln, g.1, body_only body room t1 t2 t3 rest w2 (items_only body room t2 t3 rest (omega arith) sb w3) w3) refl
  item_only (given_items line a c b first second) room [] rest le h ne = absurd h.0
  item_only (given_items line a c b first second) zero (t ∷ ts) rest le h ne = absurd (omega arith)
  item_only (given_items line a c b first second) (suc room) (t ∷ ts) rest le (ln, (t1, head, (t4, (t2, w2, (t3, sa, w3)), sb))) ne =
      let g = given_only a c b (suc room) t ts t1 (omega arith) head in
      rw (
        g.0,
        ln,
        g.1,
        body_only first room t1 t2 t3 t4 w2 (items_only first room t2 t3 t4 (omega arith) sa w3) w3,
        else_only second (suc room) t4 rest (omega arith) sb ne,
      ) refl

  items_only : (b : Items) (room : ℕ) (ts mid rest : List Tok) → items_depth b ≤ room → SpellsItems b ts mid → Sym mark.RightBrace mid rest → AreRead room b ts mid
  items_only no_item room ts mid rest le h w = h
  items_only (item i more) room ts mid rest le (t1, hs, hm) w =
      (t1, (hs, item_opened room ts ∙ item_only i room ts t1 (omega arith) hs (not_else more t1 mid rest hm w)), items_only more room t1 mid rest (omega arith) hm w)

  else_only : (b : ElseItems) (room : ℕ) (ts rest : List Tok) → else_items_depth b ≤ room → SpellsElseItems b ts rest → begins (is_keyword keyword.Else) rest ≡ false → else_items_at room (inner_items room) ts ≡ Ok (b, rest)
  else_only no_else_items room ts rest le h ne = rw (h, ne) refl
  else_only (otherwise_items b) zero ts rest le h ne = absurd (omega arith)
  else_only (otherwise_items b) (suc room) ts rest le (t1, w, (t2, w2, (t3, sb, w3))) ne =
      let e = next_is (key keyword.Else) ts t1 w in
      rw (e.0, e.1, body_only b room t1 t2 t3 rest w2 (items_only b room t2 t3 rest (omega arith) sb w3) w3) refl

-- items up to a closing brace
pub items_until_only : (b : Items) (room : ℕ) (ts mid rest : List Tok) → items_depth b ≤ room → SpellsItems b ts mid → Sym mark.RightBrace mid rest → items_until (item_at room) ts ≡ Ok (b, rest)
items_until_only b room ts mid rest le h w = until_items b room ts mid rest (items_only b room ts mid rest le h w) w
