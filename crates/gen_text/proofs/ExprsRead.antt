-- An expression is read as it is spelled.
use Rattle.std.proofs.Common.{◌≡◌, ℕ, zero, suc, Bool, true, false, cond, List, [], ◌∷◌, Option, Some, None, Ok, Err, refl, subst, arith, append-nil, append_assoc, inl, inr}
use Rattle.gen_token.specs.declared.Keyword.TheVariants as keyword
use Rattle.gen_token.specs.declared.Mark.TheVariants as mark
use Rattle.gen_token.specs.Words.{Word, Name, Number, Literal, Reserved, Sign, Tok}
use Rattle.gen_tree.specs.declared.UnOp.{UnOp}
use Rattle.gen_tree.specs.declared.Op.{Op}
use Rattle.gen_tree.specs.declared.Dialect.{Dialect}
use Rattle.gen_tree.specs.declared.Dialect.TheVariants as dialect
use Rattle.gen_tree.specs.Brackets.{room_after}
use Rattle.gen_tree.specs.Tree.{Int, Fam, Expr, read, out, value, unary, binary, mux, zext, slice}
use Rattle.gen_tree.specs.Grammar.{Span, ◌⨾◌, Sym, SpellsInt, SpellsFam, SpellsLit, SpellsRead, SpellsPrim, SpellsExpr, op_mark, un_op_word}
use Rattle.gen_text.specs.Forms.{is_mark, LitForm, a_plain, a_bits, no_lit, lit_form, op_form, PrimForm, a_name, a_lit, a_bracket, a_unary, a_cat, a_mux, a_zext, prim_form}
use Rattle.gen_text.specs.Reading.{Read, some_at, bits_at, lit_by, lit_at, dot_at, read_of, read_at, op_at, bracket_at, unary_at, cat_at, zext_at, mux_at, prim_by, prim_step, range_at, bounds_at, slice_at, expr_step, expr_at}
use Rattle.gen_text.proofs.Machine.{sign, Symbol, need, an_int, an_expr, a_prim, an_op, a_slice, an_index, a_dot, a_literal, lead, prim_lead, settle, settle_by, at_end, run}
use Rattle.gen_text.proofs.Moves.{Comes, Reads, after, then_read, then_word, then_seen, done, begins as takes_first, passes, passes_end, refuses, refuses_end}
use Rattle.gen_text.proofs.WordsRead.{is_mark_is, test, word_reads, then_open, name_reads}
use Rattle.gen_text.proofs.IntsRead.{inner_reads, fam_rest_reads}

-- ---- literals

abbrev LitIs : Dialect → LitForm → Word → Type 0
LitIs m (a_plain w v) k = k ≡ Literal w v
LitIs m a_bits k = (k ≡ Reserved keyword.Bits) × (m ≡ dialect.Source)
LitIs m no_lit k = Unit {0}

lit_is : (m : Dialect) (k : Word) → LitIs m (lit_form m k) k
lit_is m (Name x) = tt
lit_is m (Number n) = tt
lit_is m (Literal w v) = refl
lit_is dialect.Source (Reserved keyword.Bits) = (refl, refl)
lit_is dialect.Condition (Reserved keyword.Bits) = tt
lit_is m (Reserved _) = tt
lit_is m (Sign _) = tt

-- behind `bits`
bits_reads : (room : ℕ) (t : Tok) (ts : List Tok) → t.word ≡ Reserved keyword.Bits
    → Reads dialect.Source room (need (sign mark.LeftParen) ∷ an_int ∷ need (sign mark.Comma) ∷ an_int ∷ need (sign mark.RightParen) ∷ []) ts room (λ l. SpellsLit dialect.Source l (t ∷ ts)) (bits_at dialect.Source room ts)
bits_reads room t ts is =
    then_open mark.LeftParen room ts _ refl (λ room2 room-is t1 g1 l1.
    then_read _ (inner_reads dialect.Source room room2 t1 room-is) (λ w t2 gw lw.
    then_word _ (word_reads (sign mark.Comma) room2 room2 t2 refl) (λ t3 g3 l3.
    then_read _ (inner_reads dialect.Source room room2 t3 room-is) (λ v t4 gv lv.
    then_word _ (word_reads (sign mark.RightParen) room2 room t4 (rw (← room-is) refl)) (λ rest gr lr.
    done (ts, (is, refl), (t1, g1, (t2, gw, (t3, g3, (t4, gv, gr))))))))))

lit_by_reads : (m : Dialect) (f : LitForm) (room : ℕ) (t : Tok) (ts : List Tok) → lit_form m t.word ≡ f → LitIs m f t.word
    → Reads m room (a_literal ∷ []) (t ∷ ts) room (λ l. SpellsLit m l (t ∷ ts)) (lit_by m room f ts)
lit_by_reads m (a_plain w v) room t ts e is = takes_first (rw e refl) (rw is refl) (done (is, refl))
lit_by_reads dialect.Source a_bits room t ts e is = takes_first (rw e refl) (rw is.0 refl) (bits_reads room t ts is.0)
lit_by_reads dialect.Condition a_bits room t ts e is = absurd (let no : dialect.Condition ≡ dialect.Source = is.1 in cc)
lit_by_reads m no_lit room t ts e is = refuses (rw e refl)

pub lit_reads : (m : Dialect) (room : ℕ) (ts : List Tok) → Reads m room (a_literal ∷ []) ts room (λ l. SpellsLit m l ts) (lit_at m room ts)
lit_reads m room [] = refuses_end refl
lit_reads m room (t ∷ ts) = lit_by_reads m (lit_form m t.word) room t ts refl (lit_is m t.word)

-- ---- operators

-- the word of an operator that stands between its operands
abbrev IsBetween : Op → Word → Type 0
IsBetween o w = (k : _) × (op_mark o ≡ Some k) × (w ≡ Sign k) × ((room : ℕ) → room_after room (Sign k) ≡ Some room)

abbrev OpIs : Option Op → Word → Type 0
OpIs None w = Unit {0}
OpIs (Some o) w = IsBetween o w

op_is : (w : Word) → OpIs (op_form w) w
op_is (Name x) = tt
op_is (Number n) = tt
op_is (Literal w v) = tt
op_is (Reserved k) = tt
op_is (Sign mark.Plus) = (mark.Plus, refl, refl, λ room. refl)
op_is (Sign mark.Minus) = (mark.Minus, refl, refl, λ room. refl)
op_is (Sign mark.Star) = (mark.Star, refl, refl, λ room. refl)
op_is (Sign mark.Ampersand) = (mark.Ampersand, refl, refl, λ room. refl)
op_is (Sign mark.Bar) = (mark.Bar, refl, refl, λ room. refl)
op_is (Sign mark.Caret) = (mark.Caret, refl, refl, λ room. refl)
op_is (Sign mark.EqualsEquals) = (mark.EqualsEquals, refl, refl, λ room. refl)
op_is (Sign mark.NotEquals) = (mark.NotEquals, refl, refl, λ room. refl)
op_is (Sign mark.Less) = (mark.Less, refl, refl, λ room. refl)
op_is (Sign mark.LessEquals) = (mark.LessEquals, refl, refl, λ room. refl)
op_is (Sign mark.LessLess) = (mark.LessLess, refl, refl, λ room. refl)
op_is (Sign mark.GreaterGreater) = (mark.GreaterGreater, refl, refl, λ room. refl)
op_is (Sign _) = tt

-- the mark of an operator, and the rest
abbrev Between : Op → List Tok → List Tok → Type 0
Between o ts rest = (k : _) × (op_mark o ≡ Some k) × Sym k ts rest

op_by : {m : Dialect} (f : Option Op) (room : ℕ) (t : Tok) (ts : List Tok) → op_form t.word ≡ f → OpIs f t.word
    → Reads m room (an_op ∷ []) (t ∷ ts) room (λ o. Between o (t ∷ ts)) (some_at f ts)
op_by None room t ts e h = refuses (rw e refl)
op_by (Some o) room t ts e h = takes_first (rw e refl) (rw h.2 (h.3 room)) (done (h.0, h.1, (h.2, refl)))

op_reads : {m : Dialect} (room : ℕ) (ts : List Tok) → Reads m room (an_op ∷ []) ts room (λ o. Between o ts) (op_at ts)
op_reads room [] = refuses_end refl
op_reads room (t ∷ ts) = op_by (op_form t.word) room t ts refl (op_is t.word)

-- ---- what stands behind the first token

abbrev PrimIs : Dialect → PrimForm → Word → Type 0
PrimIs m (a_name x) w = w ≡ Name x
PrimIs m (a_lit l) w = lit_form m w ≡ l
PrimIs m a_bracket w = w ≡ Sign mark.LeftParen
PrimIs m (a_unary o) w = (w ≡ un_op_word o) × ((room : ℕ) → room_after room (un_op_word o) ≡ Some room)
PrimIs m a_cat w = w ≡ Reserved keyword.Cat
PrimIs m a_mux w = w ≡ Reserved keyword.Mux
PrimIs m a_zext w = w ≡ Reserved keyword.Zext

prim_is : (m : Dialect) (w : Word) → PrimIs m (prim_form m w) w
prim_is m (Name x) = refl
prim_is m (Number n) = refl
prim_is m (Literal w v) = refl
prim_is m (Reserved keyword.All) = (refl, λ room. refl)
prim_is m (Reserved keyword.Any) = (refl, λ room. refl)
prim_is m (Reserved keyword.Parity) = (refl, λ room. refl)
prim_is m (Reserved keyword.Cat) = refl
prim_is m (Reserved keyword.Mux) = refl
prim_is m (Reserved keyword.Zext) = refl
prim_is m (Reserved _) = refl
prim_is m (Sign mark.LeftParen) = refl
prim_is m (Sign mark.Tilde) = (refl, λ room. refl)
prim_is m (Sign _) = refl

abbrev pub ExprReads : Dialect → ℕ → (List Tok → Read Expr) → Type 0
ExprReads m room inner = (ts : List Tok) → Reads m room (an_expr ∷ []) ts room (λ x. SpellsExpr m x ts) (inner ts)

abbrev InnerReads : Dialect → ℕ → (List Tok → Read Expr) → Type 0
InnerReads m zero inner = Unit {0}
InnerReads m (suc room) inner = ExprReads m room inner

inside : (m : Dialect) (room room2 : ℕ) (inner : List Tok → Read Expr) → room ≡ suc room2 → InnerReads m room inner → ExprReads m room2 inner
inside m room room2 inner is h = subst (λ (r : ℕ). InnerReads m r inner) is h

-- behind a name
dot_reads : (m : Dialect) (room : ℕ) (f : Fam) (from ts : List Tok) → SpellsFam m f from ts
    → Reads m room (a_dot ∷ []) ts room (λ q. SpellsRead m f q from) (dot_at ts)
dot_reads m room f from [] gf = passes_end refl gf
dot_reads m room f from (t ∷ ts) gf = elim (test (is_mark mark.Dot t.word)) [
  | inl e ↦
      let is : t.word ≡ Sign mark.Dot = is_mark_is mark.Dot t.word e in
      rw e (takes_first (rw e refl) (rw is refl) (then_seen _ (name_reads room ts) (λ q rest gq lq. (t ∷ ts, gf, (ts, (is, refl), gq)))))
  | inr e ↦ rw e (passes (rw e refl) gf)
]

read_of_spells : (m : Dialect) (f : Fam) (q : Option (List ℕ)) (ts rest : List Tok) → SpellsRead m f q ts rest → SpellsPrim m (read_of f q) ts rest
read_of_spells m f None ts rest h = h
read_of_spells m f (Some q) ts rest h = h

read_reads : (m : Dialect) (room : ℕ) (x : List ℕ) (t : Tok) (ts : List Tok) → t.word ≡ Name x
    → Reads m room (an_index ∷ a_dot ∷ []) ts room (λ e. SpellsPrim m e (t ∷ ts)) (read_at m room x ts)
read_reads m room x t ts is =
    then_read _ (fam_rest_reads m room x (t ∷ ts) ts (is, refl)) (λ f t1 gf lf.
    then_seen _ (dot_reads m room f (t ∷ ts) t1 gf) (λ q rest gq lq. read_of_spells m f q (t ∷ ts) rest gq))

bracket_of : (m : Dialect) (o : Op) (a b : Expr) (ts t1 t2 t3 t4 rest : List Tok) → Sym mark.LeftParen ts t1 → SpellsExpr m a t1 t2 → Between o t2 t3 → SpellsExpr m b t3 t4 → Sym mark.RightParen t4 rest
    → SpellsPrim m (binary o a b) ts rest
bracket_of m o a b ts t1 t2 t3 t4 rest s1 sa so sb s2 = rw so.1 (t1, s1, (t2, sa, (t3, so.2, (t4, sb, s2))))

bracket_reads : (m : Dialect) (room : ℕ) (inner : List Tok → Read Expr) (ts : List Tok) → InnerReads m room inner
    → Reads m room (need (sign mark.LeftParen) ∷ an_expr ∷ an_op ∷ an_expr ∷ need (sign mark.RightParen) ∷ []) ts room (λ x. SpellsPrim m x ts) (bracket_at room inner ts)
bracket_reads m room inner ts h =
    then_open mark.LeftParen room ts _ refl (λ room2 room-is t1 g1 l1.
    let reads2 : ExprReads m room2 inner = inside m room room2 inner room-is h in
    then_read _ (reads2 t1) (λ a t2 ga la.
    then_read _ (op_reads room2 t2) (λ o t3 go lo.
    then_read _ (reads2 t3) (λ b t4 gb lb.
    then_word _ (word_reads (sign mark.RightParen) room2 room t4 (rw (← room-is) refl)) (λ rest gr lr.
    done (bracket_of m o a b ts t1 t2 t3 t4 rest g1 ga go gb gr))))))

unary_reads : (m : Dialect) (room : ℕ) (inner : List Tok → Read Expr) (o : UnOp) (t : Tok) (ts : List Tok) → InnerReads m room inner → t.word ≡ un_op_word o
    → Reads m room (need (sign mark.LeftParen) ∷ an_expr ∷ need (sign mark.RightParen) ∷ []) ts room (λ x. SpellsPrim m x (t ∷ ts)) (unary_at room inner o ts)
unary_reads m room inner o t ts h is =
    then_open mark.LeftParen room ts _ refl (λ room2 room-is t1 g1 l1.
    then_read _ (inside m room room2 inner room-is h t1) (λ e t2 ge le.
    then_word _ (word_reads (sign mark.RightParen) room2 room t2 (rw (← room-is) refl)) (λ rest gr lr.
    done (ts, (is, refl), (t1, g1, (t2, ge, gr))))))

cat_reads : (m : Dialect) (room : ℕ) (inner : List Tok → Read Expr) (t : Tok) (ts : List Tok) → InnerReads m room inner → t.word ≡ Reserved keyword.Cat
    → Reads m room (need (sign mark.LeftParen) ∷ an_expr ∷ need (sign mark.Comma) ∷ an_expr ∷ need (sign mark.RightParen) ∷ []) ts room (λ x. SpellsPrim m x (t ∷ ts)) (cat_at room inner ts)
cat_reads m room inner t ts h is =
    then_open mark.LeftParen room ts _ refl (λ room2 room-is t1 g1 l1.
    let reads2 : ExprReads m room2 inner = inside m room room2 inner room-is h in
    then_read _ (reads2 t1) (λ a t2 ga la.
    then_word _ (word_reads (sign mark.Comma) room2 room2 t2 refl) (λ t3 g3 l3.
    then_read _ (reads2 t3) (λ b t4 gb lb.
    then_word _ (word_reads (sign mark.RightParen) room2 room t4 (rw (← room-is) refl)) (λ rest gr lr.
    done (ts, (is, refl), (t1, g1, (t2, ga, (t3, g3, (t4, gb, gr))))))))))

zext_reads : (m : Dialect) (room : ℕ) (inner : List Tok → Read Expr) (t : Tok) (ts : List Tok) → InnerReads m room inner → t.word ≡ Reserved keyword.Zext
    → Reads m room (need (sign mark.LeftParen) ∷ an_expr ∷ need (sign mark.Comma) ∷ an_int ∷ need (sign mark.RightParen) ∷ []) ts room (λ x. SpellsPrim m x (t ∷ ts)) (zext_at m room inner ts)
zext_reads m room inner t ts h is =
    then_open mark.LeftParen room ts _ refl (λ room2 room-is t1 g1 l1.
    then_read _ (inside m room room2 inner room-is h t1) (λ e t2 ge le.
    then_word _ (word_reads (sign mark.Comma) room2 room2 t2 refl) (λ t3 g3 l3.
    then_read _ (inner_reads m room room2 t3 room-is) (λ w t4 gw lw.
    then_word _ (word_reads (sign mark.RightParen) room2 room t4 (rw (← room-is) refl)) (λ rest gr lr.
    done (ts, (is, refl), (t1, g1, (t2, ge, (t3, g3, (t4, gw, gr))))))))))

mux_reads : (m : Dialect) (room : ℕ) (inner : List Tok → Read Expr) (t : Tok) (ts : List Tok) → InnerReads m room inner → t.word ≡ Reserved keyword.Mux
    → Reads m room (need (sign mark.LeftParen) ∷ an_expr ∷ need (sign mark.Comma) ∷ an_expr ∷ need (sign mark.Comma) ∷ an_expr ∷ need (sign mark.RightParen) ∷ []) ts room (λ x. SpellsPrim m x (t ∷ ts)) (mux_at room inner ts)
mux_reads m room inner t ts h is =
    then_open mark.LeftParen room ts _ refl (λ room2 room-is t1 g1 l1.
    let reads2 : ExprReads m room2 inner = inside m room room2 inner room-is h in
    then_read _ (reads2 t1) (λ c t2 gc lc.
    then_word _ (word_reads (sign mark.Comma) room2 room2 t2 refl) (λ t3 g3 l3.
    then_read _ (reads2 t3) (λ a t4 ga la.
    then_word _ (word_reads (sign mark.Comma) room2 room2 t4 refl) (λ t5 g5 l5.
    then_read _ (reads2 t5) (λ b t6 gb lb.
    then_word _ (word_reads (sign mark.RightParen) room2 room t6 (rw (← room-is) refl)) (λ rest gr lr.
    done (ts, (is, refl), (t1, g1, (t2, gc, (t3, g3, (t4, ga, (t5, g5, (t6, gb, gr))))))))))))))

-- ---- expressions

-- a bracket at the place of an expression
settle_bracket : (m : Dialect) (stack : List Symbol) (w : Word) → w ≡ Sign mark.LeftParen
    → settle m (a_prim ∷ stack) w ≡ settle m (need (sign mark.LeftParen) ∷ an_expr ∷ an_op ∷ an_expr ∷ need (sign mark.RightParen) ∷ stack) w
unfolding settle
settle_bracket m stack w is = rw is refl

opens_bracket : (m : Dialect) (room : ℕ) (t : Tok) (ts : List Tok) → t.word ≡ Sign mark.LeftParen
    → Comes m room (a_prim ∷ []) (t ∷ ts) room (need (sign mark.LeftParen) ∷ an_expr ∷ an_op ∷ an_expr ∷ need (sign mark.RightParen) ∷ []) (t ∷ ts)
unfolding run
opens_bracket m room t ts is = record { comes = λ stack. rw (settle_bracket m stack t.word is) refl }

-- a literal at the place of an expression
settle_lit : (m : Dialect) (l : LitForm) (stack : List Symbol) (w : Word) → prim_form m w ≡ a_lit l → lit_form m w ≡ l → settle m (a_prim ∷ stack) w ≡ settle m (a_literal ∷ stack) w
unfolding settle
settle_lit m l stack w e is = rw (e, is) refl

opens_lit : (m : Dialect) (room : ℕ) (l : LitForm) (t : Tok) (ts : List Tok) → prim_form m t.word ≡ a_lit l → lit_form m t.word ≡ l → Comes m room (a_prim ∷ []) (t ∷ ts) room (a_literal ∷ []) (t ∷ ts)
unfolding run
opens_lit m room l t ts e is = record { comes = λ stack. rw (settle_lit m l stack t.word e is) refl }

prim_by_reads : (m : Dialect) (f : PrimForm) (room : ℕ) (inner : List Tok → Read Expr) (t : Tok) (ts : List Tok) → InnerReads m room inner → prim_form m t.word ≡ f → PrimIs m f t.word
    → Reads m room (a_prim ∷ []) (t ∷ ts) room (λ x. SpellsPrim m x (t ∷ ts)) (prim_by m room inner f (t ∷ ts) ts)
prim_by_reads m (a_name x) room inner t ts h e is = takes_first (rw e refl) (rw is refl) (read_reads m room x t ts is)
prim_by_reads m (a_lit l) room inner t ts h e is = after (omega arith) (opens_lit m room l t ts e is) (then_seen _ (lit_by_reads m l room t ts is (subst (λ (f : LitForm). LitIs m f t.word) is (lit_is m t.word))) (λ l rest gl ll. gl))
prim_by_reads m a_bracket room inner t ts h e is = after (omega arith) (opens_bracket m room t ts is) (bracket_reads m room inner (t ∷ ts) h)
prim_by_reads m (a_unary o) room inner t ts h e is = takes_first (rw e refl) (rw is.0 (is.1 room)) (unary_reads m room inner o t ts h is.0)
prim_by_reads m a_cat room inner t ts h e is = takes_first (rw e refl) (rw is refl) (cat_reads m room inner t ts h is)
prim_by_reads m a_mux room inner t ts h e is = takes_first (rw e refl) (rw is refl) (mux_reads m room inner t ts h is)
prim_by_reads m a_zext room inner t ts h e is = takes_first (rw e refl) (rw is refl) (zext_reads m room inner t ts h is)

prim_reads : (m : Dialect) (room : ℕ) (inner : List Tok → Read Expr) (ts : List Tok) → InnerReads m room inner → Reads m room (a_prim ∷ []) ts room (λ x. SpellsPrim m x ts) (prim_step m room inner ts)
prim_reads m room inner [] h = refuses_end refl
prim_reads m room inner (t ∷ ts) h = prim_by_reads m (prim_form m t.word) room inner t ts h refl (prim_is m t.word)

pub prim_expr : (m : Dialect) (e : Expr) (ts rest : List Tok) → SpellsPrim m e ts rest → SpellsExpr m e ts rest
prim_expr m (read f) ts rest h = h
prim_expr m (out f q) ts rest h = h
prim_expr m (value l) ts rest h = h
prim_expr m (unary o e) ts rest h = h
prim_expr m (binary o a b) ts rest h = h
prim_expr m (mux c a b) ts rest h = h
prim_expr m (zext e w) ts rest h = h
prim_expr m (slice e i j) ts rest h = absurd h

abbrev pub range_symbols : List Symbol
range_symbols = need (sign mark.LeftBracket) ∷ an_int ∷ need (sign mark.Colon) ∷ an_int ∷ need (sign mark.RightBracket) ∷ []

-- two bounds in brackets
abbrev pub SpellsRange : Dialect → Int × Int → Span
SpellsRange m b = Sym mark.LeftBracket ⨾ SpellsInt m b.0 ⨾ Sym mark.Colon ⨾ SpellsInt m b.1 ⨾ Sym mark.RightBracket

pub range_reads : (m : Dialect) (room : ℕ) (ts : List Tok) → Reads m room range_symbols ts room (λ b. SpellsRange m b ts) (range_at m room ts)
range_reads m room ts =
    then_open mark.LeftBracket room ts _ refl (λ room2 room-is t1 g1 l1.
    then_read _ (inner_reads m room room2 t1 room-is) (λ i t2 gi li.
    then_word _ (word_reads (sign mark.Colon) room2 room2 t2 refl) (λ t3 g3 l3.
    then_read _ (inner_reads m room room2 t3 room-is) (λ j t4 gj lj.
    then_word _ (word_reads (sign mark.RightBracket) room2 room t4 (rw (← room-is) refl)) (λ rest gr lr.
    done (t1, g1, (t2, gi, (t3, g3, (t4, gj, gr)))))))))

-- from the first token of the expression on
bounds_reads : (m : Dialect) (room : ℕ) (e : Expr) (from : List Tok) (t : Tok) (ts : List Tok) → SpellsPrim m e from (t ∷ ts)
    → Reads m room range_symbols (t ∷ ts) room (λ x. SpellsExpr m x from) (bounds_at m room e (t ∷ ts))
bounds_reads m room e from t ts h = then_seen _ (range_reads m room (t ∷ ts)) (λ b rest gb lb. (t ∷ ts, h, gb))

settle_slice : (m : Dialect) (stack : List Symbol) (w : Word) → is_mark mark.LeftBracket w ≡ true
    → settle m (a_slice ∷ stack) w ≡ settle m (need (sign mark.LeftBracket) ∷ an_int ∷ need (sign mark.Colon) ∷ an_int ∷ need (sign mark.RightBracket) ∷ stack) w
unfolding settle
settle_slice m stack w e = rw e refl

pub opens_slice : (m : Dialect) (room : ℕ) (t : Tok) (ts : List Tok) → is_mark mark.LeftBracket t.word ≡ true
    → Comes m room (a_slice ∷ []) (t ∷ ts) room (need (sign mark.LeftBracket) ∷ an_int ∷ need (sign mark.Colon) ∷ an_int ∷ need (sign mark.RightBracket) ∷ []) (t ∷ ts)
unfolding run
opens_slice m room t ts e = record { comes = λ stack. rw (settle_slice m stack t.word e) refl }

slice_reads : (m : Dialect) (room : ℕ) (e : Expr) (from ts : List Tok) → SpellsPrim m e from ts → Reads m room (a_slice ∷ []) ts room (λ x. SpellsExpr m x from) (slice_at m room e ts)
slice_reads m room e from [] h = passes_end refl (prim_expr m e from [] h)
slice_reads m room e from (t ∷ ts) h = by (is_mark mark.LeftBracket t.word) refl
  where
    by : (b : Bool) → is_mark mark.LeftBracket t.word ≡ b → Reads m room (a_slice ∷ []) (t ∷ ts) room (λ x. SpellsExpr m x from) (cond b (bounds_at m room e (t ∷ ts)) (Ok (e, t ∷ ts)))
    by true eq = after (omega arith) (opens_slice m room t ts eq) (bounds_reads m room e from t ts h)
    by false eq = passes (rw eq refl) (prim_expr m e from (t ∷ ts) h)

settle_expr : (m : Dialect) (stack : List Symbol) (w : Word) → settle m (an_expr ∷ stack) w ≡ settle m (a_prim ∷ a_slice ∷ stack) w
unfolding settle
settle_expr m stack w = by (prim_lead (prim_form m w))
  where
    by : (f : Option (List Symbol)) → settle_by (lead f (a_slice ∷ [])) stack (settle m stack w) ≡ settle_by (lead f []) (a_slice ∷ stack) (settle m (a_slice ∷ stack) w)
    by None = refl
    by (Some more) = rw (append_assoc, append-nil) refl

opens_expr : (m : Dialect) (room : ℕ) (ts : List Tok) → Comes m room (an_expr ∷ []) ts room (a_prim ∷ a_slice ∷ []) ts
unfolding run at_end
opens_expr m room [] = record { comes = λ stack. refl }
opens_expr m room (t ∷ ts) = record { comes = λ stack. rw (settle_expr m stack t.word) refl }

expr_step_reads : (m : Dialect) (room : ℕ) (inner : List Tok → Read Expr) (ts : List Tok) → InnerReads m room inner → Reads m room (an_expr ∷ []) ts room (λ x. SpellsExpr m x ts) (expr_step m room inner ts)
expr_step_reads m room inner ts h = after (omega arith) (opens_expr m room ts) (then_read _ (prim_reads m room inner ts h) (λ p rest gp lp. slice_reads m room p ts rest gp))

pub expr_reads : (m : Dialect) (room : ℕ) → ExprReads m room (expr_at m room)
unfolding expr_at
expr_reads m zero ts = expr_step_reads m zero (λ ts. Err 0) ts tt
expr_reads m (suc room) ts = expr_step_reads m (suc room) (expr_at m room) ts (expr_reads m room)
