-- Parameters, connections and items are read as they are spelled.
use Rattle.std.proofs.Common.{◌≡◌, ◌<◌, ◌-◌, ℕ, zero, suc, Bool, true, false, cond, List, [], ◌∷◌, ◌++◌, length, Option, Some, None, Result, Ok, Err, refl, arith, inl, inr}
use Rattle.gen_token.specs.declared.Keyword.TheVariants as keyword
use Rattle.gen_token.specs.declared.Mark.TheVariants as mark
use Rattle.gen_token.specs.Words.{Word, Name, Number, Literal, Reserved, Sign, Tok}
use Rattle.gen_tree.specs.declared.Dialect.TheVariants as dialect
use Rattle.gen_tree.specs.Brackets.{room_after}
use Rattle.gen_tree.specs.Tree.{Stmts, Param, Item, Items, items, no_else_items, otherwise_items}
use Rattle.gen_tree.specs.Grammar.{Span, ◌⨾◌, Sym, Each, Braces, SpellsStmts, SpellsParam, SpellsParams, SpellsConn, SpellsItem, SpellsItems, SpellsElseItems}
use Rattle.gen_text.specs.Forms.{is_mark, name_form, ItemForm, a_wire, a_reg, an_inst, a_block, a_for_item, a_gen_item, no_item_form, item_form}
use Rattle.gen_text.specs.Reading.{Read, ◌>>=◌, seen, until_at, each_at, mark_at, open_at, param_at, more_param_at, begins_param, param_list_at, params_in_at, params_at, conn_by, conn_at, conns_at, wire_at, reg_at, inst_at, block_of, block_at, inner_stmts, for_item_at, gen_item_at, item_by, item_step, items_until, item_at}
use Rattle.gen_text.proofs.Machine.{sign, Symbol, need, need_name, an_int, an_index, a_literal, stmts_end, a_param, another_param, params_end, params, a_conn, conns_end, an_item, items_end, else_items, fam_symbols, turn_symbols, given_symbols, body_symbols, param_symbols, conn_symbols, if_some, item_lead, settle, run, at_end}
use Rattle.gen_text.proofs.Moves.{Comes, Reads, after, then_read, then_front, then_word, then_seen, maps, measured, done, begins as takes_first, passes, passes_end, refuses, refuses_end}
use Rattle.gen_text.proofs.WordsRead.{test, is_mark_is, word_reads, then_open, name_reads, NameIs, name_is}
use Rattle.gen_text.proofs.IntsRead.{int_reads, fam_reads}
use Rattle.gen_text.proofs.ExprsRead.{lit_reads, expr_reads}
use Rattle.gen_text.proofs.Lists.{EachReads, each_reads, then_each, UntilOf, until_reads, opens_until, InsideBody, body_reads, ElseOf, else_reads, takes}
use Rattle.gen_text.proofs.Loops.{Shortens}
use Rattle.gen_text.proofs.StmtsRead.{turns_reads, given_reads, inner_stmts_read}

-- ---- parameters

settle_param : (stack : List Symbol) (f : Option (List ℕ)) (w : Word) → name_form w ≡ f → settle dialect.Source (a_param ∷ stack) w ≡ settle dialect.Source (need_name ∷ param_symbols ++ stack) w
unfolding settle
settle_param stack None w e = rw e refl
settle_param stack (Some x) w e = rw e refl

opens_param : (room : ℕ) (ts : List Tok) → Comes dialect.Source room (a_param ∷ []) ts room (need_name ∷ param_symbols) ts
unfolding run at_end
opens_param room [] = record { comes = λ stack. refl }
opens_param room (t ∷ ts) = record { comes = λ stack. rw (settle_param stack (name_form t.word) t.word refl) refl }

param_reads : (room : ℕ) (ts : List Tok) → Reads dialect.Source room (a_param ∷ []) ts room (λ p. SpellsParam p ts) (param_at room ts)
param_reads room ts =
    after (omega arith) (opens_param room ts) (
    then_read _ (name_reads room ts) (λ x t1 gx lx.
    then_word _ (word_reads (sign mark.Equals) room room t1 refl) (λ t2 g2 l2.
    then_read _ (int_reads dialect.Source room t2) (λ i rest gi li.
    done (t1, gx, (t2, g2, gi))))))

abbrev More : Param → Span
More p = Sym mark.Comma ⨾ SpellsParam p

pub more_param_reads : (room : ℕ) (ts : List Tok) → Reads dialect.Source room (another_param ∷ []) ts room (λ p rest. More p ts rest × (length rest < length ts)) (more_param_at room ts)
more_param_reads room [] = refuses_end refl
more_param_reads room (t ∷ ts) = elim (test (is_mark mark.Comma t.word)) [
  | inl e ↦
      let is : t.word ≡ Sign mark.Comma = is_mark_is mark.Comma t.word e in
      rw e (takes_first (rw e refl) (rw is refl) (maps (λ p rest g. ((ts, (is, refl), g.0), omega (arith, g.1))) (measured (param_reads room ts))))
  | inr e ↦ rw e (refuses (rw e refl))
]

settle_more : (stack : List Symbol) (w : Word) → is_mark mark.Comma w ≡ true → settle dialect.Source (params_end ∷ stack) w ≡ settle dialect.Source (another_param ∷ params_end ∷ stack) w
unfolding settle
settle_more stack w e = rw e refl

opens_more : (room : ℕ) (ts : List Tok) → begins_param ts ≡ true → Comes dialect.Source room (params_end ∷ []) ts room (another_param ∷ params_end ∷ []) ts
unfolding run at_end
opens_more room [] h = absurd cc
opens_more room (t ∷ ts) h = record { comes = λ stack. rw (settle_more stack t.word h) refl }

more_params_read : (room : ℕ) (ts : List Tok) → EachReads dialect.Source room params_end begins_param More ts (each_at begins_param (more_param_at room) ts)
more_params_read room ts = each_reads dialect.Source (suc (length ts)) room params_end another_param begins_param More (more_param_at room) ts (record { opens = opens_more room; reads = more_param_reads room }) (omega arith)

settle_last_param : (stack : List Symbol) (w : Word) → is_mark mark.Comma w ≡ false → settle dialect.Source (params_end ∷ stack) w ≡ settle dialect.Source (need (sign mark.RightParen) ∷ stack) w
unfolding settle
settle_last_param stack w e = rw e refl

after_params : (room : ℕ) (ts : List Tok) → begins_param ts ≡ false → Comes dialect.Source room (params_end ∷ []) ts room (need (sign mark.RightParen) ∷ []) ts
unfolding run at_end
after_params room [] h = record { comes = λ stack. refl }
after_params room (t ∷ ts) h = record { comes = λ stack. rw (settle_last_param stack t.word h) refl }

-- the same, one step after another
abbrev pub params_flat_at : ℕ → List Tok → Read (List Param)
params_flat_at room ts = do
  t1 ← open_at mark.LeftParen room ts
  p ← param_at (room - 1) t1
  more ← each_at begins_param (more_param_at (room - 1)) p.1
  rest ← mark_at mark.RightParen more.1
  Ok (p.0 ∷ more.0, rest)

-- up to the bracket that closes them
abbrev closing : List Param → List Tok → Read (List Param)
closing ps ts = mark_at mark.RightParen ts >>= λ rest. Ok (ps, rest)

abbrev more_of : ℕ → List Tok → Read (List Param)
more_of room ts = each_at begins_param (more_param_at room) ts

pub params_flat : (room : ℕ) (ts : List Tok) → params_in_at room ts ≡ params_flat_at room ts
params_flat room ts = first (open_at mark.LeftParen room ts)
  where
    third : (p : Param) (o : Read (List Param)) → (seen (λ more. p ∷ more) o >>= λ ps. closing ps.0 ps.1) ≡ (o >>= λ more. closing (p ∷ more.0) more.1)
    third p (Err left) = refl
    third p (Ok more) = refl

    second : (o : Read Param) → ((o >>= λ p. seen (λ more. p.0 ∷ more) (more_of (room - 1) p.1)) >>= λ ps. closing ps.0 ps.1)
        ≡ (o >>= λ p. more_of (room - 1) p.1 >>= λ more. closing (p.0 ∷ more.0) more.1)
    second (Err left) = refl
    second (Ok p) = third p.0 (more_of (room - 1) p.1)

    first : (o : Result (List Tok) ℕ) → (o >>= λ t1. param_list_at (room - 1) t1 >>= λ ps. closing ps.0 ps.1)
        ≡ (o >>= λ t1. param_at (room - 1) t1 >>= λ p. more_of (room - 1) p.1 >>= λ more. closing (p.0 ∷ more.0) more.1)
    first (Err left) = refl
    first (Ok t1) = second (param_at (room - 1) t1)

params_in_reads : (room : ℕ) (ts : List Tok) → Reads dialect.Source room (need (sign mark.LeftParen) ∷ a_param ∷ params_end ∷ []) ts room (λ ps. SpellsParams ps ts) (params_in_at room ts)
params_in_reads room ts = rw (params_flat room ts) (
    then_open mark.LeftParen room ts _ refl (λ room2 room-is t1 g1 l1.
    let same : room - 1 ≡ room2 = omega arith in
    rw same (
    then_read _ (param_reads room2 t1) (λ p t2 gp lp.
    then_each _ (more_params_read room2 t2) (after_params room2) (λ ps t3 gs ls.
    then_word _ (word_reads (sign mark.RightParen) room2 room t3 (rw (← room-is) refl)) (λ rest gr lr.
    done (t1, g1, (t2, gp, (t3, gs, gr)))))))))

settle_params : (stack : List Symbol) (w : Word) → is_mark mark.LeftParen w ≡ true → settle dialect.Source (params ∷ stack) w ≡ settle dialect.Source (need (sign mark.LeftParen) ∷ a_param ∷ params_end ∷ stack) w
unfolding settle
settle_params stack w e = rw e refl

opens_params : (room : ℕ) (t : Tok) (ts : List Tok) → is_mark mark.LeftParen t.word ≡ true → Comes dialect.Source room (params ∷ []) (t ∷ ts) room (need (sign mark.LeftParen) ∷ a_param ∷ params_end ∷ []) (t ∷ ts)
unfolding run
opens_params room t ts e = record { comes = λ stack. rw (settle_params stack t.word e) refl }

pub params_read : (room : ℕ) (ts : List Tok) → Reads dialect.Source room (params ∷ []) ts room (λ ps. SpellsParams ps ts) (params_at room ts)
params_read room [] = passes_end refl refl
params_read room (t ∷ ts) = by (is_mark mark.LeftParen t.word) refl
  where
    by : (b : Bool) → is_mark mark.LeftParen t.word ≡ b → Reads dialect.Source room (params ∷ []) (t ∷ ts) room (λ ps. SpellsParams ps (t ∷ ts)) (cond b (params_in_at room (t ∷ ts)) (Ok ([], t ∷ ts)))
    by true e = after (omega arith) (opens_params room t ts e) (params_in_reads room (t ∷ ts))
    by false e = passes (rw e refl) refl

-- ---- connections

conn_by_reads : (f : Option (List ℕ)) (room : ℕ) (t : Tok) (ts : List Tok) → name_form t.word ≡ f → NameIs f t.word
    → Reads dialect.Source room (a_conn ∷ []) (t ∷ ts) room (λ c rest. SpellsConn c (t ∷ ts) rest × (length rest < suc (length ts))) (conn_by room f t.line ts)
conn_by_reads None room t ts e is = refuses (rw e refl)
conn_by_reads (Some x) room t ts e is = takes_first (rw e refl) (rw is refl) (
    then_word _ (word_reads (sign mark.Equals) room room ts refl) (λ t1 g1 l1.
    then_read _ (expr_reads dialect.Source room t1) (λ v t2 gv lv.
    then_word _ (word_reads (sign mark.Semicolon) room room t2 refl) (λ rest gr lr.
    done ((refl, (ts, (is, refl), (t1, g1, (t2, gv, gr)))), omega arith)))))

pub conn_reads : (room : ℕ) (ts : List Tok) → Reads dialect.Source room (a_conn ∷ []) ts room (λ c rest. SpellsConn c ts rest × (length rest < length ts)) (conn_at room ts)
conn_reads room [] = refuses_end refl
conn_reads room (t ∷ ts) = conn_by_reads (name_form t.word) room t ts refl (name_is t.word)

conns_of_list : (room : ℕ) → UntilOf dialect.Source room conns_end a_conn SpellsConn (conn_at room)
conns_of_list room = record {
  closes = λ w e. rw e refl;
  opens = opens_until dialect.Source room conns_end a_conn (λ w. if_some conn_symbols (name_form w)) (λ w. refl) (λ w. refl) refl refl;
  reads = conn_reads room;
}

conns_read : (room : ℕ) (ts : List Tok) → Reads dialect.Source room (body_symbols conns_end) ts room (λ cs. Braces (Each SpellsConn cs) ts) (conns_at room ts)
conns_read room ts =
    then_open mark.LeftBrace room ts _ refl (λ room2 room-is t1 g1 l1.
    let same : room - 1 ≡ room2 = omega arith in
    let whole : Reads dialect.Source room2 (conns_end ∷ []) t1 (suc room2) (λ cs. (Each SpellsConn cs ⨾ Sym mark.RightBrace) t1) (until_at (conn_at room2) t1) =
    until_reads dialect.Source (suc (length t1)) room2 conns_end a_conn SpellsConn (conn_at room2) t1 (conns_of_list room2) (omega arith) in
    rw (same, room-is) (maps (λ cs rest g. (t1, g1, g)) whole))

-- ---- items

abbrev ItemIs : ItemForm → Word → Type 0
ItemIs a_wire w = w ≡ Reserved keyword.Wire
ItemIs a_reg w = w ≡ Reserved keyword.Reg
ItemIs an_inst w = w ≡ Reserved keyword.Inst
ItemIs (a_block false) w = w ≡ Reserved keyword.Comb
ItemIs (a_block true) w = w ≡ Reserved keyword.Ff
ItemIs a_for_item w = w ≡ Reserved keyword.For
ItemIs a_gen_item w = w ≡ Reserved keyword.Gen
ItemIs no_item_form w = Unit {0}

item_is : (w : Word) → ItemIs (item_form w) w
item_is (Name x) = tt
item_is (Number n) = tt
item_is (Literal w v) = tt
item_is (Reserved keyword.Wire) = refl
item_is (Reserved keyword.Reg) = refl
item_is (Reserved keyword.Inst) = refl
item_is (Reserved keyword.Comb) = refl
item_is (Reserved keyword.Ff) = refl
item_is (Reserved keyword.For) = refl
item_is (Reserved keyword.Gen) = refl
item_is (Reserved _) = tt
item_is (Sign m) = tt

-- an item that was read takes a token at least
abbrev pub TakesItem : List Tok → Item → List Tok → Type 0
TakesItem ts i rest = SpellsItem i ts rest × (length rest < length ts)

wire_reads : (room : ℕ) (t : Tok) (ts : List Tok) → t.word ≡ Reserved keyword.Wire
    → Reads dialect.Source room (need_name ∷ an_index ∷ need (sign mark.Colon) ∷ an_int ∷ need (sign mark.Semicolon) ∷ []) ts room (TakesItem (t ∷ ts)) (wire_at room t.line ts)
wire_reads room t ts is =
    then_front fam_symbols _ (fam_reads room ts) (λ f t1 gf lf.
    then_word _ (word_reads (sign mark.Colon) room room t1 refl) (λ t2 g2 l2.
    then_read _ (int_reads dialect.Source room t2) (λ w t3 gw lw.
    then_word _ (word_reads (sign mark.Semicolon) room room t3 refl) (λ rest gr lr.
    done ((refl, (ts, (is, refl), (t1, gf, (t2, g2, (t3, gw, gr))))), omega arith)))))

reg_reads : (room : ℕ) (t : Tok) (ts : List Tok) → t.word ≡ Reserved keyword.Reg
    → Reads dialect.Source room (need_name ∷ an_index ∷ need (sign mark.Colon) ∷ an_int ∷ need (sign mark.Equals) ∷ a_literal ∷ need (sign mark.Semicolon) ∷ []) ts room (TakesItem (t ∷ ts)) (reg_at room t.line ts)
reg_reads room t ts is =
    then_front fam_symbols _ (fam_reads room ts) (λ f t1 gf lf.
    then_word _ (word_reads (sign mark.Colon) room room t1 refl) (λ t2 g2 l2.
    then_read _ (int_reads dialect.Source room t2) (λ w t3 gw lw.
    then_word _ (word_reads (sign mark.Equals) room room t3 refl) (λ t4 g4 l4.
    then_read _ (lit_reads dialect.Source room t4) (λ l t5 gl ll.
    then_word _ (word_reads (sign mark.Semicolon) room room t5 refl) (λ rest gr lr.
    done ((refl, (ts, (is, refl), (t1, gf, (t2, g2, (t3, gw, (t4, g4, (t5, gl, gr))))))), omega arith)))))))

inst_reads : (room : ℕ) (t : Tok) (ts : List Tok) → t.word ≡ Reserved keyword.Inst
    → Reads dialect.Source room (need_name ∷ an_index ∷ need (sign mark.Colon) ∷ need_name ∷ params ∷ body_symbols conns_end) ts room (TakesItem (t ∷ ts)) (inst_at room t.line ts)
inst_reads room t ts is =
    then_front fam_symbols _ (fam_reads room ts) (λ f t1 gf lf.
    then_word _ (word_reads (sign mark.Colon) room room t1 refl) (λ t2 g2 l2.
    then_read _ (name_reads room t2) (λ x t3 gx lx.
    then_read _ (params_read room t3) (λ args t4 ga la.
    then_front (body_symbols conns_end) _ (conns_read room t4) (λ conns rest gc lc.
    done ((refl, (ts, (is, refl), (t1, gf, (t2, g2, (t3, gx, (t4, ga, gc)))))), omega arith))))))

block_spells : (clocked : Bool) (t : Tok) (b : Stmts) (ts rest : List Tok) → ItemIs (a_block clocked) t.word → Braces (SpellsStmts clocked b) ts rest → SpellsItem (block_of clocked t.line b) (t ∷ ts) rest
block_spells false t b ts rest is h = (refl, (ts, (is, refl), h))
block_spells true t b ts rest is h = (refl, (ts, (is, refl), h))

block_side : (clocked : Bool) (w : Word) (room : ℕ) → ItemIs (a_block clocked) w → room_after room w ≡ Some room
block_side false w room is = rw is refl
block_side true w room is = rw is refl

block_reads : (clocked : Bool) (room : ℕ) (t : Tok) (ts : List Tok) → ItemIs (a_block clocked) t.word
    → Reads dialect.Source room (body_symbols (stmts_end clocked)) ts room (TakesItem (t ∷ ts)) (block_at clocked room t.line ts)
block_reads clocked room t ts is =
    then_seen _ (body_reads (stmts_end clocked) (SpellsStmts clocked) room (inner_stmts clocked room) ts (inner_stmts_read clocked room))
    (λ b rest gb lb. (block_spells clocked t b ts rest is gb, omega arith))

-- what is read behind an opening brace
abbrev ItemsInside : ℕ → (List Tok → Read Items) → Type 0
ItemsInside room inner = InsideBody items_end SpellsItems room inner

else_of : ElseOf keyword.Else else_items items_end SpellsItems SpellsElseItems no_else_items otherwise_items
else_of = record { steps = λ w. refl; ends_so = refl; nothing = λ ts. refl; something = λ b ts rest h. h }

for_reads : (room : ℕ) (inner : List Tok → Read Items) (t : Tok) (ts : List Tok) → ItemsInside room inner → t.word ≡ Reserved keyword.For
    → Reads dialect.Source room (turn_symbols ++ body_symbols items_end) ts room (TakesItem (t ∷ ts)) (for_item_at room inner t.line ts)
for_reads room inner t ts h is =
    then_front turn_symbols _ (turns_reads room t ts is) (λ x t1 gx lx.
    then_front (body_symbols items_end) _ (body_reads items_end SpellsItems room inner t1 h) (λ b rest gb lb.
    done ((refl, (t1, gx, gb)), omega arith)))

gen_reads : (room : ℕ) (inner : List Tok → Read Items) (t : Tok) (ts : List Tok) → ItemsInside room inner → t.word ≡ Reserved keyword.Gen
    → Reads dialect.Source room (given_symbols ++ body_symbols items_end ++ else_items ∷ []) ts room (TakesItem (t ∷ ts)) (gen_item_at room inner t.line ts)
gen_reads room inner t ts h is =
    then_front given_symbols _ (given_reads room t ts is) (λ x t1 gx lx.
    then_front (body_symbols items_end) _ (body_reads items_end SpellsItems room inner t1 h) (λ a t2 ga la.
    then_read _ (else_reads keyword.Else else_items items_end SpellsItems SpellsElseItems no_else_items otherwise_items room inner t2 else_of h) (λ b rest gb lb.
    done ((refl, (t1, gx, (t2, ga, gb))), omega arith))))

item_by_reads : (f : ItemForm) (room : ℕ) (inner : List Tok → Read Items) (t : Tok) (ts : List Tok) → ItemsInside room inner → item_form t.word ≡ f → ItemIs f t.word
    → Reads dialect.Source room (an_item ∷ []) (t ∷ ts) room (TakesItem (t ∷ ts)) (item_by room inner f t.line ts)
item_by_reads a_wire room inner t ts h e is = takes_first (rw e refl) (rw is refl) (wire_reads room t ts is)
item_by_reads a_reg room inner t ts h e is = takes_first (rw e refl) (rw is refl) (reg_reads room t ts is)
item_by_reads an_inst room inner t ts h e is = takes_first (rw e refl) (rw is refl) (inst_reads room t ts is)
item_by_reads (a_block clocked) room inner t ts h e is = takes_first (rw e refl) (block_side clocked t.word room is) (block_reads clocked room t ts is)
item_by_reads a_for_item room inner t ts h e is = takes_first (rw e refl) (rw is refl) (for_reads room inner t ts h is)
item_by_reads a_gen_item room inner t ts h e is = takes_first (rw e refl) (rw is refl) (gen_reads room inner t ts h is)
item_by_reads no_item_form room inner t ts h e is = refuses (rw e refl)

abbrev ItemReads : ℕ → (List Tok → Read Item) → Type 0
ItemReads room member = (ts : List Tok) → Reads dialect.Source room (an_item ∷ []) ts room (TakesItem ts) (member ts)

item_step_reads : (room : ℕ) (inner : List Tok → Read Items) → ItemsInside room inner → ItemReads room (item_step room inner)
item_step_reads room inner h [] = refuses_end refl
item_step_reads room inner h (t ∷ ts) = item_by_reads (item_form t.word) room inner t ts h refl (item_is t.word)

-- ---- lists of items

pub each_items : (xs : List Item) (ts rest : List Tok) → Each SpellsItem xs ts rest → SpellsItems (items xs) ts rest
each_items [] ts rest h = h
each_items (x ∷ xs) ts rest (t1, s, more) = (t1, s, each_items xs t1 rest more)

items_of_list : (room : ℕ) (member : List Tok → Read Item) → ItemReads room member → UntilOf dialect.Source room items_end an_item SpellsItem member
items_of_list room member h = record {
  closes = λ w e. rw e refl;
  opens = opens_until dialect.Source room items_end an_item (λ w. item_lead (item_form w)) (λ w. refl) (λ w. refl) refl refl;
  reads = h;
}

items_read_by : (room : ℕ) (member : List Tok → Read Item) → ItemReads room member → ItemsInside (suc room) (items_until member)
items_read_by room member h ts =
    then_seen _ (until_reads dialect.Source (suc (length ts)) room items_end an_item SpellsItem member ts (items_of_list room member h) (omega arith))
    (λ xs rest gx lx. (gx.0, each_items xs ts gx.0 gx.1, gx.2))

pub item_reads : (room : ℕ) → ItemReads room (item_at room)
unfolding item_at
item_reads zero ts = item_step_reads zero (λ ts. Err 0) tt ts
item_reads (suc room) ts = item_step_reads (suc room) (items_until (item_at room)) (items_read_by room (item_at room) (item_reads room)) ts

pub items_read : (room : ℕ) (ts : List Tok) → Reads dialect.Source room (items_end ∷ []) ts (suc room) (λ b. (SpellsItems b ⨾ Sym mark.RightBrace) ts) (items_until (item_at room) ts)
items_read room ts = items_read_by room (item_at room) (item_reads room) ts

pub conns_shorten : (room : ℕ) → Shortens (conn_at room)
conns_shorten room = record { shortens = λ ts x rest e. takes dialect.Source room _ SpellsConn ts x rest _ (conn_reads room ts) e }

pub params_shorten : (room : ℕ) → Shortens (more_param_at room)
params_shorten room = record { shortens = λ ts x rest e. takes dialect.Source room _ More ts x rest _ (more_param_reads room ts) e }
