-- Statements are read as they are spelled.
use Rattle.std.proofs.Common.{◌≡◌, ◌<◌, ℕ, zero, suc, Bool, true, false, List, [], ◌∷◌, ◌++◌, length, cond, Some, None, Ok, Err, refl, sym, subst, arith}
use Rattle.gen_token.specs.declared.Keyword.TheVariants as keyword
use Rattle.gen_token.specs.declared.Mark.TheVariants as mark
use Rattle.gen_token.specs.Words.{Word, Name, Number, Literal, Reserved, Sign, Tok}
use Rattle.gen_tree.specs.declared.Dialect.TheVariants as dialect
use Rattle.gen_tree.specs.Brackets.{room_after}
use Rattle.gen_tree.specs.Tree.{Stmt, Stmts, stmts, Else, no_else, otherwise, Arms}
use Rattle.gen_tree.specs.Grammar.{Each, SpellsTurns, SpellsGiven, SpellsPart, SpellsStmt, SpellsStmts, SpellsElse, assign_mark}
use Rattle.gen_text.specs.Forms.{is_mark, StmtForm, an_assign, a_let, an_if, a_case, a_for, a_gen, no_stmt_form, stmt_form}
use Rattle.gen_text.specs.Reading.{Read, seen, range_at, turns_at, given_at, part_at, assign_at, let_at, if_at, case_at, for_at, gen_at, stmt_by, stmt_step, stmts_until, stmt_at, arms_at, inner_stmts}
use Rattle.gen_text.proofs.Machine.{key, sign, need, need_name, an_index, an_expr, a_slice, case_symbols, a_stmt, stmts_end, an_else, fam_symbols, turn_symbols, given_symbols, body_symbols, stmt_lead}
use Rattle.gen_text.proofs.Moves.{Reads, after, then_read, then_front, then_word, then_seen, done, begins as takes_first, passes, passes_end, refuses, refuses_end}
use Rattle.gen_text.proofs.WordsRead.{word_reads, then_open, name_reads}
use Rattle.gen_text.proofs.IntsRead.{int_reads, inner_reads, cmp_reads, fam_rest_reads, fam_reads}
use Rattle.gen_text.proofs.ExprsRead.{range_reads, opens_slice, expr_reads}
use Rattle.gen_text.proofs.CasesRead.{StmtsInside, SpellsCases, cases_read}
use Rattle.gen_text.proofs.Lists.{UntilOf, until_reads, opens_until, body_reads, ElseOf, else_reads}

-- ---- heads of loops and of `gen if`

pub turns_reads : (room : ℕ) (t : Tok) (ts : List Tok) → t.word ≡ Reserved keyword.For
    → Reads dialect.Source room turn_symbols ts room (λ h. SpellsTurns h.0 h.1 h.2 (t ∷ ts)) (turns_at room ts)
turns_reads room t ts is =
    then_read _ (name_reads room ts) (λ x t1 gx lx.
    then_word _ (word_reads (key keyword.In) room room t1 refl) (λ t2 g2 l2.
    then_read _ (int_reads dialect.Source room t2) (λ a t3 ga la.
    then_word _ (word_reads (sign mark.DotDot) room room t3 refl) (λ t4 g4 l4.
    then_read _ (int_reads dialect.Source room t4) (λ b rest gb lb.
    done (ts, (is, refl), (t1, gx, (t2, g2, (t3, ga, (t4, g4, gb))))))))))

pub given_reads : (room : ℕ) (t : Tok) (ts : List Tok) → t.word ≡ Reserved keyword.Gen
    → Reads dialect.Source room given_symbols ts room (λ h. SpellsGiven h.0 h.1 h.2 (t ∷ ts)) (given_at room ts)
given_reads room t ts is =
    then_word _ (word_reads (key keyword.If) room room ts refl) (λ t1 g1 l1.
    then_open mark.LeftParen room t1 _ refl (λ room2 room-is t2 g2 l2.
    then_read _ (inner_reads dialect.Source room room2 t2 room-is) (λ a t3 ga la.
    then_read _ (cmp_reads room2 t3) (λ c t4 gc lc.
    then_read _ (inner_reads dialect.Source room room2 t4 room-is) (λ b t5 gb lb.
    then_word _ (word_reads (sign mark.RightParen) room2 room t5 (rw (← room-is) refl)) (λ rest gr lr.
    done (ts, (is, refl), (t1, g1, (t2, g2, (t3, ga, (t4, gc, (t5, gb, gr))))))))))))

-- ---- statements

abbrev StmtIs : StmtForm → Word → Type 0
StmtIs (an_assign x) w = w ≡ Name x
StmtIs a_let w = w ≡ Reserved keyword.Let
StmtIs an_if w = w ≡ Reserved keyword.If
StmtIs a_case w = w ≡ Reserved keyword.Case
StmtIs a_for w = w ≡ Reserved keyword.For
StmtIs a_gen w = w ≡ Reserved keyword.Gen
StmtIs no_stmt_form w = Unit {0}

stmt_is : (w : Word) → StmtIs (stmt_form w) w
stmt_is (Name x) = refl
stmt_is (Number n) = tt
stmt_is (Literal w v) = tt
stmt_is (Reserved keyword.Let) = refl
stmt_is (Reserved keyword.If) = refl
stmt_is (Reserved keyword.Case) = refl
stmt_is (Reserved keyword.For) = refl
stmt_is (Reserved keyword.Gen) = refl
stmt_is (Reserved _) = tt
stmt_is (Sign m) = tt

-- a statement that was read takes a token at least
abbrev pub TakesStmt : Bool → List Tok → Stmt → List Tok → Type 0
TakesStmt clocked ts s rest = SpellsStmt clocked s ts rest × (length rest < length ts)

assign_side : (clocked : Bool) (room : ℕ) → room_after room (Sign (assign_mark clocked)) ≡ Some room
assign_side true room = refl
assign_side false room = refl

-- the bounds of a part, or none
part_reads : (room : ℕ) (ts : List Tok) → Reads dialect.Source room (a_slice ∷ []) ts room (λ p. SpellsPart p ts) (part_at room ts)
part_reads room [] = passes_end refl refl
part_reads room (t ∷ ts) = by (is_mark mark.LeftBracket t.word) refl
  where
    by : (b : Bool) → is_mark mark.LeftBracket t.word ≡ b → Reads dialect.Source room (a_slice ∷ []) (t ∷ ts) room (λ p. SpellsPart p (t ∷ ts)) (cond b (seen (λ b. Some b) (range_at dialect.Source room (t ∷ ts))) (Ok (None, t ∷ ts)))
    by true e = after (omega arith) (opens_slice dialect.Source room t ts e) (then_seen _ (range_reads dialect.Source room (t ∷ ts)) (λ b rest gb lb. gb))
    by false e = passes (rw e refl) refl

assign_reads : (clocked : Bool) (room : ℕ) (x : List ℕ) (t : Tok) (ts : List Tok) → t.word ≡ Name x
    → Reads dialect.Source room (an_index ∷ a_slice ∷ need (sign (assign_mark clocked)) ∷ an_expr ∷ need (sign mark.Semicolon) ∷ []) ts room (TakesStmt clocked (t ∷ ts)) (assign_at clocked room t.line x ts)
assign_reads clocked room x t ts is =
    then_read _ (fam_rest_reads dialect.Source room x (t ∷ ts) ts (is, refl)) (λ f t0 gf lf.
    then_read _ (part_reads room t0) (λ p t1 gp lp.
    then_word _ (word_reads (sign (assign_mark clocked)) room room t1 (assign_side clocked room)) (λ t2 g2 l2.
    then_read _ (expr_reads dialect.Source room t2) (λ e t3 ge le.
    then_word _ (word_reads (sign mark.Semicolon) room room t3 refl) (λ rest gr lr.
    done ((refl, (t0, gf, (t1, gp, (t2, g2, (t3, ge, gr))))), omega arith))))))

let_reads : (clocked : Bool) (room : ℕ) (t : Tok) (ts : List Tok) → t.word ≡ Reserved keyword.Let
    → Reads dialect.Source room (need_name ∷ an_index ∷ need (sign mark.Equals) ∷ an_expr ∷ need (sign mark.Semicolon) ∷ []) ts room (TakesStmt clocked (t ∷ ts)) (let_at room t.line ts)
let_reads clocked room t ts is =
    then_front fam_symbols _ (fam_reads room ts) (λ f t1 gf lf.
    then_word _ (word_reads (sign mark.Equals) room room t1 refl) (λ t2 g2 l2.
    then_read _ (expr_reads dialect.Source room t2) (λ e t3 ge le.
    then_word _ (word_reads (sign mark.Semicolon) room room t3 refl) (λ rest gr lr.
    done ((refl, (ts, (is, refl), (t1, gf, (t2, g2, (t3, ge, gr))))), omega arith)))))

else_of : (clocked : Bool) → ElseOf keyword.Else (an_else clocked) (stmts_end clocked) (SpellsStmts clocked) (SpellsElse clocked) no_else otherwise
else_of clocked = record { steps = λ w. refl; ends_so = refl; nothing = λ ts. refl; something = λ b ts rest h. h }

if_reads : (clocked : Bool) (room : ℕ) (inner : List Tok → Read Stmts) (t : Tok) (ts : List Tok) → StmtsInside clocked room inner → t.word ≡ Reserved keyword.If
    → Reads dialect.Source room (an_expr ∷ body_symbols (stmts_end clocked) ++ an_else clocked ∷ []) ts room (TakesStmt clocked (t ∷ ts)) (if_at room inner t.line ts)
if_reads clocked room inner t ts h is =
    then_read _ (expr_reads dialect.Source room ts) (λ c t1 gc lc.
    then_front (body_symbols (stmts_end clocked)) _ (body_reads (stmts_end clocked) (SpellsStmts clocked) room inner t1 h) (λ a t2 ga la.
    then_read _ (else_reads keyword.Else (an_else clocked) (stmts_end clocked) (SpellsStmts clocked) (SpellsElse clocked) no_else otherwise room inner t2 (else_of clocked) h) (λ b rest gb lb.
    done ((refl, (ts, (is, refl), (t1, gc, (t2, ga, gb)))), omega arith))))

-- what is read behind the brace of a `case`, where there is room for it
abbrev ArmsInside : Bool → ℕ → (List Tok → Read (Arms × Else)) → Type 0
ArmsInside clocked zero cases = Unit {0}
ArmsInside clocked (suc room) cases = (ts : List Tok) → Reads dialect.Source room (case_symbols clocked) ts (suc room) (λ c. SpellsCases clocked c ts) (cases ts)

case_reads : (clocked : Bool) (room : ℕ) (cases : List Tok → Read (Arms × Else)) (t : Tok) (ts : List Tok) → ArmsInside clocked room cases → t.word ≡ Reserved keyword.Case
    → Reads dialect.Source room (an_expr ∷ need (sign mark.LeftBrace) ∷ case_symbols clocked) ts room (TakesStmt clocked (t ∷ ts)) (case_at room cases t.line ts)
case_reads clocked room cases t ts h is =
    then_read _ (expr_reads dialect.Source room ts) (λ v t1 gv lv.
    then_open mark.LeftBrace room t1 _ refl (λ room2 room-is t2 g2 l2.
    let reads2 : ArmsInside clocked (suc room2) cases = subst (λ (r : ℕ). ArmsInside clocked r cases) room-is h in
    let whole : Reads dialect.Source room2 (case_symbols clocked) t2 room (λ c. SpellsCases clocked c t2) (cases t2) =
    subst (λ (r : ℕ). Reads dialect.Source room2 (case_symbols clocked) t2 r (λ c. SpellsCases clocked c t2) (cases t2)) (sym room-is) (reads2 t2) in
    then_front (case_symbols clocked) _ whole (λ c rest gc lc.
    done ((refl, (ts, (is, refl), (t1, gv, (t2, g2, (gc.2.0, (gc.0, gc.1, gc.2.1), gc.2.2))))), omega arith))))

for_reads : (clocked : Bool) (room : ℕ) (inner : List Tok → Read Stmts) (t : Tok) (ts : List Tok) → StmtsInside clocked room inner → t.word ≡ Reserved keyword.For
    → Reads dialect.Source room (turn_symbols ++ body_symbols (stmts_end clocked)) ts room (TakesStmt clocked (t ∷ ts)) (for_at room inner t.line ts)
for_reads clocked room inner t ts h is =
    then_front turn_symbols _ (turns_reads room t ts is) (λ x t1 gx lx.
    then_front (body_symbols (stmts_end clocked)) _ (body_reads (stmts_end clocked) (SpellsStmts clocked) room inner t1 h) (λ b rest gb lb.
    done ((refl, (t1, gx, gb)), omega arith)))

gen_reads : (clocked : Bool) (room : ℕ) (inner : List Tok → Read Stmts) (t : Tok) (ts : List Tok) → StmtsInside clocked room inner → t.word ≡ Reserved keyword.Gen
    → Reads dialect.Source room (given_symbols ++ body_symbols (stmts_end clocked) ++ an_else clocked ∷ []) ts room (TakesStmt clocked (t ∷ ts)) (gen_at room inner t.line ts)
gen_reads clocked room inner t ts h is =
    then_front given_symbols _ (given_reads room t ts is) (λ x t1 gx lx.
    then_front (body_symbols (stmts_end clocked)) _ (body_reads (stmts_end clocked) (SpellsStmts clocked) room inner t1 h) (λ a t2 ga la.
    then_read _ (else_reads keyword.Else (an_else clocked) (stmts_end clocked) (SpellsStmts clocked) (SpellsElse clocked) no_else otherwise room inner t2 (else_of clocked) h) (λ b rest gb lb.
    done ((refl, (t1, gx, (t2, ga, gb))), omega arith))))

stmt_by_reads : (clocked : Bool) (f : StmtForm) (room : ℕ) (inner : List Tok → Read Stmts) (cases : List Tok → Read (Arms × Else)) (t : Tok) (ts : List Tok) → StmtsInside clocked room inner → ArmsInside clocked room cases
    → stmt_form t.word ≡ f → StmtIs f t.word → Reads dialect.Source room (a_stmt clocked ∷ []) (t ∷ ts) room (TakesStmt clocked (t ∷ ts)) (stmt_by clocked room inner cases f t.line ts)
stmt_by_reads clocked (an_assign x) room inner cases t ts h g e is = takes_first (rw e refl) (rw is refl) (assign_reads clocked room x t ts is)
stmt_by_reads clocked a_let room inner cases t ts h g e is = takes_first (rw e refl) (rw is refl) (let_reads clocked room t ts is)
stmt_by_reads clocked an_if room inner cases t ts h g e is = takes_first (rw e refl) (rw is refl) (if_reads clocked room inner t ts h is)
stmt_by_reads clocked a_case room inner cases t ts h g e is = takes_first (rw e refl) (rw is refl) (case_reads clocked room cases t ts g is)
stmt_by_reads clocked a_for room inner cases t ts h g e is = takes_first (rw e refl) (rw is refl) (for_reads clocked room inner t ts h is)
stmt_by_reads clocked a_gen room inner cases t ts h g e is = takes_first (rw e refl) (rw is refl) (gen_reads clocked room inner t ts h is)
stmt_by_reads clocked no_stmt_form room inner cases t ts h g e is = refuses (rw e refl)

abbrev StmtReads : Bool → ℕ → (List Tok → Read Stmt) → Type 0
StmtReads clocked room member = (ts : List Tok) → Reads dialect.Source room (a_stmt clocked ∷ []) ts room (TakesStmt clocked ts) (member ts)

stmt_step_reads : (clocked : Bool) (room : ℕ) (inner : List Tok → Read Stmts) (cases : List Tok → Read (Arms × Else)) → StmtsInside clocked room inner → ArmsInside clocked room cases → StmtReads clocked room (stmt_step clocked room inner cases)
stmt_step_reads clocked room inner cases h g [] = refuses_end refl
stmt_step_reads clocked room inner cases h g (t ∷ ts) = stmt_by_reads clocked (stmt_form t.word) room inner cases t ts h g refl (stmt_is t.word)

-- ---- lists of statements

pub each_stmts : (clocked : Bool) (xs : List Stmt) (ts rest : List Tok) → Each (SpellsStmt clocked) xs ts rest → SpellsStmts clocked (stmts xs) ts rest
each_stmts clocked [] ts rest h = h
each_stmts clocked (x ∷ xs) ts rest (t1, s, more) = (t1, s, each_stmts clocked xs t1 rest more)

stmts_of_list : (clocked : Bool) (room : ℕ) (member : List Tok → Read Stmt) → StmtReads clocked room member
    → UntilOf dialect.Source room (stmts_end clocked) (a_stmt clocked) (SpellsStmt clocked) member
stmts_of_list clocked room member h = record {
  closes = λ w e. rw e refl;
  opens = opens_until dialect.Source room (stmts_end clocked) (a_stmt clocked) (λ w. stmt_lead clocked (stmt_form w)) (λ w. refl) (λ w. refl) refl refl;
  reads = h;
}

stmts_read : (clocked : Bool) (room : ℕ) (member : List Tok → Read Stmt) → StmtReads clocked room member → StmtsInside clocked (suc room) (stmts_until member)
stmts_read clocked room member h ts =
    then_seen _ (until_reads dialect.Source (suc (length ts)) room (stmts_end clocked) (a_stmt clocked) (SpellsStmt clocked) member ts (stmts_of_list clocked room member h) (omega arith))
    (λ xs rest gx lx. (gx.0, each_stmts clocked xs ts gx.0 gx.1, gx.2))

mutual
  unfolding stmt_at

  pub stmt_reads : (clocked : Bool) (room : ℕ) → StmtReads clocked room (stmt_at clocked room)
  stmt_reads clocked zero ts = stmt_step_reads clocked zero (λ ts. Err 0) (λ ts. Err 0) tt tt ts
  stmt_reads clocked (suc room) ts =
      stmt_step_reads clocked (suc room) (stmts_until (stmt_at clocked room)) (arms_at clocked room) (stmts_read clocked room (stmt_at clocked room) (stmt_reads clocked room)) (arms_read clocked room) ts

  arms_read : (clocked : Bool) (room : ℕ) → ArmsInside clocked (suc room) (arms_at clocked room)
  arms_read clocked zero ts = cases_read clocked zero (λ ts. Err 0) ts tt
  arms_read clocked (suc room) ts = cases_read clocked (suc room) (stmts_until (stmt_at clocked room)) ts (stmts_read clocked room (stmt_at clocked room) (stmt_reads clocked room))

pub inner_stmts_read : (clocked : Bool) (room : ℕ) → StmtsInside clocked room (inner_stmts clocked room)
inner_stmts_read clocked zero = tt
inner_stmts_read clocked (suc room) = stmts_read clocked room (stmt_at clocked room) (stmt_reads clocked room)
