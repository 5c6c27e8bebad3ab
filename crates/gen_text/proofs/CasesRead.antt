-- The arms of a `case` are read as they are spelled.
use Rattle.std.proofs.Common.{◌≡◌, ◌<◌, ℕ, suc, Bool, true, false, List, [], ◌∷◌, ◌++◌, length, Option, Some, None, Ok, Err, refl, arith, append-nil, append_assoc, inl, inr}
use Rattle.gen_token.specs.declared.Keyword.TheVariants as keyword
use Rattle.gen_token.specs.declared.Mark.TheVariants as mark
use Rattle.gen_token.specs.Words.{Word, Sign, Tok}
use Rattle.gen_tree.specs.declared.Dialect.TheVariants as dialect
use Rattle.gen_tree.specs.Tree.{Lit, Stmts, Else, no_else, otherwise, Arms, arms}
use Rattle.gen_tree.specs.Grammar.{Span, ◌⨾◌, Single, Sym, Each, Braces, SpellsLit, SpellsTests, SpellsStmts, SpellsDefault, SpellsArms, SpellsSomeArms}
use Rattle.gen_text.specs.Forms.{is_mark, is_keyword, LitForm, a_plain, a_bits, no_lit, is_lit, lit_form}
use Rattle.gen_text.specs.Reading.{Read, ◌>>=◌, seen, mark_at, body_by, each_at, lit_at, more_test_at, begins_test, arm_at, begins_arm, default_at, arms_step}
use Rattle.gen_text.proofs.Machine.{sign, Symbol, need, a_literal, another_test, tests_end, stmts_end, an_arm, arms_end, a_default, lead, lit_lead, arm_symbols, case_symbols, body_symbols, last_step, settle, settle_by, run, at_end}
use Rattle.gen_text.proofs.Moves.{Comes, Reads, after, then_read, then_front, then_word, maps, measured, done, begins as takes_first, refuses, refuses_end}
use Rattle.gen_text.proofs.WordsRead.{test, is_mark_is, word_reads}
use Rattle.gen_text.proofs.ExprsRead.{lit_reads}
use Rattle.gen_text.proofs.Lists.{EachReads, each_reads, then_each, InsideBody, body_reads, ElseOf, else_reads, takes}
use Rattle.gen_text.proofs.Loops.{Shortens}

-- ---- the literals of an arm

abbrev pub MoreTest : Lit → Span
MoreTest l = Sym mark.Comma ⨾ SpellsLit dialect.Source l

pub more_test_reads : (room : ℕ) (ts : List Tok) → Reads dialect.Source room (another_test ∷ []) ts room (λ l rest. MoreTest l ts rest × (length rest < length ts)) (more_test_at room ts)
more_test_reads room [] = refuses_end refl
more_test_reads room (t ∷ ts) = elim (test (is_mark mark.Comma t.word)) [
  | inl e ↦
      let is : t.word ≡ Sign mark.Comma = is_mark_is mark.Comma t.word e in
      rw e (takes_first (rw e refl) (rw is refl) (maps (λ l rest g. ((ts, (is, refl), g.0), omega (arith, g.1))) (measured (lit_reads dialect.Source room ts))))
  | inr e ↦ rw e (refuses (rw e refl))
]

pub tests_shorten : (room : ℕ) → Shortens (more_test_at room)
tests_shorten room = record { shortens = λ ts l rest e. takes dialect.Source room _ MoreTest ts l rest _ (more_test_reads room ts) e }

settle_more_test : (stack : List Symbol) (w : Word) → is_mark mark.Comma w ≡ true → settle dialect.Source (tests_end ∷ stack) w ≡ settle dialect.Source (another_test ∷ tests_end ∷ stack) w
unfolding settle
settle_more_test stack w e = rw e refl

opens_more_test : (room : ℕ) (ts : List Tok) → begins_test ts ≡ true → Comes dialect.Source room (tests_end ∷ []) ts room (another_test ∷ tests_end ∷ []) ts
unfolding run at_end
opens_more_test room [] h = absurd cc
opens_more_test room (t ∷ ts) h = record { comes = λ stack. rw (settle_more_test stack t.word h) refl }

more_tests_read : (room : ℕ) (ts : List Tok) → EachReads dialect.Source room tests_end begins_test MoreTest ts (each_at begins_test (more_test_at room) ts)
more_tests_read room ts = each_reads dialect.Source (suc (length ts)) room tests_end another_test begins_test MoreTest (more_test_at room) ts (record { opens = opens_more_test room; reads = more_test_reads room }) (omega arith)

settle_last_test : (stack : List Symbol) (w : Word) → is_mark mark.Comma w ≡ false → settle dialect.Source (tests_end ∷ stack) w ≡ settle dialect.Source (need (sign mark.Colon) ∷ stack) w
unfolding settle
settle_last_test stack w e = rw e refl

after_tests : (room : ℕ) (ts : List Tok) → begins_test ts ≡ false → Comes dialect.Source room (tests_end ∷ []) ts room (need (sign mark.Colon) ∷ []) ts
unfolding run at_end
after_tests room [] h = record { comes = λ stack. refl }
after_tests room (t ∷ ts) h = record { comes = λ stack. rw (settle_last_test stack t.word h) refl }

-- ---- an arm

-- its literals, and what it holds
abbrev pub SpellsArm : Bool → List Lit × Stmts → Span
SpellsArm clocked a = SpellsTests a.0 ⨾ Sym mark.Colon ⨾ Braces (SpellsStmts clocked a.1)

-- what is read behind an opening brace
abbrev pub StmtsInside : Bool → ℕ → (List Tok → Read Stmts) → Type 0
StmtsInside clocked room inner = InsideBody (stmts_end clocked) (SpellsStmts clocked) room inner

settle_arm : (clocked : Bool) (stack : List Symbol) (f : LitForm) (w : Word) → lit_form dialect.Source w ≡ f
    → settle dialect.Source (an_arm clocked ∷ stack) w ≡ settle dialect.Source (a_literal ∷ arm_symbols clocked ++ stack) w
unfolding settle
settle_arm clocked stack f w e = by (lit_lead (lit_form dialect.Source w))
  where
    by : (f : Option (List Symbol)) → settle_by (lead f (arm_symbols clocked)) stack (settle dialect.Source stack w) ≡ settle_by (lead f []) (arm_symbols clocked ++ stack) (settle dialect.Source (arm_symbols clocked ++ stack) w)
    by None = refl
    by (Some more) = rw (append_assoc, append-nil) refl

opens_arm : (clocked : Bool) (room : ℕ) (ts : List Tok) → Comes dialect.Source room (an_arm clocked ∷ []) ts room (a_literal ∷ arm_symbols clocked) ts
unfolding run at_end
opens_arm clocked room [] = record { comes = λ stack. refl }
opens_arm clocked room (t ∷ ts) = record { comes = λ stack. rw (settle_arm clocked stack (lit_form dialect.Source t.word) t.word refl) refl }

-- up to its end
abbrev body_of : ℕ → (List Tok → Read Stmts) → List Lit → List Tok → Read (List Lit × Stmts)
body_of room inner ls ts = mark_at mark.Colon ts >>= λ t1. body_by room inner t1 >>= λ b. Ok ((ls, b.0), b.1)

abbrev more_of : ℕ → List Tok → Read (List Lit)
more_of room ts = each_at begins_test (more_test_at room) ts

arm_flat : (room : ℕ) (inner : List Tok → Read Stmts) (ts : List Tok) → arm_at room inner ts ≡ (lit_at dialect.Source room ts >>= λ l. more_of room l.1 >>= λ more. body_of room inner (l.0 ∷ more.0) more.1)
arm_flat room inner ts = first (lit_at dialect.Source room ts)
  where
    second : (l : Lit) (o : Read (List Lit)) → (seen (λ more. l ∷ more) o >>= λ ls. body_of room inner ls.0 ls.1) ≡ (o >>= λ more. body_of room inner (l ∷ more.0) more.1)
    second l (Err left) = refl
    second l (Ok more) = refl

    first : (o : Read Lit) → ((o >>= λ l. seen (λ more. l.0 ∷ more) (more_of room l.1)) >>= λ ls. body_of room inner ls.0 ls.1)
        ≡ (o >>= λ l. more_of room l.1 >>= λ more. body_of room inner (l.0 ∷ more.0) more.1)
    first (Err left) = refl
    first (Ok l) = second l.0 (more_of room l.1)

-- one token is taken
single_shorter : (w : Word) (ts rest : List Tok) → Single w ts rest → length rest < length ts
single_shorter w [] rest h = absurd h
single_shorter w (t ∷ ts) rest h = rw h.1 (omega arith)

pub arm_reads : (clocked : Bool) (room : ℕ) (inner : List Tok → Read Stmts) (ts : List Tok) → StmtsInside clocked room inner
    → Reads dialect.Source room (an_arm clocked ∷ []) ts room (λ a rest. SpellsArm clocked a ts rest × (length rest < length ts)) (arm_at room inner ts)
arm_reads clocked room inner ts h = rw (arm_flat room inner ts) (
    after (omega arith) (opens_arm clocked room ts) (
    then_read _ (lit_reads dialect.Source room ts) (λ l t1 gl ll.
    then_each _ (more_tests_read room t1) (after_tests room) (λ more t2 gm lm.
    then_word _ (word_reads (sign mark.Colon) room room t2 refl) (λ t3 g3 l3.
    then_front (body_symbols (stmts_end clocked)) _ (body_reads (stmts_end clocked) (SpellsStmts clocked) room inner t3 h) (λ b rest gb lb.
    done ((t2, (t1, gl, gm), (t3, g3, gb)), omega (arith, single_shorter (Sign mark.Colon) t2 t3 g3))))))))

-- ---- arms, and what stands behind them

settle_more_arm : (clocked : Bool) (stack : List Symbol) (f : LitForm) (w : Word) → lit_form dialect.Source w ≡ f → is_lit f ≡ true
    → settle dialect.Source (arms_end clocked ∷ stack) w ≡ settle dialect.Source (an_arm clocked ∷ arms_end clocked ∷ stack) w
unfolding settle
settle_more_arm clocked stack (a_plain v n) w e h = rw e refl
settle_more_arm clocked stack a_bits w e h = rw e refl
settle_more_arm clocked stack no_lit w e h = absurd cc

opens_more_arm : (clocked : Bool) (room : ℕ) (ts : List Tok) → begins_arm ts ≡ true → Comes dialect.Source room (arms_end clocked ∷ []) ts room (an_arm clocked ∷ arms_end clocked ∷ []) ts
unfolding run at_end
opens_more_arm clocked room [] h = absurd cc
opens_more_arm clocked room (t ∷ ts) h = record { comes = λ stack. rw (settle_more_arm clocked stack (lit_form dialect.Source t.word) t.word refl h) refl }

more_arms_read : (clocked : Bool) (room : ℕ) (inner : List Tok → Read Stmts) (ts : List Tok) → StmtsInside clocked room inner
    → EachReads dialect.Source room (arms_end clocked) begins_arm (SpellsArm clocked) ts (each_at begins_arm (arm_at room inner) ts)
more_arms_read clocked room inner ts h =
    each_reads dialect.Source (suc (length ts)) room (arms_end clocked) (an_arm clocked) begins_arm (SpellsArm clocked) (arm_at room inner) ts
    (record { opens = opens_more_arm clocked room; reads = λ ts. arm_reads clocked room inner ts h }) (omega arith)

settle_last_arm : (clocked : Bool) (stack : List Symbol) (f : LitForm) (w : Word) → lit_form dialect.Source w ≡ f → is_lit f ≡ false
    → settle dialect.Source (arms_end clocked ∷ stack) w ≡ settle dialect.Source (a_default clocked ∷ need (sign mark.RightBrace) ∷ stack) w
unfolding settle
settle_last_arm clocked stack (a_plain v n) w e h = absurd cc
settle_last_arm clocked stack a_bits w e h = absurd cc
settle_last_arm clocked stack no_lit w e h = rw e (by (is_keyword keyword.Default w) (is_mark mark.RightBrace w) refl refl)
  where
    by : (d r : Bool) → is_keyword keyword.Default w ≡ d → is_mark mark.RightBrace w ≡ r
        → settle_by (last_step clocked w) stack (settle dialect.Source stack w) ≡ settle dialect.Source (a_default clocked ∷ need (sign mark.RightBrace) ∷ stack) w
    by true r ed er = rw ed refl
    by false true ed er = rw (ed, er) refl
    by false false ed er = rw (ed, er) refl

after_arms : (clocked : Bool) (room : ℕ) (ts : List Tok) → begins_arm ts ≡ false → Comes dialect.Source room (arms_end clocked ∷ []) ts room (a_default clocked ∷ need (sign mark.RightBrace) ∷ []) ts
unfolding run at_end
after_arms clocked room [] h = record { comes = λ stack. refl }
after_arms clocked room (t ∷ ts) h = record { comes = λ stack. rw (settle_last_arm clocked stack (lit_form dialect.Source t.word) t.word refl h) refl }

-- the same, one step after another
abbrev closing : List (List Lit × Stmts) → Else → List Tok → Read (Arms × Else)
closing all other ts = mark_at mark.RightBrace ts >>= λ rest. Ok ((arms all, other), rest)

abbrev last_of : ℕ → (List Tok → Read Stmts) → List (List Lit × Stmts) → List Tok → Read (Arms × Else)
last_of room inner all ts = default_at room inner ts >>= λ d. closing all d.0 d.1

abbrev arms_of : ℕ → (List Tok → Read Stmts) → List Tok → Read (List (List Lit × Stmts))
arms_of room inner ts = each_at begins_arm (arm_at room inner) ts

pub arms_flat : (room : ℕ) (inner : List Tok → Read Stmts) (ts : List Tok) → arms_step room inner ts ≡ (arm_at room inner ts >>= λ a. arms_of room inner a.1 >>= λ more. last_of room inner (a.0 ∷ more.0) more.1)
arms_flat room inner ts = first (arm_at room inner ts)
  where
    second : (a : List Lit × Stmts) (o : Read (List (List Lit × Stmts))) → (seen (λ more. a ∷ more) o >>= λ all. last_of room inner all.0 all.1) ≡ (o >>= λ more. last_of room inner (a ∷ more.0) more.1)
    second a (Err left) = refl
    second a (Ok more) = refl

    first : (o : Read (List Lit × Stmts)) → ((o >>= λ a. seen (λ more. a.0 ∷ more) (arms_of room inner a.1)) >>= λ all. last_of room inner all.0 all.1)
        ≡ (o >>= λ a. arms_of room inner a.1 >>= λ more. last_of room inner (a.0 ∷ more.0) more.1)
    first (Err left) = refl
    first (Ok a) = second a.0 (arms_of room inner a.1)

each_arms : (clocked : Bool) (xs : List (List Lit × Stmts)) (ts rest : List Tok) → Each (SpellsArm clocked) xs ts rest → SpellsArms clocked (arms xs) ts rest
each_arms clocked [] ts rest h = h
each_arms clocked (x ∷ xs) ts rest (t1, s, more) = (t1, s, each_arms clocked xs t1 rest more)

default_of : (clocked : Bool) → ElseOf keyword.Default (a_default clocked) (stmts_end clocked) (SpellsStmts clocked) (SpellsDefault clocked) no_else otherwise
default_of clocked = record { steps = λ w. refl; ends_so = refl; nothing = λ ts. refl; something = λ b ts rest h. h }

-- what stands in the braces of a `case`, with the last of them
abbrev pub SpellsCases : Bool → Arms × Else → Span
SpellsCases clocked c = SpellsSomeArms clocked c.0 ⨾ SpellsDefault clocked c.1 ⨾ Sym mark.RightBrace

pub cases_read : (clocked : Bool) (room : ℕ) (inner : List Tok → Read Stmts) (ts : List Tok) → StmtsInside clocked room inner
    → Reads dialect.Source room (case_symbols clocked) ts (suc room) (λ c. SpellsCases clocked c ts) (arms_step room inner ts)
cases_read clocked room inner ts h = rw (arms_flat room inner ts) (
    then_read _ (arm_reads clocked room inner ts h) (λ a t1 ga la.
    then_each _ (more_arms_read clocked room inner t1 h) (after_arms clocked room) (λ more t2 gm lm.
    then_read _ (else_reads keyword.Default (a_default clocked) (stmts_end clocked) (SpellsStmts clocked) (SpellsDefault clocked) no_else otherwise room inner t2 (default_of clocked) h) (λ d t3 gd ld.
    then_word _ (word_reads (sign mark.RightBrace) room (suc room) t3 refl) (λ rest gr lr.
    done (t2, (t1, ga.0, each_arms clocked more t1 t2 gm), (t3, gd, gr)))))))
