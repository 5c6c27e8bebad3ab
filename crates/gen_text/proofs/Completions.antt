-- The machine stops at the first token with which no list goes on: what stands before it has a completion. Each symbol has one
-- completion, which completes it whatever stands behind it.
use Rattle.std.proofs.Common.{◌≡◌, ◌≤◌, ◌+◌, ℕ, zero, suc, true, false, List, [], ◌∷◌, ◌++◌, length, Option, Some, None, refl, sym, ap, ◌∙◌, arith, suc-add, add-suc, ◌⊎◌, inl, inr}
use Rattle.gen_token.specs.declared.Keyword.{Keyword}
use Rattle.gen_token.specs.declared.Keyword.TheVariants as keyword
use Rattle.gen_token.specs.declared.Mark.{Mark}
use Rattle.gen_token.specs.declared.Mark.TheVariants as mark
use Rattle.gen_token.specs.Words.{Word, Name, Number, Literal, Reserved, Sign, Tok}
use Rattle.gen_tree.specs.declared.Dialect.{Dialect}
use Rattle.gen_tree.specs.Brackets.{Side, opens, closes, neither, side, room_by, room_after, room_left, Within}
use Rattle.gen_tree.specs.Grammar.{assign_mark}
use Rattle.gen_text.proofs.Machine.{Fixed, fixed_word, Symbol, need, need_name, an_int, an_int_op, a_cmp, an_index, a_literal, a_dot, an_op, a_prim, an_expr, a_slice, a_stmt, stmts_end, an_else, another_test, tests_end, an_arm, arms_end, a_default, a_param, another_param, params_end, params, a_conn, conns_end, an_item, items_end, else_items, a_port, ports_end, a_module, an_import, imports_end, may_end, settle, run, run_by, at_end, accepted, stopped}
use Rattle.gen_text.proofs.WordsRead.{test, is_itself}
use Rattle.gen_text.proofs.Moves.{shifted}

abbrev at : Word → Tok
at w = record { line = 0; word = w }

abbrev mk : Mark → Tok
mk m = at (Sign m)

abbrev kw : Keyword → Tok
kw k = at (Reserved k)

-- the name `a`, the number 0, the literal 1'h0
abbrev a_name : Tok
a_name = at (Name (97 ∷ []))

abbrev nought : Tok
nought = at (Number 0)

abbrev a_bit : Tok
a_bit = at (Literal 1 0)

abbrev bounds : List Tok
bounds = mk mark.LeftBracket ∷ nought ∷ mk mark.Colon ∷ nought ∷ mk mark.RightBracket ∷ []

abbrev braces : List Tok
braces = mk mark.LeftBrace ∷ mk mark.RightBrace ∷ []

-- tokens that complete a symbol, whatever stands behind it
abbrev pub finish : Symbol → List Tok
finish (need f) = at (fixed_word f) ∷ []
finish need_name = a_name ∷ []
finish an_int = nought ∷ []
finish an_int_op = mk mark.Plus ∷ []
finish a_cmp = mk mark.Less ∷ []
finish an_index = mk mark.Hash ∷ nought ∷ []
finish a_literal = a_bit ∷ []
finish a_dot = mk mark.Dot ∷ a_name ∷ []
finish an_op = mk mark.Plus ∷ []
finish a_prim = a_bit ∷ []
finish an_expr = a_bit ∷ bounds
finish a_slice = bounds
finish (a_stmt clocked) = a_name ∷ mk mark.Hash ∷ nought ∷ mk (assign_mark clocked) ∷ a_bit ∷ bounds ++ mk mark.Semicolon ∷ []
finish (stmts_end clocked) = mk mark.RightBrace ∷ []
finish (an_else clocked) = kw keyword.Else ∷ braces
finish another_test = mk mark.Comma ∷ a_bit ∷ []
finish tests_end = mk mark.Colon ∷ []
finish (an_arm clocked) = a_bit ∷ mk mark.Colon ∷ braces
finish (arms_end clocked) = mk mark.RightBrace ∷ []
finish (a_default clocked) = kw keyword.Default ∷ braces
finish a_param = a_name ∷ mk mark.Equals ∷ nought ∷ []
finish another_param = mk mark.Comma ∷ a_name ∷ mk mark.Equals ∷ nought ∷ []
finish params_end = mk mark.RightParen ∷ []
finish params = mk mark.LeftParen ∷ a_name ∷ mk mark.Equals ∷ nought ∷ mk mark.RightParen ∷ []
finish a_conn = a_name ∷ mk mark.Equals ∷ a_bit ∷ bounds ++ mk mark.Semicolon ∷ []
finish conns_end = mk mark.RightBrace ∷ []
finish an_item = kw keyword.Comb ∷ braces
finish items_end = mk mark.RightBrace ∷ []
finish else_items = kw keyword.Else ∷ braces
finish a_port = kw keyword.Input ∷ a_name ∷ mk mark.Colon ∷ nought ∷ mk mark.Semicolon ∷ []
finish ports_end = mk mark.RightBrace ∷ []
finish a_module = kw keyword.Module ∷ a_name ∷ mk mark.LeftParen ∷ a_name ∷ mk mark.Equals ∷ nought ∷ mk mark.RightParen ∷ braces
finish an_import = kw keyword.Import ∷ a_name ∷ mk mark.Semicolon ∷ []
finish imports_end = kw keyword.Module ∷ a_name ∷ mk mark.LeftParen ∷ a_name ∷ mk mark.Equals ∷ nought ∷ mk mark.RightParen ∷ braces

abbrev pub finish_all : List Symbol → List Tok
finish_all [] = []
finish_all (symbol ∷ stack) = finish symbol ++ finish_all stack

record Finishes (m : Dialect) (room : ℕ) (symbol : Symbol) (stack : List Symbol) (ts : List Tok) : Type 0 where
  room2 : ℕ
  enough : room ≤ room2
  runs : run m (suc (suc room)) (symbol ∷ stack) (finish symbol ++ ts) ≡ run m (suc room2) stack ts

need_finishes : (s : Side) (f : Fixed) (m : Dialect) (room : ℕ) (stack : List Symbol) (ts : List Tok) → side (fixed_word f) ≡ s → Finishes m room (need f) stack ts
need_finishes opens f m room stack ts e = record { room2 = room; enough = omega arith; runs = shifted m (suc (suc room)) (suc room) (need f) stack [] (at (fixed_word f)) ts (rw (is_itself f) refl) (rw e refl) }
need_finishes closes f m room stack ts e = record { room2 = suc (suc room); enough = omega arith; runs = shifted m (suc (suc room)) (suc (suc (suc room))) (need f) stack [] (at (fixed_word f)) ts (rw (is_itself f) refl) (rw e refl) }
need_finishes neither f m room stack ts e = record { room2 = suc room; enough = omega arith; runs = shifted m (suc (suc room)) (suc (suc room)) (need f) stack [] (at (fixed_word f)) ts (rw (is_itself f) refl) (rw e refl) }

finishes : (symbol : Symbol) (m : Dialect) (room : ℕ) (stack : List Symbol) (ts : List Tok) → Finishes m room symbol stack ts
unfolding run settle
finishes (need f) m room stack ts = need_finishes (side (fixed_word f)) f m room stack ts refl
finishes need_name m room stack ts = record { room2 = suc room; enough = omega arith; runs = refl }
finishes an_int m room stack ts = record { room2 = suc room; enough = omega arith; runs = refl }
finishes an_int_op m room stack ts = record { room2 = suc room; enough = omega arith; runs = refl }
finishes a_cmp m room stack ts = record { room2 = suc room; enough = omega arith; runs = refl }
finishes an_index m room stack ts = record { room2 = suc room; enough = omega arith; runs = refl }
finishes a_dot m room stack ts = record { room2 = suc room; enough = omega arith; runs = refl }
finishes an_op m room stack ts = record { room2 = suc room; enough = omega arith; runs = refl }
finishes a_slice m room stack ts = record { room2 = suc room; enough = omega arith; runs = refl }
finishes a_literal m room stack ts = record { room2 = suc room; enough = omega arith; runs = refl }
finishes a_prim m room stack ts = record { room2 = suc room; enough = omega arith; runs = refl }
finishes an_expr m room stack ts = record { room2 = suc room; enough = omega arith; runs = refl }
finishes a_conn m room stack ts = record { room2 = suc room; enough = omega arith; runs = refl }
finishes a_param m room stack ts = record { room2 = suc room; enough = omega arith; runs = refl }
finishes another_param m room stack ts = record { room2 = suc room; enough = omega arith; runs = refl }
finishes params m room stack ts = record { room2 = suc room; enough = omega arith; runs = refl }
finishes an_item m room stack ts = record { room2 = suc room; enough = omega arith; runs = refl }
finishes else_items m room stack ts = record { room2 = suc room; enough = omega arith; runs = refl }
finishes a_port m room stack ts = record { room2 = suc room; enough = omega arith; runs = refl }
finishes a_module m room stack ts = record { room2 = suc room; enough = omega arith; runs = refl }
finishes an_import m room stack ts = record { room2 = suc room; enough = omega arith; runs = refl }
finishes imports_end m room stack ts = record { room2 = suc room; enough = omega arith; runs = refl }
finishes params_end m room stack ts = record { room2 = suc (suc room); enough = omega arith; runs = refl }
finishes conns_end m room stack ts = record { room2 = suc (suc room); enough = omega arith; runs = refl }
finishes items_end m room stack ts = record { room2 = suc (suc room); enough = omega arith; runs = refl }
finishes ports_end m room stack ts = record { room2 = suc (suc room); enough = omega arith; runs = refl }
finishes (stmts_end clocked) m room stack ts = record { room2 = suc (suc room); enough = omega arith; runs = refl }
finishes (an_else clocked) m room stack ts = record { room2 = suc room; enough = omega arith; runs = refl }
finishes another_test m room stack ts = record { room2 = suc room; enough = omega arith; runs = refl }
finishes tests_end m room stack ts = record { room2 = suc room; enough = omega arith; runs = refl }
finishes (an_arm clocked) m room stack ts = record { room2 = suc room; enough = omega arith; runs = refl }
finishes (arms_end clocked) m room stack ts = record { room2 = suc (suc room); enough = omega arith; runs = refl }
finishes (a_default clocked) m room stack ts = record { room2 = suc room; enough = omega arith; runs = refl }
finishes (a_stmt true) m room stack ts = record { room2 = suc room; enough = omega arith; runs = refl }
finishes (a_stmt false) m room stack ts = record { room2 = suc room; enough = omega arith; runs = refl }

all_finish : (m : Dialect) (stack : List Symbol) (room : ℕ) → length stack ≤ room → run m (suc room) stack (finish_all stack) ≡ accepted
unfolding run at_end
all_finish m [] room le = refl
all_finish m (symbol ∷ stack) zero le = absurd (omega arith)
all_finish m (symbol ∷ stack) (suc room) le =
    let f = finishes symbol m room stack (finish_all stack) in
    f.runs ∙ all_finish m stack f.room2 (omega (arith, f.enough))

-- ---- where it stops

abbrev pub Why : Dialect → ℕ → List Symbol → List Tok → List Tok → Type 0
Why m room stack good [] = Unit {0}
Why m room stack good (t ∷ rest) = ((more : List Tok) (room2 : ℕ) → run m room2 stack (good ++ t ∷ more) ≡ accepted → ⊥) ⊎ ((room_left room good ≡ Some 0) × (side t.word ≡ opens))

pub record Halt (m : Dialect) (room : ℕ) (stack : List Symbol) (ts : List Tok) (left : ℕ) : Type 0 where
  pub good : List Tok
  pub bad : List Tok
  pub parts : ts ≡ good ++ bad
  pub count : length bad ≡ left
  pub completion : List Tok
  pub extra : ℕ
  pub begins : run m (room + extra) stack (good ++ completion) ≡ accepted
  pub within : Within room good
  pub why : Why m room stack good bad

-- more room does no harm
more_room : (s : Side) (room room2 extra : ℕ) → room_by s room ≡ Some room2 → room_by s (room + extra) ≡ Some (room2 + extra)
more_room opens zero room2 extra e = absurd cc
more_room opens (suc room) room2 extra e = let is : room ≡ room2 = cc in rw (suc-add, is) refl
more_room closes room room2 extra e = let is : suc room ≡ room2 = cc in rw (← is, suc-add) refl
more_room neither room room2 extra e = let is : room ≡ room2 = cc in rw is refl

no_room : (s : Side) (room : ℕ) → room_by s room ≡ None → (room ≡ 0) × (s ≡ opens)
no_room opens zero e = (refl, refl)
no_room opens (suc room) e = absurd cc
no_room closes room e = absurd cc
no_room neither room e = absurd cc

at_the_end : (stack : List Symbol) (left : ℕ) → at_end stack ≡ stopped left → left ≡ 0
unfolding at_end
at_the_end [] left e = absurd cc
at_the_end (symbol ∷ stack) left e = elim (test (may_end symbol)) [
  | inl m ↦ at_the_end stack left (rw m at e)
  | inr m ↦ let h : stopped 0 ≡ stopped left = rw m at e in cc
]

here : (m : Dialect) (room left : ℕ) (stack : List Symbol) (t : Tok) (ts : List Tok) → suc (length ts) ≡ left → Why m room stack [] (t ∷ ts) → Halt m room stack (t ∷ ts) left
here m room left stack t ts count why = record {
  good = [];
  bad = t ∷ ts;
  parts = refl;
  count = count;
  completion = finish_all stack;
  extra = suc (length stack);
  begins = rw add-suc (all_finish m stack (room + length stack) (omega arith));
  within = refl;
  why = why;
}

abbrev Halts : Dialect → List Tok → Type 0
Halts m ts = (room left : ℕ) (stack : List Symbol) → run m room stack ts ≡ stopped left → Halt m room stack ts left

-- what stands further on has its reason also behind t
why_on : (m : Dialect) (t : Tok) (room room2 : ℕ) (stack stack2 : List Symbol) (good bad : List Tok) → settle m stack t.word ≡ Some stack2 → room_after room t.word ≡ Some room2 → Why m room2 stack2 good bad → Why m room stack (t ∷ good) bad
unfolding run
why_on m t room room2 stack stack2 good [] se re w = tt
why_on m t room room2 stack stack2 good (u ∷ rest) se re (inl none) = inl (λ more room3 e. no_more (room_after room3 t.word) more (rw se at e))
  where
    no_more : (r : Option ℕ) (more : List Tok) → run_by (Some stack2) r (suc (length (good ++ u ∷ more))) (λ r s. run m r s (good ++ u ∷ more)) ≡ accepted → ⊥
    no_more None more e = absurd cc
    no_more (Some r) more e = none more r e
why_on m t room room2 stack stack2 good (u ∷ rest) se re (inr deep) = inr (rw re deep.0, deep.1)

further : (m : Dialect) (t : Tok) (ts : List Tok) (room room2 left : ℕ) (stack stack2 : List Symbol) → settle m stack t.word ≡ Some stack2 → room_after room t.word ≡ Some room2 → Halt m room2 stack2 ts left → Halt m room stack (t ∷ ts) left
unfolding run
further m t ts room room2 left stack stack2 se re h = record {
  good = t ∷ h.good;
  bad = h.bad;
  parts = ap (λ (rest : List Tok). t ∷ rest) h.parts;
  count = h.count;
  completion = h.completion;
  extra = h.extra;
  begins = rw (se, more_room (side t.word) room room2 h.extra re) h.begins;
  within = rw re h.within;
  why = why_on m t room room2 stack stack2 h.good h.bad se re h.why;
}

stuck_here : (m : Dialect) (t : Tok) (room : ℕ) (stack : List Symbol) → settle m stack t.word ≡ None → (ts : List Tok) → Why m room stack [] (t ∷ ts)
unfolding run
stuck_here m t room stack se ts = inl (λ more room2 e. let h : stopped (suc (length more)) ≡ accepted = rw se at e in absurd cc)

halts_by : (m : Dialect) (ts : List Tok) → Halts m ts → (s : Option (List Symbol)) (r : Option ℕ) (t : Tok) (room left : ℕ) (stack : List Symbol) → settle m stack t.word ≡ s → room_after room t.word ≡ r
    → run_by s r (suc (length ts)) (λ r s. run m r s ts) ≡ stopped left → Halt m room stack (t ∷ ts) left
halts_by m ts more None r t room left stack se re e = here m room left stack t ts (cc) (stuck_here m t room stack se ts)
halts_by m ts more (Some stack2) None t room left stack se re e = let n = no_room (side t.word) room re in here m room left stack t ts (cc) (inr (ap Some n.0, n.1))
halts_by m ts more (Some stack2) (Some room2) t room left stack se re e = further m t ts room room2 left stack stack2 se re (more room2 left stack2 e)

pub halts : (m : Dialect) (ts : List Tok) → Halts m ts
unfolding run
halts m [] room left stack e = record {
  good = [];
  bad = [];
  parts = refl;
  count = sym (at_the_end stack left e);
  completion = finish_all stack;
  extra = suc (length stack);
  begins = rw add-suc (all_finish m stack (room + length stack) (omega arith));
  within = refl;
  why = tt;
}
halts m (t ∷ ts) room left stack e = halts_by m ts (halts m ts) (settle m stack t.word) (room_after room t.word) t room left stack refl refl e
