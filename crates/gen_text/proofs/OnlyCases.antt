-- What a tree spells is read as that tree: the part of an assignment, the literals of an arm, and an arm by what it holds.
use Rattle.std.proofs.Common.{◌≡◌, ◌≤◌, ◌<◌, ℕ, zero, suc, max, true, false, List, [], ◌∷◌, length, Option, Some, None, Ok, refl, ap, arith}
use Rattle.gen_token.specs.declared.Mark.TheVariants as mark
use Rattle.gen_token.specs.Words.{Word, Sign, Tok}
use Rattle.gen_tree.specs.declared.Dialect.TheVariants as dialect
use Rattle.gen_tree.specs.Tree.{Int, Lit, plain, bits, Stmts, Arms, no_arm, arm, arms}
use Rattle.gen_tree.specs.Grammar.{Each, SpellsLit, SpellsPart, SpellsTests}
use Rattle.gen_text.specs.Forms.{is_mark}
use Rattle.gen_text.specs.Reading.{begins, each_at, range_at, part_at, more_test_at, begins_test, tests_at, begins_arm}
use Rattle.gen_text.proofs.Machine.{sign}
use Rattle.gen_text.proofs.Lists.{each_only, takes}
use Rattle.gen_text.proofs.CasesRead.{MoreTest, more_test_reads}
use Rattle.gen_text.proofs.Depth.{int_depth, lit_depth, part_depth, each_depth}
use Rattle.gen_text.proofs.OnlyExprs.{mark_only, not_next, next_is, less_one, int_only, lit_only}

-- ---- a part

range_only : (h l : Int) (room : ℕ) (ts rest : List Tok) → suc (max (int_depth h) (int_depth l)) ≤ room → SpellsPart (Some (h, l)) ts rest → range_at dialect.Source room ts ≡ Ok ((h, l), rest)
range_only h l zero ts rest le s = absurd (omega arith)
range_only h l (suc room) ts rest le (t2, w, (t3, si, (t4, w2, (t5, sj, w3)))) =
    rw (
      mark_only mark.LeftBracket ts t2 w,
      less_one room,
      int_only dialect.Source h room t2 t3 (omega arith) si,
      mark_only mark.Colon t3 t4 w2,
      int_only dialect.Source l room t4 t5 (omega arith) sj,
      mark_only mark.RightBracket t5 rest w3,
    ) refl

-- a mark stands behind it
pub part_only : (p : Option (Int × Int)) (w : Word) (room : ℕ) (ts rest after : List Tok) → part_depth p ≤ room → SpellsPart p ts rest → begins (is_mark mark.LeftBracket) rest ≡ false → part_at room ts ≡ Ok (p, rest)
part_only None w room ts rest after le h ne = rw (h, ne) refl
part_only (Some p) w room ts rest after le h ne =
    let next = next_is (sign mark.LeftBracket) ts h.0 h.1 in
    rw (next.0, range_only p.0 p.1 room ts rest le h) refl

-- no index stands before it
pub no_hash : (p : Option (Int × Int)) (ts rest : List Tok) → SpellsPart p ts rest → begins (is_mark mark.Hash) rest ≡ false → begins (is_mark mark.Hash) ts ≡ false
no_hash None ts rest h ne = rw h ne
no_hash (Some p) ts rest h ne = not_next (is_mark mark.Hash) (Sign mark.LeftBracket) ts h.0 refl h.1

-- ---- literals

more_only : (room : ℕ) (l : Lit) (ts rest : List Tok) → MoreTest l ts rest × (lit_depth l ≤ room) → (begins_test ts ≡ true) × (more_test_at room ts ≡ Ok (l, rest)) × (length rest < length ts)
more_only room l ts rest ((t1, w, s), le) =
    let e : more_test_at room ts ≡ Ok (l, rest) = rw (mark_only mark.Comma ts t1 w) (lit_only dialect.Source l room t1 rest le s) in
    ((next_is (sign mark.Comma) ts t1 w).0, e, takes dialect.Source room _ MoreTest ts l rest _ (more_test_reads room ts) e)

within_each : (room : ℕ) (ls : List Lit) (ts rest : List Tok) → each_depth lit_depth ls ≤ room → Each MoreTest ls ts rest → Each (λ l ts rest. MoreTest l ts rest × (lit_depth l ≤ room)) ls ts rest
within_each room [] ts rest le h = h
within_each room (l ∷ ls) ts rest le (t1, s, more) = (t1, (s, omega arith), within_each room ls t1 rest (omega arith) more)

pub tests_only : (ls : List Lit) (room : ℕ) (ts rest : List Tok) → each_depth lit_depth ls ≤ room → SpellsTests ls ts rest → begins_test rest ≡ false → tests_at room ts ≡ Ok (ls, rest)
tests_only [] room ts rest le h ne = absurd h
tests_only (l ∷ ls) room ts rest le (t1, s, more) ne =
    let all : each_at begins_test (more_test_at room) t1 ≡ Ok (ls, rest) =
    each_only ls (suc (length t1)) begins_test (λ l ts rest. MoreTest l ts rest × (lit_depth l ≤ room)) (more_test_at room) t1 rest (more_only room) ne (omega arith) (within_each room ls t1 rest (omega arith) more) in
    rw (lit_only dialect.Source l room ts t1 (omega arith) s, all) refl

-- ---- how an arm begins

lit_begins : (l : Lit) (ts rest : List Tok) → SpellsLit dialect.Source l ts rest → begins_arm ts ≡ true
lit_begins (plain w v) [] rest h = absurd h
lit_begins (plain w v) (t ∷ ts) rest h = rw h.0 refl
lit_begins (bits w v) [] rest h = absurd h.1
lit_begins (bits w v) (t ∷ ts) rest h = rw h.1.0 refl

pub tests_begin : (ls : List Lit) (ts rest : List Tok) → SpellsTests ls ts rest → begins_arm ts ≡ true
tests_begin [] ts rest h = absurd h
tests_begin (l ∷ ls) ts rest h = lit_begins l ts h.0 h.1

-- arms of a list
abbrev pub arm_list : Arms → List (List Lit × Stmts)
arm_list no_arm = []
arm_list (arm tests body more) = (tests, body) ∷ arm_list more

pub arms_are : (a : Arms) → arms (arm_list a) ≡ a
arms_are no_arm = refl
arms_are (arm tests body more) = ap (arm tests body) (arms_are more)
