-- What is driven twice, one drive after another.
use Rattle.std.proofs.Common.{◌≡◌, ℕ, ◌+◌, ◌<◌, ◌≤◌, Bool, true, false, bytes_eq, List, [], ◌∷◌, ◌++◌, map, length, drop, get_or, if◌then◌else◌, Option, Some, None, Result, Err, refl, sym, ap, subst, ◌∙◌}
use Rattle.std.specs.Borrow.{Bor}
use Rattle.std.proofs.lemmas.Slice.Eq.{bytes_eq-Decides}
use Rattle.std.proofs.lemmas.List.{drop_more}
use Rattle.std.proofs.Math.ListN.{drop_of_length-le}
use Rattle.design_core.specs.declared.statement.Stmt as code_stmt
use Rattle.design_core.specs.declared.variant.Block as code_block
use Rattle.design_core.specs.declared.variant.Conn as code_conn
use Rattle.design_core.specs.View.{block_of, conn_of}
use Rattle.design_core.specs.Design.{Stmt, Assign, Let, If, Case}
use Rattle.check_core.specs.declared.fault.CheckFault.{CheckFault}
use Rattle.names.specs.Known.{Name}
use Rattle.names.specs.Maps.{put_value}
use Rattle.check_core.specs.Faults.{earlier, first_of, is_fault, Tells}
use Rattle.design_core.specs.Statements.{stmt_at, stmts_at}
use Rattle.check_paths.specs.Blocks.{twice_in_block}
use Rattle.check_core.specs.Drivers.{Drive, Lines, all_driven, assignments, conn_drive, connected_twice, driven_also, driven_in, driven_twice, second_drive}

-- ---- one drive

earlier_none : {A : Type 0} (o : Option A) → o ≡ earlier o None
earlier_none (Some a) = refl
earlier_none None = refl

-- a name without a line has this one from here on
pub note_new : (old new : Lines) (line : ℕ) (x : Name) → old x ≡ None → new ≡ put_value x line old → new ≡ driven_also old (line, x)
note_new old new line x e is = is ∙ (λ i y. at y (bytes_eq y x) refl i)
  where
    at : (y : Name) (b : Bool) → bytes_eq y x ≡ b → (if b then Some line else old y) ≡ earlier (old y) (if b then Some line else None)
    at y true same = ap (λ o. earlier o (Some line)) (sym (ap old ((bytes_eq-Decides y x).0 same) ∙ e))
    at y false same = earlier_none (old y)

-- one with a line keeps it
pub note_old : (old : Lines) (line first : ℕ) (x : Name) → old x ≡ Some first → old ≡ driven_also old (line, x)
note_old old line first x e = λ i y. at y (bytes_eq y x) refl i
  where
    at : (y : Name) (b : Bool) → bytes_eq y x ≡ b → old y ≡ earlier (old y) (if b then Some line else None)
    at y true same = (ap old ((bytes_eq-Decides y x).0 same) ∙ e) ∙ ap (λ o. earlier o (Some line)) (sym (ap old ((bytes_eq-Decides y x).0 same) ∙ e))
    at y false same = earlier_none (old y)

pub ruleset note_steps = (note_new, note_old)

-- ---- connections

conn_split : (lines : Lines) (conns : List code_conn.Conn) (i : ℕ) (c : code_conn.Conn) → i < length conns → c ≡ get_or conns i c
    → connected_twice lines (map conn_of (drop i conns)) ≡ earlier (second_drive lines (conn_drive (conn_of c))) (connected_twice (driven_also lines (conn_drive (conn_of c))) (map conn_of (drop (i + 1) conns)))
conn_split lines conns i c inside at =
    ap (λ (l : List code_conn.Conn). connected_twice lines (map conn_of l)) (drop_more conns i c inside)
    ∙ ap (λ (d : code_conn.Conn). earlier (second_drive lines (conn_drive (conn_of d))) (connected_twice (driven_also lines (conn_drive (conn_of d))) (map conn_of (drop (i + 1) conns)))) (sym at)

pub conn_next : (lines now : Lines) (conns : List code_conn.Conn) (i : ℕ) (c : code_conn.Conn) → i < length conns → c ≡ get_or conns i c
    → second_drive lines (conn_drive (conn_of c)) ≡ None → now ≡ driven_also lines (conn_drive (conn_of c))
    → connected_twice now (map conn_of (drop (i + 1) conns)) ≡ connected_twice lines (map conn_of (drop i conns))
conn_next lines now conns i c inside at none is =
    ap (λ (k : Lines). connected_twice k (map conn_of (drop (i + 1) conns))) is
    ∙ sym (conn_split lines conns i c inside at ∙ ap (λ o. earlier o (connected_twice (driven_also lines (conn_drive (conn_of c))) (map conn_of (drop (i + 1) conns)))) none)

pub conn_at : (lines : Lines) (conns : List code_conn.Conn) (i : ℕ) (c : code_conn.Conn) (fault : CheckFault) → i < length conns → c ≡ get_or conns i c
    → second_drive lines (conn_drive (conn_of c)) ≡ Some fault → connected_twice lines (map conn_of (drop i conns)) ≡ Some fault
conn_at lines conns i c fault inside at some =
    conn_split lines conns i c inside at ∙ ap (λ o. earlier o (connected_twice (driven_also lines (conn_drive (conn_of c))) (map conn_of (drop (i + 1) conns)))) some

pub conn_end : (lines : Lines) (conns : List code_conn.Conn) (i : ℕ) → length conns ≤ i → connected_twice lines (map conn_of (drop i conns)) ≡ None
conn_end lines conns i past = ap (λ (l : List code_conn.Conn). connected_twice lines (map conn_of l)) (drop_of_length-le conns past)

pub ruleset conn_steps = (conn_next, conn_at, conn_end)

-- ---- statements

driven_both : (lines : Lines) (first second : List Drive) → all_driven lines (first ++ second) ≡ all_driven (all_driven lines first) second
driven_both lines [] second = refl
driven_both lines (d ∷ first) second = driven_both (driven_also lines d) first second

first_both : {X A : Type 0} (f : X → Option A) (xs ys : List X) → first_of f (xs ++ ys) ≡ earlier (first_of f xs) (first_of f ys)
first_both f [] ys = refl
first_both f (x ∷ xs) ys = ap (earlier (f x)) (first_both f xs ys) ∙ sym (again (f x) (first_of f xs) (first_of f ys))
  where
    again : {A : Type 0} (a b c : Option A) → earlier (earlier a b) c ≡ earlier a (earlier b c)
    again (Some a) b c = refl
    again None b c = refl

assignments_split : (s : Stmt) (rest : List Stmt) → assignments (s ∷ rest) ≡ assignments (s ∷ []) ++ assignments rest
assignments_split (Assign slot line gens x part e) rest = refl
assignments_split (Let slot line gens x e) rest = refl
assignments_split (If slot line gens c first second) rest = refl
assignments_split (Case slot line gens v arms other) rest = refl

stmts_split : (all : List (Bor code_stmt.Stmt)) (i : ℕ) (s : Bor code_stmt.Stmt) → i < length all → s ≡ get_or all i s
    → assignments (stmts_at (drop i all)) ≡ assignments (stmt_at s ∷ []) ++ assignments (stmts_at (drop (i + 1) all))
stmts_split all i s inside at =
    ap (λ (l : List (Bor code_stmt.Stmt)). assignments (stmts_at l)) (drop_more all i s inside)
    ∙ ap (λ (t : Bor code_stmt.Stmt). assignments (stmt_at t ∷ stmts_at (drop (i + 1) all))) (sym at)
    ∙ assignments_split (stmt_at s) (stmts_at (drop (i + 1) all))

pub noted_next : (old new : Lines) (all : List (Bor code_stmt.Stmt)) (i : ℕ) (s : Bor code_stmt.Stmt) → i < length all → s ≡ get_or all i s → new ≡ all_driven old (assignments (stmt_at s ∷ []))
    → all_driven new (assignments (stmts_at (drop (i + 1) all))) ≡ all_driven old (assignments (stmts_at (drop i all)))
noted_next old new all i s inside at is =
    ap (λ (k : Lines). all_driven k (assignments (stmts_at (drop (i + 1) all)))) is
    ∙ sym (driven_both old (assignments (stmt_at s ∷ [])) (assignments (stmts_at (drop (i + 1) all))))
    ∙ ap (all_driven old) (sym (stmts_split all i s inside at))

pub noted_end : (lines : Lines) (all : List (Bor code_stmt.Stmt)) (i : ℕ) → length all ≤ i → all_driven lines (assignments (stmts_at (drop i all))) ≡ lines
noted_end lines all i past = ap (λ (l : List (Bor code_stmt.Stmt)). all_driven lines (assignments (stmts_at l))) (drop_of_length-le all past)

-- the first fault of a test in assignments
drive_split : (f : Drive → Option CheckFault) (all : List (Bor code_stmt.Stmt)) (i : ℕ) (s : Bor code_stmt.Stmt) → i < length all → s ≡ get_or all i s
    → first_of f (assignments (stmts_at (drop i all))) ≡ earlier (first_of f (assignments (stmt_at s ∷ []))) (first_of f (assignments (stmts_at (drop (i + 1) all))))
drive_split f all i s inside at = ap (first_of f) (stmts_split all i s inside at) ∙ first_both f (assignments (stmt_at s ∷ [])) (assignments (stmts_at (drop (i + 1) all)))

pub drive_next : (f : Drive → Option CheckFault) (all : List (Bor code_stmt.Stmt)) (i : ℕ) (s : Bor code_stmt.Stmt) → i < length all → s ≡ get_or all i s
    → first_of f (assignments (stmt_at s ∷ [])) ≡ None → first_of f (assignments (stmts_at (drop (i + 1) all))) ≡ first_of f (assignments (stmts_at (drop i all)))
drive_next f all i s inside at none = sym (drive_split f all i s inside at ∙ ap (λ o. earlier o (first_of f (assignments (stmts_at (drop (i + 1) all))))) none)

pub drive_at : (f : Drive → Option CheckFault) (all : List (Bor code_stmt.Stmt)) (i : ℕ) (s : Bor code_stmt.Stmt) (fault : CheckFault) → i < length all → s ≡ get_or all i s
    → first_of f (assignments (stmt_at s ∷ [])) ≡ Some fault → first_of f (assignments (stmts_at (drop i all))) ≡ Some fault
drive_at f all i s fault inside at some = drive_split f all i s inside at ∙ ap (λ o. earlier o (first_of f (assignments (stmts_at (drop (i + 1) all))))) some

pub drive_end : (f : Drive → Option CheckFault) (all : List (Bor code_stmt.Stmt)) (i : ℕ) → length all ≤ i → first_of f (assignments (stmts_at (drop i all))) ≡ None
drive_end f all i past = ap (λ (l : List (Bor code_stmt.Stmt)). first_of f (assignments (stmts_at l))) (drop_of_length-le all past)

-- ---- blocks

block_split : (lines : Lines) (blocks : List code_block.Block) (i : ℕ) (b : code_block.Block) → i < length blocks → b ≡ get_or blocks i b
    → driven_twice lines (map block_of (drop i blocks))
    ≡ earlier (first_of (second_drive lines) (driven_in (block_of b))) (driven_twice (all_driven lines (driven_in (block_of b))) (map block_of (drop (i + 1) blocks)))
block_split lines blocks i b inside at =
    ap (λ (l : List code_block.Block). driven_twice lines (map block_of l)) (drop_more blocks i b inside)
    ∙ ap (λ (c : code_block.Block). earlier (first_of (second_drive lines) (driven_in (block_of c))) (driven_twice (all_driven lines (driven_in (block_of c))) (map block_of (drop (i + 1) blocks)))) (sym at)

pub block_next : (lines now : Lines) (blocks : List code_block.Block) (i : ℕ) (b : code_block.Block) → i < length blocks → b ≡ get_or blocks i b
    → twice_in_block lines (block_of b) ≡ None → now ≡ all_driven lines (driven_in (block_of b))
    → driven_twice now (map block_of (drop (i + 1) blocks)) ≡ driven_twice lines (map block_of (drop i blocks))
unfolding twice_in_block
block_next lines now blocks i b inside at none is =
    ap (λ (k : Lines). driven_twice k (map block_of (drop (i + 1) blocks))) is
    ∙ sym (block_split lines blocks i b inside at ∙ ap (λ o. earlier o (driven_twice (all_driven lines (driven_in (block_of b))) (map block_of (drop (i + 1) blocks)))) none)

pub block_at : (lines : Lines) (blocks : List code_block.Block) (i : ℕ) (b : code_block.Block) (fault : CheckFault) → i < length blocks → b ≡ get_or blocks i b
    → twice_in_block lines (block_of b) ≡ Some fault → driven_twice lines (map block_of (drop i blocks)) ≡ Some fault
unfolding twice_in_block
block_at lines blocks i b fault inside at some =
    block_split lines blocks i b inside at ∙ ap (λ o. earlier o (driven_twice (all_driven lines (driven_in (block_of b))) (map block_of (drop (i + 1) blocks)))) some

pub block_end : (lines : Lines) (blocks : List code_block.Block) (i : ℕ) → length blocks ≤ i → driven_twice lines (map block_of (drop i blocks)) ≡ None
block_end lines blocks i past = ap (λ (l : List code_block.Block). driven_twice lines (map block_of l)) (drop_of_length-le blocks past)

pub ruleset block_steps = (block_next, block_at, block_end)

-- ---- faults that go up

pub err_told : {A : Type 0} (r : Result A CheckFault) (fault : CheckFault) (told : Option CheckFault) → r ≡ Err fault → (is_fault fault ≡ true → told ≡ Some fault) → Tells r told
err_told r fault told e h = subst (λ q. Tells q told) (sym e) h
