-- What is assigned, one statement and one block after another.
use Rattle.std.proofs.Common.{◌≡◌, ℕ, ◌+◌, ◌<◌, ◌≤◌, Bool, true, false, ◌||◌, bytes_eq, List, ◌∷◌, map, length, drop, get_or, refl, sym, ap, ◌∙◌}
use Rattle.std.specs.Borrow.{Bor}
use Rattle.std.proofs.lemmas.List.{drop_more}
use Rattle.std.proofs.Math.ListN.{drop_of_length-le}
use Rattle.design_core.specs.declared.statement.Stmt as code_stmt
use Rattle.design_core.specs.declared.variant.Block as code_block
use Rattle.design_core.specs.declared.variant.Signal.{Signal}
use Rattle.design_core.specs.View.{block_of}
use Rattle.design_core.specs.Design.{Stmt, Assign, Let, If, Case}
use Rattle.names.specs.Known.{Known, either}
use Rattle.check_core.specs.Faults.{first_of}
use Rattle.design_core.specs.Statements.{stmt_at, stmts_at}
use Rattle.check_core.specs.Drivers.{assigned_after, assignments, driven_in, drives, is_assigned, undriven_at}

swap : (a b c : Bool) → ((a || b) || c) ≡ (b || (a || c))
swap true true c = refl
swap true false c = refl
swap false true c = refl
swap false false c = refl

join : (a b c : Bool) → ((a || b) || c) ≡ (a || (b || c))
join true b c = refl
join false b c = refl

either_end : (a : Bool) → (a || false) ≡ a
either_end true = refl
either_end false = refl

one_target : (known : Known) (s : Stmt) (rest : List Stmt) → either (assigned_after known s) (drives (assignments rest)) ≡ either known (drives (assignments (s ∷ rest)))
one_target known (Assign slot line gens x part e) rest = λ i y. swap (bytes_eq y x) (known y) (drives (assignments rest) y) i
one_target known (Let slot line gens x e) rest = refl
one_target known (If slot line gens c first second) rest = refl
one_target known (Case slot line gens v arms other) rest = refl

pub targets_next : (old new : Known) (all : List (Bor code_stmt.Stmt)) (i : ℕ) (s : Bor code_stmt.Stmt) → i < length all → s ≡ get_or all i s → new ≡ assigned_after old (stmt_at s)
    → either new (drives (assignments (stmts_at (drop (i + 1) all)))) ≡ either old (drives (assignments (stmts_at (drop i all))))
targets_next old new all i s inside at is =
    ap (λ (k : Known). either k (drives (assignments (stmts_at (drop (i + 1) all))))) is
    ∙ one_target old (stmt_at s) (stmts_at (drop (i + 1) all))
    ∙ ap (λ (t : Bor code_stmt.Stmt). either old (drives (assignments (stmt_at t ∷ stmts_at (drop (i + 1) all))))) at
    ∙ ap (λ (l : List (Bor code_stmt.Stmt)). either old (drives (assignments (stmts_at l)))) (sym (drop_more all i s inside))

pub targets_end : (known : Known) (all : List (Bor code_stmt.Stmt)) (i : ℕ) → length all ≤ i → either known (drives (assignments (stmts_at (drop i all)))) ≡ known
targets_end known all i past = λ j y. (ap (λ (l : List (Bor code_stmt.Stmt)). known y || drives (assignments (stmts_at l)) y) (drop_of_length-le all past) ∙ either_end (known y)) j

pub blocks_next : (blocks : List code_block.Block) (i : ℕ) (b : code_block.Block) (old new : Known) → i < length blocks → b ≡ get_or blocks i b → new ≡ either old (drives (driven_in (block_of b)))
    → either new (is_assigned (map block_of (drop (i + 1) blocks))) ≡ either old (is_assigned (map block_of (drop i blocks)))
blocks_next blocks i b old new inside at is =
    λ j y. (ap (λ (k : Known). k y || is_assigned (map block_of (drop (i + 1) blocks)) y) is
    ∙ join (old y) (drives (driven_in (block_of b)) y) (is_assigned (map block_of (drop (i + 1) blocks)) y)
    ∙ ap (λ (c : code_block.Block). old y || (drives (driven_in (block_of c)) y || is_assigned (map block_of (drop (i + 1) blocks)) y)) at
    ∙ ap (λ (l : List code_block.Block). old y || is_assigned (map block_of l) y) (sym (drop_more blocks i b inside))) j

pub blocks_end : (blocks : List code_block.Block) (i : ℕ) (known : Known) → length blocks ≤ i → either known (is_assigned (map block_of (drop i blocks))) ≡ known
blocks_end blocks i known past = λ j y. (ap (λ (l : List code_block.Block). known y || is_assigned (map block_of l) y) (drop_of_length-le blocks past) ∙ either_end (known y)) j

pub undriven_as : (assigned now : Known) (signals all : List Signal) → assigned ≡ now → signals ≡ all → first_of (undriven_at assigned) signals ≡ first_of (undriven_at now) all
undriven_as assigned now signals all e f = λ i. first_of (undriven_at (e i)) (f i)
