-- The own names of statements, one after another.
use Rattle.std.proofs.Common.{◌≡◌, ℕ, ◌+◌, ◌<◌, ◌≤◌, Bool, true, false, not, ◌||◌, ◌&&◌, bytes_eq, List, [], ◌∷◌, length, drop, get_or, refl, sym, ap, ◌∙◌}
use Rattle.std.specs.Borrow.{Bor}
use Rattle.std.proofs.lemmas.List.{drop_more}
use Rattle.std.proofs.Math.ListN.{drop_of_length-le}
use Rattle.design_core.specs.declared.statement.Stmt as code_stmt
use Rattle.design_core.specs.Design.{Stmt, Assign, Let, If, Case, Block}
use Rattle.names.specs.Known.{Name, Known, has, with, none}
use Rattle.design_core.specs.Statements.{statements, stmt_at, stmts_at}
use Rattle.check_core.specs.Drivers.{assignments, drives}
use Rattle.check_core.specs.Paths.{own}
use Rattle.design_core.specs.Heads.{let_names}
use Rattle.design_core.proofs.LetNames.{names_in}
use Rattle.check_paths.specs.Walked.{own_after, own_among}

-- ---- what statements put in

move : (a b c : Bool) → ((b || a) || c) ≡ (a || (b || c))
move true true c = refl
move true false c = refl
move false true c = refl
move false false c = refl

behind : (a b c d : Bool) → ((b || a) || (c || d)) ≡ (a || (c || (b || d)))
behind true true c d = refl
behind true false c d = refl
behind false true true d = refl
behind false true false d = refl
behind false false c d = refl

front : (a b c d : Bool) → ((b || a) || (c || d)) ≡ (a || ((b || c) || d))
front true true c d = refl
front true false c d = refl
front false true c d = refl
front false false c d = refl

targets : Bool → List Stmt → Known
targets clocked stmts y = not clocked && drives (assignments stmts) y

among : (clocked : Bool) (known : Known) (stmts : List Stmt) (y : Name) → own_among clocked known stmts y ≡ (known y || (has (let_names stmts) y || (not clocked && drives (assignments stmts) y)))
among true known [] y = end (known y)
  where
    end : (a : Bool) → a ≡ (a || (false || false))
    end true = refl
    end false = refl
among false known [] y = end (known y)
  where
    end : (a : Bool) → a ≡ (a || (false || false))
    end true = refl
    end false = refl
among true known (Assign slot line gens x part e ∷ rest) y = among true known rest y
among false known (Assign slot line gens x part e ∷ rest) y = among false (with x known) rest y ∙ behind (known y) (bytes_eq y x) (has (let_names rest) y) (drives (assignments rest) y)
among true known (Let slot line gens x e ∷ rest) y = among true (with x known) rest y ∙ front (known y) (bytes_eq y x) (has (let_names rest) y) false
among false known (Let slot line gens x e ∷ rest) y = among false (with x known) rest y ∙ front (known y) (bytes_eq y x) (has (let_names rest) y) (drives (assignments rest) y)
among true known (If slot line gens c first second ∷ rest) y = among true known rest y
among true known (Case slot line gens v arms other ∷ rest) y = among true known rest y
among false known (If slot line gens c first second ∷ rest) y = among false known rest y
among false known (Case slot line gens v arms other ∷ rest) y = among false known rest y

pub own_all : (b : Block) → own_among b.clocked none (statements b.body) ≡ own b
own_all b = λ i y. (among b.clocked none (statements b.body) y ∙ ap (λ (l : List Name). has l y || (not b.clocked && drives (assignments (statements b.body)) y)) (names_in b.body)) i

-- ---- one statement after another

pub own_next : (clocked : Bool) (old new : Known) (all : List (Bor code_stmt.Stmt)) (i : ℕ) (s : Bor code_stmt.Stmt) → i < length all → s ≡ get_or all i s → new ≡ own_after clocked old (stmt_at s)
    → own_among clocked new (stmts_at (drop (i + 1) all)) ≡ own_among clocked old (stmts_at (drop i all))
own_next clocked old new all i s inside at is =
    ap (λ (k : Known). own_among clocked k (stmts_at (drop (i + 1) all))) is
    ∙ sym (ap (λ (l : List (Bor code_stmt.Stmt)). own_among clocked old (stmts_at l)) (drop_more all i s inside)
    ∙ ap (λ (t : Bor code_stmt.Stmt). own_among clocked (own_after clocked old (stmt_at t)) (stmts_at (drop (i + 1) all))) (sym at))

pub own_end : (clocked : Bool) (known : Known) (all : List (Bor code_stmt.Stmt)) (i : ℕ) → length all ≤ i → own_among clocked known (stmts_at (drop i all)) ≡ known
own_end clocked known all i past = ap (λ (l : List (Bor code_stmt.Stmt)). own_among clocked known (stmts_at l)) (drop_of_length-le all past)

pub own_from : (b : Block) (names : Known) (all : List Stmt) → names ≡ none → all ≡ statements b.body → own_among b.clocked names all ≡ own b
own_from b names all is are = (λ i. own_among b.clocked (is i) (are i)) ∙ own_all b
