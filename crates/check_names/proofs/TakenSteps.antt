-- Names that are taken, one after another.
use Rattle.std.proofs.Common.{◌≡◌, ℕ, zero, suc, ◌+◌, ◌<◌, ◌≤◌, Bool, true, false, ◌||◌, bytes_eq, List, [], ◌∷◌, ◌++◌, length, drop, get_or, if◌then◌else◌, Option, Some, None, append_assoc, append-nil, refl, sym, ap, ◌∙◌}
use Rattle.std.specs.Borrow.{Bor}
use Rattle.std.proofs.lemmas.List.{drop_more}
use Rattle.std.proofs.Math.ListN.{drop_of_length-le}
use Rattle.design_core.specs.declared.statement.Stmt as code_stmt
use Rattle.design_core.specs.Design.{Stmt, Assign, Let, If, Case}
use Rattle.design_core.specs.Statements.{stmt_at, stmts_at}
use Rattle.check_core.specs.declared.fault.CheckFault.TheVariants.{DuplicateName}
use Rattle.names.specs.Known.{Name, Known, with, either}
use Rattle.check_core.specs.Faults.{spot}
use Rattle.check_core.specs.Names.{taken_twice, lets_in}
use Rattle.check_names.specs.Things.{things_at}

split : (known : Known) (all : List (ℕ × Bor (List ℕ))) (i : ℕ) (p : ℕ × Bor (List ℕ)) → i < length all → p ≡ get_or all i p
    → taken_twice known (things_at (drop i all)) ≡ (if known p.1.now then Some (DuplicateName (spot p.0 p.1.now)) else taken_twice (with p.1.now known) (things_at (drop (i + 1) all)))
split known all i p inside at =
    ap (λ (l : List (ℕ × Bor (List ℕ))). taken_twice known (things_at l)) (drop_more all i p inside)
    ∙ ap (λ (q : ℕ × Bor (List ℕ)). if known q.1.now then Some (DuplicateName (spot q.0 q.1.now)) else taken_twice (with q.1.now known) (things_at (drop (i + 1) all))) (sym at)

-- a name that is taken
pub taken_at : (taken met : Known) (all : List (ℕ × Bor (List ℕ))) (i : ℕ) (p : ℕ × Bor (List ℕ)) → i < length all → p ≡ get_or all i p → either met taken p.1.now ≡ true
    → taken_twice (either met taken) (things_at (drop i all)) ≡ Some (DuplicateName (spot p.0 p.1.now))
taken_at taken met all i p inside at yes_taken =
    split (either met taken) all i p inside at ∙ ap (λ b. if b then Some (DuplicateName (spot p.0 p.1.now)) else taken_twice (with p.1.now (either met taken)) (things_at (drop (i + 1) all))) yes_taken

both_with : (a b c : Bool) → (a || (b || c)) ≡ ((a || b) || c)
both_with true b c = refl
both_with false b c = refl

-- a name that is not
pub taken_next : (taken met now : Known) (all : List (ℕ × Bor (List ℕ))) (i : ℕ) (p : ℕ × Bor (List ℕ)) → i < length all → p ≡ get_or all i p → either met taken p.1.now ≡ false → now ≡ with p.1.now met
    → taken_twice (either now taken) (things_at (drop (i + 1) all)) ≡ taken_twice (either met taken) (things_at (drop i all))
taken_next taken met now all i p inside at free is =
    ap (λ (k : Known). taken_twice (either k taken) (things_at (drop (i + 1) all))) is
    ∙ ap (λ (k : Known). taken_twice k (things_at (drop (i + 1) all))) (λ j y. sym (both_with (bytes_eq y p.1.now) (met y) (taken y)) j)
    ∙ sym (split (either met taken) all i p inside at ∙ ap (λ b. if b then Some (DuplicateName (spot p.0 p.1.now)) else taken_twice (with p.1.now (either met taken)) (things_at (drop (i + 1) all))) free)

get_or_self : {X : Type 0} (xs : List X) (i : ℕ) (d : X) → get_or xs i d ≡ get_or xs i (get_or xs i d)
get_or_self [] i d = refl
get_or_self (x ∷ xs) zero d = refl
get_or_self (x ∷ xs) (suc i) d = get_or_self xs i d

-- the same of an element by its place
pub taken_turn : (taken met now : Known) (all : List (ℕ × Bor (List ℕ))) (i : ℕ) (d : ℕ × Bor (List ℕ)) → i < length all → either met taken (get_or all i d).1.now ≡ false → now ≡ with (get_or all i d).1.now met
    → taken_twice (either now taken) (things_at (drop (i + 1) all)) ≡ taken_twice (either met taken) (things_at (drop i all))
taken_turn taken met now all i d inside free is = taken_next taken met now all i (get_or all i d) inside (get_or_self all i d) free is

pub taken_end : (known : Known) (all : List (ℕ × Bor (List ℕ))) (i : ℕ) → length all ≤ i → taken_twice known (things_at (drop i all)) ≡ None
taken_end known all i past = ap (λ (l : List (ℕ × Bor (List ℕ))). taken_twice known (things_at l)) (drop_of_length-le all past)

-- ---- the lets of statements

-- one statement more
pub lets_next : (found now : List (ℕ × Name)) (all : List (Bor code_stmt.Stmt)) (i : ℕ) (s : Bor code_stmt.Stmt) → i < length all → s ≡ get_or all i s → now ≡ found ++ lets_in (stmt_at s ∷ [])
    → now ++ lets_in (stmts_at (drop (i + 1) all)) ≡ found ++ lets_in (stmts_at (drop i all))
lets_next found now all i s inside at is =
    ap (λ (l : List (ℕ × Name)). l ++ lets_in (stmts_at (drop (i + 1) all))) is
    ∙ append_assoc found (lets_in (stmt_at s ∷ [])) (lets_in (stmts_at (drop (i + 1) all)))
    ∙ ap (λ (l : List (ℕ × Name)). found ++ l) (sym (lets_both (stmt_at s) (stmts_at (drop (i + 1) all))))
    ∙ ap (λ (t : Bor code_stmt.Stmt). found ++ lets_in (stmt_at t ∷ stmts_at (drop (i + 1) all))) at
    ∙ ap (λ (l : List (Bor code_stmt.Stmt)). found ++ lets_in (stmts_at l)) (sym (drop_more all i s inside))
  where
    lets_both : (t : Stmt) (rest : List Stmt) → lets_in (t ∷ rest) ≡ lets_in (t ∷ []) ++ lets_in rest
    lets_both (Assign slot line gens x part e) rest = refl
    lets_both (Let slot line gens x e) rest = refl
    lets_both (If slot line gens c first second) rest = refl
    lets_both (Case slot line gens v arms other) rest = refl

pub lets_end : (found : List (ℕ × Name)) (all : List (Bor code_stmt.Stmt)) (i : ℕ) → length all ≤ i → found ++ lets_in (stmts_at (drop i all)) ≡ found
lets_end found all i past = ap (λ (l : List (Bor code_stmt.Stmt)). found ++ lets_in (stmts_at l)) (drop_of_length-le all past) ∙ append-nil found
