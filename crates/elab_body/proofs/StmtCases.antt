-- Each case of the walk over statements.
use Rattle.std.proofs.Common.{◌≡◌, ℕ, ℤ, Bool, true, false, if◌then◌else◌, Option, Result, Ok, Err, refl, sym, ap, ◌∙◌}
use Rattle.gen_tree.specs.Tree as tree
use Rattle.gen_tree.specs.Tree.{Int, Fam, Stmts, no_stmt, stmt, no_else, otherwise, assign, bind, choose, select, repeat, given as gen_given}
use Rattle.gen_tree.specs.declared.Cmp.{Cmp}
use Rattle.elab_core.specs.declared.Count.TheVariants.{Statements, Turns}
use Rattle.elab_core.specs.Walk.{Gives, Faulty, Counted, Fault, Seen, and_then, judge, counts}
use Rattle.elab_core.specs.Numbers.{index_name, fam_name, two_numbers, turn_count, holds}
use Rattle.elab_core.specs.Elaborated.{added}
use Rattle.elab_core.specs.Elab.{expr, part_bounds, statement, statements, else_body, else_statements, turns}
use Rattle.exec_core.specs.Block.{Name}
use Rattle.design_core.specs.Design as design
use Rattle.design_core.specs.Design.{Gens, Expr, Assign, Let, If, Body, Done, Else, NoElse, Otherwise}
use Rattle.elab_base.specs.Compares.{compares}
use Rattle.elab_base.specs.Turns.{turns_at}
use Rattle.elab_base.proofs.Steps.{counted, refused, given, faulty, ends, then_assoc}
use Rattle.elab_body.proofs.CaseCases.{select_fault_1, select_done}
use Rattle.elab_body.specs.Body.{assigned, bound_let, tested, branches, chosen, turn, in_turn, else_stmts}

statement_assign : (line : ℕ) (f : Fam) (p : Option (Int × Int)) (e : tree.Expr) (gens : Gens) (made : Body) → statement (assign line f p e) gens made ≡ and_then (assigned line gens f p e) (λ s. Gives (added made s))
unfolding statement assigned and_then
statement_assign line f p e gens made = ap (Counted Statements line) (sym (
    then_assoc (fam_name line gens f) (λ x. and_then (part_bounds line gens p) (λ part. and_then (expr line gens e) (λ v. Gives (Assign 0 line gens x part v)))) (λ s. Gives (added made s))
    ∙ (λ i. and_then (fam_name line gens f) (λ x. (
    then_assoc (part_bounds line gens p) (λ part. and_then (expr line gens e) (λ v. Gives (Assign 0 line gens x part v))) (λ s. Gives (added made s))
    ∙ (λ j. and_then (part_bounds line gens p) (λ part. then_assoc (expr line gens e) (λ v. Gives (Assign 0 line gens x part v)) (λ s. Gives (added made s)) j))) i))))

statement_bind : (line : ℕ) (f : Fam) (e : tree.Expr) (gens : Gens) (made : Body) → statement (bind line f e) gens made ≡ and_then (bound_let line gens f e) (λ s. Gives (added made s))
unfolding statement bound_let and_then
statement_bind line f e gens made = ap (Counted Statements line) (sym (
    then_assoc (fam_name line gens f) (λ x. and_then (expr line gens e) (λ v. Gives (Let 0 line gens x v))) (λ s. Gives (added made s))
    ∙ (λ i. and_then (fam_name line gens f) (λ x. then_assoc (expr line gens e) (λ v. Gives (Let 0 line gens x v)) (λ s. Gives (added made s)) i))))

statement_choose : (line : ℕ) (c : tree.Expr) (first : Stmts) (second : tree.Else) (gens : Gens) (made : Body) → statement (choose line c first second) gens made ≡ and_then (chosen line gens c first second) (λ s. Gives (added made s))
unfolding statement chosen tested branches and_then
statement_choose line c first second gens made = ap (Counted Statements line) (sym (
    then_assoc (expr line gens c) (λ test. and_then (branches first second gens) (λ p. Gives (If 0 line gens test p.0 p.1))) (λ s. Gives (added made s))
    ∙ (λ i. and_then (expr line gens c) (λ test. (
    then_assoc {A = Body × Else} (branches first second gens) (λ p. Gives (If 0 line gens test p.0 p.1)) (λ s. Gives (added made s))
    ∙ then_assoc {B = Body × Else} (statements first gens Done) (λ y. and_then (else_body second gens) (λ n. Gives (y, n))) (λ p. Gives (added made (If 0 line gens test p.0 p.1)))
    ∙ (λ j. and_then (statements first gens Done) (λ y. then_assoc {B = Body × Else} (else_body second gens) (λ n. Gives (y, n)) (λ p. Gives (added made (If 0 line gens test p.0 p.1))) j))) i))))

statement_repeat : (line : ℕ) (v : Name) (from to : Int) (body : Stmts) (gens : Gens) (made : Body) →
    statement (repeat line v from to body) gens made ≡ and_then (turns_at line gens from to) (λ p. turns line (in_turn body v gens) p.0 p.1 made)
unfolding statement turns_at in_turn and_then
statement_repeat line v from to body gens made = sym (
    then_assoc {B = ℤ × ℕ} (two_numbers line gens from to) (λ range. and_then (turn_count line range.0 range.1) (λ count. Gives (range.0, count))) (λ p. turns line (in_turn body v gens) p.0 p.1 made)
    ∙ (λ i. and_then (two_numbers line gens from to) (λ range. then_assoc {B = ℤ × ℕ} (turn_count line range.0 range.1) (λ count. Gives (range.0, count)) (λ p. turns line (in_turn body v gens) p.0 p.1 made) i)))

one_branch : (first : Stmts) (second : tree.Else) (gens : Gens) (made : Body) (b : Bool) →
    (if b then statements first gens made else else_statements second gens made) ≡ statements (if b then first else else_stmts second) gens made
unfolding else_statements statements
one_branch first second gens made true = refl
one_branch first no_else gens made false = refl
one_branch first (otherwise body) gens made false = refl

statement_given : (line : ℕ) (left : Int) (cmp : Cmp) (right : Int) (first : Stmts) (second : tree.Else) (gens : Gens) (made : Body) →
    statement (gen_given line left cmp right first second) gens made ≡ and_then (compares line gens left cmp right) (λ b. if b then statements first gens made else else_statements second gens made)
unfolding statement compares and_then
statement_given line left cmp right first second gens made = sym (
    then_assoc (two_numbers line gens left right) (λ pair. Gives (holds cmp pair.0 pair.1)) (λ b. if b then statements first gens made else else_statements second gens made))

pub given_fault : (line : ℕ) (left : Int) (cmp : Cmp) (right : Int) (first : Stmts) (second : tree.Else) (gens : Gens) (made : Body) (seen : Seen) (x : Fault) → compares line gens left cmp right ≡ Faulty x →
    judge seen (statement (gen_given line left cmp right first second) gens made) ≡ Err x
given_fault line left cmp right first second gens made seen x e = ap (judge seen) (statement_given line left cmp right first second gens made) ∙ faulty _ _ _ _ e

pub given_branch : (line : ℕ) (left : Int) (cmp : Cmp) (right : Int) (first chosen : Stmts) (second : tree.Else) (gens : Gens) (made : Body) (seen : Seen) (b : Bool) (r : Result (Body × Seen) Fault) →
    compares line gens left cmp right ≡ Gives b → chosen ≡ (if b then first else else_stmts second) → judge seen (statements chosen gens made) ≡ r →
    judge seen (statement (gen_given line left cmp right first second) gens made) ≡ r
given_branch line left cmp right first chosen second gens made seen b r e c q =
    ap (judge seen) (statement_given line left cmp right first second gens made)
    ∙ given _ _ _ _ _ e (ap (judge seen) (one_branch first second gens made b) ∙ ap (λ body. judge seen (statements body gens made)) (sym c) ∙ q)

pub else_none : (gens : Gens) (seen : Seen) → judge seen (else_body no_else gens) ≡ Ok (NoElse, seen)
unfolding else_body
else_none gens seen = ends _ _

pub assigned_fault_1 : (line : ℕ) (gens : Gens) (f : Name) (i : Option Int) (p : Option (Int × Int)) (e : tree.Expr) (seen : Seen) (x : Fault) → judge seen (counts Statements line) ≡ Err x →
    judge seen (assigned line gens (record { name = f; index = i }) p e) ≡ Err x
unfolding assigned
assigned_fault_1 line gens f i p e seen x e1 = refused _ _ _ _ e1

pub assigned_fault_2 : (line : ℕ) (gens : Gens) (f : Name) (i : Option Int) (p : Option (Int × Int)) (e : tree.Expr) (seen s1 : Seen) (x : Fault) → judge seen (counts Statements line) ≡ Ok (tt, s1) → index_name line gens f i ≡ Faulty x →
    judge seen (assigned line gens (record { name = f; index = i }) p e) ≡ Err x
unfolding assigned
assigned_fault_2 line gens f i p e seen s1 x e1 e2 = counted _ _ _ _ _ _ e1 (faulty _ _ _ _ e2)

pub assigned_fault_3 : (line : ℕ) (gens : Gens) (f : Name) (i : Option Int) (p : Option (Int × Int)) (e : tree.Expr) (y : Name) (seen s1 : Seen) (x : Fault) → judge seen (counts Statements line) ≡ Ok (tt, s1) → index_name line gens f i ≡ Gives y → part_bounds line gens p ≡ Faulty x →
    judge seen (assigned line gens (record { name = f; index = i }) p e) ≡ Err x
unfolding assigned
assigned_fault_3 line gens f i p e y seen s1 x e1 e2 e3 = counted _ _ _ _ _ _ e1 (given _ _ _ _ _ e2 (faulty _ _ _ _ e3))

pub assigned_fault_4 : (line : ℕ) (gens : Gens) (f : Name) (i : Option Int) (p : Option (Int × Int)) (e : tree.Expr) (y : Name) (part : Option (ℤ × ℤ)) (seen s1 : Seen) (x : Fault) → judge seen (counts Statements line) ≡ Ok (tt, s1) → index_name line gens f i ≡ Gives y
    → part_bounds line gens p ≡ Gives part → judge s1 (expr line gens e) ≡ Err x → judge seen (assigned line gens (record { name = f; index = i }) p e) ≡ Err x
unfolding assigned
assigned_fault_4 line gens f i p e y part seen s1 x e1 e2 e3 e4 = counted _ _ _ _ _ _ e1 (given _ _ _ _ _ e2 (given _ _ _ _ _ e3 (refused _ _ _ _ e4)))

pub assigned_done : (line : ℕ) (gens : Gens) (f : Name) (i : Option Int) (p : Option (Int × Int)) (e : tree.Expr) (y : Name) (part : Option (ℤ × ℤ)) (v : Expr) (seen s1 s2 : Seen) → judge seen (counts Statements line) ≡ Ok (tt, s1) → index_name line gens f i ≡ Gives y
    → part_bounds line gens p ≡ Gives part → judge s1 (expr line gens e) ≡ Ok (v, s2) → judge seen (assigned line gens (record { name = f; index = i }) p e) ≡ Ok (Assign 0 line gens y part v, s2)
unfolding assigned
assigned_done line gens f i p e y part v seen s1 s2 e1 e2 e3 e4 = counted _ _ _ _ _ _ e1 (given _ _ _ _ _ e2 (given _ _ _ _ _ e3 (counted _ _ _ _ _ _ e4 (ends _ _))))

pub bound_fault_1 : (line : ℕ) (gens : Gens) (f : Name) (i : Option Int) (e : tree.Expr) (seen : Seen) (x : Fault) → judge seen (counts Statements line) ≡ Err x →
    judge seen (bound_let line gens (record { name = f; index = i }) e) ≡ Err x
unfolding bound_let
bound_fault_1 line gens f i e seen x e1 = refused _ _ _ _ e1

pub bound_fault_2 : (line : ℕ) (gens : Gens) (f : Name) (i : Option Int) (e : tree.Expr) (seen s1 : Seen) (x : Fault) → judge seen (counts Statements line) ≡ Ok (tt, s1) → index_name line gens f i ≡ Faulty x →
    judge seen (bound_let line gens (record { name = f; index = i }) e) ≡ Err x
unfolding bound_let
bound_fault_2 line gens f i e seen s1 x e1 e2 = counted _ _ _ _ _ _ e1 (faulty _ _ _ _ e2)

pub bound_fault_3 : (line : ℕ) (gens : Gens) (f : Name) (i : Option Int) (e : tree.Expr) (y : Name) (seen s1 : Seen) (x : Fault) → judge seen (counts Statements line) ≡ Ok (tt, s1) → index_name line gens f i ≡ Gives y → judge s1 (expr line gens e) ≡ Err x →
    judge seen (bound_let line gens (record { name = f; index = i }) e) ≡ Err x
unfolding bound_let
bound_fault_3 line gens f i e y seen s1 x e1 e2 e3 = counted _ _ _ _ _ _ e1 (given _ _ _ _ _ e2 (refused _ _ _ _ e3))

pub bound_done : (line : ℕ) (gens : Gens) (f : Name) (i : Option Int) (e : tree.Expr) (y : Name) (v : Expr) (seen s1 s2 : Seen) → judge seen (counts Statements line) ≡ Ok (tt, s1) → index_name line gens f i ≡ Gives y → judge s1 (expr line gens e) ≡ Ok (v, s2) →
    judge seen (bound_let line gens (record { name = f; index = i }) e) ≡ Ok (Let 0 line gens y v, s2)
unfolding bound_let
bound_done line gens f i e y v seen s1 s2 e1 e2 e3 = counted _ _ _ _ _ _ e1 (given _ _ _ _ _ e2 (counted _ _ _ _ _ _ e3 (ends _ _)))

pub tested_fault_1 : (line : ℕ) (gens : Gens) (c : tree.Expr) (seen : Seen) (x : Fault) → judge seen (counts Statements line) ≡ Err x →
    judge seen (tested line gens c) ≡ Err x
unfolding tested
tested_fault_1 line gens c seen x e1 = refused _ _ _ _ e1

pub tested_done : (line : ℕ) (gens : Gens) (c : tree.Expr) (seen s1 : Seen) (last : Expr) (after : Seen) → judge seen (counts Statements line) ≡ Ok (tt, s1) → judge s1 (expr line gens c) ≡ Ok (last, after) →
    judge seen (tested line gens c) ≡ Ok (last, after)
unfolding tested
tested_done line gens c seen s1 last after e1 e2 = counted _ _ _ _ _ _ e1 (e2)

pub tested_last_fault : (line : ℕ) (gens : Gens) (c : tree.Expr) (seen s1 : Seen) (x : Fault) → judge seen (counts Statements line) ≡ Ok (tt, s1) → judge s1 (expr line gens c) ≡ Err x →
    judge seen (tested line gens c) ≡ Err x
unfolding tested
tested_last_fault line gens c seen s1 x e1 e2 = counted _ _ _ _ _ _ e1 (e2)

pub branches_fault_1 : (gens : Gens) (first : Stmts) (second : tree.Else) (seen : Seen) (x : Fault) → judge seen (statements first gens Done) ≡ Err x →
    judge seen (branches first second gens) ≡ Err x
unfolding branches
branches_fault_1 gens first second seen x e1 = refused _ _ _ _ e1

pub branches_fault_2 : (gens : Gens) (first : Stmts) (second : tree.Else) (yes_body : Body) (seen s1 : Seen) (x : Fault) → judge seen (statements first gens Done) ≡ Ok (yes_body, s1) → judge s1 (else_body second gens) ≡ Err x →
    judge seen (branches first second gens) ≡ Err x
unfolding branches
branches_fault_2 gens first second yes_body seen s1 x e1 e2 = counted _ _ _ _ _ _ e1 (refused _ _ _ _ e2)

pub branches_done : (gens : Gens) (first : Stmts) (second : tree.Else) (yes_body : Body) (no_body : Else) (seen s1 s2 : Seen) → judge seen (statements first gens Done) ≡ Ok (yes_body, s1) → judge s1 (else_body second gens) ≡ Ok (no_body, s2) →
    judge seen (branches first second gens) ≡ Ok ((yes_body, no_body), s2)
unfolding branches
branches_done gens first second yes_body no_body seen s1 s2 e1 e2 = counted _ _ _ _ _ _ e1 (counted _ _ _ _ _ _ e2 (ends _ _))

pub otherwise_fault_1 : (gens : Gens) (body : Stmts) (seen : Seen) (x : Fault) → judge seen (statements body gens Done) ≡ Err x →
    judge seen (else_body (otherwise body) gens) ≡ Err x
unfolding else_body
otherwise_fault_1 gens body seen x e1 = refused _ _ _ _ e1

pub otherwise_done : (gens : Gens) (body : Stmts) (made : Body) (seen s1 : Seen) → judge seen (statements body gens Done) ≡ Ok (made, s1) →
    judge seen (else_body (otherwise body) gens) ≡ Ok (Otherwise made, s1)
unfolding else_body
otherwise_done gens body made seen s1 e1 = counted _ _ _ _ _ _ e1 (ends _ _)

pub turn_fault_1 : (line : ℕ) (body : Stmts) (inner : Gens) (made : Body) (seen : Seen) (x : Fault) → judge seen (counts Turns line) ≡ Err x →
    judge seen (turn line body inner made) ≡ Err x
unfolding turn
turn_fault_1 line body inner made seen x e1 = refused _ _ _ _ e1

pub turn_done : (line : ℕ) (body : Stmts) (inner same : Gens) (made : Body) (seen s1 : Seen) (last : Body) (after : Seen) → judge seen (counts Turns line) ≡ Ok (tt, s1) → same ≡ inner → judge s1 (statements body same made) ≡ Ok (last, after) →
    judge seen (turn line body inner made) ≡ Ok (last, after)
unfolding turn
turn_done line body inner same made seen s1 last after e1 i e2 = counted _ _ _ _ _ _ e1 (ap (λ g. judge s1 (statements body g made)) (sym i) ∙ e2)

pub turn_last_fault : (line : ℕ) (body : Stmts) (inner same : Gens) (made : Body) (seen s1 : Seen) (x : Fault) → judge seen (counts Turns line) ≡ Ok (tt, s1) → same ≡ inner → judge s1 (statements body same made) ≡ Err x →
    judge seen (turn line body inner made) ≡ Err x
unfolding turn
turn_last_fault line body inner same made seen s1 x e1 i e2 = counted _ _ _ _ _ _ e1 (ap (λ g. judge s1 (statements body g made)) (sym i) ∙ e2)

pub assign_fault_1 : (line : ℕ) (gens : Gens) (made : Body) (f : Fam) (p : Option (Int × Int)) (e : tree.Expr) (seen : Seen) (x : Fault) → judge seen (assigned line gens f p e) ≡ Err x →
    judge seen (statement (assign line f p e) gens made) ≡ Err x
assign_fault_1 line gens made f p e seen x e1 = ap (judge seen) (statement_assign line f p e gens made) ∙ refused _ _ _ _ e1

pub assign_done : (line : ℕ) (gens : Gens) (made : Body) (f : Fam) (p : Option (Int × Int)) (e : tree.Expr) (s : design.Stmt) (seen s1 : Seen) → judge seen (assigned line gens f p e) ≡ Ok (s, s1) →
    judge seen (statement (assign line f p e) gens made) ≡ Ok (added made s, s1)
assign_done line gens made f p e s seen s1 e1 = ap (judge seen) (statement_assign line f p e gens made) ∙ counted _ _ _ _ _ _ e1 (ends _ _)

pub bind_fault_1 : (line : ℕ) (gens : Gens) (made : Body) (f : Fam) (e : tree.Expr) (seen : Seen) (x : Fault) → judge seen (bound_let line gens f e) ≡ Err x →
    judge seen (statement (bind line f e) gens made) ≡ Err x
bind_fault_1 line gens made f e seen x e1 = ap (judge seen) (statement_bind line f e gens made) ∙ refused _ _ _ _ e1

pub bind_done : (line : ℕ) (gens : Gens) (made : Body) (f : Fam) (e : tree.Expr) (s : design.Stmt) (seen s1 : Seen) → judge seen (bound_let line gens f e) ≡ Ok (s, s1) →
    judge seen (statement (bind line f e) gens made) ≡ Ok (added made s, s1)
bind_done line gens made f e s seen s1 e1 = ap (judge seen) (statement_bind line f e gens made) ∙ counted _ _ _ _ _ _ e1 (ends _ _)

pub chosen_fault_1 : (line : ℕ) (gens : Gens) (c : tree.Expr) (first : Stmts) (second : tree.Else) (seen : Seen) (x : Fault) → judge seen (tested line gens c) ≡ Err x →
    judge seen (chosen line gens c first second) ≡ Err x
unfolding chosen
chosen_fault_1 line gens c first second seen x e1 = refused _ _ _ _ e1

pub chosen_fault_2 : (line : ℕ) (gens : Gens) (c : tree.Expr) (first : Stmts) (second : tree.Else) (test : Expr) (seen s1 : Seen) (x : Fault) → judge seen (tested line gens c) ≡ Ok (test, s1) → judge s1 (branches first second gens) ≡ Err x →
    judge seen (chosen line gens c first second) ≡ Err x
unfolding chosen
chosen_fault_2 line gens c first second test seen s1 x e1 e2 = counted _ _ _ _ _ _ e1 (refused _ _ _ _ e2)

pub chosen_done : (line : ℕ) (gens : Gens) (c : tree.Expr) (first : Stmts) (second : tree.Else) (test : Expr) (yes_body : Body) (no_body : Else) (seen s1 s2 : Seen) → judge seen (tested line gens c) ≡ Ok (test, s1) → judge s1 (branches first second gens) ≡ Ok ((yes_body, no_body), s2) →
    judge seen (chosen line gens c first second) ≡ Ok (If 0 line gens test yes_body no_body, s2)
unfolding chosen
chosen_done line gens c first second test yes_body no_body seen s1 s2 e1 e2 = counted _ _ _ _ _ _ e1 (counted _ _ _ _ _ _ e2 (ends _ _))

pub choose_fault_1 : (line : ℕ) (gens : Gens) (made : Body) (c : tree.Expr) (first : Stmts) (second : tree.Else) (seen : Seen) (x : Fault) → judge seen (chosen line gens c first second) ≡ Err x →
    judge seen (statement (choose line c first second) gens made) ≡ Err x
choose_fault_1 line gens made c first second seen x e1 = ap (judge seen) (statement_choose line c first second gens made) ∙ refused _ _ _ _ e1

pub choose_done : (line : ℕ) (gens : Gens) (made : Body) (c : tree.Expr) (first : Stmts) (second : tree.Else) (s : design.Stmt) (seen s1 : Seen) → judge seen (chosen line gens c first second) ≡ Ok (s, s1) →
    judge seen (statement (choose line c first second) gens made) ≡ Ok (added made s, s1)
choose_done line gens made c first second s seen s1 e1 = ap (judge seen) (statement_choose line c first second gens made) ∙ counted _ _ _ _ _ _ e1 (ends _ _)

pub repeat_fault_1 : (line : ℕ) (gens : Gens) (made : Body) (v : Name) (from to : Int) (body : Stmts) (seen : Seen) (x : Fault) → turns_at line gens from to ≡ Faulty x →
    judge seen (statement (repeat line v from to body) gens made) ≡ Err x
repeat_fault_1 line gens made v from to body seen x e1 = ap (judge seen) (statement_repeat line v from to body gens made) ∙ faulty _ _ _ _ e1

pub repeat_done : (line : ℕ) (gens : Gens) (made : Body) (v : Name) (from to : Int) (body : Stmts) (k : ℤ) (count : ℕ) (seen : Seen) (last : Body) (after : Seen) → turns_at line gens from to ≡ Gives (k, count) → judge seen (turns line (in_turn body v gens) k count made) ≡ Ok (last, after) →
    judge seen (statement (repeat line v from to body) gens made) ≡ Ok (last, after)
repeat_done line gens made v from to body k count seen last after e1 e2 = ap (judge seen) (statement_repeat line v from to body gens made) ∙ given _ _ _ _ _ e1 (e2)

pub repeat_last_fault : (line : ℕ) (gens : Gens) (made : Body) (v : Name) (from to : Int) (body : Stmts) (k : ℤ) (count : ℕ) (seen : Seen) (x : Fault) → turns_at line gens from to ≡ Gives (k, count) → judge seen (turns line (in_turn body v gens) k count made) ≡ Err x →
    judge seen (statement (repeat line v from to body) gens made) ≡ Err x
repeat_last_fault line gens made v from to body k count seen x e1 e2 = ap (judge seen) (statement_repeat line v from to body gens made) ∙ given _ _ _ _ _ e1 (e2)

pub ruleset assigned_steps = (assigned_fault_1, assigned_fault_2, assigned_fault_3, assigned_fault_4, assigned_done)

pub ruleset bound_steps = (bound_fault_1, bound_fault_2, bound_fault_3, bound_done)

pub ruleset tested_steps = (tested_fault_1, tested_done, tested_last_fault)

pub ruleset branches_steps = (branches_fault_1, branches_fault_2, branches_done)

pub ruleset else_steps = (otherwise_fault_1, otherwise_done, else_none)

pub ruleset turn_steps = (turn_fault_1, turn_done, turn_last_fault)

pub ruleset chosen_steps = (chosen_fault_1, chosen_fault_2, chosen_done)

pub ruleset stmt_steps = (assign_fault_1, assign_done, bind_fault_1, bind_done, choose_fault_1, choose_done, select_fault_1, select_done)

pub ruleset repeat_steps = (repeat_fault_1, repeat_done, repeat_last_fault)
