-- Each case of the walk over the arms of a `case`.
use Rattle.std.proofs.Common.{◌≡◌, ℕ, List, [], Result, Ok, Err, refl, sym, ap, ◌∙◌}
use Rattle.gen_tree.specs.Tree as tree
use Rattle.gen_tree.specs.Tree.{Lit, Stmts, select}
use Rattle.elab_core.specs.declared.Count.TheVariants.{Statements}
use Rattle.elab_core.specs.Walk.{Gives, Counted, Fault, Seen, and_then, judge}
use Rattle.elab_core.specs.Elaborated.{added}
use Rattle.elab_core.specs.Elab.{expr, literals, statement, statements, arm_bodies, else_body}
use Rattle.design_core.specs.declared.Literal.{Literal}
use Rattle.design_core.specs.Design as design
use Rattle.design_core.specs.Design.{Gens, Expr, Case, Body, Done, Else, arms_from}
use Rattle.elab_base.proofs.Steps.{counted, refused, ends, then_assoc}
use Rattle.elab_body.specs.Body.{tested, one_arm, cases, selected}

abbrev Made : Type 0
Made = List (List Literal × Body)

pub arm_fault_1 : (line : ℕ) (tests : List Lit) (body : Stmts) (gens : Gens) (seen : Seen) (x : Fault) → judge seen (literals line gens tests []) ≡ Err x → judge seen (one_arm line tests body gens) ≡ Err x
unfolding one_arm
arm_fault_1 line tests body gens seen x e1 = refused _ _ _ _ e1

pub arm_fault_2 : (line : ℕ) (tests : List Lit) (body : Stmts) (gens : Gens) (ls : List Literal) (seen s1 : Seen) (x : Fault) → judge seen (literals line gens tests []) ≡ Ok (ls, s1) → judge s1 (statements body gens Done) ≡ Err x
    → judge seen (one_arm line tests body gens) ≡ Err x
unfolding one_arm
arm_fault_2 line tests body gens ls seen s1 x e1 e2 = counted _ _ _ _ _ _ e1 (refused _ _ _ _ e2)

pub arm_done : (line : ℕ) (tests : List Lit) (body : Stmts) (gens : Gens) (ls : List Literal) (b : Body) (seen s1 s2 : Seen) → judge seen (literals line gens tests []) ≡ Ok (ls, s1) → judge s1 (statements body gens Done) ≡ Ok (b, s2)
    → judge seen (one_arm line tests body gens) ≡ Ok ((ls, b), s2)
unfolding one_arm
arm_done line tests body gens ls b seen s1 s2 e1 e2 = counted _ _ _ _ _ _ e1 (counted _ _ _ _ _ _ e2 (ends _ _))

pub ruleset arm_case_steps = (arm_fault_1, arm_fault_2, arm_done)

pub cases_fault_1 : (line : ℕ) (all : tree.Arms) (other : tree.Else) (gens : Gens) (seen : Seen) (x : Fault) → judge seen (arm_bodies line all gens []) ≡ Err x → judge seen (cases line all other gens) ≡ Err x
unfolding cases
cases_fault_1 line all other gens seen x e1 = refused _ _ _ _ e1

pub cases_fault_2 : (line : ℕ) (all : tree.Arms) (other : tree.Else) (gens : Gens) (made : List (List Literal × Body)) (seen s1 : Seen) (x : Fault) → judge seen (arm_bodies line all gens []) ≡ Ok (made, s1) → judge s1 (else_body other gens) ≡ Err x
    → judge seen (cases line all other gens) ≡ Err x
unfolding cases
cases_fault_2 line all other gens made seen s1 x e1 e2 = counted _ _ _ _ _ _ e1 (refused _ _ _ _ e2)

pub cases_done : (line : ℕ) (all : tree.Arms) (other : tree.Else) (gens : Gens) (made : List (List Literal × Body)) (last : Else) (seen s1 s2 : Seen) → judge seen (arm_bodies line all gens []) ≡ Ok (made, s1) → judge s1 (else_body other gens) ≡ Ok (last, s2)
    → judge seen (cases line all other gens) ≡ Ok ((made, last), s2)
unfolding cases
cases_done line all other gens made last seen s1 s2 e1 e2 = counted _ _ _ _ _ _ e1 (counted _ _ _ _ _ _ e2 (ends _ _))

pub ruleset cases_steps = (cases_fault_1, cases_fault_2, cases_done)

pub selected_fault_1 : (line : ℕ) (gens : Gens) (v : tree.Expr) (all : tree.Arms) (other : tree.Else) (seen : Seen) (x : Fault) → judge seen (tested line gens v) ≡ Err x → judge seen (selected line gens v all other) ≡ Err x
unfolding selected
selected_fault_1 line gens v all other seen x e1 = refused _ _ _ _ e1

pub selected_fault_2 : (line : ℕ) (gens : Gens) (v : tree.Expr) (all : tree.Arms) (other : tree.Else) (value : Expr) (seen s1 : Seen) (x : Fault) → judge seen (tested line gens v) ≡ Ok (value, s1) → judge s1 (cases line all other gens) ≡ Err x
    → judge seen (selected line gens v all other) ≡ Err x
unfolding selected
selected_fault_2 line gens v all other value seen s1 x e1 e2 = counted _ _ _ _ _ _ e1 (refused _ _ _ _ e2)

pub selected_done : (line : ℕ) (gens : Gens) (v : tree.Expr) (all : tree.Arms) (other : tree.Else) (value : Expr) (made : List (List Literal × Body)) (last : Else) (seen s1 s2 : Seen) → judge seen (tested line gens v) ≡ Ok (value, s1)
    → judge s1 (cases line all other gens) ≡ Ok ((made, last), s2) → judge seen (selected line gens v all other) ≡ Ok (Case 0 line gens value (arms_from made) last, s2)
unfolding selected
selected_done line gens v all other value made last seen s1 s2 e1 e2 = counted _ _ _ _ _ _ e1 (counted _ _ _ _ _ _ e2 (ends _ _))

pub ruleset selected_steps = (selected_fault_1, selected_fault_2, selected_done)

statement_select : (line : ℕ) (v : tree.Expr) (all : tree.Arms) (other : tree.Else) (gens : Gens) (made : Body) → statement (select line v all other) gens made ≡ and_then (selected line gens v all other) (λ s. Gives (added made s))
unfolding statement selected tested cases and_then
statement_select line v all other gens made = ap (Counted Statements line) (sym (
    then_assoc (expr line gens v) (λ value. and_then (cases line all other gens) (λ p. Gives (Case 0 line gens value (arms_from p.0) p.1))) (λ s. Gives (added made s))
    ∙ (λ i. and_then (expr line gens v) (λ value. (
    then_assoc {A = Made × Else} (cases line all other gens) (λ p. Gives (Case 0 line gens value (arms_from p.0) p.1)) (λ s. Gives (added made s))
    ∙ then_assoc {B = Made × Else} (arm_bodies line all gens []) (λ m. and_then (else_body other gens) (λ n. Gives (m, n))) (λ p. Gives (added made (Case 0 line gens value (arms_from p.0) p.1)))
    ∙ (λ j. and_then (arm_bodies line all gens []) (λ m. then_assoc {B = Made × Else} (else_body other gens) (λ n. Gives (m, n)) (λ p. Gives (added made (Case 0 line gens value (arms_from p.0) p.1))) j))) i))))

pub select_fault_1 : (line : ℕ) (gens : Gens) (made : Body) (v : tree.Expr) (all : tree.Arms) (other : tree.Else) (seen : Seen) (x : Fault) → judge seen (selected line gens v all other) ≡ Err x
    → judge seen (statement (select line v all other) gens made) ≡ Err x
select_fault_1 line gens made v all other seen x e1 = ap (judge seen) (statement_select line v all other gens made) ∙ refused _ _ _ _ e1

pub select_done : (line : ℕ) (gens : Gens) (made : Body) (v : tree.Expr) (all : tree.Arms) (other : tree.Else) (s : design.Stmt) (seen s1 : Seen) → judge seen (selected line gens v all other) ≡ Ok (s, s1)
    → judge seen (statement (select line v all other) gens made) ≡ Ok (added made s, s1)
select_done line gens made v all other s seen s1 e1 = ap (judge seen) (statement_select line v all other gens made) ∙ counted _ _ _ _ _ _ e1 (ends _ _)
