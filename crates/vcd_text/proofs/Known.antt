-- The codes that were declared, by the numbers of their variables.
use Rattle.std.proofs.Common.{◌≡◌, ℕ, zero, suc, ◌+◌, ◌≤◌, cond, List, [], ◌∷◌, ◌++◌, length, Some, None, refl, ap, ap₂, ◌∙◌, arith}
use Rattle.std.specs.Prelude.{slice_get}
use Rattle.std.proofs.lemmas.Option.{none-some, same_Some}
use Rattle.vcd_read.specs.Head.{Code, Var, known_from, known}
use Rattle.vcd_text.specs.Dump.{Variable, code_text}
use Rattle.vcd_text.specs.Told.{told_var, told_vars}
use Rattle.vcd_text.proofs.Codes.{other_code, same_code}

-- the codes of variables, numbered from this number on
abbrev pub codes_from : ℕ → List Variable → List Code
codes_from number [] = []
codes_from number (var ∷ vars) = (code_text number, var.size) ∷ codes_from (number + 1) vars

pub codes_more : (number : ℕ) (vars : List Variable) (var : Variable) → codes_from number (vars ++ var ∷ []) ≡ codes_from number vars ++ (code_text (number + length vars), var.size) ∷ []
codes_more number [] var = ap (λ n. (code_text n, var.size) ∷ []) (let e : number ≡ number + 0 = omega arith in e)
codes_more number (v ∷ vars) var =
    ap (λ (l : List Code). (code_text number, v.size) ∷ l)
    (codes_more (number + 1) vars var ∙ ap (λ n. codes_from (number + 1) vars ++ (code_text n, var.size) ∷ []) (let e : number + 1 + length vars ≡ number + suc (length vars) = omega arith in e))

pub vars_more : (scope : List ℕ) (number : ℕ) (vars : List Variable) (var : Variable) → told_vars scope number (vars ++ var ∷ []) ≡ told_vars scope number vars ++ told_var scope (number + length vars) var ∷ []
vars_more scope number [] var = ap (λ n. told_var scope n var ∷ []) (let e : number ≡ number + 0 = omega arith in e)
vars_more scope number (v ∷ vars) var =
    ap (λ (l : List Var). told_var scope number v ∷ l)
    (vars_more scope (number + 1) vars var ∙ ap (λ n. told_vars scope (number + 1) vars ++ told_var scope n var ∷ []) (let e : number + 1 + length vars ≡ number + suc (length vars) = omega arith in e))

pub codes_count : (number : ℕ) (vars : List Variable) → length (codes_from number vars) ≡ length vars
codes_count number [] = refl
codes_count number (var ∷ vars) = ap suc (codes_count (number + 1) vars)

-- a number beyond them has a code that is not known
not_from : (place number n : ℕ) (vars : List Variable) → number + length vars ≤ n → known_from place (code_text n) (codes_from number vars) ≡ None
not_from place number n [] l = refl
not_from place number n (var ∷ vars) l =
    let other : n ≡ number → ⊥ = λ e. absurd (omega arith) in
    ap (λ b. cond b (Some (place, var.size)) (known_from (place + 1) (code_text n) (codes_from (number + 1) vars))) (other_code n number other)
    ∙ not_from (place + 1) (number + 1) n vars (omega arith)

pub not_known : (vars : List Variable) → known (code_text (length vars)) (codes_from 0 vars) ≡ None
not_known vars = not_from 0 0 (length vars) vars (omega arith)

at_from : (place number i : ℕ) (vars : List Variable) (var : Variable) → slice_get vars i ≡ Some var
    → known_from place (code_text (number + i)) (codes_from number vars) ≡ Some (place + i, var.size)
at_from place number i [] var e = absurd (none-some var e)
at_from place number zero (v ∷ vars) var e =
    ap (λ n. known_from place (code_text n) (codes_from number (v ∷ vars))) (let z : number + 0 ≡ number = omega arith in z)
    ∙ ap (λ b. cond b (Some (place, v.size)) (known_from (place + 1) (code_text number) (codes_from (number + 1) vars))) (same_code number)
    ∙ ap₂ (λ (n : ℕ) (x : Variable). Some (n, x.size)) (let z : place ≡ place + 0 = omega arith in z) (same_Some v var e)
at_from place number (suc i) (v ∷ vars) var e =
    let other : number + suc i ≡ number → ⊥ = λ z. absurd (omega arith) in
    ap (λ b. cond b (Some (place, v.size)) (known_from (place + 1) (code_text (number + suc i)) (codes_from (number + 1) vars))) (other_code (number + suc i) number other)
    ∙ ap (λ n. known_from (place + 1) (code_text n) (codes_from (number + 1) vars)) (let z : number + suc i ≡ number + 1 + i = omega arith in z)
    ∙ at_from (place + 1) (number + 1) i vars var e
    ∙ ap (λ n. Some (n, var.size)) (let z : place + 1 + i ≡ place + suc i = omega arith in z)

-- the code of a variable's number tells the number and the size
pub is_known : (i : ℕ) (vars : List Variable) (var : Variable) → slice_get vars i ≡ Some var → known (code_text i) (codes_from 0 vars) ≡ Some (i, var.size)
is_known i vars var e =
    ap (λ n. known (code_text n) (codes_from 0 vars)) (let z : i ≡ 0 + i = omega arith in z)
    ∙ at_from 0 0 i vars var e
    ∙ ap (λ n. Some (n, var.size)) (let z : 0 + i ≡ i = omega arith in z)
