-- Unknown names among statements, one after another.
use Rattle.std.proofs.Common.{◌≡◌, ℕ, ◌+◌, ◌<◌, ◌≤◌, List, length, drop, get_or, Option, Some, None, sym, ap, ◌∙◌, Bor}
use Rattle.std.proofs.lemmas.List.{drop_more}
use Rattle.std.proofs.Math.ListN.{drop_of_length-le}
use Rattle.design_core.specs.declared.statement.Stmt as code_stmt
use Rattle.check_core.specs.declared.fault.CheckFault.{CheckFault}
use Rattle.names.specs.Known.{Known}
use Rattle.design_core.specs.Statements.{stmt_at, stmts_at}
use Rattle.check_core.specs.Faults.{earlier}
use Rattle.check_core.specs.Names.{Scope, lets_after, unknown_in, unknown_among}

split : (scope : Scope) (assigned lets : Known) (all : List (Bor code_stmt.Stmt)) (i : ℕ) (s : Bor code_stmt.Stmt) → i < length all → s ≡ get_or all i s
    → unknown_among scope assigned lets (stmts_at (drop i all)) ≡ earlier (unknown_in scope assigned lets (stmt_at s)) (unknown_among scope assigned (lets_after lets (stmt_at s)) (stmts_at (drop (i + 1) all)))
split scope assigned lets all i s inside at =
    ap (λ (l : List (Bor code_stmt.Stmt)). unknown_among scope assigned lets (stmts_at l)) (drop_more all i s inside)
    ∙ ap (λ (t : Bor code_stmt.Stmt). earlier (unknown_in scope assigned lets (stmt_at t)) (unknown_among scope assigned (lets_after lets (stmt_at t)) (stmts_at (drop (i + 1) all)))) (sym at)

pub among_next : (scope : Scope) (assigned lets now : Known) (all : List (Bor code_stmt.Stmt)) (i : ℕ) (s : Bor code_stmt.Stmt) → i < length all → s ≡ get_or all i s
    → unknown_in scope assigned lets (stmt_at s) ≡ None → now ≡ lets_after lets (stmt_at s)
    → unknown_among scope assigned now (stmts_at (drop (i + 1) all)) ≡ unknown_among scope assigned lets (stmts_at (drop i all))
among_next scope assigned lets now all i s inside at none is =
    ap (λ (k : Known). unknown_among scope assigned k (stmts_at (drop (i + 1) all))) is
    ∙ sym (split scope assigned lets all i s inside at ∙ ap (λ (o : Option CheckFault). earlier o (unknown_among scope assigned (lets_after lets (stmt_at s)) (stmts_at (drop (i + 1) all)))) none)

pub among_at : (scope : Scope) (assigned lets : Known) (all : List (Bor code_stmt.Stmt)) (i : ℕ) (s : Bor code_stmt.Stmt) (fault : CheckFault) → i < length all → s ≡ get_or all i s
    → unknown_in scope assigned lets (stmt_at s) ≡ Some fault → unknown_among scope assigned lets (stmts_at (drop i all)) ≡ Some fault
among_at scope assigned lets all i s fault inside at some =
    split scope assigned lets all i s inside at ∙ ap (λ (o : Option CheckFault). earlier o (unknown_among scope assigned (lets_after lets (stmt_at s)) (stmts_at (drop (i + 1) all)))) some

pub among_end : (scope : Scope) (assigned lets : Known) (all : List (Bor code_stmt.Stmt)) (i : ℕ) → length all ≤ i → unknown_among scope assigned lets (stmts_at (drop i all)) ≡ None
among_end scope assigned lets all i past = ap (λ (l : List (Bor code_stmt.Stmt)). unknown_among scope assigned lets (stmts_at l)) (drop_of_length-le all past)

pub ruleset among_steps = (among_next, among_at, among_end)
