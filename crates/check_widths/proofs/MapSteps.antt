-- Widths of names, one after another.
use Rattle.std.proofs.Common.{◌≡◌, ℕ, ◌+◌, ◌<◌, ◌≤◌, Bool, true, false, bytes_eq, ℤ, List, map, length, drop, get_or, if◌then◌else◌, Option, Some, None, option_map, Result, Ok, refl, sym, ap, ◌∙◌}
use Rattle.std.specs.Borrow.{Bor}
use Rattle.std.proofs.lemmas.List.{drop_more}
use Rattle.std.proofs.Math.ListN.{drop_of_length-le}
use Rattle.design_core.specs.declared.statement.Stmt as code_stmt
use Rattle.design_core.specs.declared.variant.Signal.{Signal}
use Rattle.design_core.specs.declared.variant.Kind.{Kind}
use Rattle.design_core.specs.Design.{Conn}
use Rattle.check_core.specs.declared.fault.CheckFault.{CheckFault}
use Rattle.check_core.specs.declared.fault.Clash.{Clash}
use Rattle.names.specs.Known.{Name}
use Rattle.names.specs.Maps.{value_of, put_value, no_value}
use Rattle.check_core.specs.Faults.{earlier, first_of}
use Rattle.design_core.specs.Statements.{stmt_at, stmts_at}
use Rattle.check_core.specs.Widths.{Widths, put_width, put_signal, put_signals, no_width, over, put_let, widths_after, stmt_mismatch, mismatch_among, conn_mismatch}
use Rattle.design_core.specs.Widths.{bits}
use Rattle.check_widths.specs.WidthMaps.{widths_at, widths_in}

pub widths_put : (old new : List (Name × ℤ)) (x : Name) (w : ℤ) → value_of new ≡ put_value x w (value_of old) → widths_at new ≡ put_width x (bits w) (widths_at old)
widths_put old new x w e = λ i y. (ap (λ (f : Name → Option ℤ). option_map bits (f y)) e ∙ by_test (bytes_eq y x) (value_of old y)) i
  where
    by_test : (b : Bool) (o : Option ℤ) → option_map bits (if b then Some w else o) ≡ (if b then Some (bits w) else option_map bits o)
    by_test true o = refl
    by_test false o = refl

pub widths_none : (map : List (Name × ℤ)) → value_of map ≡ no_value → widths_at map ≡ no_width
widths_none map e = λ i y. ap (λ (f : Name → Option ℤ). option_map bits (f y)) e i

pub lets_none : (lets signals : List (Name × ℤ)) → value_of lets ≡ no_value → widths_in lets signals ≡ widths_at signals
lets_none lets signals e = ap (λ (w : Widths). over w (widths_at signals)) (widths_none lets e)

pub signals_next : (kinds : Kind → Bool) (signals : List Signal) (i : ℕ) (s : Signal) (old new : Widths) → i < length signals → s ≡ get_or signals i s → new ≡ put_signal kinds s old
    → put_signals kinds (drop (i + 1) signals) new ≡ put_signals kinds (drop i signals) old
signals_next kinds signals i s old new inside at is =
    ap (put_signals kinds (drop (i + 1) signals)) is
    ∙ ap (λ (t : Signal). put_signals kinds (drop (i + 1) signals) (put_signal kinds t old)) at
    ∙ ap (λ (l : List Signal). put_signals kinds l old) (sym (drop_more signals i s inside))

pub signals_end : (kinds : Kind → Bool) (signals : List Signal) (i : ℕ) (widths : Widths) → length signals ≤ i → put_signals kinds (drop i signals) widths ≡ widths
signals_end kinds signals i widths past = ap (λ (l : List Signal). put_signals kinds l widths) (drop_of_length-le signals past)

-- a let that is put in
pub let_put : (x : Name) (w : ℕ) (found : Result ℕ Clash) (old new signals : List (Name × ℤ)) → found ≡ Ok w → widths_at new ≡ put_width x w (widths_at old)
    → widths_in new signals ≡ put_let x found (widths_in old signals)
let_put x w found old new signals ok put =
    ap (λ (k : Widths). over k (widths_at signals)) put
    ∙ (λ i y. by_test (bytes_eq y x) (widths_at old y) (widths_at signals y) i)
    ∙ sym (ap (λ r. put_let x r (widths_in old signals)) ok)
  where
    by_test : (b : Bool) (o rest : Option ℕ) → earlier (if b then Some w else o) rest ≡ (if b then Some w else earlier o rest)
    by_test true o rest = refl
    by_test false o rest = refl

pub conns_as : (widths all ports here : Widths) (conns those : List Conn) → widths ≡ all → ports ≡ here → conns ≡ those → first_of (conn_mismatch widths ports) conns ≡ first_of (conn_mismatch all here) those
conns_as widths all ports here conns those e f g = λ i. first_of (conn_mismatch (e i) (f i)) (g i)

-- ---- statements

split : (widths : Widths) (all : List (Bor code_stmt.Stmt)) (i : ℕ) (s : Bor code_stmt.Stmt) → i < length all → s ≡ get_or all i s
    → mismatch_among widths (stmts_at (drop i all)) ≡ earlier (stmt_mismatch widths (stmt_at s)) (mismatch_among (widths_after widths (stmt_at s)) (stmts_at (drop (i + 1) all)))
split widths all i s inside at =
    ap (λ (l : List (Bor code_stmt.Stmt)). mismatch_among widths (stmts_at l)) (drop_more all i s inside)
    ∙ ap (λ (t : Bor code_stmt.Stmt). earlier (stmt_mismatch widths (stmt_at t)) (mismatch_among (widths_after widths (stmt_at t)) (stmts_at (drop (i + 1) all)))) (sym at)

pub among_next : (widths now : Widths) (all : List (Bor code_stmt.Stmt)) (i : ℕ) (s : Bor code_stmt.Stmt) → i < length all → s ≡ get_or all i s
    → stmt_mismatch widths (stmt_at s) ≡ None → now ≡ widths_after widths (stmt_at s)
    → mismatch_among now (stmts_at (drop (i + 1) all)) ≡ mismatch_among widths (stmts_at (drop i all))
among_next widths now all i s inside at none is =
    ap (λ (k : Widths). mismatch_among k (stmts_at (drop (i + 1) all))) is
    ∙ sym (split widths all i s inside at ∙ ap (λ (o : Option CheckFault). earlier o (mismatch_among (widths_after widths (stmt_at s)) (stmts_at (drop (i + 1) all)))) none)

pub among_at : (widths : Widths) (all : List (Bor code_stmt.Stmt)) (i : ℕ) (s : Bor code_stmt.Stmt) (fault : CheckFault) → i < length all → s ≡ get_or all i s
    → stmt_mismatch widths (stmt_at s) ≡ Some fault → mismatch_among widths (stmts_at (drop i all)) ≡ Some fault
among_at widths all i s fault inside at some =
    split widths all i s inside at ∙ ap (λ (o : Option CheckFault). earlier o (mismatch_among (widths_after widths (stmt_at s)) (stmts_at (drop (i + 1) all)))) some

pub among_end : (widths : Widths) (all : List (Bor code_stmt.Stmt)) (i : ℕ) → length all ≤ i → mismatch_among widths (stmts_at (drop i all)) ≡ None
among_end widths all i past = ap (λ (l : List (Bor code_stmt.Stmt)). mismatch_among widths (stmts_at l)) (drop_of_length-le all past)

pub ruleset among_steps = (among_next, among_at, among_end)
