-- The exit of a `?`.
use Rattle.std.proofs.Common.{◌≡◌, true, Result, Err, sym, subst}
use Rattle.elab_core.specs.declared.ElabFault.{ElabFault}
use Rattle.elab_core.specs.Walk.{Seen, Fault}
use Rattle.elab_core.specs.Results.{is_fault, fault_of, Judged}

pub exit_judged : {X Y : Type 0} (view : X → Y) (seen : Seen) (result : Result X ElabFault) (j : Result (Y × Seen) Fault) (e : ElabFault) → result ≡ Err e → (is_fault e ≡ true → j ≡ Err (fault_of e)) → Judged view result seen j
exit_judged view seen result j e p h = subst (λ r. Judged view r seen j) (sym p) h
