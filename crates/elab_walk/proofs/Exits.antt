-- The exit of a `?` of a call that counts nothing.
use Rattle.std.proofs.Common.{◌≡◌, true, Result, Err, sym, subst}
use Rattle.elab_core.specs.declared.ElabFault.{ElabFault}
use Rattle.elab_core.specs.Walk.{Walk, Faulty}
use Rattle.elab_core.specs.Results.{is_fault, fault_of, AnswersWith}

pub exit_answers : {X Y : Type 0} (view : X → Y) (result : Result X ElabFault) (w : Walk Y) (e : ElabFault) → result ≡ Err e → (is_fault e ≡ true → w ≡ Faulty (fault_of e)) → AnswersWith view result w
exit_answers view result w e p h = subst (λ r. AnswersWith view r w) (sym p) h
