-- What was found on a line is what a breakpoint is armed for there; or why none is.
use Rattle.std.proofs.Common.{◌≡◌, ℕ, Result, Ok, Err, sym, ap, subst}
use Rattle.machine_core.specs.declared.reply.Body.{Body}
use Rattle.machine_core.specs.Arming as machine
use Rattle.machine_core.specs.Arming.{◌>>=◌, breakpoint_at}
use Rattle.site_core.specs.declared.site.Sited.{Sited}
use Rattle.site_core.specs.declared.fault.SiteFault.{SiteFault}
use Rattle.site_core.specs.Sites.{site_answer, sited_of, IsRefusal}
use Rattle.site_core.proofs.Sites.{refused_first}
use Rattle.slot_sched.specs.declared.fault.ArmFault.{ArmFault}
use Rattle.slot_sched.specs.declared.fault.ArmFault.TheVariants as fault
use Rattle.slot_sched.specs.Arm.{IsFor}

module _ (armed next : ℕ) (x : Result machine.Sited Body) where
  pub found_for : (u : Sited) → x ≡ Ok (sited_of u) → IsFor armed next (Ok u) (x >>= breakpoint_at armed next)
  found_for u h = ap (λ y. y >>= breakpoint_at armed next) h

  pub refused_for : (r : Result Sited ArmFault) (end : SiteFault) → r ≡ Err (fault.Site end) → IsRefusal (site_answer end) x → IsFor armed next r (x >>= breakpoint_at armed next)
  refused_for r end e h =
      subst (λ (s : Result Sited ArmFault). IsFor armed next s (x >>= breakpoint_at armed next)) (sym e)
      (refused_first (site_answer end) x (breakpoint_at armed next) h)
