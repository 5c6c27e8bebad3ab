-- When a value changed from the cycle before.
use Rattle.std.proofs.Common.{◌≡◌, ℕ, zero, suc, ◌-◌, false, Option, Some, None, refl, ap, arith}
use Rattle.bv_core.specs.Value.{Bits}
use Rattle.symtab.specs.declared.parts.TableParts.{TableParts}
use Rattle.trace_core.specs.Samples.{Samples}
use Rattle.machine_core.specs.Matching.{differ}
use Rattle.site_core.specs.declared.trap.Trap.{Trap}
use Rattle.watch.specs.Changing.{seen_by, trap_changes}

-- behind the first cycle there is one before
pub changes_at : (parts : TableParts) (s : Samples) (cycle : ℕ) (t : Trap) → (cycle ≡ 0 → ⊥)
    → trap_changes parts s cycle t ≡ differ (seen_by parts (s.sample (cycle - 1)) t) (seen_by parts (s.sample cycle) t)
changes_at parts s zero t h = absurd (h refl)
changes_at parts s (suc before) t h =
    let e : before ≡ suc before - 1 = omega arith in ap (λ (b : ℕ). differ (seen_by parts (s.sample b) t) (seen_by parts (s.sample (suc before)) t)) e

-- what is not known did not change
pub differ_none : (o : Option Bits) → differ o None ≡ false
differ_none None = refl
differ_none (Some b) = refl
