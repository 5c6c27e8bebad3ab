-- A variant that an instance of an accepted design has is refused nowhere.
use Rattle.std.proofs.Common.{ℕ}
use Rattle.design_core.specs.declared.design.Instance.{Instance}
use Rattle.design_core.specs.Design.{Variant, Design}
use Rattle.check_exec.specs.Premises.{IsSound}
use Rattle.check_exec.proofs.Facts.{in_index}
use Rattle.check_exec.proofs.Instances.{Stands, IsClean, clean}
use Rattle.check_laws.specs.Kinds.{IsUsed}

pub record IsPlaced (d : Design) (v : Variant) : Type 0 where
  pub number : ℕ
  pub instance : Instance
  pub stands : Stands d number instance v

pub placed : (d : Design) (v : Variant) → IsUsed d v → IsPlaced d v
placed d v u =
    let at = in_index d.instances u.instance u.among in
    record { number = at.0; instance = u.instance; stands = record { instance = at.1; variant = u.variant } }

pub used_clean : (d : Design) → IsSound d → (v : Variant) → IsUsed d v → IsClean d.variants v
used_clean d sound v u = let p = placed d v u in clean d sound.accepted p.number p.instance v p.stands
