-- Versions of names in a map.
use Rattle.std.proofs.Common.{◌≡◌, ℕ, Bool, true, false, bytes_eq, List, Option, Some, if◌then◌else◌, refl, ap, ◌∙◌}
use Rattle.exec_core.specs.Block.{Name}
use Rattle.names.specs.Maps.{value_of, put_value}
use Rattle.dep_order.specs.Blocks.{flat, version_of, put_version}

flat_if : (b : Bool) (v : Option ℕ) (o : Option (Option ℕ)) → flat (if b then Some v else o) ≡ (if b then v else flat o)
flat_if true v o = refl
flat_if false v o = refl

pub version_put : (entries after : List (Name × Option ℕ)) (x : Name) (v : Option ℕ) → value_of after ≡ put_value x v (value_of entries) → version_of after ≡ put_version x v (version_of entries)
version_put entries after x v e = ap {B = Name → Option ℕ} (λ f y. flat (f y)) e ∙ (λ i y. flat_if (bytes_eq y x) v (value_of entries y) i)
