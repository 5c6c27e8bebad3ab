-- The children of an instance, and their instances.
use Rattle.std.proofs.Common.{◌≡◌, ℕ, ◌<◌, [], Some, option_map, unwrap_or, sym, ap, ◌∙◌}
use Rattle.std.specs.Prelude.{slice_get}
use Rattle.list_core.proofs.Listing.{some_at}
use Rattle.design_core.specs.declared.design.Instance.{Instance}
use Rattle.design_core.specs.Design.{Child, Variant, Design}
use Rattle.design_core.specs.WellFormed.{IsDesign, signals_at}
use Rattle.design_exec.specs.Processes.{children_in, child_at}
use Rattle.design_exec.proofs.Standing.{children_stand}
use Rattle.check_exec.proofs.Instances.{Stands}

-- the instance of a child, with its variant
pub record HasInstance (d : Design) (i : ℕ) (k : ℕ) (c : Child) : Type 0 where
  pub number : ℕ
  pub is : child_at d i k ≡ Some number
  pub instance : Instance
  pub variant : Variant
  pub stands : Stands d number instance variant
  pub named : slice_get d.variants c.variant ≡ Some variant
  pub signals : signals_at c.variant d.variants ≡ variant.signals
  pub behind : i < number
  pub parent : instance.parent ≡ Some i

pub children_are : (d : Design) (i : ℕ) (r : Instance) (v : Variant) → Stands d i r v → children_in d r.variant ≡ v.children
children_are d i r v s = ap (λ o. unwrap_or (option_map (λ (w : Variant). w.children) o) []) s.variant

pub child_stands : (d : Design) → IsDesign d → (i : ℕ) (r : Instance) (v : Variant) → Stands d i r v → (k : ℕ) (c : Child) → slice_get v.children k ≡ Some c → HasInstance d i k c
child_stands d kept i r v s k c at =
    let has = children_stand d kept i r k c s.instance (ap (λ l. slice_get l k) (children_are d i r v s) ∙ at) in
    let variant = some_at d.variants has.instance.variant (kept.variants has.number has.instance has.stands) in
    let named : slice_get d.variants c.variant ≡ Some variant.0 = ap (slice_get d.variants) (sym (has.child).variant) ∙ variant.1 in
    record {
      number = has.number;
      is = has.is;
      instance = has.instance;
      variant = variant.0;
      stands = record { instance = has.stands; variant = variant.1 };
      named = named;
      signals = ap (λ o. unwrap_or (option_map (λ (w : Variant). w.signals) o) []) named;
      behind = (has.child).behind;
      parent = has.parent;
    }
