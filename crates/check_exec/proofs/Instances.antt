-- What is refused nowhere, instance by instance.
use Rattle.std.proofs.Common.{◌≡◌, ℕ, List, [], map, Option, Some, None, option_map, unwrap_or, refl, sym, ap, ◌∙◌, subst}
use Rattle.std.specs.Prelude.{slice_get}
use Rattle.std.specs.List.{flat_map}
use Rattle.list_core.specs.Lists.{EachOf, IsIn}
use Rattle.exec_core.specs.Design.{Process}
use Rattle.design_core.specs.declared.design.Instance.{Instance}
use Rattle.design_core.specs.Design.{Variant, Block, Design}
use Rattle.design_exec.specs.Processes.{Numbered, processes_of, processes_at, process, instances_of, signals_in, instance_signals}
use Rattle.check_core.specs.declared.fault.Refusal.{Refusal}
use Rattle.check_core.specs.declared.fault.Refusal.TheVariants as refusal
use Rattle.check_core.specs.Faults.{fault_in}
use Rattle.check_core.specs.Names.{unknown_name, duplicate_name}
use Rattle.check_core.specs.Ports.{unknown_port, unbound_input}
use Rattle.check_core.specs.Widths.{bad_width, width_mismatch}
use Rattle.check_core.specs.Drivers.{two_drivers, undriven}
use Rattle.check_core.specs.Paths.{latch, read_before_write}
use Rattle.check_core.specs.Verdict.{refused, refused_variant, refused_at, refused_by, in_order, verdict}
use Rattle.list_core.proofs.Lists.{each_member}
use Rattle.check_exec.proofs.Facts.{each_at, each_map, each_flat, from_zero, none_found, map_none}

-- a variant that nothing refuses
pub record IsClean (variants : List Variant) (v : Variant) : Type 0 where
  pub known : unknown_name v ≡ None
  pub apart : duplicate_name v ≡ None
  pub sized : bad_width v ≡ None
  pub ports : unknown_port variants v ≡ None
  pub bound : unbound_input variants v ≡ None
  pub widths : width_mismatch variants v ≡ None
  pub one_driver : two_drivers v ≡ None
  pub driven : undriven v ≡ None
  pub no_latch : latch v ≡ None
  pub written : read_before_write v ≡ None

-- an instance and its variant
pub record Stands (d : Design) (i : ℕ) (r : Instance) (v : Variant) : Type 0 where
  pub instance : slice_get d.instances i ≡ Some r
  pub variant : slice_get d.variants r.variant ≡ Some v

not_refused : (d : Design) (i : ℕ) (r : Instance) (v : Variant) → Stands d i r v → (why : Refusal) → refused_by d why ≡ None → refused why d.variants v ≡ None
not_refused d i r v s why e =
    sym (ap (refused_variant why d.variants) s.variant)
    ∙ map_none (fault_in r.path) (refused_variant why d.variants (slice_get d.variants r.variant))
    (each_at (λ q. refused_at why d q ≡ None) d.instances i r s.instance (none_found (refused_at why d) d.instances e))

pub clean : (d : Design) → verdict d ≡ None → (i : ℕ) (r : Instance) (v : Variant) → Stands d i r v → IsClean d.variants v
clean d e i r v s =
    let all : EachOf (λ why. refused_by d why ≡ None) in_order = none_found (refused_by d) in_order e in
    let by : (why : Refusal) → refused_by d why ≡ None → refused why d.variants v ≡ None = not_refused d i r v s in
    record {
      known = by refusal.UnknownName all.0;
      apart = by refusal.DuplicateName all.1.0;
      sized = by refusal.BadWidth all.1.1.0;
      ports = by refusal.UnknownPort all.1.1.1.0;
      bound = by refusal.UnboundInput all.1.1.1.1.0;
      widths = by refusal.WidthMismatch all.1.1.1.1.1.0;
      one_driver = by refusal.TwoDrivers all.1.1.1.1.1.1.0;
      driven = by refusal.Undriven all.1.1.1.1.1.1.1.0;
      no_latch = by refusal.Latch all.1.1.1.1.1.1.1.1.0;
      written = by refusal.ReadBeforeWrite all.1.1.1.1.1.1.1.1.1.0;
    }

-- ---- what each instance has

pub signals_are : (d : Design) (i : ℕ) (r : Instance) (v : Variant) → Stands d i r v → instance_signals d i ≡ v.signals
signals_are d i r v s =
    ap (λ o. unwrap_or (option_map (λ (q : Instance). signals_in d q.variant) o) []) s.instance
    ∙ ap (λ o. unwrap_or (option_map (λ (w : Variant). w.signals) o) []) s.variant

-- lists of an instance, one after another, where an instance without a variant has none
pub each_instance : {A : Type 0} (P : A → Type 0) (d : Design) (f : Numbered → List A) → ((i : ℕ) (r : Instance) → slice_get d.variants r.variant ≡ None → EachOf P (f (i, r)))
    → ((i : ℕ) (r : Instance) (v : Variant) → Stands d i r v → EachOf P (f (i, r))) → EachOf P (flat_map f (instances_of d))
each_instance P d f none some =
    each_flat P f (instances_of d)
    (λ a h. each_member (λ (b : Numbered). EachOf P (f b)) (instances_of d)
    (from_zero (λ b. EachOf P (f b)) d.instances (λ i r at. by_variant i r at (slice_get d.variants r.variant) refl)) a h)
  where
    by_variant : (i : ℕ) (r : Instance) → slice_get d.instances i ≡ Some r → (o : Option Variant) → slice_get d.variants r.variant ≡ o → EachOf P (f (i, r))
    by_variant i r at (Some v) e = some i r v (record { instance = at; variant = e })
    by_variant i r at None e = none i r e

pub each_process : (d : Design) (P : Process → Type 0) → ((i : ℕ) (r : Instance) (v : Variant) (b : Block) → Stands d i r v → IsIn b v.blocks → P (process i v.signals b))
    → EachOf P (processes_of d).processes
each_process d P h =
    each_instance P d (processes_at d)
    (λ i r e. subst (EachOf P) (sym (blocks_none i r e)) tt)
    (λ i r v s. subst (EachOf P) (sym (blocks_are i r v s)) (each_map P (process i v.signals) v.blocks (λ b at. h i r v b s at)))
  where
    blocks_none : (i : ℕ) (r : Instance) → slice_get d.variants r.variant ≡ None → processes_at d (i, r) ≡ []
    blocks_none i r e = ap (λ o. map (process i (signals_in d r.variant)) (unwrap_or (option_map (λ (w : Variant). w.blocks) o) [])) e

    blocks_are : (i : ℕ) (r : Instance) (v : Variant) → Stands d i r v → processes_at d (i, r) ≡ map (process i v.signals) v.blocks
    blocks_are i r v s =
        ap (λ o. map (process i (unwrap_or (option_map (λ (w : Variant). w.signals) o) [])) (unwrap_or (option_map (λ (w : Variant). w.blocks) o) [])) s.variant
