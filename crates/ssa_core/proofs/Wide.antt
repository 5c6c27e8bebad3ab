-- The widths of the names of a process: those at its statements, in an accepted design.
use Rattle.std.proofs.Common.{◌≡◌, ℕ, ◌≤◌, true, ◌||◌, List, [], map, Option, Some, None, option_map, unwrap_or, refl, sym, ap, ◌∙◌, subst, eqb-true}
use Rattle.std.specs.Prelude.{slice_get, ◌==◌}
use Rattle.std.proofs.lemmas.Option.{none-some, slice_get_within}
use Rattle.list_core.specs.Lists.{EachOf, IsIn}
use Rattle.list_core.proofs.Lists.{each_member}
use Rattle.exec_core.specs.Block.{Name, own}
use Rattle.exec_core.specs.Design.{Process, signals_of, width_in}
use Rattle.exec_core.specs.Paths.{Checked}
use Rattle.exec_core.specs.WholeNames.{SamePartWidths}
use Rattle.design_core.specs.declared.design.Instance.{Instance}
use Rattle.design_core.specs.Design.{Block, Variant, Design}
use Rattle.design_exec.specs.Processes.{body_of, body_widths, process, processes_at, processes_of, instances_of, signal_width}
use Rattle.check_core.specs.Paths.{declared_width}
use Rattle.check_exec.specs.Premises.{IsSound}
use Rattle.check_exec.proofs.Checks.{blocks_are_checked, widths_are}
use Rattle.check_exec.proofs.Facts.{any_in, in_at, in_index}
use Rattle.check_exec.proofs.Instances.{Stands, clean, each_process}
use Rattle.block_net.specs.Blocks.{BlockParts, Tells}
use Rattle.block_net.proofs.Widths.{tells_as}
use Rattle.list_core.proofs.Listing.{map_in, flat_in, at_number}
use Rattle.ssa_core.specs.Processes.{HasTerms, HaveTerms, TellVariants}
use Rattle.ssa_core.proofs.PartNames.{same_widths}
use Rattle.ssa_core.proofs.Telling.{blocks_among, signals_among, variant_at}

-- the widths that a process gives to names are those at its statements
pub let_widths : (d : Design) → IsSound d → EachOf (λ b. width_in (processes_of d) b ≡ b.let_width) (processes_of d).processes
let_widths d sound = each_process d (λ b. width_in (processes_of d) b ≡ b.let_width) (λ i r v b s at. widths_are d sound i r v b s (clean d sound.accepted i r v s) at)

pub width_of_process : (d : Design) → IsSound d → (b : Process) → IsIn b (processes_of d).processes → width_in (processes_of d) b ≡ b.let_width
width_of_process d sound b at = each_member (λ b. width_in (processes_of d) b ≡ b.let_width) (processes_of d).processes (let_widths d sound) b at

-- and each own name has some bit
pub own_bits : (d : Design) → IsSound d → (b : Process) → IsIn b (processes_of d).processes → (x : Name) → own b.body x ≡ true → 1 ≤ width_in (processes_of d) b x
own_bits d sound b at x e =
    ((each_member (λ c. Checked (signals_of (processes_of d) c) (width_in (processes_of d) c) c.body) (processes_of d).processes (blocks_are_checked d sound) b at).names x (ap (λ o. o || signals_of (processes_of d) b x) e)).0

process_among : (d : Design) (i : ℕ) (r : Instance) (v : Variant) → Stands d i r v → (b : Block) → IsIn b v.blocks → IsIn (process i v.signals b) (processes_of d).processes
process_among d i r v stands b among =
    flat_in (processes_at d) (instances_of d) (i, r) (process i v.signals b) (at_number d.instances i r stands.instance)
    (subst (λ l. IsIn (process i v.signals b) l)
    (sym (ap (λ o. map (process i (unwrap_or (option_map (λ (w : Variant). w.signals) o) [])) (unwrap_or (option_map (λ (w : Variant). w.blocks) o) [])) stands.variant))
    (map_in (process i v.signals) v.blocks b among))

-- a variant of an accepted design has an instance, so its blocks have terms that tell of them by the widths at their statements
same_let_widths : (d : Design) → IsSound d → (k : ℕ) (v : Variant) → slice_get d.variants k ≡ Some v → (b : Block) → IsIn b v.blocks
    → SamePartWidths (declared_width v.signals) (body_widths b.body (signal_width v.signals)) (body_of b.clocked b.body)
same_let_widths d sound k v at b among =
    let found = any_in (λ (r : Instance). r.variant == k) d.instances (sound.kept.instances k (slice_get_within d.variants k v at)) in
    let there = in_index d.instances found.0 found.1.0 in
    let stands : Stands d there.0 found.0 v = record { instance = there.1; variant = ap (slice_get d.variants) (eqb-true found.0.variant k found.1.1) ∙ at } in
    subst (λ w. SamePartWidths (declared_width v.signals) w (body_of b.clocked b.body)) (widths_are d sound there.0 found.0 v b stands (clean d sound.accepted there.0 found.0 v stands) among)
    (same_widths d sound there.0 found.0 v stands b among (process_among d there.0 found.0 v stands b among))

pub all_have : (d : Design) (ts : List (List BlockParts)) → IsSound d → TellVariants ts d.variants → HaveTerms d ts
all_have d ts sound h = record { each = λ v b block e. by_variant v b block (slice_get d.variants v) refl e }
  where
    by_variant : (v b : ℕ) (block : Block) (o : Option Variant) → slice_get d.variants v ≡ o → slice_get (blocks_among d.variants v) b ≡ Some block → HasTerms d ts v b block
    by_variant v b block None at e = absurd (none-some block (ap (λ p. slice_get (unwrap_or (option_map (λ (w : Variant). w.blocks) p) []) b) (sym at) ∙ e))
    by_variant v b block (Some w) at e =
        let x = variant_at ts d.variants v b block h e in
        let among : IsIn block w.blocks = in_at w.blocks b block (ap (λ p. slice_get (unwrap_or (option_map (λ (u : Variant). u.blocks) p) []) b) (sym at) ∙ e) in
        let signals : signals_among d.variants v ≡ w.signals = ap (λ p. unwrap_or (option_map (λ (u : Variant). u.signals) p) []) at in
        record {
          parts = x.parts;
          found = x.found;
          tells = subst (λ l. Tells x.parts (body_widths block.body (signal_width l)) (body_of block.clocked block.body)) (sym signals)
              (tells_as x.parts (declared_width w.signals) (body_widths block.body (signal_width w.signals)) (body_of block.clocked block.body) (same_let_widths d sound v w at block among)
              (subst (λ l. Tells x.parts (declared_width l) (body_of block.clocked block.body)) signals x.tells));
        }
