-- A name has no tree at a statement exactly where it is unset.
use Rattle.std.proofs.Common.{◌≡◌, ℕ, ◌==◌, List, [], ◌∷◌, Some, refl, sym, ap, ◌∙◌, subst, eqb-true, eq-eqb}
use Rattle.std.specs.Prelude.{slice_get, filter}
use Rattle.std.specs.List.{enumerate_from}
use Rattle.exec_core.specs.Block.{body_slots}
use Rattle.list_core.specs.Lists.{EachOf, IsIn, AreApart, from}
use Rattle.exec_core.specs.Design.{Process, signals_of, width_in}
use Rattle.exec_core.specs.Paths.{Checked, IsUnset}
use Rattle.exec_core.specs.Run.{processes_of as processes_at_instance}
use Rattle.exec_core.specs.Trees.{Row, block_rows, row_at}
use Rattle.exec_core.proofs.Checking.{trees_checked}
use Rattle.list_core.proofs.Lists.{each_member, filter_member, flat_map_apart}
use Rattle.list_core.proofs.Options.{some_if}
use Rattle.design_core.specs.declared.design.Instance.{Instance}
use Rattle.design_core.specs.Design.{Variant, Design}
use Rattle.design_core.specs.Slots.{heads}
use Rattle.design_exec.specs.Processes.{Numbered, instances_of, process, processes_of, body_widths, signal_width}
use Rattle.check_exec.proofs.Checks.{blocks_are_checked, widths_are}
use Rattle.check_exec.proofs.Facts.{each_map, each_flat, from_zero}
use Rattle.check_exec.proofs.Instances.{Stands, clean}
use Rattle.check_exec.proofs.Slots.{slots_are_apart}
use Rattle.world_core.specs.Sites.{Site, sites_in_block, sites_in, sites_of, slot_count, has_slot, sites_at, sites_in_order, site_body, instances_with, Spot, spots_of, all_spots, head_site}
use Rattle.row_net.specs.Unset.{UnsetExactly}
use Rattle.list_core.proofs.Listing.{map_from, flat_from, filter_from}
use Rattle.row_net.proofs.Scopes.{process_in}
use Rattle.world_core.proofs.Status.{unset_means, unset_told}

-- a statement stands in a block of its variant
record Home (d : Design) (s : Site) : Type 0 where
  of : Variant
  at : slice_get d.variants s.variant ≡ Some of
  among : IsIn s.block of.blocks
  widths : s.widths ≡ body_widths s.block.body (signal_width of.signals)

homes : (d : Design) → EachOf (Home d) (sites_of d)
homes d =
    each_flat (Home d) (λ (v : ℕ × Variant). sites_in v.0 v.1) (enumerate_from 0 d.variants) (λ v i.
    each_flat (Home d) (sites_in_block v.0 v.1) v.1.blocks (λ b j.
    each_map (Home d) (head_site v.0 v.1 b) (heads b.body) (λ h k.
    record {
      of = v.1;
      at = each_member (λ (q : ℕ × Variant). slice_get d.variants q.0 ≡ Some q.1) (enumerate_from 0 d.variants) (from_zero (λ (q : ℕ × Variant). slice_get d.variants q.0 ≡ Some q.1) d.variants (λ n w e. e)) v i;
      among = j;
      widths = refl;
    })))

-- and an instance of it
record Placed (d : Design) (spot : Spot) : Type 0 where
  home : Home d spot.0
  instance : Instance
  stands : slice_get d.instances spot.1 ≡ Some instance
  variant : instance.variant ≡ (spot.0).variant

placed : (d : Design) (spot : Spot) → IsIn spot (all_spots d) → Placed d spot
placed d spot i =
    let found = flat_from (spots_of d) (sites_in_order d) spot i in
    let one = map_from (λ (k : ℕ). (found.0, k)) (instances_with d (found.0).variant) spot found.1.1 in
    let q = map_from (λ (p : Numbered). p.0) (filter (λ (p : Numbered). p.1.variant == (found.0).variant) (instances_of d)) one.0 one.1.0 in
    let kept = filter_from (λ (p : Numbered). p.1.variant == (found.0).variant) (instances_of d) q.0 q.1.0 in
    let at = flat_from (sites_at d) (from 0 (slot_count d)) found.0 found.1.0 in
    subst (Placed d) (sym (one.1.1 ∙ ap (λ (k : ℕ). (found.0, k)) q.1.1))
    (record {
      home = each_member (Home d) (sites_of d) (homes d) found.0 (filter_from (has_slot at.0) (sites_of d) found.0 at.1.1).0;
      instance = q.0.1;
      stands = each_member (λ (p : Numbered). slice_get d.instances p.0 ≡ Some p.1) (instances_of d) (from_zero (λ (p : Numbered). slice_get d.instances p.0 ≡ Some p.1) d.instances (λ n r e. e)) q.0 kept.0;
      variant = eqb-true q.0.1.variant (found.0).variant kept.1;
    })

row_slot : (n : ℕ) (rs : List Row) (row : Row) → row_at n rs ≡ Some row → row.slot ≡ n
row_slot n [] row e = cc
row_slot n (r ∷ rs) row e =
    some_if (r.slot == n) r row (row_at n rs) (row.slot ≡ n) (λ t same. ap (λ (q : Row). q.slot) (sym same) ∙ eqb-true r.slot n t) (λ t found. row_slot n rs row found) e

pub unset_exactly : UnsetExactly
unset_exactly d sound spot i row at x =
    let p = placed d spot i in
    let site = spot.0 in
    let home = p.home in
    let there : Stands d spot.1 p.instance home.of = record { instance = p.stands; variant = ap (slice_get d.variants) p.variant ∙ home.at } in
    let b = process spot.1 (home.of).signals site.block in
    let among : IsIn b (processes_of d).processes = process_in d spot.1 p.instance home.of there site.block home.among in
    let checked = each_member (λ (c : Process). Checked (signals_of (processes_of d) c) (width_in (processes_of d) c) c.body) (processes_of d).processes (blocks_are_checked d sound) b among in
    let apart : AreApart (body_slots b.body) =
    flat_map_apart (λ (c : Process). body_slots c.body) (processes_at_instance (processes_of d) spot.1) b (filter_member (λ (c : Process). c.instance == spot.1) (processes_of d).processes b among (eq-eqb spot.1 spot.1 refl))
    (slots_are_apart d sound.kept spot.1) in
    let wide : site.widths ≡ width_in (processes_of d) b =
    home.widths ∙ sym (widths_are d sound spot.1 p.instance home.of site.block there (clean d sound.accepted spot.1 p.instance home.of there) home.among) in
    let told = (trees_checked (signals_of (processes_of d) b) (width_in (processes_of d) b) b.body checked apart).each_row site.slot row
    (subst (λ w. row_at site.slot (block_rows w (site_body site)) ≡ Some row) wide at) in
    let slot : row.slot ≡ site.slot = row_slot site.slot (block_rows site.widths (site_body site)) row at in (
      (λ none. unset_told site site.slot x (subst (λ w. IsUnset w (site_body site) site.slot x) (sym wide) (subst (λ (k : ℕ). IsUnset (width_in (processes_of d) b) (site_body site) k x) slot ((told.unset x).0 none)))),
      (λ is. (told.unset x).1 (subst (λ (k : ℕ). IsUnset (width_in (processes_of d) b) (site_body site) k x) (sym slot) (subst (λ w. IsUnset w (site_body site) site.slot x) wide (unset_means site site.slot x is)))),
    )
