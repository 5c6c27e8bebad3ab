-- The folded whole trees of an accepted design, at its statements, are well formed.
use Rattle.std.proofs.Common.{◌≡◌, ℕ, List, Option, Some, None, length, option_map, refl, ap, ◌∙◌, subst}
use Rattle.std.specs.Prelude.{slice_get, option_and_then}
use Rattle.std.proofs.lemmas.Option.{none-some, same_Some}
use Rattle.bv_core.specs.Value.{Bits, IsBits}
use Rattle.tree_core.specs.Tree as tree
use Rattle.tree_core.specs.Tree.{Whole}
use Rattle.tree_core.specs.Width.{IsWhole}
use Rattle.tree_core.specs.Fold.{constant}
use Rattle.exec_core.specs.Block.{Name, Now}
use Rattle.list_core.specs.Lists.{IsIn}
use Rattle.exec_core.specs.Trees.{Row, block_rows, row_at}
use Rattle.exec_core.specs.Paths.{HasTree, TreeFits, RowChecked}
use Rattle.exec_core.specs.Whole.{Place}
use Rattle.exec_core.specs.Design.{Process, moved, signals_of, width_in}
use Rattle.exec_core.specs.Accepted.{Accepted}
use Rattle.list_core.proofs.Lists.{each_member}
use Rattle.exec_core.proofs.Sources.{process_checked}
use Rattle.exec_core.proofs.Moving.{moved_fits}
use Rattle.exec_core.proofs.Folded.{nodes_by_node}
use Rattle.design_core.specs.Design.{Variant, Design}
use Rattle.design_exec.specs.Processes.{process, processes_of}
use Rattle.check_exec.specs.Premises.{IsSound}
use Rattle.check_exec.proofs.Instances as instances
use Rattle.world_core.specs.Sites.{Site, site_body, sites_of, Spot, all_spots}
use Rattle.world_core.specs.Kept.{block_row, whole_in, enable_tree, name_tree}
use Rattle.world_laws.proofs.SitesOf.{SiteIs, sites_are, ordered, SpotIs, spot_is}
use Rattle.world_laws.proofs.Spots.{process_in, process_widths, scope_known}

mapped_from : {A B : Type 0} (f : A → B) (o : Option A) (b : B) → option_map f o ≡ Some b → (a : A) × ((o ≡ Some a) × (f a ≡ b))
mapped_from f None b e = absurd (none-some b e)
mapped_from f (Some a) b e = (a, (refl, same_Some (f a) b e))

then_from : {A B : Type 0} (f : A → Option B) (o : Option A) (b : B) → option_and_then f o ≡ Some b → (a : A) × ((o ≡ Some a) × (f a ≡ Some b))
then_from f None b e = absurd (none-some b e)
then_from f (Some a) b e = (a, (refl, e))

-- a constant that is well formed is a value
pub constant_bits : (t : Whole) (b : Bits) → IsWhole t → constant t ≡ Some b → IsBits b
constant_bits (tree.Const c) b h e = subst IsBits (same_Some c b e) h
constant_bits (tree.Leaf o) b h e = absurd (none-some b e)
constant_bits (tree.One op a) b h e = absurd (none-some b e)
constant_bits (tree.Two op a c) b h e = absurd (none-some b e)
constant_bits (tree.Mux c a z) b h e = absurd (none-some b e)

module _ (d : Design) (sound : IsSound d) (order : List Place) (ok : Accepted (processes_of d) order) where
  abbrev here : ℕ → Variant → Site → Process
  here i v s = process i v.signals s.block

  module _ (p : Spot) (among : IsIn p (all_spots d)) where
    its : SpotIs d p
    its = spot_is d p among

    site : SiteIs d p.0
    site = each_member (SiteIs d) (sites_of d) (sites_are d) p.0 (ordered d sound.kept p.0 its.site).among

    stands : instances.Stands d p.1 its.of site.of
    stands = record { instance = its.at; variant = ap (slice_get d.variants) its.variant ∙ site.at }

    inside : IsIn (here p.1 site.of p.0) (processes_of d).processes
    inside = process_in d p.1 its.of site.of stands p.0.block site.among

    -- the widths of the statement are those of each process of its block
    wide : (p.0).widths ≡ width_in (processes_of d) (here p.1 site.of p.0)
    wide = process_widths d sound p.1 its.of p.0 site stands

    checked : (row : Row) → block_row p.0 ≡ Some row → RowChecked (signals_of (processes_of d) (here p.1 site.of p.0)) (width_in (processes_of d) (here p.1 site.of p.0)) (site_body p.0) row
    checked row is = (process_checked (processes_of d) order ok (here p.1 site.of p.0) inside).each_row p.0.slot row
        (subst (λ w. row_at p.0.slot (block_rows w (site_body p.0)) ≡ Some row) wide is)

    pub enable_whole : (T : Whole) → enable_tree d (length order) p ≡ Some T → IsWhole T
    enable_whole T e =
        let found = mapped_from (whole_in d (length order) p.1) (option_and_then (λ (row : Row). row.enable) (block_row p.0)) T e in
        let row = then_from (λ (r : Row). r.enable) (block_row p.0) found.0 found.1.0 in
        let has = subst (HasTree (signals_of (processes_of d) (here p.1 site.of p.0)) (width_in (processes_of d) (here p.1 site.of p.0)) 1) row.1.1 (checked row.0 row.1.0).enable in
        let fits = moved_fits (processes_of d) (here p.1 site.of p.0) found.0 has.0 in
        subst IsWhole found.1.1 ((nodes_by_node (processes_of d) order ok).fits (moved p.1 found.0) fits.0).0

    pub name_whole : (x : Name) → IsIn x p.0.names → (T : Whole) → name_tree d (length order) p x ≡ Some T → IsWhole T
    name_whole x scope T e =
        let found = mapped_from (whole_in d (length order) p.1) (option_and_then (λ (row : Row). row.before (Now x)) (block_row p.0)) T e in
        let row = then_from (λ (r : Row). r.before (Now x)) (block_row p.0) found.0 found.1.0 in
        let known = scope_known d p.1 its.of site.of stands p.0.block x (subst (λ l. IsIn x l) site.names scope) in
        let fits = subst (TreeFits (signals_of (processes_of d) (here p.1 site.of p.0)) (width_in (processes_of d) (here p.1 site.of p.0)) (width_in (processes_of d) (here p.1 site.of p.0) x)) row.1.1
        ((checked row.0 row.1.0).trees (Now x) known) in
        let there = moved_fits (processes_of d) (here p.1 site.of p.0) found.0 fits.0 in
        subst IsWhole found.1.1 ((nodes_by_node (processes_of d) order ok).fits (moved p.1 found.0) there.0).0
