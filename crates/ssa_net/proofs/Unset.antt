-- A name has no tree exactly where it is unset by paths.
use Rattle.std.proofs.Common.{◌≡◌, ℕ, Bool, true, false, List, [], ◌∷◌, Option, Some, None, option_map, inl, inr, refl, sym, ap, ◌∙◌, subst, eq-eqb}
use Rattle.std.specs.Prelude.{◌==◌, ◌↔◌, option_and_then, if◌then◌else◌}
use Rattle.exec_core.specs.Block.{Name, Now}
use Rattle.exec_core.specs.Trees.{Row, block_rows, row_at}
use Rattle.exec_core.proofs.Slots.{row_slots, body_rows_have}
use Rattle.list_core.specs.Lists.{IsIn}
use Rattle.list_core.proofs.Lists.{each_member}
use Rattle.design_core.specs.Design.{Design}
use Rattle.design_core.specs.WellFormed.{IsDesign}
use Rattle.check_core.specs.Verdict.{verdict}
use Rattle.check_exec.specs.Premises.{IsSound}
use Rattle.world_core.specs.Sites.{Site, site_body, sites_of, unset_in as unset_by, Spot, all_spots}
use Rattle.world_core.specs.Kept.{block_row, whole_in}
use Rattle.world_core.specs.Source.{unset_among, unset_at, tree_among, tree_before}
use Rattle.world_laws.proofs.SitesOf.{SiteIs, sites_are, ordered, spot_is}
use Rattle.row_net.proofs.Aligned.{body_has}
use Rattle.row_net.proofs.Exact.{unset_exactly}
use Rattle.ssa_net.specs.Unset.{UnsetByPaths}

-- a slot of rows has one
row_of : (k : ℕ) (rows : List Row) → IsIn k (row_slots rows) → (row : Row) × (row_at k rows ≡ Some row)
row_of k [] i = absurd i
row_of k (r ∷ rows) (inl e) = (r, ap (λ b. if b then Some r else row_at k rows) (eq-eqb r.slot k (sym e)))
row_of k (r ∷ rows) (inr i) = by_test (r.slot == k) (row_of k rows i)
  where
    by_test : (b : Bool) → ((row : Row) × (row_at k rows ≡ Some row)) → (row : Row) × ((if b then Some r else row_at k rows) ≡ Some row)
    by_test true found = (r, refl)
    by_test false found = found

-- so has a statement in its block
block_row_of : (d : Design) (s : Site) → SiteIs d s → (row : Row) × (block_row s ≡ Some row)
block_row_of d s is =
    row_of s.slot (block_rows s.widths (site_body s))
    (subst (λ l. IsIn s.slot l) (sym (body_rows_have s.widths (site_body s) _ _ ∙ body_has s.block.clocked s.block.body)) is.slot)

none_mapped : {A B : Type 0} (f : A → B) (o : Option A) → (option_map f o ≡ None) ↔ (o ≡ None)
none_mapped f None = (λ e. refl, λ e. refl)
none_mapped f (Some a) = (λ e. cc, λ e. cc)

pub unset_by_paths : (d : Design) (n : ℕ) → IsSound d → UnsetByPaths d n
unset_by_paths d n sound spot among x =
    let s = spot.0 in
    let alone = ordered d sound.kept s (spot_is d spot among).site in
    let row = block_row_of d s (each_member (SiteIs d) (sites_of d) (sites_are d) s alone.among) in
    let tree : tree_before d n s.slot spot.1 x ≡ option_map (whole_in d n spot.1) (row.0.before (Now x)) =
    ap (λ l. tree_among d n l spot.1 x) alone.alone ∙ ap (λ o. option_map (whole_in d n spot.1) (option_and_then (λ (r : Row). r.before (Now x)) o)) row.1 in
    let paths : unset_at d s.slot x ≡ unset_by s s.slot x = ap (λ l. unset_among l s.slot x) alone.alone in
    let exactly = unset_exactly d sound spot among row.0 row.1 x in
    let mapped = none_mapped (whole_in d n spot.1) (row.0.before (Now x)) in (
      λ none. paths ∙ exactly.0 (mapped.0 (sym tree ∙ none)),
      λ unset. tree ∙ mapped.1 (exactly.1 (sym paths ∙ unset)),
    )

-- so it is of a design that is accepted
pub unset_in : (d : Design) (n : ℕ) → IsDesign d → verdict d ≡ None → UnsetByPaths d n
unset_in d n kept accepted = unset_by_paths d n (record { kept = kept; accepted = accepted })
