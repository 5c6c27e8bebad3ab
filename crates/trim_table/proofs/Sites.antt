-- What the statements of an accepted design keep.
use Rattle.std.proofs.Common.{◌≡◌, ℕ, ◌<◌, ◌==◌, length, Some, None, ap, ◌∙◌, eqb-true}
use Rattle.std.specs.Prelude.{slice_get}
use Rattle.std.specs.List.{enumerate_from}
use Rattle.std.proofs.lemmas.Option.{slice_get_within}
use Rattle.list_core.specs.Lists.{EachOf, IsIn, AreApart}
use Rattle.list_core.proofs.Lists.{each_member}
use Rattle.design_core.specs.declared.design.Instance.{Instance}
use Rattle.design_core.specs.Design.{AreInRange, Block, Variant, Design}
use Rattle.design_core.specs.Slots.{Head, heads, scope, variant_heads}
use Rattle.design_core.specs.WellFormed.{IsLine, AreFew, IsVariant}
use Rattle.check_core.specs.Names.{duplicate_name}
use Rattle.check_exec.specs.Premises.{IsSound}
use Rattle.check_exec.proofs.Facts.{each_at, each_map, each_flat, from_zero, in_index, any_in}
use Rattle.check_exec.proofs.Instances.{Stands, clean}
use Rattle.world_core.specs.Sites.{Site, sites_in_block, sites_in, sites_of, head_site}
use Rattle.list_core.proofs.Listing.{flat_in}
use Rattle.trim_table.proofs.Scopes.{scope_apart}

pub record SiteFits (d : Design) (s : Site) : Type 0 where
  pub variant : s.variant < length d.variants
  pub line : IsLine s.line
  pub few_gens : AreFew s.gens
  pub gens : AreInRange s.gens
  pub few_names : AreFew s.names
  pub names : AreApart s.names

-- a variant of an accepted design has no two things of one name
variant_clean : (d : Design) → IsSound d → (n : ℕ) (v : Variant) → slice_get d.variants n ≡ Some v → duplicate_name v ≡ None
variant_clean d sound n v at =
    let found = any_in (λ (r : Instance). r.variant == n) d.instances (sound.kept.instances n (slice_get_within d.variants n v at)) in
    let index = in_index d.instances found.0 found.1.0 in
    let stands : Stands d index.0 found.0 v = record { instance = index.1; variant = ap (slice_get d.variants) (eqb-true found.0.variant n found.1.1) ∙ at } in
    (clean d sound.accepted index.0 found.0 v stands).apart

pub sites_fit : (d : Design) → IsSound d → EachOf (SiteFits d) (sites_of d)
sites_fit d sound =
    each_flat (SiteFits d) (λ (v : ℕ × Variant). sites_in v.0 v.1) (enumerate_from 0 d.variants) (λ v i.
    let at : slice_get d.variants v.0 ≡ Some v.1 =
    each_member (λ (q : ℕ × Variant). slice_get d.variants q.0 ≡ Some q.1) (enumerate_from 0 d.variants) (from_zero (λ (q : ℕ × Variant). slice_get d.variants q.0 ≡ Some q.1) d.variants (λ n w e. e)) v i in
    let variant : IsVariant d.variants v.1 = each_at (IsVariant d.variants) d.variants v.0 v.1 at sound.kept.each in
    each_flat (SiteFits d) (sites_in_block v.0 v.1) v.1.blocks (λ b j.
    each_map (SiteFits d) (head_site v.0 v.1 b) (heads b.body) (λ h k.
    let among : IsIn h (variant_heads v.1) = flat_in (λ (c : Block). heads c.body) v.1.blocks b h j k in
    record {
      variant = slice_get_within d.variants v.0 v.1 at;
      line = each_member (λ (g : Head). IsLine g.line) (variant_heads v.1) variant.lines h among;
      few_gens = each_member (λ (g : Head). AreFew g.gens) (variant_heads v.1) variant.few_gens h among;
      gens = each_member (λ (g : Head). AreInRange g.gens) (variant_heads v.1) variant.gens h among;
      few_names = each_member (λ (c : Block). AreFew (scope v.1 c)) v.1.blocks variant.few_names b j;
      names = scope_apart v.1 b j (variant_clean d sound v.0 v.1 at);
    })))
