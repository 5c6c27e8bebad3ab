-- The statements of a well-formed design: each number below their count is the slot of one, in the order of slots.
use Rattle.std.proofs.Common.{◌≡◌, ℕ, zero, suc, ◌+◌, ◌<◌, ◌≤◌, ◌==◌, cond, List, [], ◌∷◌, ◌++◌, map, Some, inl, inr, refl, sym, ap, ap₂, ◌∙◌, subst, arith, eqb-true, eq-eqb, ne_eqb, option_map}
use Rattle.std.specs.Prelude.{slice_get, filter}
use Rattle.std.specs.List.{enumerate_from, flat_map}
use Rattle.std.proofs.lemmas.List.{map-append}
use Rattle.std.proofs.lemmas.Option.{slice_get-map}
use Rattle.list_core.specs.Lists.{EachOf, IsIn, IsNotIn, AreApart, from}
use Rattle.list_core.proofs.Lists.{each_member, not_in}
use Rattle.design_core.specs.declared.design.Instance.{Instance}
use Rattle.design_core.specs.Design.{Block, Variant, Design}
use Rattle.design_core.specs.Slots.{Head, heads, scope, slots_of}
use Rattle.design_core.specs.WellFormed.{IsDesign, all_slots}
use Rattle.design_exec.specs.Processes.{Numbered, instances_of, body_widths, signal_width}
use Rattle.check_exec.proofs.Facts.{each_map, each_flat, from_zero, in_index}
use Rattle.world_core.specs.Sites.{Site, sites_in_block, sites_in, sites_of, slot_count, has_slot, sites_at, sites_in_order, instances_with, Spot, spots_of, all_spots, head_site}
use Rattle.list_core.proofs.Listing.{map_in, map_from, flat_in, flat_from, filter_from, at_number, from_in, from_at, all_there}

-- ---- a statement

-- it stands in a block of its variant
pub record SiteIs (d : Design) (s : Site) : Type 0 where
  pub of : Variant
  pub at : slice_get d.variants s.variant ≡ Some of
  pub among : IsIn s.block of.blocks
  pub names : s.names ≡ scope of s.block
  pub widths : s.widths ≡ body_widths s.block.body (signal_width of.signals)
  pub slot : IsIn s.slot (slots_of (heads s.block.body))

pub sites_are : (d : Design) → EachOf (SiteIs d) (sites_of d)
sites_are d =
    each_flat (SiteIs d) (λ (v : ℕ × Variant). sites_in v.0 v.1) (enumerate_from 0 d.variants) (λ v i.
    each_flat (SiteIs d) (sites_in_block v.0 v.1) v.1.blocks (λ b j.
    each_map (SiteIs d) (head_site v.0 v.1 b) (heads b.body) (λ h k.
    record {
      of = v.1;
      at = each_member (λ (q : ℕ × Variant). slice_get d.variants q.0 ≡ Some q.1) (enumerate_from 0 d.variants) (from_zero (λ (q : ℕ × Variant). slice_get d.variants q.0 ≡ Some q.1) d.variants (λ n w e. e)) v i;
      among = j;
      names = refl;
      widths = refl;
      slot = map_in (λ (g : Head). g.slot) (heads b.body) h k;
    })))

-- each statement of a block of a variant is one
pub record SiteOf (d : Design) (slot variant : ℕ) : Type 0 where
  pub site : Site
  pub among : IsIn site (sites_of d)
  pub slot_is : site.slot ≡ slot
  pub variant_is : site.variant ≡ variant

pub site_of : (d : Design) (n : ℕ) (v : Variant) (b : Block) (k : ℕ) → slice_get d.variants n ≡ Some v → IsIn b v.blocks → IsIn k (slots_of (heads b.body)) → SiteOf d k n
site_of d n v b k at among i =
    let h = map_from (λ (g : Head). g.slot) (heads b.body) k i in
    record {
      site = (head_site n v b h.0);
      among =
          flat_in (λ (w : ℕ × Variant). sites_in w.0 w.1) (enumerate_from 0 d.variants) (n, v) (head_site n v b h.0) (at_number d.variants n v at)
          (flat_in (sites_in_block n v) v.blocks b (head_site n v b h.0) among
          (map_in (head_site n v b) (heads b.body) h.0 h.1.0));
      slot_is = sym h.1.1;
      variant_is = refl;
    }

-- ---- their slots

abbrev pub site_slot : Site → ℕ
site_slot s = s.slot

heads_slots : (n : ℕ) (w : Variant) (b : Block) (hs : List Head)
    → map site_slot (map (head_site n w b) hs) ≡ slots_of hs
heads_slots n w b [] = refl
heads_slots n w b (h ∷ hs) = ap (λ l. h.slot ∷ l) (heads_slots n w b hs)

pub blocks_slots : (n : ℕ) (w : Variant) (bs : List Block) → map site_slot (flat_map (sites_in_block n w) bs) ≡ slots_of (flat_map (λ (b : Block). heads b.body) bs)
blocks_slots n w [] = refl
blocks_slots n w (b ∷ bs) =
    map-append site_slot (sites_in_block n w b) (flat_map (sites_in_block n w) bs)
    ∙ ap₂ (λ (p q : List ℕ). p ++ q) (heads_slots n w b (heads b.body)) (blocks_slots n w bs)
    ∙ sym (map-append (λ (h : Head). h.slot) (heads b.body) (flat_map (λ (c : Block). heads c.body) bs))

variants_slots : (n : ℕ) (ws : List Variant) → map site_slot (flat_map (λ (v : ℕ × Variant). sites_in v.0 v.1) (enumerate_from n ws)) ≡ all_slots ws
variants_slots n [] = refl
variants_slots n (w ∷ ws) =
    map-append site_slot (sites_in n w) (flat_map (λ (v : ℕ × Variant). sites_in v.0 v.1) (enumerate_from (n + 1) ws))
    ∙ ap₂ (λ (p q : List ℕ). p ++ q) (blocks_slots n w w.blocks) (variants_slots (n + 1) ws)

pub sites_slots : (d : Design) → map site_slot (sites_of d) ≡ all_slots d.variants
sites_slots d = variants_slots 0 d.variants

-- ---- the one statement of a slot

none_at : (k : ℕ) (sites : List Site) → IsNotIn k (map site_slot sites) → filter (has_slot k) sites ≡ []
none_at k [] h = refl
none_at k (s ∷ sites) h = ap (λ b. cond b (s ∷ filter (has_slot k) sites) (filter (has_slot k) sites)) (ne_eqb s.slot k h.0) ∙ none_at k sites h.1

pub record OneAt (k : ℕ) (all found : List Site) : Type 0 where
  pub site : Site
  pub is : found ≡ site ∷ []
  pub among : IsIn site all
  pub slot : site.slot ≡ k

pub one_at : (k : ℕ) (sites : List Site) → AreApart (map site_slot sites) → IsIn k (map site_slot sites) → OneAt k sites (filter (has_slot k) sites)
one_at k [] apart i = absurd i
one_at k (s ∷ sites) apart (inl e) = record {
  site = s;
  is = ap (λ b. cond b (s ∷ filter (has_slot k) sites) (filter (has_slot k) sites)) (eq-eqb s.slot k (sym e)) ∙ ap (λ l. s ∷ l) (none_at k sites (subst (λ j. IsNotIn j (map site_slot sites)) (sym e) apart.0));
  among = inl refl;
  slot = sym e;
}
one_at k (s ∷ sites) apart (inr i) =
    let found = one_at k sites apart.1 i in
    record {
      site = found.site;
      is =
          ap (λ b. cond b (s ∷ filter (has_slot k) sites) (filter (has_slot k) sites))
          (ne_eqb s.slot k (λ e. not_in s.slot (map site_slot sites) apart.0 (subst (λ j. IsIn j (map site_slot sites)) (sym e) i)))
          ∙ found.is;
      among = inr found.among;
      slot = found.slot;
    }

-- ---- all of them, in order

-- a statement that stands in order is one of the design, and the one of its slot
pub record IsOrdered (d : Design) (s : Site) : Type 0 where
  pub among : IsIn s (sites_of d)
  pub alone : sites_at d s.slot ≡ s ∷ []

module _ (d : Design) (kept : IsDesign d) where
  pub one_of : (k : ℕ) → k < slot_count d → OneAt k (sites_of d) (sites_at d k)
  one_of k l =
      one_at k (sites_of d) (subst AreApart (sym (sites_slots d)) kept.apart)
      (subst (λ xs. IsIn k xs) (sym (sites_slots d)) (all_there (all_slots d.variants) kept.apart kept.below k l))

  slots_from : (a n : ℕ) → a + n ≤ slot_count d → map site_slot (flat_map (sites_at d) (from a n)) ≡ from a n
  slots_from a zero l = refl
  slots_from a (suc n) l =
      let one = one_of a (omega arith) in
      ap (λ xs. map site_slot (xs ++ flat_map (sites_at d) (from (a + 1) n))) one.is
      ∙ ap₂ (λ (x : ℕ) xs. x ∷ xs) one.slot (slots_from (a + 1) n (omega arith))

  pub order_slots : map site_slot (sites_in_order d) ≡ from 0 (slot_count d)
  order_slots = slots_from 0 (slot_count d) (let e : 0 + slot_count d ≤ slot_count d = omega arith in e)

  pub ordered : (s : Site) → IsIn s (sites_in_order d) → IsOrdered d s
  ordered s i =
      let found = flat_from (sites_at d) (from 0 (slot_count d)) s i in
      let below : found.0 < slot_count d = (let l = (from_in 0 (slot_count d) found.0 found.1.0).1 in omega arith) in
      let one = one_of found.0 below in
      let same : s ≡ one.site = by_one one.site (subst (λ xs. IsIn s xs) one.is found.1.1) in
      record {
        among = subst (λ (z : Site). IsIn z (sites_of d)) (sym same) one.among;
        alone = ap (sites_at d) (ap site_slot same ∙ one.slot) ∙ one.is ∙ ap (λ (z : Site). z ∷ []) (sym same);
      }
    where
      by_one : (z : Site) → IsIn s (z ∷ []) → s ≡ z
      by_one z (inl e) = e
      by_one z (inr j) = absurd j

  -- it stands at its slot
  pub at_slot : (s : Site) → IsIn s (sites_in_order d) → slice_get (sites_in_order d) s.slot ≡ Some s
  at_slot s i =
      let k = in_index (sites_in_order d) s i in
      let here : slice_get (from 0 (slot_count d)) k.0 ≡ Some s.slot =
      ap (λ xs. slice_get xs k.0) (sym order_slots) ∙ slice_get-map site_slot (sites_in_order d) k.0 ∙ ap (option_map site_slot) k.1 in
      let same : s.slot ≡ k.0 = from_at 0 (slot_count d) k.0 s.slot here ∙ (let z : 0 + k.0 ≡ k.0 = omega arith in z) in
      ap (slice_get (sites_in_order d)) same ∙ k.1

-- ---- a statement and an instance of its variant

pub record SpotIs (d : Design) (spot : Spot) : Type 0 where
  pub site : IsIn spot.0 (sites_in_order d)
  pub of : Instance
  pub at : slice_get d.instances spot.1 ≡ Some of
  pub variant : of.variant ≡ spot.0.variant

pub at_numbers : (d : Design) (q : Numbered) → IsIn q (instances_of d) → slice_get d.instances q.0 ≡ Some q.1
at_numbers d q i =
    each_member (λ (p : Numbered). slice_get d.instances p.0 ≡ Some p.1) (instances_of d) (from_zero (λ (p : Numbered). slice_get d.instances p.0 ≡ Some p.1) d.instances (λ n r e. e)) q i

pub spot_is : (d : Design) (spot : Spot) → IsIn spot (all_spots d) → SpotIs d spot
spot_is d spot i =
    let found = flat_from (spots_of d) (sites_in_order d) spot i in
    let one = map_from (λ (k : ℕ). (found.0, k)) (instances_with d found.0.variant) spot found.1.1 in
    let q = map_from (λ (p : Numbered). p.0) (filter (λ (p : Numbered). p.1.variant == found.0.variant) (instances_of d)) one.0 one.1.0 in
    let kept = filter_from (λ (p : Numbered). p.1.variant == found.0.variant) (instances_of d) q.0 q.1.0 in
    subst (SpotIs d) (sym (one.1.1 ∙ ap (λ (k : ℕ). (found.0, k)) q.1.1))
    (record { site = found.1.0; of = q.0.1; at = at_numbers d q.0 kept.0; variant = eqb-true q.0.1.variant found.0.variant kept.1 })
