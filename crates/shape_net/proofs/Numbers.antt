-- The statements of a well-formed design: their numbers are those of its slots, and its variants are few.
use Rattle.std.proofs.Common.{◌≡◌, ℕ, ◌+◌, ◌<◌, ◌≤◌, ◌==◌, ◌||◌, Bool, true, false, List, [], ◌∷◌, ◌++◌, length, map, inl, inr, refl, sym, ap, ap₂, ◌∙◌, subst, arith, eqb-true}
use Rattle.std.specs.List.{enumerate_from, flat_map, list_any}
use Rattle.std.proofs.lemmas.List.{map-append, length-map}
use Rattle.list_core.specs.Lists.{EachOf, IsIn, from}
use Rattle.design_core.specs.declared.design.Instance.{Instance}
use Rattle.design_core.specs.declared.variant.Signal.{Signal}
use Rattle.design_core.specs.Design.{Block, Variant, Design}
use Rattle.design_core.specs.Slots.{Head, heads, lets_of, scope, slots_of}
use Rattle.design_core.specs.WellFormed.{IsDesign, all_slots}
use Rattle.world_core.specs.Sites.{Site, sites_in_block, sites_in, sites_of, slot_count, head_site}
use Rattle.lower_core.specs.Shape.{slot_part}
use Rattle.shape_net.specs.declared.ordered.NumberedSlot.{NumberedSlot}
use Rattle.shape_net.specs.Numbered.{numbered_head, block_slots, variant_slots, design_slots, AreNumbersBelow}
use Rattle.shape_net.specs.Numbered.{signal_name}
use Rattle.list_core.proofs.Listing.{no_more, from_in, from_length, from_apart}

-- a statement with its number, without rows
abbrev pub numbered_site : Site → NumberedSlot
numbered_site s = record { number = s.slot; slot = slot_part s }

abbrev pub number_of : NumberedSlot → ℕ
number_of s = s.number

-- ---- they are those of the design

heads_numbered : (n : ℕ) (w : Variant) (b : Block) (hs : List Head)
    → map (numbered_head n (scope w b)) hs ≡ map numbered_site (map (head_site n w b) hs)
heads_numbered n w b [] = refl
heads_numbered n w b (h ∷ hs) = ap (λ l. numbered_head n (scope w b) h ∷ l) (heads_numbered n w b hs)

blocks_numbered : (n : ℕ) (w : Variant) (bs : List Block) → flat_map (block_slots n (map signal_name w.signals)) bs ≡ map numbered_site (flat_map (sites_in_block n w) bs)
blocks_numbered n w [] = refl
blocks_numbered n w (b ∷ bs) =
    ap₂ (λ (p q : List NumberedSlot). p ++ q) (heads_numbered n w b (heads b.body)) (blocks_numbered n w bs)
    ∙ sym (map-append numbered_site (sites_in_block n w b) (flat_map (sites_in_block n w) bs))

variants_numbered : (n : ℕ) (ws : List Variant) → design_slots n ws ≡ map numbered_site (flat_map (λ (v : ℕ × Variant). sites_in v.0 v.1) (enumerate_from n ws))
variants_numbered n [] = refl
variants_numbered n (w ∷ ws) =
    ap₂ (λ (p q : List NumberedSlot). p ++ q) (blocks_numbered n w w.blocks) (variants_numbered (n + 1) ws)
    ∙ sym (map-append numbered_site (sites_in n w) (flat_map (λ (v : ℕ × Variant). sites_in v.0 v.1) (enumerate_from (n + 1) ws)))

pub sites_numbered : (d : Design) → design_slots 0 d.variants ≡ map numbered_site (sites_of d)
sites_numbered d = variants_numbered 0 d.variants

-- ---- their numbers

heads_numbers : (n : ℕ) (names : List (List ℕ)) (hs : List Head) → map number_of (map (numbered_head n names) hs) ≡ slots_of hs
heads_numbers n names [] = refl
heads_numbers n names (h ∷ hs) = ap (λ l. h.slot ∷ l) (heads_numbers n names hs)

blocks_numbers : (n : ℕ) (signals : List (List ℕ)) (bs : List Block) → map number_of (flat_map (block_slots n signals) bs) ≡ slots_of (flat_map (λ (b : Block). heads b.body) bs)
blocks_numbers n signals [] = refl
blocks_numbers n signals (b ∷ bs) =
    map-append number_of (block_slots n signals b) (flat_map (block_slots n signals) bs)
    ∙ ap₂ (λ (p q : List ℕ). p ++ q) (heads_numbers n (signals ++ lets_of b.body) (heads b.body)) (blocks_numbers n signals bs)
    ∙ sym (map-append (λ (h : Head). h.slot) (heads b.body) (flat_map (λ (c : Block). heads c.body) bs))

pub design_numbers : (n : ℕ) (ws : List Variant) → map number_of (design_slots n ws) ≡ all_slots ws
design_numbers n [] = refl
design_numbers n (w ∷ ws) =
    map-append number_of (variant_slots n w) (design_slots (n + 1) ws)
    ∙ ap₂ (λ (p q : List ℕ). p ++ q) (blocks_numbers n (map signal_name w.signals) w.blocks) (design_numbers (n + 1) ws)

below_each : (count : ℕ) (all : List NumberedSlot) → EachOf (λ k. k < count) (map number_of all) → AreNumbersBelow count all
below_each count [] h = tt
below_each count (s ∷ all) h = (h.0, below_each count all h.1)

slots_counted : (ws : List Variant) → length (all_slots ws) ≡ length (design_slots 0 ws)
slots_counted ws = ap length (sym (design_numbers 0 ws)) ∙ length-map (design_slots 0 ws) number_of

pub numbers_below : (d : Design) → IsDesign d → AreNumbersBelow (length (design_slots 0 d.variants)) (design_slots 0 d.variants)
numbers_below d kept =
    below_each (length (design_slots 0 d.variants)) (design_slots 0 d.variants)
    (subst (λ n. EachOf (λ k. k < n) (map number_of (design_slots 0 d.variants))) (slots_counted d.variants)
    (subst (EachOf (λ k. k < length (all_slots d.variants))) (sym (design_numbers 0 d.variants)) kept.below))

pub counted : (d : Design) → length (design_slots 0 d.variants) ≡ slot_count d
counted d = sym (slots_counted d.variants)

-- ---- few variants

variant_in : (v : ℕ) (rs : List Instance) → list_any (λ r. r.variant == v) rs ≡ true → IsIn v (map (λ (r : Instance). r.variant) rs)
variant_in v [] h = absurd (false_true h)
  where
    false_true : false ≡ true → ⊥
    false_true e = cc
variant_in v (r ∷ rs) h = by_test (λ g. variant_in v rs g) (r.variant == v) refl h
  where
    by_test : (list_any (λ (q : Instance). q.variant == v) rs ≡ true → IsIn v (map (λ (q : Instance). q.variant) rs))
        → (b : Bool) → (r.variant == v) ≡ b → b || list_any (λ (q : Instance). q.variant == v) rs ≡ true → IsIn v (map (λ (q : Instance). q.variant) (r ∷ rs))
    by_test later true e g = inl (sym (eqb-true r.variant v e))
    by_test later false e g = inr (later g)

-- each variant has an instance, and there are few of these
pub few_variants : (d : Design) → IsDesign d → length d.variants ≤ 4096
few_variants d kept =
    let n = length d.variants in
    let variants : List ℕ = map (λ (r : Instance). r.variant) d.instances in
    let at : (z : ℕ) → IsIn z (from 0 n) → IsIn z variants = λ z i. variant_in z d.instances (kept.instances z (within n z (from_in 0 n z i).1)) in
    at_most n (length (from 0 n)) (length variants) (length d.instances) (from_length 0 n) (no_more (from 0 n) variants (from_apart 0 n) at) (length-map d.instances (λ (r : Instance). r.variant)) kept.few
  where
    within : (n z : ℕ) → z < 0 + n → z < n
    within n z l = omega (arith, l)

    at_most : (n numbers variants instances : ℕ) → numbers ≡ n → numbers ≤ variants → variants ≡ instances → instances ≤ 4096 → n ≤ 4096
    at_most n numbers variants instances a b c e = omega (arith, a, b, c, e)
