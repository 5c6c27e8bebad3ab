-- Rows of processes, instances and designs, put behind others.
use Rattle.std.proofs.Common.{◌≡◌, ℕ, zero, suc, ◌+◌, ◌<◌, List, [], ◌∷◌, ◌++◌, length, map, take, get_or, Option, Some, None, option_map, unwrap_or, refl, sym, ap, ap₂, ◌∙◌, subst, arith, append_assoc}
use Rattle.std.specs.Prelude.{slice_get}
use Rattle.std.specs.List.{enumerate_from, flat_map}
use Rattle.std.proofs.lemmas.List.{map-append, length-map, length-append}
use Rattle.std.proofs.lemmas.Option.{none-some, slice_get_within}
use Rattle.list_core.specs.Lists.{EachOf, IsIn}
use Rattle.list_core.proofs.Lists.{each_member}
use Rattle.design_core.specs.declared.design.Instance.{Instance}
use Rattle.design_core.specs.Design.{Block, Variant, Design}
use Rattle.design_core.specs.WellFormed.{IsDesign, all_slots}
use Rattle.design_exec.specs.Processes.{Numbered, instances_of, process, processes_at, processes_of, signals_in, blocks_in}
use Rattle.net_core.specs.Nodes.{Shape}
use Rattle.net_core.specs.Builder.{Keeps}
use Rattle.list_core.proofs.Listing.{some_at, map_in, flat_in, at_number}
use Rattle.check_exec.proofs.Facts.{in_at, each_map, each_flat}
use Rattle.world_core.specs.Sites.{Site, sites_in_block, sites_in, sites_of, slot_count, Spot, all_spots}
use Rattle.lower_core.specs.declared.row.FullRow.{FullRow}
use Rattle.lower_core.specs.Rows.{AreTold}
use Rattle.ssa_core.specs.declared.process.ProcessKey.{ProcessKey}
use Rattle.ssa_core.specs.Processes.{process_at}
use Rattle.list_core.proofs.Growing.{flat_push, plain_more}
use Rattle.ssa_core.proofs.Places.{get_mapped, get_map}
use Rattle.row_net.specs.Spots.{at_instance, variant_sites, instance_spots, spots_by_instance, SlotsBelow, AreSorted, sorted_rows}
use Rattle.row_net.specs.Blocks.{block_sites, HaveKeys, IsBlockOf, SpotsPut, blocks_spots, first_number}
use Rattle.world_laws.proofs.SitesOf.{site_slot, sites_slots}
use Rattle.row_net.proofs.Transposed.{all_sorted}
use Rattle.row_net.proofs.Telling.{told_more, told_both, told_sorted}

-- ---- rows behind others

pub spots_put : (d : Design) (n : ℕ) (old new : List Shape) (spots : List Spot) (rows more after : List FullRow) → Keeps old new → AreTold d n new spots more → after ≡ rows ++ more → SpotsPut d n old new spots rows after
spots_put d n old new spots rows more after keeps told e before h = subst (AreTold d n new (before ++ spots)) (sym e) (told_both d n new before spots rows more (told_more d n old new keeps before rows h) told)

pub spots_then : (d : Design) (n : ℕ) (a b c : List Shape) (xs ys : List Spot) (first next last : List FullRow) → SpotsPut d n a b xs first next → SpotsPut d n b c ys next last → SpotsPut d n a c (xs ++ ys) first last
spots_then d n a b c xs ys first next last p q before h = subst (λ l. AreTold d n c l last) (append_assoc before xs ys) (q (before ++ xs) (p before h))

-- ---- the blocks of an instance

pub blocks_next : (d : Design) (i v : ℕ) (blocks : List Block) (b : Block) → blocks_spots d i v (blocks ++ b ∷ []) ≡ blocks_spots d i v blocks ++ at_instance i (block_sites d v b)
blocks_next d i v blocks b = ap (at_instance i) (flat_push (block_sites d v) blocks b) ∙ map-append (λ (s : Site). (s, i)) (flat_map (block_sites d v) blocks) (block_sites d v b)

pub blocks_all : (d : Design) (q : Numbered) → blocks_spots d q.0 q.1.variant (blocks_in d q.1.variant) ≡ instance_spots d q
blocks_all d q = ap (at_instance q.0) (by_variant (slice_get d.variants q.1.variant))
  where
    by_variant : (o : Option Variant) → flat_map (λ (b : Block). unwrap_or (option_map (λ (w : Variant). sites_in_block q.1.variant w b) o) []) (unwrap_or (option_map (λ (w : Variant). w.blocks) o) []) ≡ unwrap_or (option_map (sites_in q.1.variant) o) []
    by_variant None = refl
    by_variant (Some w) = refl

-- ---- the numbers of processes

get_left : {A : Type 0} (xs ys : List A) (k : ℕ) (y : A) → slice_get xs k ≡ Some y → slice_get (xs ++ ys) k ≡ Some y
get_left [] ys k y e = absurd (none-some y e)
get_left (x ∷ xs) ys zero y e = e
get_left (x ∷ xs) ys (suc k) y e = get_left xs ys k y e

get_right : {A : Type 0} (xs ys : List A) (m k : ℕ) → m ≡ length xs + k → slice_get (xs ++ ys) m ≡ slice_get ys k
get_right [] ys m k e = ap (slice_get ys) (e ∙ (let z : 0 + k ≡ k = omega arith in z))
get_right (x ∷ xs) ys zero k e = absurd (omega (arith, e))
get_right (x ∷ xs) ys (suc m) k e = get_right xs ys m k (omega (arith, e))

get_numbered : {A B : Type 0} (f : ℕ × A → List B) (n : ℕ) (xs : List A) (i b k : ℕ) (x : A) (y : B) → i < length xs → x ≡ get_or xs i x → k ≡ length (flat_map f (enumerate_from n (take i xs))) + b → slice_get (f (n + i, x)) b ≡ Some y →
    slice_get (flat_map f (enumerate_from n xs)) k ≡ Some y
get_numbered f n [] i b k x y below at e h = absurd (omega (arith, below))
get_numbered {A} f n (z ∷ xs) zero b k x y below at e h =
    ap (slice_get (flat_map f (enumerate_from n (z ∷ xs)))) (e ∙ (let w : 0 + b ≡ b = omega arith in w))
    ∙ get_left (f (n, z)) (flat_map f (enumerate_from (n + 1) xs)) b y
    (ap (λ (q : ℕ × A). slice_get (f q) b) (ap₂ (λ (m : ℕ) w. (m, w)) (let w : n ≡ n + 0 = omega arith in w) (sym at)) ∙ h)
get_numbered {A} f n (z ∷ xs) (suc i) b k x y below at e h =
    get_right (f (n, z)) (flat_map f (enumerate_from (n + 1) xs)) k (length (flat_map f (enumerate_from (n + 1) (take i xs))) + b)
    (let l = length-append (f (n, z)) (flat_map f (enumerate_from (n + 1) (take i xs))) in omega (arith, e, l))
    ∙ get_numbered f (n + 1) xs i b (length (flat_map f (enumerate_from (n + 1) (take i xs))) + b) x y (omega (arith, below)) at refl
    (ap (λ (m : ℕ). slice_get (f (m, x)) b) (let w : n + 1 + i ≡ n + suc i = omega arith in w) ∙ h)

module _ (d : Design) (keys : List ProcessKey) (are : map (process_at d) keys ≡ map (λ b. Some b) (processes_of d).processes) where
  -- from this number on are the processes of an instance
  pub keys_from : (k i : ℕ) (r : Instance) → k ≡ first_number d i → i < length d.instances → r ≡ get_or d.instances i r → HaveKeys d keys k (i, r)
  keys_from k i r number below at b block found =
      let here : slice_get (processes_of d).processes (k + b) ≡ Some (process i (signals_in d r.variant) block) =
      get_numbered (processes_at d) 0 d.instances i b (k + b) r (process i (signals_in d r.variant) block) below at (ap (λ (m : ℕ). m + b) number)
      (ap (λ (m : ℕ). slice_get (processes_at d (m, r)) b) (let z : 0 + i ≡ i = omega arith in z) ∙ get_map (process i (signals_in d r.variant)) (blocks_in d r.variant) b block found) in
      let m = get_mapped (process_at d) keys (k + b) (Some (process i (signals_in d r.variant) block)) (ap (λ l. slice_get l (k + b)) are ∙ get_map (λ p. Some p) (processes_of d).processes (k + b) (process i (signals_in d r.variant) block) here) in
      record { key = m.from; found = m.found; is = m.is }

  pub number_next : (k next i : ℕ) (r : Instance) → k ≡ first_number d i → i < length d.instances → r ≡ get_or d.instances i r → next ≡ k + length (blocks_in d r.variant) → next ≡ first_number d (i + 1)
  number_next k next i r number below at e =
      let all = plain_more (processes_at d) [] (flat_map (processes_at d) (enumerate_from 0 (take i d.instances))) (flat_map (processes_at d) (enumerate_from 0 (take i d.instances)) ++ processes_at d (i, r)) d.instances i r below at refl refl in
      let longer : length (flat_map (processes_at d) (enumerate_from 0 (take i d.instances)) ++ processes_at d (i, r)) ≡ first_number d (i + 1) = ap length all in
      let both = length-append (flat_map (processes_at d) (enumerate_from 0 (take i d.instances))) (processes_at d (i, r)) in
      let blocks : length (processes_at d (i, r)) ≡ length (blocks_in d r.variant) = length-map (blocks_in d r.variant) (process i (signals_in d r.variant)) in
      omega (arith, e, number, longer, both, blocks)

  -- they are among all
  pub keys_within : (k : ℕ) (q : Numbered) → HaveKeys d keys k q → (b : ℕ) → b < length (blocks_in d q.1.variant) → k + b < length keys
  keys_within k q have b below = let found = some_at (blocks_in d q.1.variant) b below in let key = have b found.0 found.1 in slice_get_within keys (k + b) key.key key.found

-- ---- all rows

slots_below : (d : Design) (n : ℕ) (ns : List Shape) (count : ℕ) (spots : List Spot) (rows : List FullRow) → AreTold d n ns spots rows → EachOf (λ (spot : Spot). (spot.0).slot < count) spots → SlotsBelow count rows
slots_below d n ns count [] [] h g = tt
slots_below d n ns count [] (row ∷ rows) h g = absurd h
slots_below d n ns count (spot ∷ spots) [] h g = absurd h
slots_below d n ns count (spot ∷ spots) (row ∷ rows) h g = (subst (λ (k : ℕ). k < count) (sym (h.0).slot) g.0, slots_below d n ns count spots rows h.1 g.1)

module _ (d : Design) (kept : IsDesign d) where
  site_below : (s : Site) → IsIn s (sites_of d) → s.slot < slot_count d
  site_below s i = each_member (λ (k : ℕ). k < slot_count d) (all_slots d.variants) kept.below s.slot (subst (λ l. IsIn s.slot l) (sites_slots d) (map_in site_slot (sites_of d) s i))

  variant_below : (v : ℕ) (o : Option Variant) → slice_get d.variants v ≡ o → (s : Site) → IsIn s (unwrap_or (option_map (sites_in v) o) []) → s.slot < slot_count d
  variant_below v None e s i = absurd i
  variant_below v (Some w) e s i = site_below s (flat_in (λ (u : ℕ × Variant). sites_in u.0 u.1) (enumerate_from 0 d.variants) (v, w) s (at_number d.variants v w e) i)

  pub spots_below : EachOf (λ (spot : Spot). (spot.0).slot < slot_count d) (spots_by_instance d)
  spots_below =
      each_flat (λ (spot : Spot). (spot.0).slot < slot_count d) (instance_spots d) (instances_of d) (λ q i.
      each_map (λ (spot : Spot). (spot.0).slot < slot_count d) (λ (s : Site). (s, q.0)) (variant_sites d q.1.variant) (λ s j. variant_below q.1.variant (slice_get d.variants q.1.variant) refl s j))

  pub sorted_told : (n : ℕ) (ns : List Shape) (rows sorted : List FullRow) → AreTold d n ns (spots_by_instance d) rows → AreSorted rows sorted → AreTold d n ns (all_spots d) sorted
  sorted_told n ns rows sorted told are =
      subst (AreTold d n ns (all_spots d)) (sym (are (slot_count d) (slots_below d n ns (slot_count d) (spots_by_instance d) rows told spots_below)))
      (subst (λ l. AreTold d n ns l (sorted_rows (slot_count d) rows)) (all_sorted d kept) (told_sorted d n ns (slot_count d) (spots_by_instance d) rows told))

-- ---- a block by its number

pub block_there : (d : Design) → IsDesign d → (i : ℕ) (r : Instance) → slice_get d.instances i ≡ Some r → (k : ℕ) (b : Block) → slice_get (blocks_in d r.variant) k ≡ Some b → IsBlockOf d i r.variant b
block_there d kept i r at k b found =
    let of = some_at d.variants r.variant (kept.variants i r at) in
    record {
      instance = r;
      of = of.0;
      stands = at;
      variant = refl;
      named = of.1;
      among = in_at (of.0).blocks k b (sym (ap (λ o. slice_get (unwrap_or (option_map (λ (w : Variant). w.blocks) o) []) k) of.1) ∙ found);
    }

-- the number behind the last block fits where each before it does
pub room : (first n m limit : ℕ) → first < limit → ((b : ℕ) → b < n → first + b < m) → m < limit → first + n < limit
room first zero m limit fits h l = omega (arith, fits)
room first (suc n) m limit fits h l = let k = h n (omega arith) in omega (arith, k, l)
