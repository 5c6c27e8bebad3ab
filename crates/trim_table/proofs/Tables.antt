-- The table of a compiled design keeps every rule of a symbol table.
use Rattle.std.proofs.Common.{◌≡◌, ℕ, zero, suc, ◌+◌, ◌<◌, ◌≤◌, ◌==◌, ◌^◌, Bool, true, false, cond, ℤ, pos, negsuc, List, [], ◌∷◌, length, map, Option, Some, None, option_map, int_le, inl, inr, refl, sym, ap, ◌∙◌, subst, arith, eqb-true, T}
use Rattle.std.specs.Prelude.{slice_get, All, filter}
use Rattle.std.specs.List.{enumerate_from}
use Rattle.std.specs.Int.Signed.{le_z_yes}
use Rattle.std.proofs.lemmas.List.{length-map}
use Rattle.std.proofs.lemmas.List.Elements.{All-nil, All-cons}
use Rattle.std.proofs.lemmas.List.FromFn.{length-enumerate_from}
use Rattle.std.proofs.lemmas.Option.{none-some, same_Some, slice_get-map}
use Rattle.tree_core.specs.Tree.{Whole}
use Rattle.tree_core.specs.Width.{IsWhole, tree_width}
use Rattle.tree_core.specs.Sample.{at_start}
use Rattle.tree_core.proofs.Same.{both_true}
use Rattle.tree_core.proofs.Folding.{values_fit}
use Rattle.tree_core.proofs.Samples.{some_given}
use Rattle.exec_core.specs.Block.{Name}
use Rattle.list_core.specs.Lists.{IsIn, IsNotIn, AreApart, from}
use Rattle.exec_core.specs.Whole.{Place}
use Rattle.list_core.proofs.Lists.{each_member}
use Rattle.design_core.specs.declared.design.Instance.{Instance}
use Rattle.design_core.specs.Design.{Gens, IsInRange, AreInRange, Variant, Design}
use Rattle.design_core.specs.WellFormed.{AreFew, IsVariant}
use Rattle.design_exec.specs.Processes.{Numbered}
use Rattle.net_core.specs.Nodes.{Shape, tree_of, width_at}
use Rattle.net_core.specs.Nets.{NetParts}
use Rattle.net_core.proofs.TreeLists.{trees_length}
use Rattle.symtab.specs.declared.parts.GenVariable.{GenVariable}
use Rattle.symtab.specs.declared.parts.NodeName.{NodeName}
use Rattle.symtab.specs.declared.parts.VariantParts.{VariantParts}
use Rattle.symtab.specs.declared.parts.InstanceParts.{InstanceParts}
use Rattle.symtab.specs.declared.parts.Row as table
use Rattle.symtab.specs.declared.parts.Slot.{Slot}
use Rattle.symtab.specs.declared.parts.TableParts.{TableParts}
use Rattle.symtab.specs.Shape.{IsShort, IsWidth, IsGenNumber, AreGens, variants_of, paths_of, IsRow, IsSlot, IsTable}
use Rattle.symtab.specs.Places.{places_from, places}
use Rattle.check_exec.specs.Premises.{IsSound}
use Rattle.check_exec.proofs.Facts.{in_at, any_in}
use Rattle.check_exec.proofs.Givens.{paths_apart}
use Rattle.place_core.specs.Orders.{signal_at, TellsOrder}
use Rattle.check_exec.proofs.Orders.{orders_are_accepted}
use Rattle.world_core.specs.declared.mode.Mode.{Mode}
use Rattle.world_core.specs.Sites.{Site, slot_count, sites_of, sites_in_order, instances_with, Spot, spots_of, all_spots}
use Rattle.world_core.specs.Kept.{enable_tree}
use Rattle.list_core.proofs.Listing.{map_in, map_from, flat_in, from_in, from_length, no_more}
use Rattle.world_laws.proofs.SitesOf.{order_slots, ordered}
use Rattle.lower_core.specs.Shape.{gen_part, variant_part, instance_part, slot_part}
use Rattle.trim_core.specs.Named.{named}
use Rattle.trim_core.specs.Trimmed.{RowsTold, SlotsTold, bare_slot, IsKeptNet, TellsDesign}
use Rattle.trim_table.specs.Laws.{TrimmedAreTables}
use Rattle.trim_table.proofs.Apart.{texts_apart}
use Rattle.trim_table.proofs.NodeNames.{node_names_apart}
use Rattle.trim_table.proofs.Sites.{SiteFits, sites_fit}
use Rattle.trim_table.proofs.Rows.{enable_width, row_fits}

-- ---- numbers

as_test : (b : Bool) → b ≡ true → T b
as_test b e = subst (λ c. T c) (sym e) tt

number_fits : (n : ℤ) → IsInRange n → IsGenNumber n
number_fits n h =
    let both = both_true (int_le (negsuc 4611686018427387903) n) (int_le n (pos 4611686018427387904)) h in
    record { least = le_z_yes (as_test (int_le (negsuc 4611686018427387903) n) both.0); most = le_z_yes (as_test (int_le n (pos 4611686018427387904)) both.1) }

numbers_fit : (gens : Gens) → AreInRange gens → All (λ (g : GenVariable). IsGenNumber g.value) (map gen_part gens)
numbers_fit [] h = All-nil (λ (g : GenVariable). IsGenNumber g.value)
numbers_fit (g ∷ gens) h = All-cons (λ (v : GenVariable). IsGenNumber v.value) (gen_part g) (map gen_part gens) (number_fits g.1 h.0) (numbers_fit gens h.1)

gens_fit : (gens : Gens) → AreFew gens → AreInRange gens → AreGens (map gen_part gens)
gens_fit gens few h = record { short = subst (λ k. k < 2 ^ 32) (sym (length-map gens gen_part)) few; numbers = numbers_fit gens h }

-- ---- lists

all_from : {A : Type 0} (P : A → Type 0) (xs : List A) → ((i : ℕ) (x : A) → slice_get xs i ≡ Some x → P x) → All P xs
all_from P [] h = All-nil P
all_from P (x ∷ xs) h = All-cons P x xs (h 0 x refl) (all_from P xs (λ i y e. h (suc i) y e))

from_apart : (k n : ℕ) → AreApart (from k n)
from_apart k zero = tt
from_apart k (suc n) = (not_later k (k + 1) n (omega arith), from_apart (k + 1) n)
  where
    not_later : (a m n : ℕ) → a < m → IsNotIn a (from m n)
    not_later a m zero l = tt
    not_later a m (suc n) l = ((λ e. omega (arith, e, l)), not_later a (m + 1) n (omega (arith, l)))

-- ---- what the shape tells

module _ (d : Design) (sound : IsSound d) where
  few_variants : length d.variants ≤ 4096
  few_variants =
      let less = no_more (from 0 (length d.variants)) (map (λ (r : Instance). r.variant) d.instances) (from_apart 0 (length d.variants)) (λ z i.
      let below = (from_in 0 (length d.variants) z i).1 in
      let found = any_in (λ (r : Instance). r.variant == z) d.instances (sound.kept.instances z (omega (arith, below))) in
      subst (λ k. IsIn k (map (λ (r : Instance). r.variant) d.instances)) (eqb-true found.0.variant z found.1.1) (map_in (λ (r : Instance). r.variant) d.instances found.0 found.1.0)) in
      omega (arith, less, from_length 0 (length d.variants), length-map d.instances (λ (r : Instance). r.variant), sound.kept.few)

  few_slots : length (sites_in_order d) ≤ 200000
  few_slots =
      let count : length (sites_in_order d) ≡ slot_count d = sym (length-map (sites_in_order d) (λ (s : Site). s.slot)) ∙ ap length (order_slots d sound.kept) ∙ from_length 0 (slot_count d) in
      omega (arith, count, sound.kept.statements)

  variant_fits : (v : Variant) → IsIn v d.variants → AreGens (variant_part v).gens
  variant_fits v i =
      let variant : IsVariant d.variants v = each_member (IsVariant d.variants) d.variants sound.kept.each v i in gens_fit v.params variant.few_params variant.params

  site_fits : (s : Site) → IsIn s (sites_in_order d) → SiteFits d s
  site_fits s i = each_member (SiteFits d) (sites_of d) (sites_fit d sound) s (ordered d sound.kept s i).among

-- ---- the parts

module _ (d : Design) (pairs : List (ℕ × ℕ)) (mode : Mode) (net : NetParts) (parts : TableParts) (sound : IsSound d) (order : TellsOrder d pairs) (few : length net.nodes < 2 ^ 64)
    (kept : IsKeptNet d (length pairs) mode net) (tells : TellsDesign d (length pairs) mode net.nodes parts) where
  instances_are : parts.instances ≡ map instance_part d.instances
  instances_are = ap (λ (p : TableParts). p.instances) tells.shape

  variants_are : parts.variants ≡ map variant_part d.variants
  variants_are = ap (λ (p : TableParts). p.variants) tells.shape

  slots_are : map bare_slot parts.slots ≡ map slot_part (sites_in_order d)
  slots_are = ap (λ (p : TableParts). p.slots) tells.shape

  variant_count : length parts.variants ≡ length d.variants
  variant_count = ap length variants_are ∙ length-map d.variants variant_part

  instance_count : length parts.instances ≡ length d.instances
  instance_count = ap length instances_are ∙ length-map d.instances instance_part

  slot_number : length parts.slots ≡ length (sites_in_order d)
  slot_number = sym (length-map parts.slots bare_slot) ∙ ap length slots_are ∙ length-map (sites_in_order d) slot_part

  short : {A : Type 0} (list : List A) (n : ℕ) → length list ≡ n → n ≤ 200000 → IsShort list
  short list n e l = omega (arith, e, l)

  -- ---- nodes

  node_in : (i : ℕ) → i < length net.nodes → IsWidth (width_at net.nodes i)
  node_in i l = bounds (tree_of net.nodes i) (kept.is_net.shared.trees.whole i (subst (λ m. i < m) (sym (trees_length net.nodes)) l))
    where
      bounds : (t : Whole) → IsWhole t → IsWidth (tree_width t)
      bounds t w =
          let v = values_fit at_start some_given t w in
          record { some = subst (λ k. 1 ≤ k) v.width v.bits.some; most = subst (λ k. k ≤ 128) v.width v.bits.most }

  widths_fit : (k : ℕ) (ns : List Shape) → ((j : ℕ) → j < length ns → k + j < length net.nodes) → All (λ (node : NodeName). IsWidth node.width) (map (named net.nodes) (enumerate_from k ns))
  widths_fit k [] h = All-nil (λ (node : NodeName). IsWidth node.width)
  widths_fit k (x ∷ ns) h =
      All-cons (λ (node : NodeName). IsWidth node.width) (named net.nodes (k, x)) (map (named net.nodes) (enumerate_from (k + 1) ns)) (node_in k (first (h 0 (omega arith))))
      (widths_fit (k + 1) ns (λ j l. next j (h (suc j) (omega (arith, l)))))
    where
      first : k + 0 < length net.nodes → k < length net.nodes
      first l = omega (arith, l)

      next : (j : ℕ) → k + suc j < length net.nodes → k + 1 + j < length net.nodes
      next j l = omega (arith, l)

  -- ---- instances

  paths_same : (list : List Instance) → map (λ (p : InstanceParts). p.path) (map instance_part list) ≡ map (λ (r : Instance). r.path) list
  paths_same [] = refl
  paths_same (r ∷ list) = ap (λ l. r.path ∷ l) (paths_same list)

  paths_are : paths_of parts.instances ≡ map (λ (r : Instance). r.path) d.instances
  paths_are = ap (map (λ (p : InstanceParts). p.path)) instances_are ∙ paths_same d.instances

  instance_fits : (i : ℕ) (p : InstanceParts) → slice_get (map instance_part d.instances) i ≡ Some p → p.variant < length parts.variants
  instance_fits i p e =
      let found = mapped (slice_get d.instances i) p (sym (slice_get-map instance_part d.instances i) ∙ e) in
      subst (λ (q : InstanceParts). q.variant < length parts.variants) found.1.1 (subst (λ m. found.0.variant < m) (sym variant_count) (sound.kept.variants i found.0 found.1.0))
    where
      mapped : (o : Option Instance) (q : InstanceParts) → option_map instance_part o ≡ Some q → (r : Instance) × ((o ≡ Some r) × (instance_part r ≡ q))
      mapped None q e = absurd (none-some q e)
      mapped (Some r) q e = (r, (refl, same_Some (instance_part r) q e))

  -- the instances of a variant
  places_are : (v n : ℕ) (list : List Instance) → places_from n v (map (λ (p : InstanceParts). p.variant) (map instance_part list)) ≡ map (λ (q : Numbered). q.0) (filter (λ (q : Numbered). q.1.variant == v) (enumerate_from n list))
  places_are v n [] = refl
  places_are v n (r ∷ list) = by_test (r.variant == v) (places_are v (n + 1) list)
    where
      by_test : (b : Bool) → places_from (n + 1) v (map (λ (p : InstanceParts). p.variant) (map instance_part list)) ≡ map (λ (q : Numbered). q.0) (filter (λ (q : Numbered). q.1.variant == v) (enumerate_from (n + 1) list))
          → cond b (n ∷ places_from (n + 1) v (map (λ (p : InstanceParts). p.variant) (map instance_part list))) (places_from (n + 1) v (map (λ (p : InstanceParts). p.variant) (map instance_part list)))
          ≡ map (λ (q : Numbered). q.0) (cond b ((n, r) ∷ filter (λ (q : Numbered). q.1.variant == v) (enumerate_from (n + 1) list)) (filter (λ (q : Numbered). q.1.variant == v) (enumerate_from (n + 1) list)))
      by_test true rest = ap (λ l. n ∷ l) rest
      by_test false rest = rest

  variant_places : (v : ℕ) → places v (variants_of parts.instances) ≡ instances_with d v
  variant_places v = ap (λ (is : List InstanceParts). places v (map (λ (p : InstanceParts). p.variant) is)) instances_are ∙ places_are v 0 d.instances

  filter_short : {A : Type 0} (test : A → Bool) (xs : List A) → length (filter test xs) ≤ length xs
  filter_short test [] = omega arith
  filter_short test (x ∷ xs) = by_test (test x) (filter_short test xs)
    where
      by_test : (b : Bool) → length (filter test xs) ≤ length xs → length (cond b (x ∷ filter test xs) (filter test xs)) ≤ suc (length xs)
      by_test true l = omega (arith, l)
      by_test false l = omega (arith, l)

  few_places : (v : ℕ) → length (instances_with d v) ≤ 4096
  few_places v =
      let one : length (instances_with d v) ≡ length (filter (λ (q : Numbered). q.1.variant == v) (enumerate_from 0 d.instances)) = length-map (filter (λ (q : Numbered). q.1.variant == v) (enumerate_from 0 d.instances)) (λ (q : Numbered). q.0) in
      let all : length (enumerate_from 0 d.instances) ≡ length d.instances = length-enumerate_from 0 d.instances in
      let less = filter_short (λ (q : Numbered). q.1.variant == v) (enumerate_from 0 d.instances) in
      omega (arith, one, all, less, sound.kept.few)

  -- ---- rows

  count_same : length pairs ≡ length order.order
  count_same = sym (length-map pairs (signal_at d)) ∙ ap length order.signals ∙ length-map order.order (λ (p : Place). Some p)

  one_bit : (p : Spot) → IsIn p (all_spots d) → (T : Whole) → enable_tree d (length pairs) p ≡ Some T → tree_width T ≡ 1
  one_bit p i T e = enable_width d sound order.order (orders_are_accepted d pairs sound order) p i T (ap (λ n. enable_tree d n p) (sym count_same) ∙ e)

  rows_fit : (names : List Name) → IsShort names → (spots : List Spot) → ((p : Spot) → IsIn p spots → (IsIn p (all_spots d)) × (p.0.names ≡ names)) → (rows : List table.Row) → RowsTold d (length pairs) mode net.nodes spots rows
      → All (IsRow parts.nodes names) rows
  rows_fit names short_names [] among [] h = All-nil (IsRow parts.nodes names)
  rows_fit names short_names [] among (row ∷ rows) h = absurd h
  rows_fit names short_names (p ∷ spots) among [] h = absurd h
  rows_fit names short_names (p ∷ spots) among (row ∷ rows) h =
      let here = among p (inl refl) in
      All-cons (IsRow parts.nodes names) row rows
      (subst (λ ns. IsRow parts.nodes ns row) here.1
      (row_fits net.nodes parts.nodes tells.names d (length pairs) mode p (λ T e. one_bit p here.0 T e) (subst (λ ns. IsShort ns) (sym here.1) short_names) row h.0))
      (rows_fit names short_names spots (λ q i. among q (inr i)) rows h.1)

  rows_long : (spots : List Spot) (rows : List table.Row) → RowsTold d (length pairs) mode net.nodes spots rows → length rows ≡ length spots
  rows_long [] [] h = refl
  rows_long [] (row ∷ rows) h = absurd h
  rows_long (p ∷ spots) [] h = absurd h
  rows_long (p ∷ spots) (row ∷ rows) h = ap suc (rows_long spots rows h.1)

  spots_in : (s : Site) → IsIn s (sites_in_order d) → (p : Spot) → IsIn p (spots_of d s) → (IsIn p (all_spots d)) × (p.0.names ≡ s.names)
  spots_in s i p j =
      let found = map_from (λ (k : ℕ). (s, k)) (instances_with d s.variant) p j in
      (flat_in (spots_of d) (sites_in_order d) s p i j, ap (λ (q : Spot). q.0.names) found.1.1)

  -- ---- slots

  slot_fits : (s : Site) → IsIn s (sites_in_order d) → (slot : Slot) → bare_slot slot ≡ slot_part s → RowsTold d (length pairs) mode net.nodes (spots_of d s) slot.rows
      → IsSlot parts.nodes (length parts.variants) (variants_of parts.instances) slot
  slot_fits s i slot same told =
      let fits = site_fits d sound s i in
      let names : slot.names ≡ s.names = ap (λ (z : Slot). z.names) same in
      let variant : slot.variant ≡ s.variant = ap (λ (z : Slot). z.variant) same in
      let line : slot.line ≡ s.line = ap (λ (z : Slot). z.line) same in
      let long : length slot.rows ≡ length (instances_with d s.variant) = rows_long (spots_of d s) slot.rows told ∙ length-map (instances_with d s.variant) (λ (k : ℕ). (s, k)) in
      record {
        variant = subst (λ v. v < length parts.variants) (sym variant) (subst (λ m. s.variant < m) (sym variant_count) fits.variant);
        line = subst (λ l. l < 2 ^ 30) (sym line) fits.line;
        gens = subst AreGens (sym (ap (λ (z : Slot). z.gens) same)) (gens_fit s.gens fits.few_gens fits.gens);
        short_names = subst (λ ns. IsShort ns) (sym names) fits.few_names;
        names = texts_apart slot.names (subst AreApart (sym names) fits.names);
        short_rows = short slot.rows (length (instances_with d s.variant)) long (let l = few_places s.variant in omega (arith, l));
        count = long ∙ ap length (sym (variant_places s.variant)) ∙ ap (λ v. length (places v (variants_of parts.instances))) (sym variant);
        rows = rows_fit slot.names (subst (λ ns. IsShort ns) (sym names) fits.few_names) (spots_of d s) (λ p j. let in_all = spots_in s i p j in (in_all.0, in_all.1 ∙ sym names)) slot.rows told;
      }

  slots_fit : (sites : List Site) → ((s : Site) → IsIn s sites → IsIn s (sites_in_order d)) → (slots : List Slot) → map bare_slot slots ≡ map slot_part sites → SlotsTold d (length pairs) mode net.nodes sites slots
      → All (IsSlot parts.nodes (length parts.variants) (variants_of parts.instances)) slots
  slots_fit [] among [] e h = All-nil (IsSlot parts.nodes (length parts.variants) (variants_of parts.instances))
  slots_fit [] among (slot ∷ slots) e h = absurd h
  slots_fit (s ∷ sites) among [] e h = absurd h
  slots_fit (s ∷ sites) among (slot ∷ slots) e h =
      let head : bare_slot slot ≡ slot_part s = cc in
      let rest : map bare_slot slots ≡ map slot_part sites = cc in
      All-cons (IsSlot parts.nodes (length parts.variants) (variants_of parts.instances)) slot slots (slot_fits s (among s (inl refl)) slot head h.0) (slots_fit sites (λ z i. among z (inr i)) slots rest h.1)

  variant_part_fits : (v : VariantParts) → IsIn v (map variant_part d.variants) → AreGens v.gens
  variant_part_fits v i =
      let found = map_from variant_part d.variants v i in subst (λ (p : VariantParts). AreGens p.gens) (sym found.1.1) (variant_fits d sound found.0 found.1.0)

  pub is_table : IsTable parts
  is_table = record {
    widths = subst (All (λ (node : NodeName). IsWidth node.width)) (sym tells.names) (widths_fit 0 net.nodes (λ j l. omega (arith, l)));
    node_names = texts_apart (map (λ (node : NodeName). node.name) parts.nodes) (subst (λ (ns : List NodeName). AreApart (map (λ (node : NodeName). node.name) ns)) (sym tells.names) (node_names_apart d sound (length pairs) mode net kept few));
    short_variants = short parts.variants (length d.variants) variant_count (let l = few_variants d sound in omega (arith, l));
    variants = subst (All (λ (v : VariantParts). AreGens v.gens)) (sym variants_are) (all_from (λ (v : VariantParts). AreGens v.gens) (map variant_part d.variants) (λ i v e. variant_part_fits v (in_at (map variant_part d.variants) i v e)));
    short_instances = short parts.instances (length d.instances) instance_count (let l = sound.kept.few in omega (arith, l));
    instances = subst (All (λ (p : InstanceParts). p.variant < length parts.variants)) (sym instances_are) (all_from (λ (p : InstanceParts). p.variant < length parts.variants) (map instance_part d.instances) instance_fits);
    paths = texts_apart (paths_of parts.instances) (subst AreApart (sym paths_are) (paths_apart d sound));
    top =
        ap (λ ps. slice_get ps 0) paths_are
        ∙ slice_get-map (λ (r : Instance). r.path) d.instances 0
        ∙ ap (option_map (λ (r : Instance). r.path)) sound.kept.top
        ∙ ap (λ x. Some x) (sym (ap (λ (p : TableParts). p.top) tells.shape));
    short_slots = short parts.slots (length (sites_in_order d)) slot_number (few_slots d sound);
    slots = slots_fit (sites_in_order d) (λ s i. i) parts.slots slots_are tells.slots;
  }

pub trimmed_are_tables : TrimmedAreTables
trimmed_are_tables d pairs mode net parts sound order few kept tells = is_table d pairs mode net parts sound order few kept tells
