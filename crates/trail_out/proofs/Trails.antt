-- The text of a table's rows by the samples of a trace is the trail of their world.
use Rattle.std.proofs.Common.{◌≡◌, ℕ, zero, suc, ◌+◌, Bool, true, false, true≢false, cond, List, [], ◌∷◌, ◌++◌, length, map, codes, Option, Some, None, option_map, position, bytes_eq, if◌then◌else◌, refl, sym, ap, ap₂, ◌∙◌, subst, arith, lt-ltb, nat_lt, not}
use Rattle.std.specs.Prelude.{slice_get, slice_index_or, option_and_then, filter}
use Rattle.std.specs.List.{enumerate_from, flat_map, position_or_len, IsDistinct, AllByRecursion}
use Rattle.std.specs.Fmt.{decimal}
use Rattle.std.proofs.lemmas.Bool.{false_from_ne_true}
use Rattle.std.proofs.lemmas.Option.{none-some, same_Some, get_or_from_slice_get, slice_get_within}
use Rattle.std.proofs.lemmas.Slice.Eq.{bytes_eq-Decides}
use Rattle.std.proofs.lemmas.Map.Keys.{IsDistinct-head, IsDistinct-tail}
use Rattle.bv_core.specs.declared.reference.Binding.{Binding}
use Rattle.bv_core.specs.declared.reference.Sample.{Sample}
use Rattle.exec_core.specs.Block.{Name}
use Rattle.list_core.specs.Lists.{from}
use Rattle.symtab.specs.declared.parts.GenVariable.{GenVariable}
use Rattle.symtab.specs.declared.parts.InstanceParts.{InstanceParts}
use Rattle.symtab.specs.declared.parts.Row.{Row}
use Rattle.symtab.specs.declared.parts.Slot.{Slot}
use Rattle.symtab.specs.declared.parts.TableParts.{TableParts}
use Rattle.symtab.specs.Shape.{IsTable, IsRow, IsSlot, variants_of}
use Rattle.symtab.specs.Lookups.{instances_of, row_of, enable_of, binding_of}
use Rattle.symtab.proofs.Rows as rows
use Rattle.trace_core.specs.Samples.{Samples}
use Rattle.world_core.specs.World as world
use Rattle.world_core.specs.World.{place_text, shown_by, shown_text, gen_text, name_text, path_in, trail_line, position_text}
use Rattle.list_core.proofs.Listing.{flat_map_same}
use Rattle.trace_world.specs.TraceWorld.{is_on, status_by, value_by, gen_of, shows_by, trace_world}
use Rattle.trail_out.specs.Texts.{variable_text, cells_text, line_text, no_slot, no_instance, path_at, row_text, rows_text, slot_text, cycle_text, TextsAreTrails}
use Rattle.trail_out.proofs.Standing.{places_count}

-- ---- names that differ

at_behind : (P : Name → Type 0) (names : List Name) → AllByRecursion P names → (j : ℕ) (x : Name) → slice_get names j ≡ Some x → P x
at_behind P [] h j x e = absurd (none-some x e)
at_behind P (y ∷ names) h zero x e = subst P (same_Some y x e) h.0
at_behind P (y ∷ names) h (suc j) x e = at_behind P names h.1 j x e

first_at : (names : List Name) → IsDistinct bytes_eq names → (j : ℕ) (x : Name) → slice_get names j ≡ Some x → position_or_len (bytes_eq x) names ≡ j
first_at [] apart j x e = absurd (none-some x e)
first_at (y ∷ names) apart zero x e =
    ap (λ b. cond (not b) (1 + position_or_len (bytes_eq x) names) 0) ((bytes_eq-Decides x y).1 (sym (same_Some y x e)))
first_at (y ∷ names) apart (suc j) x e =
    let other : bytes_eq y x ≡ false = at_behind (λ z. bytes_eq y z ≡ false) names (IsDistinct-head bytes_eq y names apart) j x e in
    let differs : bytes_eq x y ≡ false = false_from_ne_true (bytes_eq x y) (λ t. true≢false (sym ((bytes_eq-Decides y x).1 (sym ((bytes_eq-Decides x y).0 t))) ∙ other)) in
    ap (λ b. cond (not b) (1 + position_or_len (bytes_eq x) names) 0) differs
    ∙ ap (λ k. 1 + k) (first_at names (IsDistinct-tail bytes_eq y names apart) j x e)
    ∙ (let next : 1 + j ≡ suc j = omega arith in next)

placed_at : (names : List Name) → IsDistinct bytes_eq names → (j : ℕ) (x : Name) → slice_get names j ≡ Some x → position (bytes_eq x) names ≡ Some j
placed_at names apart j x e =
    let first = first_at names apart j x e in
    ap (λ k. cond (nat_lt k (length names)) (Some k) None) first
    ∙ ap (λ b. cond b (Some j) None) (lt-ltb j (length names) (slice_get_within names j x e))

-- ---- a line

variables_same : (gens : List GenVariable) → flat_map variable_text gens ≡ flat_map gen_text (map gen_of gens)
variables_same [] = refl
variables_same (g ∷ gens) = ap (λ l. variable_text g ++ l) (variables_same gens)

path_same : (list : List InstanceParts) (i : ℕ) → (slice_index_or list i no_instance).path ≡ slice_index_or (map (λ (p : InstanceParts). p.path) list) i (codes "")
path_same [] i = refl
path_same (p ∷ list) zero = refl
path_same (p ∷ list) (suc i) = path_same list i

cells_same : (samples : ℕ → Sample) (b : Name → Option Binding) (names : List Name) (cells : List Binding) → length names ≡ length cells
    → ((j : ℕ) (x : Name) (cell : Binding) → slice_get names j ≡ Some x → slice_get cells j ≡ Some cell → b x ≡ Some cell)
    → cells_text samples names cells ≡ flat_map (name_text (λ x. shown_by (status_by (b x)) (value_by samples (b x)))) names
cells_same samples b [] cells e h = refl
cells_same samples b (x ∷ names) [] e h = cc
cells_same samples b (x ∷ names) (cell ∷ cells) e h =
    ap₂ (λ (o : Option Binding) (rest : List ℕ). (codes " " ++ x ++ codes "=" ++ shown_text (shown_by (status_by o) (value_by samples o))) ++ rest) (sym (h 0 x cell refl refl))
    (cells_same samples b names cells (suc_same e) (λ j y c. h (suc j) y c))
  where
    suc_same : suc (length names) ≡ suc (length cells) → length names ≡ length cells
    suc_same e = omega arith

module _ (parts : TableParts) (table : IsTable parts) (s : Samples) (t : ℕ) where
  module _ (k : ℕ) (slot : Slot) (at : slice_get parts.slots k ≡ Some slot) where
    fits : IsSlot parts.nodes (length parts.variants) (variants_of parts.instances) slot
    fits = rows.slot_fits parts table k slot at

    -- a row of an instance
    module _ (j i : ℕ) (row : Row) (listed : slice_get (instances_of parts k) j ≡ Some i) (there : slice_get slot.rows j ≡ Some row) where
      row_is : row_of parts k i ≡ Some row
      row_is = rows.row_at parts k slot j i at listed ∙ there

      enable_is : enable_of parts k i ≡ Some row.on
      enable_is = ap (option_map (λ (r : Row). r.on)) row_is

      long : length slot.names ≡ length row.cells
      long = sym (subst (λ (r : Row). IsRow parts.nodes slot.names r) (get_or_from_slice_get slot.rows j row row there) (fits.rows j row (slice_get_within slot.rows j row there))).count

      binding_is : (m : ℕ) (x : Name) (cell : Binding) → slice_get slot.names m ≡ Some x → slice_get row.cells m ≡ Some cell → binding_of parts k i x ≡ Some cell
      binding_is m x cell named e =
          ap (option_and_then (λ (r : Row). option_and_then (slice_get r.cells) (option_and_then (λ (z : Slot). position (bytes_eq x) z.names) (slice_get parts.slots k)))) row_is
          ∙ ap (λ o. option_and_then (slice_get row.cells) (option_and_then (λ (z : Slot). position (bytes_eq x) z.names) o)) at
          ∙ ap (option_and_then (slice_get row.cells)) (placed_at slot.names fits.names m x named)
          ∙ e

      line_same : line_text t slot (path_at parts i) (s.sample t) row.cells ≡ trail_line t (shows_by parts slot) (path_in (trace_world parts s) i) ((trace_world parts s).shown t k i)
      line_same =
          ap (λ p. line_text t slot p (s.sample t) row.cells) (path_same parts.instances i)
          ∙ ap₂ (λ (g c : List ℕ). decimal t ++ codes " " ++ place_text slot.line ++ codes " " ++ path_in (trace_world parts s) i ++ g ++ c ++ codes "\n") (variables_same slot.gens)
          (cells_same (s.sample t) (λ x. binding_of parts k i x) slot.names row.cells long binding_is)

    rows_same : (n : ℕ) (is : List ℕ) (list : List Row) → length is ≡ length list
        → ((j i : ℕ) → slice_get is j ≡ Some i → slice_get (instances_of parts k) (n + j) ≡ Some i) → ((j : ℕ) (row : Row) → slice_get list j ≡ Some row → slice_get slot.rows (n + j) ≡ Some row)
        → rows_text t (s.sample t) parts slot is list
        ≡ flat_map (λ i. trail_line t (shows_by parts slot) (path_in (trace_world parts s) i) ((trace_world parts s).shown t k i)) (filter (λ i. is_on (s.sample t) (enable_of parts k i)) is)
    rows_same n [] list e f g = refl
    rows_same n (i ∷ is) [] e f g = cc
    rows_same n (i ∷ is) (row ∷ list) e f g =
        let first : n + 0 ≡ n = omega arith in
        let listed : slice_get (instances_of parts k) n ≡ Some i = ap (slice_get (instances_of parts k)) (sym first) ∙ f 0 i refl in
        let there : slice_get slot.rows n ≡ Some row = ap (slice_get slot.rows) (sym first) ∙ g 0 row refl in
        let rest = rows_same (n + 1) is list (omega (arith, e)) (λ j k' h. ap (slice_get (instances_of parts k)) (let z : n + 1 + j ≡ n + suc j = omega arith in z) ∙ f (suc j) k' h)
        (λ j r h. ap (slice_get slot.rows) (let z : n + 1 + j ≡ n + suc j = omega arith in z) ∙ g (suc j) r h) in
        ap (λ l. row_text t (s.sample t) parts slot i row ++ l) rest
        ∙ by_on (is_on (s.sample t) (Some row.on)) (sym (ap (is_on (s.sample t)) (enable_is n i row listed there))) (line_same n i row listed there)
      where
        line : ℕ → List ℕ
        line i = trail_line t (shows_by parts slot) (path_in (trace_world parts s) i) ((trace_world parts s).shown t k i)

        by_on : (b : Bool) → b ≡ is_on (s.sample t) (enable_of parts k i) → line_text t slot (path_at parts i) (s.sample t) row.cells ≡ trail_line t (shows_by parts slot) (path_in (trace_world parts s) i) ((trace_world parts s).shown t k i)
            → (if b then line_text t slot (path_at parts i) (s.sample t) row.cells else [])
            ++ flat_map (λ i. trail_line t (shows_by parts slot) (path_in (trace_world parts s) i) ((trace_world parts s).shown t k i)) (filter (λ i. is_on (s.sample t) (enable_of parts k i)) is)
            ≡ flat_map (λ i. trail_line t (shows_by parts slot) (path_in (trace_world parts s) i) ((trace_world parts s).shown t k i))
            (cond (is_on (s.sample t) (enable_of parts k i)) (i ∷ filter (λ i. is_on (s.sample t) (enable_of parts k i)) is) (filter (λ i. is_on (s.sample t) (enable_of parts k i)) is))
        by_on true on same =
            ap (λ l. l ++ flat_map line (filter (λ i. is_on (s.sample t) (enable_of parts k i)) is)) same
            ∙ ap (λ c. flat_map line (cond c (i ∷ filter (λ i. is_on (s.sample t) (enable_of parts k i)) is) (filter (λ i. is_on (s.sample t) (enable_of parts k i)) is))) on
        by_on false on same = ap (λ c. flat_map line (cond c (i ∷ filter (λ i. is_on (s.sample t) (enable_of parts k i)) is) (filter (λ i. is_on (s.sample t) (enable_of parts k i)) is))) on

    slot_same : slot_text t (s.sample t) parts k ≡ position_text (trace_world parts s) t (k, shows_by parts slot)
    slot_same =
        ap (λ (z : Slot). rows_text t (s.sample t) parts z (instances_of parts k) z.rows) (get_or_from_slice_get parts.slots k slot no_slot at)
        ∙ rows_same 0 (instances_of parts k) slot.rows (places_count parts table k slot at)
        (λ j i h. ap (slice_get (instances_of parts k)) (let z : 0 + j ≡ j = omega arith in z) ∙ h) (λ j row h. ap (slice_get slot.rows) (let z : 0 + j ≡ j = omega arith in z) ∙ h)

  by_number : (n : ℕ) (slots : List Slot) → ((j : ℕ) (slot : Slot) → slice_get slots j ≡ Some slot → slice_get parts.slots (n + j) ≡ Some slot)
      → flat_map (slot_text t (s.sample t) parts) (from n (length slots)) ≡ flat_map (position_text (trace_world parts s) t) (enumerate_from n (map (shows_by parts) slots))
  by_number n [] h = refl
  by_number n (slot ∷ slots) h =
      ap₂ (λ (a b : List ℕ). a ++ b) (slot_same n slot (ap (slice_get parts.slots) (let z : n ≡ n + 0 = omega arith in z) ∙ h 0 slot refl))
      (by_number (n + 1) slots (λ j z e. ap (slice_get parts.slots) (let q : n + 1 + j ≡ n + suc j = omega arith in q) ∙ h (suc j) z e))

  cycle_same : cycle_text s parts t ≡ world.cycle_text (trace_world parts s) t
  cycle_same = by_number 0 parts.slots (λ j slot e. ap (slice_get parts.slots) (let z : 0 + j ≡ j = omega arith in z) ∙ e)

pub texts_are_trails : TextsAreTrails
texts_are_trails parts table s = flat_map_same (cycle_text s parts) (world.cycle_text (trace_world parts s)) (from 0 s.cycles) (λ t i. cycle_same parts table s t)
