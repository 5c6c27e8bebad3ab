-- What the row of an instance has for the names of a slot is what the machine shows of them.
use Rattle.std.proofs.Common.{◌≡◌, ℕ, zero, suc, ◌+◌, ◌<◌, false, true≢false, cond, List, [], ◌∷◌, length, map, Option, Some, None, option_map, position, bytes_eq, refl, sym, ap, ap₂, ◌∙◌, subst, arith, lt-ltb, nat_lt, not}
use Rattle.std.specs.Prelude.{slice_get, option_and_then, get_or, All}
use Rattle.std.specs.List.{position_or_len, IsDistinct, AllByRecursion}
use Rattle.std.specs.Option.{option_map_or}
use Rattle.std.proofs.lemmas.Bool.{false_from_ne_true}
use Rattle.std.proofs.lemmas.List.{length-map}
use Rattle.std.proofs.lemmas.List.Elements.{All-weaker}
use Rattle.std.proofs.lemmas.Option.{none-some, same_Some, slice_get_within, slice_get_read}
use Rattle.std.proofs.lemmas.Slice.Eq.{bytes_eq-Decides}
use Rattle.std.proofs.lemmas.Map.Keys.{IsDistinct-head, IsDistinct-tail}
use Rattle.bv_core.specs.declared.reference.Binding.{Binding}
use Rattle.bv_core.specs.declared.reference.Binding.TheVariants.{Value, Unset, Removed}
use Rattle.bv_core.specs.declared.reference.Ref.{Ref}
use Rattle.bv_core.specs.declared.reference.Ref.TheVariants.{Node, Const}
use Rattle.bv_core.specs.declared.reference.Sample.{Sample}
use Rattle.exec_core.specs.Block.{Name}
use Rattle.symtab.specs.declared.parts.NodeName.{NodeName}
use Rattle.symtab.specs.declared.parts.Row.{Row}
use Rattle.symtab.specs.declared.parts.Slot.{Slot}
use Rattle.symtab.specs.declared.parts.TableParts.{TableParts}
use Rattle.symtab.specs.Shape.{IsFound, IsCell, IsTable, variants_of}
use Rattle.symtab.specs.Places.{places}
use Rattle.symtab.specs.Lookups.{instances_of, row_of, binding_of}
use Rattle.symtab.proofs.Rows.{row_at, row_fits, slot_fits}
use Rattle.trace_core.specs.Samples.{Samples}
use Rattle.trace_world.specs.Fitting.{FitsTable}
use Rattle.trace_world.specs.TraceWorld.{binding_shown}
use Rattle.machine_core.specs.declared.reply.Shown.{Shown}
use Rattle.machine_core.specs.Machine.{told}
use Rattle.dbg_core.specs.Shown.{IsAmong, IsCellAmong, cells_shown, names_of, named_shown, row_shown}

-- ---- names that differ

at_behind : (P : Name → Type 0) (names : List Name) → AllByRecursion P names → (j : ℕ) (x : Name) → slice_get names j ≡ Some x → P x
at_behind P [] h j x e = absurd (none-some x e)
at_behind P (y ∷ names) h zero x e = subst P (same_Some y x e) h.0
at_behind P (y ∷ names) h (suc j) x e = at_behind P names h.1 j x e

first_at : (names : List Name) → IsDistinct bytes_eq names → (j : ℕ) (x : Name) → slice_get names j ≡ Some x → position_or_len (bytes_eq x) names ≡ j
first_at [] apart j x e = absurd (none-some x e)
first_at (y ∷ names) apart zero x e =
    ap (λ b. cond (not b) (1 + position_or_len (bytes_eq x) names) 0) ((bytes_eq-Decides x y).1 (sym (same_Some y x e)))
first_at (y ∷ names) apart (suc j) x e =
    let other : bytes_eq y x ≡ false = at_behind (λ z. bytes_eq y z ≡ false) names (IsDistinct-head bytes_eq y names apart) j x e in
    let differs : bytes_eq x y ≡ false = false_from_ne_true (bytes_eq x y) (λ t. true≢false (sym ((bytes_eq-Decides y x).1 (sym ((bytes_eq-Decides x y).0 t))) ∙ other)) in
    ap (λ b. cond (not b) (1 + position_or_len (bytes_eq x) names) 0) differs
    ∙ ap (λ k. 1 + k) (first_at names (IsDistinct-tail bytes_eq y names apart) j x e)
    ∙ (let next : 1 + j ≡ suc j = omega arith in next)

placed_at : (names : List Name) → IsDistinct bytes_eq names → (j : ℕ) (x : Name) → slice_get names j ≡ Some x → position (bytes_eq x) names ≡ Some j
placed_at names apart j x e =
    let first = first_at names apart j x e in
    ap (λ k. cond (nat_lt k (length names)) (Some k) None) first
    ∙ ap (λ b. cond b (Some j) None) (lt-ltb j (length names) (slice_get_within names j x e))

-- ---- cells

cells_same : (samples : ℕ → Sample) (b : Name → Option Binding) (names : List Name) (cells : List Binding) → length names ≡ length cells
    → ((j : ℕ) (x : Name) (cell : Binding) → slice_get names j ≡ Some x → slice_get cells j ≡ Some cell → b x ≡ Some cell)
    → cells_shown samples names cells ≡ map (λ x. (x, told (binding_shown samples (b x)))) names
cells_same samples b [] cells e h = refl
cells_same samples b (x ∷ names) [] e h = cc
cells_same samples b (x ∷ names) (cell ∷ cells) e h =
    ap₂ (λ (o : Option Binding) (rest : List (Name × Shown)). (x, told (binding_shown samples o)) ∷ rest) (sym (h 0 x cell refl refl))
    (cells_same samples b names cells (suc_same e) (λ j y c. h (suc j) y c))
  where
    suc_same : suc (length names) ≡ suc (length cells) → length names ≡ length cells
    suc_same e = omega arith

mapped : {A B : Type 0} (f : A → B) (o : Option A) (b : B) → option_map f o ≡ Some b → (a : A) × ((o ≡ Some a) × (f a ≡ b))
mapped f None b e = absurd (none-some b e)
mapped f (Some a) b e = (a, (refl, same_Some (f a) b e))

module _ (parts : TableParts) (table : IsTable parts) (k i : ℕ) (row : Row) (there : row_of parts k i ≡ Some row) where
  binding_is : (slot : Slot) → slice_get parts.slots k ≡ Some slot → IsDistinct bytes_eq slot.names → (m : ℕ) (x : Name) (cell : Binding)
      → slice_get slot.names m ≡ Some x → slice_get row.cells m ≡ Some cell → binding_of parts k i x ≡ Some cell
  binding_is slot at apart m x cell named e =
      ap (option_and_then (λ (r : Row). option_and_then (slice_get r.cells) (option_and_then (λ (z : Slot). position (bytes_eq x) z.names) (slice_get parts.slots k)))) there
      ∙ ap (λ o. option_and_then (slice_get row.cells) (option_and_then (λ (z : Slot). position (bytes_eq x) z.names) o)) at
      ∙ ap (option_and_then (slice_get row.cells)) (placed_at slot.names apart m x named)
      ∙ e

  -- a row has a cell for each name
  pub row_long : (slot : Slot) → slice_get parts.slots k ≡ Some slot → length slot.names ≡ length row.cells
  row_long slot at =
      let fits = row_fits parts table k i row there in
      let same : fits.0 ≡ slot = same_Some fits.0 slot (sym fits.1 ∙ at) in
      ap (λ (z : Slot). length z.names) (sym same) ∙ sym fits.2.count

  pub row_told : (samples : ℕ → Sample) (slot : Slot) → slice_get parts.slots k ≡ Some slot → cells_shown samples slot.names row.cells ≡ row_shown parts samples k i
  row_told samples slot at =
      cells_same samples (binding_of parts k i) slot.names row.cells (row_long slot at) (binding_is slot at (slot_fits parts table k slot at).names)
      ∙ ap (λ o. map (named_shown parts samples k i) (names_of o)) (sym at)

  -- its nodes are sampled
  pub row_among : (s : Samples) → FitsTable parts s → All (IsCellAmong s.nodes) row.cells
  row_among s fits = All-weaker (IsCell parts.nodes) (IsCellAmong s.nodes) cell_among row.cells (row_fits parts table k i row there).2.cells
    where
      found_among : (at : Ref) → IsFound parts.nodes at → IsAmong s.nodes at
      found_among (Node id width) h =
          let node = mapped (λ (node : NodeName). node.width) (slice_get parts.nodes id.0) width h in
          let below : id.0 < length parts.nodes = slice_get_within parts.nodes id.0 node.0 node.1.0 in
          let enough = fits.sampled in
          omega (arith, below, enough, length-map parts.nodes (λ (node : NodeName). node.width))
      found_among (Const bits) h = tt

      cell_among : (cell : Binding) → IsCell parts.nodes cell → IsCellAmong s.nodes cell
      cell_among (Value at) h = found_among at h
      cell_among Unset h = tt
      cell_among Removed h = tt

-- the same of the cells alone
module _ (parts : TableParts) (table : IsTable parts) (k i : ℕ) (slot : Slot) (cells : List Binding) (at : slice_get parts.slots k ≡ Some slot)
    (are : option_map (λ (row : Row). row.cells) (row_of parts k i) ≡ Some cells) where
  pub cells_long : length slot.names ≡ length cells
  cells_long = let row = mapped (λ (r : Row). r.cells) (row_of parts k i) cells are in row_long parts table k i row.0 row.1.0 slot at ∙ ap length row.1.1

  pub cells_told : (samples : ℕ → Sample) → cells_shown samples slot.names cells ≡ row_shown parts samples k i
  cells_told samples =
      let row = mapped (λ (r : Row). r.cells) (row_of parts k i) cells are in
      ap (cells_shown samples slot.names) (sym row.1.1) ∙ row_told parts table k i row.0 row.1.0 samples slot at

  pub cells_among : (s : Samples) → FitsTable parts s → All (IsCellAmong s.nodes) cells
  cells_among s fits =
      let row = mapped (λ (r : Row). r.cells) (row_of parts k i) cells are in
      subst (All (IsCellAmong s.nodes)) row.1.1 (row_among parts table k i row.0 row.1.0 s fits)

-- the row of an instance stands where the instance stands
pub cells_are : (parts : TableParts) → IsTable parts → (k i place : ℕ) (slot : Slot) (rows : List Row) (row : Row) (cells : List Binding) → slice_get parts.slots k ≡ Some slot
    → slice_get (instances_of parts k) place ≡ Some i → rows ≡ slot.rows → row ≡ get_or rows place row → cells ≡ row.cells → option_map (λ (r : Row). r.cells) (row_of parts k i) ≡ Some cells
cells_are parts table k i place slot rows row cells at listed er read ec =
    let count : length (instances_of parts k) ≡ length slot.rows =
    ap (λ o. length (option_map_or (λ (z : Slot). places z.variant (variants_of parts.instances)) o [])) at ∙ sym (slot_fits parts table k slot at).count in
    let inside : place < length (instances_of parts k) = slice_get_within (instances_of parts k) place i listed in
    let within : place < length rows = omega (arith, inside, count, ap length er) in
    let there : slice_get slot.rows place ≡ Some row = ap (λ (l : List Row). slice_get l place) (sym er) ∙ slice_get_read rows (length rows) place row refl within read in
    ap (option_map (λ (r : Row). r.cells)) (row_at parts k slot place i at listed ∙ there) ∙ ap (λ c. Some c) (sym ec)
