-- What an expression at a slot of an instance is judged by rests on its names alone, and is what the machine judges by.
use Rattle.std.proofs.Common.{◌≡◌, ℕ, suc, ◌+◌, ◌<◌, ◌&&◌, ◌||◌, Bool, true, false, cond, not, lt-ltb, List, [], ◌∷◌, length, map, Option, Some, None, Contains, option_map, position, bytes_eq, if◌then◌else◌, refl, sym, ap, ap₂, ◌∙◌, arith}
use Rattle.std.specs.Prelude.{slice_get, nat_eq, option_and_then}
use Rattle.std.specs.List.{list_any, position_or_len}
use Rattle.std.proofs.lemmas.Option.{slice_get-map, slice_get-get_or}
use Rattle.std.specs.Option.{option_map_or}
use Rattle.std.proofs.lemmas.Option.{same_Some}
use Rattle.bv_core.specs.declared.Ref.TheVariants.{Node, Const as Literal}
use Rattle.symtab.specs.declared.parts.Row.{Row}
use Rattle.symtab.specs.declared.parts.Slot.{Slot}
use Rattle.symtab.specs.declared.parts.TableParts.{TableParts}
use Rattle.symtab.specs.Places.{places}
use Rattle.symtab.specs.Shape.{IsTable, variants_of}
use Rattle.symtab.specs.Lookups.{instances_of as table_instances, name_place, row_of, binding_of}
use Rattle.symtab.proofs.Rows.{slot_fits, row_fits, row_at}
use Rattle.list_core.proofs.Listing.{some_at, got_in}
use Rattle.trace_core.specs.Samples.{Samples}
use Rattle.world_core.specs.World.{Shows, IsUnset}
use Rattle.world_core.specs.Seen.{has_name, has_instance}
use Rattle.site_core.proofs.Found.{instances_told}
use Rattle.site_core.proofs.Told.{told, number_told, not_named}
use Rattle.trace_world.specs.TraceWorld.{status_by, shows_by}
use Rattle.machine_core.specs.Arming.{as_status, scope_at, instances_of}
use Rattle.bv_core.specs.declared.Binding.{Binding}
use Rattle.bv_core.specs.declared.Binding.TheVariants as binding
use Rattle.gen_tree.specs.Tree.{Expr}
use Rattle.cond_lang.specs.Names.{Name}
use Rattle.cond_lang.specs.Bound.{status_of, scope_of}
use Rattle.cond_lang.specs.Judged.{judged}

-- ---- what the machine judges by

status_told : (b : Binding) → as_status (status_by (Some b)) ≡ status_of b
status_told (binding.Value (Node id width)) = refl
status_told (binding.Value (Literal bits)) = refl
status_told binding.Unset = refl
status_told binding.Removed = refl

-- where an element passes, one stands at a first place
skip_one : {A : Type 0} (p : A → Bool) (x : A) (xs : List A) (b : Bool) → (list_any p xs ≡ true → position_or_len p xs < length xs) → p x ≡ b → (p x || list_any p xs) ≡ true
    → cond (not (p x)) (1 + position_or_len p xs) 0 < suc (length xs)
skip_one p x xs true more t e = rw t (let z : 0 < suc (length xs) = omega arith in z)
skip_one p x xs false more t e =
    let l = more (sym (ap (λ c. c || list_any p xs) t) ∙ e) in
    rw t (let z : 1 + position_or_len p xs < suc (length xs) = omega (arith, l) in z)

passes_below : {A : Type 0} (p : A → Bool) (xs : List A) → list_any p xs ≡ true → position_or_len p xs < length xs
passes_below p [] e = cc
passes_below p (x ∷ xs) e = skip_one p x xs (p x) (passes_below p xs) refl e

some_position : {A : Type 0} (p : A → Bool) (xs : List A) → list_any p xs ≡ true → (j : ℕ) × ((j < length xs) × (position p xs ≡ Some j))
some_position p xs e =
    let below = passes_below p xs e in
    (position_or_len p xs, (below, ap (λ b. cond b (Some (position_or_len p xs)) None) (lt-ltb (position_or_len p xs) (length xs) below)))

-- a name among those of a slot has a cell in the row of each instance that has the slot
module _ (parts : TableParts) (table : IsTable parts) (k i : ℕ) (among : Contains (table_instances parts k) i) where
  pub cell_there : (slot : Slot) (x : Name) → slice_get parts.slots k ≡ Some slot → list_any (bytes_eq x) slot.names ≡ true → (b : Binding) × (binding_of parts k i x ≡ Some b)
  cell_there slot x at has =
      let got : slice_get (table_instances parts k) among.0 ≡ Some i = slice_get-get_or (table_instances parts k) among.0 i among.1 ∙ ap (λ n. Some n) among.2 in
      let row_is : row_of parts k i ≡ slice_get slot.rows among.0 = row_at parts k slot among.0 i at got in
      let count : length (table_instances parts k) ≡ length slot.rows = ap (λ o. length (option_map_or (λ (s : Slot). places s.variant (variants_of parts.instances)) o [])) at ∙ sym (slot_fits parts table k slot at).count in
      let row = some_at slot.rows among.0 (let l = among.1 in omega (arith, l, count)) in
      let named = some_position (bytes_eq x) slot.names has in
      let fits = row_fits parts table k i row.0 (row_is ∙ row.1) in
      let same : fits.0 ≡ slot = same_Some fits.0 slot (sym fits.1 ∙ at) in
      let wide : length row.0.cells ≡ length slot.names = fits.2.count ∙ ap (λ (s : Slot). length s.names) same in
      let cell = some_at row.0.cells named.0 (let l = named.1.0 in omega (arith, l, wide)) in (
        cell.0,
        ap (λ o. option_and_then (λ (r : Row). option_and_then (slice_get r.cells) (name_place parts k x)) o) (row_is ∙ row.1)
            ∙ ap (λ o. option_and_then (slice_get row.0.cells) (option_and_then (λ (s : Slot). position (bytes_eq x) s.names) o)) at
            ∙ ap (λ o. option_and_then (slice_get row.0.cells) o) named.1.1
            ∙ cell.1,
      )

has_told : (o : Option Shows) (i : ℕ) → has_instance o i ≡ list_any (nat_eq i) (instances_of o)
has_told None i = refl
has_told (Some shows) i = refl

slot_named : (parts : TableParts) (o : Option Slot) (x : Name) → has_name (option_map (shows_by parts) o) x ≡ true → (slot : Slot) × ((o ≡ Some slot) × (list_any (bytes_eq x) slot.names ≡ true))
slot_named parts None x e = cc
slot_named parts (Some slot) x e = (slot, (refl, e))

-- what the machine knows of a name at a slot of an instance that has it is what the table says
pub scope_told : (parts : TableParts) → IsTable parts → (s : Samples) (k i : ℕ) → Contains (table_instances parts k) i → (x : Name) → scope_at (told parts s) k i x ≡ scope_of (binding_of parts k i) x
scope_told parts table s k i among x = by_name (has_name (slice_get (map (shows_by parts) parts.slots) k) x) refl
  where
    own : has_instance (slice_get (map (shows_by parts) parts.slots) k) i ≡ true
    own =
        has_told (slice_get (map (shows_by parts) parts.slots) k) i
        ∙ ap (list_any (nat_eq i)) (instances_told parts s k)
        ∙ number_told i (table_instances parts k) (got_in (table_instances parts k) among.0 i (slice_get-get_or (table_instances parts k) among.0 i among.1 ∙ ap (λ n. Some n) among.2))

    by_name : (b : Bool) → has_name (slice_get (map (shows_by parts) parts.slots) k) x ≡ b → scope_at (told parts s) k i x ≡ scope_of (binding_of parts k i) x
    by_name true e =
        let slot = slot_named parts (slice_get parts.slots k) x (sym (ap (λ o. has_name o x) (slice_get-map (shows_by parts) parts.slots k)) ∙ e) in
        let cell = cell_there parts table k i among slot.0 x slot.1.0 slot.1.1 in
        ap₂ (λ (a b : Bool). if b then Some (as_status (if a && b then status_by (binding_of parts k i x) else IsUnset)) else None) own e
        ∙ ap (λ o. Some (as_status (status_by o))) cell.1
        ∙ ap (λ v. Some v) (status_told cell.0)
        ∙ sym (ap (option_map status_of) cell.1)
    by_name false e =
        ap₂ (λ (a b : Bool). if b then Some (as_status (if a && b then status_by (binding_of parts k i x) else IsUnset)) else None) own e
        ∙ sym (ap (option_map status_of) (not_named parts k i x e))

-- so it judges an expression there by the table
pub judged_told : (parts : TableParts) → IsTable parts → (s : Samples) (k i : ℕ) → Contains (table_instances parts k) i → (e : Expr) (offsets : List ℕ)
    → judged (scope_at (told parts s) k i) e offsets ≡ judged (scope_of (binding_of parts k i)) e offsets
judged_told parts table s k i among e offsets = (λ j. judged (λ x. scope_told parts table s k i among x j) e offsets)
