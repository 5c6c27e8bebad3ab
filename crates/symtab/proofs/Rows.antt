-- The row of an instance stands at the rank of the instance.
use Rattle.std.proofs.Common.{◌≡◌, ℕ, ◌+◌, ◌<◌, ◌==◌, true, List, [], Option, Some, None, Contains, length, take, get_or, refl, sym, ap, ◌∙◌, subst, arith, eqb-true, position, option_and_then}
use Rattle.std.specs.List.{slice_get, position_or_len}
use Rattle.std.specs.Option.{option_map_or}
use Rattle.std.proofs.lemmas.Option.{slice_get_within, slice_get-get_or, get_or_from_slice_get, slice_get_read}
use Rattle.symtab.specs.declared.parts.Row.{Row}
use Rattle.symtab.specs.declared.parts.Slot.{Slot}
use Rattle.symtab.specs.declared.parts.TableParts.{TableParts}
use Rattle.symtab.specs.Places.{places}
use Rattle.symtab.specs.Tables.{rank}
use Rattle.symtab.specs.Shape.{IsTable, IsSlot, IsRow, variants_of}
use Rattle.symtab.specs.Lookups.{instances_of, row_of}
use Rattle.symtab.proofs.Grouped.{rank_from}
use Rattle.symtab.proofs.Standing.{stands, position_from_rank, position_at, found_once}

-- where the row of an instance stands in a slot
pub record IsRowPlace (parts : TableParts) (variants : List ℕ) (k instance : ℕ) (slot : Slot) : Type 0 where
  pub within : instance < length variants
  pub place : position (λ other. other == instance) (instances_of parts k) ≡ Some (rank variants instance)
  pub row : rank variants instance < length slot.rows

-- a slot that is there keeps the rules
pub slot_fits : (parts : TableParts) → IsTable parts → (k : ℕ) (slot : Slot) → slice_get parts.slots k ≡ Some slot → IsSlot parts.nodes (length parts.variants) (variants_of parts.instances) slot
slot_fits parts table k slot there =
    subst (λ (s : Slot). IsSlot parts.nodes (length parts.variants) (variants_of parts.instances) s) (get_or_from_slice_get parts.slots k slot slot there)
    (table.slots k slot (slice_get_within parts.slots k slot there))

-- an instance of a slot's variant has a row, at its rank
row_place : (parts : TableParts) → IsTable parts → (k instance : ℕ) (slot : Slot) → slice_get parts.slots k ≡ Some slot → Contains (instances_of parts k) instance →
    IsRowPlace parts (variants_of parts.instances) k instance slot
row_place parts table k instance slot there among =
    let variants : List ℕ = variants_of parts.instances in
    let listed : instances_of parts k ≡ places slot.variant variants = ap (λ o. option_map_or (λ s. places s.variant variants) o []) there in
    let own : Contains (places slot.variant variants) instance = subst (λ (xs : List ℕ). Contains xs instance) listed among in
    let got : slice_get (places slot.variant variants) own.0 ≡ Some instance = slice_get-get_or (places slot.variant variants) own.0 instance own.1 ∙ ap (λ n. Some n) own.2 in
    let stood = stands 0 slot.variant variants own.0 instance got in
    let at : stood.place ≡ instance = omega (arith, stood.is) in
    let within : instance < length variants = omega (arith, stood.within, at) in
    let same : (get_or variants instance 0 == slot.variant) ≡ true = subst (λ n. (get_or variants n 0 == slot.variant) ≡ true) at stood.same in
    let ranked : length (places slot.variant (take instance variants)) ≡ rank variants instance = ap (λ number. length (places number (take instance variants))) (sym (eqb-true _ _ same)) in
    let counted : 0 + instance ≡ instance = omega arith in
    let first : position_or_len (λ other. other == instance) (places slot.variant variants) ≡ rank variants instance =
    subst (λ n. position_or_len (λ other. other == n) (places slot.variant variants) ≡ length (places slot.variant (take instance variants))) counted (position_from_rank 0 slot.variant variants instance within same) ∙ ranked in
    let below : rank variants instance < length (places slot.variant variants) =
    subst (λ n. n < length (places slot.variant variants)) ranked (slice_get_within (places slot.variant variants) _ _ (rank_from 0 slot.variant variants instance within same)) in
    let fits = slot_fits parts table k slot there in
    record {
      within = within;
      place = ap (λ (xs : List ℕ). position (λ other. other == instance) xs) listed ∙ position_at (places slot.variant variants) instance (rank variants instance) first below;
      row = omega (arith, fits.count, below);
    }

-- the same of a table's own list of variants
pub own_place : (own parts : TableParts) (variants : List ℕ) → IsTable own → variants ≡ variants_of own.instances → own ≡ parts → (k instance : ℕ) (slot : Slot) →
    slice_get parts.slots k ≡ Some slot → Contains (instances_of parts k) instance → IsRowPlace parts variants k instance slot
own_place own parts variants table of_variants same k instance slot there among =
    let moved : variants_of parts.instances ≡ variants = sym (of_variants ∙ ap (λ (p : TableParts). variants_of p.instances) same) in
    subst (λ (v : List ℕ). IsRowPlace parts v k instance slot) moved
    (row_place parts (subst (λ (p : TableParts). IsTable p) same table) k instance slot there among)

-- what stands there is the row
pub row_is : (parts : TableParts) (variants : List ℕ) (k instance : ℕ) (slot : Slot) (row : Row) (rows : List Row) (at : ℕ) → slice_get parts.slots k ≡ Some slot →
    IsRowPlace parts variants k instance slot → rows ≡ slot.rows → at ≡ rank variants instance → row ≡ get_or rows at row → row_of parts k instance ≡ Some row
row_is parts variants k instance slot row rows at there placed same ranked read =
    let within : at < length rows = omega (arith, placed.row, ap length same) in
    ap (λ (o : Option Slot). option_and_then (λ s. option_and_then (slice_get s.rows) (position (λ other. other == instance) (instances_of parts k))) o) there
    ∙ ap (λ (o : Option ℕ). option_and_then (slice_get slot.rows) o) (placed.place ∙ ap (λ n. Some n) (sym ranked))
    ∙ ap (λ (xs : List Row). slice_get xs at) (sym same)
    ∙ slice_get_read rows (length rows) at row refl within read

-- the two steps to a value
both_steps : {A B : Type 0} (step : A → Option B) (found : Option A) (b : B) → option_and_then step found ≡ Some b → (a : A) × (found ≡ Some a) × (step a ≡ Some b)
both_steps step None b is = cc
both_steps step (Some a) b is = (a, refl, is)

-- a row of a table keeps the rules
pub row_fits : (parts : TableParts) → IsTable parts → (k instance : ℕ) (row : Row) → row_of parts k instance ≡ Some row → (slot : Slot) × (slice_get parts.slots k ≡ Some slot) × IsRow parts.nodes slot.names row
row_fits parts table k instance row is =
    let at = both_steps (λ (slot : Slot). option_and_then (slice_get slot.rows) (position (λ other. other == instance) (instances_of parts k))) (slice_get parts.slots k) row is in
    let placed = both_steps (slice_get at.0.rows) (position (λ other. other == instance) (instances_of parts k)) row at.2 in
    let fits = slot_fits parts table k at.0 at.1 in (
      at.0,
      at.1,
      subst (λ (r : Row). IsRow parts.nodes at.0.names r) (get_or_from_slice_get at.0.rows placed.0 row row placed.2)
          (fits.rows placed.0 row (slice_get_within at.0.rows placed.0 row placed.2)),
    )

-- the rows of a slot stand for the instances of its variant, in order
pub row_at : (parts : TableParts) (k : ℕ) (slot : Slot) (at instance : ℕ) → slice_get parts.slots k ≡ Some slot → slice_get (instances_of parts k) at ≡ Some instance → row_of parts k instance ≡ slice_get slot.rows at
row_at parts k slot at instance there listed =
    let variants : List ℕ = variants_of parts.instances in
    let own : instances_of parts k ≡ places slot.variant variants = ap (λ o. option_map_or (λ s. places s.variant variants) o []) there in
    let once : position_or_len (λ other. other == instance) (instances_of parts k) ≡ at =
    subst (λ (xs : List ℕ). slice_get xs at ≡ Some instance → position_or_len (λ other. other == instance) xs ≡ at) (sym own) (found_once 0 slot.variant variants at instance) listed in
    let placed : position (λ other. other == instance) (instances_of parts k) ≡ Some at = position_at (instances_of parts k) instance at once (slice_get_within (instances_of parts k) at instance listed) in
    ap (λ (o : Option Slot). option_and_then (λ s. option_and_then (slice_get s.rows) (position (λ other. other == instance) (instances_of parts k))) o) there
    ∙ ap (λ (o : Option ℕ). option_and_then (slice_get slot.rows) o) placed

-- the parts of a table, told by another name
pub own_table : (own parts : TableParts) → IsTable own → own ≡ parts → IsTable parts
own_table own parts table same = subst (λ (p : TableParts). IsTable p) same table
