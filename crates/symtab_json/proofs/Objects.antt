-- Rows and slots, of the members that they have; and the members of a value that is no object.
use Rattle.std.proofs.Common.{◌≡◌, ℕ, List, codes, bytes_eq, Bool, true, false, true≢false, Option, Some, None, option_map, option_and_then, refl, sym, ap, ap₂, ◌∙◌}
use Rattle.std.proofs.lemmas.Slice.Eq.{bytes_eq-Decides}
use Rattle.bv_core.specs.declared.Ref.{Ref}
use Rattle.bv_core.specs.declared.Binding.{Binding}
use Rattle.symtab.specs.declared.parts.NodeName.{NodeName}
use Rattle.symtab.specs.declared.parts.GenVariable.{GenVariable}
use Rattle.symtab.specs.declared.parts.Row.{Row}
use Rattle.serde_json.specs.Data.{Data, null, boolean, number, string, array, object, Members, put}
use Rattle.serde_json.specs.Find.{as_object, as_str, get, get_member}
use Rattle.serde_json.proofs.Views.{get_member-put, get_member-put_other}
use Rattle.symtab_json.specs.Entries.{file_found, made_place, made_row, made_slot, told_cell, told_count, told_gen, told_on, told_row, told_short, told_slot}
use Rattle.symtab_json.specs.Members.{row_fields, slot_fields}
use Rattle.symtab_json.specs.declared.readings.RowFields.{RowFields}
use Rattle.symtab_json.specs.declared.readings.SlotFields.{SlotFields}

-- what has no members has none of this key
pub no_member : (key : List ℕ) (d : Data) → as_object d ≡ None → get key d ≡ None
no_member key null e = refl
no_member key (boolean b) e = refl
no_member key (number n) e = refl
no_member key (string s) e = refl
no_member key (array ds) e = refl
no_member key (object ms) e = absurd (cc)

pub row_is : (nodes : List NodeName) (d : Data) → option_and_then (λ f. made_row f.on f.cells) (option_map (row_fields nodes) (as_object d)) ≡ told_row nodes d
row_is nodes null = refl
row_is nodes (boolean b) = refl
row_is nodes (number n) = refl
row_is nodes (string s) = refl
row_is nodes (array ds) = refl
row_is nodes (object ms) = refl

-- the slot that the members of an object tell
pub slot_found : (filed : Bool) (nodes : List NodeName) (d : Data) (f : SlotFields) → option_map (slot_fields nodes) (as_object d) ≡ Some f →
    told_slot filed nodes d ≡ made_slot f.variant (made_place (file_found filed f.file) f.line) f.gens f.names f.rows
slot_found filed nodes null f e = absurd (cc)
slot_found filed nodes (boolean b) f e = absurd (cc)
slot_found filed nodes (number n) f e = absurd (cc)
slot_found filed nodes (string s) f e = absurd (cc)
slot_found filed nodes (array ds) f e = absurd (cc)
slot_found filed nodes (object ms) f e =
    let same : slot_fields nodes ms ≡ f = cc in
    ap (λ (g : SlotFields). made_slot g.variant (made_place (file_found filed g.file) g.line) g.gens g.names g.rows) same

-- and none where a value is no object
pub no_slot : (filed : Bool) (nodes : List NodeName) (d : Data) → option_map (slot_fields nodes) (as_object d) ≡ None → told_slot filed nodes d ≡ None
no_slot filed nodes null e = refl
no_slot filed nodes (boolean b) e = refl
no_slot filed nodes (number n) e = refl
no_slot filed nodes (string s) e = refl
no_slot filed nodes (array ds) e = refl
no_slot filed nodes (object ms) e = absurd (cc)

-- ---- a member more

-- the member of another key stays
pub other : (q k : List ℕ) (d : Data) (ms : Members) → bytes_eq q k ≡ false → get_member q (put k d ms) ≡ get_member q ms
other q k d ms apart = get_member-put_other q k d ms (λ e. true≢false (sym ((bytes_eq-Decides q k).1 e) ∙ apart))

pub row_on : (nodes : List NodeName) (k : List ℕ) (d : Data) (ms : Members) → k ≡ codes "on" → row_fields nodes (put k d ms) ≡ record (row_fields nodes ms) { on = told_on nodes d }
row_on nodes k d ms is =
    let cells = other (codes "cells") (codes "on") d ms refl in
    ap (λ x. row_fields nodes (put x d ms)) is ∙ rw (get_member-put (codes "on") d ms, cells)

pub row_cells : (nodes : List NodeName) (k : List ℕ) (d : Data) (ms : Members) → k ≡ codes "cells" → row_fields nodes (put k d ms) ≡ record (row_fields nodes ms) { cells = told_short (told_cell nodes) d }
row_cells nodes k d ms is =
    let on = other (codes "on") (codes "cells") d ms refl in
    ap (λ x. row_fields nodes (put x d ms)) is ∙ rw (get_member-put (codes "cells") d ms, on)

pub row_other : (nodes : List NodeName) (k : List ℕ) (d : Data) (ms : Members) → (k ≡ codes "on" → ⊥) → (k ≡ codes "cells" → ⊥) → row_fields nodes (put k d ms) ≡ row_fields nodes ms
row_other nodes k d ms no_on no_cells =
    let on = get_member-put_other (codes "on") k d ms (λ e. no_on (sym e)) in
    let cells = get_member-put_other (codes "cells") k d ms (λ e. no_cells (sym e)) in
    rw (on, cells)

pub slot_variant : (nodes : List NodeName) (k : List ℕ) (d : Data) (ms : Members) → k ≡ codes "variant" → slot_fields nodes (put k d ms) ≡ record (slot_fields nodes ms) { variant = told_count d }
slot_variant nodes k d ms is =
    let here = codes "variant" in
    let file = other (codes "file") here d ms refl in
    let line = other (codes "line") here d ms refl in
    let gens = other (codes "gens") here d ms refl in
    let names = other (codes "names") here d ms refl in
    let rows = other (codes "rows") here d ms refl in
    ap (λ x. slot_fields nodes (put x d ms)) is ∙ rw (get_member-put here d ms, file, line, gens, names, rows)

pub slot_file : (nodes : List NodeName) (k : List ℕ) (d : Data) (ms : Members) → k ≡ codes "file" → slot_fields nodes (put k d ms) ≡ record (slot_fields nodes ms) { file = told_count d }
slot_file nodes k d ms is =
    let here = codes "file" in
    let variant = other (codes "variant") here d ms refl in
    let line = other (codes "line") here d ms refl in
    let gens = other (codes "gens") here d ms refl in
    let names = other (codes "names") here d ms refl in
    let rows = other (codes "rows") here d ms refl in
    ap (λ x. slot_fields nodes (put x d ms)) is ∙ rw (get_member-put here d ms, variant, line, gens, names, rows)

pub slot_line : (nodes : List NodeName) (k : List ℕ) (d : Data) (ms : Members) → k ≡ codes "line" → slot_fields nodes (put k d ms) ≡ record (slot_fields nodes ms) { line = told_count d }
slot_line nodes k d ms is =
    let here = codes "line" in
    let variant = other (codes "variant") here d ms refl in
    let file = other (codes "file") here d ms refl in
    let gens = other (codes "gens") here d ms refl in
    let names = other (codes "names") here d ms refl in
    let rows = other (codes "rows") here d ms refl in
    ap (λ x. slot_fields nodes (put x d ms)) is ∙ rw (get_member-put here d ms, variant, file, gens, names, rows)

pub slot_gens : (nodes : List NodeName) (k : List ℕ) (d : Data) (ms : Members) → k ≡ codes "gens" → slot_fields nodes (put k d ms) ≡ record (slot_fields nodes ms) { gens = told_short told_gen d }
slot_gens nodes k d ms is =
    let here = codes "gens" in
    let variant = other (codes "variant") here d ms refl in
    let file = other (codes "file") here d ms refl in
    let line = other (codes "line") here d ms refl in
    let names = other (codes "names") here d ms refl in
    let rows = other (codes "rows") here d ms refl in
    ap (λ x. slot_fields nodes (put x d ms)) is ∙ rw (get_member-put here d ms, variant, file, line, names, rows)

pub slot_names : (nodes : List NodeName) (k : List ℕ) (d : Data) (ms : Members) → k ≡ codes "names" → slot_fields nodes (put k d ms) ≡ record (slot_fields nodes ms) { names = told_short as_str d }
slot_names nodes k d ms is =
    let here = codes "names" in
    let variant = other (codes "variant") here d ms refl in
    let file = other (codes "file") here d ms refl in
    let line = other (codes "line") here d ms refl in
    let gens = other (codes "gens") here d ms refl in
    let rows = other (codes "rows") here d ms refl in
    ap (λ x. slot_fields nodes (put x d ms)) is ∙ rw (get_member-put here d ms, variant, file, line, gens, rows)

pub slot_rows : (nodes : List NodeName) (k : List ℕ) (d : Data) (ms : Members) → k ≡ codes "rows" → slot_fields nodes (put k d ms) ≡ record (slot_fields nodes ms) { rows = told_short (told_row nodes) d }
slot_rows nodes k d ms is =
    let here = codes "rows" in
    let variant = other (codes "variant") here d ms refl in
    let file = other (codes "file") here d ms refl in
    let line = other (codes "line") here d ms refl in
    let gens = other (codes "gens") here d ms refl in
    let names = other (codes "names") here d ms refl in
    ap (λ x. slot_fields nodes (put x d ms)) is ∙ rw (get_member-put here d ms, variant, file, line, gens, names)

pub slot_other : (nodes : List NodeName) (k : List ℕ) (d : Data) (ms : Members) → (k ≡ codes "variant" → ⊥) → (k ≡ codes "line" → ⊥) → (k ≡ codes "gens" → ⊥) → (k ≡ codes "names" → ⊥) → (k ≡ codes "rows" → ⊥) → (k ≡ codes "file" → ⊥)
    → slot_fields nodes (put k d ms) ≡ slot_fields nodes ms
slot_other nodes k d ms no_variant no_line no_gens no_names no_rows no_file =
    let variant = get_member-put_other (codes "variant") k d ms (λ e. no_variant (sym e)) in
    let line = get_member-put_other (codes "line") k d ms (λ e. no_line (sym e)) in
    let gens = get_member-put_other (codes "gens") k d ms (λ e. no_gens (sym e)) in
    let names = get_member-put_other (codes "names") k d ms (λ e. no_names (sym e)) in
    let rows = get_member-put_other (codes "rows") k d ms (λ e. no_rows (sym e)) in
    let file = get_member-put_other (codes "file") k d ms (λ e. no_file (sym e)) in
    rw (variant, file, line, gens, names, rows)

-- ---- the fields, once a member was read into them

pub row_on_taken : (nodes : List NodeName) (k : List ℕ) (d : Data) (ms : Members) (fields : RowFields) (on : Option Ref) → bytes_eq k (codes "on") ≡ true → fields ≡ row_fields nodes ms → on ≡ told_on nodes d
    → record fields { on = on } ≡ row_fields nodes (put k d ms)
row_on_taken nodes k d ms fields on named are is =
    ap₂ (λ (f : RowFields) (x : Option Ref). record f { on = x }) are is ∙ sym (row_on nodes k d ms ((bytes_eq-Decides k (codes "on")).0 named))

pub row_cells_taken : (nodes : List NodeName) (k : List ℕ) (d : Data) (ms : Members) (fields : RowFields) (cells : Option (List Binding)) → bytes_eq k (codes "cells") ≡ true → fields ≡ row_fields nodes ms → cells ≡ told_short (told_cell nodes) d
    → record fields { cells = cells } ≡ row_fields nodes (put k d ms)
row_cells_taken nodes k d ms fields cells named are is =
    ap₂ (λ (f : RowFields) (x : Option (List Binding)). record f { cells = x }) are is ∙ sym (row_cells nodes k d ms ((bytes_eq-Decides k (codes "cells")).0 named))

pub slot_variant_taken : (nodes : List NodeName) (k : List ℕ) (d : Data) (ms : Members) (fields : SlotFields) (variant : Option ℕ) → bytes_eq k (codes "variant") ≡ true → fields ≡ slot_fields nodes ms → variant ≡ told_count d
    → record fields { variant = variant } ≡ slot_fields nodes (put k d ms)
slot_variant_taken nodes k d ms fields variant named are is =
    ap₂ (λ (f : SlotFields) (x : Option ℕ). record f { variant = x }) are is ∙ sym (slot_variant nodes k d ms ((bytes_eq-Decides k (codes "variant")).0 named))

pub slot_file_taken : (nodes : List NodeName) (k : List ℕ) (d : Data) (ms : Members) (fields : SlotFields) (file : Option ℕ) → bytes_eq k (codes "file") ≡ true → fields ≡ slot_fields nodes ms → file ≡ told_count d
    → record fields { file = file } ≡ slot_fields nodes (put k d ms)
slot_file_taken nodes k d ms fields file named are is =
    ap₂ (λ (f : SlotFields) (x : Option ℕ). record f { file = x }) are is ∙ sym (slot_file nodes k d ms ((bytes_eq-Decides k (codes "file")).0 named))

pub slot_line_taken : (nodes : List NodeName) (k : List ℕ) (d : Data) (ms : Members) (fields : SlotFields) (line : Option ℕ) → bytes_eq k (codes "line") ≡ true → fields ≡ slot_fields nodes ms → line ≡ told_count d
    → record fields { line = line } ≡ slot_fields nodes (put k d ms)
slot_line_taken nodes k d ms fields line named are is =
    ap₂ (λ (f : SlotFields) (x : Option ℕ). record f { line = x }) are is ∙ sym (slot_line nodes k d ms ((bytes_eq-Decides k (codes "line")).0 named))

pub slot_gens_taken : (nodes : List NodeName) (k : List ℕ) (d : Data) (ms : Members) (fields : SlotFields) (gens : Option (List GenVariable)) → bytes_eq k (codes "gens") ≡ true → fields ≡ slot_fields nodes ms → gens ≡ told_short told_gen d
    → record fields { gens = gens } ≡ slot_fields nodes (put k d ms)
slot_gens_taken nodes k d ms fields gens named are is =
    ap₂ (λ (f : SlotFields) (x : Option (List GenVariable)). record f { gens = x }) are is ∙ sym (slot_gens nodes k d ms ((bytes_eq-Decides k (codes "gens")).0 named))

pub slot_names_taken : (nodes : List NodeName) (k : List ℕ) (d : Data) (ms : Members) (fields : SlotFields) (names : Option (List (List ℕ))) → bytes_eq k (codes "names") ≡ true → fields ≡ slot_fields nodes ms → names ≡ told_short as_str d
    → record fields { names = names } ≡ slot_fields nodes (put k d ms)
slot_names_taken nodes k d ms fields names named are is =
    ap₂ (λ (f : SlotFields) (x : Option (List (List ℕ))). record f { names = x }) are is ∙ sym (slot_names nodes k d ms ((bytes_eq-Decides k (codes "names")).0 named))

pub slot_rows_taken : (nodes : List NodeName) (k : List ℕ) (d : Data) (ms : Members) (fields : SlotFields) (rows : Option (List Row)) → bytes_eq k (codes "rows") ≡ true → fields ≡ slot_fields nodes ms → rows ≡ told_short (told_row nodes) d
    → record fields { rows = rows } ≡ slot_fields nodes (put k d ms)
slot_rows_taken nodes k d ms fields rows named are is =
    ap₂ (λ (f : SlotFields) (x : Option (List Row)). record f { rows = x }) are is ∙ sym (slot_rows nodes k d ms ((bytes_eq-Decides k (codes "rows")).0 named))
