-- What each entry that was told keeps of the rules.
use Rattle.std.proofs.Common.{◌≡◌, ℕ, ◌<◌, ◌+◌, ◌*◌, ◌^◌, ℤ, T, Bool, true, false, cond, List, codes, Option, Some, None, option_map, option_and_then, refl, sym, ap, subst, arith, ltb-true, leb-true}
use Rattle.std.specs.Prelude.{⊤}
use Rattle.std.specs.List.{AllByRecursion}
use Rattle.std.specs.Option.{option_or}
use Rattle.std.proofs.lemmas.Bool.{and_parts, eqb-true}
use Rattle.std.proofs.lemmas.List.Elements.{All-from_recursion}
use lib.Signed.{le_z_yes}
use Rattle.places.specs.Places.{place}
use Rattle.bv_core.specs.Value.{Bits}
use Rattle.bv_core.specs.declared.Ref.{Ref}
use Rattle.bv_core.specs.declared.Ref.TheVariants.{Node, Const}
use Rattle.bv_core.specs.declared.Binding.{Binding}
use Rattle.bv_core.specs.declared.Binding.TheVariants.{Value, Unset, Removed}
use Rattle.symtab.specs.Shape.{IsShort, IsWidth, IsGenNumber, AreGens, width_of}
use Rattle.symtab.specs.declared.parts.NodeName.{NodeName}
use Rattle.symtab.specs.declared.parts.GenVariable.{GenVariable}
use Rattle.symtab.specs.declared.parts.VariantParts.{VariantParts}
use Rattle.symtab.specs.declared.parts.Row.{Row}
use Rattle.serde_json.specs.Data.{Data}
use Rattle.serde_json.specs.Find.{get, as_str, as_number, as_i64}
use Rattle.symtab_json.specs.declared.entries.SlotEntry.{SlotEntry}
use Rattle.symtab_json.specs.Literals.{told_literal}
use Rattle.symtab_json.specs.Entries.{made_node, made_gen, made_variant, made_row, file_found, is_place, made_place, made_slot, told_mark, told_count, is_node_width, told_width, is_gen_number, told_gen_number, told_two, told_node, told_gen, told_variant, told_width_at, told_ref, told_cell, is_one_wide, told_on, told_row, told_short, told_member, told_slot}
use Rattle.symtab_json.proofs.Found.{kept_parts, and_then_parts, short_told}

-- ---- nodes, generator variables, variants

as_test : (b : Bool) → b ≡ true → T b
as_test b e = subst (λ c. T c) (sym e) tt

node_width : (name : Option (List ℕ)) (width : Option ℕ) (node : NodeName) → made_node name width ≡ Some node → width ≡ Some node.width
node_width None width node e = absurd (cc)
node_width (Some name) None node e = absurd (cc)
node_width (Some name) (Some width) node e = let same : record { name = name; width = width } ≡ node = cc in ap (λ (n : NodeName). Some n.width) same

pub node_read : (d : Data) (node : NodeName) → told_node d ≡ Some node → IsWidth node.width
node_read d node e =
    let found = and_then_parts (λ two. made_node (as_str two.0) (told_width two.1)) (told_two d) node e in
    let kept = kept_parts is_node_width (told_count found.0.1) node.width (node_width (as_str found.0.0) (told_width found.0.1) node found.2) in
    let parts = and_parts _ _ kept.1 in
    record { some = leb-true 1 node.width parts.0; most = leb-true node.width 128 parts.1 }

gen_value : (name : Option (List ℕ)) (number : Option ℤ) (gen' : GenVariable) → made_gen name number ≡ Some gen' → number ≡ Some gen'.value
gen_value None number gen' e = absurd (cc)
gen_value (Some name) None gen' e = absurd (cc)
gen_value (Some name) (Some number) gen' e = let same : record { name = name; value = number } ≡ gen' = cc in ap (λ (g : GenVariable). Some g.value) same

gen_read : (d : Data) (gen' : GenVariable) → told_gen d ≡ Some gen' → IsGenNumber gen'.value
gen_read d gen' e =
    let found = and_then_parts (λ two. made_gen (as_str two.0) (told_gen_number two.1)) (told_two d) gen' e in
    let kept = kept_parts is_gen_number (option_and_then as_i64 (as_number found.0.1)) gen'.value (gen_value (as_str found.0.0) (told_gen_number found.0.1) gen' found.2) in
    let parts = and_parts _ _ kept.1 in
    record { least = le_z_yes (as_test _ parts.0); most = le_z_yes (as_test _ parts.1) }

pub gens_read : (d : Data) (gens : List GenVariable) → told_short told_gen d ≡ Some gens → AreGens gens
gens_read d gens e =
    let told = short_told told_gen (λ gen'. IsGenNumber gen'.value) gen_read d gens e in
    record { short = told.1; numbers = All-from_recursion (λ gen'. IsGenNumber gen'.value) gens told.0 }

variant_gens : (name : Option (List ℕ)) (gens : Option (List GenVariable)) (variant : VariantParts) → made_variant name gens ≡ Some variant → gens ≡ Some variant.gens
variant_gens None gens variant e = absurd (cc)
variant_gens (Some name) None variant e = absurd (cc)
variant_gens (Some name) (Some gens) variant e = let same : record { «module» = name; gens = gens } ≡ variant = cc in ap (λ (v : VariantParts). Some v.gens) same

pub variant_read : (d : Data) (variant : VariantParts) → told_variant d ≡ Some variant → AreGens variant.gens
variant_read d variant e =
    let found = and_then_parts (λ two. made_variant (as_str two.0) (told_short told_gen two.1)) (told_two d) variant e in
    gens_read found.0.1 variant.gens (variant_gens (as_str found.0.0) (told_short told_gen found.0.1) variant found.2)

-- ---- rows, whose nodes are told with the widths that the nodes have

abbrev pub RefRead : List NodeName → Ref → Type 0
RefRead nodes (Node id width) = width ≡ told_width_at nodes id.0
RefRead nodes (Const bits) = ⊤

abbrev pub CellRead : List NodeName → Binding → Type 0
CellRead nodes (Value at) = RefRead nodes at
CellRead nodes Unset = ⊤
CellRead nodes Removed = ⊤

pub record RowRead (nodes : List NodeName) (row : Row) : Type 0 where
  pub on : RefRead nodes row.on
  pub bit : width_of row.on ≡ 1
  pub short : IsShort row.cells
  pub cells : AllByRecursion (CellRead nodes) row.cells

ref_of : (nodes : List NodeName) (id : Option ℕ) (bits : Option Bits) (at : Ref) →
    option_or (option_map (λ n. Node (record { 0 = n }) (told_width_at nodes n)) id) (option_map Const bits) ≡ Some at → RefRead nodes at
ref_of nodes (Some id) bits at e = let same : Node (record { 0 = id }) (told_width_at nodes id) ≡ at = cc in subst (RefRead nodes) same refl
ref_of nodes None (Some bits) at e = let same : Const bits ≡ at = cc in subst (RefRead nodes) same tt
ref_of nodes None None at e = absurd (cc)

pub ref_read : (nodes : List NodeName) (d : Data) (at : Ref) → told_ref nodes d ≡ Some at → RefRead nodes at
ref_read nodes d at e = ref_of nodes (told_count d) (option_and_then told_literal (as_str d)) at e

mark_read_at : (nodes : List NodeName) (unset removed : Bool) (cell : Binding) → cond unset (Some Unset) (cond removed (Some Removed) None) ≡ Some cell → CellRead nodes cell
mark_read_at nodes true removed cell e = let same : Unset ≡ cell = cc in subst (CellRead nodes) same tt
mark_read_at nodes false true cell e = let same : Removed ≡ cell = cc in subst (CellRead nodes) same tt
mark_read_at nodes false false cell e = absurd (cc)

cell_of : (nodes : List NodeName) (mark : Option Binding) (at : Option Ref) (cell : Binding) → ((c : Binding) → mark ≡ Some c → CellRead nodes c) →
    ((r : Ref) → at ≡ Some r → RefRead nodes r) → option_or mark (option_map Value at) ≡ Some cell → CellRead nodes cell
cell_of nodes (Some mark) at cell marked found e = marked cell e
cell_of nodes None (Some r) cell marked found e = let same : Value r ≡ cell = cc in subst (CellRead nodes) same (found r refl)
cell_of nodes None None cell marked found e = absurd (cc)

pub cell_read : (nodes : List NodeName) (d : Data) (cell : Binding) → told_cell nodes d ≡ Some cell → CellRead nodes cell
cell_read nodes d cell e =
    cell_of nodes (option_and_then told_mark (as_str d)) (told_ref nodes d) cell
    (λ c is. let found = and_then_parts told_mark (as_str d) c is in mark_read_at nodes _ _ c found.2)
    (λ r is. ref_read nodes d r is) e

row_parts : (on : Option Ref) (cells : Option (List Binding)) (row : Row) → made_row on cells ≡ Some row → (on ≡ Some row.on) × (cells ≡ Some row.cells)
row_parts None cells row e = absurd (cc)
row_parts (Some on) None row e = absurd (cc)
row_parts (Some on) (Some cells) row e =
    let same : record { on = on; cells = cells } ≡ row = cc in (ap (λ (r : Row). Some r.on) same, ap (λ (r : Row). Some r.cells) same)

pub row_read : (nodes : List NodeName) (d : Data) (row : Row) → told_row nodes d ≡ Some row → RowRead nodes row
row_read nodes d row e =
    let parts = row_parts (told_member (told_on nodes) (codes "on") d) (told_member (told_short (told_cell nodes)) (codes "cells") d) row e in
    let on = and_then_parts (told_on nodes) (get (codes "on") d) row.on parts.0 in
    let kept = kept_parts is_one_wide (told_ref nodes on.0) row.on on.2 in
    let cells = and_then_parts (told_short (told_cell nodes)) (get (codes "cells") d) row.cells parts.1 in
    let told = short_told (told_cell nodes) (CellRead nodes) (cell_read nodes) cells.0 row.cells cells.2 in
    record { on = ref_read nodes on.0 row.on kept.0; bit = eqb-true (width_of row.on) 1 kept.1; short = told.1; cells = told.0 }

-- ---- slots

pub record SlotRead (nodes : List NodeName) (slot : SlotEntry) : Type 0 where
  pub line : slot.line < 2 ^ 30
  pub gens : AreGens slot.gens
  pub short_names : IsShort slot.names
  pub short_rows : IsShort slot.rows
  pub rows : AllByRecursion (RowRead nodes) slot.rows

record SlotParts (line : Option ℕ) (gens : Option (List GenVariable)) (names : Option (List (List ℕ))) (rows : Option (List Row)) (slot : SlotEntry) : Type 0 where
  pub line_is : line ≡ Some slot.line
  pub gens_are : gens ≡ Some slot.gens
  pub names_are : names ≡ Some slot.names
  pub rows_are : rows ≡ Some slot.rows

slot_split : (variant line : Option ℕ) (gens : Option (List GenVariable)) (names : Option (List (List ℕ))) (rows : Option (List Row)) (slot : SlotEntry) →
    made_slot variant line gens names rows ≡ Some slot → SlotParts line gens names rows slot
slot_split None line gens names rows slot e = absurd (cc)
slot_split (Some variant) None gens names rows slot e = absurd (cc)
slot_split (Some variant) (Some line) None names rows slot e = absurd (cc)
slot_split (Some variant) (Some line) (Some gens) None rows slot e = absurd (cc)
slot_split (Some variant) (Some line) (Some gens) (Some names) None slot e = absurd (cc)
slot_split (Some variant) (Some line) (Some gens) (Some names) (Some rows) slot e =
    let same : record { variant = variant; line = line; gens = gens; names = names; rows = rows } ≡ slot = cc in
    record {
      line_is = ap (λ (s : SlotEntry). Some s.line) same;
      gens_are = ap (λ (s : SlotEntry). Some s.gens) same;
      names_are = ap (λ (s : SlotEntry). Some s.names) same;
      rows_are = ap (λ (s : SlotEntry). Some s.rows) same;
    }

place_at : (b : Bool) (file line at : ℕ) → is_place file line ≡ b → cond b (Some (place file line)) None ≡ Some at → at < 2 ^ 30
place_at false file line at is e = absurd (cc)
place_at true file line at is e =
    let same : place file line ≡ at = cc in
    let both = and_parts _ _ is in
    let file_small : file < 64 = ltb-true file 64 both.0 in
    let line_small : line < 16777216 = ltb-true line 16777216 both.1 in
    subst (λ n. n < 2 ^ 30) same (let small : file * 16777216 + line < 2 ^ 30 = omega (arith, file_small, line_small) in small)

place_read : (file line : Option ℕ) (at : ℕ) → made_place file line ≡ Some at → at < 2 ^ 30
place_read None line at e = absurd (cc)
place_read (Some file) None at e = absurd (cc)
place_read (Some file) (Some line) at e = place_at (is_place file line) file line at refl e

pub slot_read : (filed : Bool) (nodes : List NodeName) (d : Data) (slot : SlotEntry) → told_slot filed nodes d ≡ Some slot → SlotRead nodes slot
slot_read filed nodes d slot e =
    let file = file_found filed (told_member told_count (codes "file") d) in
    let line = told_member told_count (codes "line") d in
    let parts = slot_split (told_member told_count (codes "variant") d) (made_place file line) (told_member (told_short told_gen) (codes "gens") d)
    (told_member (told_short as_str) (codes "names") d) (told_member (told_short (told_row nodes)) (codes "rows") d) slot e in
    let gens = and_then_parts (told_short told_gen) (get (codes "gens") d) slot.gens parts.gens_are in
    let names = and_then_parts (told_short as_str) (get (codes "names") d) slot.names parts.names_are in
    let rows = and_then_parts (told_short (told_row nodes)) (get (codes "rows") d) slot.rows parts.rows_are in
    let told = short_told (told_row nodes) (RowRead nodes) (row_read nodes) rows.0 slot.rows rows.2 in
    record {
      line = place_read file line slot.line parts.line_is;
      gens = gens_read gens.0 slot.gens gens.2;
      short_names = (short_told as_str (λ text. ⊤) (λ x text is. tt) names.0 slot.names names.2).1;
      short_rows = told.1;
      rows = told.0;
    }
