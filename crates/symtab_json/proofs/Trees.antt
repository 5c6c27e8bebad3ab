-- The tree of a table's parts is one that is read back from its JSON.
use Rattle.std.proofs.Common.{◌≡◌, ℕ, zero, suc, ◌+◌, ◌-◌, ◌/◌, ◌%◌, ◌≤◌, ◌<◌, ◌^◌, ℤ, pos, negsuc, T, Bool, true, false, List, [], ◌∷◌, get_or, length, codes, Some, None, Option, option_map, IsUtf8, refl, ◌∙◌, arith, leb-true}
use Rattle.std.specs.Prelude.{slice_get}
use Rattle.std.proofs.lemmas.List.Elements.{recursion_from_All}
use Rattle.std.proofs.lemmas.Option.{slice_get_within}
use Rattle.std.proofs.lemmas.Str.{IsUtf8-append, IsUtf8-from_ascii}
use Rattle.std.proofs.lemmas.Fmt.{IsAscii-decimal}
use lib.Signed.{mag}
use Rattle.json.proofs.Printed.Utf8.{IsUtf8-are_ascii}
use Rattle.places.specs.Places.{file_of, line_in}
use Rattle.bv_core.specs.Value.{Bits, IsBits}
use Rattle.bv_core.specs.Text.{hex_digit, hex_digits, shown}
use Rattle.bv_core.specs.declared.Ref.{Ref}
use Rattle.bv_core.specs.declared.Ref.TheVariants.{Node, Const}
use Rattle.bv_core.specs.declared.Binding.{Binding}
use Rattle.bv_core.specs.declared.Binding.TheVariants.{Value, Unset, Removed}
use Rattle.symtab.specs.Shape.{IsWidth, IsGenNumber, AreGens, IsFound, IsCell, IsRow, IsSlot, IsTable, variants_of}
use Rattle.symtab.specs.declared.parts.NodeName.{NodeName}
use Rattle.symtab.specs.declared.parts.GenVariable.{GenVariable}
use Rattle.symtab.specs.declared.parts.VariantParts.{VariantParts}
use Rattle.symtab.specs.declared.parts.InstanceParts.{InstanceParts}
use Rattle.symtab.specs.declared.parts.Row.{Row}
use Rattle.symtab.specs.declared.parts.Slot.{Slot}
use Rattle.symtab.specs.declared.parts.TableParts.{TableParts}
use Rattle.serde_json.specs.Data.{Data, member, no_members, put, string}
use Rattle.symtab_json.specs.Files.{count_json, list_json, node_json, gen_json, variant_json, instance_json, ref_json, cell_json, row_json, slot_members, slot_json, table_members, table_json}
use Rattle.symtab_json.specs.ReadBack.{RefIsValue, CellIsValue, RowIsValue, GensAreTexts, VariantIsText, SlotIsText, AreTexts}
use Rattle.symtab_json.proofs.Rounds.{Round, round_string, round_count, round_integer, round_list, round_pair, round_end, round_member, round_object, member_back}
use Rattle.symtab_json.proofs.Backs.{every, every_two}

round_up : (m n : ℕ) (d : Data) → m ≤ n → Round m d → Round n d
round_up m n d more of = record { back = of.back; numbers = of.numbers; utf8 = of.utf8; deep = omega (arith, of.deep, more) }

-- ---- nodes, generator variables, variants, instances

round_node : (n : ℕ) (node : NodeName) → IsWidth node.width → IsUtf8 node.name → Round (suc n) (node_json node)
round_node n node w named = round_pair n (string node.name) (count_json node.width) (round_string n node.name named) (round_count n node.width (omega (arith, w.most)))

is_true : (b : Bool) → T b → b ≡ true
is_true true t = refl
is_true false t = absurd t

gen_small : (z : ℤ) → IsGenNumber z → mag z < 2 ^ 63
gen_small (pos n) h = let most : n ≤ 2 ^ 62 = leb-true n 4611686018427387904 (is_true _ h.most.le) in omega (arith, most)
gen_small (negsuc n) h = let most : n ≤ 2 ^ 62 - 1 = leb-true n 4611686018427387903 (is_true _ h.least.le) in omega (arith, most)

round_gen : (n : ℕ) (variable : GenVariable) → IsGenNumber variable.value → IsUtf8 variable.name → Round (suc n) (gen_json variable)
round_gen n variable h named = round_pair n (string variable.name) _ (round_string n variable.name named) (round_integer n variable.value (gen_small variable.value h))

round_gens : (n : ℕ) (gens : List GenVariable) → AreGens gens → GensAreTexts gens → Round (suc (suc n)) (list_json gen_json gens)
round_gens n gens h texts =
    round_list (suc n) gen_json gens (every_two (λ g. IsGenNumber g.value) (λ g. IsUtf8 g.name) (λ g. Round (suc n) (gen_json g)) (round_gen n) gens
    (recursion_from_All (λ g. IsGenNumber g.value) gens h.numbers) texts)

round_variant : (n : ℕ) (variant : VariantParts) → AreGens variant.gens → VariantIsText variant → Round (suc (suc (suc n))) (variant_json variant)
round_variant n variant h texts = round_pair (suc (suc n)) (string variant.module) _ (round_string (suc (suc n)) variant.module texts.0) (round_gens n variant.gens h texts.1)

round_instance : (n : ℕ) (variants : ℕ) (instance : InstanceParts) → variants < 2 ^ 32 → instance.variant < variants → IsUtf8 instance.path → Round (suc n) (instance_json instance)
round_instance n variants instance few inside named = round_pair n (string instance.path) (count_json instance.variant) (round_string n instance.path named) (round_count n instance.variant (omega (arith, few, inside)))

-- ---- rows

ascii_digit : (d : ℕ) → d < 16 → hex_digit d < 128
ascii_digit d l = grind arith

one_small : (x i : ℕ) → x < 128 → get_or (x ∷ []) i 0 < 128
one_small x zero h = h
one_small x (suc i) h = omega arith

hex_utf8 : (count n : ℕ) → IsUtf8 (hex_digits count n)
unfolding hex_digits
hex_utf8 zero n = IsUtf8-are_ascii _ refl
hex_utf8 (suc count) n = IsUtf8-append (hex_digits count (n / 16)) _ (hex_utf8 count (n / 16)) (IsUtf8-from_ascii (hex_digit (n % 16) ∷ []) (λ i. one_small (hex_digit (n % 16)) i (ascii_digit (n % 16) (let l : n % 16 < 16 = omega arith in l))))

shown_utf8 : (bits : Bits) → IsBits bits → IsUtf8 (shown bits)
shown_utf8 bits h =
    IsUtf8-append _ _ (IsUtf8-append _ _ (IsUtf8-from_ascii _ (IsAscii-decimal bits.width (omega (arith, h.most)))) (IsUtf8-are_ascii _ refl)) (hex_utf8 ((bits.width + 3) / 4) bits.value)

pub node_inside : (nodes : List NodeName) (id width : ℕ) → option_map (λ (n : NodeName). n.width) (slice_get nodes id) ≡ Some width → id < length nodes
node_inside nodes id width e = at (slice_get nodes id) refl e
  where
    at : (o : Option NodeName) → slice_get nodes id ≡ o → option_map (λ (n : NodeName). n.width) o ≡ Some width → id < length nodes
    at None is e = absurd (cc)
    at (Some node) is e = slice_get_within nodes id node is

round_ref : (n : ℕ) (nodes : List NodeName) (at : Ref) → length nodes < 2 ^ 64 → IsFound nodes at → RefIsValue at → Round n (ref_json at)
round_ref n nodes (Node id width) few found value = round_count n id.0 (omega (arith, few, node_inside nodes id.0 width found))
round_ref n nodes (Const bits) few found value = round_string n (shown bits) (shown_utf8 bits value)

round_cell : (n : ℕ) (nodes : List NodeName) (cell : Binding) → length nodes < 2 ^ 64 → IsCell nodes cell → CellIsValue cell → Round n (cell_json cell)
round_cell n nodes (Value at) few found value = round_ref n nodes at few found value
round_cell n nodes Unset few found value = round_string n (codes "unset") (IsUtf8-are_ascii _ refl)
round_cell n nodes Removed few found value = round_string n (codes "removed") (IsUtf8-are_ascii _ refl)

round_row : (nodes : List NodeName) (names : List (List ℕ)) (row : Row) → length nodes < 2 ^ 64 → IsRow nodes names row → RowIsValue row → Round 2 (row_json row)
round_row nodes names row few h v =
    let cells : Round 1 (list_json cell_json row.cells) =
    round_list 0 cell_json row.cells (every_two (IsCell nodes) CellIsValue (λ cell. Round 0 (cell_json cell)) (λ cell. round_cell 0 nodes cell few) row.cells (recursion_from_All (IsCell nodes) row.cells h.cells) v.cells) in
    let on : Round 1 (ref_json row.on) = round_ref 1 nodes row.on few h.on v.on in
    let last = member (codes "on") (ref_json row.on) no_members in
    round_object 1 (member (codes "cells") (list_json cell_json row.cells) last)
    (member_back 1 (codes "cells") (list_json cell_json row.cells) last no_members cells ∙ member_back 1 (codes "on") (ref_json row.on) no_members (put (codes "cells") (list_json cell_json row.cells) no_members) on)
    (round_member 1 (codes "cells") (list_json cell_json row.cells) last (IsUtf8-are_ascii _ refl) cells (round_member 1 (codes "on") (ref_json row.on) no_members (IsUtf8-are_ascii _ refl) on (round_end 1)))

-- ---- slots

round_slot : (parts : TableParts) (of : List ℕ) (slot : Slot) → length parts.nodes < 2 ^ 64 → length parts.variants < 2 ^ 32 → IsSlot parts.nodes (length parts.variants) of slot → SlotIsText slot → Round 4 (slot_json slot)
round_slot parts of slot few variants h t =
    let gens : Round 3 (list_json gen_json slot.gens) = round_gens 1 slot.gens h.gens t.gens in
    let whole : (file_of slot.line < 2 ^ 64) × (line_in slot.line < 2 ^ 64) = (omega (arith, h.line), omega (arith, h.line)) in
    let file : Round 3 (count_json (file_of slot.line)) = round_count 3 (file_of slot.line) whole.0 in
    let line : Round 3 (count_json (line_in slot.line)) = round_count 3 (line_in slot.line) whole.1 in
    let names : Round 3 (list_json string slot.names) = round_list 2 string slot.names (every IsUtf8 (λ s. Round 2 (string s)) (round_string 2) slot.names t.names) in
    let rows : Round 3 (list_json row_json slot.rows) =
    round_list 2 row_json slot.rows (every_two (IsRow parts.nodes slot.names) RowIsValue (λ row. Round 2 (row_json row)) (λ row. round_row parts.nodes slot.names row few) slot.rows
    (recursion_from_All (IsRow parts.nodes slot.names) slot.rows h.rows) t.rows) in
    let variant : Round 3 (count_json slot.variant) = round_count 3 slot.variant (omega (arith, h.variant, variants)) in
    let m5 = member (codes "variant") (count_json slot.variant) no_members in
    let m4 = member (codes "rows") (list_json row_json slot.rows) m5 in
    let m3 = member (codes "names") (list_json string slot.names) m4 in
    let m2 = member (codes "line") (count_json (line_in slot.line)) m3 in
    let m1 = member (codes "gens") (list_json gen_json slot.gens) m2 in
    let f0 = put (codes "file") (count_json (file_of slot.line)) no_members in
    let f1 = put (codes "gens") (list_json gen_json slot.gens) f0 in
    let f2 = put (codes "line") (count_json (line_in slot.line)) f1 in
    let f3 = put (codes "names") (list_json string slot.names) f2 in
    let f4 = put (codes "rows") (list_json row_json slot.rows) f3 in
    round_object 3 (slot_members slot)
    (member_back 3 (codes "file") (count_json (file_of slot.line)) m1 no_members file ∙ member_back 3 (codes "gens") (list_json gen_json slot.gens) m2 f0 gens
    ∙ member_back 3 (codes "line") (count_json (line_in slot.line)) m3 f1 line
    ∙ member_back 3 (codes "names") (list_json string slot.names) m4 f2 names ∙ member_back 3 (codes "rows") (list_json row_json slot.rows) m5 f3 rows
    ∙ member_back 3 (codes "variant") (count_json slot.variant) no_members f4 variant)
    (round_member 3 (codes "file") (count_json (file_of slot.line)) m1 (IsUtf8-are_ascii _ refl) file
    (round_member 3 (codes "gens") (list_json gen_json slot.gens) m2 (IsUtf8-are_ascii _ refl) gens (round_member 3 (codes "line") (count_json (line_in slot.line)) m3 (IsUtf8-are_ascii _ refl) line
    (round_member 3 (codes "names") (list_json string slot.names) m4 (IsUtf8-are_ascii _ refl) names (round_member 3 (codes "rows") (list_json row_json slot.rows) m5 (IsUtf8-are_ascii _ refl) rows
    (round_member 3 (codes "variant") (count_json slot.variant) no_members (IsUtf8-are_ascii _ refl) variant (round_end 3)))))))

-- ---- whole tables

pub round_table : (parts : TableParts) → IsTable parts → AreTexts parts → Round 127 (table_json parts)
round_table parts h t =
    let instances : Round 5 (list_json instance_json parts.instances) =
    round_list 4 instance_json parts.instances (every_two (λ i. i.variant < length parts.variants) (λ i. IsUtf8 i.path) (λ i. Round 4 (instance_json i))
    (λ i. round_instance 3 (length parts.variants) i h.short_variants) parts.instances (recursion_from_All (λ i. i.variant < length parts.variants) parts.instances h.instances) t.instances) in
    let nodes : Round 5 (list_json node_json parts.nodes) =
    round_list 4 node_json parts.nodes (every_two (λ n. IsWidth n.width) (λ n. IsUtf8 n.name) (λ n. Round 4 (node_json n)) (round_node 3) parts.nodes (recursion_from_All (λ n. IsWidth n.width) parts.nodes h.widths) t.nodes) in
    let slots : Round 5 (list_json slot_json parts.slots) =
    round_list 4 slot_json parts.slots (every_two (IsSlot parts.nodes (length parts.variants) (variants_of parts.instances)) SlotIsText (λ s. Round 4 (slot_json s))
    (λ s. round_slot parts (variants_of parts.instances) s t.few h.short_variants) parts.slots
    (recursion_from_All (IsSlot parts.nodes (length parts.variants) (variants_of parts.instances)) parts.slots h.slots) t.slots) in
    let top : Round 5 (string parts.top) = round_string 5 parts.top t.top in
    let variants : Round 5 (list_json variant_json parts.variants) =
    round_list 4 variant_json parts.variants (every_two (λ v. AreGens v.gens) VariantIsText (λ v. Round 4 (variant_json v)) (round_variant 1) parts.variants (recursion_from_All (λ v. AreGens v.gens) parts.variants h.variants) t.variants) in
    let version : Round 5 (count_json 2) = round_count 5 2 (omega arith) in
    let m6 = member (codes "version") (count_json 2) no_members in
    let m5 = member (codes "variants") (list_json variant_json parts.variants) m6 in
    let m4 = member (codes "top") (string parts.top) m5 in
    let m3 = member (codes "slots") (list_json slot_json parts.slots) m4 in
    let m2 = member (codes "nodes") (list_json node_json parts.nodes) m3 in
    let f1 = put (codes "instances") (list_json instance_json parts.instances) no_members in
    let f2 = put (codes "nodes") (list_json node_json parts.nodes) f1 in
    let f3 = put (codes "slots") (list_json slot_json parts.slots) f2 in
    let f4 = put (codes "top") (string parts.top) f3 in
    let f5 = put (codes "variants") (list_json variant_json parts.variants) f4 in
    round_up 6 127 (table_json parts) (omega arith) (round_object 5 (table_members parts)
    (member_back 5 (codes "instances") (list_json instance_json parts.instances) m2 no_members instances ∙ member_back 5 (codes "nodes") (list_json node_json parts.nodes) m3 f1 nodes
    ∙ member_back 5 (codes "slots") (list_json slot_json parts.slots) m4 f2 slots ∙ member_back 5 (codes "top") (string parts.top) m5 f3 top
    ∙ member_back 5 (codes "variants") (list_json variant_json parts.variants) m6 f4 variants ∙ member_back 5 (codes "version") (count_json 2) no_members f5 version)
    (round_member 5 (codes "instances") (list_json instance_json parts.instances) m2 (IsUtf8-are_ascii _ refl) instances (round_member 5 (codes "nodes") (list_json node_json parts.nodes) m3 (IsUtf8-are_ascii _ refl) nodes
    (round_member 5 (codes "slots") (list_json slot_json parts.slots) m4 (IsUtf8-are_ascii _ refl) slots (round_member 5 (codes "top") (string parts.top) m5 (IsUtf8-are_ascii _ refl) top
    (round_member 5 (codes "variants") (list_json variant_json parts.variants) m6 (IsUtf8-are_ascii _ refl) variants (round_member 5 (codes "version") (count_json 2) no_members (IsUtf8-are_ascii _ refl) version (round_end 5))))))))
