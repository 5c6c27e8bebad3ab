-- What is told by the tree of each part is the part.
use Rattle.std.proofs.Common.{◌≡◌, ℕ, suc, ◌+◌, ◌/◌, ◌≤◌, ◌<◌, ◌^◌, ◌==◌, ◌&&◌, ◌||◌, ℤ, pos, negsuc, T, Bool, true, false, not, cond, List, [], ◌∷◌, ◌++◌, length, map, bytes_eq, decimal, Option, Some, None, option_map, refl, sym, ap, ap₂, ◌∙◌, subst, arith, append_assoc, leb-true}
use Rattle.std.specs.Prelude.{slice_get}
use Rattle.std.specs.List.{AllByRecursion, IsDistinct, list_all, list_any}
use Rattle.std.specs.Option.{option_map_or, option_or}
use Rattle.std.proofs.lemmas.Bool.{and_from, le-leb, lt-ltb, false≢true, true≢false}
use Rattle.std.proofs.lemmas.Fmt.{decimal_nonempty}
use Rattle.std.proofs.lemmas.List.Elements.{recursion_from_All}
use Rattle.std.proofs.lemmas.Slice.Eq.{bytes_eq-Decides}
use Rattle.text_core.specs.Digits.{is_digit_of}
use Rattle.bv_core.specs.Value.{Bits, IsBits}
use Rattle.bv_core.specs.Text.{hex_digits, shown}
use Rattle.bv_core.specs.declared.Ref.{Ref}
use Rattle.bv_core.specs.declared.Ref.TheVariants.{Node, Const}
use Rattle.bv_core.specs.declared.Binding.{Binding}
use Rattle.bv_core.specs.declared.Binding.TheVariants.{Value, Unset, Removed}
use Rattle.symtab.specs.Apart.{AreApart}
use Rattle.symtab.specs.Shape.{IsShort, IsWidth, IsGenNumber, AreGens, IsFound, IsCell, IsRow, width_of}
use Rattle.symtab.specs.declared.parts.NodeName.{NodeName}
use Rattle.symtab.specs.declared.parts.GenVariable.{GenVariable}
use Rattle.symtab.specs.declared.parts.VariantParts.{VariantParts}
use Rattle.symtab.specs.declared.parts.Row.{Row}
use Rattle.serde_json.specs.Data.{Data, string}
use Rattle.serde_json.specs.Find.{as_i64, of_integer}
use Rattle.serde_json.specs.View.{items_of}
use Rattle.symtab_json.specs.Files.{list_json, node_json, gen_json, variant_json, ref_json, cell_json, row_json}
use Rattle.symtab_json.specs.Entries.{kept_if, is_node_width, is_gen_number, told_items, told_first, told_list, told_short, is_short, made_node, told_node, made_gen, told_gen, made_variant, told_variant, told_ref, told_mark, told_cell, is_one_wide, told_on, made_row, told_row}
use Rattle.symtab_json.specs.Places.{are_apart, are_new}
use Rattle.symtab_json.specs.ReadBack.{RefIsValue, CellIsValue, RowIsValue}
use Rattle.symtab_json.proofs.Shown.{literal_back, decimal_all}

-- ---- lists

pub kept_back : {A : Type 0} (test : A → Bool) (x : A) → test x ≡ true → kept_if test (Some x) ≡ Some x
kept_back test x e = ap (λ b. cond b (Some x) None) e

pub items_back : {A B : Type 0} (told : Data → Option B) (tree : A → Data) (f : A → B) (xs : List A) →
    AllByRecursion (λ x. told (tree x) ≡ Some (f x)) xs → told_items told (items_of (map tree xs)) ≡ Some (map f xs)
items_back told tree f [] h = refl
items_back told tree f (x ∷ xs) h = ap₂ told_first h.0 (items_back told tree f xs h.1)

pub length_map : {A B : Type 0} (f : A → B) (xs : List A) → length (map f xs) ≡ length xs
length_map f [] = refl
length_map f (x ∷ xs) = ap suc (length_map f xs)

short_yes : {A B : Type 0} (f : A → B) (xs : List A) → IsShort xs → is_short (map f xs) ≡ true
short_yes f xs h = lt-ltb (length (map f xs)) 4294967296 (let n : length (map f xs) < 4294967296 = omega (arith, h, length_map f xs) in n)

pub short_back : {A B : Type 0} (told : Data → Option B) (tree : A → Data) (f : A → B) (xs : List A) → IsShort xs →
    AllByRecursion (λ x. told (tree x) ≡ Some (f x)) xs → told_short told (list_json tree xs) ≡ Some (map f xs)
short_back told tree f xs few h = ap (kept_if is_short) (items_back told tree f xs h) ∙ kept_back is_short (map f xs) (short_yes f xs few)

itself : {A : Type 0} (xs : List A) → map (λ x. x) xs ≡ xs
itself [] = refl
itself (x ∷ xs) = ap (λ ys. x ∷ ys) (itself xs)

pub list_same : {A : Type 0} (told : Data → Option A) (tree : A → Data) (xs : List A) → AllByRecursion (λ x. told (tree x) ≡ Some x) xs → told_list told (list_json tree xs) ≡ Some xs
list_same told tree xs h = items_back told tree (λ x. x) xs h ∙ ap Some (itself xs)

pub short_same : {A : Type 0} (told : Data → Option A) (tree : A → Data) (xs : List A) → IsShort xs → AllByRecursion (λ x. told (tree x) ≡ Some x) xs → told_short told (list_json tree xs) ≡ Some xs
short_same told tree xs few h = short_back told tree (λ x. x) xs few h ∙ ap Some (itself xs)

pub each : {A : Type 0} (P : A → Type 0) → ((x : A) → P x) → (xs : List A) → AllByRecursion P xs
each P f [] = tt
each P f (x ∷ xs) = (f x, each P f xs)

pub every : {A : Type 0} (P Q : A → Type 0) → ((x : A) → P x → Q x) → (xs : List A) → AllByRecursion P xs → AllByRecursion Q xs
every P Q f [] h = tt
every P Q f (x ∷ xs) h = (f x h.0, every P Q f xs h.1)

pub every_two : {A : Type 0} (P Q R : A → Type 0) → ((x : A) → P x → Q x → R x) → (xs : List A) → AllByRecursion P xs → AllByRecursion Q xs → AllByRecursion R xs
every_two P Q R f [] p q = tt
every_two P Q R f (x ∷ xs) p q = (f x p.0 q.0, every_two P Q R f xs p.1 q.1)

-- ---- names that differ

not_same : (b : Bool) (xs ys : List ℕ) → bytes_eq ys xs ≡ b → bytes_eq xs ys ≡ false → b ≡ false
not_same true xs ys e other = absurd (false≢true (sym other ∙ (bytes_eq-Decides xs ys).1 (sym ((bytes_eq-Decides ys xs).0 e))))
not_same false xs ys e other = refl

all_at : {A : Type 0} (P : A → Type 0) (front : List A) (x : A) (rest : List A) → AllByRecursion P (front ++ x ∷ rest) → P x
all_at P [] x rest h = h.0
all_at P (y ∷ front) x rest h = all_at P front x rest h.1

none_is : (before : List (List ℕ)) (text : List ℕ) (texts : List (List ℕ)) → IsDistinct bytes_eq (before ++ text ∷ texts) → list_any (bytes_eq text) before ≡ false
unfolding IsDistinct
none_is [] text texts h = refl
none_is (b ∷ before) text texts h =
    either (bytes_eq text b) (list_any (bytes_eq text) before) (not_same (bytes_eq text b) b text refl (all_at (λ y. bytes_eq b y ≡ false) before text texts h.0)) (none_is before text texts h.1)
  where
    either : (a c : Bool) → a ≡ false → c ≡ false → (a || c) ≡ false
    either false false p q = refl
    either true c p q = absurd (cc)
    either false true p q = q

new_back : (before texts : List (List ℕ)) → IsDistinct bytes_eq (before ++ texts) → are_new before texts ≡ true
new_back before [] h = refl
new_back before (text ∷ texts) h =
    and_from (not (list_any (bytes_eq text) before)) (are_new (before ++ text ∷ []) texts) (ap not (none_is before text texts h))
    (new_back (before ++ text ∷ []) texts (subst (λ (xs : List (List ℕ)). IsDistinct bytes_eq xs) (sym (append_assoc before (text ∷ []) texts)) h))

pub apart_back : (texts : List (List ℕ)) → AreApart texts → are_apart texts ≡ true
apart_back texts h = new_back [] texts h

-- ---- nodes, generator variables, variants

pub node_back : (node : NodeName) → IsWidth node.width → told_node (node_json node) ≡ Some node
node_back node w = ap (made_node (Some node.name)) (kept_back is_node_width node.width (and_from _ _ (le-leb 1 node.width w.some) (le-leb node.width 128 w.most)))

is_true : (b : Bool) → T b → b ≡ true
is_true true t = refl
is_true false t = absurd t

integer_back : (z : ℤ) → IsGenNumber z → as_i64 (of_integer z) ≡ Some z
integer_back (pos n) h = ap (λ b. cond b (Some (pos n)) None) (lt-ltb n 9223372036854775808 (let least : n ≤ 2 ^ 62 = leb-true n 4611686018427387904 (is_true _ h.most.le) in let l : n < 9223372036854775808 = omega (arith, least) in l))
integer_back (negsuc n) h = refl

pub gen_back : (variable : GenVariable) → IsGenNumber variable.value → told_gen (gen_json variable) ≡ Some variable
gen_back variable h =
    ap (made_gen (Some variable.name)) (ap (kept_if is_gen_number) (integer_back variable.value h)
    ∙ kept_back is_gen_number variable.value (and_from _ _ (is_true _ h.least.le) (is_true _ h.most.le)))

pub gens_back : (gens : List GenVariable) → AreGens gens → told_short told_gen (list_json gen_json gens) ≡ Some gens
gens_back gens h =
    short_same told_gen gen_json gens h.short
    (every (λ variable. IsGenNumber variable.value) (λ variable. told_gen (gen_json variable) ≡ Some variable) gen_back gens (recursion_from_All (λ variable. IsGenNumber variable.value) gens h.numbers))

pub variant_back : (variant : VariantParts) → AreGens variant.gens → told_variant (variant_json variant) ≡ Some variant
variant_back variant h = ap (made_variant (Some variant.module)) (gens_back variant.gens h)

-- ---- rows

width_back : (found : Option NodeName) (width : ℕ) → option_map (λ (n : NodeName). n.width) found ≡ Some width → option_map_or (λ (n : NodeName). n.width) found 1 ≡ width
width_back None width e = absurd (cc)
width_back (Some node) width e = cc

pub ref_back : (nodes : List NodeName) (at : Ref) → IsFound nodes at → RefIsValue at → told_ref nodes (ref_json at) ≡ Some at
ref_back nodes (Node id width) found value = ap (λ w. Some (Node id w)) (width_back (slice_get nodes id.0) width found)
ref_back nodes (Const bits) found value = ap (option_map Const) (literal_back bits value)

differs_at : (b : Bool) (d x : ℕ) (ds xs : List ℕ) → is_digit_of 10 d ≡ true → is_digit_of 10 x ≡ false → bytes_eq (d ∷ ds) (x ∷ xs) ≡ b → b ≡ false
differs_at false d x ds xs p q e = refl
differs_at true d x ds xs p q e =
    let same : d ∷ ds ≡ x ∷ xs = (bytes_eq-Decides (d ∷ ds) (x ∷ xs)).0 e in
    let first : d ≡ x = cc in
    absurd (true≢false (sym p ∙ ap (is_digit_of 10) first ∙ q))

no_word : (digits rest : List ℕ) (x : ℕ) (xs : List ℕ) → 0 < length digits → list_all (is_digit_of 10) digits ≡ true → is_digit_of 10 x ≡ false → bytes_eq (digits ++ rest) (x ∷ xs) ≡ false
no_word [] rest x xs some all q = absurd (omega arith)
no_word (d ∷ ds) rest x xs some all q = differs_at _ d x (ds ++ rest) xs (first (is_digit_of 10 d) (list_all (is_digit_of 10) ds) all) q refl
  where
    first : (a b : Bool) → (a && b) ≡ true → a ≡ true
    first true b e = refl
    first false b e = e

no_mark : (bits : Bits) → IsBits bits → told_mark (shown bits) ≡ None
no_mark bits h =
    let small : bits.width < 2 ^ 64 = omega (arith, h.most) in
    let rest = 39 ∷ 104 ∷ hex_digits ((bits.width + 3) / 4) bits.value in
    let split : shown bits ≡ decimal bits.width ++ rest = append_assoc (decimal bits.width) (39 ∷ 104 ∷ []) (hex_digits ((bits.width + 3) / 4) bits.value) in
    let some = decimal_nonempty bits.width small in
    let all = decimal_all bits.width small in
    ap told_mark split
    ∙ ap₂ (λ a b. cond a (Some Unset) (cond b (Some Removed) None))
    (no_word (decimal bits.width) rest 117 (110 ∷ 115 ∷ 101 ∷ 116 ∷ []) some all refl) (no_word (decimal bits.width) rest 114 (101 ∷ 109 ∷ 111 ∷ 118 ∷ 101 ∷ 100 ∷ []) some all refl)

pub cell_back : (nodes : List NodeName) (cell : Binding) → IsCell nodes cell → CellIsValue cell → told_cell nodes (cell_json cell) ≡ Some cell
cell_back nodes (Value (Node id width)) found value = ap (option_map Value) (ref_back nodes (Node id width) found value)
cell_back nodes (Value (Const bits)) found value =
    ap (λ o. option_or o (option_map Value (told_ref nodes (string (shown bits))))) (no_mark bits value) ∙ ap (option_map Value) (ref_back nodes (Const bits) found value)
cell_back nodes Unset found value = refl
cell_back nodes Removed found value = refl

on_back : (nodes : List NodeName) (at : Ref) → IsFound nodes at → width_of at ≡ 1 → RefIsValue at → told_on nodes (ref_json at) ≡ Some at
on_back nodes at found bit value = ap (kept_if is_one_wide) (ref_back nodes at found value) ∙ kept_back is_one_wide at (ap (λ w. w == 1) bit)

pub row_back : (nodes : List NodeName) (names : List (List ℕ)) (row : Row) → IsRow nodes names row → RowIsValue row → told_row nodes (row_json row) ≡ Some row
row_back nodes names row h v =
    let cells = every_two (IsCell nodes) CellIsValue (λ cell. told_cell nodes (cell_json cell) ≡ Some cell) (cell_back nodes) row.cells (recursion_from_All (IsCell nodes) row.cells h.cells) v.cells in
    ap₂ made_row (on_back nodes row.on h.on h.on_width v.on) (short_same (told_cell nodes) cell_json row.cells h.short cells)
