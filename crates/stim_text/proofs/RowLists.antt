-- Rows that lie one behind the other.
use Rattle.std.proofs.Common.{◌≡◌, ℕ, zero, suc, ◌+◌, ◌*◌, ◌^◌, ◌<◌, ◌≤◌, Bool, true, false, not, nat_lt, nat_le, ltb-true, leb-true, List, [], ◌∷◌, ◌++◌, Option, Some, None, Result, Ok, Err, length, take, drop, refl, ap, sym, ◌∙◌, arith, subst, length-append}
use Rattle.std.specs.Prelude.{map, All, slice_get, ◌&&◌, if◌then◌else◌}
use Rattle.std.specs.List.{list_all, position_from, zip}
use Rattle.std.proofs.lemmas.Bool.{and_parts}
use Rattle.std.specs.Str.Lines.{lines}
use Rattle.std.proofs.lemmas.List.{drop-drop, length-map, take-append-le, drop-append-le, take_all, length-drop}
use Rattle.std.proofs.lemmas.List.Elements.{All-cons, All-nil, All-head, All-tail}
use Rattle.std.proofs.Math.Nat.{mul-le-mul_right}
use Rattle.bv_core.specs.Value.{Bits, IsBits}
use Rattle.design_core.specs.Ports.{has_width}
use Rattle.stim_text.specs.Fields.{fields, is_number, number_in}
use Rattle.stim_text.specs.Rows.{Input, after, in_front, unless_too_large, is_too_large, value_in, values_from, are_numbers, row_of, rows_from}
use Rattle.stim_text.specs.Stimulus.{rows_in}
use Rattle.stim_text.proofs.RowLemmas.{after-in_front}
use Rattle.stim_text.specs.declared.fault.StimFault.{StimFault}
use Rattle.stim_text.specs.declared.fault.StimFault.TheVariants.{BadRow}

-- the widths of values are those of the inputs
abbrev pub HasWidths : List Input → List Bits → Type 0
HasWidths inputs row = map (λ value. value.width) row ≡ map (λ input. input.1) inputs

cell_widths_by : (input : Input) (inputs : List Input) (field : List ℕ) (fields : List (List ℕ)) (b : Bool) → (b && are_numbers inputs fields) ≡ true → are_numbers inputs fields ≡ true
cell_widths_by input inputs field fields true e = e
cell_widths_by input inputs field fields false e = cc

cell_widths : (inputs : List Input) (fields : List (List ℕ)) → are_numbers inputs fields ≡ true → HasWidths inputs (map value_in (zip inputs fields))
cell_widths [] [] e = refl
cell_widths [] (field ∷ fields) e = cc
cell_widths (input ∷ inputs) [] e = cc
cell_widths (input ∷ inputs) (field ∷ fields) e =
    ap (λ widths. input.1 ∷ widths) (cell_widths inputs fields (cell_widths_by input inputs field fields (is_number field) e))

unless_is : (row : ℕ) (column : Option ℕ) (values found : List Bits) → unless_too_large row column values ≡ Ok found → found ≡ values
unless_is row (Some column) values found e = cc
unless_is row None values found e = cc

row_by : (row : ℕ) (inputs : List Input) (fields : List (List ℕ)) (found : List Bits) (b : Bool) → are_numbers inputs fields ≡ b → (if b then values_from row 0 (zip inputs fields) else Err (BadRow row)) ≡ Ok found → HasWidths inputs found
row_by row inputs fields found true numbers e =
    ap (map (λ value. value.width)) (unless_is row (position_from is_too_large 0 (zip inputs fields)) (map value_in (zip inputs fields)) found e)
    ∙ cell_widths inputs fields numbers
row_by row inputs fields found false numbers e = cc

-- the values of a row have the widths of the inputs
pub row_widths : (row : ℕ) (inputs : List Input) (line : List ℕ) (found : List Bits) → row_of row inputs line ≡ Ok found → HasWidths inputs found
row_widths row inputs line found e = row_by row inputs (fields line) found (are_numbers inputs (fields line)) refl e

-- and are as many
pub row_len : (row : ℕ) (inputs : List Input) (line : List ℕ) (found : List Bits) → row_of row inputs line ≡ Ok found → length found ≡ length inputs
row_len row inputs line found e =
    sym (length-map found (λ value. value.width)) ∙ ap length (row_widths row inputs line found e) ∙ length-map inputs (λ input. input.1)

rest_widths : (row : ℕ) (inputs : List Input) (line : List ℕ) (first : Result (List Bits) StimFault) (more : Result (List (List Bits)) StimFault) (found : List (List Bits))
    → row_of row inputs line ≡ first → ((others : List (List Bits)) → more ≡ Ok others → All (HasWidths inputs) others) → in_front first more ≡ Ok found → All (HasWidths inputs) found
rest_widths row inputs line (Err fault) more found is on e = cc
rest_widths row inputs line (Ok x) (Err fault) found is on e = cc
rest_widths row inputs line (Ok x) (Ok xs) [] is on e = cc
rest_widths row inputs line (Ok x) (Ok xs) (y ∷ ys) is on e =
    let same : Ok (x ∷ xs) ≡ Ok (y ∷ ys) = e in
    let head : y ≡ x = cc in
    let tail : ys ≡ xs = cc in
    rw (head, tail) (All-cons (HasWidths inputs) x xs (row_widths row inputs line x is) (on xs refl))

-- each row has the widths of the inputs
pub all_widths : (row : ℕ) (inputs : List Input) (lines : List (List ℕ)) (found : List (List Bits)) → rows_from row inputs lines ≡ Ok found → All (HasWidths inputs) found
all_widths row inputs [] [] e = All-nil (HasWidths inputs)
all_widths row inputs [] (x ∷ xs) e = cc
all_widths row inputs (line ∷ lines) found e =
    rest_widths row inputs line (row_of row inputs line) (rows_from (row + 1) inputs lines) found refl (λ others is. all_widths (row + 1) inputs lines others is) e

-- ---- each value fits its width

pub has_width_is : (input : Input) → has_width input ≡ true → (1 ≤ input.1) × (input.1 ≤ 128)
has_width_is input e =
    let both = and_parts (nat_le 1 input.1) (nat_le input.1 128) e in
    (leb-true 1 input.1 both.0, leb-true input.1 128 both.1)

fits_by : (cell : Input × List ℕ) → nat_lt (number_in cell.1) (2 ^ cell.0.1) ≡ true → has_width cell.0 ≡ true → IsBits (value_in cell)
fits_by cell e w = let wide = has_width_is cell.0 w in record { some = wide.0; most = wide.1; fits = ltb-true (number_in cell.1) (2 ^ cell.0.1) e }

not_large : (b : Bool) (column : ℕ) (more : Option ℕ) → (if not b then Some column else more) ≡ None → (b ≡ true) × (more ≡ None)
not_large true column more e = (refl, e)
not_large false column more e = cc

cell_bits : (inputs : List Input) (fields : List (List ℕ)) (column : ℕ) → list_all has_width inputs ≡ true → position_from is_too_large column (zip inputs fields) ≡ None
    → All IsBits (map value_in (zip inputs fields))
cell_bits [] fields column wide e = All-nil IsBits
cell_bits (input ∷ inputs) [] column wide e = All-nil IsBits
cell_bits (input ∷ inputs) (field ∷ fields) column wide e =
    let both = and_parts (has_width input) (list_all has_width inputs) wide in
    let small = not_large (nat_lt (number_in field) (2 ^ input.1)) column (position_from is_too_large (column + 1) (zip inputs fields)) e in
    All-cons IsBits (value_in (input, field)) (map value_in (zip inputs fields)) (fits_by (input, field) small.0 both.0) (cell_bits inputs fields (column + 1) both.1 small.1)

bits_unless : (row : ℕ) (column : Option ℕ) (values found : List Bits) → unless_too_large row column values ≡ Ok found → (column ≡ None → All IsBits values) → All IsBits found
bits_unless row (Some column) values found e h = cc
bits_unless row None values found e h = subst (All IsBits) (sym (unless_is row None values found e)) (h refl)

row_bits_by : (row : ℕ) (inputs : List Input) (fields : List (List ℕ)) (found : List Bits) (b : Bool) → list_all has_width inputs ≡ true → (if b then values_from row 0 (zip inputs fields) else Err (BadRow row)) ≡ Ok found
    → All IsBits found
row_bits_by row inputs fields found true wide e =
    bits_unless row (position_from is_too_large 0 (zip inputs fields)) (map value_in (zip inputs fields)) found e (cell_bits inputs fields 0 wide)
row_bits_by row inputs fields found false wide e = cc

row_bits : (row : ℕ) (inputs : List Input) (line : List ℕ) (found : List Bits) → list_all has_width inputs ≡ true → row_of row inputs line ≡ Ok found → All IsBits found
row_bits row inputs line found wide e = row_bits_by row inputs (fields line) found (are_numbers inputs (fields line)) wide e

rest_bits : (row : ℕ) (inputs : List Input) (line : List ℕ) (first : Result (List Bits) StimFault) (more : Result (List (List Bits)) StimFault) (found : List (List Bits)) → list_all has_width inputs ≡ true
    → row_of row inputs line ≡ first → ((others : List (List Bits)) → more ≡ Ok others → All (All IsBits) others) → in_front first more ≡ Ok found → All (All IsBits) found
rest_bits row inputs line (Err fault) more found wide is on e = cc
rest_bits row inputs line (Ok x) (Err fault) found wide is on e = cc
rest_bits row inputs line (Ok x) (Ok xs) [] wide is on e = cc
rest_bits row inputs line (Ok x) (Ok xs) (y ∷ ys) wide is on e =
    let same : Ok (x ∷ xs) ≡ Ok (y ∷ ys) = e in
    let head : y ≡ x = cc in
    let tail : ys ≡ xs = cc in
    rw (head, tail) (All-cons (All IsBits) x xs (row_bits row inputs line x wide is) (on xs refl))

-- each value of each row is one
pub all_bits : (row : ℕ) (inputs : List Input) (lines : List (List ℕ)) (found : List (List Bits)) → list_all has_width inputs ≡ true → rows_from row inputs lines ≡ Ok found → All (All IsBits) found
all_bits row inputs [] [] wide e = All-nil (All IsBits)
all_bits row inputs [] (x ∷ xs) wide e = cc
all_bits row inputs (line ∷ lines) found wide e =
    rest_bits row inputs line (row_of row inputs line) (rows_from (row + 1) inputs lines) found wide refl (λ others is. all_bits (row + 1) inputs lines others wide is) e

-- as many rows as were cut
pub length-rows_in : {X : Type 0} (len count : ℕ) (xs : List X) → length (rows_in len count xs) ≡ count
unfolding rows_in
length-rows_in len zero xs = refl
length-rows_in len (suc count) xs = ap suc (length-rows_in len count (drop len xs))

-- one more row behind the others
pub rows_in-push : {X : Type 0} (len count : ℕ) (xs row : List X) → length xs ≡ count * len → length row ≡ len → rows_in len (count + 1) (xs ++ row) ≡ rows_in len count xs ++ row ∷ []
unfolding rows_in
rows_in-push len zero [] row long wide = ap (λ first. first ∷ []) (take_all len row (omega arith))
rows_in-push len zero (x ∷ xs) row long wide = absurd (omega arith)
rows_in-push len (suc count) xs row long wide =
    let within : len ≤ length xs = omega arith in
    let one_less : length (drop len xs) ≡ count * len = omega (arith, length-drop len xs) in
    let counted : suc count + 1 ≡ suc (count + 1) = omega arith in
    ap (λ n. rows_in len n (xs ++ row)) counted
    ∙ ap (λ first. first ∷ rows_in len (count + 1) (drop len (xs ++ row))) (take-append-le len xs row within)
    ∙ ap (λ rest. take len xs ∷ rows_in len (count + 1) rest) (drop-append-le len xs row within)
    ∙ ap (λ rest. take len xs ∷ rest) (rows_in-push len count (drop len xs) row one_less wide)

-- nothing stands before the others
pub after-nil : {X : Type 0} (said : Result (List X) StimFault) → after [] said ≡ said
after-nil (Ok xs) = refl
after-nil (Err fault) = refl

-- the values so far are rows, and the lines that are left give the others
pub record IsRead (inputs : List Input) (row : ℕ) (values : List Bits) (lines : List (List ℕ)) (whole : Result (List (List Bits)) StimFault) : Type 0 where
  pub long : length values ≡ row * length inputs
  pub rest : after (rows_in (length inputs) row values) (rows_from row inputs lines) ≡ whole

pub none_read : (inputs : List Input) (lines : List (List ℕ)) → IsRead inputs 0 [] lines (rows_from 0 inputs lines)
unfolding rows_in
none_read inputs lines = record { long = omega arith; rest = after-nil (rows_from 0 inputs lines) }

one_more_by : (inputs : List Input) (row : ℕ) (old new : List Bits) (line : List ℕ) (lines : List (List ℕ)) (whole : Result (List (List Bits)) StimFault) (found : Result (List Bits) StimFault)
    → row_of row inputs line ≡ found → length old ≡ row * length inputs → after (rows_in (length inputs) row old) (in_front found (rows_from (row + 1) inputs lines)) ≡ whole
    → after old found ≡ Ok new → IsRead inputs (row + 1) new lines whole
one_more_by inputs row old new line lines whole (Err fault) is long rest e = cc
one_more_by inputs row old new line lines whole (Ok found) is long rest e =
    let pushed : new ≡ old ++ found = cc in
    let wide : length found ≡ length inputs = row_len row inputs line found is in
    rw pushed (record {
      long = omega (arith, length-append old found);
      rest = ap (λ rows. after rows (rows_from (row + 1) inputs lines)) (rows_in-push (length inputs) row old found long wide) ∙ sym (after-in_front (rows_in (length inputs) row old) found (rows_from (row + 1) inputs lines)) ∙ rest;
    })

pub one_more : (inputs : List Input) (row : ℕ) (old new : List Bits) (line : List ℕ) (lines : List (List ℕ)) (whole : Result (List (List Bits)) StimFault)
    → IsRead inputs row old (line ∷ lines) whole → after old (row_of row inputs line) ≡ Ok new → IsRead inputs (row + 1) new lines whole
one_more inputs row old new line lines whole read e = one_more_by inputs row old new line lines whole (row_of row inputs line) refl read.long read.rest e

-- the row of a place
pub slice_get-rows_in : {X : Type 0} (len count : ℕ) (xs : List X) (t : ℕ) → t < count → slice_get (rows_in len count xs) t ≡ Some (take len (drop (t * len) xs))
unfolding rows_in
slice_get-rows_in len zero xs t within = absurd (omega arith)
slice_get-rows_in len (suc count) xs zero within =
    let none : 0 * len ≡ 0 = omega arith in
    ap (λ n. Some (take len (drop n xs))) (sym none)
slice_get-rows_in len (suc count) xs (suc t) within =
    let more : len + t * len ≡ suc t * len = omega arith in
    slice_get-rows_in len count (drop len xs) t (omega arith) ∙ ap (λ rest. Some (take len rest)) (drop-drop (t * len) len xs) ∙ ap (λ n. Some (take len (drop n xs))) more

-- a row lies within all of them
pub row_within : (len count t total : ℕ) → total ≡ count * len → t < count → t * len + len ≤ total
row_within len count t total long within =
    let most : (t + 1) * len ≤ count * len = mul-le-mul_right len (omega arith) in
    omega arith

at_place : {X : Type 0} (P : X → Type 0) (xs : List X) (x : X) (t : ℕ) → slice_get xs t ≡ Some x → All P xs → P x
at_place P [] x t e all = cc
at_place P (y ∷ xs) x zero e all = let same : y ≡ x = cc in subst P same (All-head P y xs all)
at_place P (y ∷ xs) x (suc t) e all = at_place P xs x t e (All-tail P y xs all)

-- what each row has, the row of a place has
pub widths_at : (inputs : List Input) (rows : List (List Bits)) (row : List Bits) (t : ℕ) → slice_get rows t ≡ Some row → All (HasWidths inputs) rows → HasWidths inputs row
widths_at inputs rows row t e all = at_place (HasWidths inputs) rows row t e all
