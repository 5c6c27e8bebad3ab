-- The rows that a text is read as are a stimulus for the ports that it is read by.
use Rattle.std.proofs.Common.{◌≡◌, ℕ, suc, ◌+◌, ◌*◌, ◌≤◌, ◌^◌, Bool, true, false, cond, ◌&&◌, not, List, [], ◌∷◌, length, Option, Some, None, Result, Ok, Err, refl, ap, subst, arith}
use Rattle.std.specs.Prelude.{map, All, nat_le, nat_lt, if◌then◌else◌}
use Rattle.std.specs.List.{zip, position_from, list_all}
use Rattle.std.specs.Str.Lines.{lines}
use Rattle.std.proofs.lemmas.Bool.Decides.{nat_tests}
use Rattle.std.proofs.lemmas.List.Elements.{All-nil, All-cons}
use Rattle.bv_core.specs.Value.{Bits, IsBits}
use Rattle.design_core.specs.declared.Ports.{Ports}
use Rattle.design_core.specs.Ports.{has_width}
use Rattle.stim_text.specs.Fields.{fields, number_in}
use Rattle.stim_text.specs.Rows.{Input, are_names, are_numbers, are_few, is_too_large, value_in, unless_too_large, values_from, row_of, in_front, rows_from, rows_after_header, rows_of}
use Rattle.stim_text.specs.Stimulus.{IsStimulus}
use Rattle.stim_text.specs.declared.StimFault.{StimFault}

both : (a b : Bool) → (a && b) ≡ true → (a ≡ true) × (b ≡ true)
both true b e = (refl, e)
both false b e = cc

-- ---- a value

value_bits : (cell : Input × List ℕ) → has_width cell.0 ≡ true → is_too_large cell ≡ false → IsBits (value_in cell)
value_bits cell w f =
    let widths = both (nat_le 1 cell.0.1) (nat_le cell.0.1 128) w in
    let fits : nat_lt (number_in cell.1) (2 ^ cell.0.1) ≡ true = turned (nat_lt (number_in cell.1) (2 ^ cell.0.1)) f in
    record { some = grind (arith, nat_tests, widths.0); most = grind (arith, nat_tests, widths.1); fits = grind (arith, nat_tests, fits) }
  where
    turned : (b : Bool) → not b ≡ false → b ≡ true
    turned true e = refl
    turned false e = cc

-- ---- a row

-- what a row of values has
record IsRow (inputs : List Input) (values : List Bits) : Type 0 where
  widths : map (λ (value : Bits). value.width) values ≡ map (λ (input : Input). input.1) inputs
  bits : All IsBits values

row_widths : (inputs : List Input) (fs : List (List ℕ)) → are_numbers inputs fs ≡ true → map (λ (value : Bits). value.width) (map value_in (zip inputs fs)) ≡ map (λ (input : Input). input.1) inputs
row_widths [] [] e = refl
row_widths [] (f ∷ fs) e = cc
row_widths (i ∷ inputs) [] e = cc
row_widths (i ∷ inputs) (f ∷ fs) e = ap (λ (l : List ℕ). i.1 ∷ l) (row_widths inputs fs (both _ (are_numbers inputs fs) e).1)

none_some : (column : ℕ) → ◌≡◌ {A = Option ℕ} (Some column) None → ⊥
none_some column e = cc

row_bits : (column : ℕ) (inputs : List Input) (fs : List (List ℕ)) → list_all has_width inputs ≡ true → position_from is_too_large column (zip inputs fs) ≡ None → All IsBits (map value_in (zip inputs fs))
row_bits column [] fs w n = All-nil IsBits
row_bits column (i ∷ inputs) [] w n = All-nil IsBits
row_bits column (i ∷ inputs) (f ∷ fs) w n =
    let widths = both (has_width i) (list_all has_width inputs) w in
    by_size (is_too_large (i, f)) refl widths.0 (row_bits (column + 1) inputs fs widths.1) n
  where
    by_size : (b : Bool) → is_too_large (i, f) ≡ b → has_width i ≡ true → (position_from is_too_large (column + 1) (zip inputs fs) ≡ None → All IsBits (map value_in (zip inputs fs)))
        → cond b (Some column) (position_from is_too_large (column + 1) (zip inputs fs)) ≡ None → All IsBits (value_in (i, f) ∷ map value_in (zip inputs fs))
    by_size true e width rest none = absurd (none_some column none)
    by_size false e width rest none = All-cons IsBits (value_in (i, f)) (map value_in (zip inputs fs)) (value_bits (i, f) width e) (rest none)

row_kept : (row : ℕ) (inputs : List Input) (line : List ℕ) (values : List Bits) → list_all has_width inputs ≡ true → row_of row inputs line ≡ Ok values → IsRow inputs values
row_kept row inputs line values w e = by_numbers (are_numbers inputs (fields line)) refl e
  where
    by_place : (place : Option ℕ) → position_from is_too_large 0 (zip inputs (fields line)) ≡ place → are_numbers inputs (fields line) ≡ true
        → unless_too_large row place (map value_in (zip inputs (fields line))) ≡ Ok values → IsRow inputs values
    by_place (Some column) p numbers e = cc
    by_place None p numbers e =
        let same : map value_in (zip inputs (fields line)) ≡ values = cc in
        subst (IsRow inputs) same (record { widths = row_widths inputs (fields line) numbers; bits = row_bits 0 inputs (fields line) w p })

    by_numbers : (b : Bool) → are_numbers inputs (fields line) ≡ b → (if b then values_from row 0 (zip inputs (fields line)) else Err (StimFault.BadRow row)) ≡ Ok values → IsRow inputs values
    by_numbers true numbers e = by_place (position_from is_too_large 0 (zip inputs (fields line))) refl numbers e
    by_numbers false numbers e = cc

-- ---- all rows

record AreRows (inputs : List Input) (count : ℕ) (rows : List (List Bits)) : Type 0 where
  long : length rows ≡ count
  each : All (λ row. map (λ (value : Bits). value.width) row ≡ map (λ (input : Input). input.1) inputs) rows
  bits : All (λ row. All IsBits row) rows

rows_kept : (row : ℕ) (inputs : List Input) (lines : List (List ℕ)) (rows : List (List Bits)) → list_all has_width inputs ≡ true → rows_from row inputs lines ≡ Ok rows → AreRows inputs (length lines) rows
rows_kept row inputs [] rows w e =
    let none : [] ≡ rows = cc in subst (AreRows inputs 0) none (record { long = refl; each = All-nil _; bits = All-nil _ })
rows_kept row inputs (line ∷ more) rows w e =
    by_both (row_of row inputs line) (rows_from (row + 1) inputs more) (λ values is. row_kept row inputs line values w is) (λ rest is. rows_kept (row + 1) inputs more rest w is) e
  where
    by_both : (one : Result (List Bits) StimFault) (others : Result (List (List Bits)) StimFault) → ((values : List Bits) → one ≡ Ok values → IsRow inputs values) → ((rest : List (List Bits)) → others ≡ Ok rest → AreRows inputs (length more) rest)
        → in_front one others ≡ Ok rows → AreRows inputs (suc (length more)) rows
    by_both (Err fault) others first behind e = cc
    by_both (Ok values) (Err fault) first behind e = cc
    by_both (Ok values) (Ok rest) first behind e =
        let same : (values ∷ rest) ≡ rows = cc in
        let f = first values refl in
        let b = behind rest refl in
        subst (AreRows inputs (suc (length more))) same (record { long = ap suc b.long; each = All-cons (λ (r : List Bits). map (λ (value : Bits). value.width) r ≡ map (λ (input : Input). input.1) inputs) values rest f.widths b.each; bits = All-cons (λ (r : List Bits). All IsBits r) values rest f.bits b.bits })

pub rows_are_kept : (ports : Ports) (text : List ℕ) (rows : List (List Bits)) → rows_of ports text ≡ Ok rows → IsStimulus (record { ports = ports; rows = rows })
rows_are_kept ports text rows e = by_length (nat_le (length text) 67108864) e
  where
    inputs_wide : list_all has_width ports.inputs ≡ true
    inputs_wide = (both (list_all has_width ports.inputs) (list_all has_width ports.outputs) ports.widths).0

    few_of : (n : ℕ) → are_few ports n ≡ true → n ≤ 1000000
    few_of n h = grind (arith, nat_tests, (both (nat_le n 1000000) (nat_le (n * (length ports.inputs + ports.registers)) 16000000) h).0)

    stimulus : (count : ℕ) → are_few ports count ≡ true → AreRows ports.inputs count rows → IsStimulus (record { ports = ports; rows = rows })
    stimulus count few is = record { few = let n = few_of count few in let l = is.long in omega (arith, n, l); each = is.each; bits = is.bits }

    by_few : (b : Bool) (more : List (List ℕ)) → are_few ports (length more) ≡ b → (if b then rows_from 0 ports.inputs more else Err StimFault.TooLong) ≡ Ok rows → IsStimulus (record { ports = ports; rows = rows })
    by_few true more few e = stimulus (length more) few (rows_kept 0 ports.inputs more rows inputs_wide e)
    by_few false more few e = cc

    by_names : (b : Bool) (more : List (List ℕ)) → (if b then (if are_few ports (length more) then rows_from 0 ports.inputs more else Err StimFault.TooLong) else Err StimFault.HeaderMismatch) ≡ Ok rows → IsStimulus (record { ports = ports; rows = rows })
    by_names true more e = by_few (are_few ports (length more)) more refl e
    by_names false more e = cc

    by_lines : (ls : List (List ℕ)) → rows_after_header ports ls ≡ Ok rows → IsStimulus (record { ports = ports; rows = rows })
    by_lines [] e = cc
    by_lines (header ∷ more) e = by_names (are_names ports.inputs (fields header)) more e

    by_length : (b : Bool) → (if b then rows_after_header ports (lines text) else Err StimFault.TooLong) ≡ Ok rows → IsStimulus (record { ports = ports; rows = rows })
    by_length true e = by_lines (lines text) e
    by_length false e = cc
