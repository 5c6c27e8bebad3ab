-- Changes that are kept in columns.
use Rattle.std.proofs.Common.{◌≡◌, ℕ, zero, suc, ◌+◌, ◌-◌, ◌<◌, ◌≤◌, List, [], ◌∷◌, ◌++◌, Some, length, refl, ap, sym, ◌∙◌, arith, length-append}
use Rattle.std.specs.Prelude.{slice_get, slice_index, slice_range}
use Rattle.std.proofs.lemmas.Option.{get_or_from_slice_get}
use Rattle.vcd_read.specs.declared.changes.Row.{Row}
use Rattle.vcd_read.proofs.TextLemmas.{range-append, range-last}
use Rattle.vcd_read.specs.Columns.{changes_of, AreRows, AreColumns, start_at}

-- rows begin within the digits
begin_within : (times digits start : ℕ) (rows : List Row) → AreRows times digits start rows → start ≤ digits
begin_within times digits start [] are = omega (arith, are)
begin_within times digits start (row ∷ rows) are = omega (arith, are.1, begin_within times digits row.end rows are.2)

-- one more row
pub more_rows : (times digits more start : ℕ) (rows : List Row) (row : Row) → AreRows times digits start rows → row.step < times → row.end ≡ digits + more
    → AreRows times (digits + more) start (rows ++ row ∷ [])
more_rows times digits more start [] row are within ends = (within, omega (arith, are), ends)
more_rows times digits more start (first ∷ rows) row are within ends = (are.0, are.1, more_rows times digits more first.end rows row are.2 within ends)

-- more times
pub more_times : (times others digits start : ℕ) (rows : List Row) → times ≤ others → AreRows times digits start rows → AreRows others digits start rows
more_times times others digits start [] more are = are
more_times times others digits start (row ∷ rows) more are = (omega (arith, are.0), are.1, more_times times others digits row.end rows more are.2)

-- one more change, behind the others
pub changes-push : (times digits more : List ℕ) (start : ℕ) (rows : List Row) (row : Row) → AreRows (length times) (length digits) start rows → row.end ≡ length digits + length more
    → changes_of times (digits ++ more) start (rows ++ row ∷ []) ≡ changes_of times digits start rows ++ record { time = slice_index times row.step; code = row.code; digits = more } ∷ []
changes-push times digits more start [] row are ends =
    ap (λ found. record { time = slice_index times row.step; code = row.code; digits = found } ∷ []) (range-last digits more start row.end are ends)
changes-push times digits more start (first ∷ rows) row are ends =
    let same = range-append digits more start first.end (begin_within (length times) (length digits) first.end rows are.2) are.1 in
    ap (λ found. record { time = slice_index times first.step; code = first.code; digits = found } ∷ changes_of times (digits ++ more) first.end (rows ++ row ∷ [])) same
    ∙ ap (λ others. record { time = slice_index times first.step; code = first.code; digits = slice_range digits start first.end } ∷ others) (changes-push times digits more first.end rows row are.2 ends)

index-append : (times more : List ℕ) (i : ℕ) → i < length times → slice_index (times ++ more) i ≡ slice_index times i
index-append [] more i within = absurd (omega arith)
index-append (time ∷ times) more zero within = refl
index-append (time ∷ times) more (suc i) within = index-append times more i (omega arith)

-- more times change no row
pub changes-times : (times more digits : List ℕ) (total start : ℕ) (rows : List Row) → AreRows (length times) total start rows
    → changes_of (times ++ more) digits start rows ≡ changes_of times digits start rows
changes-times times more digits total start [] are = refl
changes-times times more digits total start (row ∷ rows) are =
    ap (λ time. record { time = time; code = row.code; digits = slice_range digits start row.end } ∷ changes_of (times ++ more) digits row.end rows) (index-append times more row.step are.0)
    ∙ ap (λ others. record { time = slice_index times row.step; code = row.code; digits = slice_range digits start row.end } ∷ others) (changes-times times more digits total row.end rows are.2)

-- they begin where those of the row before end
pub start-suc : (start : ℕ) (rows : List Row) (i : ℕ) (row : Row) → slice_get rows i ≡ Some row → start_at start rows (suc i) ≡ row.end
start-suc start [] i row e = cc
start-suc start (first ∷ rows) zero row e = let same : first ≡ row = cc in ap (λ row. row.end) same
start-suc start (first ∷ rows) (suc i) row e = start-suc first.end rows i row e

-- what a row of a place has
pub record IsRowAt (times digits : List ℕ) (start : ℕ) (rows : List Row) (i : ℕ) (row : Row) : Type 0 where
  pub time : row.step < length times
  pub order : start_at start rows i ≤ row.end
  pub within : row.end ≤ length digits
  pub change : slice_get (changes_of times digits start rows) i ≡ Some (record { time = slice_index times row.step; code = row.code; digits = slice_range digits (start_at start rows i) row.end })

-- the row of a place
pub row_at : (times digits : List ℕ) (start : ℕ) (rows : List Row) (i : ℕ) (row : Row) → AreRows (length times) (length digits) start rows → slice_get rows i ≡ Some row → IsRowAt times digits start rows i row
row_at times digits start [] i row are e = cc
row_at times digits start (first ∷ rows) zero row are e =
    let same : first ≡ row = cc in
    rw (← same) (record { time = are.0; order = are.1; within = begin_within (length times) (length digits) first.end rows are.2; change = refl })
row_at times digits start (first ∷ rows) (suc i) row are e =
    let more = row_at times digits first.end rows i row are.2 e in
    record { time = more.time; order = more.order; within = more.within; change = more.change }

pub length-changes_of : (times digits : List ℕ) (start : ℕ) (rows : List Row) → length (changes_of times digits start rows) ≡ length rows
length-changes_of times digits start [] = refl
length-changes_of times digits start (row ∷ rows) = ap suc (length-changes_of times digits row.end rows)

some_within : {X : Type 0} (xs : List X) (i : ℕ) (x : X) → slice_get xs i ≡ Some x → i < length xs
some_within [] i x e = cc
some_within (y ∷ xs) zero x e = omega arith
some_within (y ∷ xs) (suc i) x e = omega (arith, some_within xs i x e)

-- what a row of a place has, of columns
pub is_row : (time : ℕ) (times digits : List ℕ) (rows : List Row) (i : ℕ) (row : Row) → AreColumns time times digits rows → slice_get rows i ≡ Some row → IsRowAt times digits 0 rows i row
is_row time times digits rows i row are e = row_at times digits 0 rows i row are.whole e

-- where the digits begin of any row but the first
pub start_after : (rows : List Row) (i : ℕ) (row : Row) → 0 < i → slice_get rows (i - 1) ≡ Some row → row.end ≡ start_at 0 rows i
start_after rows zero row some e = absurd (omega arith)
start_after rows (suc i) row some e =
    let same : suc i - 1 ≡ i = omega arith in
    sym (start-suc 0 rows i row (ap (slice_get rows) (sym same) ∙ e))

-- one more change, in columns
pub columns-push : (time : ℕ) (times digits more : List ℕ) (rows : List Row) (row : Row) → AreColumns time times digits rows → row.step ≡ length times - 1 → row.end ≡ length digits + length more
    → AreColumns time times (digits ++ more) (rows ++ row ∷ [])
columns-push time times digits more rows row are step ends =
    let last : length times - 1 < length times = some_within times (length times - 1) time are.now in
    record { now = are.now; whole = rw (length-append digits more) (more_rows (length times) (length digits) (length more) 0 rows row are.whole (omega arith) ends) }

pub pushed : (time : ℕ) (times digits more : List ℕ) (rows : List Row) (row : Row) → AreColumns time times digits rows → row.step ≡ length times - 1 → row.end ≡ length digits + length more
    → changes_of times (digits ++ more) 0 (rows ++ row ∷ []) ≡ changes_of times digits 0 rows ++ record { time = time; code = row.code; digits = more } ∷ []
pushed time times digits more rows row are step ends =
    let now : slice_index times row.step ≡ time = ap (slice_index times) step ∙ get_or_from_slice_get times (length times - 1) time 0 are.now in
    changes-push times digits more 0 rows row are.whole ends ∙ ap (λ t. changes_of times digits 0 rows ++ record { time = t; code = row.code; digits = more } ∷ []) now

slice_get-last : {X : Type 0} (xs : List X) (x : X) (i : ℕ) → i ≡ length xs → slice_get (xs ++ x ∷ []) i ≡ Some x
slice_get-last [] x zero e = refl
slice_get-last [] x (suc i) e = absurd (omega arith)
slice_get-last (y ∷ xs) x zero e = absurd (omega arith)
slice_get-last (y ∷ xs) x (suc i) e = slice_get-last xs x i (omega arith)

-- another time, in columns
pub columns-time : (time next : ℕ) (times digits : List ℕ) (rows : List Row) → AreColumns time times digits rows → AreColumns next (times ++ next ∷ []) digits rows
columns-time time next times digits rows are = record {
  now = slice_get-last times next (length (times ++ next ∷ []) - 1) (omega (arith, length-append times (next ∷ [])));
  whole = more_times (length times) (length (times ++ next ∷ [])) (length digits) 0 rows (omega (arith, length-append times (next ∷ []))) are.whole;
}
