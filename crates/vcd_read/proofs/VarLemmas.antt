-- Variables that are kept by their names and rows.
use Rattle.std.proofs.Common.{◌≡◌, ℕ, zero, suc, List, [], ◌∷◌, ◌++◌, Some, length, refl, ap, arith}
use Rattle.std.specs.Prelude.{slice_get}
use Rattle.vcd_read.specs.declared.vars.VarRow.{VarRow}
use Rattle.vcd_read.specs.Nesting.{Numbered, numbered_of}

-- a variable of this name and row
abbrev pub var_by : List ℕ → VarRow → Numbered
var_by name row = record { scope = row.scope; name = name; code = row.code; size = row.size; counted = row.counted }

pub length-numbered_of : (names : List (List ℕ)) (rows : List VarRow) → length names ≡ length rows → length (numbered_of names rows) ≡ length rows
length-numbered_of [] rows same = same
length-numbered_of (name ∷ names) [] same = absurd (omega arith)
length-numbered_of (name ∷ names) (row ∷ rows) same = ap suc (length-numbered_of names rows (omega arith))

-- the variable of a place
pub numbered_at : (names : List (List ℕ)) (rows : List VarRow) (i : ℕ) (name : List ℕ) (row : VarRow) → slice_get names i ≡ Some name → slice_get rows i ≡ Some row
    → slice_get (numbered_of names rows) i ≡ Some (var_by name row)
numbered_at [] rows i name row e f = cc
numbered_at (first ∷ names) [] i name row e f = cc
numbered_at (first ∷ names) (other ∷ rows) zero name row e f =
    let same : first ≡ name = cc in
    let like : other ≡ row = cc in
    rw (same, like) refl
numbered_at (first ∷ names) (other ∷ rows) (suc i) name row e f = numbered_at names rows i name row e f

-- one more variable
pub numbered-push : (names : List (List ℕ)) (rows : List VarRow) (name : List ℕ) (row : VarRow) → length names ≡ length rows
    → numbered_of (names ++ name ∷ []) (rows ++ row ∷ []) ≡ numbered_of names rows ++ var_by name row ∷ []
numbered-push [] [] name row same = refl
numbered-push [] (other ∷ rows) name row same = absurd (omega arith)
numbered-push (first ∷ names) [] name row same = absurd (omega arith)
numbered-push (first ∷ names) (other ∷ rows) name row same = ap (λ rest. var_by first other ∷ rest) (numbered-push names rows name row (omega arith))
