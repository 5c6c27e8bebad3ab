-- A stimulus: a line with the names of the inputs, and then a row for each cycle.
use Rattle.std.specs.Prelude.{◌≡◌, ℕ, ◌+◌, ◌*◌, ◌^◌, Bool, true, false, not, List, [], ◌∷◌, ◌++◌, map, length, Option, Some, None, Result, Ok, Err, nat_lt, nat_le, ◌&&◌, if◌then◌else◌}
use Rattle.std.specs.List.{zip, position_from}
use Rattle.std.specs.Str.{bytes_eq}
use Rattle.std.specs.Str.Lines.{lines}
use Rattle.bv_core.specs.Value.{Bits}
use Rattle.design_core.specs.declared.Ports.{Ports}
use Rattle.stim_text.specs.Fields.{fields, is_number, number_in}
use Rattle.stim_text.specs.declared.fault.StimFault.{StimFault}
use Rattle.stim_text.specs.declared.fault.StimFault.TheVariants.{HeaderMismatch, BadRow, DoesNotFit, TooLong, NoMemory}

-- an input: its name, and its width in bits
abbrev pub Input : Type 0
Input = List ℕ × ℕ

-- these fields are the names of the inputs, in order
abbrev pub are_names : List Input → List (List ℕ) → Bool
are_names [] [] = true
are_names [] (field ∷ fields) = false
are_names (input ∷ inputs) [] = false
are_names (input ∷ inputs) (field ∷ fields) = bytes_eq input.0 field && are_names inputs fields

-- these fields are numbers, one for each input
abbrev pub are_numbers : List Input → List (List ℕ) → Bool
are_numbers [] [] = true
are_numbers [] (field ∷ fields) = false
are_numbers (input ∷ inputs) [] = false
are_numbers (input ∷ inputs) (field ∷ fields) = is_number field && are_numbers inputs fields

-- an input beside its field: the number is not below 2 to the power of the width
abbrev pub is_too_large : Input × List ℕ → Bool
is_too_large cell = not (nat_lt (number_in cell.1) (2 ^ cell.0.1))

-- the value of an input beside its field
abbrev pub value_in : Input × List ℕ → Bits
value_in cell = record { width = cell.0.1; value = number_in cell.1 }

-- the values of a row, unless the number in a column is too large
abbrev pub unless_too_large : ℕ → Option ℕ → List Bits → Result (List Bits) StimFault
unless_too_large row (Some column) values = Err (DoesNotFit row column)
unless_too_large row None values = Ok values

-- the values of inputs beside their fields, from this column on, unless the first that is too large refuses them
abbrev pub values_from : ℕ → ℕ → List (Input × List ℕ) → Result (List Bits) StimFault
values_from row column cells = unless_too_large row (position_from is_too_large column cells) (map value_in cells)

-- the values of a line that is a row
abbrev pub row_of : ℕ → List Input → List ℕ → Result (List Bits) StimFault
row_of row inputs line = if are_numbers inputs (fields line) then values_from row 0 (zip inputs (fields line)) else Err (BadRow row)

-- one in front of more, unless one or the other is refused, the front first
abbrev pub in_front : {X : Type 0} → Result X StimFault → Result (List X) StimFault → Result (List X) StimFault
in_front (Err fault) more = Err fault
in_front (Ok x) (Err fault) = Err fault
in_front (Ok x) (Ok xs) = Ok (x ∷ xs)

-- the rows that lines are, of which the first has this number, unless the first faulty one refuses them
abbrev pub rows_from : ℕ → List Input → List (List ℕ) → Result (List (List Bits)) StimFault
rows_from row inputs [] = Ok []
rows_from row inputs (line ∷ more) = in_front (row_of row inputs line) (rows_from (row + 1) inputs more)

-- no more rows than a run may have cycles, and no more values than a run may hold
abbrev pub are_few : Ports → ℕ → Bool
are_few ports rows = nat_le rows 1000000 && nat_le (rows * (length ports.inputs + ports.registers)) 16000000

-- the first line names the inputs, and each further line is a row
abbrev pub rows_after_header : Ports → List (List ℕ) → Result (List (List Bits)) StimFault
rows_after_header ports [] = Err HeaderMismatch
rows_after_header ports (header ∷ rows) =
    if are_names ports.inputs (fields header)
    then (if are_few ports (length rows) then rows_from 0 ports.inputs rows else Err TooLong)
    else Err HeaderMismatch

-- the rows of a stimulus of at most 64 MiB, or why it has none
abbrev pub rows_of : Ports → List ℕ → Result (List (List Bits)) StimFault
rows_of ports text = if nat_le (length text) 67108864 then rows_after_header ports (lines text) else Err TooLong

-- what was returned, seen by view, is what the definition says, unless memory ran out
abbrev pub Gives : {X Y : Type 0} → (X → Y) → Result X StimFault → Result Y StimFault → Type 0
Gives view (Ok x) said = said ≡ Ok (view x)
Gives view (Err NoMemory) said = Unit {0}
Gives view (Err HeaderMismatch) said = said ≡ Err HeaderMismatch
Gives view (Err (BadRow row)) said = said ≡ Err (BadRow row)
Gives view (Err (DoesNotFit row column)) said = said ≡ Err (DoesNotFit row column)
Gives view (Err TooLong) said = said ≡ Err TooLong

-- what is said of a list, where these stand before it
abbrev pub after : {X : Type 0} → List X → Result (List X) StimFault → Result (List X) StimFault
after front (Ok more) = Ok (front ++ more)
after front (Err fault) = Err fault
