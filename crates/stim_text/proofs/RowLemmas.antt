-- Rows as they are read from left to right.
use Rattle.std.proofs.Common.{◌≡◌, ℕ, ◌+◌, true, false, cond, List, [], ◌∷◌, ◌++◌, Option, Some, None, Result, Ok, Err, refl, ap, append_assoc, sym, ◌∙◌}
use Rattle.std.specs.Prelude.{map}
use Rattle.std.specs.List.{position_from}
use Rattle.bv_core.specs.Value.{Bits}
use Rattle.stim_text.specs.Rows.{Input, after, in_front, unless_too_large, is_too_large, value_in, values_from}
use Rattle.stim_text.specs.declared.fault.StimFault.{StimFault}
use Rattle.stim_text.specs.declared.fault.StimFault.TheVariants.{DoesNotFit}

-- one more before the others
pub after-in_front : {X : Type 0} (front : List X) (x : X) (more : Result (List X) StimFault) → after front (in_front (Ok x) more) ≡ after (front ++ x ∷ []) more
after-in_front front x (Ok more) = ap Ok (sym (append_assoc front (x ∷ []) more))
after-in_front front x (Err fault) = refl

one_before : (row : ℕ) (column : Option ℕ) (value : Bits) (values : List Bits) → unless_too_large row column (value ∷ values) ≡ in_front (Ok value) (unless_too_large row column values)
one_before row (Some column) value values = refl
one_before row None value values = refl

-- a value that fits stands before those of the columns after it
pub values_from-fits : (row column : ℕ) (cell : Input × List ℕ) (cells : List (Input × List ℕ)) → is_too_large cell ≡ false → values_from row column (cell ∷ cells) ≡ in_front (Ok (value_in cell)) (values_from row (column + 1) cells)
values_from-fits row column cell cells e =
    ap (λ b. unless_too_large row (cond b (Some column) (position_from is_too_large (column + 1) cells)) (value_in cell ∷ map value_in cells)) e
    ∙ one_before row (position_from is_too_large (column + 1) cells) (value_in cell) (map value_in cells)

-- a number that is too large refuses the row
pub values_from-large : (row column : ℕ) (cell : Input × List ℕ) (cells : List (Input × List ℕ)) → is_too_large cell ≡ true → values_from row column (cell ∷ cells) ≡ Err (DoesNotFit row column)
values_from-large row column cell cells e =
    ap (λ b. unless_too_large row (cond b (Some column) (position_from is_too_large (column + 1) cells)) (value_in cell ∷ map value_in cells)) e

pub ruleset row_steps = (after-in_front, values_from-fits, values_from-large)
