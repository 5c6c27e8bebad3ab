-- Stimuli, computed; and those that are too long, whatever they are.
use Rattle.std.proofs.Common.{◌≡◌, ℕ, zero, suc, ◌*◌, ◌==◌, ◌<◌, ◌∙◌, Bool, true, false, List, [], ◌∷◌, length, refl, sym, ap, subst, arith}
use Rattle.std.proofs.lemmas.List.{length-replicate}
use Rattle.std.specs.Prelude.{replicate, Result, Err, nat_le, ◌&&◌, if◌then◌else◌}
use Rattle.std.proofs.lemmas.Bool.Decides.{nat_tests}
use Rattle.std.specs.List.{slice_split}
use Rattle.std.specs.Str.Lines.{lines, lines_of_parts}
use Rattle.design_core.specs.declared.Ports.{Ports}
use Rattle.stim_text.specs.declared.fault.StimFault.{StimFault}
use Rattle.stim_text.specs.declared.fault.StimFault.TheVariants.{TooLong}
use Rattle.stim_text.specs.Rows.{are_few, rows_from, rows_after_header, rows_of}
use Rattle.hand_samples.specs.Stimuli.{only_registers, StimuliAreRead, StimuliAreRefused}

pub stimuli_are_read : StimuliAreRead
stimuli_are_read = record { read = refl; no_rows = refl; rows_of_none = refl; most_values = refl }

-- line ends alone are as many lines, and nothing stands in them
ends_split : (n : ℕ) → slice_split (λ byte. byte == 10) (replicate n 10) ≡ replicate (suc n) []
ends_split zero = refl
ends_split (suc n) = ap (λ parts. [] ∷ parts) (ends_split n)

ends_lines : (n : ℕ) → lines_of_parts (replicate (suc n) []) ≡ replicate n []
ends_lines zero = refl
ends_lines (suc n) = ap (λ more. [] ∷ more) (ends_lines n)

too_long : {X : Type 0} (b : Bool) (x : Result X StimFault) → b ≡ false → (if b then x else Err TooLong) ≡ Err TooLong
too_long true x e = cc
too_long false x e = refl

above : (n most : ℕ) → most < n → nat_le n most ≡ false
above n most h = grind (arith, nat_tests)

many_bytes : (ports : Ports) (text : List ℕ) → 67108864 < length text → rows_of ports text ≡ Err TooLong
many_bytes ports text h = too_long (nat_le (length text) 67108864) (rows_after_header ports (lines text)) (above (length text) 67108864 h)

-- so they are rows of a design without inputs, and too many
not_few : (rows : List (List ℕ)) → 1000000 < length rows → rows_after_header (only_registers 0) ([] ∷ rows) ≡ Err TooLong
not_few rows h = too_long (are_few (only_registers 0) (length rows)) (rows_from 0 [] rows) (both_off (nat_le (length rows) 1000000) (nat_le (length rows * 0) 16000000) (above (length rows) 1000000 h))
  where
    both_off : (a b : Bool) → a ≡ false → (a && b) ≡ false
    both_off true b e = cc
    both_off false b e = refl

many_rows : (count : ℕ) → 1000000 < count → rows_of (only_registers 0) (replicate (suc count) 10) ≡ Err TooLong
many_rows count h = by_size (nat_le (length (replicate (suc count) 10)) 67108864)
  where
    rows_here : rows_after_header (only_registers 0) (lines (replicate (suc count) 10)) ≡ Err TooLong
    rows_here =
        ap (rows_after_header (only_registers 0)) (ap lines_of_parts (ends_split (suc count)) ∙ ends_lines (suc count))
        ∙ not_few (replicate count []) (subst (λ n. 1000000 < n) (sym (length-replicate {A = List ℕ} count [])) h)

    by_size : (b : Bool) → (if b then rows_after_header (only_registers 0) (lines (replicate (suc count) 10)) else Err TooLong) ≡ Err TooLong
    by_size true = rows_here
    by_size false = refl

pub stimuli_are_refused : StimuliAreRefused
stimuli_are_refused = record {
  no_line = refl;
  other_order = refl;
  a_name_less = refl;
  a_name_more = refl;
  no_blank_line = refl;
  too_few = refl;
  too_many = refl;
  empty_line = refl;
  no_digits = refl;
  large_x = refl;
  negative = refl;
  no_decimal = refl;
  last_return = refl;
  too_large = refl;
  first_column = refl;
  last_column = refl;
  form_first = refl;
  many_values = refl;
  before_rows = refl;
  behind_header = refl;
  many_rows = many_rows;
  many_bytes = many_bytes;
}
