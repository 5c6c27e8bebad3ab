-- Stimuli that were written by hand: their rows, or why they are refused.
use Rattle.std.specs.Prelude.{◌≡◌, ℕ, suc, ◌<◌, true, List, [], ◌∷◌, ◌++◌, length, replicate, Ok, Err, codes, refl}
use Rattle.bv_core.specs.Value.{Bits}
use Rattle.gen_token.specs.Spelling.{is_name}
use Rattle.design_core.specs.declared.Ports.{Ports}
use Rattle.design_core.specs.Ports.{have_names}
use Rattle.stim_text.specs.declared.fault.StimFault.TheVariants.{HeaderMismatch, BadRow, DoesNotFit, TooLong}
use Rattle.stim_text.specs.Rows.{rows_of}

pub three_names : have_names (codes "Top") ((codes "a", 4) ∷ (codes "b", 8) ∷ (codes "c", 128) ∷ []) [] ≡ true
unfolding is_name
three_names = refl

-- inputs of 4, 8 and 128 bits
abbrev pub three_inputs : Ports
three_inputs = record {
  «module» = codes "Top";
  inputs = (codes "a", 4) ∷ (codes "b", 8) ∷ (codes "c", 128) ∷ [];
  outputs = [];
  registers = 1;
  widths = refl;
  names = three_names;
}

pub no_names : have_names (codes "Top") [] [] ≡ true
unfolding is_name
no_names = refl

-- no inputs, and so many registers
abbrev pub only_registers : ℕ → Ports
only_registers count = record { «module» = codes "Top"; inputs = []; outputs = []; registers = count; widths = refl; names = no_names }

-- the value of each input
abbrev row : ℕ → ℕ → ℕ → List Bits
row a b c = record { width = 4; value = a } ∷ record { width = 8; value = b } ∷ record { width = 128; value = c } ∷ []

-- decimal and hexadecimal digits of either case, zeros in front, the greatest value of each width; blanks and tabs, a carriage return
-- before a line end, and a last line without one
abbrev pub forms : List ℕ
forms =
    codes " a\tb  c \r\n"
    ++ codes "0 255 0x0f\r\n"
    ++ codes "015\t0xA5 0xffffffffffffffffffffffffffffffff\n"
    ++ codes "\t0x000F 0000 340282366920938463463374607431768211455"

pub record StimuliAreRead : Type 0 where
  pub read :
      rows_of three_inputs forms
      ≡ Ok (row 0 255 15 ∷ row 15 165 340282366920938463463374607431768211455 ∷ row 15 0 340282366920938463463374607431768211455 ∷ [])
  pub no_rows : rows_of three_inputs (codes "a b c") ≡ Ok []
  pub rows_of_none : rows_of (only_registers 3) (codes "\n \n\n") ≡ Ok ([] ∷ [] ∷ [])
  -- 80 rows of 200,000 registers are as many values as there may be
  pub most_values : rows_of (only_registers 200000) (replicate 81 10) ≡ Ok (replicate 80 [])

-- the first line
abbrev headed : List ℕ → List ℕ
headed rows = codes "a b c\n" ++ rows

pub record StimuliAreRefused : Type 0 where
  -- the first line is not the names in order
  pub no_line : rows_of three_inputs [] ≡ Err HeaderMismatch
  pub other_order : rows_of three_inputs (codes "b a c\n1 2 3\n") ≡ Err HeaderMismatch
  pub a_name_less : rows_of three_inputs (codes "a b\n1 2\n") ≡ Err HeaderMismatch
  pub a_name_more : rows_of three_inputs (codes "a b c d\n1 2 3 4\n") ≡ Err HeaderMismatch
  pub no_blank_line : rows_of three_inputs (codes "\na b c\n1 2 3\n") ≡ Err HeaderMismatch
  -- not one number for each input
  pub too_few : rows_of three_inputs (headed (codes "1 2\n")) ≡ Err (BadRow 0)
  pub too_many : rows_of three_inputs (headed (codes "1 2 3 4\n")) ≡ Err (BadRow 0)
  pub empty_line : rows_of three_inputs (headed (codes "1 2 3\n\n1 2 3\n")) ≡ Err (BadRow 1)
  pub no_digits : rows_of three_inputs (headed (codes "1 0x 3\n")) ≡ Err (BadRow 0)
  pub large_x : rows_of three_inputs (headed (codes "1 0X2 3\n")) ≡ Err (BadRow 0)
  pub negative : rows_of three_inputs (headed (codes "1 2 -3\n")) ≡ Err (BadRow 0)
  pub no_decimal : rows_of three_inputs (headed (codes "1 2 f\n")) ≡ Err (BadRow 0)
  pub last_return : rows_of three_inputs (headed (codes "1 2 3\r")) ≡ Err (BadRow 0)
  -- the first number that is not below 2 to the power of its width, in a row that has its numbers
  pub too_large : rows_of three_inputs (headed (codes "1 2 3\n15 256 3\n16 2 3\n")) ≡ Err (DoesNotFit 1 1)
  pub first_column : rows_of three_inputs (headed (codes "0x10 256 3\n")) ≡ Err (DoesNotFit 0 0)
  pub last_column : rows_of three_inputs (headed (codes "1 2 340282366920938463463374607431768211456\n")) ≡ Err (DoesNotFit 0 2)
  pub form_first : rows_of three_inputs (headed (codes "16 2 x\n")) ≡ Err (BadRow 0)
  -- too many values: before the rows are read, and behind the first line
  pub many_values : rows_of (only_registers 200000) (replicate 82 10) ≡ Err TooLong
  pub before_rows : rows_of (only_registers 200000) (replicate 81 10 ++ codes "x") ≡ Err TooLong
  pub behind_header : rows_of (only_registers 200000) (codes "x" ++ replicate 82 10) ≡ Err HeaderMismatch
  -- more than 1,000,000 rows, and more than 64 MiB
  pub many_rows : (count : ℕ) → 1000000 < count → rows_of (only_registers 0) (replicate (suc count) 10) ≡ Err TooLong
  pub many_bytes : (ports : Ports) (text : List ℕ) → 67108864 < length text → rows_of ports text ≡ Err TooLong
