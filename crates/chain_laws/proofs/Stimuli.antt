-- The stimulus of the demo has rows for an input `x` of 16 bits.
use Rattle.std.proofs.Common.{◌≡◌, ℕ, zero, suc, ◌+◌, ◌*◌, ◌<◌, ◌≤◌, Bool, true, false, ◌&&◌, List, [], ◌∷◌, map, length, Ok, refl, sym, ap, subst, arith, lit≤}
use Rattle.std.proofs.lemmas.Bool.Decides.{nat_tests}
use Rattle.std.proofs.lemmas.List.Elements.{All-nil, All-cons}
use Rattle.std.specs.Prelude.{codes, decimal, nat_le, All}
use Rattle.std.specs.Fmt.{digits}
use Rattle.std.specs.Str.Lines.{lines}
use Rattle.list_core.specs.Lists.{from}
use Rattle.bv_core.specs.Value.{Bits, IsBits}
use Rattle.design_core.specs.declared.Ports.{Ports}
use Rattle.design_core.specs.Ports.{ports_in, top_signals}
use Rattle.design_core.specs.WellFormed.{regs, registers}
use Rattle.stim_text.specs.Rows.{Input, rows_from, rows_after_header, rows_of}
use Rattle.stim_text.specs.Stimulus.{IsStimulus}
use Rattle.demo_run.specs.Chain.{chain_stimulus, row_count}
use Rattle.chain_laws.proofs.Cells.{span, cell_output, design_cell, chain_design}

abbrev pub x_input : List Input
x_input = (codes "x", 16) ∷ []

abbrev pub y_output : List Input
y_output = (codes "y", 16) ∷ []

abbrev pub number_row : ℕ → List Bits
number_row t = record { width = 16; value = t } ∷ []

abbrev pub chain_rows : List (List Bits)
chain_rows = map number_row (from 0 row_count)

-- each row is its number
text_lines : lines (chain_stimulus row_count) ≡ codes "x" ∷ map decimal (from 0 row_count)
unfolding digits
text_lines = refl

rows_are : rows_from 0 x_input (map decimal (from 0 row_count)) ≡ Ok chain_rows
unfolding digits
rows_are = refl

is_short : nat_le (length (chain_stimulus row_count)) 67108864 ≡ true
unfolding digits
is_short = refl

-- ---- rows behind the header

few_values : (r : ℕ) → r ≤ 4000 → (nat_le 1000 1000000 && nat_le (1000 * (1 + r)) 16000000) ≡ true
few_values r h = let le : 1000 * (1 + r) ≤ 16000000 = omega arith in grind (arith, nat_tests)

behind_header : (ports : Ports) (rows : List (List ℕ)) (found : List (List Bits)) → ports.inputs ≡ x_input → ports.registers ≤ 4000 → length rows ≡ 1000 → rows_from 0 x_input rows ≡ Ok found
    → rows_after_header ports (codes "x" ∷ rows) ≡ Ok found
behind_header ports rows found e r l g = rw (e, l, few_values ports.registers r) g

rows_given : (ports : Ports) (text : List ℕ) (rows : List (List ℕ)) (found : List (List Bits)) → nat_le (length text) 67108864 ≡ true → lines text ≡ codes "x" ∷ rows
    → ports.inputs ≡ x_input → ports.registers ≤ 4000 → length rows ≡ 1000 → rows_from 0 x_input rows ≡ Ok found → rows_of ports text ≡ Ok found
rows_given ports text rows found s t e r l g = rw (s, t) (behind_header ports rows found e r l g)

pub chain_rows_are : (ports : Ports) → ports.inputs ≡ x_input → ports.registers ≤ 4000 → rows_of ports (chain_stimulus row_count) ≡ Ok chain_rows
chain_rows_are ports e r = rows_given ports (chain_stimulus row_count) (map decimal (from 0 row_count)) chain_rows is_short text_lines e r refl rows_are

-- ---- they are a stimulus

all_rows : (P : List Bits → Type 0) → ((t : ℕ) → t < 65536 → P (number_row t)) → (a n : ℕ) → a + n ≤ 65536 → All P (map number_row (from a n))
all_rows P h a zero l = All-nil P
all_rows P h a (suc n) l = All-cons P (number_row a) (map number_row (from (a + 1) n)) (h a (omega arith)) (all_rows P h (a + 1) n (omega arith))

row_bits : (t : ℕ) → t < 65536 → All IsBits (number_row t)
row_bits t h = All-cons IsBits (record { width = 16; value = t }) [] (record { some = lit≤ tt; most = lit≤ tt; fits = h }) (All-nil IsBits)

pub is_stimulus : (ports : Ports) → ports.inputs ≡ x_input → IsStimulus (record { ports = ports; rows = chain_rows })
is_stimulus ports e = record {
  few = lit≤ tt;
  each = subst (λ (l : List Input). All (λ row. map (λ value. value.width) row ≡ map (λ input. input.1) l) chain_rows) (sym e) (all_rows (λ row. map (λ value. value.width) row ≡ map (λ (input : Input). input.1) x_input) (λ t l. refl) 0 row_count (lit≤ tt));
  bits = all_rows (All IsBits) row_bits 0 row_count (lit≤ tt);
}

-- ---- the ports of the chain

no_ports : (output : Bool) (i n : ℕ) → ports_in output (span cell_output i n) ≡ []
no_ports output i zero = refl
no_ports output i (suc n) = no_ports output (suc i) n

pub chain_inputs : (k : ℕ) → ports_in false (top_signals (chain_design k)) ≡ x_input
chain_inputs k = ap (λ more. (codes "x", 16) ∷ more) (no_ports false 0 (suc k))

pub chain_outputs : (k : ℕ) → ports_in true (top_signals (chain_design k)) ≡ y_output
chain_outputs k = ap (λ more. (codes "y", 16) ∷ more) (no_ports true 0 (suc k))

no_registers : (i n : ℕ) → regs (span cell_output i n) ≡ 0
no_registers i zero = refl
no_registers i (suc n) = ap (λ (m : ℕ). 0 + m) (no_registers (suc i) n)

cells_registers : (k i n : ℕ) → registers (chain_design k).variants (span design_cell i n) ≡ n
cells_registers k i zero = refl
cells_registers k i (suc n) = let rest = cells_registers k (suc i) n in omega (arith, rest)

pub chain_registers : (k : ℕ) → registers (chain_design k).variants (chain_design k).instances ≡ suc k
chain_registers k = let top = no_registers 0 (suc k) in let rest = cells_registers k 0 (suc k) in omega (arith, top, rest)
