-- One node after another: what each takes of the inputs and registers that are left, and its value.
use Rattle.std.specs.Prelude.{ℕ, ◌<◌, List, length, drop, slice_index_or}
use Rattle.bv_core.specs.Value.{Bits}
use Rattle.bv_core.specs.Operators.{Fits1, Fits2, FitsMux, apply1_of, apply2_of, choose_of}
use Rattle.net_core.specs.Nodes.{Shape, Fixed, TopInput, Register, OfOne, OfTwo, OfMux}
use Rattle.sim_core.specs.Leaves.{input_in, register_in}

-- the value at a place
abbrev pub bits_at : List Bits → ℕ → Bits
bits_at values i = slice_index_or values i (record { width = 1; value = 0 })

-- a node's operands have values, of widths that fit, and an input or a register has one left
abbrev pub IsReady : (values inputs registers : List Bits) → Shape → Type 0
IsReady values inputs registers (Fixed b) = Unit {0}
IsReady values inputs registers (TopInput name width) = 0 < length inputs
IsReady values inputs registers (Register instance name start) = 0 < length registers
IsReady values inputs registers (OfOne op a) = (a < length values) × Fits1 op (bits_at values a).width
IsReady values inputs registers (OfTwo op a b) = (a < length values) × (b < length values) × Fits2 op (bits_at values a).width (bits_at values b).width
IsReady values inputs registers (OfMux c a b) = (c < length values) × (a < length values) × (b < length values) × FitsMux (bits_at values c).width (bits_at values a).width (bits_at values b).width

-- its value
abbrev pub step_value : (values inputs registers : List Bits) → Shape → Bits
step_value values inputs registers (Fixed b) = b
step_value values inputs registers (TopInput name width) = bits_at inputs 0
step_value values inputs registers (Register instance name start) = bits_at registers 0
step_value values inputs registers (OfOne op a) = apply1_of op (bits_at values a)
step_value values inputs registers (OfTwo op a b) = apply2_of op (bits_at values a) (bits_at values b)
step_value values inputs registers (OfMux c a b) = choose_of (bits_at values c) (bits_at values a) (bits_at values b)

-- the inputs and the registers that it leaves
abbrev pub inputs_left : List Bits → Shape → List Bits
inputs_left inputs n = drop (length (input_in n)) inputs

abbrev pub registers_left : List Bits → Shape → List Bits
registers_left registers n = drop (length (register_in n)) registers
