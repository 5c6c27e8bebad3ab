-- A trace of two nodes, of 8 bits and of 1 bit, in three cycles, and what it fits.
use Rattle.std.specs.Prelude.{ℕ, ◌^◌, List, [], ◌∷◌}
use Rattle.bv_core.specs.declared.reference.Sample.{Sample}
use Rattle.bv_core.specs.declared.reference.Sample.TheVariants.{Known, Unknown}
use Rattle.trace_core.specs.Samples.{Samples, Fits}
use Rattle.trace_core.specs.Rows.{samples_of}

abbrev pub known : ℕ → ℕ → Sample
known width number = Known (record { width = width; value = number })

abbrev pub sample_rows : List (List Sample)
sample_rows = (known 8 7 ∷ known 1 0 ∷ []) ∷ (Unknown ∷ known 1 1 ∷ []) ∷ (known 8 9 ∷ Unknown ∷ []) ∷ []

abbrev pub sample_trace : Samples
sample_trace = samples_of sample_rows 2

-- it fits its own widths, and two slots
abbrev pub fits_its_widths : Type 0
fits_its_widths = Fits (8 ∷ 1 ∷ []) 2 sample_trace

-- another width does not fit, though one of its samples is not known
abbrev pub no_other_width : Type 0
no_other_width = Fits (8 ∷ 2 ∷ []) 2 sample_trace → ⊥

-- a node that is not sampled does not fit
abbrev pub no_third_node : Type 0
no_third_node = Fits (8 ∷ 1 ∷ 4 ∷ []) 2 sample_trace → ⊥

-- so many slots have too many positions in three cycles
abbrev pub no_more_positions : Type 0
no_more_positions = Fits (8 ∷ 1 ∷ []) (2 ^ 61) sample_trace → ⊥
