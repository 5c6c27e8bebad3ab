-- What a trace recalls of the cycles that it has been in: the registers of some of them, by blocks of 256 cycles.
use Rattle.std.specs.Prelude.{◌≡◌, ℕ, ◌+◌, ◌*◌, ◌/◌, ◌%◌, ◌<◌, ◌≤◌, ◌==◌, ◌&&◌, min, List, [], ◌∷◌, ◌++◌, length, All, slice_index_or, if◌then◌else◌}
use Rattle.bv_core.specs.Value.{Bits}
use Rattle.net_core.specs.Nets.{NetParts}
use Rattle.stim_text.specs.Stimulus.{Stimulus}
use Rattle.sim_core.specs.Leaves.{registers_of}
use Rattle.sim_hist.specs.Run.{registers_in}

-- of each block that was entered, in order, the registers of its first cycle; and those of one block's cycles, from its first on. There
-- is room for so many cycles, of so many registers each
pub record Recalled : Type 0 where
  pub firsts : List (List Bits)
  pub block : ℕ
  pub near : List (List Bits)
  pub width : ℕ
  pub cycles : ℕ

abbrev pub blank_recalled : ℕ → ℕ → Recalled
blank_recalled width cycles = record { firsts = []; block = 0; near = []; width = width; cycles = cycles }

-- the registers of the first cycle of the next block are kept
abbrev pub noted_first : ℕ → List Bits → Recalled → Recalled
noted_first t registers h = if t / 256 == length h.firsts && t % 256 == 0 then record h { firsts = h.firsts ++ registers ∷ [] } else h

-- and those of the next cycle of the block that is near
abbrev pub noted_near : ℕ → List Bits → Recalled → Recalled
noted_near t registers h = if t / 256 == h.block && t % 256 == length h.near then record h { near = h.near ++ registers ∷ [] } else h

abbrev pub noted : ℕ → List Bits → Recalled → Recalled
noted t registers h = noted_near t registers (noted_first t registers h)

-- so many rows of this length
pub record AreLong (rows : List (List Bits)) (count width : ℕ) : Type 0 where
  pub many : length rows ≡ count
  pub wide : All (λ (row : List Bits). length row ≡ width) rows

-- the room of a history, and how much of it is used
pub record IsHistory (firsts : List (List Bits)) (known : ℕ) (near : List (List Bits)) (count width cycles : ℕ) : Type 0 where
  pub room : cycles ≤ 256 * length firsts
  pub used : known ≤ length firsts
  pub near_room : min cycles 256 ≤ length near
  pub near_used : count ≤ length near
  pub wide : All (λ (row : List Bits). length row ≡ width) firsts
  pub near_wide : All (λ (row : List Bits). length row ≡ width) near

-- what is recalled of a net under a stimulus is as it was
pub record AreRecalled (net : NetParts) (s : Stimulus) (h : Recalled) : Type 0 where
  pub long : h.cycles ≡ length s.rows
  pub wide : h.width ≡ length (registers_of net.nodes)
  pub firsts_then : (k : ℕ) → k < length h.firsts → slice_index_or h.firsts k [] ≡ registers_in net s (256 * k)
  pub near_then : (j : ℕ) → j < length h.near → slice_index_or h.near j [] ≡ registers_in net s (256 * h.block + j)
  pub near_entered : 0 < length h.near → h.block < length h.firsts
