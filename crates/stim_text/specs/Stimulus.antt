-- What is kept of a stimulus.
use Rattle.std.specs.Prelude.{◌≡◌, ℕ, zero, suc, ◌≤◌, List, [], ◌∷◌, map, length, take, drop, All}
use Rattle.bv_core.specs.Value.{Bits, IsBits}
use Rattle.design_core.specs.declared.Ports.{Ports}

-- the ports that it was read by, and its rows
pub record Stimulus : Type 0 where
  pub ports : Ports
  pub rows : List (List Bits)

-- there are at most 1,000,000 rows, and each has one value for each input, in order and of its width; each value fits its width
pub record IsStimulus (s : Stimulus) : Type 0 where
  pub few : length s.rows ≤ 1000000
  pub each : All (λ row. map (λ value. value.width) row ≡ map (λ input. input.1) s.ports.inputs) s.rows
  pub bits : All (λ row. All IsBits row) s.rows

-- a list cut into this many rows of one length
unfoldable pub rows_in : {X : Type 0} → ℕ → ℕ → List X → List (List X)
rows_in len zero xs = []
rows_in len (suc count) xs = take len xs ∷ rows_in len count (drop len xs)
