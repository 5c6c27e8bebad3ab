-- What a trace means, when it fits a table of nodes and slots, and when two are the same.
use Rattle.std.specs.Prelude.{◌≡◌, ℕ, ◌*◌, ◌^◌, ◌<◌, ◌≤◌, List, length, Some, slice_get}
use Rattle.bv_core.specs.Value.{Bits}
use Rattle.bv_core.specs.declared.reference.Sample.{Sample}
use Rattle.bv_core.specs.declared.reference.Sample.TheVariants.{Known}

-- how many cycles and nodes there are, and what was sampled in a cycle of a node
pub record Samples : Type 0 where
  pub cycles : ℕ
  pub nodes : ℕ
  pub sample : ℕ → ℕ → Sample

-- a value that was sampled has this width
abbrev pub HasWidth : ℕ → Sample → Type 0
HasWidth width sample = (value : Bits) → sample ≡ Known value → value.width ≡ width

-- the samples fit nodes of these widths and so many slots: each of these nodes is sampled, each value has its node's width,
-- and the positions are few enough to be numbered
pub record Fits (widths : List ℕ) (slots : ℕ) (s : Samples) : Type 0 where
  pub sampled : length widths ≤ s.nodes
  pub width : (cycle node w : ℕ) → cycle < s.cycles → slice_get widths node ≡ Some w → HasWidth w (s.sample cycle node)
  pub positions : s.cycles * slots < 2 ^ 62

-- samples that differ in nothing that was sampled
pub record SameSamples (v w : Samples) : Type 0 where
  pub cycles : v.cycles ≡ w.cycles
  pub nodes : v.nodes ≡ w.nodes
  pub sample : (cycle node : ℕ) → cycle < w.cycles → node < w.nodes → v.sample cycle node ≡ w.sample cycle node
