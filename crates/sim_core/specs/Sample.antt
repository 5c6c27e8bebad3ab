-- A counter of 4 bits that counts where it is enabled.
use Rattle.std.specs.Prelude.{◌≡◌, ℕ, List, [], ◌∷◌, codes}
use Rattle.bv_core.specs.Value.{Bits}
use Rattle.bv_core.specs.declared.operators.Op2.TheVariants.{Add}
use Rattle.net_core.specs.Nodes.{Shape, Fixed, TopInput, Register, OfTwo, OfMux}
use Rattle.net_core.specs.Nets.{NetParts}
use Rattle.sim_core.specs.Leaves.{starts_of}
use Rattle.sim_core.specs.Given.{node_value, next_registers}

abbrev pub bits : ℕ → ℕ → Bits
bits width value = record { width = width; value = value }

abbrev pub counter_nodes : List Shape
counter_nodes = TopInput (codes "en") 1 ∷ Register (codes "Top") (codes "count") (bits 4 14) ∷ Fixed (bits 4 1) ∷ OfTwo Add 1 2 ∷ OfMux 0 3 1 ∷ []

abbrev pub counter : NetParts
counter = record { nodes = counter_nodes; outputs = (codes "count", 1) ∷ []; nexts = (1, 4) ∷ [] }

-- it starts at 14, counts where it is enabled, after 15 from 0 again, and stays where it is not
pub record Counts : Type 0 where
  pub starts : starts_of counter_nodes ≡ bits 4 14 ∷ []
  pub counts : next_registers counter (bits 1 1 ∷ []) (bits 4 14 ∷ []) ≡ bits 4 15 ∷ []
  pub wraps : next_registers counter (bits 1 1 ∷ []) (bits 4 15 ∷ []) ≡ bits 4 0 ∷ []
  pub stays : next_registers counter (bits 1 0 ∷ []) (bits 4 15 ∷ []) ≡ bits 4 15 ∷ []
  pub sum : node_value counter_nodes (bits 1 0 ∷ []) (bits 4 15 ∷ []) 3 ≡ bits 4 0
