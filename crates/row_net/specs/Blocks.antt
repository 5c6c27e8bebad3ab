-- The blocks of an instance as processes, and rows that are put behind others.
use Rattle.std.specs.Prelude.{◌≡◌, ℕ, ◌+◌, List, [], ◌++◌, length, map, take, Some, option_map, unwrap_or, slice_get}
use Rattle.std.specs.List.{enumerate_from, flat_map}
use Rattle.exec_core.specs.Block.{Name}
use Rattle.list_core.specs.Lists.{IsIn}
use Rattle.design_core.specs.declared.design.Instance.{Instance}
use Rattle.design_core.specs.declared.variant.Signal.{Signal}
use Rattle.design_core.specs.Design.{Block, Variant, Design}
use Rattle.design_exec.specs.Processes.{Numbered, process, processes_at, signals_in, blocks_in}
use Rattle.net_core.specs.Nodes.{Shape}
use Rattle.world_core.specs.Sites.{Site, sites_in_block, Spot}
use Rattle.lower_core.specs.declared.row.FullRow.{FullRow}
use Rattle.lower_core.specs.Rows.{AreTold}
use Rattle.ssa_core.specs.declared.process.ProcessKey.{ProcessKey}
use Rattle.ssa_core.specs.Processes.{process_at}
use Rattle.row_net.specs.Spots.{at_instance}

-- the statements of a block of the variant of this number; none where there is no such variant
abbrev pub block_sites : Design → ℕ → Block → List Site
block_sites d v b = unwrap_or (option_map (λ w. sites_in_block v w b) (slice_get d.variants v)) []

-- this number is that of the process of an instance and a block
pub record HasKey (d : Design) (keys : List ProcessKey) (k i v : ℕ) (block : Block) : Type 0 where
  pub key : ProcessKey
  pub found : slice_get keys k ≡ Some key
  pub is : process_at d key ≡ Some (process i (signals_in d v) block)

-- an instance of the variant of number v, and a block of that variant
pub record IsBlockOf (d : Design) (i v : ℕ) (block : Block) : Type 0 where
  pub instance : Instance
  pub of : Variant
  pub stands : slice_get d.instances i ≡ Some instance
  pub variant : instance.variant ≡ v
  pub named : slice_get d.variants v ≡ Some of
  pub among : IsIn block of.blocks

-- from this number on the processes are those of an instance, block by block
abbrev pub HaveKeys : Design → List ProcessKey → ℕ → Numbered → Type 0
HaveKeys d keys k q = (b : ℕ) (block : Block) → slice_get (blocks_in d q.1.variant) b ≡ Some block → HasKey d keys (k + b) q.0 q.1.variant block

-- the number of the first process of an instance: there are so many before it
abbrev pub first_number : Design → ℕ → ℕ
first_number d i = length (flat_map (processes_at d) (enumerate_from 0 (take i d.instances)))

-- the statements of blocks, at an instance of the variant of this number
abbrev pub blocks_spots : Design → ℕ → ℕ → List Block → List Spot
blocks_spots d i v blocks = at_instance i (flat_map (block_sites d v) blocks)

-- the names of signals
abbrev pub signal_names : List Signal → List Name
signal_names signals = map (λ (s : Signal). s.name) signals

-- rows for these statements and instances more, where the builder grows
abbrev pub SpotsPut : Design → ℕ → List Shape → List Shape → List Spot → List FullRow → List FullRow → Type 0
SpotsPut d n old new spots rows after = (before : List Spot) → AreTold d n old before rows → AreTold d n new (before ++ spots) after

-- the instance of a number
abbrev pub IsInstance : Design → ℕ → Instance → Type 0
IsInstance d i r = slice_get d.instances i ≡ Some r
