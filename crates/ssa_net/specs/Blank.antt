-- What lowering begins with: no nodes for the terms of blocks.
use Rattle.std.specs.Prelude.{◌≡◌, ℕ, List, [], ◌∷◌, length, Option, Some, None, slice_index_or}
use Rattle.bv_core.specs.declared.reference.NodeId.{NodeId}
use Rattle.block_net.specs.Blocks.{BlockParts}
use Rattle.ssa_core.specs.declared.process.ProcessKey.{ProcessKey}
use Rattle.ssa_core.specs.Processes.{terms_at}

-- no node for any term of the block of a process
pub record HasNone (parts : BlockParts) (memo : List (Option NodeId)) : Type 0 where
  pub long : length memo ≡ length parts.terms
  pub none : (k : ℕ) → slice_index_or memo k None ≡ None

abbrev pub IsBlank : List (List BlockParts) → ProcessKey → List (Option NodeId) → Type 0
IsBlank blocks key memo = (parts : BlockParts) → terms_at blocks key.variant key.block ≡ Some parts → HasNone parts memo

-- for each process, in order
abbrev pub AreBlank : List (List BlockParts) → List ProcessKey → List (List (Option NodeId)) → Type 0
AreBlank blocks [] [] = Unit {0}
AreBlank blocks [] (memo ∷ memos) = ⊥
AreBlank blocks (key ∷ keys) [] = ⊥
AreBlank blocks (key ∷ keys) (memo ∷ memos) = IsBlank blocks key memo × AreBlank blocks keys memos
