-- The processes of a design, as the code lists them, and the terms of their blocks.
use Rattle.std.specs.Prelude.{◌≡◌, ℕ, List, [], ◌∷◌, Option, Some, Vec, map, option_map, option_and_then, slice_get}
use Rattle.std.specs.declared.alloc.Global.{Global}
use Rattle.exec_core.specs.Block.{Name}
use Rattle.exec_core.specs.Design.{Process}
use Rattle.design_core.specs.Design as design
use Rattle.design_exec.specs.Processes.{body_of, body_widths, process, signal_width, signals_in, blocks_in}
use Rattle.list_core.specs.Lists.{EachOf}
use Rattle.check_core.specs.Paths.{declared_width}
use Rattle.block_net.specs.Blocks.{BlockParts, Tells}
use Rattle.block_net.specs.Parts.{BodyFits}
use Rattle.ssa_core.specs.declared.process.ProcessKey.{ProcessKey}

-- the process of an instance and a block of its variant, by their numbers
abbrev pub process_at : design.Design → ProcessKey → Option Process
process_at d k = option_map (process k.instance (signals_in d k.variant)) (slice_get (blocks_in d k.variant) k.block)

-- the terms of the block of this number of a variant
abbrev pub terms_at : List (List BlockParts) → ℕ → ℕ → Option BlockParts
terms_at blocks v b = option_and_then (λ parts. slice_get parts b) (slice_get blocks v)

-- each part that is assigned has its bounds in order, below 128
abbrev pub BlockFits : design.Block → Type 0
BlockFits b = BodyFits (body_of b.clocked b.body)

abbrev pub VariantFits : design.Variant → Type 0
VariantFits v = EachOf BlockFits v.blocks

abbrev pub PartsFit : design.Design → Type 0
PartsFit d = EachOf VariantFits d.variants

-- each block of each variant has terms that tell of it, by the widths at its statements
pub record HasTerms (d : design.Design) (blocks : List (List BlockParts)) (v b : ℕ) (block : design.Block) : Type 0 where
  pub parts : BlockParts
  pub found : terms_at blocks v b ≡ Some parts
  pub tells : Tells parts (body_widths block.body (signal_width (signals_in d v))) (body_of block.clocked block.body)

pub record HaveTerms (d : design.Design) (blocks : List (List BlockParts)) : Type 0 where
  pub each : (v b : ℕ) (block : design.Block) → slice_get (blocks_in d v) b ≡ Some block → HasTerms d blocks v b block

-- the same in the order of the lists, by the widths that are declared
abbrev pub TellBlocks : (Name → ℕ) → List BlockParts → List design.Block → Type 0
TellBlocks width [] [] = Unit {0}
TellBlocks width [] (b ∷ bs) = ⊥
TellBlocks width (t ∷ ts) [] = ⊥
TellBlocks width (t ∷ ts) (b ∷ bs) = Tells t width (body_of b.clocked b.body) × TellBlocks width ts bs

abbrev pub TellVariants : List (List BlockParts) → List design.Variant → Type 0
TellVariants [] [] = Unit {0}
TellVariants [] (v ∷ vs) = ⊥
TellVariants (t ∷ ts) [] = ⊥
TellVariants (t ∷ ts) (v ∷ vs) = TellBlocks (declared_width v.signals) t v.blocks × TellVariants ts vs

-- what vectors hold
abbrev pub lists_of : {A : Type 0} → List (Vec A Global) → List (List A)
lists_of vs = map (λ v. v.items) vs
