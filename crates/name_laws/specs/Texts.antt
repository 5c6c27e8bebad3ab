-- The names of an elaborated design, as texts.
use Rattle.std.specs.Prelude.{◌≡◌, List, Ok, IsUtf8}
use Rattle.gen_tree.specs.Tree.{Source}
use Rattle.elab_laws.specs.Laws.{AreReadFrom}
use Rattle.exec_core.specs.Block.{Name}
use Rattle.list_core.specs.Lists.{EachOf}
use Rattle.design_core.specs.Design.{Gens, AreInRange, Variant, Design}
use Rattle.design_core.specs.Slots.{variant_heads, scope}
use Rattle.elab_core.specs.Design.{elaborated_files}

-- the names of parameters or generator variables are UTF-8
abbrev pub GensAreTexts : Gens → Type 0
GensAreTexts gens = EachOf (λ g. IsUtf8 g.0) gens

-- so are those of a variant: its module, its parameters, the generator variables at its statements, and the names in scope in
-- each block
pub record VariantHasTexts (v : Variant) : Type 0 where
  pub «module» : IsUtf8 v.module
  pub params : GensAreTexts v.params
  pub gens : EachOf (λ h. GensAreTexts h.gens) (variant_heads v)
  pub names : EachOf (λ b. EachOf IsUtf8 (scope v b)) v.blocks

-- and those of a design: of its variants, and the paths of its instances
pub record HasTexts (d : Design) : Type 0 where
  pub variants : EachOf VariantHasTexts d.variants
  pub paths : EachOf (λ r. IsUtf8 r.path) d.instances

-- so it is of each design that elaboration gives, where the sources were read from texts and the parameters of the top are from
-- -2^62 to 2^62
abbrev pub NamesAreTexts : Type 0
NamesAreTexts =
    (sources : List Source) (top : Name) (rest : Gens) (d : Design) → AreReadFrom 0 sources → AreInRange rest → elaborated_files sources top rest ≡ Ok d → HasTexts d
