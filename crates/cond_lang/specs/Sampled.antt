-- How a form is evaluated: operators take what may be known, and each tree comes to its value.
use Rattle.std.specs.Prelude.{◌≡◌}
use Rattle.bv_core.specs.Operators.{Fits1, Fits2, FitsMux}
use Rattle.bv_core.specs.declared.Op1.{Op1}
use Rattle.bv_core.specs.declared.Op2.{Op2}
use Rattle.bv_core.specs.declared.NodeId.{NodeId}
use Rattle.bv_core.specs.declared.Ref.{Ref}
use Rattle.bv_core.specs.declared.Sample.{Sample}
use Rattle.bv_core.specs.declared.Sample.TheVariants.{Known, Unknown}
use Rattle.tree_core.specs.Tree.{Tree}
use Rattle.tree_core.specs.Width.{WellFormed, width_of}
use Rattle.cond_lang.specs.Bound.{EachNode, HasWidth, IsRef, known, ref_width, value_at}
use Rattle.cond_lang.specs.Strict.{strict_value}

-- the operator takes the widths of operands, where these are known
abbrev pub Fits1At : Op1 → Sample → Type 0
Fits1At o (Known a) = Fits1 o a.width
Fits1At o Unknown = Unit {0}

abbrev pub Fits2At : Op2 → Sample → Sample → Type 0
Fits2At o (Known a) (Known b) = Fits2 o a.width b.width
Fits2At o (Known a) Unknown = Unit {0}
Fits2At o Unknown b = Unit {0}

abbrev pub FitsChoiceAt : Sample → Sample → Sample → Type 0
FitsChoiceAt (Known c) (Known a) (Known b) = FitsMux c.width a.width b.width
FitsChoiceAt (Known c) (Known a) Unknown = Unit {0}
FitsChoiceAt (Known c) Unknown b = Unit {0}
FitsChoiceAt Unknown a b = Unit {0}

-- what is asked of a tree whose nodes are found by calls: its widths fit, and calls for its nodes may be made and find such widths
pub record IsReady (pre : NodeId → Type 0) (post : NodeId → Sample → Type 0) (t : Tree Ref) : Type 0 where
  pub fits : WellFormed IsRef ref_width t
  pub callable : EachNode (λ node w. pre node) t
  pub widths : EachNode (λ node w. (found : Sample) → post node found → HasWidth w found) t

-- a tree's value, where calls find what nodes have
pub record ComesTo (post : NodeId → Sample → Type 0) (t : Tree Ref) (found : Sample) : Type 0 where
  pub width : HasWidth (width_of ref_width t) found
  pub value : (samples : NodeId → Sample) → EachNode (λ node w. (found : Sample) → post node found → found ≡ samples node) t → known found ≡ strict_value (value_at samples) t
