-- A condition whose names are found: a tree over the places of values.
use Rattle.std.specs.Prelude.{◌≡◌, ℕ, Option, Some, None, option_map}
use Rattle.bv_core.specs.Value.{Bits, IsBits}
use Rattle.bv_core.specs.declared.Ref.{Ref}
use Rattle.bv_core.specs.declared.Ref.TheVariants as ref
use Rattle.bv_core.specs.declared.Binding.{Binding}
use Rattle.bv_core.specs.declared.Binding.TheVariants as binding
use Rattle.bv_core.specs.declared.NodeId.{NodeId}
use Rattle.bv_core.specs.declared.Sample.{Sample}
use Rattle.bv_core.specs.declared.Sample.TheVariants as sample
use Rattle.tree_core.specs.Tree.{Tree, Const, Leaf, One, Two, Mux}
use Rattle.tree_core.specs.Width.{width_of, WellFormed, IsOf}
use Rattle.gen_tree.specs.Tree.{Expr}
use Rattle.cond_lang.specs.Names.{Name}
use Rattle.cond_lang.specs.Meaning.{tree_of, value_in}
use Rattle.cond_lang.specs.Judged.{Status, shown, unset, removed, Scope}

-- ---- what names stand for

-- the width of the value at a place
abbrev pub ref_width : Ref → ℕ
ref_width (ref.Node n w) = w
ref_width (ref.Const b) = b.width

abbrev pub status_of : Binding → Status
status_of (binding.Value at) = shown (ref_width at)
status_of binding.Unset = unset
status_of binding.Removed = removed

-- what names stand for, where each is looked up so
abbrev pub scope_of : (Name → Option Binding) → Scope
scope_of find x = option_map status_of (find x)

-- where the value of a name is found; a name that has none is not asked for
abbrev pub ref_or_nought : Option Binding → Ref
ref_or_nought None = ref.Const (record { width = 0; value = 0 })
ref_or_nought (Some (binding.Value at)) = at
ref_or_nought (Some binding.Unset) = ref.Const (record { width = 0; value = 0 })
ref_or_nought (Some binding.Removed) = ref.Const (record { width = 0; value = 0 })

-- a tree with other leaves
abbrev pub mapped : {A B : Type 0} → (A → B) → Tree A → Tree B
mapped f (Const b) = Const b
mapped f (Leaf x) = Leaf (f x)
mapped f (One o a) = One o (mapped f a)
mapped f (Two o a b) = Two o (mapped f a) (mapped f b)
mapped f (Mux c a b) = Mux (mapped f c) (mapped f a) (mapped f b)

-- a condition with its names found
abbrev pub bound_by : (Name → Option Binding) → Expr → Tree Ref
bound_by find e = mapped (λ x. ref_or_nought (find x)) (tree_of e)

-- ---- its value

-- a sample, None where it is not known
abbrev pub known : Sample → Option Bits
known (sample.Known b) = Some b
known sample.Unknown = None

-- the value at a place, where nodes have these samples
abbrev pub value_at : (NodeId → Sample) → Ref → Option Bits
value_at samples (ref.Node n w) = known (samples n)
value_at samples (ref.Const b) = Some b

-- a bound condition's value, where nodes have these samples
abbrev pub bound_value : (NodeId → Sample) → Tree Ref → Option Bits
bound_value samples t = value_in (value_at samples) t

-- ---- what it keeps

-- a constant is a value
abbrev pub IsRef : Ref → Type 0
IsRef (ref.Node n w) = Unit {0}
IsRef (ref.Const b) = IsBits b

-- a tree whose widths fit, and its width
pub record IsBound (t : Tree Ref) (width : ℕ) : Type 0 where
  pub fits : WellFormed IsRef ref_width t
  pub has : width_of ref_width t ≡ width

-- a fact of each node of a tree, with its width
abbrev pub EachNode : (NodeId → ℕ → Type 0) → Tree Ref → Type 0
EachNode P (Const b) = Unit {0}
EachNode P (Leaf (ref.Node n w)) = P n w
EachNode P (Leaf (ref.Const b)) = Unit {0}
EachNode P (One o a) = EachNode P a
EachNode P (Two o a b) = EachNode P a × EachNode P b
EachNode P (Mux c a b) = EachNode P c × EachNode P a × EachNode P b

-- a known sample is a value of this width
abbrev pub HasWidth : ℕ → Sample → Type 0
HasWidth w (sample.Known b) = IsOf w b
HasWidth w sample.Unknown = Unit {0}
