-- What is found of a tree by a table and samples, and the status of what a name stands for.
use Rattle.std.proofs.Common.{◌≡◌, ℕ, ◌||◌, Bool, true, false, List, Some, None, if◌then◌else◌, refl, sym, ap, ◌∙◌}
use Rattle.std.specs.Prelude.{is_some}
use Rattle.bv_core.specs.Value.{Bits}
use Rattle.bv_core.specs.Operators.{flag_of}
use Rattle.bv_core.specs.declared.reference.Ref.{Ref}
use Rattle.bv_core.specs.declared.reference.Ref.TheVariants.{Node, Const}
use Rattle.bv_core.specs.declared.reference.Sample.{Sample}
use Rattle.bv_core.specs.declared.reference.Sample.TheVariants.{Known}
use Rattle.tree_core.specs.Tree as tree
use Rattle.tree_core.specs.Tree.{Whole}
use Rattle.tree_core.specs.Width.{tree_width}
use Rattle.tree_core.specs.Fold.{constant}
use Rattle.net_core.specs.Nodes.{Shape}
use Rattle.net_core.specs.Builder.{Stands}
use Rattle.net_core.proofs.Applying.{constant_width}
use Rattle.world_core.specs.World.{IsRemoved, HasWidth}
use Rattle.world_core.specs.Source.{kept_status}
use Rattle.list_core.proofs.Listing.{second_true}
use Rattle.trace_core.specs.Known.{known, is_one}
use Rattle.trace_world.specs.TraceWorld.{found_by, is_on}
use Rattle.symtab.specs.Shape.{width_of}
use Rattle.trim_core.specs.Trimmed.{FoundTold}

-- ---- constants

pub constant_is : (t : Whole) (b : Bits) → constant t ≡ Some b → t ≡ tree.Const b
constant_is (tree.Const c) b e = let same : c ≡ b = cc in ap (λ z. tree.Const z) same
constant_is (tree.Leaf o) b e = cc
constant_is (tree.One op a) b e = cc
constant_is (tree.Two op x y) b e = cc
constant_is (tree.Mux c x y) b e = cc

-- ---- statuses

pub found_status : (kept : Whole → Bool) (nodes : List Shape) (t : Whole) (at : Ref) → (constant t ≡ None → kept t ≡ true) → FoundTold nodes t at → HasWidth (width_of at) ≡ kept_status kept (Some t)
found_status kept nodes t at member h = ap HasWidth (width at h) ∙ sym (ap (λ b. if b then HasWidth (tree_width t) else IsRemoved) (there at h))
  where
    there : (at : Ref) → FoundTold nodes t at → (is_some (constant t) || kept t) ≡ true
    there (Const b) e = ap (λ o. is_some o || kept t) e
    there (Node id w) e = second_true (is_some (constant t)) (kept t) (member e.0)

    width : (at : Ref) → FoundTold nodes t at → width_of at ≡ tree_width t
    width (Const b) e = sym (constant_width t b e)
    width (Node id w) e = e.1.1

pub removed_status : (kept : Whole → Bool) (t : Whole) → constant t ≡ None → kept t ≡ false → IsRemoved ≡ kept_status kept (Some t)
removed_status kept t c k = sym (ap (λ o. if is_some o || kept t then HasWidth (tree_width t) else IsRemoved) c ∙ ap (λ b. if b then HasWidth (tree_width t) else IsRemoved) k)

-- ---- values

-- what is found of a tree is its value, where each member has its own at its node
pub found_value : (nodes : List Shape) (V : Whole → Bits) (samples : ℕ → Sample) → ((b : Bits) → V (tree.Const b) ≡ b) → (t : Whole) (at : Ref) → FoundTold nodes t at
    → ((id : ℕ) → Stands nodes id t → samples id ≡ Known (V t)) → found_by samples at ≡ Some (V t)
found_value nodes V samples fixed t (Const b) h at = ap (λ c. Some c) (sym (ap V (constant_is t b h) ∙ fixed b))
found_value nodes V samples fixed t (Node id width) h at = ap known (at id.0 h.1.0)

one_is : (b : Bool) → is_one (Some (flag_of b)) ≡ b
one_is true = refl
one_is false = refl

-- an enable is on where its tree's value is 1
pub enable_on : (samples : ℕ → Sample) (at : Ref) (v : Bits) (b : Bool) → found_by samples at ≡ Some v → v ≡ flag_of b → is_on samples (Some at) ≡ b
enable_on samples at v b e f = ap is_one (e ∙ ap (λ c. Some c) f) ∙ one_is b
