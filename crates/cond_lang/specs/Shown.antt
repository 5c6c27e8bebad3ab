-- What conditions show to those who hold them.
use Rattle.std.specs.Prelude.{ℕ, ◌==◌, Option, Some, None, if◌then◌else◌}
use Rattle.bv_core.specs.Value.{Bits}
use Rattle.bv_core.specs.declared.Ref.{Ref}
use Rattle.bv_core.specs.declared.Truth.{Truth}
use Rattle.bv_core.specs.declared.Truth.TheVariants as truth
use Rattle.tree_core.specs.Tree.{Tree}
use Rattle.tree_core.specs.Width.{width_of}
use Rattle.cond_lang.specs.declared.cond.Cond.{Cond}
use Rattle.cond_lang.specs.Bound.{ref_width}
use Rattle.cond_lang.specs.Places.{tree_at}

-- the tree of a bound condition
abbrev pub cond_tree : Cond → Tree Ref
cond_tree c = tree_at c.refs.items c.form.value.parts.items

-- its width
abbrev pub cond_width : Cond → ℕ
cond_width c = width_of ref_width (cond_tree c)

-- whether a value is 1, Unknown where it is not known
abbrev pub truth_of : Option Bits → Truth
truth_of (Some b) = if b.value == 1 then truth.True else truth.False
truth_of None = truth.Unknown
