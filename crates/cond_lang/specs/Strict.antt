-- A tree's value from the bottom up, as it is computed: an operand that is not known leaves nothing known.
use Rattle.std.specs.Prelude.{Option, Some, None}
use Rattle.bv_core.specs.Value.{Bits}
use Rattle.bv_core.specs.Operators.{apply1_of, apply2_of, choose_of}
use Rattle.tree_core.specs.Tree.{Tree, Const, Leaf, One, Two, Mux}

abbrev pub on_one : {A : Type 0} → (Bits → A) → Option Bits → Option A
on_one f (Some a) = Some (f a)
on_one f None = None

abbrev pub on_two : {A : Type 0} → (Bits → Bits → A) → Option Bits → Option Bits → Option A
on_two f (Some a) b = on_one (f a) b
on_two f None b = None

abbrev pub on_three : {A : Type 0} → (Bits → Bits → Bits → A) → Option Bits → Option Bits → Option Bits → Option A
on_three f (Some c) a b = on_two (f c) a b
on_three f None a b = None

abbrev pub strict_value : {A : Type 0} → (A → Option Bits) → Tree A → Option Bits
strict_value shown (Const b) = Some b
strict_value shown (Leaf x) = shown x
strict_value shown (One o a) = on_one (apply1_of o) (strict_value shown a)
strict_value shown (Two o a b) = on_two (apply2_of o) (strict_value shown a) (strict_value shown b)
strict_value shown (Mux c a b) = on_three choose_of (strict_value shown c) (strict_value shown a) (strict_value shown b)
