-- What a bound condition keeps holds in one way at most.
use Rattle.std.specs.Prelude.{◌≡◌, ℕ, List}
use Rattle.std.proofs.Props.{props}
use Rattle.bv_core.specs.Operators.{Fits1, Fits2}
use Rattle.bv_core.specs.declared.Op1.{Op1}
use Rattle.bv_core.specs.declared.Op1.TheVariants as op1
use Rattle.bv_core.specs.declared.Op2.{Op2}
use Rattle.bv_core.specs.declared.Op2.TheVariants as op2
use Rattle.bv_core.specs.declared.Ref.{Ref}
use Rattle.bv_core.specs.declared.Ref.TheVariants as ref
use Rattle.tree_core.specs.Tree.{Tree, Const, Leaf, One, Two, Mux}
use Rattle.tree_core.specs.Width.{WellFormed}
use Rattle.cond_lang.specs.Bound.{ref_width, IsRef, IsBound}
use Rattle.cond_lang.specs.Form.{Seat}
use Rattle.cond_lang.specs.Sets.{tree_set}

one_prop : (o : Op1) (w : ℕ) → IsProp (Fits1 o w)
one_prop op1.Not w = hlevel props
one_prop op1.All w = hlevel props
one_prop op1.Any w = hlevel props
one_prop op1.Parity w = hlevel props
one_prop (op1.Slice high low) w = hlevel props
one_prop (op1.Zext to) w = hlevel props

two_prop : (o : Op2) (a b : ℕ) → IsProp (Fits2 o a b)
two_prop op2.Add a b = hlevel props
two_prop op2.Sub a b = hlevel props
two_prop op2.Mul a b = hlevel props
two_prop op2.And a b = hlevel props
two_prop op2.Or a b = hlevel props
two_prop op2.Xor a b = hlevel props
two_prop op2.Eq a b = hlevel props
two_prop op2.Ne a b = hlevel props
two_prop op2.Lt a b = hlevel props
two_prop op2.Le a b = hlevel props
two_prop op2.Shl a b = hlevel props
two_prop op2.Shr a b = hlevel props
two_prop op2.Cat a b = hlevel props

ref_prop : (r : Ref) → IsProp (IsRef r)
ref_prop (ref.Node n w) = hlevel props
ref_prop (ref.Const b) = hlevel props

formed_prop : (t : Tree Ref) → IsProp (WellFormed IsRef ref_width t)
formed_prop (Const b) = hlevel props
formed_prop (Leaf r) = ref_prop r
formed_prop (One o a) = hlevel (props, formed_prop a, one_prop)
formed_prop (Two o a b) = hlevel (props, formed_prop a, formed_prop b, two_prop)
formed_prop (Mux c a b) = hlevel (props, formed_prop c, formed_prop a, formed_prop b)

pub bound_prop : (t : Tree Ref) (width : ℕ) → IsProp (IsBound t width)
bound_prop t width = hlevel (props, formed_prop)

seat_set : IsSet Seat
seat_set = hlevel props

pub seats_prop : (first second : List (Tree Seat)) → IsProp (first ≡ second)
seats_prop first second = hlevel (props, tree_set seat_set)
