-- What each elaborated design keeps holds in one way at most.
use Rattle.std.specs.Prelude.{ℕ, List, [], ◌∷◌}
use Rattle.std.proofs.Props.{props}
use Rattle.design_core.specs.declared.design.Instance.{Instance}
use Rattle.design_core.specs.declared.variant.Signal.{Signal}
use Rattle.design_core.specs.declared.variant.Kind.{Kind}
use Rattle.design_core.specs.declared.variant.Kind.TheVariants.{Input, Output, Wire, Reg, ChildOut}
use Rattle.gen_token.specs.Spelling.{IsName}
use Rattle.exec_core.specs.Block.{Name}
use Rattle.list_core.specs.Lists.{EachOf, IsNotIn, AreApart}
use Rattle.design_core.specs.Design.{Gens, AreInRange, Child, Variant, Design}
use Rattle.design_core.specs.WellFormed.{IsChild, AreChildren, IfPort, HasLines, IsVariant, IsDesign}

kind_set : IsSet Kind
kind_set = hlevel props

signal_set : IsSet Signal
signal_set = hlevel (props, kind_set)

instance_set : IsSet Instance
instance_set = hlevel props

each_prop : {A : Type 0} (P : A → Type 0) → ((a : A) → IsProp (P a)) → (list : List A) → IsProp (EachOf P list)
each_prop P h [] = hlevel props
each_prop P h (a ∷ list) = hlevel (props, h, each_prop P h list)

not_in_prop : {A : Type 0} (a : A) (list : List A) → IsProp (IsNotIn a list)
not_in_prop a [] = hlevel props
not_in_prop a (b ∷ list) = hlevel (props, not_in_prop a list)

apart_prop : {A : Type 0} (list : List A) → IsProp (AreApart list)
apart_prop [] = hlevel props
apart_prop (a ∷ list) = hlevel (props, not_in_prop a list, apart_prop list)

child_prop : (i : ℕ) (path : Name) (c : Child) (r : ℕ × Instance) → IsProp (IsChild i path c r)
child_prop i path c r = hlevel props

children_prop : (i : ℕ) (path : Name) (children : List Child) (list : List (ℕ × Instance)) → IsProp (AreChildren i path children list)
children_prop i path [] [] = hlevel props
children_prop i path [] (r ∷ list) = hlevel props
children_prop i path (c ∷ children) [] = hlevel props
children_prop i path (c ∷ children) (r ∷ list) = hlevel (props, child_prop i path c r, children_prop i path children list)

gens_prop : (gens : Gens) → IsProp (AreInRange gens)
gens_prop [] = hlevel props
gens_prop (g ∷ gens) = hlevel (props, gens_prop gens)

name_prop : (x : Name) → IsProp (IsName x)
name_prop x = hlevel props

port_prop : (s : Signal) (k : Kind) → IsProp (IfPort IsName s k)
port_prop s Input = name_prop s.name
port_prop s Output = name_prop s.name
port_prop s Wire = hlevel props
port_prop s (Reg start) = hlevel props
port_prop s (ChildOut k port) = hlevel props

lines_prop : (c : Child) → IsProp (HasLines c)
lines_prop c = hlevel (props, each_prop)

variant_prop : (variants : List Variant) (v : Variant) → IsProp (IsVariant variants v)
variant_prop variants v = hlevel (props, signal_set, each_prop, gens_prop, name_prop, port_prop, lines_prop)

pub design_prop : (d : Design) → IsProp (IsDesign d)
design_prop d = hlevel (props, instance_set, each_prop, variant_prop, children_prop, apart_prop)
