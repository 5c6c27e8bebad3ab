-- Parameters by the names of those that a module has.
use Rattle.std.specs.Prelude.{ℕ, Bool, not, ◌&&◌, List, [], ◌∷◌, ◌++◌, is_some, if◌then◌else◌, bytes_eq, map}
use Rattle.std.specs.List.{list_any}
use Rattle.gen_tree.specs.Tree.{Param}
use Rattle.exec_core.specs.Block.{Name}
use Rattle.design_core.specs.Design.{Gens}
use Rattle.elab_core.specs.Walk.{Walk, Gives, Faulty, ◌>>=◌, UnknownParameter}
use Rattle.elab_core.specs.Numbers.{find, number}

abbrev pub names_of : List Param → List Name
names_of params = map (λ p. p.name) params

-- one of these names, which was not given
abbrev pub is_open : List Name → Gens → Name → Bool
is_open names given_so x = list_any (bytes_eq x) names && not (is_some (find given_so x))

-- the arguments for parameters of these names
unfoldable pub arguments_by : ℕ → Gens → List Name → List Param → Gens → Walk Gens
arguments_by line gens names [] given_so = Gives given_so
arguments_by line gens names (a ∷ args) given_so =
    if is_open names given_so a.name then (do
      n ← number line gens a.value
      arguments_by line gens names args (given_so ++ (a.name, n) ∷ []))
    else Faulty (UnknownParameter line a.name)

-- the parameters of the top
unfoldable pub top_arguments_by : List Name → Gens → Gens → Walk Gens
top_arguments_by names [] given_so = Gives given_so
top_arguments_by names (g ∷ rest) given_so =
    if is_open names given_so g.0 then top_arguments_by names rest (given_so ++ g ∷ []) else Faulty (UnknownParameter 0 g.0)
