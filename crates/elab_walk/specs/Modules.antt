-- Modules by name.
use Rattle.std.specs.Prelude.{◌≡◌, ℕ, List, [], ◌∷◌, Option, Some, None, Vec, bytes_eq}
use Rattle.std.specs.Global.{Global}
use Rattle.std.specs.Map.{lookup}
use Rattle.gen_tree.specs.Tree.{Module}
use Rattle.elab_core.specs.Elab.{places}

-- where the one module of a name stands; none where there are more
abbrev pub sole : List (ℕ × Module) → Option (Option ℕ)
sole [] = None
sole (found ∷ []) = Some (Some found.0)
sole (found ∷ (again ∷ more)) = Some None

-- each name leads to the places of its modules
abbrev pub LeadsTo : List (Vec ℕ Global × Option ℕ) → List Module → Type 0
LeadsTo entries modules = (x : List ℕ) → lookup (λ k. bytes_eq x k.items) entries ≡ sole (places x 0 modules)
