-- How names are found one after another, in the order of the text.
use Rattle.std.specs.Prelude.{◌≡◌, ℕ, List, [], ◌∷◌, ◌++◌, Option, Some, None, Result, Ok, Err}
use Rattle.std.specs.Borrow.{Bor}
use Rattle.std.specs.Fn.{Shared}
use Rattle.list_core.specs.Lists.{EachOf}
use Rattle.bv_core.specs.declared.Ref.{Ref}
use Rattle.bv_core.specs.declared.Binding.{Binding}
use Rattle.bv_core.specs.declared.Binding.TheVariants as binding
use Rattle.cond_lang.specs.Names.{Name}
use Rattle.cond_lang.specs.Judged.{Refusal, not_in_scope, was_removed, is_unset}

-- what calls of `find` answer for a name: what it stands for
abbrev pub Says : {F : Type 0} → Shared F (Bor (List ℕ) × Unit {0}) (Option Binding) → F → (Name → Option Binding) → Name → Type 0
Says calls find places x = (name : Bor (List ℕ)) (found : Option Binding) → name.now ≡ x → calls.post find (name, tt) found → found ≡ places x

-- for each of these names; what is answered for others is nobody's matter
pub record Finds {F : Type 0} (calls : Shared F (Bor (List ℕ) × Unit {0}) (Option Binding)) (find : F) (places : Name → Option Binding) (names : List Name) : Type 0 where
  pub each : EachOf (Says calls find places) names

-- where the value of a name is found, or why it has none
abbrev pub name_ref : Name → Option Binding → Result Ref Refusal
name_ref x None = Err (not_in_scope x)
name_ref x (Some (binding.Value at)) = Ok at
name_ref x (Some binding.Unset) = Err (is_unset x)
name_ref x (Some binding.Removed) = Err (was_removed x)

abbrev pub and_then : {A B : Type 0} → Result A Refusal → (A → Result B Refusal) → Result B Refusal
and_then (Ok x) f = f x
and_then (Err refusal) f = Err refusal

-- the places of these names, behind those that were found
abbrev pub found_after : (Name → Option Binding) → List Ref → List Name → Result (List Ref) Refusal
found_after places refs [] = Ok refs
found_after places refs (x ∷ xs) = and_then (name_ref x (places x)) (λ at. found_after places (refs ++ at ∷ []) xs)
