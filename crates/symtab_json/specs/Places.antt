-- Names that differ, and how often a number stands in a list.
use Rattle.std.specs.Prelude.{ℕ, ◌&&◌, List, [], ◌∷◌, ◌++◌, length, map, nat_eq, Bool, true, not, unwrap_or}
use Rattle.std.specs.HashMap.{get, HashMap}
use Rattle.std.specs.declared.hash.FoldHasher.{FoldHasher}
use Rattle.std.specs.declared.hash.BuildHasherDefault.{BuildHasherDefault}
use Rattle.names.specs.Known.{has}
use Rattle.symtab.specs.Places.{places}
use Rattle.symtab_json.specs.declared.entries.InstanceEntry.{InstanceEntry}

-- each text is none of those before it, of which these are the first
abbrev pub are_new : List (List ℕ) → List (List ℕ) → Bool
are_new before [] = true
are_new before (text ∷ texts) = not (has before text) && are_new (before ++ text ∷ []) texts

-- no two texts are the same
abbrev pub are_apart : List (List ℕ) → Bool
are_apart texts = are_new [] texts

-- the numbers that were times_counted, and how often
abbrev pub VariantCounts : Type 0
VariantCounts = HashMap ℕ ℕ (BuildHasherDefault FoldHasher)

-- how often a number was times_counted
abbrev pub times_counted : VariantCounts → ℕ → ℕ
times_counted counts number = unwrap_or (get nat_eq counts number) 0

-- how many of these instances have a variant
abbrev pub instance_count : List InstanceEntry → ℕ → ℕ
instance_count instances variant = length (places variant (map (λ instance. instance.variant) instances))
