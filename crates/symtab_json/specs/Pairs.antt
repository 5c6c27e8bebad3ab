-- Lists of exactly two, and what both entries tell.
use Rattle.std.specs.Prelude.{Option, None, option_and_then}
use Rattle.serde_json.specs.Data.{Data, Items, no_items, item}
use Rattle.serde_json.specs.Find.{as_array}
use Rattle.symtab_json.specs.Entries.{two_found}

-- what the entries tell, if they are two
abbrev pub told_both : {A B : Type 0} → (Data → Option A) → (Data → Option B) → Items → Option (A × B)
told_both first second no_items = None
told_both first second (item d no_items) = None
told_both first second (item d (item e no_items)) = two_found (first d) (second e)
told_both first second (item d (item e (item f ds))) = None

-- what the entries of a list of exactly two tell
abbrev pub told_pair : {A B : Type 0} → (Data → Option A) → (Data → Option B) → Data → Option (A × B)
told_pair first second d = option_and_then (told_both first second) (as_array d)
