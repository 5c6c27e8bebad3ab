-- What is told of a list, behind entries that were told.
use Rattle.std.proofs.Common.{◌≡◌, List, [], ◌∷◌, ◌++◌, Option, Some, None, option_map, refl, sym, ap, append_assoc, append-nil}
use Rattle.symtab_json.specs.Entries.{told_first}

-- entries in front of those that are told, if they are
abbrev pub behind : {A : Type 0} → List A → Option (List A) → Option (List A)
behind front rest = option_map (λ xs. front ++ xs) rest

-- none in front
pub behind_none : {A : Type 0} (rest : Option (List A)) → behind [] rest ≡ rest
behind_none None = refl
behind_none (Some xs) = refl

-- the first of those behind
pub behind_first : {A : Type 0} (front : List A) (x : A) (rest : Option (List A)) → behind front (told_first (Some x) rest) ≡ behind (front ++ x ∷ []) rest
behind_first front x None = refl
behind_first front x (Some xs) = ap Some (sym (append_assoc front (x ∷ []) xs))

-- none behind
pub behind_end : {A : Type 0} (front : List A) → behind front (Some []) ≡ Some front
behind_end front = ap Some (append-nil front)
