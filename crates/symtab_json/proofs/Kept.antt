-- What was found is kept where it passes a test.
use Rattle.std.proofs.Common.{◌≡◌, Bool, true, false, cond, List, [], ◌∷◌, map, Option, Some, None, refl, sym, ap, ◌∙◌}
use Rattle.symtab_json.specs.Entries.{kept_if}

-- it passes
pub kept_then : {A : Type 0} (test : A → Bool) (found : Option A) (x : A) (b : Bool) → Some x ≡ found → b ≡ test x → b ≡ true → Some x ≡ kept_if test found
kept_then test found x b is told passes =
    sym (ap (λ t. cond t (Some x) None) (sym told ∙ passes)) ∙ ap (kept_if test) is

-- it does not
pub kept_else : {A : Type 0} (test : A → Bool) (found : Option A) (x : A) (b : Bool) → Some x ≡ found → b ≡ test x → b ≡ false → None ≡ kept_if test found
kept_else test found x b is told fails =
    sym (ap (λ t. cond t (Some x) None) (sym told ∙ fails)) ∙ ap (kept_if test) is

-- each entry for itself
pub map_itself : {A : Type 0} (xs : List A) → map (λ x. x) xs ≡ xs
map_itself [] = refl
map_itself (x ∷ xs) = ap (λ ys. x ∷ ys) (map_itself xs)
