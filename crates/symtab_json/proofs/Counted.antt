-- Variants that were times_counted.
use Rattle.std.proofs.Common.{◌≡◌, ℕ, ◌+◌, ◌<◌, ◌==◌, Bool, true, false, cond, List, [], ◌∷◌, length, take, get_or, refl, ap, ◌∙◌, length-append}
use Rattle.symtab.specs.Places.{places}
use Rattle.symtab.proofs.Grouped.{places_more}

one_if : (b : Bool) (place : ℕ) → length (cond b (place ∷ []) []) ≡ cond b 1 0
one_if true place = refl
one_if false place = refl

-- one more
pub counted_more : (number : ℕ) (xs : List ℕ) (place : ℕ) → place < length xs →
    length (places number (take (place + 1) xs)) ≡ length (places number (take place xs)) + cond (get_or xs place 0 == number) 1 0
counted_more number xs place within =
    ap length (places_more number xs place within)
    ∙ length-append (places number (take place xs)) _
    ∙ ap (λ n. length (places number (take place xs)) + n) (one_if (get_or xs place 0 == number) place)
