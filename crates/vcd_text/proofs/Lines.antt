-- Lines, piece by piece.
use Rattle.std.proofs.Common.{◌≡◌, ℕ, List, [], ◌∷◌, ◌++◌, refl, ap, ◌∙◌}
use Rattle.std.specs.List.{flat_map}
use Rattle.std.proofs.lemmas.List.Concat.{flat_map-append}
use Rattle.vcd_text.specs.Dump.{line_text}

-- a word in front of some, of which there is a last one
pub line_joined : (word : List ℕ) (words : List (List ℕ)) (last : List ℕ) → line_text (word ∷ (words ++ last ∷ [])) ≡ word ++ 32 ∷ line_text (words ++ last ∷ [])
line_joined word [] last = refl
line_joined word (next ∷ words) last = refl

-- lists of lists, one behind the other
pub flat_twice : {A B C : Type 0} (f : B → List C) (g : A → List B) (xs : List A) → flat_map f (flat_map g xs) ≡ flat_map (λ x. flat_map f (g x)) xs
flat_twice f g [] = refl
flat_twice f g (x ∷ xs) = flat_map-append f (g x) (flat_map g xs) ∙ ap (λ l. flat_map f (g x) ++ l) (flat_twice f g xs)
