-- A fact of each element of a list, when one is looked at after another.
use Rattle.std.proofs.Common.{◌≡◌, ℕ, ◌+◌, ◌<◌, ◌≤◌, ◌++◌, ◌∷◌, [], All, List, length, take, get_or, sym, ap, ◌∙◌}
use Rattle.std.proofs.lemmas.List.{take_more, take_all}
use Rattle.std.proofs.lemmas.List.Elements.{All-push, All-same}

pub all_more : {A : Type 0} (P : A → Type 0) (xs : List A) (i : ℕ) (x : A) → i < length xs → x ≡ get_or xs i x → All P (take i xs) → P x → All P (take (i + 1) xs)
all_more P xs i x within is h p = All-same P _ _ (take_more xs i x within ∙ ap (λ y. take i xs ++ y ∷ []) (sym is)) (All-push P (take i xs) x h p)

pub all_seen : {A : Type 0} (P : A → Type 0) (xs : List A) (i : ℕ) → length xs ≤ i → All P (take i xs) → All P xs
all_seen P xs i past h = All-same P _ _ (sym (take_all i xs past)) h

-- two lists that are the same up to a place, and there
pub same_more : {A : Type 0} (xs ys : List A) (i : ℕ) (x : A) → i < length xs → i < length ys → x ≡ get_or xs i x → x ≡ get_or ys i x → take i xs ≡ take i ys → take (i + 1) xs ≡ take (i + 1) ys
same_more xs ys i x in_xs in_ys of_xs of_ys same =
    take_more xs i x in_xs ∙ ap (λ y. take i xs ++ y ∷ []) (sym of_xs) ∙ ap (λ front. front ++ x ∷ []) same ∙ ap (λ y. take i ys ++ y ∷ []) of_ys ∙ sym (take_more ys i x in_ys)
