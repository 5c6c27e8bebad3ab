-- What was made before stands in front of what is made.
use Rattle.std.proofs.Common.{◌≡◌, List, [], ◌∷◌, ◌++◌, length, take, refl, ap₂, ◌∙◌, arith}
use Rattle.std.proofs.lemmas.List.{take_all, take-append-le}

pub front_all : {A : Type 0} (xs : List A) → take (length xs) xs ≡ xs
front_all xs = take_all (length xs) xs (omega arith)

pub front_one : {A : Type 0} (xs : List A) (x : A) → take (length xs) (xs ++ x ∷ []) ≡ xs
front_one xs x = take-append-le (length xs) xs (x ∷ []) (omega arith) ∙ front_all xs

pub front_further : {A : Type 0} (xs ys zs : List A) → take (length xs) ys ≡ xs → take (length ys) zs ≡ ys → take (length xs) zs ≡ xs
front_further [] ys zs e f = refl
front_further (x ∷ xs) [] zs e f = cc
front_further (x ∷ xs) (y ∷ ys) [] e f = cc
front_further (x ∷ xs) (y ∷ ys) (z ∷ zs) e f =
    let first : z ≡ x = cc in
    let rest : take (length xs) ys ≡ xs = cc in
    let more : take (length ys) zs ≡ ys = cc in
    ap₂ (λ w ws. w ∷ ws) first (front_further xs ys zs rest more)

pub ruleset front_steps = (front_all, front_one, front_further)
