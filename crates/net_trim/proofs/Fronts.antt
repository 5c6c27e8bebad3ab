-- The rows of a slot that were made so far.
use Rattle.std.proofs.Common.{◌≡◌, ℕ, zero, suc, ◌+◌, ◌<◌, ◌==◌, true, false, List, [], ◌∷◌, ◌++◌, length, take, drop, get_or, Option, if◌then◌else◌, refl, sym, ap, ◌∙◌, subst, arith, append_assoc, append-nil}
use Rattle.std.proofs.lemmas.List.{take_more}
use Rattle.bv_core.specs.declared.reference.NodeId.{NodeId}
use Rattle.net_core.specs.Nodes.{Shape}
use Rattle.symtab.specs.declared.parts.Row.{Row}
use Rattle.lower_core.specs.declared.row.FullRow.{FullRow}
use Rattle.net_trim.specs.Made.{IsMade, AreMade, front_of}

pub record SoFar (ns : List Shape) (ids : List (Option NodeId)) (k : ℕ) (rows : List FullRow) (i : ℕ) (made : List Row) : Type 0 where
  pub front : take i rows ++ front_of k (drop i rows) ≡ front_of k rows
  pub are_made : AreMade ns ids (take i rows) made

drop_here : {A : Type 0} (xs : List A) (i : ℕ) (x : A) → i < length xs → x ≡ get_or xs i x → drop i xs ≡ x ∷ drop (i + 1) xs
drop_here [] i x l e = absurd (omega (arith, l))
drop_here (y ∷ xs) zero x l e = ap (λ z. z ∷ xs) (sym e) ∙ ap (λ k. x ∷ drop k (y ∷ xs)) (let z : 1 ≡ 0 + 1 = omega arith in z)
drop_here (y ∷ xs) (suc i) x l e = drop_here xs i x (omega (arith, l)) e ∙ ap (λ k. x ∷ drop k (y ∷ xs)) (let z : suc (i + 1) ≡ suc i + 1 = omega arith in z)

drop_end : {A : Type 0} (xs : List A) (i : ℕ) → length xs ≡ i → (drop i xs ≡ [])
drop_end [] zero e = refl
drop_end [] (suc i) e = absurd (omega (arith, e))
drop_end (x ∷ xs) zero e = absurd (omega (arith, e))
drop_end (x ∷ xs) (suc i) e = drop_end xs i (omega (arith, e))

made_more : (ns : List Shape) (ids : List (Option NodeId)) (rows : List FullRow) (made : List Row) (full : FullRow) (row : Row) → AreMade ns ids rows made → IsMade ns ids full row → AreMade ns ids (rows ++ full ∷ []) (made ++ row ∷ [])
made_more ns ids [] [] full row h m = (m, tt)
made_more ns ids [] (r ∷ made) full row h m = absurd h
made_more ns ids (f ∷ rows) [] full row h m = absurd h
made_more ns ids (f ∷ rows) (r ∷ made) full row h m = (h.0, made_more ns ids rows made full row h.1 m)

pub begun : (ns : List Shape) (ids : List (Option NodeId)) (k : ℕ) (rows : List FullRow) → SoFar ns ids k rows 0 []
begun ns ids k rows = record { front = refl; are_made = tt }

pub more : (ns : List Shape) (ids : List (Option NodeId)) (k : ℕ) (rows : List FullRow) (i : ℕ) (made : List Row) (full : FullRow) (row : Row) → SoFar ns ids k rows i made → i < length rows → full ≡ get_or rows i full
    → (full.slot == k) ≡ true → IsMade ns ids full row → SoFar ns ids k rows (i + 1) (made ++ row ∷ [])
more ns ids k rows i made full row s l e t m =
    let here : take (i + 1) rows ≡ take i rows ++ full ∷ [] = take_more rows i full l ∙ ap (λ x. take i rows ++ x ∷ []) (sym e) in
    let rest : front_of k (drop i rows) ≡ full ∷ front_of k (drop (i + 1) rows) =
    ap (front_of k) (drop_here rows i full l e) ∙ ap (λ b. if b then full ∷ front_of k (drop (i + 1) rows) else []) t in
    record {
      front = ap (λ l. l ++ front_of k (drop (i + 1) rows)) here ∙ append_assoc (take i rows) (full ∷ []) (front_of k (drop (i + 1) rows)) ∙ ap (λ l. take i rows ++ l) (sym rest) ∙ s.front;
      are_made = subst (λ xs. AreMade ns ids xs (made ++ row ∷ [])) (sym here) (made_more ns ids (take i rows) made full row s.are_made m);
    }

-- another slot's row stands behind them
pub other_behind : (ns : List Shape) (ids : List (Option NodeId)) (k : ℕ) (rows : List FullRow) (i : ℕ) (made : List Row) (full : FullRow) → SoFar ns ids k rows i made → i < length rows → full ≡ get_or rows i full
    → (full.slot == k) ≡ false → AreMade ns ids (front_of k rows) made
other_behind ns ids k rows i made full s l e f =
    let rest : front_of k (drop i rows) ≡ [] = ap (front_of k) (drop_here rows i full l e) ∙ ap (λ b. if b then full ∷ front_of k (drop (i + 1) rows) else []) f in
    subst (λ xs. AreMade ns ids xs made) (sym (append-nil (take i rows)) ∙ ap (λ l. take i rows ++ l) (sym rest) ∙ s.front) s.are_made

-- nothing stands behind them
pub none_behind : (ns : List Shape) (ids : List (Option NodeId)) (k : ℕ) (rows : List FullRow) (i : ℕ) (made : List Row) → SoFar ns ids k rows i made → length rows ≡ i → AreMade ns ids (front_of k rows) made
none_behind ns ids k rows i made s e =
    let rest : front_of k (drop i rows) ≡ [] = ap (front_of k) (drop_end rows i e) in
    subst (λ xs. AreMade ns ids xs made) (sym (append-nil (take i rows)) ∙ ap (λ l. take i rows ++ l) (sym rest) ∙ s.front) s.are_made
