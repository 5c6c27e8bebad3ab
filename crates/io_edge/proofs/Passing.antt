-- Laws of a text that waits to be taken, piece after piece.
use Rattle.std.proofs.Common.{◌≡◌, ℕ, suc, ◌+◌, ◌<◌, List, [], ◌∷◌, ◌++◌, length, take, drop, get_or, Option, Some, None, refl, sym, ap, ◌∙◌, subst, append_assoc, append-nil}
use Rattle.std.specs.List.{flat_map}
use Rattle.std.proofs.lemmas.List.{take_more}
use Rattle.std.proofs.lemmas.List.Concat.{flat_map-append}
use Rattle.io_edge.specs.Taken.{Appends, AppendsFront}
use Rattle.io_edge.proofs.Growth.{grown_twice, front_after, front_of_front, pieces_at}
use Rattle.io_edge.specs.Waiting.{Passes}

no_more : (old : Option (List ℕ)) → Appends old old []
no_more None = refl
no_more (Some taken) = ap Some (sym (append-nil taken))

-- nothing was put behind it
pub none_passes : (old new : Option (List ℕ)) (before after : List ℕ) → new ≡ old → after ≡ before → Passes old new before after []
none_passes old new before after e f = record { done = []; split = append-nil before ∙ sym f; grown = subst (λ o. Appends old o []) (sym e) (no_more old) }

-- all that waited was taken
pub all_passes : (old new : Option (List ℕ)) (before after : List ℕ) → after ≡ [] → Appends old new before → Passes old new before after []
all_passes old new before after e g = record { done = before; split = append-nil before ∙ sym (ap (λ l. before ++ l) e ∙ append-nil before); grown = g }

-- what was put behind it first
pub pushed_passes : (old new : Option (List ℕ)) (before mid after piece : List ℕ) → mid ≡ before ++ piece → Passes old new mid after [] → Passes old new before after piece
pushed_passes old new before mid after piece e p = record { done = p.done; split = sym e ∙ sym (append-nil mid) ∙ p.split; grown = p.grown }

-- two pieces, one after the other
pub more_passes : (old mid new : Option (List ℕ)) (a b c p q all : List ℕ) → all ≡ p ++ q → Passes old mid a b p → Passes mid new b c q → Passes old new a c all
more_passes old mid new a b c p q all e x y = record {
  done = x.done ++ y.done;
  split =
      ap (λ l. a ++ l) e
      ∙ sym (append_assoc a p q)
      ∙ ap (λ l. l ++ q) x.split
      ∙ append_assoc x.done b q
      ∙ ap (λ l. x.done ++ l) y.split
      ∙ sym (append_assoc x.done y.done c);
  grown = grown_twice old mid new x.done y.done x.grown y.grown;
}

-- a front of the next piece
pub front_passes : (old mid new : Option (List ℕ)) (a b p q rest all : List ℕ) → all ≡ p ++ (q ++ rest) → Passes old mid a b p → AppendsFront mid new (b ++ q) → AppendsFront old new (a ++ all)
front_passes old mid new a b p q rest all e x y =
    front_after old mid new x.done (b ++ q) rest (a ++ all)
    (ap (λ l. a ++ l) e
    ∙ sym (append_assoc a p (q ++ rest))
    ∙ ap (λ l. l ++ (q ++ rest)) x.split
    ∙ append_assoc x.done b (q ++ rest)
    ∙ ap (λ l. x.done ++ l) (sym (append_assoc b q rest)))
    x.grown y

-- what waits last is taken
pub last_passes : (old mid new : Option (List ℕ)) (after piece : List ℕ) → Passes old mid [] after piece → Appends mid new after → Appends old new piece
last_passes old mid new after piece x g = subst (Appends old new) (sym x.split) (grown_twice old mid new x.done after x.grown g)

pub last_front : (old mid new : Option (List ℕ)) (after piece : List ℕ) → Passes old mid [] after piece → AppendsFront mid new after → AppendsFront old new piece
last_front old mid new after piece x g =
    front_after old mid new x.done after [] piece (x.split ∙ ap (λ l. x.done ++ l) (sym (append-nil after))) x.grown g

-- ---- the pieces of a list

pub piece_next : {X : Type 0} (f : X → List ℕ) (xs : List X) (i : ℕ) (x : X) → i < length xs → x ≡ get_or xs i x → flat_map f (take (i + 1) xs) ≡ flat_map f (take i xs) ++ f x
piece_next f xs i x l e =
    ap (flat_map f) (take_more xs i x l) ∙ flat_map-append f (take i xs) (get_or xs i x ∷ []) ∙ ap (λ y. flat_map f (take i xs) ++ (f y ++ [])) (sym e) ∙ ap (λ l. flat_map f (take i xs) ++ l) (append-nil (f x))

pub piece_of : {X : Type 0} (f : X → List ℕ) (xs : List X) (i : ℕ) (x : X) → i < length xs → x ≡ get_or xs i x → flat_map f xs ≡ flat_map f (take i xs) ++ (f x ++ flat_map f (drop (suc i) xs))
piece_of f xs i x l e = pieces_at f xs i x l ∙ ap (λ y. flat_map f (take i xs) ++ (f y ++ flat_map f (drop (suc i) xs))) (sym e)

-- what waits is taken with a last piece behind it
pub end_passes : (old mid new : Option (List ℕ)) (a b p q : List ℕ) → Passes old mid a b p → Appends mid new (b ++ q) → Appends old new (a ++ (p ++ q))
end_passes old mid new a b p q x g =
    subst (Appends old new)
    (sym (append_assoc x.done b q) ∙ ap (λ l. l ++ q) (sym x.split) ∙ append_assoc a p q)
    (grown_twice old mid new x.done (b ++ q) x.grown g)

pub end_front : (old mid new : Option (List ℕ)) (a b p q : List ℕ) → Passes old mid a b p → AppendsFront mid new (b ++ q) → AppendsFront old new (a ++ (p ++ q))
end_front old mid new a b p q x g = front_passes old mid new a b p q [] (p ++ q) (ap (λ l. p ++ l) (sym (append-nil q))) x g

-- what was taken is a front, where the rest is given up
pub given_up : (old new : Option (List ℕ)) (a b p rest : List ℕ) → Passes old new a b p → AppendsFront old new (a ++ (p ++ rest))
given_up old new a b p rest x = record {
  front = x.done;
  rest = b ++ rest;
  split = sym (append_assoc a p rest) ∙ ap (λ l. l ++ rest) x.split ∙ append_assoc x.done b rest;
  grown = x.grown;
}

-- a front of the first piece
pub front_first : (old new : Option (List ℕ)) (a p rest : List ℕ) → AppendsFront old new (a ++ p) → AppendsFront old new (a ++ (p ++ rest))
front_first old new a p rest x = front_of_front old new (a ++ p) rest (a ++ (p ++ rest)) (sym (append_assoc a p rest)) x
