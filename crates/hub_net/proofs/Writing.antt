-- The lines of visits, up to one of them and behind it.
use Rattle.std.proofs.Common.{arith, ◌≡◌, ◌+◌, ◌<◌, ◌≤◌, ℕ, suc, List, [], ◌∷◌, ◌++◌, Option, None, Some, Result, Ok, Err, OnErr, take, drop, get_or, length, refl, sym, ◌∙◌, ap, append_assoc, append-nil}
use Rattle.std.proofs.lemmas.List.{take_more, take_all, length-take-le}
use Rattle.std.proofs.Math.Seq.{split_at}
use Rattle.io_edge.specs.Taken.{Appends, AppendsFront}
use Rattle.io_edge.proofs.Growth.{grown_twice, front_after}
use Rattle.serve_net.specs.declared.visit.Visit.{Visit}
use Rattle.serve_net.specs.Visits.{line_of, lines_from}
use Rattle.serve_net.proofs.Lines.{lines_more}

-- nothing was written
pub nothing_yet : (old : Option (List ℕ)) → Appends old old []
nothing_yet None = refl
nothing_yet (Some taken) = ap Some (sym (append-nil taken))

lines_append : (who : List ℕ) (n : ℕ) (xs ys : List Visit) → lines_from who n (xs ++ ys) ≡ lines_from who n xs ++ lines_from who (n + length xs) ys
unfolding lines_from
lines_append who n [] ys = ap (λ m. lines_from who m ys) (omega arith)
lines_append who n (x ∷ xs) ys =
    ap (λ l. line_of who n x ++ l) (lines_append who (suc n) xs ys ∙ ap (λ m. lines_from who (suc n) xs ++ lines_from who m ys) (omega arith))
    ∙ sym (append_assoc (line_of who n x) (lines_from who (suc n) xs) _)

module _ (who : List ℕ) (visits : List Visit) (i : ℕ) (d : Visit) (within : i < length visits) (old mid new : Option (List ℕ)) (before : Appends old mid (lines_from who 0 (take i visits))) where
  many : length (take i visits) ≡ i
  many = length-take-le i visits (omega (arith, within))

  lines_next : lines_from who 0 (take (i + 1) visits) ≡ lines_from who 0 (take i visits) ++ line_of who i (get_or visits i d)
  lines_next =
      let at : 0 + length (take i visits) ≡ i = omega (arith, many) in
      ap (lines_from who 0) (take_more visits i d within) ∙ lines_more who 0 (take i visits) (get_or visits i d)
      ∙ ap (λ n. lines_from who 0 (take i visits) ++ line_of who n (get_or visits i d)) at

  lines_split : lines_from who 0 visits ≡ lines_from who 0 (take i visits) ++ (line_of who i (get_or visits i d) ++ lines_from who (suc i) (drop (suc i) visits))
  unfolding lines_from
  lines_split =
      let at : 0 + length (take i visits) ≡ i = omega (arith, many) in
      ap (lines_from who 0) (split_at visits i d within) ∙ lines_append who 0 (take i visits) (get_or visits i d ∷ drop (suc i) visits)
      ∙ ap (λ n. lines_from who 0 (take i visits) ++ lines_from who n (get_or visits i d ∷ drop (suc i) visits)) at

  pub taken_more : Appends mid new (line_of who i (get_or visits i d)) → Appends old new (lines_from who 0 (take (i + 1) visits))
  taken_more more = rw lines_next (grown_twice old mid new _ _ before more)

  pub taken_front : {A E : Type 0} (result : Result A E) → AppendsFront mid new (line_of who i (get_or visits i d)) → OnErr result (AppendsFront old new (lines_from who 0 visits))
  taken_front (Ok done) front = tt
  taken_front (Err e) front = front_after old mid new _ _ _ _ lines_split before front

-- all of them were written
pub taken_all : (who : List ℕ) (visits : List Visit) (i : ℕ) (old new : Option (List ℕ)) → length visits ≤ i → Appends old new (lines_from who 0 (take i visits)) → Appends old new (lines_from who 0 visits)
taken_all who visits i old new past taken = rw (take_all i visits past) at taken
