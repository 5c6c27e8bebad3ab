-- A read that failed is the last of those that were asked for, also behind what was read before.
use Rattle.std.proofs.Common.{◌≡◌, ℕ, ◌≤◌, arith, List, [], ◌∷◌, ◌++◌, Option, Some, None, refl, sym, ◌∙◌, ap, append_assoc}
use Rattle.std.proofs.lemmas.List.{append-nil}
use Rattle.io_edge.specs.Faults.{Rose}
use Rattle.io_edge.specs.Taken.{Appends, AppendsFront, Grows}
use Rattle.io_edge.specs.Unread.{StopsAt}
use Rattle.io_edge.proofs.Growth.{grown_twice}

-- nothing was added
pub nothing_more : {A : Type 0} (old : Option (List A)) → Appends old old []
nothing_more None = refl
nothing_more (Some taken) = ap Some (sym (append-nil taken))

-- ---- a read that failed

-- the first of the names was not read
pub stops_first : {S : Type 0} (asked : S → Option (List (List ℕ))) (fault_count : S → ℕ) (old new : S) (name : List ℕ) (rest names : List (List ℕ)) → names ≡ name ∷ rest
    → Appends (asked old) (asked new) (name ∷ []) → Rose (fault_count old) (fault_count new) → StopsAt asked fault_count old new names
stops_first asked fault_count old new name rest names e p r =
    record { before = old; done = []; name = name; rest = rest; split = e; first = nothing_more (asked old); last = p; later = omega arith; rose = r }

-- the names are the first ones of more
pub stops_of_front : {S : Type 0} (asked : S → Option (List (List ℕ))) (fault_count : S → ℕ) (old new : S) (piece rest names : List (List ℕ)) → names ≡ piece ++ rest
    → StopsAt asked fault_count old new piece → StopsAt asked fault_count old new names
stops_of_front asked fault_count old new piece rest names e q =
    record { before = q.before; done = q.done; name = q.name; rest = q.rest ++ rest; split = e ∙ rw (q.split, append_assoc) refl; first = q.first; last = q.last; later = q.later; rose = q.rose }

-- other names were read before
pub stops_after : {S : Type 0} (asked : S → Option (List (List ℕ))) (fault_count : S → ℕ) (old mid new : S) (done piece rest names : List (List ℕ)) → names ≡ done ++ (piece ++ rest)
    → Appends (asked old) (asked mid) done → fault_count old ≤ fault_count mid → StopsAt asked fault_count mid new piece → StopsAt asked fault_count old new names
stops_after asked fault_count old mid new done piece rest names e p h q =
    record {
      before = q.before;
      done = done ++ q.done;
      name = q.name;
      rest = q.rest ++ rest;
      split = e ∙ rw (q.split, append_assoc, append_assoc) refl;
      first = grown_twice (asked old) (asked mid) (asked q.before) done q.done p q.first;
      last = q.last;
      later = omega (arith, h, q.later);
      rose = q.rose;
    }

-- ---- what stays in front

pub grows_whole : {A : Type 0} (old new : Option (List A)) (piece : List A) → Appends old new piece → Grows old new
grows_whole old new piece p = record { more = piece; grown = p }

pub grows_front : {A : Type 0} (old new : Option (List A)) (piece : List A) → AppendsFront old new piece → Grows old new
grows_front old new piece p = record { more = p.front; grown = p.grown }

pub grows_not : {A : Type 0} (old new : Option (List A)) → new ≡ old → Grows old new
grows_not old new e = record { more = []; grown = e ∙ nothing_more old }

pub grows_twice : {A : Type 0} (old mid new : Option (List A)) → Grows old mid → Grows mid new → Grows old new
grows_twice old mid new p q = record { more = p.more ++ q.more; grown = grown_twice old mid new p.more q.more p.grown q.grown }
