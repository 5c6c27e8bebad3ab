-- Slots that are filled one after another.
use Rattle.std.proofs.Common.{◌≡◌, ℕ, zero, suc, ◌+◌, ◌-◌, ◌<◌, ◌≤◌, ◌==◌, Bool, true, false, List, [], ◌∷◌, length, take, drop, Option, Some, get_or, if◌then◌else◌, ◌⊎◌, inl, inr, refl, sym, ap, ◌∙◌, subst, arith}
use Rattle.std.specs.Prelude.{slice_get, slice_set}
use Rattle.std.proofs.lemmas.Bool.{cases_eq}
use Rattle.std.proofs.lemmas.List.{length-set}
use Rattle.std.proofs.lemmas.Option.{none-some, same_Some, slice_get-get_or, slice_get_past}
use Rattle.bv_core.specs.declared.reference.NodeId.{NodeId}
use Rattle.net_core.specs.Nodes.{Shape}
use Rattle.symtab.specs.declared.parts.Row.{Row}
use Rattle.symtab.specs.declared.parts.Slot.{Slot}
use Rattle.lower_core.specs.declared.row.FullRow.{FullRow}
use Rattle.net_trim.specs.Made.{AreMade, front_of, rest_of, rest_after, IsFilled, IsFilledAt, AreFilledBelow, AreFilled}

-- ---- the rows of a slot stand at the front

front_short : (k : ℕ) (rows : List FullRow) → length (front_of k rows) ≤ length rows
front_short k [] = omega arith
front_short k (row ∷ rows) = by_test (row.slot == k) (front_short k rows)
  where
    by_test : (b : Bool) → length (front_of k rows) ≤ length rows → length (if b then row ∷ front_of k rows else []) ≤ suc (length rows)
    by_test true l = omega (arith, l)
    by_test false l = omega arith

rest_dropped : (k : ℕ) (rows : List FullRow) → rest_of k rows ≡ drop (length (front_of k rows)) rows
rest_dropped k [] = refl
rest_dropped k (row ∷ rows) = by_test (row.slot == k) (rest_dropped k rows)
  where
    by_test : (b : Bool) → rest_of k rows ≡ drop (length (front_of k rows)) rows → (if b then rest_of k rows else row ∷ rows) ≡ drop (length (if b then row ∷ front_of k rows else [])) (row ∷ rows)
    by_test true e = e
    by_test false e = refl

drop_twice : {A : Type 0} (m n : ℕ) (xs : List A) → drop n (drop m xs) ≡ drop (m + n) xs
drop_twice zero n xs = ap (λ k. drop k xs) (let e : n ≡ 0 + n = omega arith in e)
drop_twice (suc m) n [] = drop_none n ∙ ap (λ k. drop k []) (let e : suc (m + n) ≡ suc m + n = omega arith in e)
  where
    drop_none : {A : Type 0} (k : ℕ) → drop k [] ≡ drop {A = A} (suc (m + k)) []
    drop_none zero = refl
    drop_none (suc k) = refl
drop_twice (suc m) n (x ∷ xs) = drop_twice m n xs ∙ ap (λ k. drop k (x ∷ xs)) (let e : suc (m + n) ≡ suc m + n = omega arith in e)

length_dropped : {A : Type 0} (n : ℕ) (xs : List A) → n ≤ length xs → n + length (drop n xs) ≡ length xs
length_dropped zero xs l = omega arith
length_dropped (suc n) [] l = absurd (omega (arith, l))
length_dropped (suc n) (x ∷ xs) l = let rest = length_dropped n xs (omega (arith, l)) in omega (arith, rest)

pub made_long : (ns : List Shape) (ids : List (Option NodeId)) (rows : List FullRow) (made : List Row) → AreMade ns ids rows made → length made ≡ length rows
made_long ns ids [] [] h = refl
made_long ns ids [] (row ∷ made) h = absurd h
made_long ns ids (full ∷ rows) [] h = absurd h
made_long ns ids (full ∷ rows) (row ∷ made) h = ap suc (made_long ns ids rows made h.1)

-- where the rows behind those of the first slots stand
pub record Stands (rows : List FullRow) (at k : ℕ) : Type 0 where
  pub within : at ≤ length rows
  pub rest : drop at rows ≡ rest_after k rows

pub stands_first : (rows : List FullRow) → Stands rows 0 0
stands_first rows = record { within = omega arith; rest = refl }

pub stands_next : (ns : List Shape) (ids : List (Option NodeId)) (rows : List FullRow) (at k next : ℕ) (made : List Row) → Stands rows at k → AreMade ns ids (front_of k (drop at rows)) made → next ≡ at + length made → Stands rows next (suc k)
stands_next ns ids rows at k next made s m e =
    let long : length made ≡ length (front_of k (drop at rows)) = made_long ns ids (front_of k (drop at rows)) made m in
    let short = front_short k (drop at rows) in
    let whole = length_dropped at rows s.within in
    record {
      within = omega (arith, e, long, short, whole);
      rest =
          ap (λ n. drop n rows) (e ∙ ap (λ n. at + n) long)
          ∙ sym (drop_twice at (length (front_of k (drop at rows))) rows)
          ∙ sym (rest_dropped k (drop at rows))
          ∙ ap (rest_of k) s.rest;
    }

-- ---- a slot more

got_set : {A : Type 0} (xs : List A) (k : ℕ) (x y : A) → slice_get xs k ≡ Some y → slice_get (slice_set xs k x) k ≡ Some x
got_set [] k x y e = absurd (none-some y e)
got_set (z ∷ xs) zero x y e = refl
got_set (z ∷ xs) (suc k) x y e = got_set xs k x y e

got_other : {A : Type 0} (xs : List A) (k j : ℕ) (x : A) → (k ≡ j → ⊥) → slice_get (slice_set xs k x) j ≡ slice_get xs j
got_other [] k j x n = refl
got_other (z ∷ xs) zero zero x n = absurd (n refl)
got_other (z ∷ xs) zero (suc j) x n = refl
got_other (z ∷ xs) (suc k) zero x n = refl
got_other (z ∷ xs) (suc k) (suc j) x n = got_other xs k j x (λ e. n (ap suc e))

pub none_filled : (ns : List Shape) (ids : List (Option NodeId)) (rows : List FullRow) (slots : List Slot) → AreFilledBelow ns ids rows slots slots 0
none_filled ns ids rows slots = record { long = refl; below = λ j l. absurd (omega (arith, l)); others = λ j l. refl }

pub one_more : (ns : List Shape) (ids : List (Option NodeId)) (rows : List FullRow) (before now : List Slot) (k : ℕ) (old new : Slot) → AreFilledBelow ns ids rows before now k → slice_get now k ≡ Some old
    → IsFilled ns ids (front_of k (rest_after k rows)) old new → AreFilledBelow ns ids rows before (slice_set now k new) (suc k)
one_more ns ids rows before now k old new h at f = record {
  long = length-set now k new ∙ h.long;
  below = λ j l. by_place j l (cases_eq j k);
  others = λ j l. got_other now k j new (λ e. omega (arith, e, l)) ∙ h.others j (omega (arith, l));
}
  where
    by_place : (j : ℕ) → j < suc k → (j ≡ k) ⊎ (j ≡ k → ⊥) → IsFilledAt ns ids rows before (slice_set now k new) j
    by_place j l (inl e) =
        subst (IsFilledAt ns ids rows before (slice_set now k new)) (sym e)
        (record { old = old; new = new; was = sym (h.others k (omega arith)) ∙ at; is = got_set now k new old at; filled = f })
    by_place j l (inr n) =
        let low = h.below j (below j k l n) in
        record { old = low.old; new = low.new; was = low.was; is = got_other now k j new (λ e. n (sym e)) ∙ low.is; filled = low.filled }
      where
        below : (j k : ℕ) → j < suc k → (j ≡ k → ⊥) → j < k
        below j k l n = omega (arith, l, n)

-- the rows from a place on
take_long : {A : Type 0} (xs : List A) (n : ℕ) → length xs ≤ n → take n xs ≡ xs
take_long [] zero l = refl
take_long [] (suc n) l = refl
take_long (x ∷ xs) zero l = absurd (omega (arith, l))
take_long (x ∷ xs) (suc n) l = ap (λ ys. x ∷ ys) (take_long xs n (omega (arith, l)))

pub from_place : {A : Type 0} (xs : List A) (at : ℕ) → at ≤ length xs → take (length xs - at) (drop at xs) ≡ drop at xs
from_place xs at l = let whole = length_dropped at xs l in take_long (drop at xs) (length xs - at) (omega (arith, whole, l))

-- the rows of a slot were made
pub filled_next : (ns : List Shape) (ids : List (Option NodeId)) (rows : List FullRow) (before now : List Slot) (at k : ℕ) (d : Slot) (made new_rows : List Row) → Stands rows at k → AreFilledBelow ns ids rows before now k → k < length before
    → AreMade ns ids (front_of k (take (length rows - at) (drop at rows))) made → new_rows ≡ made
    → AreFilledBelow ns ids rows before
    (slice_set now k (record { variant = (get_or now k d).variant; line = (get_or now k d).line; gens = (get_or now k d).gens; names = (get_or now k d).names; rows = new_rows })) (k + 1)
filled_next ns ids rows before now at k d made new_rows s h l m e =
    let inside : k < length now = subst (λ n. k < n) (sym h.long) l in
    let same : take (length rows - at) (drop at rows) ≡ rest_after k rows = from_place rows at s.within ∙ s.rest in
    let rows_made : AreMade ns ids (front_of k (rest_after k rows)) new_rows =
    subst (λ rs. AreMade ns ids (front_of k (rest_after k rows)) rs) (sym e) (subst (λ xs. AreMade ns ids (front_of k xs) made) same m) in
    subst (AreFilledBelow ns ids rows before (slice_set now k (record { variant = (get_or now k d).variant; line = (get_or now k d).line; gens = (get_or now k d).gens; names = (get_or now k d).names; rows = new_rows }))) (let z : suc k ≡ k + 1 = omega arith in z)
    (one_more ns ids rows before now k (get_or now k d) (record { variant = (get_or now k d).variant; line = (get_or now k d).line; gens = (get_or now k d).gens; names = (get_or now k d).names; rows = new_rows }) h (slice_get-get_or now k d inside)
    (record { variant = refl; line = refl; gens = refl; names = refl; rows_made = rows_made }))

pub place_next : (ns : List Shape) (ids : List (Option NodeId)) (rows : List FullRow) (at k n : ℕ) (made : List Row) → Stands rows at k → AreMade ns ids (front_of k (take (length rows - at) (drop at rows))) made → n ≡ length made → Stands rows (at + n) (k + 1)
place_next ns ids rows at k n made s m e =
    subst (Stands rows (at + n)) (let z : suc k ≡ k + 1 = omega arith in z)
    (stands_next ns ids rows at k (at + n) made s (subst (λ xs. AreMade ns ids (front_of k xs) made) (from_place rows at s.within) m) (ap (λ j. at + j) e))

pub enough_filled : (ns : List Shape) (ids : List (Option NodeId)) (rows : List FullRow) (before now : List Slot) (k : ℕ) → AreFilledBelow ns ids rows before now k → length before ≤ k → AreFilledBelow ns ids rows before now (length before)
enough_filled ns ids rows before now k h l = record {
  long = h.long;
  below = λ j m. h.below j (omega (arith, m, l));
  others = λ j m. slice_get_past now j (subst (λ n. n ≤ j) (sym h.long) m) ∙ sym (slice_get_past before j m);
}

-- ---- all slots

drop_at : {A : Type 0} (xs : List A) (n : ℕ) (x : A) → slice_get xs n ≡ Some x → drop n xs ≡ x ∷ drop (suc n) xs
drop_at [] n x e = absurd (none-some x e)
drop_at (y ∷ xs) zero x e = ap (λ z. z ∷ xs) (same_Some y x e)
drop_at (y ∷ xs) (suc n) x e = drop_at xs n x e

drop_all : {A : Type 0} (xs : List A) (n : ℕ) → length xs ≡ n → drop n xs ≡ []
drop_all [] zero e = refl
drop_all [] (suc n) e = absurd (omega (arith, e))
drop_all (x ∷ xs) zero e = absurd (omega (arith, e))
drop_all (x ∷ xs) (suc n) e = drop_all xs n (omega (arith, e))

module _ (ns : List Shape) (ids : List (Option NodeId)) (rows : List FullRow) (before now : List Slot) (h : AreFilledBelow ns ids rows before now (length before)) where
  filled_from : (m n : ℕ) → n + m ≡ length before → AreFilled ns ids n (rest_after n rows) (drop n before) (drop n now)
  filled_from zero n e =
      let end : length before ≡ n = omega (arith, e) in
      subst (λ old. AreFilled ns ids n (rest_after n rows) old (drop n now)) (sym (drop_all before n end))
      (subst (λ new. AreFilled ns ids n (rest_after n rows) [] new) (sym (drop_all now n (h.long ∙ end))) tt)
  filled_from (suc m) n e =
      let low = h.below n (omega (arith, e)) in
      let rest : AreFilled ns ids (suc n) (rest_after (suc n) rows) (drop (suc n) before) (drop (suc n) now) = filled_from m (suc n) (omega (arith, e)) in
      subst (λ old. AreFilled ns ids n (rest_after n rows) old (drop n now)) (sym (drop_at before n low.old low.was))
      (subst (λ new. AreFilled ns ids n (rest_after n rows) (low.old ∷ drop (suc n) before) new) (sym (drop_at now n low.new low.is))
      (low.filled, subst (λ k. AreFilled ns ids k (rest_of n (rest_after n rows)) (drop (suc n) before) (drop (suc n) now)) (let z : suc n ≡ n + 1 = omega arith in z) rest))

  pub all_filled : AreFilled ns ids 0 rows before now
  all_filled = filled_from (length before) 0 (omega arith)
