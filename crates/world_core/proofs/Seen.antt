-- Worlds as they are seen: those that differ in nothing that can be seen are equal, and each differs in nothing from what is seen of it.
use Rattle.std.proofs.Common.{◌≡◌, ℕ, ◌<◌, Bool, true, false, ◌&&◌, ◌||◌, List, [], ◌∷◌, length, Option, Some, None, bytes_eq, nat_lt, if◌then◌else◌, inl, inr, ⊎_elim, refl, sym, ap, ap₂, ◌∙◌, lt-ltb, eq-eqb, true≢false, subst}
use Rattle.std.specs.Prelude.{slice_get, nat_eq}
use Rattle.std.specs.List.{list_any}
use Rattle.std.proofs.lemmas.Bool.{eqb-true, ltb-true}
use Rattle.std.proofs.lemmas.Option.{slice_get_within}
use Rattle.std.proofs.lemmas.Slice.Eq.{bytes_eq-Decides}
use Rattle.exec_core.specs.Block.{Name}
use Rattle.list_core.specs.Lists.{IsIn}
use Rattle.world_core.specs.World.{IsUnset, Shows, Unset, World, IsInScope, HasStatement, AreSame}
use Rattle.world_core.specs.Seen.{has_name, has_instance, seen_status, seen_threads, seen, SameWorldsAreSeenAlike, SeenWorldsAreSame, SeenWorldsKeepTrails}
use Rattle.list_core.proofs.Listing.{either_true, second_true}
use Rattle.world_core.proofs.Trails.{same_trails}

-- ---- tests

both_true : (a b : Bool) → (a && b) ≡ true → (a ≡ true) × (b ≡ true)
both_true true b e = (refl, e)
both_true false b e = absurd (true≢false (sym e))

both : (a b : Bool) → a ≡ true → b ≡ true → (a && b) ≡ true
both true b e f = f
both false b e f = e

first_true : (a b : Bool) → a ≡ true → (a || b) ≡ true
first_true true b e = refl
first_true false b e = absurd (true≢false (sym e))

-- an element is found by a test that holds of it alone
found_in : {A : Type 0} (test : A → Bool) (x : A) → ((y : A) → test y ≡ true → x ≡ y) → (xs : List A) → list_any test xs ≡ true → IsIn x xs
found_in test x only [] e = absurd (true≢false (sym e))
found_in test x only (y ∷ ys) e = ⊎_elim (λ s. inl (only y s)) (λ s. inr (found_in test x only ys s)) (either_true (test y) (list_any test ys) e)

in_found : {A : Type 0} (test : A → Bool) (x : A) → ((y : A) → x ≡ y → test y ≡ true) → (xs : List A) → IsIn x xs → list_any test xs ≡ true
in_found test x holds [] i = absurd i
in_found test x holds (y ∷ ys) (inl e) = first_true (test y) (list_any test ys) (holds y e)
in_found test x holds (y ∷ ys) (inr i) = second_true (test y) (list_any test ys) (in_found test x holds ys i)

number_in : (i : ℕ) (xs : List ℕ) → list_any (nat_eq i) xs ≡ true → IsIn i xs
number_in i xs e = found_in (nat_eq i) i (λ y s. eqb-true i y s) xs e

in_numbers : (i : ℕ) (xs : List ℕ) → IsIn i xs → list_any (nat_eq i) xs ≡ true
in_numbers i xs m = in_found (nat_eq i) i (λ y s. eq-eqb i y s) xs m

name_in : (x : Name) (xs : List Name) → list_any (bytes_eq x) xs ≡ true → IsIn x xs
name_in x xs e = found_in (bytes_eq x) x (λ y s. (bytes_eq-Decides x y).0 s) xs e

in_names : (x : Name) (xs : List Name) → IsIn x xs → list_any (bytes_eq x) xs ≡ true
in_names x xs m = in_found (bytes_eq x) x (λ y s. (bytes_eq-Decides x y).1 s) xs m

-- ---- what is in scope, and what has a statement

scope_told : (w : World) (k : ℕ) (x : Name) → has_name (slice_get w.slots k) x ≡ true → IsInScope w k x
scope_told w k x = by_slot (slice_get w.slots k) refl
  where
    by_slot : (o : Option Shows) → slice_get w.slots k ≡ o → has_name o x ≡ true → IsInScope w k x
    by_slot None at e = absurd (true≢false (sym e))
    by_slot (Some shows) at e = record { shows = shows; slot = at; name = name_in x shows.names e }

told_scope : (w : World) (k : ℕ) (x : Name) → IsInScope w k x → has_name (slice_get w.slots k) x ≡ true
told_scope w k x h = ap (λ o. has_name o x) h.slot ∙ in_names x h.shows.names h.name

statement_told : (w : World) (k i : ℕ) → has_instance (slice_get w.slots k) i ≡ true → HasStatement w k i
statement_told w k i = by_slot (slice_get w.slots k) refl
  where
    by_slot : (o : Option Shows) → slice_get w.slots k ≡ o → has_instance o i ≡ true → HasStatement w k i
    by_slot None at e = absurd (true≢false (sym e))
    by_slot (Some shows) at e = record { shows = shows; slot = at; instance = number_in i shows.instances e }

told_statement : (w : World) (k i : ℕ) → HasStatement w k i → has_instance (slice_get w.slots k) i ≡ true
told_statement w k i h = ap (λ o. has_instance o i) h.slot ∙ in_numbers i h.shows.instances h.instance

-- ---- guarded values

-- where a guard holds what it guards is there
guarded_is : {A : Type 0} (b : Bool) (x y : A) → b ≡ true → (if b then x else y) ≡ x
guarded_is b x y e = ap (λ c. if c then x else y) e

-- guards that are equal guard the same where what they guard is equal when they hold
same_guarded : {A : Type 0} (a b : Bool) (x y z : A) → a ≡ b → (b ≡ true → x ≡ y) → (if a then x else z) ≡ (if b then y else z)
same_guarded a true x y z e h = ap (λ c. if c then x else z) e ∙ h refl
same_guarded a false x y z e h = ap (λ c. if c then x else z) e

-- ---- worlds that are the same are seen alike

module _ (v w : World) (h : AreSame v w) where
  slot_same : (k : ℕ) → slice_get v.slots k ≡ slice_get w.slots k
  slot_same k = ap (λ slots. slice_get slots k) h.slots

  status_seen : (k i : ℕ) (x : Name) → seen_status v k i x ≡ seen_status w k i x
  status_seen k i x =
      same_guarded (has_instance (slice_get v.slots k) i && has_name (slice_get v.slots k) x) (has_instance (slice_get w.slots k) i && has_name (slice_get w.slots k) x) (v.status k i x) (w.status k i x) IsUnset
      (ap (λ o. has_instance o i && has_name o x) (slot_same k))
      (λ e.
      let there = both_true (has_instance (slice_get w.slots k) i) (has_name (slice_get w.slots k) x) e in
      h.status k i x (statement_told w k i there.0) (scope_told w k x there.1))

  threads_seen : (t k : ℕ) → seen_threads v t k ≡ seen_threads w t k
  threads_seen t k =
      same_guarded (nat_lt t v.cycles && nat_lt k (length v.slots)) (nat_lt t w.cycles && nat_lt k (length w.slots)) (v.threads t k) (w.threads t k) []
      (ap₂ (λ (n : ℕ) (slots : List Shows). nat_lt t n && nat_lt k (length slots)) h.cycles h.slots)
      (λ e.
      let there = both_true (nat_lt t w.cycles) (nat_lt k (length w.slots)) e in
      h.threads t k (ltb-true t w.cycles there.0) (ltb-true k (length w.slots) there.1))

  -- a thread that is seen is one, in a cycle that there is
  thread_told : (t k i : ℕ) → IsIn i (seen_threads w t k) → (t < w.cycles) × IsIn i (w.threads t k)
  thread_told t k i = by_test (nat_lt t w.cycles && nat_lt k (length w.slots)) refl
    where
      by_test : (b : Bool) → (nat_lt t w.cycles && nat_lt k (length w.slots)) ≡ b → IsIn i (if b then w.threads t k else []) → (t < w.cycles) × IsIn i (w.threads t k)
      by_test true e m = (ltb-true t w.cycles (both_true (nat_lt t w.cycles) (nat_lt k (length w.slots)) e).0, m)
      by_test false e m = absurd m

  shown_seen : (t k i : ℕ) (x : Name) → (seen v).shown t k i x ≡ (seen w).shown t k i x
  shown_seen t k i x =
      same_guarded (list_any (nat_eq i) (seen_threads v t k) && has_name (slice_get v.slots k) x) (list_any (nat_eq i) (seen_threads w t k) && has_name (slice_get w.slots k) x) (v.shown t k i x) (w.shown t k i x) Unset
      (ap₂ (λ (threads : List ℕ) (o : Option Shows). list_any (nat_eq i) threads && has_name o x) (threads_seen t k) (slot_same k))
      (λ e.
      let there = both_true (list_any (nat_eq i) (seen_threads w t k)) (has_name (slice_get w.slots k) x) e in
      let thread = thread_told t k i (number_in i (seen_threads w t k) there.0) in
      h.shown t k i x thread.0 thread.1 (scope_told w k x there.1))

  alike : seen v ≡ seen w
  alike = (λ j. record {
    cycles = h.cycles j;
    paths = h.paths j;
    slots = h.slots j;
    status = λ k i x. status_seen k i x j;
    threads = λ t k. threads_seen t k j;
    shown = λ t k i x. shown_seen t k i x j;
  })

pub same_worlds_seen_alike : SameWorldsAreSeenAlike
same_worlds_seen_alike = alike

-- ---- what is seen of a world is the same

-- the threads of a statement that there is, in a cycle that there is, are seen
threads_there : (w : World) (t k : ℕ) → t < w.cycles → k < length w.slots → seen_threads w t k ≡ w.threads t k
threads_there w t k inside below =
    guarded_is (nat_lt t w.cycles && nat_lt k (length w.slots)) (w.threads t k) [] (both (nat_lt t w.cycles) (nat_lt k (length w.slots)) (lt-ltb t w.cycles inside) (lt-ltb k (length w.slots) below))

pub seen_worlds_same : SeenWorldsAreSame
seen_worlds_same w = record {
  cycles = refl;
  paths = refl;
  slots = refl;
  status = λ k i x has scope.
      guarded_is (has_instance (slice_get w.slots k) i && has_name (slice_get w.slots k) x) (w.status k i x) IsUnset
      (both (has_instance (slice_get w.slots k) i) (has_name (slice_get w.slots k) x) (told_statement w k i has) (told_scope w k x scope));
  threads = λ t k inside below. threads_there w t k inside below;
  shown = λ t k i x inside thread scope.
      let below = slice_get_within w.slots k scope.shows scope.slot in
      let among : IsIn i (seen_threads w t k) = subst (λ l. IsIn i l) (sym (threads_there w t k inside below)) thread in
      guarded_is (list_any (nat_eq i) (seen_threads w t k) && has_name (slice_get w.slots k) x) (w.shown t k i x) Unset
      (both (list_any (nat_eq i) (seen_threads w t k)) (has_name (slice_get w.slots k) x) (in_numbers i (seen_threads w t k) among) (told_scope w k x scope));
}

pub seen_worlds_keep_trails : SeenWorldsKeepTrails
seen_worlds_keep_trails w = same_trails (seen w) w (seen_worlds_same w)
