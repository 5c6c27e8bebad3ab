-- The watches that match at a position, as they are counted.
use Rattle.std.proofs.Common.{◌≡◌, ℕ, zero, suc, ◌<◌, ◌/◌, ◌%◌, Bool, true, false, cond, List, [], ◌∷◌, length, map, filter, take, get_or, Some, refl, sym, ap, ◌∙◌, arith, All}
use Rattle.std.specs.Prelude.{slice_get}
use Rattle.std.specs.List.{list_any}
use Rattle.std.proofs.lemmas.List.{length-map}
use Rattle.list_core.specs.Lists.{EachOf}
use Rattle.symtab.specs.declared.parts.TableParts.{TableParts}
use Rattle.trace_core.specs.Samples.{Samples}
use Rattle.trace_world.specs.TraceWorld.{shows_by}
use Rattle.machine_core.specs.Matching.{Watch, fits_watch, watches_at}
use Rattle.site_core.proofs.Told.{told, all_each}
use Rattle.watch.specs.declared.watched.Watched.{Watched}
use Rattle.watch.specs.Changing.{watch_stops}
use Rattle.watch.specs.Watching.{watch_of, IsWatched, matching_at}
use Rattle.watch.proofs.Matches.{one_is}

-- of those that pass a test, the one behind those that pass it before it
pub nth_here : {A B : Type 0} (test : A → Bool) (f : A → B) (xs : List A) (k : ℕ) (x : A) → k < length xs → get_or xs k x ≡ x → test x ≡ true
    → slice_get (map f (filter test xs)) (length (filter test (take k xs))) ≡ Some (f x)
nth_here test f [] k x h e t = absurd (grind (arith, h))
nth_here test f (y ∷ ys) zero x h e t = ap (λ b. slice_get (map f (cond b (y ∷ filter test ys) (filter test ys))) 0) (ap test e ∙ t) ∙ ap (λ z. Some (f z)) e
nth_here test f (y ∷ ys) (suc k) x h e t = by_test (test y) (nth_here test f ys k x (omega (arith, h)) e t)
  where
    by_test : (b : Bool) → slice_get (map f (filter test ys)) (length (filter test (take k ys))) ≡ Some (f x)
        → slice_get (map f (cond b (y ∷ filter test ys) (filter test ys))) (length (cond b (y ∷ filter test (take k ys)) (filter test (take k ys)))) ≡ Some (f x)
    by_test true more = more
    by_test false more = more

numbers_same : (xs : List Watched) → map (λ (a : Watched). a.number) xs ≡ map (λ (watch : Watch). watch.number) (map watch_of xs)
numbers_same [] = refl
numbers_same (a ∷ xs) = ap (λ l. a.number ∷ l) (numbers_same xs)

module _ (parts : TableParts) (s : Samples) (list : List Watched) (own : All (IsWatched parts) list) (c k : ℕ) (inside : c < s.cycles) (below : k < length parts.slots) where
  abbrev fits : Watch → Bool
  fits watch = list_any (λ i. fits_watch (told parts s) c k i watch) ((told parts s).threads c k)

  by_test : (a : Watched) (b : Bool) (xs : List Watched) (ys : List Watch) → map watch_of xs ≡ ys → map watch_of (cond b (a ∷ xs) xs) ≡ cond b (watch_of a ∷ ys) ys
  by_test a true xs ys e = ap (λ l. watch_of a ∷ l) e
  by_test a false xs ys e = e

  each_is : (xs : List Watched) → EachOf (IsWatched parts) xs → map watch_of (filter (watch_stops parts s c k) xs) ≡ watches_at (told parts s) c k (map watch_of xs)
  each_is [] h = refl
  each_is (a ∷ xs) h =
      ap (λ b. map watch_of (cond b (a ∷ filter (watch_stops parts s c k) xs) (filter (watch_stops parts s c k) xs))) (one_is parts s k below c inside a h.0)
      ∙ by_test a (fits (watch_of a)) (filter (watch_stops parts s c k) xs) (watches_at (told parts s) c k (map watch_of xs)) (each_is xs h.1)

  matching_is : map watch_of (filter (watch_stops parts s c k) list) ≡ watches_at (told parts s) c k (map watch_of list)
  matching_is = each_is list (all_each (IsWatched parts) list own)

  pub count_is : length (filter (watch_stops parts s c k) list) ≡ length (watches_at (told parts s) c k (map watch_of list))
  count_is = sym (length-map (filter (watch_stops parts s c k) list) watch_of) ∙ ap (λ (l : List Watch). length l) matching_is

  pub number_is : (i : ℕ) (a : Watched) → i < length list → get_or list i a ≡ a → watch_stops parts s c k a ≡ true
      → slice_get (map (λ (watch : Watch). watch.number) (watches_at (told parts s) c k (map watch_of list))) (length (filter (watch_stops parts s c k) (take i list))) ≡ Some a.number
  number_is i a h e t =
      ap (λ l. slice_get l (length (filter (watch_stops parts s c k) (take i list)))) (ap (map (λ (watch : Watch). watch.number)) (sym matching_is) ∙ sym (numbers_same (filter (watch_stops parts s c k) list)))
      ∙ nth_here (watch_stops parts s c k) (λ (a : Watched). a.number) list i a h e t

-- at a position
pub at_is : (parts : TableParts) (s : Samples) (watches : List Watch) (p : ℕ)
    → watches_at (told parts s) (p / length parts.slots) (p % length parts.slots) watches ≡ matching_at (told parts s) watches p
at_is parts s watches p = ap (λ n. watches_at (told parts s) (p / n) (p % n) watches) (sym (length-map parts.slots (shows_by parts)))
