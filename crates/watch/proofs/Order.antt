-- Lists of watches, to which one is added and from which one is taken.
use Rattle.std.proofs.Common.{◌≡◌, ℕ, ◌+◌, ◌==◌, ◌||◌, Bool, true, false, cond, not, List, [], ◌∷◌, ◌++◌, map, filter, refl, sym, ap, ◌∙◌, subst}
use Rattle.std.specs.List.{list_any}
use Rattle.machine_core.specs.Matching.{Watch}
use Rattle.machine_core.specs.Machine.{is_watch}
use Rattle.machine_core.specs.Numbers.{AreRising}
use Rattle.machine_core.proofs.Numbers.{rising_more}
use Rattle.watch.specs.declared.watched.Watched.{Watched}
use Rattle.watch.specs.Watching.{watch_of}

abbrev pub others : ℕ → Watched → Bool
others wp a = not (a.number == wp)

pub others_mapped : (wp : ℕ) (list : List Watched) → map watch_of (filter (others wp) list) ≡ filter (λ watch. not (is_watch wp watch)) (map watch_of list)
others_mapped wp [] = refl
others_mapped wp (a ∷ list) = by_test (others wp a) _ _ (others_mapped wp list)
  where
    by_test : (b : Bool) (xs : List Watched) (ys : List Watch) → map watch_of xs ≡ ys → map watch_of (cond b (a ∷ xs) xs) ≡ cond b (watch_of a ∷ ys) ys
    by_test true xs ys e = ap (λ l. watch_of a ∷ l) e
    by_test false xs ys e = e

pub all_others : (wp : ℕ) (watches : List Watch) → list_any (is_watch wp) watches ≡ false → filter (λ watch. not (is_watch wp watch)) watches ≡ watches
all_others wp [] e = refl
all_others wp (watch ∷ watches) e = by_test (is_watch wp watch) (list_any (is_watch wp) watches) e (filter (λ c. not (is_watch wp c)) watches) (all_others wp watches)
  where
    by_test : (t rest : Bool) → (t || rest) ≡ false → (xs : List Watch) → (rest ≡ false → xs ≡ watches) → cond (not t) (watch ∷ xs) xs ≡ watch ∷ watches
    by_test true rest e xs h = cc
    by_test false rest e xs h = ap (λ l. watch ∷ l) (h e)

-- ---- rising numbers

numbers_more : (list : List Watched) (a : Watched)
    → map (λ (watch : Watch). watch.number) (map watch_of (list ++ a ∷ [])) ≡ map (λ (watch : Watch). watch.number) (map watch_of list) ++ a.number ∷ []
numbers_more [] a = refl
numbers_more (other ∷ list) a = ap (λ l. other.number ∷ l) (numbers_more list a)

-- one watch more, under the next number
pub order_more : (list items : List Watched) (a : Watched) (given : ℕ) → items ≡ list ++ a ∷ [] → a.number ≡ given + 1
    → AreRising 1 (map (λ (watch : Watch). watch.number) (map watch_of list)) (given + 1) → AreRising 1 (map (λ (watch : Watch). watch.number) (map watch_of items)) (given + 1 + 1)
order_more list items a given e n h =
    subst (λ (l : List ℕ). AreRising 1 l (given + 1 + 1))
    (sym (ap (λ (l : List Watched). map (λ (watch : Watch). watch.number) (map watch_of l)) e ∙ numbers_more list a
    ∙ ap (λ (m : ℕ). map (λ (watch : Watch). watch.number) (map watch_of list) ++ m ∷ []) n))
    (rising_more 1 (map (λ (watch : Watch). watch.number) (map watch_of list)) (given + 1) h)
