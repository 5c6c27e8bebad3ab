-- Lists of breakpoints from which one is taken.
use Rattle.std.proofs.Common.{◌≡◌, ℕ, ◌+◌, ◌==◌, ◌||◌, Bool, true, false, cond, not, List, [], ◌∷◌, ◌++◌, map, filter, refl, sym, ap, ◌∙◌, subst}
use Rattle.std.specs.List.{list_any}
use Rattle.machine_core.specs.Matching.{Breakpoint}
use Rattle.machine_core.specs.Machine.{has_number}
use Rattle.slot_sched.specs.declared.armed.Armed.{Armed}
use Rattle.machine_core.specs.Numbers.{AreRising}
use Rattle.machine_core.proofs.Numbers.{rising_more}
use Rattle.slot_sched.specs.Armed.{breakpoint_of}

abbrev pub others : ℕ → Armed → Bool
others bp a = not (a.number == bp)

pub others_mapped : (bp : ℕ) (armed : List Armed) → map breakpoint_of (filter (others bp) armed) ≡ filter (λ b. not (has_number bp b)) (map breakpoint_of armed)
others_mapped bp [] = refl
others_mapped bp (a ∷ armed) = by_test (others bp a) _ _ (others_mapped bp armed)
  where
    by_test : (b : Bool) (xs : List Armed) (ys : List Breakpoint) → map breakpoint_of xs ≡ ys → map breakpoint_of (cond b (a ∷ xs) xs) ≡ cond b (breakpoint_of a ∷ ys) ys
    by_test true xs ys e = ap (λ l. breakpoint_of a ∷ l) e
    by_test false xs ys e = e

pub all_others : (bp : ℕ) (bs : List Breakpoint) → list_any (has_number bp) bs ≡ false → filter (λ b. not (has_number bp b)) bs ≡ bs
all_others bp [] e = refl
all_others bp (b ∷ bs) e = by_test (has_number bp b) (list_any (has_number bp) bs) e (filter (λ c. not (has_number bp c)) bs) (all_others bp bs)
  where
    by_test : (t rest : Bool) → (t || rest) ≡ false → (xs : List Breakpoint) → (rest ≡ false → xs ≡ bs) → cond (not t) (b ∷ xs) xs ≡ b ∷ bs
    by_test true rest e xs h = cc
    by_test false rest e xs h = ap (λ l. b ∷ l) (h e)

-- ---- rising numbers

numbers_more : (armed : List Armed) (a : Armed) → map (λ b. b.number) (map breakpoint_of (armed ++ a ∷ [])) ≡ map (λ b. b.number) (map breakpoint_of armed) ++ a.number ∷ []
numbers_more [] a = refl
numbers_more (other ∷ armed) a = ap (λ l. other.number ∷ l) (numbers_more armed a)

-- one breakpoint more, under the next number
pub order_more : (armed items : List Armed) (a : Armed) (given : ℕ) → items ≡ armed ++ a ∷ [] → a.number ≡ given + 1 → AreRising 1 (map (λ b. b.number) (map breakpoint_of armed)) (given + 1)
    → AreRising 1 (map (λ b. b.number) (map breakpoint_of items)) (given + 1 + 1)
order_more armed items a given e n h =
    subst (λ (l : List ℕ). AreRising 1 l (given + 1 + 1))
    (sym (ap (λ (l : List Armed). map (λ b. b.number) (map breakpoint_of l)) e ∙ numbers_more armed a ∙ ap (λ (m : ℕ). map (λ b. b.number) (map breakpoint_of armed) ++ m ∷ []) n))
    (rising_more 1 (map (λ b. b.number) (map breakpoint_of armed)) (given + 1) h)
