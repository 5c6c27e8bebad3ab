-- How many elements of lists pass a test.
use Rattle.std.proofs.Common.{◌≡◌, ℕ, zero, suc, ◌+◌, Bool, true, false, cond, List, [], ◌∷◌, ◌++◌, map, Some, inl, inr, refl, sym, ap, ap₂, ◌∙◌, subst, arith}
use Rattle.std.specs.Prelude.{slice_get, count_by}
use Rattle.std.specs.List.{enumerate_from, flat_map}
use Rattle.std.proofs.lemmas.List.Sums.{sum_by-cons, sum_by-append}
use Rattle.std.proofs.lemmas.Option.{none-some, same_Some}
use Rattle.list_core.specs.Lists.{EachOf, IsIn}
use Rattle.list_core.proofs.Lists.{each_from}
use Rattle.design_core.specs.declared.variant.Signal.{Signal}
use Rattle.names.specs.Known.{Known, with}
use Rattle.check_core.specs.Names.{signal_thing}
use Rattle.check_exec.proofs.Facts.{each_numbered}
use Rattle.check_exec.proofs.Names.{Differ, differs_behind}

pub count_cons : {A : Type 0} (test : A → Bool) (a : A) (list : List A) → count_by test (a ∷ list) ≡ cond (test a) 1 0 + count_by test list
count_cons test a list = sum_by-cons (λ x. cond (test x) 1 0) a list

pub count_joined : {A : Type 0} (test : A → Bool) (a b : List A) → count_by test (a ++ b) ≡ count_by test a + count_by test b
count_joined test a b = sum_by-append (λ x. cond (test x) 1 0) a b

no_more : (n : ℕ) → 0 + n ≡ n
no_more n = omega arith

-- one that does not pass
pub count_skip : {A : Type 0} (test : A → Bool) (a : A) (list : List A) → test a ≡ false → count_by test (a ∷ list) ≡ count_by test list
count_skip test a list e = count_cons test a list ∙ ap (λ b. cond b 1 0 + count_by test list) e ∙ no_more (count_by test list)

pub count_take : {A : Type 0} (test : A → Bool) (a : A) (list : List A) → test a ≡ true → count_by test (a ∷ list) ≡ 1 + count_by test list
count_take test a list e = count_cons test a list ∙ ap (λ b. cond b 1 0 + count_by test list) e

pub count_none : {A : Type 0} (test : A → Bool) (list : List A) → EachOf (λ a. test a ≡ false) list → count_by test list ≡ 0
count_none test [] h = refl
count_none test (a ∷ list) h = count_skip test a list h.0 ∙ count_none test list h.1

pub count_same : {A : Type 0} (p q : A → Bool) (list : List A) → ((a : A) → IsIn a list → p a ≡ q a) → count_by p list ≡ count_by q list
count_same p q [] h = refl
count_same p q (a ∷ list) h =
    count_cons p a list
    ∙ ap₂ (λ b n. cond b 1 0 + n) (h a (inl refl)) (count_same p q list (λ b i. h b (inr i)))
    ∙ sym (count_cons q a list)

pub count_map : {A B : Type 0} (test : B → Bool) (f : A → B) (list : List A) → count_by test (map f list) ≡ count_by (λ a. test (f a)) list
count_map test f [] = refl
count_map test f (a ∷ list) =
    count_cons test (f a) (map f list) ∙ ap (λ n. cond (test (f a)) 1 0 + n) (count_map test f list) ∙ sym (count_cons (λ b. test (f b)) a list)

-- ---- lists of lists

pub flat_none : {A B : Type 0} (test : B → Bool) (f : A → List B) (list : List A) → EachOf (λ a. count_by test (f a) ≡ 0) list → count_by test (flat_map f list) ≡ 0
flat_none test f [] h = refl
flat_none test f (a ∷ list) h = count_joined test (f a) (flat_map f list) ∙ ap₂ (λ m n. m + n) h.0 (flat_none test f list h.1)

crossed : (a b c d : ℕ) → a + b + (c + d) ≡ a + c + (b + d)
crossed a b c d = omega arith

pub flat_both : {A B : Type 0} (test : B → Bool) (f g : A → List B) (list : List A) → count_by test (flat_map (λ a. f a ++ g a) list) ≡ count_by test (flat_map f list) + count_by test (flat_map g list)
flat_both test f g [] = refl
flat_both test f g (a ∷ list) =
    count_joined test (f a ++ g a) (flat_map (λ b. f b ++ g b) list)
    ∙ ap₂ (λ m n. m + n) (count_joined test (f a) (g a)) (flat_both test f g list)
    ∙ crossed (count_by test (f a)) (count_by test (g a)) (count_by test (flat_map f list)) (count_by test (flat_map g list))
    ∙ sym (ap₂ (λ m n. m + n) (count_joined test (f a) (flat_map f list)) (count_joined test (g a) (flat_map g list)))

last_none : (n : ℕ) → n + 0 ≡ n
last_none n = omega arith

-- where only the list of one of numbered elements has such
pub numbered_only : {A B : Type 0} (test : B → Bool) (f : ℕ × A → List B) (n : ℕ) (list : List A) (k : ℕ) (a : A) → slice_get list k ≡ Some a
    → ((j : ℕ) (b : A) → slice_get list j ≡ Some b → (j ≡ k → ⊥) → count_by test (f (n + j, b)) ≡ 0) → count_by test (flat_map f (enumerate_from n list)) ≡ count_by test (f (n + k, a))
numbered_only test f n [] k a e h = absurd (none-some a e)
numbered_only test f n (b ∷ list) zero a e h =
    count_joined test (f (n, b)) (flat_map f (enumerate_from (n + 1) list))
    ∙ ap₂ (λ m p. m + p) (ap₂ (λ m c. count_by test (f (m, c))) (sym (last_none n)) (same_Some b a e))
    (flat_none test f (enumerate_from (n + 1) list) (each_numbered (λ p. count_by test (f p) ≡ 0) (n + 1) list
    (λ j c at. subst (λ m. count_by test (f (m, c)) ≡ 0) (sym (further n j)) (h (suc j) c at (λ g. absurd (omega (arith, g)))))))
    ∙ last_none (count_by test (f (n + 0, a)))
  where
    further : (n j : ℕ) → n + 1 + j ≡ n + suc j
    further n j = omega arith
numbered_only test f n (b ∷ list) (suc k) a e h =
    count_joined test (f (n, b)) (flat_map f (enumerate_from (n + 1) list))
    ∙ ap₂ (λ m p. m + p) (subst (λ m. count_by test (f (m, b)) ≡ 0) (last_none n) (h zero b refl (λ g. absurd (omega (arith, g)))))
    (numbered_only test f (n + 1) list k a e (λ j c at g. subst (λ m. count_by test (f (m, c)) ≡ 0) (sym (further n j)) (h (suc j) c at (λ i. g (omega (arith, i))))))
    ∙ no_more (count_by test (f (n + 1 + k, a)))
    ∙ ap (λ m. count_by test (f (m, a))) (further n k)
  where
    further : (n j : ℕ) → n + 1 + j ≡ n + suc j
    further n j = omega arith

pub only_at : {A B : Type 0} (test : B → Bool) (f : ℕ × A → List B) (list : List A) (k : ℕ) (a : A) → slice_get list k ≡ Some a
    → ((j : ℕ) (b : A) → slice_get list j ≡ Some b → (j ≡ k → ⊥) → count_by test (f (j, b)) ≡ 0) → count_by test (flat_map f (enumerate_from 0 list)) ≡ count_by test (f (k, a))
only_at test f list k a e h =
    numbered_only test f 0 list k a e (λ j b at g. subst (λ m. count_by test (f (m, b)) ≡ 0) (sym (no_more j)) (h j b at g)) ∙ ap (λ m. count_by test (f (m, a))) (no_more k)

-- where only the list of one of signals has such
pub signal_only : {B : Type 0} (test : B → Bool) (f : Signal → List B) (taken : Known) (signals : List Signal) (s : Signal) → Differ taken (map signal_thing signals) → IsIn s signals
    → ((t : Signal) → IsIn t signals → (t.name ≡ s.name → ⊥) → count_by test (f t) ≡ 0) → count_by test (flat_map f signals) ≡ count_by test (f s)
signal_only test f taken [] s d i h = absurd i
signal_only test f taken (t ∷ signals) s d (inl e) h =
    count_joined test (f t) (flat_map f signals)
    ∙ ap₂ (λ m n. m + n) (ap (λ z. count_by test (f z)) (sym e))
    (flat_none test f signals (each_from (λ z. count_by test (f z) ≡ 0) signals (λ z j. h z (inr j) (λ g. differs_behind taken t signals d.1 z j (g ∙ ap (λ (y : Signal). y.name) e)))))
    ∙ last_none (count_by test (f s))
signal_only test f taken (t ∷ signals) s d (inr i) h =
    count_joined test (f t) (flat_map f signals)
    ∙ ap₂ (λ m n. m + n) (h t (inl refl) (λ g. differs_behind taken t signals d.1 s i (sym g))) (signal_only test f (with t.name taken) signals s d.1 i (λ z j g. h z (inr j) g))
    ∙ no_more (count_by test (f s))
