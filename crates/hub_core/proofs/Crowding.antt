-- All clients of a hub, when a step is done with one of them.
use Rattle.std.proofs.Common.{◌≡◌, ◌≢◌, ◌<◌, ◌≤◌, ◌+◌, arith, ℕ, zero, suc, Bool, true, false, List, [], ◌∷◌, ◌++◌, Option, None, Some, refl, sym, ◌∙◌, ap, append_assoc, append-nil, length, set, get_or, nat_lt, inl, inr, OnSome, if◌then◌else◌}
use Rattle.std.proofs.lemmas.Bool.Decides.{eqb_tells}
use Rattle.std.proofs.lemmas.Bool.{lt-ltb, le-ltb, ltb-true, ltb-false}
use Rattle.hub_core.specs.declared.client.Client.{Client}
use Rattle.hub_core.specs.declared.line.Line.{Line}
use Rattle.link_edge.specs.Links.{Meaning}
use Rattle.hub_core.specs.HubJournals.{at_client}
use Rattle.hub_core.specs.Clients.{ClientFits, HasPlace, AllFit, AllUsable, lines_to, is_open, open_at}

pub at_self : {A : Type 0} (i : ℕ) (xs : List A) → at_client i i xs ≡ xs
at_self i xs = elim (eqb_tells i i) [
  | inl p ↦ rw p.0 refl
  | inr p ↦ absurd (p.1 refl)
]

pub at_other : {A : Type 0} (i j : ℕ) (xs : List A) → i ≢ j → at_client i j xs ≡ []
at_other i j xs apart = elim (eqb_tells i j) [
  | inl p ↦ absurd (apart p.1)
  | inr p ↦ rw p.0 refl
]

module _ {L : Type 0} (m : L → Meaning) where
  -- only what stands for the numbers of these clients counts
  pub fit_same : (k : ℕ) (asked made asked' made' : ℕ → List (List ℕ)) (starts : List Meaning) (cs : List (Client L)) → AllFit m k asked made starts cs
      → ((j : ℕ) → k ≤ j → j < k + length cs → (asked' j ≡ asked j) × (made' j ≡ made j)) → AllFit m k asked' made' starts cs
  unfolding AllFit
  fit_same k asked made asked' made' [] [] all same = tt
  fit_same k asked made asked' made' (a ∷ starts) (c ∷ cs) all same =
      let here = same k (omega arith) (omega arith) in
      (rw (here.0, here.1) all.0, fit_same (suc k) asked made asked' made' starts cs all.1 (λ j low high. same j (omega (arith, low)) (omega (arith, high))))
  fit_same k asked made asked' made' [] (c ∷ cs) all same = absurd all
  fit_same k asked made asked' made' (a ∷ starts) [] all same = absurd all

  -- one of them took a step
  pub one_fit : (k p : ℕ) (asked made asked' made' : ℕ → List (List ℕ)) (starts : List Meaning) (cs : List (Client L)) (i : ℕ) (x y : Client L) → p ≡ k + i → i < length cs → AllFit m k asked made starts cs
      → ((a : Meaning) → ClientFits a (m (get_or cs i x).outlet.link) (get_or cs i x) (asked p) (made p) → ClientFits a (m y.outlet.link) y (asked' p) (made' p))
      → ((j : ℕ) → p ≢ j → (asked' j ≡ asked j) × (made' j ≡ made j)) → AllFit m k asked' made' starts (set cs i y)
  unfolding AllFit
  one_fit k p asked made asked' made' starts [] i x y at within all step same = absurd (omega (arith, within))
  one_fit k p asked made asked' made' [] (c ∷ cs) i x y at within all step same = absurd all
  one_fit k p asked made asked' made' (a ∷ starts) (c ∷ cs) zero x y at within all step same =
      let here : p ≡ k = omega (arith, at) in (
        rw here at (step a (rw here all.0)),
        fit_same (suc k) asked made asked' made' starts cs all.1 (λ j low high. same j (λ e. absurd (omega (arith, low, here, e)))),
      )
  one_fit k p asked made asked' made' (a ∷ starts) (c ∷ cs) (suc i) x y at within all step same =
      let here = same k (λ e. absurd (omega (arith, at, e))) in
      (rw (here.0, here.1) all.0, one_fit (suc k) p asked made asked' made' starts cs i x y (omega (arith, at)) (omega (arith, within)) all.1 step same)

  -- one of them changed, but for what was asked and made
  pub kept_at : (asked made : ℕ → List (List ℕ)) (starts : List Meaning) (cs : List (Client L)) (i : ℕ) (x y : Client L) → i < length cs → AllFit m 0 asked made starts cs
      → ((a : Meaning) (qs ls : List (List ℕ)) → ClientFits a (m (get_or cs i x).outlet.link) (get_or cs i x) qs ls → ClientFits a (m y.outlet.link) y qs ls)
      → AllFit m 0 asked made starts (set cs i y)
  kept_at asked made starts cs i x y within all step = one_fit 0 i asked made asked made starts cs i x y (omega arith) within all (λ a was. step a (asked i) (made i) was) (λ j apart. (refl, refl))

  pub opened : (cs : List (Client L)) (i : ℕ) (y : Client L) → i < length cs → y.outlet.over ≡ None → open_at i (set cs i y) ≡ true
  unfolding open_at
  opened [] i y within free = absurd (omega (arith, within))
  opened (c ∷ cs) zero y within free = ap is_open free
  opened (c ∷ cs) (suc i) y within free = opened cs i y (omega (arith, within)) free

  pub opened_on : (answer : Option (List ℕ)) (cs : List (Client L)) (i : ℕ) (y : Client L) → i < length cs → OnSome answer (y.outlet.over ≡ None) → OnSome answer (open_at i (set cs i y) ≡ true)
  opened_on None cs i y within free = tt
  opened_on (Some x) cs i y within free = opened cs i y within free

  pub is_free : (cs : List (Client L)) (i : ℕ) (x : Client L) → open_at i cs ≡ true → (get_or cs i x).outlet.over ≡ None
  unfolding open_at
  is_free [] i x e = absurd (let bad : false ≡ true = e in cc)
  is_free (c ∷ cs) zero x e = free c.outlet.over e
    where
      free : (over : Option _) → is_open over ≡ true → over ≡ None
      free None e = refl
      free (Some cause) e = absurd (let bad : false ≡ true = e in cc)
  is_free (c ∷ cs) (suc i) x e = is_free cs i x e

  -- a message of one was read
  pub polled_at : (asked made : ℕ → List (List ℕ)) (starts : List Meaning) (cs : List (Client L)) (i : ℕ) (x y : Client L) (xs : List (List ℕ)) → i < length cs → AllFit m 0 asked made starts cs
      → ((a : Meaning) (qs ls : List (List ℕ)) → ClientFits a (m (get_or cs i x).outlet.link) (get_or cs i x) qs ls → ClientFits a (m y.outlet.link) y (qs ++ xs) ls)
      → AllFit m 0 (λ j. asked j ++ at_client i j xs) made starts (set cs i y)
  polled_at asked made starts cs i x y xs within all step =
      one_fit 0 i asked made (λ j. asked j ++ at_client i j xs) made starts cs i x y (omega arith) within all
      (λ a was. rw (at_self i xs) (step a (asked i) (made i) was))
      (λ j apart. (ap (λ l. asked j ++ l) (at_other i j xs apart) ∙ append-nil (asked j), refl))

  -- a message of one is not applied
  pub starved_at : (asked made : ℕ → List (List ℕ)) (starts : List Meaning) (cs : List (Client L)) (i : ℕ) (x y : Client L) (xs : List (List ℕ)) → i < length cs → AllFit m 0 (λ j. asked j ++ at_client i j xs) made starts cs
      → ((a : Meaning) (qs ls : List (List ℕ)) → ClientFits a (m (get_or cs i x).outlet.link) (get_or cs i x) (qs ++ xs) ls → ClientFits a (m y.outlet.link) y qs ls)
      → AllFit m 0 asked made starts (set cs i y)
  starved_at asked made starts cs i x y xs within all step =
      one_fit 0 i (λ j. asked j ++ at_client i j xs) made asked made starts cs i x y (omega arith) within all
      (λ a was. step a (asked i) (made i) (rw (at_self i xs) at was))
      (λ j apart. (sym (ap (λ l. asked j ++ l) (at_other i j xs apart) ∙ append-nil (asked j)), refl))

  -- lines were made for one
  pub told_at : (asked made more : ℕ → List (List ℕ)) (starts : List Meaning) (cs : List (Client L)) (i : ℕ) (x y : Client L) → i < length cs → AllFit m 0 asked made starts cs
      → ((a : Meaning) (qs ls : List (List ℕ)) → ClientFits a (m (get_or cs i x).outlet.link) (get_or cs i x) qs ls → ClientFits a (m y.outlet.link) y qs (ls ++ more i))
      → AllFit m 0 asked (λ j. made j ++ at_client i j (more j)) starts (set cs i y)
  told_at asked made more starts cs i x y within all step =
      one_fit 0 i asked made asked (λ j. made j ++ at_client i j (more j)) starts cs i x y (omega arith) within all
      (λ a was. rw (at_self i (more i)) (step a (asked i) (made i) was))
      (λ j apart. (refl, ap (λ l. made j ++ l) (at_other i j (more j) apart) ∙ append-nil (made j)))

  -- lines were made for none of them
  pub told_none : (asked made more : ℕ → List (List ℕ)) (starts : List Meaning) (cs : List (Client L)) (i : ℕ) → length cs ≤ i → AllFit m 0 asked made starts cs
      → AllFit m 0 asked (λ j. made j ++ at_client i j (more j)) starts cs
  told_none asked made more starts cs i past all =
      fit_same 0 asked made asked (λ j. made j ++ at_client i j (more j)) starts cs all
      (λ j low high. (refl, ap (λ l. made j ++ l) (at_other i j (more j) (λ e. absurd (omega (arith, past, high, e)))) ∙ append-nil (made j)))

-- ---- lines

pub lines_append : (k : ℕ) (xs ys : List Line) → lines_to k (xs ++ ys) ≡ lines_to k xs ++ lines_to k ys
unfolding lines_to
lines_append k [] ys = refl
lines_append k (x ∷ xs) ys = ap (λ l. at_client x.client k (x.text ∷ []) ++ l) (lines_append k xs ys) ∙ sym (append_assoc (at_client x.client k (x.text ∷ [])) (lines_to k xs) (lines_to k ys))

pub lines_one : (k : ℕ) (x : Line) → lines_to k (x ∷ []) ≡ at_client x.client k (x.text ∷ [])
unfolding lines_to
lines_one k x = append-nil (at_client x.client k (x.text ∷ []))

pub lines_none : (k : ℕ) → lines_to k [] ≡ []
unfolding lines_to
lines_none k = refl

-- ---- below a number

abbrev pub at_below : ℕ → ℕ → List (List ℕ) → List (List ℕ)
at_below n k xs = if nat_lt k n then xs else []

below_all : (n k : ℕ) (xs : List (List ℕ)) → k < n → at_below n k xs ≡ xs
below_all n k xs within = rw (lt-ltb k n within) refl

below_none : (n k : ℕ) (xs : List (List ℕ)) → n ≤ k → at_below n k xs ≡ []
below_none n k xs past = rw (le-ltb k n past) refl

below_same : (i j : ℕ) (xs : List (List ℕ)) → i ≢ j → at_below (i + 1) j xs ≡ at_below i j xs
below_same i j xs apart = by (nat_lt j i) refl
  where
    by : (b : Bool) → nat_lt j i ≡ b → at_below (i + 1) j xs ≡ at_below i j xs
    by true e = let low = ltb-true j i e in below_all (i + 1) j xs (omega (arith, low)) ∙ sym (below_all i j xs low)
    by false e =
        let high = ltb-false j i e in
        let above : i + 1 ≤ j = omega (arith, high, apart) in
        below_none (i + 1) j xs above ∙ sym (below_none i j xs high)

module _ {L : Type 0} (m : L → Meaning) where
  -- memory ran out for one more
  pub lost_more : (asked made more : ℕ → List (List ℕ)) (starts : List Meaning) (cs : List (Client L)) (i : ℕ) (x y : Client L) → i < length cs → AllFit m 0 asked (λ j. made j ++ at_below i j (more j)) starts cs
      → ((a : Meaning) (qs ls more : List (List ℕ)) → ClientFits a (m (get_or cs i x).outlet.link) (get_or cs i x) qs ls → ClientFits a (m y.outlet.link) y qs (ls ++ more))
      → AllFit m 0 asked (λ j. made j ++ at_below (i + 1) j (more j)) starts (set cs i y)
  lost_more asked made more starts cs i x y within all step =
      one_fit m 0 i asked (λ j. made j ++ at_below i j (more j)) asked (λ j. made j ++ at_below (i + 1) j (more j)) starts cs i x y (omega arith) within all
      (λ a was.
      let before : made i ++ at_below i i (more i) ≡ made i = ap (λ l. made i ++ l) (below_none i i (more i) (omega arith)) ∙ append-nil (made i) in
      rw (below_all (i + 1) i (more i) (omega arith)) (step a (asked i) (made i) (more i) (rw before at was)))
      (λ j apart. (refl, ap (λ l. made j ++ l) (below_same i j (more j) apart)))

  pub lost_none : (asked made more : ℕ → List (List ℕ)) (starts : List Meaning) (cs : List (Client L)) → AllFit m 0 asked made starts cs → AllFit m 0 asked (λ j. made j ++ at_below 0 j (more j)) starts cs
  lost_none asked made more starts cs all =
      fit_same m 0 asked made asked (λ j. made j ++ at_below 0 j (more j)) starts cs all (λ j low high. (refl, ap (λ l. made j ++ l) (below_none 0 j (more j) (omega arith)) ∙ append-nil (made j)))

  pub lost_all : (asked made more : ℕ → List (List ℕ)) (starts : List Meaning) (cs : List (Client L)) (i : ℕ) → length cs ≤ i → AllFit m 0 asked (λ j. made j ++ at_below i j (more j)) starts cs → AllFit m 0 asked (λ j. made j ++ more j) starts cs
  lost_all asked made more starts cs i past all =
      fit_same m 0 asked (λ j. made j ++ at_below i j (more j)) asked (λ j. made j ++ more j) starts cs all
      (λ j low high. (refl, ap (λ l. made j ++ l) (sym (below_all i j (more j) (omega (arith, past, high))))))

  -- ---- lines in a loop

  pub told_start : (asked made : ℕ → List (List ℕ)) (starts : List Meaning) (cs : List (Client L)) → AllFit m 0 asked made starts cs → AllFit m 0 asked (λ j. made j ++ lines_to j []) starts cs
  told_start asked made starts cs all =
      fit_same m 0 asked made asked (λ j. made j ++ lines_to j []) starts cs all (λ j low high. (refl, ap (λ l. made j ++ l) (lines_none j) ∙ append-nil (made j)))

  pub told_more : (asked made : ℕ → List (List ℕ)) (starts : List Meaning) (cs : List (Client L)) (lines : List Line) (x : Line)
      → AllFit m 0 asked (λ j. (made j ++ lines_to j lines) ++ at_client x.client j (x.text ∷ [])) starts cs → AllFit m 0 asked (λ j. made j ++ lines_to j (lines ++ x ∷ [])) starts cs
  told_more asked made starts cs lines x all =
      fit_same m 0 asked (λ j. (made j ++ lines_to j lines) ++ at_client x.client j (x.text ∷ [])) asked (λ j. made j ++ lines_to j (lines ++ x ∷ [])) starts cs all
      (λ j low high. (refl, sym (append_assoc (made j) (lines_to j lines) (at_client x.client j (x.text ∷ [])) ∙ ap (λ l. made j ++ l) (sym (lines_append j lines (x ∷ []) ∙ ap (λ l. lines_to j lines ++ l) (lines_one j x))))))

  -- ---- new clients

  pub fresh_none : (cs : List (Client L)) → cs ≡ [] → AllFit m 0 (λ j. []) (λ j. []) [] cs
  unfolding AllFit
  fresh_none [] e = tt
  fresh_none (c ∷ cs) e = absurd (let bad : c ∷ cs ≡ [] = e in cc)

  pub fresh_more : (k : ℕ) (starts : List Meaning) (cs : List (Client L)) (s : Meaning) (x : Client L) → AllFit m k (λ j. []) (λ j. []) starts cs → ClientFits s (m x.outlet.link) x [] [] → AllFit m k (λ j. []) (λ j. []) (starts ++ s ∷ []) (cs ++ x ∷ [])
  unfolding AllFit
  fresh_more k [] [] s x all fit = (fit, tt)
  fresh_more k (a ∷ starts) (c ∷ cs) s x all fit = (all.0, fresh_more (suc k) starts cs s x all.1 fit)
  fresh_more k [] (c ∷ cs) s x all fit = absurd all
  fresh_more k (a ∷ starts) [] s x all fit = absurd all

  -- ---- use

  pub usable_at : (cs : List (Client L)) (i : ℕ) (x : Client L) → i < length cs → AllUsable m cs → HasPlace (get_or cs i x) × ((m (get_or cs i x).outlet.link).shut ≡ false)
  unfolding AllUsable
  usable_at [] i x within all = absurd (omega (arith, within))
  usable_at (c ∷ cs) zero x within all = (all.0, all.1)
  usable_at (c ∷ cs) (suc i) x within all = usable_at cs i x (omega (arith, within)) all.2

  pub usable_set : (cs : List (Client L)) (i : ℕ) (y : Client L) → i < length cs → AllUsable m cs → HasPlace y → (m y.outlet.link).shut ≡ false → AllUsable m (set cs i y)
  unfolding AllUsable
  usable_set [] i y within all place open_still = absurd (omega (arith, within))
  usable_set (c ∷ cs) zero y within all place open_still = (place, open_still, all.2)
  usable_set (c ∷ cs) (suc i) y within all place open_still = (all.0, all.1, usable_set cs i y (omega (arith, within)) all.2 place open_still)

  pub usable_more : (cs : List (Client L)) (x : Client L) → AllUsable m cs → HasPlace x → (m x.outlet.link).shut ≡ false → AllUsable m (cs ++ x ∷ [])
  unfolding AllUsable
  usable_more [] x all place open_still = (place, open_still, tt)
  usable_more (c ∷ cs) x all place open_still = (all.0, all.1, usable_more cs x all.2 place open_still)

  pub usable_none : (cs : List (Client L)) → cs ≡ [] → AllUsable m cs
  unfolding AllUsable
  usable_none [] e = tt
  usable_none (c ∷ cs) e = absurd (let bad : c ∷ cs ≡ [] = e in cc)
