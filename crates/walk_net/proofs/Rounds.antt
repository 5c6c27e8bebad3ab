-- The walk by places is the walk in rounds.
use Rattle.std.proofs.Common.{◌≡◌, ℕ, zero, suc, ◌+◌, ◌<◌, ◌≤◌, Bool, true, false, ◌||◌, List, [], ◌∷◌, ◌++◌, length, Option, Some, None, if◌then◌else◌, inl, inr, ⊎_elim, refl, sym, ap, ◌∙◌, subst, arith, append_assoc, append-nil, length-append}
use Rattle.std.proofs.Math.Seq.{get_or-append_seam}
use Rattle.tree_core.specs.Tree.{Const, Leaf, One, Two, Mux, Origin, Whole}
use Rattle.tree_core.specs.Fold.{same_origin}
use Rattle.tree_core.proofs.Same.{same_origin-sound, same_origin-refl}
use Rattle.list_core.specs.Lists.{IsIn, IsNotIn, AreApart}
use Rattle.exec_core.specs.Design.{or_else}
use Rattle.exec_core.specs.Kept.{walk, was_walked, waits, pending, go_on, rounds}
use Rattle.list_core.proofs.Lists.{in_left, in_right, apart_split, not_in}
use Rattle.list_core.proofs.Listing.{no_more}
use Rattle.net_core.specs.Nodes.{tree_at}
use Rattle.walk_net.specs.Next.{next_tree, HasEach}
use Rattle.walk_net.specs.Registers.{Ends, ended, passed, walked}
use Rattle.walk_net.proofs.Walking.{or_left, or_right, or_split, GoesOn, same_list, further, walk_grows}

-- ---- registers whose next-value tree was walked

walked_in : (o : Origin) (done : List Origin) → was_walked o done ≡ true → IsIn o done
walked_in o [] e = cc
walked_in o (x ∷ xs) e = ⊎_elim (λ s. inl (same_origin-sound o x s)) (λ s. inr (walked_in o xs s)) (or_split (same_origin o x) (was_walked o xs) e)

different : (o : Origin) → same_origin o o ≡ false → ⊥
different o f = let g : same_origin o o ≡ true = same_origin-refl o in cc

both_off : (a b : Bool) → (a || b) ≡ false → (a ≡ false) × (b ≡ false)
both_off true b e = cc
both_off false b e = (refl, e)

not_walked : (o : Origin) (done : List Origin) → was_walked o done ≡ false → IsNotIn o done
not_walked o [] e = tt
not_walked o (x ∷ xs) e =
    let b = both_off (same_origin o x) (was_walked o xs) e in
    (λ s. different o (subst (λ y. same_origin o y ≡ false) s b.0), not_walked o xs b.1)

to_bool : (b : Bool) → (b ≡ true → ⊥) → b ≡ false
to_bool true f = absurd (f refl)
to_bool false f = refl

module _ (next : Origin → Option Whole) where
  -- ---- what waits in two parts of a list

  or_assoc : {A : Type 0} (a b c : Option A) → or_else a (or_else b c) ≡ or_else (or_else a b) c
  or_assoc None b c = refl
  or_assoc (Some x) b c = refl

  pending_append : (done : List Origin) (ts us : List Whole) → pending next done (ts ++ us) ≡ or_else (pending next done ts) (pending next done us)
  pending_append done [] us = refl
  pending_append done (Leaf o ∷ ts) us = ap (or_else (waits o (next o) done)) (pending_append done ts us) ∙ or_assoc (waits o (next o) done) (pending next done ts) (pending next done us)
  pending_append done (Const b ∷ ts) us = pending_append done ts us
  pending_append done (One op a ∷ ts) us = pending_append done ts us
  pending_append done (Two op a b ∷ ts) us = pending_append done ts us
  pending_append done (Mux c a b ∷ ts) us = pending_append done ts us

  no_wait : (t : Whole) (done : List Origin) → next_tree next t ≡ None → pending next done (t ∷ []) ≡ None
  no_wait (Const b) done e = refl
  no_wait (Leaf o) done e = ap (λ n. or_else (waits o n done) None) e
  no_wait (One op a) done e = refl
  no_wait (Two op a b) done e = refl
  no_wait (Mux c a b) done e = refl

  waits_when : (o : Origin) (t : Whole) (done : List Origin) (b : Bool) → was_walked o done ≡ b → waits o (Some t) done ≡ (if b then None else Some (o, t))
  waits_when o t done b e = ap (λ c. if c then None else Some (o, t)) e

  both_none : {A : Type 0} (a b : Option A) → or_else a b ≡ None → (a ≡ None) × (b ≡ None)
  both_none None b e = (refl, e)
  both_none (Some x) b e = cc

  -- a register more that was walked makes none wait
  fewer_at : (x o : Origin) (n : Option Whole) (done : List Origin) → waits o n done ≡ None → waits o n (x ∷ done) ≡ None
  fewer_at x o None done e = refl
  fewer_at x o (Some t) done e = at_test (was_walked o done) refl
    where
      at_test : (b : Bool) → was_walked o done ≡ b → waits o (Some t) (x ∷ done) ≡ None
      at_test true s = waits_when o t (x ∷ done) true (or_right (same_origin o x) (was_walked o done) s)
      at_test false s = let f = sym (waits_when o t done false s) ∙ e in cc

  fewer : (x : Origin) (done : List Origin) (ts : List Whole) → pending next done ts ≡ None → pending next (x ∷ done) ts ≡ None
  fewer x done [] e = refl
  fewer x done (Leaf o ∷ ts) e =
      let b = both_none (waits o (next o) done) (pending next done ts) e in
      ap (λ w. or_else w (pending next (x ∷ done) ts)) (fewer_at x o (next o) done b.0) ∙ fewer x done ts b.1
  fewer x done (Const b ∷ ts) e = fewer x done ts e
  fewer x done (One op a ∷ ts) e = fewer x done ts e
  fewer x done (Two op a b ∷ ts) e = fewer x done ts e
  fewer x done (Mux c a b ∷ ts) e = fewer x done ts e

  -- ---- the list only grows

  pub grows : {k : ℕ} {ts us : List Whole} → Ends next k ts us → GoesOn ts us
  grows (ended k ts l) = same_list ts
  grows (passed k ts us l e h) = grows h
  grows (walked k ts us t l e h) = further (walk_grows t ts) (grows h)

  none_left : (n : ℕ) (done : List Origin) (ts : List Whole) → pending next done ts ≡ None → rounds next n done ts ≡ ts
  none_left zero done ts e = refl
  none_left (suc n) done ts e = ap (λ p. go_on (λ done ts. rounds next n done ts) p done ts) e

  module _ (registers : List Origin) (among : HasEach next registers) where
    -- enough rounds are left, and those that were made were of registers that differ
    record Left (n : ℕ) (done : List Origin) : Type 0 where
      differ : AreApart done
      of_registers : (o : Origin) → IsIn o done → IsIn o registers
      enough : length registers ≤ n + length done

    -- with the registers of a front done, the rounds give this
    abbrev Meets : ℕ → List Whole → List Whole → Type 0
    Meets k ts us =
        (front back : List Whole) → ts ≡ front ++ back → length front ≡ k → (done : List Origin) → pending next done front ≡ None → ((o : Origin) → IsIn o done → IsIn (Leaf o) front) →
        (n : ℕ) → Left n done → rounds next n done ts ≡ us

    no_back : (ts front back : List Whole) (k : ℕ) → ts ≡ front ++ back → length front ≡ k → length ts ≤ k → ts ≡ front
    no_back ts front [] k e f l = e ∙ append-nil front
    no_back ts front (x ∷ xs) k e f l = absurd (omega (arith, ap length e, length-append front (x ∷ xs), f, l))

    too_far : (ts front : List Whole) (k : ℕ) → ts ≡ front ++ [] → length front ≡ k → k < length ts → ⊥
    too_far ts front k e f l = let g : length ts ≡ length front = ap length (e ∙ append-nil front) in omega (arith, f, g, l)

    here : (ts front back : List Whole) (x : Whole) (k : ℕ) → ts ≡ front ++ x ∷ back → length front ≡ k → tree_at ts k ≡ x
    here ts front back x k e f =
        ap (λ us. tree_at us k) e ∙ ap (tree_at (front ++ x ∷ back)) (sym f) ∙ get_or-append_seam front x back (Const (record { width = 1; value = 0 }))

    moved : (ts front back : List Whole) (x : Whole) → ts ≡ front ++ x ∷ back → ts ≡ (front ++ x ∷ []) ++ back
    moved ts front back x e = e ∙ sym (append_assoc front (x ∷ []) back)

    one_more : (front : List Whole) (x : Whole) (k : ℕ) → length front ≡ k → length (front ++ x ∷ []) ≡ k + 1
    one_more front x k f = length-append front (x ∷ []) ∙ ap (λ n. n + 1) f

    ended_meets : (k : ℕ) (ts : List Whole) → length ts ≤ k → Meets k ts ts
    ended_meets k ts l front back e f done p i n left =
        none_left n done ts (ap (pending next done) (no_back ts front back k e f l) ∙ p)

    passed_meets : (k : ℕ) (ts us : List Whole) → k < length ts → next_tree next (tree_at ts k) ≡ None → Meets (k + 1) ts us → Meets k ts us
    passed_meets k ts us l e h front [] same f done p i n left = absurd (too_far ts front k same f l)
    passed_meets k ts us l e h front (x ∷ back) same f done p i n left =
        let x_is = here ts front back x k same f in
        h (front ++ x ∷ []) back (moved ts front back x same) (one_more front x k f) done
        (pending_append done front (x ∷ []) ∙ ap (λ w. or_else w (pending next done (x ∷ []))) p ∙ no_wait x done (ap (next_tree next) (sym x_is) ∙ e))
        (λ o m. in_left (Leaf o) front (x ∷ []) (i o m)) n left

    record IsRegister (x t : Whole) : Type 0 where
      origin : Origin
      leaf : x ≡ Leaf origin
      next_is : next origin ≡ Some t

    register : (x t : Whole) → next_tree next x ≡ Some t → IsRegister x t
    register (Const b) t e = cc
    register (Leaf o) t e = record { origin = o; leaf = refl; next_is = e }
    register (One op a) t e = cc
    register (Two op a b) t e = cc
    register (Mux c a b) t e = cc

    -- a register behind the front was not walked
    new_register : (us front back : List Whole) (o : Origin) (done : List Origin) → AreApart us → GoesOn (front ++ Leaf o ∷ back) us → ((q : Origin) → IsIn q done → IsIn (Leaf q) front) → was_walked o done ≡ false
    new_register us front back o done a g i =
        to_bool (was_walked o done) (λ w.
        let parts = apart_split (front ++ Leaf o ∷ back) g.more (subst AreApart g.is a) in
        let split = apart_split front (Leaf o ∷ back) parts.left in
        not_in (Leaf o) (Leaf o ∷ back) (split.not_right (Leaf o) (i o (walked_in o done w))) (inl refl))

    waits_first : (front back : List Whole) (o : Origin) (t : Whole) (done : List Origin) → pending next done front ≡ None → next o ≡ Some t → was_walked o done ≡ false → pending next done (front ++ Leaf o ∷ back) ≡ Some (o, t)
    waits_first front back o t done p e w =
        pending_append done front (Leaf o ∷ back)
        ∙ ap (λ v. or_else v (pending next done (Leaf o ∷ back))) p
        ∙ ap (λ v. or_else (waits o v done) (pending next done back)) e
        ∙ ap (λ v. or_else v (pending next done back)) (waits_when o t done false w)

    walked_last : (front : List Whole) (o : Origin) (t : Whole) (done : List Origin) → pending next done front ≡ None → next o ≡ Some t → pending next (o ∷ done) (front ++ Leaf o ∷ []) ≡ None
    walked_last front o t done p e =
        pending_append (o ∷ done) front (Leaf o ∷ [])
        ∙ ap (λ v. or_else v (pending next (o ∷ done) (Leaf o ∷ []))) (fewer o done front p)
        ∙ ap (λ v. or_else (waits o v (o ∷ done)) None) e
        ∙ ap (λ v. or_else v None) (waits_when o t (o ∷ done) true (or_left (same_origin o o) (was_walked o done) (same_origin-refl o)))

    in_front : (front : List Whole) (o : Origin) (done : List Origin) → ((q : Origin) → IsIn q done → IsIn (Leaf q) front) → (q : Origin) → IsIn q (o ∷ done) → IsIn (Leaf q) (front ++ Leaf o ∷ [])
    in_front front o done i q (inl e) = in_right (Leaf q) front (Leaf o ∷ []) (inl (ap Leaf e))
    in_front front o done i q (inr m) = in_left (Leaf q) front (Leaf o ∷ []) (i q m)

    -- one round more
    after_round : (n : ℕ) (done : List Origin) (ts us : List Whole) (o : Origin) (t : Whole) → Left n done → was_walked o done ≡ false → next o ≡ Some t → pending next done ts ≡ Some (o, t) → ((m : ℕ) → Left m (o ∷ done) → rounds next m (o ∷ done) (walk t ts) ≡ us) → rounds next n done ts ≡ us
    after_round zero done ts us o t left w e p h =
        let most : length (o ∷ done) ≤ length registers =
        no_more (o ∷ done) registers (not_walked o done w, left.differ) (λ q m. ⊎_elim (λ s. subst (λ r. IsIn r registers) (sym s) (among o t e)) (left.of_registers q) m) in
        absurd (omega (arith, most, left.enough))
    after_round (suc m) done ts us o t left w e p h =
        ap (λ f. go_on (λ done ts. rounds next m done ts) f done ts) p
        ∙ h m (record {
          differ = (not_walked o done w, left.differ);
          of_registers = λ q i. ⊎_elim (λ s. subst (λ r. IsIn r registers) (sym s) (among o t e)) (left.of_registers q) i;
          enough = let l = left.enough in omega (arith, l);
        })

    walked_meets : (k : ℕ) (ts us : List Whole) (t : Whole) → k < length ts → next_tree next (tree_at ts k) ≡ Some t → AreApart us → GoesOn ts us → Meets (k + 1) (walk t ts) us → Meets k ts us
    walked_meets k ts us t l e a g h front [] same f done p i n left = absurd (too_far ts front k same f l)
    walked_meets k ts us t l e a g h front (x ∷ back) same f done p i n left =
        let r = register x t (ap (next_tree next) (sym (here ts front back x k same f)) ∙ e) in
        let o = r.origin in
        let now : ts ≡ front ++ Leaf o ∷ back = same ∙ ap (λ y. front ++ y ∷ back) r.leaf in
        let new = new_register us front back o done a (subst (λ v. GoesOn v us) now g) i in
        let more = walk_grows t ts in
        let longer : walk t ts ≡ (front ++ Leaf o ∷ []) ++ (back ++ more.more) =
        more.is ∙ ap (λ v. v ++ more.more) (moved ts front back (Leaf o) now) ∙ append_assoc (front ++ Leaf o ∷ []) back more.more in
        after_round n done ts us o t left new r.next_is (ap (pending next done) now ∙ waits_first front back o t done p r.next_is new)
        (λ m later. h (front ++ Leaf o ∷ []) (back ++ more.more) longer (one_more front (Leaf o) k f) (o ∷ done) (walked_last front o t done p r.next_is) (in_front front o done i) m later)

    meets : {k : ℕ} {ts us : List Whole} → Ends next k ts us → AreApart us → Meets k ts us
    meets (ended k ts l) a = ended_meets k ts l
    meets (passed k ts us l e h) a = passed_meets k ts us l e (meets h a)
    meets (walked k ts us t l e h) a = walked_meets k ts us t l e a (further (walk_grows t ts) (grows h)) (meets h a)

    -- in as many rounds as there are registers
    pub in_rounds : (ts us : List Whole) → Ends next 0 ts us → AreApart us → us ≡ rounds next (length registers) [] ts
    in_rounds ts us h a =
        sym (meets h a [] ts refl refl [] refl (λ o i. absurd i) (length registers) (record { differ = tt; of_registers = λ o i. absurd i; enough = omega arith }))
