-- The instances below each instance, put into lists one after another.
use Rattle.std.proofs.Common.{◌≡◌, ℕ, ◌+◌, ◌<◌, ◌≤◌, ◌==◌, if◌then◌else◌, List, [], ◌∷◌, ◌++◌, length, take, get_or, Option, Some, None, Vec, Global, ⊎_elim, refl, sym, ap, ◌∙◌, subst, arith, eq-eqb, ne_eqb}
use Rattle.std.specs.Prelude.{slice_get}
use Rattle.std.proofs.Math.ListN.{set}
use Rattle.std.proofs.lemmas.Bool.{cases_eq}
use Rattle.std.proofs.lemmas.List.{append-nil, map-set, map_push, length-set, length-append, take_all}
use Rattle.std.proofs.lemmas.Option.{same_Some, slice_get_read}
use Rattle.list_core.proofs.Listing.{get_before, get_last, get_set_same, get_set_other, get_map}
use Rattle.list_core.proofs.Growing.{plain_more}
use Rattle.design_core.specs.declared.design.Instance.{Instance}
use Rattle.design_exec.specs.Processes.{kept_below, stands_in}
use Rattle.place_core.specs.Below.{AreLists, PutsNumber, PutsBelow, lists_of, none_below, some_below}

-- lists that have the same
same_lists : (count : ℕ) (f g : ℕ → List ℕ) (lists : List (List ℕ)) → ((i : ℕ) → i < count → f i ≡ g i) → AreLists count f lists → AreLists count g lists
same_lists count f g lists e h = record { long = h.long; each = λ i l. h.each i l ∙ ap (λ x. Some x) (e i l) }

-- ---- one list more

pub list_more : (count : ℕ) (lists after : List (Vec ℕ Global)) (list : Vec ℕ Global) → list.items ≡ [] → after ≡ lists ++ list ∷ [] → AreLists count none_below (lists_of lists) → AreLists (count + 1) none_below (lists_of after)
list_more count lists after list none push b = subst (AreLists (count + 1) none_below) (sym (ap lists_of push ∙ map_push (λ (v : Vec ℕ Global). v.items) lists list)) (record { long = long; each = each })
  where
    long : length (lists_of lists ++ list.items ∷ []) ≡ count + 1
    long = let a = length-append (lists_of lists) (list.items ∷ []) in let l = b.long in omega (arith, a, l)

    each : (k : ℕ) → k < count + 1 → slice_get (lists_of lists ++ list.items ∷ []) k ≡ Some []
    each k l = ⊎_elim
        (λ (e : k ≡ count). get_last (lists_of lists) list.items k (e ∙ sym b.long) ∙ ap (λ z. Some z) none)
        (λ ne. let low : k < count = omega arith in get_before (lists_of lists) (list.items ∷ []) k (let m = b.long in omega (arith, m, low)) ∙ b.each k low)
        (cases_eq k count)

-- ---- one number more

pub number_put : (lists : List (Vec ℕ Global)) (parent n : ℕ) (old new : Vec ℕ Global) → parent < length lists → old ≡ get_or lists parent old → new.items ≡ old.items ++ n ∷ [] → PutsNumber parent n (lists_of lists) (lists_of (set lists parent new))
number_put lists parent n old new low at push count below b =
    subst (AreLists count (λ i. below i ++ (if parent == i then n ∷ [] else []))) (sym (map-set (λ (v : Vec ℕ Global). v.items) lists parent new))
    (record { long = length-set (lists_of lists) parent new.items ∙ b.long; each = each })
  where
    found : slice_get (lists_of lists) parent ≡ Some old.items
    found = get_map (λ (v : Vec ℕ Global). v.items) lists parent old (slice_get_read lists (length lists) parent old refl low at)

    within : (k : ℕ) → k ≡ parent → k < count → parent < length (lists_of lists)
    within k e l = let m = b.long in omega (arith, m, e, l)

    here : (k : ℕ) → k ≡ parent → (if parent == k then n ∷ [] else []) ≡ n ∷ []
    here k e = ap (λ c. if c then n ∷ [] else []) (eq-eqb parent k (sym e))

    other : (k : ℕ) → (k ≡ parent → ⊥) → (if parent == k then n ∷ [] else []) ≡ []
    other k ne = ap (λ c. if c then n ∷ [] else []) (ne_eqb parent k (λ e. ne (sym e)))

    each : (k : ℕ) → k < count → slice_get (set (lists_of lists) parent new.items) k ≡ Some (below k ++ (if parent == k then n ∷ [] else []))
    each k l = ⊎_elim
        (λ (e : k ≡ parent).
        let had : below k ≡ old.items = same_Some (below k) old.items (sym (b.each k l) ∙ ap (slice_get (lists_of lists)) e ∙ found) in
        ap (slice_get (set (lists_of lists) parent new.items)) e ∙ get_set_same (lists_of lists) parent new.items (within k e l)
        ∙ ap (λ z. Some z) (push ∙ ap (λ z. z ++ n ∷ []) (sym had) ∙ ap (λ z. below k ++ z) (sym (here k e))))
        (λ (ne : k ≡ parent → ⊥). get_set_other (lists_of lists) parent k new.items ne ∙ b.each k l ∙ ap (λ z. Some z) (sym (append-nil (below k)) ∙ ap (λ z. below k ++ z) (sym (other k ne))))
        (cases_eq k parent)

-- ---- one instance more

kept_in : (i n : ℕ) (r : Instance) (o : Option ℕ) → r.parent ≡ o → kept_below i (n, r) ≡ (if stands_in i o then n ∷ [] else [])
kept_in i n r o e = ap (λ p. if stands_in i p then n ∷ [] else []) e

pub put_some : (n parent : ℕ) (r : Instance) (old new : List (List ℕ)) → r.parent ≡ Some parent → PutsNumber parent n old new → PutsBelow n r old new
put_some n parent r old new e put count below b =
    same_lists count (λ i. below i ++ (if parent == i then n ∷ [] else [])) (λ i. below i ++ kept_below i (n, r)) new (λ i l. ap (λ z. below i ++ z) (sym (kept_in i n r (Some parent) e))) (put count below b)

pub put_beyond : (n parent : ℕ) (r : Instance) (old : List (List ℕ)) → r.parent ≡ Some parent → length old ≤ parent → PutsBelow n r old old
put_beyond n parent r old e past count below b =
    same_lists count below (λ i. below i ++ kept_below i (n, r)) old
    (λ i l.
    sym (append-nil (below i)) ∙ ap (λ z. below i ++ z)
    (sym (kept_in i n r (Some parent) e ∙ ap (λ c. if c then n ∷ [] else []) (ne_eqb parent i (λ same. let m = b.long in absurd (omega (arith, m, l, past, same))))))) b

pub put_none : (n : ℕ) (r : Instance) (old : List (List ℕ)) → r.parent ≡ None → PutsBelow n r old old
put_none n r old e count below b =
    same_lists count below (λ i. below i ++ kept_below i (n, r)) old (λ i l. sym (append-nil (below i)) ∙ ap (λ z. below i ++ z) (sym (kept_in i n r None e))) b

-- ---- all of them

pub begun : (count : ℕ) (lists : List (List ℕ)) → AreLists count none_below lists → AreLists count (some_below []) lists
begun count lists h = same_lists count none_below (some_below []) lists (λ i l. refl) h

pub next_put : (count n : ℕ) (rs : List Instance) (r : Instance) (old new : List (List ℕ)) → n < length rs → r ≡ get_or rs n r → AreLists count (some_below (take n rs)) old → PutsBelow n r old new → AreLists count (some_below (take (n + 1) rs)) new
next_put count n rs r old new low at h put =
    same_lists count (λ i. some_below (take n rs) i ++ kept_below i (n, r)) (some_below (take (n + 1) rs)) new
    (λ i l. plain_more (kept_below i) [] (some_below (take n rs) i) (some_below (take n rs) i ++ kept_below i (n, r)) rs n r low at refl refl) (put count (some_below (take n rs)) h)

pub last_put : (count n : ℕ) (rs : List Instance) (lists : List (List ℕ)) → length rs ≤ n → AreLists count (some_below (take n rs)) lists → AreLists count (some_below rs) lists
last_put count n rs lists past h = subst (λ l. AreLists count (some_below l) lists) (take_all n rs past) h
