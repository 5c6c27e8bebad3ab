-- Changes up to a time, and the last of a variable among them.
use Rattle.std.proofs.Common.{◌≡◌, ℕ, zero, suc, ◌+◌, ◌<◌, Bool, true, false, cond, List, [], ◌∷◌, ◌++◌, map, Option, Some, None, refl, sym, ap, ap₂, ◌∙◌, arith}
use Rattle.std.specs.Prelude.{slice_get, ◌==◌}
use Rattle.std.specs.List.{filter, flat_map}
use Rattle.std.proofs.lemmas.Option.{none-some, same_Some}
use Rattle.std.proofs.lemmas.Bool.Decides.{nat_tests}
use Rattle.bv_core.specs.Value.{Bits}
use Rattle.tree_core.specs.Fold.{same_bits}
use Rattle.vcd_read.specs.Changes.{Change}
use Rattle.vcd_samples.specs.Samples.{latest, last_digits}
use Rattle.vcd_text.specs.Dump.{Step, binary_digits}
use Rattle.vcd_text.specs.Told.{told_value, told_step}
use Rattle.vcd_text.specs.Waves.{all_from, differing_from}

pub filter_joined : {X : Type 0} (p : X → Bool) (xs ys : List X) → filter p (xs ++ ys) ≡ filter p xs ++ filter p ys
filter_joined p [] ys = refl
filter_joined p (x ∷ xs) ys = by_test (p x) (filter_joined p xs ys)
  where
    by_test : (b : Bool) → filter p (xs ++ ys) ≡ filter p xs ++ filter p ys → cond b (x ∷ filter p (xs ++ ys)) (filter p (xs ++ ys)) ≡ cond b (x ∷ filter p xs) (filter p xs) ++ filter p ys
    by_test true e = ap (λ l. x ∷ l) e
    by_test false e = e

-- the changes of one time all pass a test of times, or none does
one_time : (p : ℕ → Bool) (time : ℕ) (values : List (ℕ × Bits)) (b : Bool) → p time ≡ b → filter (λ (c : Change). p c.time) (map (told_value time) values) ≡ cond b (map (told_value time) values) []
one_time p time [] true e = refl
one_time p time [] false e = refl
one_time p time (v ∷ values) true e =
    ap (λ b. cond b (told_value time v ∷ filter (λ (c : Change). p c.time) (map (told_value time) values)) (filter (λ (c : Change). p c.time) (map (told_value time) values))) e
    ∙ ap (λ (l : List Change). told_value time v ∷ l) (one_time p time values true e)
one_time p time (v ∷ values) false e =
    ap (λ b. cond b (told_value time v ∷ filter (λ (c : Change). p c.time) (map (told_value time) values)) (filter (λ (c : Change). p c.time) (map (told_value time) values))) e
    ∙ one_time p time values false e

pub by_steps : (p : ℕ → Bool) (steps : List Step) → filter (λ (c : Change). p c.time) (flat_map told_step steps) ≡ flat_map told_step (filter (λ (s : Step). p s.time) steps)
by_steps p [] = refl
by_steps p (s ∷ steps) =
    filter_joined (λ (c : Change). p c.time) (told_step s) (flat_map told_step steps)
    ∙ ap₂ (λ (a b : List Change). a ++ b) (one_time p s.time s.values (p s.time) refl) (by_steps p steps)
    ∙ joined (p s.time)
  where
    joined : (b : Bool) → cond b (told_step s) [] ++ flat_map told_step (filter (λ (s : Step). p s.time) steps) ≡ flat_map told_step (cond b (s ∷ filter (λ (s : Step). p s.time) steps) (filter (λ (s : Step). p s.time) steps))
    joined true = refl
    joined false = refl

-- ---- the last change of a code

pub latest_none : (o : Option (List ℕ)) → latest o None ≡ o
latest_none None = refl
latest_none (Some d) = refl

pub latest_joined : (a b c : Option (List ℕ)) → latest (latest a b) c ≡ latest a (latest b c)
latest_joined None b c = refl
latest_joined (Some d) b c = refl

pub last_joined : (code : ℕ) (xs ys : List Change) → last_digits code (xs ++ ys) ≡ latest (last_digits code ys) (last_digits code xs)
last_joined code [] ys = sym (latest_none (last_digits code ys))
last_joined code (x ∷ xs) ys =
    ap (λ o. latest o (cond (x.code == code) (Some x.digits) None)) (last_joined code xs ys)
    ∙ latest_joined (last_digits code ys) (last_digits code xs) (cond (x.code == code) (Some x.digits) None)

pub other : (m n : ℕ) → (m ≡ n → ⊥) → (m == n) ≡ false
other m n h = by_test (m == n) refl
  where
    by_test : (b : Bool) → (m == n) ≡ b → b ≡ false
    by_test true e = absurd (h (grind (arith, nat_tests)))
    by_test false e = refl

pub same : (n : ℕ) → (n == n) ≡ true
same n = grind (arith, nat_tests)

-- values of larger numbers do not change a code
pub none_all : (time code number : ℕ) (values : List Bits) → code < number → last_digits code (map (told_value time) (all_from number values)) ≡ None
none_all time code number [] l = refl
none_all time code number (v ∷ values) l =
    ap₂ (λ (o : Option (List ℕ)) (b : Bool). latest o (cond b (Some (binary_digits v.width v.value)) None)) (none_all time code (number + 1) values (omega arith)) (other number code (λ e. absurd (omega arith)))

pub none_differing : (time code number : ℕ) (olds values : List Bits) → code < number → last_digits code (map (told_value time) (differing_from number olds values)) ≡ None
none_differing time code number olds [] l = refl
none_differing time code number [] (v ∷ values) l = refl
none_differing time code number (old ∷ olds) (v ∷ values) l = by_test (same_bits old v) (none_differing time code (number + 1) olds values (omega arith))
  where
    by_test : (b : Bool) → last_digits code (map (told_value time) (differing_from (number + 1) olds values)) ≡ None
        → last_digits code (map (told_value time) (cond b (differing_from (number + 1) olds values) ((number, v) ∷ differing_from (number + 1) olds values))) ≡ None
    by_test true e = e
    by_test false e =
        ap₂ (λ (o : Option (List ℕ)) (c : Bool). latest o (cond c (Some (binary_digits v.width v.value)) None)) e (other number code (λ z. absurd (omega arith)))

-- the value of a variable among all
pub last_all : (time number k : ℕ) (values : List Bits) (value : Bits) → slice_get values k ≡ Some value
    → last_digits (number + k) (map (told_value time) (all_from number values)) ≡ Some (binary_digits value.width value.value)
last_all time number k [] value e = absurd (none-some value e)
last_all time number zero (v ∷ values) value e =
    ap₂ (λ (o : Option (List ℕ)) (b : Bool). latest o (cond b (Some (binary_digits v.width v.value)) None))
    (none_all time (number + 0) (number + 1) values (omega arith)) (ap (λ n. number == n) (let z : number + 0 ≡ number = omega arith in z) ∙ same number)
    ∙ ap (λ (b : Bits). Some (binary_digits b.width b.value)) (same_Some v value e)
last_all time number (suc k) (v ∷ values) value e =
    ap (λ o. latest o (cond (number == number + suc k) (Some (binary_digits v.width v.value)) None))
    (ap (λ n. last_digits n (map (told_value time) (all_from (number + 1) values))) (let z : number + suc k ≡ number + 1 + k = omega arith in z) ∙ last_all time (number + 1) k values value e)

equal_bits : (a b : Bits) → same_bits a b ≡ true → binary_digits a.width a.value ≡ binary_digits b.width b.value
equal_bits a b e =
    let w : a.width ≡ b.width = grind (arith, nat_tests) in
    let v : a.value ≡ b.value = grind (arith, nat_tests) in
    ap₂ binary_digits w v

-- the value of a variable among those that differ: where it is not there, it is the one before
pub last_differing : (time number k : ℕ) (olds values : List Bits) (old value : Bits) → slice_get olds k ≡ Some old → slice_get values k ≡ Some value
    → latest (last_digits (number + k) (map (told_value time) (differing_from number olds values))) (Some (binary_digits old.width old.value)) ≡ Some (binary_digits value.width value.value)
last_differing time number k olds [] old value d e = absurd (none-some value e)
last_differing time number k [] (v ∷ values) old value d e = absurd (none-some old d)
last_differing time number zero (o ∷ olds) (v ∷ values) old value d e = by_test (same_bits o v) refl
  where
    rest : last_digits (number + 0) (map (told_value time) (differing_from (number + 1) olds values)) ≡ None
    rest = none_differing time (number + 0) (number + 1) olds values (omega arith)

    by_test : (b : Bool) → same_bits o v ≡ b
        → latest (last_digits (number + 0) (map (told_value time) (cond b (differing_from (number + 1) olds values) ((number, v) ∷ differing_from (number + 1) olds values)))) (Some (binary_digits old.width old.value))
        ≡ Some (binary_digits value.width value.value)
    by_test true s =
        ap (λ p. latest p (Some (binary_digits old.width old.value))) rest
        ∙ ap (λ (b : Bits). Some (binary_digits b.width b.value)) (sym (same_Some o old d))
        ∙ ap (λ (l : List ℕ). Some l) (equal_bits o v s)
        ∙ ap (λ (b : Bits). Some (binary_digits b.width b.value)) (same_Some v value e)
    by_test false s =
        ap₂ (λ (p : Option (List ℕ)) (b : Bool). latest (latest p (cond b (Some (binary_digits v.width v.value)) None)) (Some (binary_digits old.width old.value)))
        rest (ap (λ n. number == n) (let z : number + 0 ≡ number = omega arith in z) ∙ same number)
        ∙ ap (λ (b : Bits). Some (binary_digits b.width b.value)) (same_Some v value e)
last_differing time number (suc k) (o ∷ olds) (v ∷ values) old value d e =
    by_test (same_bits o v)
    (ap (λ n. latest (last_digits n (map (told_value time) (differing_from (number + 1) olds values))) (Some (binary_digits old.width old.value))) (let z : number + suc k ≡ number + 1 + k = omega arith in z)
    ∙ last_differing time (number + 1) k olds values old value d e)
  where
    by_test : (b : Bool)
        → latest (last_digits (number + suc k) (map (told_value time) (differing_from (number + 1) olds values))) (Some (binary_digits old.width old.value)) ≡ Some (binary_digits value.width value.value)
        → latest (last_digits (number + suc k) (map (told_value time) (cond b (differing_from (number + 1) olds values) ((number, v) ∷ differing_from (number + 1) olds values)))) (Some (binary_digits old.width old.value))
        ≡ Some (binary_digits value.width value.value)
    by_test true h = h
    by_test false h =
        ap (λ b. latest (latest (last_digits (number + suc k) (map (told_value time) (differing_from (number + 1) olds values))) (cond b (Some (binary_digits v.width v.value)) None)) (Some (binary_digits old.width old.value)))
        (other number (number + suc k) (λ z. absurd (omega arith)))
        ∙ latest_joined (last_digits (number + suc k) (map (told_value time) (differing_from (number + 1) olds values))) None (Some (binary_digits old.width old.value))
        ∙ h
