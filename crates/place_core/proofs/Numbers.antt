-- The signals of a design are numbered.
use Rattle.std.proofs.Common.{◌≡◌, ℕ, zero, suc, ◌+◌, ◌<◌, ◌≤◌, ◌⊎◌, inl, inr, Bool, true, false, ◌||◌, true≢false, List, [], ◌∷◌, ◌++◌, length, Option, Some, None, is_some, option_map, refl, sym, subst, ap, ap₂, ◌∙◌, arith, bytes_eq, if◌then◌else◌}
use Rattle.std.specs.Prelude.{slice_get, option_and_then, unwrap_or}
use Rattle.std.specs.List.{list_any}
use Rattle.std.proofs.lemmas.Bool.{cases_Bool, cases_lt}
use Rattle.std.proofs.lemmas.List.{length_push}
use Rattle.std.proofs.lemmas.Option.{slice_get_within, slice_get_past, none-some}
use Rattle.std.proofs.lemmas.Slice.Eq.{bytes_eq-Decides}
use Rattle.exec_core.specs.Block.{Name}
use Rattle.exec_core.specs.Whole.{Place}
use Rattle.exec_core.specs.Design.{place, same_place}
use Rattle.list_core.proofs.Options.{some_same}
use Rattle.exec_core.proofs.Sources.{same_place-sound, same_place-refl}
use Rattle.design_core.specs.declared.variant.Signal.{Signal}
use Rattle.design_core.specs.declared.design.Instance.{Instance}
use Rattle.design_core.specs.Design as design
use Rattle.design_exec.specs.Processes.{signals_in, instance_signals, is_signal_of}
use Rattle.names.specs.Maps.{no_value, put_value}
use Rattle.list_core.specs.Lists.{EachOf}
use Rattle.list_core.proofs.Lists.{each_append, each_map}
use Rattle.place_core.specs.Numbering.{Numbers, Counted, count_signal, count_signals, AllCounted, count_instance, count_instances, number_in, place_at, IsNumbering, Numbered}
use Rattle.place_core.specs.Orders.{Pair, signal_at, StandsFirst}

-- ---- lists

pub get_left : {A : Type 0} (xs ys : List A) (n : ℕ) → n < length xs → slice_get (xs ++ ys) n ≡ slice_get xs n
get_left [] ys n h = absurd (omega arith)
get_left (x ∷ xs) ys zero h = refl
get_left (x ∷ xs) ys (suc n) h = get_left xs ys n (omega arith)

pub get_last : {A : Type 0} (xs : List A) (y : A) (ys : List A) → slice_get (xs ++ y ∷ ys) (length xs) ≡ Some y
get_last [] y ys = refl
get_last (x ∷ xs) y ys = get_last xs y ys

get_at : {A : Type 0} (xs : List A) (y : A) (ys : List A) (n : ℕ) → n ≡ length xs → slice_get (xs ++ y ∷ ys) n ≡ Some y
get_at xs y ys n e = ap (slice_get (xs ++ y ∷ ys)) e ∙ get_last xs y ys

pub each_get : {A : Type 0} (P : A → Type 0) (xs : List A) (n : ℕ) (x : A) → EachOf P xs → slice_get xs n ≡ Some x → P x
each_get P [] n x e g = absurd (none-some x g)
each_get P (y ∷ ys) zero x e g = subst P (some_same y x g) e.0
each_get P (y ∷ ys) (suc n) x e g = each_get P ys n x e.1 g

-- ---- one more number

put_same : (all : List Numbers) (numbers : Numbers) (i : ℕ) (x : Name) (n : ℕ) → i ≡ length all → number_in (all ++ put_value x n numbers ∷ []) (place i x) ≡ Some n
put_same all numbers i x n e =
    ap (option_and_then (λ (m : Numbers). m x)) (get_at all (put_value x n numbers) [] i e)
    ∙ ap (λ (b : Bool). if b then Some n else numbers x) ((bytes_eq-Decides x x).1 refl)

put_other : (all : List Numbers) (numbers : Numbers) (i : ℕ) (x : Name) (n : ℕ) (p : Place) → i ≡ length all → (p ≡ place i x → ⊥) → number_in (all ++ put_value x n numbers ∷ []) p ≡ number_in (all ++ numbers ∷ []) p
put_other all numbers i x n p e f =
    elim (cases_lt p.instance (length all)) [
      | inl low ↦ ap (option_and_then (λ (m : Numbers). m p.name)) (get_left all (put_value x n numbers ∷ []) p.instance low ∙ sym (get_left all (numbers ∷ []) p.instance low))
      | inr high ↦ elim (cases_lt (length all) p.instance) [
        | inl more ↦ ap (option_and_then (λ (m : Numbers). m p.name)) (past (put_value x n numbers) more ∙ sym (past numbers more))
        | inr less ↦
            let same : p.instance ≡ length all = omega (arith, high, less) in
            ap (option_and_then (λ (m : Numbers). m p.name)) (get_at all (put_value x n numbers) [] p.instance same)
            ∙ by_name same (cases_Bool (bytes_eq p.name x))
            ∙ sym (ap (option_and_then (λ (m : Numbers). m p.name)) (get_at all numbers [] p.instance same))
      ]
    ]
  where
    past : (m : Numbers) → length all < p.instance → slice_get (all ++ m ∷ []) p.instance ≡ None
    past m more = slice_get_past (all ++ m ∷ []) p.instance (subst (λ (k : ℕ). k ≤ p.instance) (sym (length_push all m)) (omega (arith, more)))

    by_name : p.instance ≡ length all → (bytes_eq p.name x ≡ true) ⊎ (bytes_eq p.name x ≡ false) → put_value x n numbers p.name ≡ numbers p.name
    by_name same (inl is) = absurd (f (ap₂ place (same ∙ sym e) ((bytes_eq-Decides p.name x).0 is)))
    by_name same (inr not) = ap (λ (b : Bool). if b then Some n else numbers p.name) not

-- the pair of a number
at_left : (d : design.Design) (pairs : List Pair) (q : Pair) (n : ℕ) → n < length pairs → place_at d (pairs ++ q ∷ []) n ≡ place_at d pairs n
at_left d pairs q n h = ap (option_and_then (signal_at d)) (get_left pairs (q ∷ []) n h)

at_last : (d : design.Design) (pairs : List Pair) (q : Pair) (p : Place) → signal_at d q ≡ Some p → place_at d (pairs ++ q ∷ []) (length pairs) ≡ Some p
at_last d pairs q p e = ap (option_and_then (signal_at d)) (get_last pairs q []) ∙ e

pub at_within : (d : design.Design) (pairs : List Pair) (n : ℕ) (p : Place) → place_at d pairs n ≡ Some p → n < length pairs
at_within d pairs n p e =
    elim (cases_lt n (length pairs)) [
      | inl low ↦ low
      | inr high ↦ absurd (none-some p (sym (ap (option_and_then (signal_at d)) (slice_get_past pairs n high)) ∙ e))
    ]

pub numbered_next : (d : design.Design) (all : List Numbers) (numbers : Numbers) (pairs : List Pair) (i k : ℕ) (x : Name) → i ≡ length all → IsNumbering d (number_in (all ++ numbers ∷ [])) pairs → numbers x ≡ None →
    signal_at d (i, k) ≡ Some (place i x) → EachOf (λ p. StandsFirst p (i, k)) pairs → IsNumbering d (number_in (all ++ put_value x (length pairs) numbers ∷ [])) (pairs ++ (i, k) ∷ [])
numbered_next d all numbers pairs i k x e w none is each = record {
  back = λ p n f. elim (cases_Bool (same_place (place i x) p)) [
    | inl same ↦
        let at : place i x ≡ p = same_place-sound (place i x) p same in
        let here : length pairs ≡ n = some_same (length pairs) n (sym (put_same all numbers i x (length pairs) e) ∙ ap number' at ∙ f) in
        ap (place_at d (pairs ++ (i, k) ∷ [])) (sym here) ∙ at_last d pairs (i, k) (place i x) is ∙ ap (λ (q : Place). Some q) at
    | inr not ↦
        let before = w.back p n (sym (put_other all numbers i x (length pairs) p e (apart p not)) ∙ f) in
        at_left d pairs (i, k) n (at_within d pairs n p before) ∙ before
  ];
  forth = λ n h. elim (cases_lt n (length pairs)) [
    | inl low ↦
        let there = w.forth n low in
        (there.0, (at_left d pairs (i, k) n low ∙ there.1.0, put_other all numbers i x (length pairs) there.0 e (λ same. none-some n (sym without ∙ ap number (sym same) ∙ there.1.1)) ∙ there.1.1))
    | inr high ↦
        let last : n ≡ length pairs = omega (arith, high, subst (λ (m : ℕ). n < m) (length_push pairs (i, k)) h) in
        (place i x, (ap (place_at d (pairs ++ (i, k) ∷ [])) last ∙ at_last d pairs (i, k) (place i x) is, put_same all numbers i x (length pairs) e ∙ ap (λ (m : ℕ). Some m) (sym last)))
  ];
  sorted = λ a b p q le f g.
      let within : b < length pairs + 1 = subst (λ (m : ℕ). b < m) (length_push pairs (i, k)) (slice_get_within (pairs ++ (i, k) ∷ []) b q g) in
      elim (cases_lt b (length pairs)) [
        | inl low ↦
            w.sorted a b p q le (sym (get_left pairs ((i, k) ∷ []) a (omega (arith, le, low))) ∙ f) (sym (get_left pairs ((i, k) ∷ []) b low) ∙ g)
        | inr high ↦
            let last : b ≡ length pairs = omega (arith, high, within) in
            let there : (i, k) ≡ q = some_same (i, k) q (sym (get_at pairs (i, k) [] b last) ∙ g) in
            subst (StandsFirst p) there (elim (cases_lt a (length pairs)) [
              | inl low ↦ each_get (λ r. StandsFirst r (i, k)) pairs a p each (sym (get_left pairs ((i, k) ∷ []) a low) ∙ f)
              | inr above ↦
                  let here : (i, k) ≡ p = some_same (i, k) p (sym (get_at pairs (i, k) [] a (omega (arith, above, le, last))) ∙ f) in
                  subst (λ (r : Pair). StandsFirst r (i, k)) here (inr (refl, inr refl))
            ])
      ];
}
  where
    number : Place → Option ℕ
    number = number_in (all ++ numbers ∷ [])

    number' : Place → Option ℕ
    number' = number_in (all ++ put_value x (length pairs) numbers ∷ [])

    without : number (place i x) ≡ None
    without = ap (option_and_then (λ (m : Numbers). m x)) (get_at all numbers [] i e) ∙ none

    apart : (p : Place) → same_place (place i x) p ≡ false → p ≡ place i x → ⊥
    apart p not same = true≢false (sym (same_place-refl p) ∙ ap (λ (q : Place). same_place q p) same ∙ not)

-- ---- the signals of an instance

-- what a signal's step keeps
record Stepped (d : design.Design) (all : List Numbers) (i k : ℕ) (x : Name) (s t : Counted) : Type 0 where
  numbering : IsNumbering d (number_in (all ++ t.0 ∷ [])) t.1
  before : EachOf (λ p. StandsFirst p (i, k + 1)) t.1
  kept : (y : Name) → is_some (s.0 y) ≡ true → is_some (t.0 y) ≡ true
  here : is_some (t.0 x) ≡ true

first_more : (i k : ℕ) (p : Pair) → StandsFirst p (i, k) → StandsFirst p (i, k + 1)
first_more i k p (inl h) = inl h
first_more i k p (inr (e, inl h)) = inr (e, inl (omega (arith, h)))
first_more i k p (inr (e, inr h)) = inr (e, inl (omega (arith, h)))

first_next : (i k : ℕ) (p : Pair) → StandsFirst p (i, k) → StandsFirst p (i + 1, 0)
first_next i k p (inl h) = inl (omega (arith, h))
first_next i k p (inr (e, h)) = inl (omega (arith, e))

no_number : (o : Option ℕ) → is_some o ≡ false → o ≡ None
no_number None e = refl
no_number (Some n) e = absurd (true≢false e)

stepped : (d : design.Design) (all : List Numbers) (i k : ℕ) (x : Name) (s : Counted) → i ≡ length all → IsNumbering d (number_in (all ++ s.0 ∷ [])) s.1 → EachOf (λ p. StandsFirst p (i, k)) s.1 →
    signal_at d (i, k) ≡ Some (place i x) → Stepped d all i k x s (count_signal i k x s)
stepped d all i k x s e w each is = elim (cases_Bool (is_some (s.0 x))) [
  | inl has ↦ subst (Stepped d all i k x s) (ap (λ (b : Bool). if b then s else new) (sym has)) (record {
    numbering = w;
    before = each_map (λ p. StandsFirst p (i, k)) (λ p. StandsFirst p (i, k + 1)) s.1 (first_more i k) each;
    kept = λ y h. h;
    here = has;
  })
  | inr not ↦ subst (Stepped d all i k x s) (ap (λ (b : Bool). if b then s else new) (sym not)) (record {
    numbering = numbered_next d all s.0 s.1 i k x e w (no_number (s.0 x) not) is each;
    before = each_append (λ p. StandsFirst p (i, k + 1)) s.1 ((i, k) ∷ []) (each_map (λ p. StandsFirst p (i, k)) (λ p. StandsFirst p (i, k + 1)) s.1 (first_more i k) each) (inr (refl, inl (omega arith)), tt);
    kept = λ y h. put_kept (bytes_eq y x) (s.0 y) h;
    here = ap (λ (b : Bool). is_some (if b then Some (length s.1) else s.0 x)) ((bytes_eq-Decides x x).1 refl);
  })
]
  where
    new : Counted
    new = (put_value x (length s.1) s.0, s.1 ++ (i, k) ∷ [])

    put_kept : (b : Bool) (o : Option ℕ) → is_some o ≡ true → is_some (if b then Some (length s.1) else o) ≡ true
    put_kept true o h = refl
    put_kept false o h = h

-- signals from a place on
abbrev Stand : {A : Type 0} → List A → ℕ → List A → Type 0
Stand all k rest = (j : ℕ) (y : _) → slice_get rest j ≡ Some y → slice_get all (k + j) ≡ Some y

stand_first : {A : Type 0} (all : List A) (k : ℕ) (y : A) (rest : List A) → Stand all k (y ∷ rest) → slice_get all k ≡ Some y
stand_first all k y rest h = subst (λ n. slice_get all n ≡ Some y) (omega arith) (h 0 y refl)

stand_rest : {A : Type 0} (all : List A) (k : ℕ) (y : A) (rest : List A) → Stand all k (y ∷ rest) → Stand all (k + 1) rest
stand_rest all k y rest h j z e = subst (λ n. slice_get all n ≡ Some z) (omega arith) (h (suc j) z e)

stand_all : {A : Type 0} (all : List A) → Stand all 0 all
stand_all all j y e = subst (λ n. slice_get all n ≡ Some y) (omega arith) e

abbrev named : Name → List Signal → Bool
named x signals = list_any (λ (y : Signal). bytes_eq y.name x) signals

record CountedSignals (d : design.Design) (all : List Numbers) (i : ℕ) (rest : List Signal) (s t : Counted) : Type 0 where
  numbering : IsNumbering d (number_in (all ++ t.0 ∷ [])) t.1
  before : EachOf (λ p. StandsFirst p (i + 1, 0)) t.1
  kept : (y : Name) → is_some (s.0 y) ≡ true → is_some (t.0 y) ≡ true
  covers : (y : Name) → named y rest ≡ true → is_some (t.0 y) ≡ true

counted_signals : (d : design.Design) (all : List Numbers) (i k : ℕ) (rest : List Signal) (s : Counted) → i ≡ length all → Stand (instance_signals d i) k rest → IsNumbering d (number_in (all ++ s.0 ∷ [])) s.1 → EachOf (λ p. StandsFirst p (i, k)) s.1 →
    CountedSignals d all i rest s (count_signals i k rest s)
counted_signals d all i k [] s e stand w each = record {
  numbering = w;
  before = each_map (λ p. StandsFirst p (i, k)) (λ p. StandsFirst p (i + 1, 0)) s.1 (first_next i k) each;
  kept = λ y h. h;
  covers = λ y h. absurd (true≢false (sym h));
}
counted_signals d all i k (z ∷ rest) s e stand w each =
    let is : signal_at d (i, k) ≡ Some (place i z.name) = ap (option_map (λ (y : Signal). place i y.name)) (stand_first (instance_signals d i) k z rest stand) in
    let step = stepped d all i k z.name s e w each is in
    let next = counted_signals d all i (k + 1) rest (count_signal i k z.name s) e (stand_rest (instance_signals d i) k z rest stand) step.numbering step.before in
    record {
      numbering = next.numbering;
      before = next.before;
      kept = λ y h. next.kept y (step.kept y h);
      covers = λ y h. elim (cases_Bool (bytes_eq z.name y)) [
        | inl same ↦ next.kept y (subst (λ (x : Name). is_some ((count_signal i k z.name s).0 x) ≡ true) ((bytes_eq-Decides z.name y).0 same) step.here)
        | inr not ↦ next.covers y (sym (ap (λ (b : Bool). b || named y rest) not) ∙ h)
      ];
    }

-- ---- all instances

none_more : (all : List Numbers) (p : Place) → number_in all p ≡ number_in (all ++ no_value ∷ []) p
none_more all p =
    elim (cases_lt p.instance (length all)) [
      | inl low ↦ ap (option_and_then (λ (m : Numbers). m p.name)) (sym (get_left all (no_value ∷ []) p.instance low))
      | inr high ↦ ap (option_and_then (λ (m : Numbers). m p.name)) (slice_get_past all p.instance high) ∙ elim (cases_lt (length all) p.instance) [
        | inl more ↦ sym (ap (option_and_then (λ (m : Numbers). m p.name)) (slice_get_past (all ++ no_value ∷ []) p.instance (subst (λ (k : ℕ). k ≤ p.instance) (sym (length_push all no_value)) (omega (arith, more)))))
        | inr less ↦ sym (ap (option_and_then (λ (m : Numbers). m p.name)) (get_at all no_value [] p.instance (omega (arith, high, less))))
      ]
    ]

record CountedInstances (d : design.Design) (past : ℕ) (t : AllCounted) : Type 0 where
  numbering : IsNumbering d (number_in t.0) t.1
  count : length t.0 ≡ past
  covers : (p : Place) → p.instance < past → is_signal_of d p ≡ true → is_some (number_in t.0 p) ≡ true

counted_instances : (d : design.Design) (i : ℕ) (rest : List Instance) (s : AllCounted) → Stand d.instances i rest → CountedInstances d i s → EachOf (λ p. StandsFirst p (i, 0)) s.1 →
    CountedInstances d (i + length rest) (count_instances d i rest s)
counted_instances d i [] s stand w each = subst (λ (n : ℕ). CountedInstances d n s) (omega arith) w
counted_instances d i (r ∷ rest) s stand w each =
    let at : slice_get d.instances i ≡ Some r = stand_first d.instances i r rest stand in
    let own : instance_signals d i ≡ signals_in d r.variant = ap (λ (o : Option Instance). unwrap_or (option_map (λ (r : Instance). signals_in d r.variant) o) []) at in
    let start : IsNumbering d (number_in (s.0 ++ no_value ∷ [])) s.1 = subst (λ (f : Place → Option ℕ). IsNumbering d f s.1) (λ k p. none_more s.0 p k) w.numbering in
    let counted = counted_signals d s.0 i 0 (signals_in d r.variant) (no_value, s.1) (sym w.count) (subst (λ (all : List Signal). Stand all 0 (signals_in d r.variant)) (sym own) (stand_all (signals_in d r.variant))) start each in
    let t : AllCounted = count_instance i (signals_in d r.variant) s in
    let one : CountedInstances d (i + 1) t = record {
      numbering = counted.numbering;
      count = length_push s.0 (count_signals i 0 (signals_in d r.variant) (no_value, s.1)).0 ∙ ap (λ (n : ℕ). n + 1) w.count;
      covers = λ p h is. elim (cases_lt p.instance i) [
        | inl low ↦ ap (λ (o : Option Numbers). is_some (option_and_then (λ (m : Numbers). m p.name) o)) (get_left s.0 _ p.instance (subst (λ (n : ℕ). p.instance < n) (sym w.count) low)) ∙ w.covers p low is
        | inr high ↦
            let same : p.instance ≡ i = omega (arith, h, high) in
            ap (λ (o : Option Numbers). is_some (option_and_then (λ (m : Numbers). m p.name) o)) (get_at s.0 _ [] p.instance (same ∙ sym w.count))
            ∙ counted.covers p.name (sym (ap (named p.name) (ap (instance_signals d) same ∙ own)) ∙ is)
      ];
    } in
    subst (λ (n : ℕ). CountedInstances d n (count_instances d (i + 1) rest t)) (omega arith) (counted_instances d (i + 1) rest t (stand_rest d.instances i r rest stand) one counted.before)

none_counted : (d : design.Design) → CountedInstances d 0 ([], [])
none_counted d = record {
  numbering = record {
    back = λ p n e. absurd (none-some n e);
    forth = λ n h. absurd (omega (arith, h));
    sorted = λ a b p q le e f. absurd (none-some p e);
  };
  count = refl;
  covers = λ p h e. absurd (omega (arith, h));
}

has_number : (o : Option ℕ) → is_some o ≡ true → (n : ℕ) × (o ≡ Some n)
has_number None e = absurd (true≢false (sym e))
has_number (Some n) e = (n, refl)

in_instances : (d : design.Design) (p : Place) → is_signal_of d p ≡ true → p.instance < length d.instances
in_instances d p e =
    elim (cases_lt p.instance (length d.instances)) [
      | inl low ↦ low
      | inr high ↦ absurd (true≢false (sym e ∙ ap (λ (o : Option Instance). named p.name (unwrap_or (option_map (λ (r : Instance). signals_in d r.variant) o) [])) (slice_get_past d.instances p.instance high)))
    ]

pub numbered : Numbered
numbered d all is =
    let t = subst (CountedInstances d (length d.instances)) (sym is) (subst (λ (n : ℕ). CountedInstances d n (count_instances d 0 d.instances ([], []))) (omega arith) (counted_instances d 0 d.instances ([], []) (stand_all d.instances) (none_counted d) tt)) in
    (t.numbering, t.count, λ p e. has_number (number_in all.0 p) (t.covers p (in_instances d p e) e))
