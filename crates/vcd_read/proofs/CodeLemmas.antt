-- Codes that are found by their bytes.
use Rattle.std.proofs.Common.{◌≡◌, ◌≢◌, ℕ, zero, suc, ◌+◌, ◌<◌, Bool, true, false, cond, List, [], ◌∷◌, ◌++◌, Option, Some, None, length, get_or, refl, ap, sym, ◌∙◌, subst, arith, length-append, inl, inr, ◌⊎◌}
use Rattle.std.specs.Prelude.{bytes_eq, IfSome, IfNone, slice_set, slice_get}
use Rattle.std.proofs.lemmas.Bool.{cases_lt, cases_eq, false_from_ne_true}
use Rattle.std.proofs.lemmas.List.{length-map, map-append, get_or_append_left, get_or_at, get_or-map, get_or-set_same, get_or-set_other, length-set}
use Rattle.std.proofs.lemmas.Option.{slice_get_within, get_or_from_slice_get}
use Rattle.std.proofs.lemmas.Slice.Eq.{bytes_eq-Decides}
use Rattle.vcd_read.specs.declared.codes.CodeRow.{CodeRow}
use Rattle.vcd_read.specs.Head.{Code, known, known_from}
use Rattle.vcd_read.specs.Buckets.{bucket_of, bucket_at, codes_of, sizes_of, nexts_of, AreNexts, AreHeads, AreCodes, IsSought}

pub length-codes_of : (texts : List (List ℕ)) (sizes : List ℕ) → length texts ≡ length sizes → length (codes_of texts sizes) ≡ length texts
length-codes_of [] sizes same = refl
length-codes_of (text ∷ texts) [] same = absurd (omega arith)
length-codes_of (text ∷ texts) (size ∷ sizes) same = ap suc (length-codes_of texts sizes (omega arith))

-- one more code
pub codes-push : (texts : List (List ℕ)) (sizes : List ℕ) (text : List ℕ) (size : ℕ) → length texts ≡ length sizes
    → codes_of (texts ++ text ∷ []) (sizes ++ size ∷ []) ≡ codes_of texts sizes ++ (text, size) ∷ []
codes-push [] [] text size same = refl
codes-push [] (other ∷ sizes) text size same = absurd (omega arith)
codes-push (first ∷ texts) [] text size same = absurd (omega arith)
codes-push (first ∷ texts) (other ∷ sizes) text size same = ap (λ rest. (first, other) ∷ rest) (codes-push texts sizes text size (omega arith))

known_front : (n : ℕ) (bytes : List ℕ) (codes more : List Code) (found : ℕ × ℕ) → known_from n bytes codes ≡ Some found → known_from n bytes (codes ++ more) ≡ Some found
known_front n bytes [] more found e = cc
known_front n bytes (code ∷ codes) more found e = by_test (bytes_eq bytes code.0) (known_front (n + 1) bytes codes more found) e
  where
    by_test : (b : Bool) → (known_from (n + 1) bytes codes ≡ Some found → known_from (n + 1) bytes (codes ++ more) ≡ Some found)
        → cond b (Some (n, code.1)) (known_from (n + 1) bytes codes) ≡ Some found → cond b (Some (n, code.1)) (known_from (n + 1) bytes (codes ++ more)) ≡ Some found
    by_test true rest e = e
    by_test false rest e = rest e

known_last : (n place : ℕ) (bytes : List ℕ) (codes : List Code) (size : ℕ) → known_from n bytes codes ≡ None → place ≡ n + length codes
    → known_from n bytes (codes ++ (bytes, size) ∷ []) ≡ Some (place, size)
known_last n place bytes [] size e at =
    let self : bytes_eq bytes bytes ≡ true = (bytes_eq-Decides bytes bytes).1 refl in
    let same : n ≡ place = omega arith in
    rw self (ap (λ n. Some (n, size)) same)
known_last n place bytes (code ∷ codes) size e at = by_test (bytes_eq bytes code.0) (λ none. known_last (n + 1) place bytes codes size none (omega arith)) e
  where
    by_test : (b : Bool) → (known_from (n + 1) bytes codes ≡ None → known_from (n + 1) bytes (codes ++ (bytes, size) ∷ []) ≡ Some (place, size))
        → cond b (Some (n, code.1)) (known_from (n + 1) bytes codes) ≡ None
        → cond b (Some (n, code.1)) (known_from (n + 1) bytes (codes ++ (bytes, size) ∷ [])) ≡ Some (place, size)
    by_test true rest e = cc
    by_test false rest e = rest e

-- what no code is, is not known
pub known_not : (n : ℕ) (bytes : List ℕ) (texts : List (List ℕ)) (sizes : List ℕ) → ((k : ℕ) → k < length texts → get_or texts k [] ≢ bytes)
    → known_from n bytes (codes_of texts sizes) ≡ None
known_not n bytes [] sizes none = refl
known_not n bytes (text ∷ texts) [] none = refl
known_not n bytes (text ∷ texts) (size ∷ sizes) none =
    let other : bytes_eq bytes text ≡ false = false_from_ne_true (bytes_eq bytes text) (λ e. none 0 (omega arith) (sym ((bytes_eq-Decides bytes text).0 e))) in
    rw other (known_not (n + 1) bytes texts sizes (λ k below. none (suc k) (omega arith)))

-- what a search answers is known
pub found_is : (heads : List ℕ) (texts : List (List ℕ)) (rows : List CodeRow) (code : List ℕ) (found : Option (ℕ × ℕ)) → AreCodes heads texts rows
    → IfSome found (λ found. (found.0 < length texts) × (get_or texts found.0 [] ≡ code) × (found.1 ≡ get_or (sizes_of rows) found.0 0))
    → IfNone found ((n : ℕ) → n < length texts → get_or texts n [] ≢ code)
    → found ≡ known code (codes_of texts (sizes_of rows))
found_is heads texts rows code (Some (number, size)) are is none =
    sym (ap (λ code. known code (codes_of texts (sizes_of rows))) (sym is.1) ∙ are.distinct number is.0 ∙ ap (λ size. Some (number, size)) (sym is.2))
found_is heads texts rows code None are is none = sym (known_not 0 code texts (sizes_of rows) none)

-- the search begins at the last code of the bucket
pub sought : (heads : List ℕ) (texts : List (List ℕ)) (rows : List CodeRow) (code : List ℕ) (last : ℕ) → AreCodes heads texts rows
    → last ≡ get_or heads (bucket_of (length heads) code) 0 → IsSought texts rows code last
sought heads texts rows code last are is = record {
  count = length heads;
  same = are.same;
  chains = are.chains;
  led = λ n e. are.buckets.led n (bucket_of (length heads) code) (sym is ∙ e);
  past = λ n past below same e. absurd (let first = are.buckets.above n below in let at = ap (λ bucket. get_or heads bucket 0) same in omega arith);
}

-- it goes on to the one before
pub sought-next : (texts : List (List ℕ)) (rows : List CodeRow) (code : List ℕ) (last number next : ℕ) → IsSought texts rows code last → last ≡ suc number
    → next ≡ get_or (nexts_of rows) number 0 → get_or texts number [] ≢ code → IsSought texts rows code next
sought-next texts rows code last number next is at leads other =
    let here = is.led number at in
    record {
      count = is.count;
      same = is.same;
      chains = is.chains;
      led = λ n e.
          let before = is.chains.led n number here.0 (sym leads ∙ e) in
          (omega (arith, before.0, here.0), before.1 ∙ here.1);
      past = λ n past below same e. elim (cases_lt n number) [
        | inl before ↦ absurd (let above = is.chains.above n number before here.0 (same ∙ sym here.1) in omega arith)
        | inr behind ↦ elim (cases_lt number n) [
          | inl beyond ↦ is.past n (omega arith) below same e
          | inr not_beyond ↦
              let equal : n ≡ number = omega arith in
              other (ap (λ n. get_or texts n []) (sym equal) ∙ e)
        ]
      ];
    }

-- a row tells the code that it leads to, and its size
pub row-parts : (rows : List CodeRow) (i : ℕ) (row : CodeRow) → slice_get rows i ≡ Some row → (row.next ≡ get_or (nexts_of rows) i 0) × (row.size ≡ get_or (sizes_of rows) i 0)
row-parts rows i row e =
    let below = slice_get_within rows i row e in
    let is : row ≡ get_or rows i row = sym (get_or_from_slice_get rows i row row e) in (
      ap (λ (row : CodeRow). row.next) is ∙ sym (get_or-map (λ (row : CodeRow). row.next) rows i row 0 below),
      ap (λ (row : CodeRow). row.size) is ∙ sym (get_or-map (λ (row : CodeRow). row.size) rows i row 0 below),
    )

-- which is a smaller number
pub sought-smaller : (texts : List (List ℕ)) (rows : List CodeRow) (code : List ℕ) (last number next : ℕ) → IsSought texts rows code last → last ≡ suc number
    → next ≡ get_or (nexts_of rows) number 0 → next < last
sought-smaller texts rows code last number zero is at leads = omega arith
sought-smaller texts rows code last number (suc n) is at leads =
    omega (arith, (is.chains.led n number (is.led number at).0 (sym leads)).0)

text-front : (texts : List (List ℕ)) (text : List ℕ) (n : ℕ) → n < length texts → get_or (texts ++ text ∷ []) n [] ≡ get_or texts n []
text-front texts text n below = get_or_append_left texts (text ∷ []) [] n below

text-last : (texts : List (List ℕ)) (text : List ℕ) (n : ℕ) → n ≡ length texts → get_or (texts ++ text ∷ []) n [] ≡ text
text-last texts text n at = get_or_at texts text [] [] n (sym at)

bucket-front : (count : ℕ) (texts : List (List ℕ)) (text : List ℕ) (n : ℕ) → n < length texts → bucket_at count (texts ++ text ∷ []) n ≡ bucket_at count texts n
bucket-front count texts text n below = ap (bucket_of count) (text-front texts text n below)

bucket-last : (count : ℕ) (texts : List (List ℕ)) (text : List ℕ) (n : ℕ) → n ≡ length texts → bucket_at count (texts ++ text ∷ []) n ≡ bucket_of count text
bucket-last count texts text n at = ap (bucket_of count) (text-last texts text n at)

before_or_last : (texts : List (List ℕ)) (text : List ℕ) (n : ℕ) → n < length (texts ++ text ∷ []) → (n < length texts) ⊎ (n ≡ length texts)
before_or_last texts text n below = elim (cases_lt n (length texts)) [
  | inl before ↦ inl before
  | inr last ↦ inr (omega (arith, length-append texts (text ∷ [])))
]

-- the bucket of one more code leads to it
heads-push : (count : ℕ) (heads : List ℕ) (texts : List (List ℕ)) (text : List ℕ) (bucket last : ℕ) → AreHeads count heads texts
    → bucket ≡ bucket_of count text → bucket < length heads → last ≡ length texts + 1 → AreHeads count (slice_set heads bucket last) (texts ++ text ∷ [])
heads-push count heads texts text bucket last are is within at = record {
  above = λ n below. elim (before_or_last texts text n below) [
    | inl before ↦ rw (bucket-front count texts text n before) (above_by n before (bucket_at count texts n) (are.above n before) (cases_eq (bucket_at count texts n) bucket))
    | inr equal ↦ rw (bucket-last count texts text n equal, ← is, get_or-set_same heads bucket last 0 within) (omega arith)
  ];
  led = λ n other e. led_by n other e (cases_eq other bucket);
}
  where
    above_by : (n : ℕ) → n < length texts → (other : ℕ) → n < get_or heads other 0 → (other ≡ bucket) ⊎ (other ≢ bucket) → n < get_or (slice_set heads bucket last) other 0
    above_by n before other below (inl same) = rw (same, get_or-set_same heads bucket last 0 within) (omega arith)
    above_by n before other below (inr differs) = rw (get_or-set_other heads bucket other last 0 differs) below

    led_by : (n other : ℕ) → get_or (slice_set heads bucket last) other 0 ≡ suc n → (other ≡ bucket) ⊎ (other ≢ bucket)
        → (n < length (texts ++ text ∷ [])) × (bucket_at count (texts ++ text ∷ []) n ≡ other)
    led_by n other e (inl same) =
        let now : last ≡ suc n = sym (get_or-set_same heads bucket last 0 within) ∙ ap (λ bucket. get_or (slice_set heads (bucket) last) bucket 0) refl ∙ ap (λ other. get_or (slice_set heads bucket last) other 0) (sym same) ∙ e in
        let place : n ≡ length texts = omega arith in
        (omega (arith, length-append texts (text ∷ [])), bucket-last count texts text n place ∙ sym is ∙ sym same)
    led_by n other e (inr differs) =
        let old = are.led n other (sym (get_or-set_other heads bucket other last 0 differs) ∙ e) in
        (omega (arith, old.0, length-append texts (text ∷ [])), bucket-front count texts text n old.0 ∙ old.1)

-- one more code leads to the one that was the last of its bucket
nexts-push : (count : ℕ) (heads : List ℕ) (texts : List (List ℕ)) (nexts : List ℕ) (text : List ℕ) (next : ℕ) → AreNexts count texts nexts → AreHeads count heads texts
    → length nexts ≡ length texts → next ≡ get_or heads (bucket_of count text) 0 → AreNexts count (texts ++ text ∷ []) (nexts ++ next ∷ [])
nexts-push count heads texts nexts text next are leads same is = record {
  above = λ n m order below equal. elim (before_or_last texts text m below) [
    | inl before ↦
        let earlier : n < length texts = omega arith in
        rw (get_or_append_left nexts (next ∷ []) 0 m (omega arith))
        (are.above n m order before (sym (bucket-front count texts text n earlier) ∙ equal ∙ bucket-front count texts text m before))
    | inr last ↦
        let earlier : n < length texts = omega arith in
        let at : length nexts ≡ m = omega arith in
        let shared : bucket_at count texts n ≡ bucket_of count text = sym (bucket-front count texts text n earlier) ∙ equal ∙ bucket-last count texts text m last in
        let above = leads.above n earlier in
        let head = ap (λ bucket. get_or heads bucket 0) shared in
        rw (get_or_at nexts next [] 0 m at, is) (omega arith)
  ];
  led = λ n m below e. elim (before_or_last texts text m below) [
    | inl before ↦
        let old = are.led n m before (sym (get_or_append_left nexts (next ∷ []) 0 m (omega arith)) ∙ e) in
        let earlier : n < length texts = omega (arith, old.0) in
        (old.0, bucket-front count texts text n earlier ∙ old.1 ∙ sym (bucket-front count texts text m before))
    | inr last ↦
        let at : length nexts ≡ m = omega arith in
        let old = leads.led n (bucket_of count text) (sym is ∙ sym (get_or_at nexts next [] 0 m at) ∙ e) in
        (omega (arith, old.0), bucket-front count texts text n old.0 ∙ old.1 ∙ sym (bucket-last count texts text m last))
  ];
}

-- one more code
pub are-push : (heads : List ℕ) (texts : List (List ℕ)) (rows : List CodeRow) (text : List ℕ) (row : CodeRow) (bucket last : ℕ) → AreCodes heads texts rows
    → bucket ≡ bucket_of (length heads) text → bucket < length heads → last ≡ length texts + 1 → row.next ≡ get_or heads bucket 0
    → known text (codes_of texts (sizes_of rows)) ≡ None → AreCodes (slice_set heads bucket last) (texts ++ text ∷ []) (rows ++ row ∷ [])
are-push heads texts rows text row bucket last are is within at leads none =
    let count = length heads in
    let counts : length heads ≡ length (slice_set heads bucket last) = sym (length-set heads bucket last) in
    let sizes : sizes_of (rows ++ row ∷ []) ≡ sizes_of rows ++ row.size ∷ [] = map-append (λ (row : CodeRow). row.size) rows (row ∷ []) in
    let nexts : nexts_of (rows ++ row ∷ []) ≡ nexts_of rows ++ row.next ∷ [] = map-append (λ (row : CodeRow). row.next) rows (row ∷ []) in
    let long : length texts ≡ length (sizes_of rows) = are.same ∙ sym (length-map rows (λ (row : CodeRow). row.size)) in
    let chained : length (nexts_of rows) ≡ length texts = length-map rows (λ (row : CodeRow). row.next) ∙ sym are.same in
    let P : ℕ → Type 0 = λ count. AreHeads count (slice_set heads bucket last) (texts ++ text ∷ []) in
    let Q : ℕ → Type 0 = λ count. AreNexts count (texts ++ text ∷ []) (nexts_of rows ++ row.next ∷ []) in
    let R : List ℕ → Type 0 = λ nexts. AreNexts (length (slice_set heads bucket last)) (texts ++ text ∷ []) nexts in
    record {
      same = omega (arith, are.same, length-append texts (text ∷ []), length-append rows (row ∷ []));
      some = omega (arith, are.some);
      buckets = subst P counts (heads-push count heads texts text bucket last are.buckets is within at);
      chains = subst R (sym nexts) (subst Q counts (nexts-push count heads texts (nexts_of rows) text row.next are.chains are.buckets chained (leads ∙ ap (λ bucket. get_or heads bucket 0) is)));
      distinct = λ n below. elim (before_or_last texts text n below) [
        | inl before ↦
            rw (text-front texts text n before, sizes, codes-push texts (sizes_of rows) text row.size long, get_or_append_left (sizes_of rows) (row.size ∷ []) 0 n (omega arith))
            (known_front 0 (get_or texts n []) (codes_of texts (sizes_of rows)) ((text, row.size) ∷ []) (n, get_or (sizes_of rows) n 0) (are.distinct n before))
        | inr equal ↦
            let place : length (sizes_of rows) ≡ n = omega arith in
            rw (text-last texts text n equal, sizes, codes-push texts (sizes_of rows) text row.size long, get_or_at (sizes_of rows) row.size [] 0 n place)
            (known_last 0 n text (codes_of texts (sizes_of rows)) row.size none (omega (arith, length-codes_of texts (sizes_of rows) long)))
      ];
    }
