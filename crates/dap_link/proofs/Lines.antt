-- Each field of a head ends with a line feed, and no other is in it; so the first byte of a seventeenth field shows itself.
use Rattle.std.proofs.Common.{◌≡◌, ℕ, zero, suc, ◌+◌, ◌-◌, ◌<◌, ◌≤◌, Bool, true, false, ◌==◌, nat_le, List, [], ◌∷◌, ◌++◌, length, take, drop, refl, sym, ap, ◌∙◌, subst, append_assoc, append-nil, length-append, arith}
use Rattle.std.specs.Prelude.{All, IsTrue}
use Rattle.std.specs.List.{flat_map}
use Rattle.std.proofs.lemmas.Bool.Decides.{nat_tests}
use Rattle.std.proofs.lemmas.List.Elements.{All-head, All-tail, All-take, All-drop}
use Rattle.httparse.specs.Grammar.{LineEnd, crlf, lf, Field, IsField, AllPass, is_token_byte, is_value_byte, print_field, print_end, print_section, HasNoSection, MayBecomeSection}
use Rattle.dap_link.specs.Frames.{IsHead}
use Rattle.dap_link.specs.Heads.{begins_beyond}

is_byte : (b k : ℕ) → (b == k) ≡ true → b ≡ k
is_byte b k e = grind (arith, nat_tests, e)

-- a class of bytes that has not this one
not_in : (test : ℕ → Bool) (k : ℕ) → test k ≡ false → (b : ℕ) → IsTrue (test b) → (b == k) ≡ false
not_in test k none b h = by (b == k) refl
  where
    by : (t : Bool) → (b == k) ≡ t → (b == k) ≡ false
    by false e = e
    by true e = let there : test k ≡ true = subst (λ x. test x ≡ true) (is_byte b k e) h in cc

-- ---- one line at a time

over_byte : (b : ℕ) (text : List ℕ) (n : ℕ) → (b == 10) ≡ false → begins_beyond (suc n) (b ∷ text) ≡ begins_beyond (suc n) text
unfolding begins_beyond
over_byte b text n e = rw e refl

-- bytes without a line feed are passed over
past : (test : ℕ → Bool) → test 10 ≡ false → (front rest : List ℕ) (n : ℕ) → AllPass test front → begins_beyond (suc n) (front ++ rest) ≡ begins_beyond (suc n) rest
past test none [] rest n h = refl
past test none (b ∷ front) rest n h =
    over_byte b (front ++ rest) n (not_in test 10 none b (All-head (λ x. IsTrue (test x)) b front h)) ∙ past test none front rest n (All-tail (λ x. IsTrue (test x)) b front h)

over_end : (end : LineEnd) (rest : List ℕ) (n : ℕ) → begins_beyond (suc n) (print_end end ++ rest) ≡ begins_beyond n rest
unfolding begins_beyond
over_end crlf rest n = refl
over_end lf rest n = refl

field_is : (f : Field) → print_field f ≡ f.name ++ (58 ∷ (f.raw ++ print_end f.end))
field_is f = append_assoc f.name (58 ∷ f.raw) (print_end f.end)

token_feed : is_token_byte 10 ≡ false
unfolding is_token_byte
token_feed = refl

over_field : (f : Field) (rest : List ℕ) (n : ℕ) → IsField f → begins_beyond (suc n) (print_field f ++ rest) ≡ begins_beyond n rest
over_field f rest n is =
    let front : print_field f ++ rest ≡ f.name ++ (58 ∷ ((f.raw ++ print_end f.end) ++ rest)) = ap (λ x. x ++ rest) (field_is f) ∙ append_assoc f.name (58 ∷ (f.raw ++ print_end f.end)) rest in
    let value : (f.raw ++ print_end f.end) ++ rest ≡ f.raw ++ (print_end f.end ++ rest) = append_assoc f.raw (print_end f.end) rest in
    let name = past is_token_byte token_feed f.name (58 ∷ (f.raw ++ (print_end f.end ++ rest))) n is.name.1 in
    let colon = over_byte 58 (f.raw ++ (print_end f.end ++ rest)) n refl in
    let raw = past is_value_byte refl f.raw (print_end f.end ++ rest) n is.raw in
    ap (begins_beyond (suc n)) front ∙ ap (λ x. begins_beyond (suc n) (f.name ++ (58 ∷ x))) value ∙ name ∙ colon ∙ raw ∙ over_end f.end rest n

over_fields : (fields : List Field) (rest : List ℕ) (n : ℕ) → All IsField fields → begins_beyond (length fields + n) (flat_map print_field fields ++ rest) ≡ begins_beyond n rest
over_fields [] rest n all = ap (λ k. begins_beyond k rest) (omega arith)
over_fields (f ∷ fields) rest n all =
    let count : length (f ∷ fields) + n ≡ suc (length fields + n) = omega arith in
    ap (λ k. begins_beyond k (flat_map print_field (f ∷ fields) ++ rest)) count
    ∙ ap (begins_beyond (suc (length fields + n))) (append_assoc (print_field f) (flat_map print_field fields) rest)
    ∙ over_field f (flat_map print_field fields ++ rest) (length fields + n) (All-head IsField f fields all)
    ∙ over_fields fields rest n (All-tail IsField f fields all)

-- of 16 lines at most
over_some : (fields : List Field) (rest : List ℕ) → length fields ≤ 16 → All IsField fields → begins_beyond 16 (flat_map print_field fields ++ rest) ≡ begins_beyond (16 - length fields) rest
over_some fields rest few all =
    let count : 16 ≡ length fields + (16 - length fields) = omega (arith, few) in
    ap (λ k. begins_beyond k (flat_map print_field fields ++ rest)) count ∙ over_fields fields rest (16 - length fields) all

begins_empty : (n : ℕ) → begins_beyond n [] ≡ false
unfolding begins_beyond
begins_empty n = refl

begins_return : (n : ℕ) → begins_beyond n (13 ∷ []) ≡ false
unfolding begins_beyond
begins_return zero = refl
begins_return (suc n) = refl

-- what has begun goes on
still_by : (b n : ℕ) (text more : List ℕ) (t : Bool) → (b == 10) ≡ t → (begins_beyond n text ≡ true → begins_beyond n (text ++ more) ≡ true) → (begins_beyond (suc n) text ≡ true → begins_beyond (suc n) (text ++ more) ≡ true)
    → begins_beyond (suc n) (b ∷ text) ≡ true → begins_beyond (suc n) (b ∷ (text ++ more)) ≡ true
unfolding begins_beyond
still_by b n text more true k fed same h = rw k (fed (rw k at h))
still_by b n text more false k fed same h = rw k (same (rw k at h))

still_begins : (n : ℕ) (text more : List ℕ) → begins_beyond n text ≡ true → begins_beyond n (text ++ more) ≡ true
unfolding begins_beyond
still_begins n [] more e = absurd (let apart : false ≡ true = e in cc)
still_begins zero (b ∷ text) more e = e
still_begins (suc n) (b ∷ text) more e = still_by b n text more (b == 10) refl (still_begins n text more) (still_begins (suc n) text more) e

-- ---- equal lists, by their fronts

pub split : (p x s r : List ℕ) → p ++ x ≡ s ++ r → length p ≤ length s → (b : List ℕ) × (s ≡ p ++ b) × (x ≡ b ++ r)
split [] x s r e l = (s, refl, e)
split (a ∷ p) x [] r e l = absurd (omega (arith, l))
split (a ∷ p) x (c ∷ s) r e l =
    let behind : p ++ x ≡ s ++ r = cc in
    let it = split p x s r behind (omega (arith, l)) in
    let same : c ≡ a = cc in
    (it.0, (ap (λ y. y ∷ s) same ∙ ap (λ y. a ∷ y) it.1), it.2)

some_of : (p b : List ℕ) → length p < length (p ++ b) → 0 < length b
some_of p b l = let long = length-append p b in omega (arith, l, long)

-- ---- a seventeenth field

-- a name begins with no line end
first_byte : (name tail b more : List ℕ) → 0 < length name → AllPass is_token_byte name → name ++ tail ≡ b ++ more → 0 < length b → begins_beyond 0 b ≡ true
unfolding begins_beyond is_token_byte
first_byte [] tail b more some all e one = absurd (omega (arith, some))
first_byte (n ∷ name) tail [] more some all e one = absurd (omega (arith, one))
first_byte (n ∷ name) tail (c ∷ b) more some all e one =
    let same : n ≡ c = cc in
    let other = not_in is_token_byte 13 refl n (All-head (λ x. IsTrue (is_token_byte x)) n name all) in
    rw (subst (λ x. (x == 13) ≡ false) same other) refl

-- what is behind 16 fields and begins another one shows it
shows : (fields : List Field) (last : LineEnd) (b more : List ℕ) → 0 < length fields → All IsField fields → print_section fields last ≡ b ++ more → 0 < length b → begins_beyond 0 b ≡ true
shows [] last b more some all e one = absurd (omega (arith, some))
shows (f ∷ fields) last b more some all e one =
    let is = All-head IsField f fields all in
    let behind = flat_map print_field fields ++ print_end last in
    let whole : print_section (f ∷ fields) last ≡ print_field f ++ behind = append_assoc (print_field f) (flat_map print_field fields) (print_end last) in
    let front : print_field f ++ behind ≡ f.name ++ (58 ∷ ((f.raw ++ print_end f.end) ++ behind)) = ap (λ x. x ++ behind) (field_is f) ∙ append_assoc f.name (58 ∷ (f.raw ++ print_end f.end)) behind in
    first_byte f.name (58 ∷ ((f.raw ++ print_end f.end) ++ behind)) b more is.name.0 is.name.1 (sym front ∙ sym whole ∙ e) one

-- the first of the fields, and the others
print_parts : (n : ℕ) (fields : List Field) (last : LineEnd) → print_section fields last ≡ flat_map print_field (take n fields) ++ print_section (drop n fields) last
print_parts zero fields last = refl
print_parts (suc n) [] last = refl
print_parts (suc n) (f ∷ fields) last =
    append_assoc (print_field f) (flat_map print_field fields) (print_end last) ∙ ap (λ x. print_field f ++ x) (print_parts n fields last)
    ∙ sym (append_assoc (print_field f) (flat_map print_field (take n fields)) (print_section (drop n fields) last))

-- the first of some fields are as many, or fewer
few_of : (n : ℕ) (fields : List Field) → length (take n fields) ≤ n
few_of zero fields = omega arith
few_of (suc n) [] = omega arith
few_of (suc n) (f ∷ fields) = let rest = few_of n fields in omega (arith, rest)

long_of : (n : ℕ) (fields : List Field) → n < length fields → (length (take n fields) ≡ n) × (0 < length (drop n fields))
long_of zero fields l = (refl, l)
long_of (suc n) [] l = absurd (omega (arith, l))
long_of (suc n) (f ∷ fields) l = let rest = long_of n fields (omega (arith, l)) in (ap suc rest.0, rest.1)

-- ---- where none has begun, some bytes make a head of what can become a block of fields

record Whole (seen more : List ℕ) (fields : List Field) (last : LineEnd) : Type 0 where
  all : All IsField fields
  text : seen ++ more ≡ print_section fields last

abbrev pub IsContinued : List ℕ → Type 0
IsContinued seen = (more : List ℕ) × (fields : List Field) × IsHead (seen ++ more) fields []

by_few : (seen more : List ℕ) (fields : List Field) (last : LineEnd) → Whole seen more fields last → length fields ≤ 16 → IsContinued seen
by_few seen more fields last w few = (more, fields, record { last = last; reads = (w.all, w.text ∙ sym (append-nil (print_section fields last))); few = few })

by_front : (seen more : List ℕ) (fields : List Field) (last : LineEnd) → Whole seen more fields last → length seen ≤ length (flat_map print_field (take 16 fields)) → IsContinued seen
by_front seen more fields last w within =
    let front = flat_map print_field (take 16 fields) in
    let it = split seen more front (print_section (drop 16 fields) last) (w.text ∙ print_parts 16 fields last) within in (
      it.0 ++ print_end lf,
      take 16 fields,
      record {
        last = lf;
        reads = (All-take IsField 16 fields w.all, sym (append_assoc seen it.0 (print_end lf)) ∙ ap (λ x. x ++ print_end lf) (sym it.1) ∙ sym (append-nil (print_section (take 16 fields) lf)));
        few = few_of 16 fields;
      },
    )

by_more : (seen more : List ℕ) (fields : List Field) (last : LineEnd) → Whole seen more fields last → 16 < length fields → length (flat_map print_field (take 16 fields)) < length seen → begins_beyond 16 seen ≡ true
by_more seen more fields last w many beyond =
    let front = flat_map print_field (take 16 fields) in
    let it = split front (print_section (drop 16 fields) last) seen more (sym (w.text ∙ print_parts 16 fields last)) (omega (arith, beyond)) in
    let long = long_of 16 fields many in
    let some : 0 < length it.0 = some_of front it.0 (subst (λ x. length front < length x) it.1 beyond) in
    let begun = shows (drop 16 fields) last it.0 more long.1 (All-drop IsField 16 fields w.all) it.2 some in
    let over = over_some (take 16 fields) it.0 (few_of 16 fields) (All-take IsField 16 fields w.all) in
    let count : 16 - length (take 16 fields) ≡ 0 = let l = long.0 in omega (arith, l) in
    ap (begins_beyond 16) it.1 ∙ over ∙ ap (λ k. begins_beyond k it.0) count ∙ begun

pub continued : (seen : List ℕ) → MayBecomeSection seen → begins_beyond 16 seen ≡ false → IsContinued seen
continued seen may none = by_count (nat_le (length may.1) 16) refl
  where
    w : Whole seen may.0 may.1 may.2
    w = record { all = may.3.0; text = may.3.1 ∙ append-nil (print_section may.1 may.2) }

    by_length : (b : Bool) → nat_le (length seen) (length (flat_map print_field (take 16 may.1))) ≡ b → 16 < length may.1 → IsContinued seen
    by_length true e many = by_front seen may.0 may.1 may.2 w (grind (arith, nat_tests, e))
    by_length false e many = absurd (let begun = by_more seen may.0 may.1 may.2 w many (grind (arith, nat_tests, e)) in cc)

    by_count : (b : Bool) → nat_le (length may.1) 16 ≡ b → IsContinued seen
    by_count true e = by_few seen may.0 may.1 may.2 w (grind (arith, nat_tests, e))
    by_count false e = by_length (nat_le (length seen) (length (flat_map print_field (take 16 may.1)))) refl (grind (arith, nat_tests, e))

-- ---- where one has begun, nothing makes one of it

-- a head that ends within what is seen is in it
ends_within : (seen more : List ℕ) (fields : List Field) (last : LineEnd) (q behind : List ℕ) → HasNoSection seen → All IsField fields → seen ≡ flat_map print_field fields ++ q → print_end last ++ behind ≡ q ++ more → length (print_end last) ≤ length q → ⊥
ends_within seen more fields last q behind none all is e long =
    let it = split (print_end last) behind q more e long in
    none fields last it.0 (all, is ∙ ap (λ x. flat_map print_field fields ++ x) it.1 ∙ sym (append_assoc (flat_map print_field fields) (print_end last) it.0))

-- a part of its last line is a carriage return, which begins no field
ends_beyond : (last : LineEnd) (q more behind : List ℕ) (n : ℕ) → print_end last ++ behind ≡ q ++ more → length q < length (print_end last) → begins_beyond n q ≡ false
ends_beyond last [] more behind n e short = begins_empty n
ends_beyond lf (b ∷ q) more behind n e short = absurd (omega (arith, short))
ends_beyond crlf (b ∷ []) more behind n e short = let same : b ≡ 13 = cc in ap (λ x. begins_beyond n (x ∷ [])) same ∙ begins_return n
ends_beyond crlf (b ∷ c ∷ q) more behind n e short = absurd (omega (arith, short))

pub never : (seen : List ℕ) → HasNoSection seen → begins_beyond 16 seen ≡ true → (more : List ℕ) (fields : List Field) (behind : List ℕ) → IsHead (seen ++ more) fields behind → ⊥
never seen none begun more fields behind h = by_length (nat_le (length seen) (length front)) refl
  where
    front : List ℕ
    front = flat_map print_field fields

    text : front ++ (print_end h.last ++ behind) ≡ seen ++ more
    text = sym (h.reads.1 ∙ append_assoc front (print_end h.last) behind)

    within : length seen ≤ length front → ⊥
    within l =
        let it = split seen more front (print_end h.last ++ behind) (sym text) l in
        let whole = still_begins 16 seen it.0 begun in
        let over = over_some fields [] h.few h.reads.0 ∙ begins_empty (16 - length fields) in
        let there : begins_beyond 16 (front ++ []) ≡ true = ap (begins_beyond 16) (append-nil front ∙ it.1) ∙ whole in
        cc

    by_end : (q : List ℕ) → seen ≡ front ++ q → print_end h.last ++ behind ≡ q ++ more → (b : Bool) → nat_le (length (print_end h.last)) (length q) ≡ b → ⊥
    by_end q is e true l = ends_within seen more fields h.last q behind none h.reads.0 is e (grind (arith, nat_tests, l))
    by_end q is e false l =
        let over = over_some fields q h.few h.reads.0 in
        let not_begun = ends_beyond h.last q more behind (16 - length fields) e (grind (arith, nat_tests, l)) in
        let there : begins_beyond 16 (front ++ q) ≡ true = ap (begins_beyond 16) (sym is) ∙ begun in
        cc

    by_length : (b : Bool) → nat_le (length seen) (length front) ≡ b → ⊥
    by_length true l = within (grind (arith, nat_tests, l))
    by_length false l =
        let it = split front (print_end h.last ++ behind) seen more text (grind (arith, nat_tests, l)) in
        by_end it.0 it.1 it.2 (nat_le (length (print_end h.last)) (length it.0)) refl
