-- Texts that are alike begin alike: names and numbers.
use Rattle.std.proofs.Common.{◌≡◌, ℕ, zero, suc, ◌+◌, ◌*◌, ◌/◌, ◌%◌, ◌^◌, ◌<◌, ◌≤◌, Bool, true, false, true≢false, ◌&&◌, ◌||◌, ◌==◌, List, [], ◌∷◌, ◌++◌, length, drop, get_or, codes, refl, sym, ap, ap₂, ◌∙◌, subst, arith, append_assoc, length-append}
use Rattle.std.specs.List.{list_all}
use Rattle.std.specs.Fmt.{decimal}
use Rattle.std.proofs.lemmas.Fmt.{decimal_injective, decimal_by_steps, decimal_nonempty}
use Rattle.std.proofs.lemmas.List.Folds.{list_all-append}
use Rattle.std.proofs.lemmas.Bool.Decides.{nat_tests}
use Rattle.std.proofs.Math.Nat.{pow-suc, pow-le-pow_right}
use Rattle.text_core.specs.Digits.{is_digit}
use Rattle.bv_core.specs.Value.{Bits, IsBits}
use Rattle.bv_core.specs.Text.{hex_digit, hex_digits, shown}
use Rattle.gen_token.specs.Bytes.{begins, is_letter, is_name_byte}
use Rattle.gen_token.specs.Spelling.{IsName}
use Rattle.verilog_out.specs.Syntax.{Identifier, Given, Numbered}
use Rattle.verilog_out.specs.Spelling.{identifier_text}
use Rattle.verilog_out.specs.Reading.{IsIdentifier}

-- what stands in front is the same, and so is the rest
pub record Alike {X : Type 0} (x y : X) (r s : List ℕ) : Type 0 where
  pub same : x ≡ y
  pub rest : r ≡ s

pub and_left : (b c : Bool) → (b && c) ≡ true → b ≡ true
and_left true c e = refl
and_left false c e = e

pub and_right : (b c : Bool) → (b && c) ≡ true → c ≡ true
and_right true c e = e
and_right false c e = absurd (true≢false (sym e))

-- the longest run of bytes that pass a test
pub runs : (p : ℕ → Bool) (xs ys r s : List ℕ) → list_all p xs ≡ true → list_all p ys ≡ true → begins p r ≡ false → begins p s ≡ false → xs ++ r ≡ ys ++ s → Alike xs ys r s
runs p [] [] r s a b c d e = record { same = refl; rest = e }
runs p [] (y ∷ ys) r s a b c d e = absurd (true≢false (sym (and_left (p y) (list_all p ys) b) ∙ sym (ap (begins p) e) ∙ c))
runs p (x ∷ xs) [] r s a b c d e = absurd (true≢false (sym (and_left (p x) (list_all p xs) a) ∙ ap (begins p) e ∙ d))
runs p (x ∷ xs) (y ∷ ys) r s a b c d e =
    let head : x ≡ y = ap (λ (l : List ℕ). get_or l 0 0) e in
    let rest : xs ++ r ≡ ys ++ s = ap (λ (l : List ℕ). drop 1 l) e in
    let more = runs p xs ys r s (and_right (p x) (list_all p xs) a) (and_right (p y) (list_all p ys) b) c d rest in
    record { same = ap₂ (λ (z : ℕ) (zs : List ℕ). z ∷ zs) head more.same; rest = more.rest }

-- fronts of one length
pub of_one_length : (xs ys r s : List ℕ) → length xs ≡ length ys → xs ++ r ≡ ys ++ s → Alike xs ys r s
of_one_length [] [] r s l e = record { same = refl; rest = e }
of_one_length [] (y ∷ ys) r s l e = absurd (omega arith)
of_one_length (x ∷ xs) [] r s l e = absurd (omega arith)
of_one_length (x ∷ xs) (y ∷ ys) r s l e =
    let head : x ≡ y = ap (λ (l : List ℕ). get_or l 0 0) e in
    let rest : xs ++ r ≡ ys ++ s = ap (λ (l : List ℕ). drop 1 l) e in
    let more = of_one_length xs ys r s (omega arith) rest in
    record { same = ap₂ (λ (z : ℕ) (zs : List ℕ). z ∷ zs) head more.same; rest = more.rest }

-- ---- numbers

one_digit : (n : ℕ) → n < 10 → list_all is_digit ((48 + n) ∷ []) ≡ true
one_digit n l = grind (arith, nat_tests)

both : (b c : Bool) → b ≡ true → c ≡ true → (b && c) ≡ true
both true c e f = f
both false c e f = e

pub decimal_digits : (n : ℕ) → n < 2 ^ 64 → list_all is_digit (decimal n) ≡ true
decimal_digits = decimal_by_steps (λ n ds. list_all is_digit ds ≡ true) one_digit
    (λ n ds l h. list_all-append is_digit ds ((48 + n % 10) ∷ []) ∙ both (list_all is_digit ds) (list_all is_digit ((48 + n % 10) ∷ [])) h (one_digit (n % 10) (omega arith)))

pub number_alike : (m n : ℕ) (r s : List ℕ) → m < 2 ^ 64 → n < 2 ^ 64 → begins is_digit r ≡ false → begins is_digit s ≡ false → decimal m ++ r ≡ decimal n ++ s → Alike m n r s
number_alike m n r s k l c d e =
    let a = runs is_digit (decimal m) (decimal n) r s (decimal_digits m k) (decimal_digits n l) c d e in
    record { same = decimal_injective m n k l a.same; rest = a.rest }

front_passes : (p : ℕ → Bool) (xs r : List ℕ) → 0 < length xs → list_all p xs ≡ true → p (get_or (xs ++ r) 0 0) ≡ true
front_passes p [] r l h = absurd (omega arith)
front_passes p (x ∷ xs) r l h = and_left (p x) (list_all p xs) h

pub number_begins : (n : ℕ) (r : List ℕ) → n < 2 ^ 64 → is_digit (get_or (decimal n ++ r) 0 0) ≡ true
number_begins n r l = front_passes is_digit (decimal n) r (decimal_nonempty n l) (decimal_digits n l)

-- ---- identifiers

letter_is : (b c d : Bool) → b ≡ true → (b || c || d) ≡ true
letter_is true c d e = refl
letter_is false c d e = absurd (true≢false (sym e))

pub name_bytes : (name : List ℕ) → IsName name → list_all is_name_byte name ≡ true
name_bytes [] is = absurd (true≢false (sym is.text))
name_bytes (byte ∷ bytes) is =
    both (is_name_byte byte) (list_all is_name_byte bytes)
    (letter_is (is_letter byte) (is_digit byte) (byte == 95) (and_left (is_letter byte) (list_all is_name_byte bytes) is.text))
    (and_right (is_letter byte) (list_all is_name_byte bytes) is.text)

pub identifier_alike : (x y : Identifier) (r s : List ℕ) → IsIdentifier x → IsIdentifier y → begins is_digit r ≡ false → begins is_digit s ≡ false → identifier_text x ++ r ≡ identifier_text y ++ s → Alike x y r s
identifier_alike (Given a) (Given b) r s p q c d e =
    let rest : (a ++ (32 ∷ [])) ++ r ≡ (b ++ (32 ∷ [])) ++ s = ap (λ (l : List ℕ). drop 1 l) e in
    let names = runs is_name_byte a b (32 ∷ r) (32 ∷ s) (name_bytes a p) (name_bytes b q) refl refl (sym (append_assoc a (32 ∷ []) r) ∙ rest ∙ append_assoc b (32 ∷ []) s) in
    record { same = ap Given names.same; rest = ap (λ (l : List ℕ). drop 1 l) names.rest }
identifier_alike (Numbered i) (Numbered j) r s p q c d e =
    let numbers = number_alike i j r s p q c d (ap (λ (l : List ℕ). drop 1 l) e) in
    record { same = ap Numbered numbers.same; rest = numbers.rest }
identifier_alike (Given a) (Numbered j) r s p q c d e = absurd (true≢false (ap (λ (l : List ℕ). get_or l 0 0 == 92) e))
identifier_alike (Numbered i) (Given b) r s p q c d e = absurd (true≢false (sym (ap (λ (l : List ℕ). get_or l 0 0 == 92) e)))

-- ---- values

hex_length : (count n : ℕ) → length (hex_digits count n) ≡ count
unfolding hex_digits
hex_length zero n = refl
hex_length (suc count) n = length-append (hex_digits count (n / 16)) (hex_digit (n % 16) ∷ []) ∙ (let e = hex_length count (n / 16) in omega arith)

one_hex : (m n : ℕ) → m < 16 → n < 16 → hex_digit m ≡ hex_digit n → m ≡ n
one_hex m n k l e = grind (arith, nat_tests)

hex_alike : (count m n : ℕ) → m < 2 ^ (4 * count) → n < 2 ^ (4 * count) → hex_digits count m ≡ hex_digits count n → m ≡ n
unfolding hex_digits
hex_alike zero m n k l e = omega arith
hex_alike (suc count) m n k l e =
    let a = of_one_length (hex_digits count (m / 16)) (hex_digits count (n / 16)) (hex_digit (m % 16) ∷ []) (hex_digit (n % 16) ∷ []) (hex_length count (m / 16) ∙ sym (hex_length count (n / 16))) e in
    let four : 2 ^ (4 * suc count) ≡ 16 * 2 ^ (4 * count) = sixteen (4 * count) (4 * suc count) (omega arith) in
    let high = hex_alike count (m / 16) (n / 16) (omega arith) (omega arith) a.same in
    let low = one_hex (m % 16) (n % 16) (omega arith) (omega arith) (ap (λ (l : List ℕ). get_or l 0 0) a.rest) in
    omega arith
  where
    sixteen : (a b : ℕ) → b ≡ suc (suc (suc (suc a))) → 2 ^ b ≡ 16 * 2 ^ a
    sixteen a b e = ap (λ k. 2 ^ k) e ∙ omega (arith, pow-suc 2 a, pow-suc 2 (suc a), pow-suc 2 (suc (suc a)), pow-suc 2 (suc (suc (suc a))))

value_below : (b : Bits) → IsBits b → b.value < 2 ^ (4 * ((b.width + 3) / 4))
value_below b is =
    let fits = is.fits in
    let wide : b.width ≤ 4 * ((b.width + 3) / 4) = omega arith in
    let most : 2 ^ b.width ≤ 2 ^ (4 * ((b.width + 3) / 4)) = pow-le-pow_right {n = 2} (omega arith) {i = b.width} {j = 4 * ((b.width + 3) / 4)} wide in
    omega arith

pub three : (a b c r : List ℕ) → ((a ++ b) ++ c) ++ r ≡ a ++ (b ++ (c ++ r))
three a b c r = append_assoc (a ++ b) c r ∙ append_assoc a b (c ++ r)

pub value_alike : (a b : Bits) (r s : List ℕ) → IsBits a → IsBits b → shown a ++ r ≡ shown b ++ s → Alike a b r s
value_alike a b r s p q e =
    let k = p.most in
    let l = q.most in
    let widths = number_alike a.width b.width _ _ (omega arith) (omega arith) refl refl
    (sym (three (decimal a.width) (codes "'h") (hex_digits ((a.width + 3) / 4) a.value) r) ∙ e ∙ three (decimal b.width) (codes "'h") (hex_digits ((b.width + 3) / 4) b.value) s) in
    let count : (a.width + 3) / 4 ≡ (b.width + 3) / 4 = ap (λ w. (w + 3) / 4) widths.same in
    let rest : hex_digits ((a.width + 3) / 4) a.value ++ r ≡ hex_digits ((b.width + 3) / 4) b.value ++ s = ap (λ (l : List ℕ). drop 2 l) widths.rest in
    let digits = of_one_length (hex_digits ((a.width + 3) / 4) a.value) (hex_digits ((b.width + 3) / 4) b.value) r s (hex_length ((a.width + 3) / 4) a.value ∙ count ∙ sym (hex_length ((b.width + 3) / 4) b.value)) rest in
    let values = hex_alike ((b.width + 3) / 4) a.value b.value (subst (λ n. a.value < 2 ^ (4 * n)) count (value_below a p)) (value_below b q) (ap (λ n. hex_digits n a.value) (sym count) ∙ digits.same) in
    record { same = λ i. record { width = widths.same i; value = values i }; rest = digits.rest }
