-- The text of an object is read back where each of its members is.
use Rattle.std.proofs.Common.{◌≡◌, ℕ, suc, ◌≤◌, ◌<◌, ◌+◌, ◌/◌, ◌%◌, ◌∷◌, [], zero, List, get_or, true, Ordering, Less, Equal, Greater, nat_cmp, Some, IsUtf8, refl, ap, ◌∙◌, arith}
use Rattle.std.specs.Prelude.{⊤}
use Rattle.std.specs.Ordering.{match_ordering}
use Rattle.std.specs.Cmp.Lexicographic.{slice_cmp}
use Rattle.std.specs.List.{AllByRecursion}
use Rattle.std.proofs.lemmas.Str.{IsUtf8-append, IsUtf8-from_ascii}
use Rattle.std.proofs.lemmas.Fmt.{IsAscii-decimal}
use Rattle.json.proofs.Printed.Utf8.{IsUtf8-are_ascii, are_ascii}
use Rattle.bv_core.specs.Value.{Bits, IsBits}
use Rattle.bv_core.specs.Text.{hex_digit, hex_digits, shown}
use Rattle.serde_json.specs.Data.{Data, Members, member, no_members, object, put, string}
use Rattle.serde_json.specs.Read.{of_members}
use Rattle.serde_json.specs.Written.{compact_text, members_outline}
use Rattle.symtab_json.specs.Files.{list_json}
use Rattle.symtab_json.specs.Told.{json_of}
use Rattle.symtab_json.proofs.Rounds.{Round, json_back, member_back, round_end, round_list, round_member, round_object, round_string}
use Rattle.req_json.specs.Objects.{one_member, two_members, with_member}

-- every member is read back
abbrev pub AllRound : ℕ → Members → Type 0
AllRound n no_members = ⊤
AllRound n (member k d ms) = (IsUtf8 k × Round n d) × AllRound n ms

all_at : (n : ℕ) (o : Ordering) (a b c : Members) → AllRound n a → AllRound n b → AllRound n c → AllRound n (match_ordering o a b c)
all_at n Less a b c ha hb hc = ha
all_at n Equal a b c ha hb hc = hb
all_at n Greater a b c ha hb hc = hc

pub all_with : (n : ℕ) (k : List ℕ) (d : Data) (ms : Members) → are_ascii k ≡ true → Round n d → AllRound n ms → AllRound n (with_member k d ms)
unfolding with_member
all_with n k d no_members key of h = ((IsUtf8-are_ascii k key, of), tt)
all_with n k d (member l e ms) key of h =
    all_at n (slice_cmp nat_cmp k l) (member k d (member l e ms)) (member l d ms) (member l e (put k d ms))
    ((IsUtf8-are_ascii k key, of), h) ((h.0.0, of), h.1) (h.0, all_with n k d ms key of h.1)

pub all_one : (n : ℕ) (k : List ℕ) (d : Data) → are_ascii k ≡ true → Round n d → AllRound n (one_member k d)
all_one n k d key of = all_with n k d no_members key of tt

pub all_two : (n : ℕ) (k : List ℕ) (d : Data) (l : List ℕ) (e : Data) → are_ascii k ≡ true → Round n d → are_ascii l ≡ true → Round n e → AllRound n (two_members k d l e)
all_two n k d l e key of next_key next = all_with n l e (one_member k d) next_key next (all_one n k d key of)

-- ---- whole objects

-- what the members come to, put in one after another
abbrev pub put_all : Members → Members → Members
put_all no_members found = found
put_all (member k d ms) found = put_all ms (put k d found)

back_all : (n : ℕ) (ms found : Members) → AllRound n ms → of_members (members_outline ms) found ≡ Some (put_all ms found)
back_all n no_members found h = refl
back_all n (member k d ms) found h = member_back n k d ms found h.0.1 ∙ back_all n ms (put k d found) h.1

by_member : (n : ℕ) (P : Members → Type 0) → P no_members → ((k : List ℕ) (d : Data) (ms : Members) → IsUtf8 k → Round n d → P ms → P (member k d ms)) → (ms : Members) → AllRound n ms → P ms
by_member n P none more no_members h = none
by_member n P none more (member k d ms) h = more k d ms h.0.0 h.0.1 (by_member n P none more ms h.1)

pub object_round : (n : ℕ) (ms : Members) → put_all ms no_members ≡ ms → AllRound n ms → Round (suc n) (object ms)
object_round n ms again h = round_object n ms (back_all n ms no_members h ∙ ap Some again) (by_member n _ (round_end n) (round_member n) ms h)

raised : (m n : ℕ) (d : Data) → m ≤ n → Round m d → Round n d
raised m n d more of = record { back = of.back; numbers = of.numbers; utf8 = of.utf8; deep = omega (arith, of.deep, more) }

-- an object of members that nest three deep at most
pub text_back : (ms : Members) → put_all ms no_members ≡ ms → AllRound 3 ms → json_of (compact_text (object ms)) ≡ Some (object ms)
text_back ms again h = json_back (object ms) (raised 4 127 (object ms) (omega arith) (object_round 3 ms again h))

-- ---- values as they are printed

ascii_hex : (d : ℕ) → d < 16 → hex_digit d < 128
ascii_hex d l = grind arith

one_ascii : (x i : ℕ) → x < 128 → get_or (x ∷ []) i 0 < 128
one_ascii x zero h = h
one_ascii x (suc i) h = omega arith

digits_utf8 : (count n : ℕ) → IsUtf8 (hex_digits count n)
unfolding hex_digits
digits_utf8 zero n = IsUtf8-are_ascii _ refl
digits_utf8 (suc count) n = IsUtf8-append (hex_digits count (n / 16)) _ (digits_utf8 count (n / 16)) (IsUtf8-from_ascii (hex_digit (n % 16) ∷ []) (λ i. one_ascii (hex_digit (n % 16)) i (ascii_hex (n % 16) (let l : n % 16 < 16 = omega arith in l))))

bits_utf8 : (bits : Bits) → IsBits bits → IsUtf8 (shown bits)
bits_utf8 bits h =
    IsUtf8-append _ _ (IsUtf8-append _ _ (IsUtf8-from_ascii _ (IsAscii-decimal bits.width (omega (arith, h.most)))) (IsUtf8-are_ascii _ refl)) (digits_utf8 ((bits.width + 3) / 4) bits.value)

pub bits_round : (n : ℕ) (bits : Bits) → IsBits bits → Round n (string (shown bits))
bits_round n bits h = round_string n (shown bits) (bits_utf8 bits h)

-- ---- lists

along : {A : Type 0} (n : ℕ) (P : A → Type 0) (tree : A → Data) → ((x : A) → P x → Round n (tree x)) → (xs : List A) → AllByRecursion P xs → AllByRecursion (λ x. Round n (tree x)) xs
along n P tree one [] h = tt
along n P tree one (x ∷ xs) h = (one x h.0, along n P tree one xs h.1)

pub each_round : {A : Type 0} (n : ℕ) (P : A → Type 0) (tree : A → Data) → ((x : A) → P x → Round n (tree x)) → (xs : List A) → AllByRecursion P xs → Round (suc n) (list_json tree xs)
each_round n P tree one xs h = round_list n tree xs (along n P tree one xs h)

pub word_round : (n : ℕ) (word : List ℕ) → are_ascii word ≡ true → Round n (string word)
word_round n word e = round_string n word (IsUtf8-are_ascii word e)
