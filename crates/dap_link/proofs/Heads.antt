-- What the reader of header fields tells of the first 4,096 bytes of a text, it tells of the text.
use Rattle.std.proofs.Common.{◌≡◌, ◌≢◌, ℕ, ◌+◌, ◌<◌, ◌≤◌, Bool, true, false, nat_le, cond, List, [], ◌∷◌, ◌++◌, length, min, take, drop, map, refl, sym, ap, ◌∙◌, subst, append-nil, length-append, length-drop, arith, ◌⊎◌, inl, inr, ⊎_elim, Option, Some, None}
use Rattle.std.specs.Prelude.{Ok, filter}
use Rattle.std.proofs.lemmas.Bool.Decides.{nat_tests}
use Rattle.std.proofs.lemmas.List.{drop-append-le, length-map, length-take, length-take-le, take-append-drop}
use Rattle.text_core.specs.Digits.{number_of}
use Rattle.httparse.specs.Grammar.{LineEnd, Field, field_value, print_section, ReadsSection, HasNoSection, MayBecomeSection}
use Rattle.httparse.specs.Spans.{header_bytes, name_and_value, IsSectionWithin, IsSectionOf, SectionOverflows}
use Rattle.httparse.specs.declared.spans.HeaderSpan.{HeaderSpan}
use Rattle.httparse.specs.declared.Status.{Status}
use Rattle.httparse.specs.declared.Status.TheVariants.{Complete}
use Rattle.httparse.specs.Outcome.{IfComplete}
use Rattle.httparse.proofs.GrammarLemmas.{ReadsSection-append}
use Rattle.dap_link.specs.declared.head.Front.TheVariants.{Fault, Body}
use Rattle.dap_link.specs.Frames.{IsHead, HasHead, IsBadHead, TellsLength, tells_length, lengths_in, most_body}
use Rattle.dap_link.specs.Heads.{begins_beyond, told_once, length_told, IsSeen, IsFront, IsHeadless, IsHeadFault}
use Rattle.dap_link.proofs.Lines.{split, continued, never}

empty : (text : List ℕ) → length text ≡ 0 → text ≡ []
empty [] e = refl
empty (byte ∷ bytes) e = absurd (omega arith)

-- where all is seen, the text is what is seen
whole_seen : (seen text : List ℕ) → (s : IsSeen seen text) → length s.rest ≡ 0 → text ≡ seen
whole_seen seen text s e = s.whole ∙ ap (λ x. seen ++ x) (empty s.rest e) ∙ append-nil seen

-- ---- a head of a text that is short is seen

record Seen (seen : List ℕ) (fields : List Field) (last : LineEnd) : Type 0 where
  behind : List ℕ
  reads : ReadsSection seen fields last behind

head_seen : (seen text : List ℕ) → IsSeen seen text → (fields : List Field) (behind : List ℕ) → (h : HasHead text fields behind) → Seen seen fields h.head.last
head_seen seen text s fields behind h =
    let printed = print_section fields h.head.last in
    let text_is : text ≡ printed ++ behind = h.head.reads.1 in
    let long : length text ≡ length printed + length behind = ap length text_is ∙ length-append printed behind in
    let seen_long : length text ≡ length seen + length s.rest = ap length s.whole ∙ length-append seen s.rest in
    let short = h.short in
    let within : length printed ≤ length seen = ⊎_elim (λ e. omega (arith, long, seen_long, e)) (λ e. omega (arith, long, seen_long, short, e)) s.all in
    let it = split printed behind seen s.rest (sym text_is ∙ s.whole) within in
    record { behind = it.0; reads = (h.head.reads.0, it.1) }

-- ---- no head, and none to come

long_enough : (seen text : List ℕ) → IsSeen seen text → length seen ≡ 4096 → 4096 ≤ length text
long_enough seen text s e = let long = ap length s.whole ∙ length-append seen s.rest in omega (arith, long, e)

-- the reader refuses what is seen
pub overflows : (seen text : List ℕ) → SectionOverflows 16 seen → IsSeen seen text → IsBadHead text
overflows seen text over s = record {
  none = λ fields behind h.
      let there = head_seen seen text s fields behind h in
      let many = over [] fields h.head.last there.behind (subst (λ x. ReadsSection x fields h.head.last there.behind) (sym (append-nil seen)) there.reads) in
      let few = h.head.few in
      omega (arith, many, few);
  never = ⊎_elim
      (λ e. inr (λ more fields behind h.
      let many = over more fields h.last behind (subst (λ x. ReadsSection (x ++ more) fields h.last behind) (whole_seen seen text s e) h.reads) in
      let few = h.few in
      omega (arith, many, few)))
      (λ e. inl (long_enough seen text s e)) s.all;
}

no_head : (seen text : List ℕ) → HasNoSection seen → IsSeen seen text → (fields : List Field) (behind : List ℕ) → HasHead text fields behind → ⊥
no_head seen text none s fields behind h = let there = head_seen seen text s fields behind h in none fields h.head.last there.behind there.reads

-- so many bytes are seen, and no head
pub too_many_bytes : (seen text : List ℕ) → HasNoSection seen → length seen ≡ 4096 → IsSeen seen text → IsBadHead text
too_many_bytes seen text none e s = record { none = no_head seen text none s; never = inl (long_enough seen text s e) }

-- a seventeenth field has begun
pub too_many_fields : (seen text : List ℕ) → HasNoSection seen → begins_beyond 16 seen ≡ true → IsSeen seen text → IsBadHead text
too_many_fields seen text none begun s = record {
  none = no_head seen text none s;
  never = ⊎_elim
      (λ e. inr (λ more fields behind h. never seen none begun more fields behind (subst (λ x. IsHead (x ++ more) fields behind) (whole_seen seen text s e) h)))
      (λ e. inl (long_enough seen text s e)) s.all;
}

-- what is seen is all, and can become a head
pub headless : (seen text : List ℕ) → HasNoSection seen → MayBecomeSection seen → length seen ≢ 4096 → begins_beyond 16 seen ≡ false → IsSeen seen text → IsHeadless text
headless seen text none may short few s = record {
  none = no_head seen text none s;
  more = λ bad. ⊎_elim (λ all. by_all bad (whole_seen seen text s all)) (λ e. short e) s.all;
}
  where
    by_all : IsBadHead text → text ≡ seen → ⊥
    by_all bad is = ⊎_elim
        (λ (long : 4096 ≤ length text). let l = ap length is in let most = s.few in short (omega (arith, l, most, long)))
        (λ (no : (more : List ℕ) (fields : List Field) (behind : List ℕ) → IsHead (text ++ more) fields behind → ⊥).
        let c = continued seen may few in no c.0 c.1 [] (subst (λ x. IsHead (x ++ c.0) c.1 []) (sym is) c.2))
        bad.never

-- ---- a head

-- the value of the one field that tells a length
abbrev one_of : Option (List ℕ) → List (List ℕ) → Option (List ℕ)
one_of told [] = told
one_of None (value ∷ values) = one_of (Some value) values
one_of (Some told) (value ∷ values) = None

none_left : (told : Option (List ℕ)) → told ≡ one_of told []
none_left None = refl
none_left (Some told) = refl

first_of : (f : Field) (rest : List Field) (one two : Option (List ℕ)) → one ≡ one_of (Some (field_value f)) (map field_value rest) → two ≡ one_of None (map field_value rest)
    → (b : Bool) → cond b one two ≡ one_of None (map field_value (cond b (f ∷ rest) rest))
first_of f rest one two first other true = first
first_of f rest one two first other false = other

next_of : (f : Field) (rest : List Field) (told : List ℕ) (without : Option (List ℕ)) → without ≡ one_of (Some told) (map field_value rest) → (b : Bool) → cond b None without ≡ one_of (Some told) (map field_value (cond b (f ∷ rest) rest))
next_of f rest told without other true = refl
next_of f rest told without other false = other

told_is : (told : Option (List ℕ)) (fields : List Field) → told_once told (map name_and_value fields) ≡ one_of told (lengths_in fields)
unfolding told_once
told_is told [] = none_left told
told_is None (f ∷ fields) = first_of f (filter tells_length fields) (told_once (Some (field_value f)) (map name_and_value fields)) (told_once None (map name_and_value fields)) (told_is (Some (field_value f)) fields) (told_is None fields) (tells_length f)
told_is (Some told) (f ∷ fields) = next_of f (filter tells_length fields) told (told_once (Some told) (map name_and_value fields)) (told_is (Some told) fields) (tells_length f)

-- the reader tells a head
pub complete : (seen text : List ℕ) (at count : ℕ) (headers : List HeaderSpan) → IsSectionWithin seen headers at count → length headers ≡ 16 → IsSectionOf seen 0 headers (at, count) → IsSeen seen text
    → IsFront text (length_told at (told_once None (map (header_bytes seen) (take count headers))))
complete seen text at count headers within room section s = subst (λ o. IsFront text (length_told at o)) (sym told) (by_lengths (lengths_in fields) refl)
  where
    fields : List Field
    fields = section.0

    told : told_once None (map (header_bytes seen) (take count headers)) ≡ one_of None (lengths_in fields)
    told = ap (told_once None) section.2.fields_are ∙ told_is None fields

    behind : drop at text ≡ drop at seen ++ s.rest
    behind = ap (drop at) s.whole ∙ drop-append-le at seen s.rest within.len_fits

    few : length fields ≤ 16
    few =
        let same = ap length section.2.fields_are in
        let a = length-map (take count headers) (header_bytes seen) in
        let b = length-map fields name_and_value in
        let c = length-take-le count headers within.count_fits in
        let d = within.count_fits in
        omega (arith, same, a, b, c, d, room)

    reads : ReadsSection text fields section.1 (drop at text)
    reads = subst (λ x. ReadsSection x fields section.1 (drop at text)) (sym s.whole) (subst (λ x. ReadsSection (seen ++ s.rest) fields section.1 x) (sym behind) (ReadsSection-append (drop 0 seen) fields section.1 (drop at seen) s.rest section.2.reads))

    in_text : at ≤ length text
    in_text = let long = ap length s.whole ∙ length-append seen s.rest in let l = within.len_fits in omega (arith, long, l)

    head : HasHead text fields (drop at text)
    head = record {
      head = record { last = section.1; reads = reads; few = few };
      short = let l = length-drop at text in let w = within.len_fits in let f = s.few in let i = in_text in omega (arith, l, w, f, i);
    }

    tells : (digits : List ℕ) → lengths_in fields ≡ digits ∷ [] → TellsLength text (number_of 10 digits) (drop at text)
    tells digits one = record { fields = fields; head = head; digits = digits; one = one; number = refl }

    none : ((digits : List ℕ) → lengths_in fields ≢ digits ∷ []) → IsHeadFault text 2
    none other = inr (inl (refl, record { fields = fields; behind = drop at text; head = head; other = other }))

    by_number : (digits : List ℕ) → lengths_in fields ≡ digits ∷ [] → (b : Bool) → nat_le (number_of 10 digits) most_body ≡ b → IsFront text (cond b (Body at (number_of 10 digits)) (Fault 3))
    by_number digits one true k = record { within = in_text; fits = grind (arith, nat_tests, k); head = tells digits one }
    by_number digits one false k = inr (inr (refl, record { size = number_of 10 digits; behind = drop at text; head = tells digits one; long = grind (arith, nat_tests, k) }))

    by_lengths : (lengths : List (List ℕ)) → lengths_in fields ≡ lengths → IsFront text (length_told at (one_of None lengths))
    by_lengths [] e = none (λ digits k. let apart : [] ≡ digits ∷ [] = sym e ∙ k in cc)
    by_lengths (digits ∷ []) e = by_number digits e (nat_le (number_of 10 digits) most_body) refl
    by_lengths (digits ∷ second ∷ lengths) e = none (λ other k. let apart : digits ∷ second ∷ lengths ≡ other ∷ [] = sym e ∙ k in cc)

-- the first bytes of a text, up to 4,096
pub first_bytes : (text : List ℕ) (n : ℕ) → n ≡ min (length text) 4096 → IsSeen (take n text) text
first_bytes text n e = record {
  rest = drop n text;
  whole = sym (take-append-drop n text);
  few = let l = length-take n text in omega (arith, l, e);
  all = by_all (nat_le (length text) 4096) refl;
}
  where
    by_all : (b : Bool) → nat_le (length text) 4096 ≡ b → (length (drop n text) ≡ 0) ⊎ (length (take n text) ≡ 4096)
    by_all true k = inl (let l = length-drop n text in let m : length text ≤ 4096 = grind (arith, nat_tests, k) in omega (arith, l, e, m))
    by_all false k = inr (let l = length-take n text in let m : 4096 < length text = grind (arith, nat_tests, k) in omega (arith, l, e, m))

-- what holds of a complete answer
pub complete_told : (E : Type 0) (found : Status (ℕ × ℕ)) (at count : ℕ) (P : ℕ × ℕ → Type 0) → found ≡ Complete (at, count) → IfComplete {A = ℕ × ℕ} {E = E} (Ok found) P → P (at, count)
complete_told E found at count P e h = subst (λ x. IfComplete {A = ℕ × ℕ} {E = E} (Ok x) P) e h
