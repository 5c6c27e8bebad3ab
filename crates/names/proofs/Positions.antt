-- The place of a text among texts.
use Rattle.std.proofs.Common.{◌≡◌, ℕ, ◌<◌, true, cond, List, [], Option, Some, None, Contains, IsSome, IfSome, ◌↔◌, length, get_or, bytes_eq, position, refl, sym, ap, ◌∙◌, subst, arith, lt-ltb, ⊎_elim}
use Rattle.std.specs.List.{slice_get, position_or_len}
use Rattle.std.proofs.lemmas.Bool.{false≢true, cases_lt}
use Rattle.std.proofs.lemmas.List.Quantifiers.{position-Some}
use Rattle.std.proofs.lemmas.List.Sums.{fails_before_first}
use Rattle.std.proofs.lemmas.Option.{slice_get-get_or}
use Rattle.std.proofs.lemmas.Slice.Eq.{bytes_eq-Decides}

-- what stands at the place is the text
pub text_at : (text : List ℕ) (texts : List (List ℕ)) (found : Option ℕ) → found ≡ position (bytes_eq text) texts → IfSome found (λ place. slice_get texts place ≡ Some text)
text_at text texts None is = tt
text_at text texts (Some place) is =
    let at = position-Some (bytes_eq text) texts place [] (sym is) in
    slice_get-get_or texts place [] at.0 ∙ ap (λ (t : List ℕ). Some t) (sym ((bytes_eq-Decides _ _).0 at.1))

-- a place is found where the text is among them
pub text_there : (text : List ℕ) (texts : List (List ℕ)) (found : Option ℕ) → found ≡ position (bytes_eq text) texts → IsSome found ↔ Contains texts text
text_there text texts found is = (among found is, there)
  where
    among : (found : Option ℕ) → found ≡ position (bytes_eq text) texts → IsSome found → Contains texts text
    among None is some = absurd (false≢true some)
    among (Some place) is some =
        let at = position-Some (bytes_eq text) texts place text (sym is) in
        (place, at.0, sym ((bytes_eq-Decides _ _).0 at.1))

    there : Contains texts text → IsSome found
    there held =
        let same : bytes_eq text (get_or texts held.0 text) ≡ true = (bytes_eq-Decides _ _).1 (sym held.2) in
        let first : position_or_len (bytes_eq text) texts < length texts =
        ⊎_elim (λ below. below) (λ past. absurd (false≢true (sym (fails_before_first (bytes_eq text) texts held.0 text (omega (arith, held.1, past))) ∙ same))) (cases_lt (position_or_len (bytes_eq text) texts) (length texts)) in
        let some : position (bytes_eq text) texts ≡ Some (position_or_len (bytes_eq text) texts) =
        ap (λ b. cond b (Some (position_or_len (bytes_eq text) texts)) None) (lt-ltb _ _ first) in
        subst (λ (o : Option ℕ). IsSome o) (sym (is ∙ some)) refl
