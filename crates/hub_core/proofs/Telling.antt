-- Lines for the clients that are here, and texts of notices, one more of them.
use Rattle.std.proofs.Common.{◌≡◌, ℕ, suc, ◌+◌, ◌<◌, ◌≤◌, Bool, true, false, List, [], ◌∷◌, ◌++◌, length, map, take, drop, get_or, sym, refl, ap, ◌∙◌, append_assoc, append-nil, add-one}
use Rattle.std.proofs.lemmas.List.{drop_more, drop_all, take_more, map-append}
use Rattle.machine_core.specs.declared.turn.Notice.{Notice}
use Rattle.machine_core.specs.Journal.{Noticed}
use Rattle.req_json.specs.Texts.{line_text, texts_of}
use Rattle.hub_core.specs.declared.line.Line.{Line}
use Rattle.hub_core.specs.Hubs.{line, for_one, to_each}

-- one more client was told
pub told_more : (here : List Bool) (k : ℕ) (text : List ℕ) (b : Bool) (lines grown total : List Line) → k < length here → b ≡ get_or here k false
    → grown ≡ lines ++ for_one b (line k text ∷ []) → lines ++ to_each k (drop k here) (text ∷ []) ≡ total
    → grown ++ to_each (k + 1) (drop (k + 1) here) (text ∷ []) ≡ total
unfolding to_each
told_more here k text b lines grown total within is e inv =
    ap (λ g. g ++ to_each (k + 1) (drop (k + 1) here) (text ∷ [])) e
    ∙ append_assoc lines (for_one b (line k text ∷ [])) (to_each (k + 1) (drop (k + 1) here) (text ∷ []))
    ∙ ap (λ l. lines ++ l) (sym (ap (λ d. to_each k d (text ∷ [])) (drop_more here k false within) ∙ ap (λ x. for_one x (line k text ∷ []) ++ to_each (suc k) (drop (k + 1) here) (text ∷ [])) (sym is) ∙ rw add-one refl))
    ∙ inv

pub told_all : (here : List Bool) (k : ℕ) (text : List ℕ) (lines total : List Line) → length here ≤ k → lines ++ to_each k (drop k here) (text ∷ []) ≡ total → lines ≡ total
unfolding to_each
told_all here k text lines total past inv = sym (append-nil lines) ∙ rw (drop_all k here past) at inv

pub told_none : (k : ℕ) (here : List Bool) → (let none : List Line = [] in none) ≡ to_each k here []
unfolding to_each
told_none k [] = refl
told_none k (b ∷ here) = by b (told_none (suc k) here)
  where
    by : (b : Bool) → (let none : List Line = [] in none) ≡ to_each (suc k) here [] → (let none : List Line = [] in none) ≡ for_one b [] ++ to_each (suc k) here []
    by true e = e
    by false e = e

-- one more notice
pub text_more : (notices : List Notice) (i : ℕ) (n : Notice) (texts grown : List (List ℕ)) → i < length notices → n ≡ get_or notices i n → grown ≡ texts ++ line_text (Noticed n) ∷ []
    → texts ≡ texts_of (map (λ k. Noticed k) (take i notices)) → grown ≡ texts_of (map (λ k. Noticed k) (take (i + 1) notices))
text_more notices i n texts grown within is e inv =
    e ∙ ap (λ l. l ++ line_text (Noticed n) ∷ []) inv
    ∙ sym (ap (λ ns. texts_of (map (λ k. Noticed k) ns)) (take_more notices i n within ∙ ap (λ k. take i notices ++ k ∷ []) (sym is))
    ∙ ap texts_of (map-append (λ k. Noticed k) (take i notices) (n ∷ [])) ∙ map-append line_text (map (λ k. Noticed k) (take i notices)) (Noticed n ∷ []))
