-- The texts of notices, when one is put last.
use Rattle.std.proofs.Common.{◌≡◌, ◌<◌, ◌+◌, ℕ, length, get_or, take, map, List, [], ◌∷◌, ◌++◌, sym, ◌∙◌, ap, append_assoc}
use Rattle.std.proofs.lemmas.List.{take_more, map-append}
use Rattle.machine_core.specs.declared.turn.Notice.{Notice}
use Rattle.machine_core.specs.Journal.{Noticed}
use Rattle.req_json.specs.Texts.{line_text, texts_of}

-- the texts of notices up to one of them, and its own
pub notices_more : (notices : List Notice) (i : ℕ) (n : Notice) (made : List (List ℕ)) → i < length notices → n ≡ get_or notices i n
    → made ++ texts_of (map (λ k. Noticed k) (take (i + 1) notices)) ≡ (made ++ texts_of (map (λ k. Noticed k) (take i notices))) ++ line_text (Noticed n) ∷ []
notices_more notices i n made within is =
    ap (λ ns. made ++ texts_of (map (λ k. Noticed k) ns)) (take_more notices i n within ∙ ap (λ k. take i notices ++ k ∷ []) (sym is))
    ∙ ap (λ ls. made ++ ls) (ap texts_of (map-append (λ k. Noticed k) (take i notices) (n ∷ [])) ∙ map-append line_text (map (λ k. Noticed k) (take i notices)) (Noticed n ∷ []))
    ∙ sym (append_assoc made (texts_of (map (λ k. Noticed k) (take i notices))) (line_text (Noticed n) ∷ []))
