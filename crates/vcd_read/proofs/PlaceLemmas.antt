-- The variables of a scope.
use Rattle.std.proofs.Common.{◌≡◌, ℕ, ◌+◌, ◌<◌, ◌≤◌, Bool, true, false, cond, List, [], ◌∷◌, ◌++◌, length, map, drop, get_or, refl, ap, sym, ◌∙◌, arith}
use Rattle.std.specs.Prelude.{bytes_eq, if◌then◌else◌}
use Rattle.std.proofs.lemmas.List.{append_assoc, get_or-map, drop_more}
use Rattle.std.proofs.lemmas.List.Elements.{All-head, All-tail}
use Rattle.vcd_read.specs.Head.{Var}
use Rattle.vcd_read.specs.Scopes.{path_at, places_from}
use Rattle.vcd_read.specs.Nesting.{Numbered, placed, ArePlaced}

-- one place more, or none
pub places-step : {X : Type 0} (test : X → Bool) (xs : List X) (places all : List ℕ) (i : ℕ) (d : X) → i < length xs → places ++ places_from i test (drop i xs) ≡ all
    → (if test (get_or xs i d) then places ++ i ∷ [] else places) ++ places_from (i + 1) test (drop (i + 1) xs) ≡ all
places-step test xs places all i d below are =
    by_test (test (get_or xs i d)) (ap (λ rest. places ++ places_from i test rest) (sym (drop_more xs i d below)) ∙ are)
  where
    by_test : (b : Bool) → places ++ (if b then i ∷ places_from (i + 1) test (drop (i + 1) xs) else places_from (i + 1) test (drop (i + 1) xs)) ≡ all
        → (if b then places ++ i ∷ [] else places) ++ places_from (i + 1) test (drop (i + 1) xs) ≡ all
    by_test true e = append_assoc places (i ∷ []) (places_from (i + 1) test (drop (i + 1) xs)) ∙ e
    by_test false e = e

-- marks of paths tell what stands in a scope
pub places-marked : (paths : List (List ℕ)) (vars : List Numbered) (text : List ℕ) (marks : List Bool) (place : ℕ) → ArePlaced (length paths) vars
    → marks ≡ map (λ other. bytes_eq other text) ([] ∷ paths)
    → places_from place (λ var. get_or marks var.scope false) vars ≡ places_from place (λ (var : Var). bytes_eq var.scope text) (map (placed paths) vars)
places-marked paths [] text marks place all are = refl
places-marked paths (var ∷ vars) text marks place all are =
    let P : Numbered → Type 0 = λ var. var.scope ≤ length paths in
    let within : var.scope < length ([] ∷ paths) = omega (arith, All-head P var vars all) in
    let test : get_or marks var.scope false ≡ bytes_eq (path_at paths var.scope) text =
    ap (λ marks. get_or marks var.scope false) are ∙ get_or-map (λ other. bytes_eq other text) ([] ∷ paths) var.scope [] false within in
    let more = places-marked paths vars text marks (place + 1) (All-tail P var vars all) are in
    ap (λ rest. cond (get_or marks var.scope false) (place ∷ rest) rest) more
    ∙ ap (λ b. cond b (place ∷ places_from (place + 1) (λ (var : Var). bytes_eq var.scope text) (map (placed paths) vars)) (places_from (place + 1) (λ (var : Var). bytes_eq var.scope text) (map (placed paths) vars))) test
