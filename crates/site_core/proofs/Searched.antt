-- What is found position by position, by any test that agrees with another, is what a search for the other answers.
use Rattle.std.proofs.Common.{◌≡◌, ℕ, ◌+◌, ◌-◌, ◌<◌, ◌≤◌, min, Bool, List, take, Option, find, nat_lt, sym, ap, ap₂, ◌∙◌, arith}
use Rattle.list_core.specs.Lists.{EachOf, from}
use Rattle.trace_core.specs.declared.scan.Way.{Way}
use Rattle.trace_core.specs.declared.scan.Way.TheVariants.{Forward, Backward}
use Rattle.machine_core.specs.Positions.{ahead}
use Rattle.machine_core.specs.Search.{found_or, searched_for}
use Rattle.machine_core.proofs.Ends.{length_ahead, ahead_length}
use Rattle.site_core.specs.Positions.{down_from}
use Rattle.site_core.proofs.Nearest.{forward_looks, backward_looks, found_alike, from_below, down_below}

module _ (total : ℕ) (f g : ℕ → Bool) (same : (p : ℕ) → p < total → f p ≡ g p) (place : ℕ) where
  of_count : (way : Way) (found : Option ℕ) (near : Bool) (positions : List ℕ) → EachOf (λ p. p < total) positions
      → found ≡ find f positions → take 64 (ahead total way place) ≡ positions → near ≡ nat_lt (length_ahead total way place) 64
      → found_or found near ≡ searched_for g total way place
  of_count way found near positions within is looks edge =
      ap₂ found_or (is ∙ found_alike total f g same positions within ∙ ap (find g) (sym looks)) (edge ∙ ap (λ n. nat_lt n 64) (sym (ahead_length total way place)))

  pub forward_is : (end : ℕ) (found : Option ℕ) (near : Bool) → end ≡ min total (place + 64) → found ≡ find f (from place (end - place)) → near ≡ nat_lt (total - place) 64
      → found_or found near ≡ searched_for g total Forward place
  forward_is end found near stop is edge =
      of_count Forward found near (from place (min total (place + 64) - place)) (from_below total place (min total (place + 64) - place) (omega arith))
      (is ∙ ap (λ n. find f (from place (n - place))) stop) (forward_looks total place) edge

  pub backward_is : (below lowest : ℕ) (found : Option ℕ) (near : Bool) → place ≤ total + 1 → below ≡ place - 1 → lowest ≡ below - 64
      → found ≡ find f (down_from below (below - lowest)) → near ≡ nat_lt below 64 → found_or found near ≡ searched_for g total Backward place
  backward_is below lowest found near h eb el is edge =
      of_count Backward found near (down_from (place - 1) (place - 1 - (place - 1 - 64))) (down_below total (place - 1) (place - 1 - (place - 1 - 64)) (omega (arith, h)))
      (is ∙ ap₂ (λ b l. find f (down_from b (b - l))) eb (el ∙ ap (λ n. n - 64) eb)) (backward_looks total place h)
      (edge ∙ ap (λ n. nat_lt n 64) (eb ∙ (let all : place - 1 ≡ min (place - 1) total = omega (arith, h) in all)))
