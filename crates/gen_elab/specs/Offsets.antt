-- Where the slots of variants begin.
use Rattle.std.specs.Prelude.{◌≡◌, ℕ, ◌+◌, ◌<◌, ◌==◌, List, [], ◌∷◌, length, nat_lt, get_or}
use Rattle.elab_core.specs.Elaborated.{Instance}
use Rattle.elab_core.specs.Design.{statements_where, first_slot}
pub use Rattle.elab_laws.specs.Sizes.{all_statements, places_below}

-- for each place a number, and the statements of the variants of its module
pub record AreTotals (base : ℕ → ℕ) (modules : ℕ) (variants : List Instance) (totals : List ℕ) : Type 0 where
  pub long : length totals ≡ modules
  pub each : (p : ℕ) → p < modules → get_or totals p 0 ≡ base p + statements_where (λ w. w.place == p) variants

-- the statements of the variants of the modules before a place
abbrev pub before_place : List Instance → ℕ → ℕ
before_place variants p = statements_where (λ w. nat_lt w.place p) variants

abbrev pub nothing_before : ℕ → ℕ
nothing_before p = 0

-- the sum of numbers
abbrev pub total : List ℕ → ℕ
total [] = 0
total (n ∷ numbers) = n + total numbers

-- the sum of those before, from a number on
abbrev pub prefix_sums : ℕ → List ℕ → List ℕ
prefix_sums before [] = []
prefix_sums before (n ∷ numbers) = before ∷ prefix_sums (before + n) numbers

-- for each of the first variants its first slot; w is any instance
pub record AreSlots (variants : List Instance) (count : ℕ) (slots : List ℕ) : Type 0 where
  pub long : length slots ≡ count
  pub each : (k : ℕ) (w : Instance) → k < count → get_or slots k 0 ≡ first_slot variants (k, get_or variants k w)
