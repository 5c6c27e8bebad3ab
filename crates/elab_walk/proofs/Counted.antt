-- What a loop over items keeps.
use Rattle.std.proofs.Common.{◌≡◌, ℕ}

-- what is left gives from here what all gives from the start, and each instance that was met has its number
pub record Counted {A : Type 0} (left all : A) (instances next : ℕ) : Type 0 where
  pub judged : left ≡ all
  pub counted : instances ≡ next
