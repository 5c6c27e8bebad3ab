-- What a loop keeps.
use Rattle.std.proofs.Common.{◌≡◌, ℕ, List, length, take}
use Rattle.elab_base.specs.declared.met.Met.{Met}
use Rattle.elab_base.specs.Met.{CountsUp}

-- what is left gives from here what all gives from the start, and no instance was met
pub record Kept {A : Type 0} (left all : A) (now before : ℕ) : Type 0 where
  pub judged : left ≡ all
  pub instances : now ≡ before

-- and no count fell, or went past its limit, and what was made before stands in front of what is made
pub record KeptFront {A B : Type 0} (left all : A) (now before : Met) (whole front : List B) : Type 0 where
  pub judged : left ≡ all
  pub instances : now.instances ≡ before.instances
  pub counts : CountsUp before now
  pub made : take (length front) whole ≡ front
