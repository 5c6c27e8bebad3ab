-- The steps of a whole number.
use Rattle.std.proofs.Common.{◌≡◌, ℕ, ℤ, pos, refl, ◌∙◌}
use Rattle.gen_tree.specs.declared.IntOp.{IntOp}
use Rattle.gen_tree.specs.Tree.{Int, num, var, bin}
use Rattle.elab_core.specs.Walk.{Gives, Faulty, and_then, Fault}
use Rattle.exec_core.specs.Block.{Name}
use Rattle.design_core.specs.Design.{Gens}
use Rattle.elab_core.specs.Numbers.{apply_op, find, number, ranged, named}
use Rattle.elab_base.proofs.Steps.{gives_then, faulty_then}

pub number_bin : (line : ℕ) (gens : Gens) (op : IntOp) (a b : Int) (m n : ℤ) → number line gens a ≡ Gives m → number line gens b ≡ Gives n → number line gens (bin op a b) ≡ ranged line (apply_op op m n)
unfolding number
number_bin line gens op a b m n p q = gives_then (number line gens a) (λ k. and_then (number line gens b) (λ j. ranged line (apply_op op k j))) m p ∙ gives_then (number line gens b) (λ j. ranged line (apply_op op m j)) n q

pub number_left : (line : ℕ) (gens : Gens) (op : IntOp) (a b : Int) (x : Fault) → number line gens a ≡ Faulty x → number line gens (bin op a b) ≡ Faulty x
unfolding number
number_left line gens op a b x p = faulty_then (number line gens a) (λ k. and_then (number line gens b) (λ j. ranged line (apply_op op k j))) x p

pub number_right : (line : ℕ) (gens : Gens) (op : IntOp) (a b : Int) (m : ℤ) (x : Fault) → number line gens a ≡ Gives m → number line gens b ≡ Faulty x → number line gens (bin op a b) ≡ Faulty x
unfolding number
number_right line gens op a b m x p q = gives_then (number line gens a) (λ k. and_then (number line gens b) (λ j. ranged line (apply_op op k j))) m p ∙ faulty_then (number line gens b) (λ j. ranged line (apply_op op m j)) x q

pub number_var : (line : ℕ) (gens : Gens) (x : Name) → number line gens (var x) ≡ named line x (find gens x)
unfolding number
number_var line gens x = refl

pub number_num : (line : ℕ) (gens : Gens) (n : ℕ) → number line gens (num n) ≡ ranged line (pos n)
unfolding number
number_num line gens n = refl

pub ruleset number_steps = (number_bin, number_left, number_right, number_var, number_num)
