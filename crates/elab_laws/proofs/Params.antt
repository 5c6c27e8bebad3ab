-- A module with its parameters has no more of them than it says.
use Rattle.std.proofs.Common.{ℕ, ◌+◌, ◌≤◌, List, [], ◌∷◌, ◌++◌, length, length-append, arith}
use Rattle.gen_tree.specs.Tree.{Param, Module}
use Rattle.design_core.specs.Design.{Gens}
use Rattle.elab_core.specs.Walk.{Walk, Gives, Faulty, Counted}
use Rattle.elab_core.specs.Numbers.{find, number}
use Rattle.elab_core.specs.Elab.{distinct, arguments, given_or, parameters, values, top_arguments, top_values}
use Rattle.elab_core.proofs.Replacing.{Yields, yields_then}
use Rattle.elab_core.proofs.ReplacingItems.{Anything, any_yields}

-- two facts of what is given
pub yields_both : {A : Type 0} (P Q : A → Type 0) (w : Walk A) → Yields P w → Yields Q w → Yields (λ a. P a × Q a) w
unfolding Yields
yields_both P Q (Gives a) h g = (h, g)
yields_both P Q (Faulty fault) h g = tt
yields_both P Q (Counted what line w) h g = yields_both P Q w h g

-- no more than so many
abbrev pub AtMost : ℕ → Gens → Type 0
AtMost most gens = length gens ≤ most

parameters_few : (line : ℕ) (ps : List Param) (given_so done : Gens) (most : ℕ) → length done + length ps ≤ most → Yields (AtMost most) (parameters line ps given_so done)
unfolding parameters Yields
parameters_few line [] given_so done most h = omega (arith, h)
parameters_few line (p ∷ ps) given_so done most h =
    yields_then Anything (AtMost most) (given_or (find given_so p.name) (number line done p.value)) _ (any_yields (given_or (find given_so p.name) (number line done p.value)))
    (λ n t. parameters_few line ps given_so (done ++ (p.name, n) ∷ []) most (omega (arith, h, length-append done ((p.name, n) ∷ []))))

pub values_few : (line : ℕ) (gens : Gens) (found : Module) (args : List Param) → Yields (AtMost (length found.params)) (values line gens found args)
unfolding values
values_few line gens found args =
    yields_then Anything (AtMost (length found.params)) (distinct found.line [] found.params) _ (any_yields (distinct found.line [] found.params)) (λ u t.
    yields_then Anything (AtMost (length found.params)) (arguments line gens found.params args []) _ (any_yields (arguments line gens found.params args [])) (λ given_so r.
    parameters_few found.line found.params given_so [] (length found.params) (omega arith)))

pub top_values_few : (found : Module) (rest : Gens) → Yields (AtMost (length found.params)) (top_values found rest)
unfolding top_values
top_values_few found rest =
    yields_then Anything (AtMost (length found.params)) (distinct found.line [] found.params) _ (any_yields (distinct found.line [] found.params)) (λ u t.
    yields_then Anything (AtMost (length found.params)) (top_arguments found.params rest []) _ (any_yields (top_arguments found.params rest [])) (λ given_so r.
    parameters_few found.line found.params given_so [] (length found.params) (omega arith)))
