-- Each case of the walk from the top.
use Rattle.std.proofs.Common.{◌≡◌, ℕ, List, None, Ok, Err}
use Rattle.gen_tree.specs.Tree.{Module}
use Rattle.elab_core.specs.declared.Count.TheVariants.{Instances}
use Rattle.elab_core.specs.Walk.{Gives, Faulty, Fault, Seen, judge, counts}
use Rattle.elab_core.specs.Elab.{module_named, top_values, module_walk, instance, instances_of, Made, top_walk}
use Rattle.exec_core.specs.Block.{Name}
use Rattle.design_core.specs.Design.{Gens}
use Rattle.elab_base.proofs.Steps.{counted, refused, given, faulty, ends}

pub top_fault_1 : (ms : List Module) (top : Name) (rest : Gens) (seen : Seen) (x : Fault) → module_named ms 0 top ≡ Faulty x →
    judge seen (top_walk ms top rest) ≡ Err x
unfolding top_walk
top_fault_1 ms top rest seen x e1 = faulty _ _ _ _ e1

pub top_fault_2 : (ms : List Module) (top : Name) (rest : Gens) (place : ℕ) (m : Module) (seen : Seen) (x : Fault) → module_named ms 0 top ≡ Gives (place, m) → top_values m rest ≡ Faulty x →
    judge seen (top_walk ms top rest) ≡ Err x
unfolding top_walk
top_fault_2 ms top rest place m seen x e1 e2 = given _ _ _ _ _ e1 (faulty _ _ _ _ e2)

pub top_fault_3 : (ms : List Module) (top : Name) (rest : Gens) (place : ℕ) (m : Module) (params : Gens) (seen : Seen) (x : Fault) → module_named ms 0 top ≡ Gives (place, m) → top_values m rest ≡ Gives params → judge seen (counts Instances 0) ≡ Err x →
    judge seen (top_walk ms top rest) ≡ Err x
unfolding top_walk
top_fault_3 ms top rest place m params seen x e1 e2 e3 = given _ _ _ _ _ e1 (given _ _ _ _ _ e2 (refused _ _ _ _ e3))

pub top_fault_4 : (ms : List Module) (top : Name) (rest : Gens) (place : ℕ) (m : Module) (params : Gens) (seen s1 : Seen) (x : Fault) → module_named ms 0 top ≡ Gives (place, m) → top_values m rest ≡ Gives params → judge seen (counts Instances 0) ≡ Ok (tt, s1) → judge s1 (module_walk ms (instance ms 32) (record { path = top; number = 0 }) m params) ≡ Err x →
    judge seen (top_walk ms top rest) ≡ Err x
unfolding top_walk
top_fault_4 ms top rest place m params seen s1 x e1 e2 e3 e4 = given _ _ _ _ _ e1 (given _ _ _ _ _ e2 (counted _ _ _ _ _ _ e3 (refused _ _ _ _ e4)))

pub top_done : (ms : List Module) (top : Name) (rest : Gens) (place : ℕ) (m : Module) (params : Gens) (made : Made) (seen s1 s2 : Seen) → module_named ms 0 top ≡ Gives (place, m) → top_values m rest ≡ Gives params → judge seen (counts Instances 0) ≡ Ok (tt, s1) → judge s1 (module_walk ms (instance ms 32) (record { path = top; number = 0 }) m params) ≡ Ok (made, s2) →
    judge seen (top_walk ms top rest) ≡ Ok (instances_of top None place params made, s2)
unfolding top_walk
top_done ms top rest place m params made seen s1 s2 e1 e2 e3 e4 = given _ _ _ _ _ e1 (given _ _ _ _ _ e2 (counted _ _ _ _ _ _ e3 (counted _ _ _ _ _ _ e4 (ends _ _))))

pub ruleset top_steps = (top_fault_1, top_fault_2, top_fault_3, top_fault_4, top_done)
