-- Each case of an `inst` that asks for a child.
use Rattle.std.proofs.Common.{◌≡◌, ℕ, List, [], Option, Ok, Err}
use Rattle.gen_tree.specs.Tree as tree
use Rattle.gen_tree.specs.Tree.{Int, Param, Module}
use Rattle.elab_core.specs.Walk.{Gives, Faulty, Fault, Seen, judge}
use Rattle.elab_core.specs.Numbers.{index_name}
use Rattle.elab_core.specs.Elab.{module_named, values, conns, asked}
use Rattle.exec_core.specs.Block.{Name}
use Rattle.design_core.specs.Design.{Gens, Conn}
use Rattle.elab_base.proofs.Steps.{counted, refused, given, faulty, ends}

pub asked_fault_1 : (ms : List Module) (line : ℕ) (gens : Gens) (f : Name) (i : Option Int) (child : Name) (args : List Param) (cs : List tree.Conn) (seen : Seen) (x : Fault) → index_name line gens f i ≡ Faulty x →
    judge seen (asked ms line gens (record { name = f; index = i }) child args cs) ≡ Err x
unfolding asked
asked_fault_1 ms line gens f i child args cs seen x e1 = faulty _ _ _ _ e1

pub asked_fault_2 : (ms : List Module) (line : ℕ) (gens : Gens) (f : Name) (i : Option Int) (child : Name) (args : List Param) (cs : List tree.Conn) (y : Name) (seen : Seen) (x : Fault) → index_name line gens f i ≡ Gives y → module_named ms line child ≡ Faulty x →
    judge seen (asked ms line gens (record { name = f; index = i }) child args cs) ≡ Err x
unfolding asked
asked_fault_2 ms line gens f i child args cs y seen x e1 e2 = given _ _ _ _ _ e1 (faulty _ _ _ _ e2)

pub asked_fault_3 : (ms : List Module) (line : ℕ) (gens : Gens) (f : Name) (i : Option Int) (child : Name) (args : List Param) (cs : List tree.Conn) (y : Name) (place : ℕ) (m : Module) (seen : Seen) (x : Fault) → index_name line gens f i ≡ Gives y → module_named ms line child ≡ Gives (place, m) → values line gens m args ≡ Faulty x →
    judge seen (asked ms line gens (record { name = f; index = i }) child args cs) ≡ Err x
unfolding asked
asked_fault_3 ms line gens f i child args cs y place m seen x e1 e2 e3 = given _ _ _ _ _ e1 (given _ _ _ _ _ e2 (faulty _ _ _ _ e3))

pub asked_fault_4 : (ms : List Module) (line : ℕ) (gens : Gens) (f : Name) (i : Option Int) (child : Name) (args : List Param) (cs : List tree.Conn) (y : Name) (place : ℕ) (m : Module) (params : Gens) (seen : Seen) (x : Fault) → index_name line gens f i ≡ Gives y → module_named ms line child ≡ Gives (place, m) → values line gens m args ≡ Gives params → judge seen (conns cs gens []) ≡ Err x →
    judge seen (asked ms line gens (record { name = f; index = i }) child args cs) ≡ Err x
unfolding asked
asked_fault_4 ms line gens f i child args cs y place m params seen x e1 e2 e3 e4 = given _ _ _ _ _ e1 (given _ _ _ _ _ e2 (given _ _ _ _ _ e3 (refused _ _ _ _ e4)))

pub asked_done : (ms : List Module) (line : ℕ) (gens : Gens) (f : Name) (i : Option Int) (child : Name) (args : List Param) (cs : List tree.Conn) (y : Name) (place : ℕ) (m : Module) (params : Gens) (made : List Conn) (seen s1 : Seen) → index_name line gens f i ≡ Gives y → module_named ms line child ≡ Gives (place, m) → values line gens m args ≡ Gives params → judge seen (conns cs gens []) ≡ Ok (made, s1) →
    judge seen (asked ms line gens (record { name = f; index = i }) child args cs) ≡ Ok (record { line = line; name = y; found = (place, m); params = params; conns = made }, s1)
unfolding asked
asked_done ms line gens f i child args cs y place m params made seen s1 e1 e2 e3 e4 = given _ _ _ _ _ e1 (given _ _ _ _ _ e2 (given _ _ _ _ _ e3 (counted _ _ _ _ _ _ e4 (ends _ _))))

pub ruleset asked_steps = (asked_fault_1, asked_fault_2, asked_fault_3, asked_fault_4, asked_done)
