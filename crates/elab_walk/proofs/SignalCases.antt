-- Each case of ports, wires, registers and connections.
use Rattle.std.proofs.Common.{◌≡◌, ℕ, ℤ, Bool, Option, Ok, Err, ◌∙◌}
use Rattle.gen_tree.specs.Tree as tree
use Rattle.gen_tree.specs.Tree.{Int, Fam, Lit}
use Rattle.elab_core.specs.declared.Count.TheVariants.{Signals}
use Rattle.elab_core.specs.Walk.{Gives, Faulty, Fault, Seen, judge, counts}
use Rattle.elab_core.specs.Numbers.{number, index_name}
use Rattle.elab_core.specs.Elab.{expr, literal, wire_signal, register, port_kind}
use Rattle.design_core.specs.declared.Literal.{Literal}
use Rattle.design_core.specs.declared.Kind.TheVariants.{Reg}
use Rattle.design_core.specs.declared.Signal.{Signal}
use Rattle.exec_core.specs.Block.{Name}
use Rattle.design_core.specs.Design.{Gens, Expr}
use Rattle.elab_base.proofs.Steps.{gives_then, faulty_then, counted, refused, given, faulty, ends}
use Rattle.elab_walk.specs.Walked.{port_signal, connection, counted_wire, counted_register}

module _ (line : ℕ) (gens : Gens) (f : Name) (i : Option Int) (w : Int) (l : Lit) where
  pub register_name : (x : Fault) → index_name line gens f i ≡ Faulty x → register line gens (record { name = f; index = i }) w l ≡ Faulty x
  unfolding register
  register_name x p = faulty_then _ _ x p

  pub register_width : (y : Name) (x : Fault) → index_name line gens f i ≡ Gives y → number line gens w ≡ Faulty x → register line gens (record { name = f; index = i }) w l ≡ Faulty x
  unfolding register
  register_width y x p q = gives_then _ _ y p ∙ faulty_then _ _ x q

  pub register_start : (y : Name) (n : ℤ) (x : Fault) → index_name line gens f i ≡ Gives y → number line gens w ≡ Gives n → literal line gens l ≡ Faulty x → register line gens (record { name = f; index = i }) w l ≡ Faulty x
  unfolding register
  register_start y n x p q r = gives_then _ _ y p ∙ gives_then _ _ n q ∙ faulty_then _ _ x r

  pub register_done : (y : Name) (n : ℤ) (start : Literal) → index_name line gens f i ≡ Gives y → number line gens w ≡ Gives n → literal line gens l ≡ Gives start →
      register line gens (record { name = f; index = i }) w l ≡ Gives (record { line = line; name = y; kind = Reg start; width = n })
  unfolding register
  register_done y n start p q r = gives_then _ _ y p ∙ gives_then _ _ n q ∙ gives_then _ _ start r

pub ruleset register_steps = (register_name, register_width, register_start, register_done)

pub counted_wire_fault_1 : (line : ℕ) (gens : Gens) (f : Fam) (w : Int) (seen : Seen) (x : Fault) → wire_signal line gens f w ≡ Faulty x →
    judge seen (counted_wire line gens f w) ≡ Err x
unfolding counted_wire
counted_wire_fault_1 line gens f w seen x e1 = faulty _ _ _ _ e1

pub counted_wire_fault_2 : (line : ℕ) (gens : Gens) (f : Fam) (w : Int) (s : Signal) (seen : Seen) (x : Fault) → wire_signal line gens f w ≡ Gives s → judge seen (counts Signals line) ≡ Err x →
    judge seen (counted_wire line gens f w) ≡ Err x
unfolding counted_wire
counted_wire_fault_2 line gens f w s seen x e1 e2 = given _ _ _ _ _ e1 (refused _ _ _ _ e2)

pub counted_wire_done : (line : ℕ) (gens : Gens) (f : Fam) (w : Int) (s : Signal) (seen s1 : Seen) → wire_signal line gens f w ≡ Gives s → judge seen (counts Signals line) ≡ Ok (tt, s1) →
    judge seen (counted_wire line gens f w) ≡ Ok (s, s1)
unfolding counted_wire
counted_wire_done line gens f w s seen s1 e1 e2 = given _ _ _ _ _ e1 (counted _ _ _ _ _ _ e2 (ends _ _))

pub counted_register_fault_1 : (line : ℕ) (gens : Gens) (f : Fam) (w : Int) (l : Lit) (seen : Seen) (x : Fault) → register line gens f w l ≡ Faulty x →
    judge seen (counted_register line gens f w l) ≡ Err x
unfolding counted_register
counted_register_fault_1 line gens f w l seen x e1 = faulty _ _ _ _ e1

pub counted_register_fault_2 : (line : ℕ) (gens : Gens) (f : Fam) (w : Int) (l : Lit) (s : Signal) (seen : Seen) (x : Fault) → register line gens f w l ≡ Gives s → judge seen (counts Signals line) ≡ Err x →
    judge seen (counted_register line gens f w l) ≡ Err x
unfolding counted_register
counted_register_fault_2 line gens f w l s seen x e1 e2 = given _ _ _ _ _ e1 (refused _ _ _ _ e2)

pub counted_register_done : (line : ℕ) (gens : Gens) (f : Fam) (w : Int) (l : Lit) (s : Signal) (seen s1 : Seen) → register line gens f w l ≡ Gives s → judge seen (counts Signals line) ≡ Ok (tt, s1) →
    judge seen (counted_register line gens f w l) ≡ Ok (s, s1)
unfolding counted_register
counted_register_done line gens f w l s seen s1 e1 e2 = given _ _ _ _ _ e1 (counted _ _ _ _ _ _ e2 (ends _ _))

pub port_fault_1 : (line : ℕ) (output : Bool) (name : Name) (width : Int) (gens : Gens) (seen : Seen) (x : Fault) → number line gens width ≡ Faulty x →
    judge seen (port_signal (record { line = line; output = output; name = name; width = width }) gens) ≡ Err x
unfolding port_signal
port_fault_1 line output name width gens seen x e1 = faulty _ _ _ _ e1

pub port_fault_2 : (line : ℕ) (output : Bool) (name : Name) (width : Int) (gens : Gens) (w : ℤ) (seen : Seen) (x : Fault) → number line gens width ≡ Gives w → judge seen (counts Signals line) ≡ Err x →
    judge seen (port_signal (record { line = line; output = output; name = name; width = width }) gens) ≡ Err x
unfolding port_signal
port_fault_2 line output name width gens w seen x e1 e2 = given _ _ _ _ _ e1 (refused _ _ _ _ e2)

pub port_done : (line : ℕ) (output : Bool) (name : Name) (width : Int) (gens : Gens) (w : ℤ) (seen s1 : Seen) → number line gens width ≡ Gives w → judge seen (counts Signals line) ≡ Ok (tt, s1) →
    judge seen (port_signal (record { line = line; output = output; name = name; width = width }) gens) ≡ Ok (record { line = line; name = name; kind = port_kind output; width = w }, s1)
unfolding port_signal
port_done line output name width gens w seen s1 e1 e2 = given _ _ _ _ _ e1 (counted _ _ _ _ _ _ e2 (ends _ _))

pub connection_fault_1 : (line : ℕ) (port : Name) (e : tree.Expr) (gens : Gens) (seen : Seen) (x : Fault) → judge seen (expr line gens e) ≡ Err x →
    judge seen (connection (record { line = line; port = port; value = e }) gens) ≡ Err x
unfolding connection
connection_fault_1 line port e gens seen x e1 = refused _ _ _ _ e1

pub connection_done : (line : ℕ) (port : Name) (e : tree.Expr) (gens : Gens) (v : Expr) (seen s1 : Seen) → judge seen (expr line gens e) ≡ Ok (v, s1) →
    judge seen (connection (record { line = line; port = port; value = e }) gens) ≡ Ok (record { line = line; port = port; value = v }, s1)
unfolding connection
connection_done line port e gens v seen s1 e1 = counted _ _ _ _ _ _ e1 (ends _ _)

pub ruleset counted_wire_steps = (counted_wire_fault_1, counted_wire_fault_2, counted_wire_done)

pub ruleset counted_register_steps = (counted_register_fault_1, counted_register_fault_2, counted_register_done)

pub ruleset port_steps = (port_fault_1, port_fault_2, port_done)

pub ruleset connection_steps = (connection_fault_1, connection_done)
