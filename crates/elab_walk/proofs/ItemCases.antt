-- Each case of the walk over items and instances.
use Rattle.std.proofs.Common.{◌≡◌, ℕ, zero, suc, ◌+◌, ◌-◌, ◌<◌, ℤ, Bool, true, false, if◌then◌else◌, List, [], ◌++◌, length, Some, Result, Ok, Err, refl, sym, ap, ◌∙◌, arith, codes}
use Rattle.gen_tree.specs.Tree.{Int, Fam, Lit, Stmts, Param, Conn, Items, ElseItems, no_else_items, otherwise_items, wire, reg, inst, comb, ff, repeat_items, given_items, Port, Module}
use Rattle.gen_tree.specs.declared.Cmp.{Cmp}
use Rattle.elab_core.specs.declared.Count.TheVariants.{Instances, Signals, Turns}
use Rattle.elab_core.specs.Walk.{Gives, Faulty, Counted, TooDeep, Fault, Seen, and_then, judge, counts}
use Rattle.elab_core.specs.Numbers.{two_numbers, turn_count, holds}
use Rattle.elab_core.specs.Elaborated.{Instance}
use Rattle.elab_core.specs.Elab.{statements, turns, asked, Asked, wire_signal, register, Here, Enter, Made, nothing, with_signal, with_block, with_child, ports, count_outputs, instances_of, item_walk, items_walk, else_walk, module_walk, instance}
use Rattle.design_core.specs.declared.Signal.{Signal}
use Rattle.exec_core.specs.Block.{Name}
use Rattle.design_core.specs.Design.{Gens, Body, Done}
use Rattle.elab_base.specs.Compares.{compares}
use Rattle.elab_base.specs.Turns.{turns_at}
use Rattle.elab_base.proofs.Steps.{counted, refused, given, faulty, ends, then_assoc}
use Rattle.elab_walk.specs.Walked.{counted_wire, counted_register, child_walk, turn, in_turn, else_items, entry}

item_wire : (ms : List Module) (enter : Enter) (here : Here) (line : ℕ) (f : Fam) (w : Int) (gens : Gens) (made : Made) →
    item_walk ms enter here (wire line f w) gens made ≡ and_then (counted_wire line gens f w) (λ s. Gives (with_signal made s))
unfolding item_walk counted_wire and_then
item_wire ms enter here line f w gens made = sym (then_assoc (wire_signal line gens f w) (λ s. Counted Signals line (Gives s)) (λ s. Gives (with_signal made s)))

item_reg : (ms : List Module) (enter : Enter) (here : Here) (line : ℕ) (f : Fam) (w : Int) (l : Lit) (gens : Gens) (made : Made) →
    item_walk ms enter here (reg line f w l) gens made ≡ and_then (counted_register line gens f w l) (λ s. Gives (with_signal made s))
unfolding item_walk counted_register and_then
item_reg ms enter here line f w l gens made = sym (then_assoc (register line gens f w l) (λ s. Counted Signals line (Gives s)) (λ s. Gives (with_signal made s)))

item_repeat : (ms : List Module) (enter : Enter) (here : Here) (line : ℕ) (v : Name) (from to : Int) (body : Items) (gens : Gens) (made : Made) →
    item_walk ms enter here (repeat_items line v from to body) gens made ≡ and_then (turns_at line gens from to) (λ p. turns line (in_turn ms enter here body v gens) p.0 p.1 made)
unfolding item_walk turns_at in_turn and_then
item_repeat ms enter here line v from to body gens made = sym (
    then_assoc {B = ℤ × ℕ} (two_numbers line gens from to) (λ range. and_then (turn_count line range.0 range.1) (λ count. Gives (range.0, count))) (λ p. turns line (in_turn ms enter here body v gens) p.0 p.1 made)
    ∙ (λ i. and_then (two_numbers line gens from to) (λ range. then_assoc {B = ℤ × ℕ} (turn_count line range.0 range.1) (λ count. Gives (range.0, count)) (λ p. turns line (in_turn ms enter here body v gens) p.0 p.1 made) i)))

one_branch : (ms : List Module) (enter : Enter) (here : Here) (first : Items) (second : ElseItems) (gens : Gens) (made : Made) (b : Bool) →
    (if b then items_walk ms enter here first gens made else else_walk ms enter here second gens made) ≡ items_walk ms enter here (if b then first else else_items second) gens made
unfolding else_walk items_walk
one_branch ms enter here first second gens made true = refl
one_branch ms enter here first no_else_items gens made false = refl
one_branch ms enter here first (otherwise_items body) gens made false = refl

item_given : (ms : List Module) (enter : Enter) (here : Here) (line : ℕ) (left : Int) (cmp : Cmp) (right : Int) (first : Items) (second : ElseItems) (gens : Gens) (made : Made) →
    item_walk ms enter here (given_items line left cmp right first second) gens made ≡ and_then (compares line gens left cmp right) (λ b. if b then items_walk ms enter here first gens made else else_walk ms enter here second gens made)
unfolding item_walk compares and_then
item_given ms enter here line left cmp right first second gens made = sym (
    then_assoc (two_numbers line gens left right) (λ pair. Gives (holds cmp pair.0 pair.1)) (λ b. if b then items_walk ms enter here first gens made else else_walk ms enter here second gens made))

module _ (ms : List Module) (enter : Enter) (here : Here) (line : ℕ) (left : Int) (cmp : Cmp) (right : Int) (first : Items) (second : ElseItems) (gens : Gens) (made : Made) (seen : Seen) where
  pub given_fault : (x : Fault) → compares line gens left cmp right ≡ Faulty x → judge seen (item_walk ms enter here (given_items line left cmp right first second) gens made) ≡ Err x
  given_fault x e = ap (judge seen) (item_given ms enter here line left cmp right first second gens made) ∙ faulty _ _ _ _ e

  pub given_on : (chosen : Items) (b : Bool) (r : Result (Made × Seen) Fault) → compares line gens left cmp right ≡ Gives b → chosen ≡ (if b then first else else_items second) → judge seen (items_walk ms enter here chosen gens made) ≡ r →
      judge seen (item_walk ms enter here (given_items line left cmp right first second) gens made) ≡ r
  given_on chosen b r e c q = ap (judge seen) (item_given ms enter here line left cmp right first second gens made)
      ∙ given _ _ _ _ _ e (ap (judge seen) (one_branch ms enter here first second gens made b) ∙ ap (λ body. judge seen (items_walk ms enter here body gens made)) (sym c) ∙ q)

-- ---- a child

module _ (enter : Enter) (here : Here) (want : Asked) (made : Made) (seen : Seen) (at : ℕ) where
  pub child_fault : (x : Fault) → at ≡ here.number + 1 + length made.below → judge seen (enter want here at) ≡ Err x → judge seen (child_walk enter here want made) ≡ Err x
  unfolding child_walk
  child_fault x n q = refused _ _ _ _ (ap (λ k. judge seen (enter want here k)) (sym n) ∙ q)

  pub child_done : (instances : List Instance) (s1 : Seen) → at ≡ here.number + 1 + length made.below → judge seen (enter want here at) ≡ Ok (instances, s1) → judge seen (child_walk enter here want made) ≡ Ok (with_child made want instances, s1)
  unfolding child_walk
  child_done instances s1 n q = counted _ _ _ _ _ _ (ap (λ k. judge seen (enter want here k)) (sym n) ∙ q) (ends _ _)

pub ruleset child_steps = (child_fault, child_done)

module _ (ms : List Module) (enter : Enter) (here : Here) (line : ℕ) (f : Fam) (child : Name) (args : List Param) (cs : List Conn) (gens : Gens) (made : Made) (seen : Seen) where
  pub inst_fault : (x : Fault) → judge seen (asked ms line gens f child args cs) ≡ Err x → judge seen (item_walk ms enter here (inst line f child args cs) gens made) ≡ Err x
  unfolding item_walk
  inst_fault x e = refused _ _ _ _ e

  pub inst_on : (x : Name) (given_so : List Param) (joined : List Conn) (want : Asked) (s1 : Seen) (r : Result (Made × Seen) Fault) → x ≡ child → given_so ≡ args → joined ≡ cs → judge seen (asked ms line gens f x given_so joined) ≡ Ok (want, s1) →
      judge s1 (child_walk enter here want made) ≡ r → judge seen (item_walk ms enter here (inst line f child args cs) gens made) ≡ r
  unfolding item_walk child_walk
  inst_on x given_so joined want s1 r i j k e q =
      let asked_so = ap (λ y. judge seen (asked ms line gens f y args cs)) (sym i) ∙ ap (λ y. judge seen (asked ms line gens f x y cs)) (sym j) ∙ ap (λ y. judge seen (asked ms line gens f x given_so y)) (sym k) in
      counted _ _ _ _ _ _ (asked_so ∙ e) q

-- ---- modules

module _ (ms : List Module) (enter : Enter) (here : Here) (m : Module) (params : Gens) (seen : Seen) where
  pub module_fault : (x : Fault) → judge seen (ports m.ports params []) ≡ Err x → judge seen (module_walk ms enter here m params) ≡ Err x
  unfolding module_walk
  module_fault x e = refused _ _ _ _ e

  module_on : (signals : List Signal) (s1 : Seen) (fresh : Made) (r : Result (Made × Seen) Fault) → judge seen (ports m.ports params []) ≡ Ok (signals, s1) → fresh ≡ record nothing { content = record (nothing.content) { signals = signals } } →
      judge s1 (items_walk ms enter here m.items params fresh) ≡ r → judge seen (module_walk ms enter here m params) ≡ r
  unfolding module_walk
  module_on signals s1 fresh r e n q = counted _ _ _ _ _ _ e (ap (λ k. judge s1 (items_walk ms enter here m.items params k)) (sym n) ∙ q)

  pub module_items_fault : (signals : List Signal) (s1 : Seen) (fresh : Made) (x : Fault) → judge seen (ports m.ports params []) ≡ Ok (signals, s1) → fresh ≡ record nothing { content = record (nothing.content) { signals = signals } } →
      judge s1 (items_walk ms enter here m.items params fresh) ≡ Err x → judge seen (module_walk ms enter here m params) ≡ Err x
  module_items_fault signals s1 fresh x e n q = module_on signals s1 fresh (Err x) e n q

  pub module_done : (signals : List Signal) (s1 s2 : Seen) (fresh made : Made) → judge seen (ports m.ports params []) ≡ Ok (signals, s1) → fresh ≡ record nothing { content = record (nothing.content) { signals = signals } } →
      judge s1 (items_walk ms enter here m.items params fresh) ≡ Ok (made, s2) → judge seen (module_walk ms enter here m params) ≡ Ok (made, s2)
  module_done signals s1 s2 fresh made e n q = module_on signals s1 fresh (Ok (made, s2)) e n q

pub ruleset module_steps = (module_fault, module_items_fault, module_done)

-- ---- instances

instance_suc : (ms : List Module) (room : ℕ) (want : Asked) (here : Here) (at : ℕ) →
    instance ms (suc room) want here at ≡ and_then (entry want.line want.found.1.ports) (λ u.
    and_then (module_walk ms (instance ms room) (record { path = here.path ++ (codes "." ++ want.name); number = at }) want.found.1 want.params) (λ made.
    Gives (instances_of (here.path ++ (codes "." ++ want.name)) (Some here.number) want.found.0 want.params made)))
unfolding instance entry and_then
instance_suc ms room want here at = refl

instance_more : (ms : List Module) (room less : ℕ) (want : Asked) (here : Here) (at : ℕ) → 0 < room → less ≡ room - 1 →
    instance ms room want here at ≡ and_then (entry want.line want.found.1.ports) (λ u.
    and_then (module_walk ms (instance ms less) (record { path = here.path ++ (codes "." ++ want.name); number = at }) want.found.1 want.params) (λ made.
    Gives (instances_of (here.path ++ (codes "." ++ want.name)) (Some here.number) want.found.0 want.params made)))
instance_more ms zero less want here at h e = absurd (omega arith)
instance_more ms (suc room) less want here at h e = let same : less ≡ room = omega arith in rw same (instance_suc ms room want here at)

pub instance_deep : (ms : List Module) (room : ℕ) (want : Asked) (here : Here) (at : ℕ) (seen : Seen) → room ≡ 0 → judge seen (instance ms room want here at) ≡ Err (TooDeep want.line want.name)
unfolding instance judge
instance_deep ms room want here at seen e = ap (λ r. judge seen (instance ms r want here at)) e

module _ (ms : List Module) (room : ℕ) (want : Asked) (here : Here) (at : ℕ) (seen : Seen) where
  pub instance_refused : (x : Fault) → 0 < room → judge seen (entry want.line want.found.1.ports) ≡ Err x → judge seen (instance ms room want here at) ≡ Err x
  instance_refused x h e = ap (judge seen) (instance_more ms room (room - 1) want here at h refl) ∙ refused _ _ _ _ e

  pub instance_fault : (less : ℕ) (s1 : Seen) (path : Name) (x : Fault) → 0 < room → judge seen (entry want.line want.found.1.ports) ≡ Ok (tt, s1) → less ≡ room - 1 → path ≡ here.path ++ (codes "." ++ want.name) →
      judge s1 (module_walk ms (instance ms less) (record { path = path; number = at }) want.found.1 want.params) ≡ Err x → judge seen (instance ms room want here at) ≡ Err x
  instance_fault less s1 path x h e l p q = ap (judge seen) (instance_more ms room less want here at h l)
      ∙ counted _ _ _ _ _ _ e (refused _ _ _ _ (ap (λ y. judge s1 (module_walk ms (instance ms less) (record { path = y; number = at }) want.found.1 want.params)) (sym p) ∙ q))

  pub instance_done : (less : ℕ) (s1 s2 : Seen) (path : Name) (made : Made) (all : List Instance) → 0 < room → judge seen (entry want.line want.found.1.ports) ≡ Ok (tt, s1) → less ≡ room - 1 → path ≡ here.path ++ (codes "." ++ want.name) →
      judge s1 (module_walk ms (instance ms less) (record { path = path; number = at }) want.found.1 want.params) ≡ Ok (made, s2) → all ≡ instances_of path (Some here.number) want.found.0 want.params made →
      judge seen (instance ms room want here at) ≡ Ok (all, s2)
  instance_done less s1 s2 path made all h e l p q n = ap (judge seen) (instance_more ms room less want here at h l)
      ∙ counted _ _ _ _ _ _ e (counted _ _ _ _ _ _ (ap (λ y. judge s1 (module_walk ms (instance ms less) (record { path = y; number = at }) want.found.1 want.params)) (sym p) ∙ q) (ends _ _))
      ∙ ap (λ is. Ok (is, s2)) (sym (n ∙ ap (λ y. instances_of y (Some here.number) want.found.0 want.params made) p))

pub ruleset instance_steps = (instance_deep, instance_refused, instance_fault, instance_done)

pub wire_fault_1 : (ms : List Module) (enter : Enter) (here : Here) (line : ℕ) (gens : Gens) (made : Made) (f : Fam) (w : Int) (seen : Seen) (x : Fault) → judge seen (counted_wire line gens f w) ≡ Err x →
    judge seen (item_walk ms enter here (wire line f w) gens made) ≡ Err x
wire_fault_1 ms enter here line gens made f w seen x e1 = ap (judge seen) (item_wire ms enter here line f w gens made) ∙ refused _ _ _ _ e1

pub wire_done : (ms : List Module) (enter : Enter) (here : Here) (line : ℕ) (gens : Gens) (made : Made) (f : Fam) (w : Int) (s : Signal) (seen s1 : Seen) → judge seen (counted_wire line gens f w) ≡ Ok (s, s1) →
    judge seen (item_walk ms enter here (wire line f w) gens made) ≡ Ok (with_signal made s, s1)
wire_done ms enter here line gens made f w s seen s1 e1 = ap (judge seen) (item_wire ms enter here line f w gens made) ∙ counted _ _ _ _ _ _ e1 (ends _ _)

pub reg_fault_1 : (ms : List Module) (enter : Enter) (here : Here) (line : ℕ) (gens : Gens) (made : Made) (f : Fam) (w : Int) (l : Lit) (seen : Seen) (x : Fault) → judge seen (counted_register line gens f w l) ≡ Err x →
    judge seen (item_walk ms enter here (reg line f w l) gens made) ≡ Err x
reg_fault_1 ms enter here line gens made f w l seen x e1 = ap (judge seen) (item_reg ms enter here line f w l gens made) ∙ refused _ _ _ _ e1

pub reg_done : (ms : List Module) (enter : Enter) (here : Here) (line : ℕ) (gens : Gens) (made : Made) (f : Fam) (w : Int) (l : Lit) (s : Signal) (seen s1 : Seen) → judge seen (counted_register line gens f w l) ≡ Ok (s, s1) →
    judge seen (item_walk ms enter here (reg line f w l) gens made) ≡ Ok (with_signal made s, s1)
reg_done ms enter here line gens made f w l s seen s1 e1 = ap (judge seen) (item_reg ms enter here line f w l gens made) ∙ counted _ _ _ _ _ _ e1 (ends _ _)

pub comb_fault_1 : (ms : List Module) (enter : Enter) (here : Here) (line : ℕ) (gens : Gens) (made : Made) (body : Stmts) (seen : Seen) (x : Fault) → judge seen (statements body gens Done) ≡ Err x →
    judge seen (item_walk ms enter here (comb line body) gens made) ≡ Err x
unfolding item_walk
comb_fault_1 ms enter here line gens made body seen x e1 = refused _ _ _ _ e1

pub comb_done : (ms : List Module) (enter : Enter) (here : Here) (line : ℕ) (gens : Gens) (made : Made) (body : Stmts) (b : Body) (seen s1 : Seen) → judge seen (statements body gens Done) ≡ Ok (b, s1) →
    judge seen (item_walk ms enter here (comb line body) gens made) ≡ Ok (with_block made (record { line = line; clocked = false; body = b }), s1)
unfolding item_walk
comb_done ms enter here line gens made body b seen s1 e1 = counted _ _ _ _ _ _ e1 (ends _ _)

pub ff_fault_1 : (ms : List Module) (enter : Enter) (here : Here) (line : ℕ) (gens : Gens) (made : Made) (body : Stmts) (seen : Seen) (x : Fault) → judge seen (statements body gens Done) ≡ Err x →
    judge seen (item_walk ms enter here (ff line body) gens made) ≡ Err x
unfolding item_walk
ff_fault_1 ms enter here line gens made body seen x e1 = refused _ _ _ _ e1

pub ff_done : (ms : List Module) (enter : Enter) (here : Here) (line : ℕ) (gens : Gens) (made : Made) (body : Stmts) (b : Body) (seen s1 : Seen) → judge seen (statements body gens Done) ≡ Ok (b, s1) →
    judge seen (item_walk ms enter here (ff line body) gens made) ≡ Ok (with_block made (record { line = line; clocked = true; body = b }), s1)
unfolding item_walk
ff_done ms enter here line gens made body b seen s1 e1 = counted _ _ _ _ _ _ e1 (ends _ _)

pub repeat_fault_1 : (ms : List Module) (enter : Enter) (here : Here) (line : ℕ) (gens : Gens) (made : Made) (v : Name) (from to : Int) (body : Items) (seen : Seen) (x : Fault) → turns_at line gens from to ≡ Faulty x →
    judge seen (item_walk ms enter here (repeat_items line v from to body) gens made) ≡ Err x
repeat_fault_1 ms enter here line gens made v from to body seen x e1 = ap (judge seen) (item_repeat ms enter here line v from to body gens made) ∙ faulty _ _ _ _ e1

pub repeat_done : (ms : List Module) (enter : Enter) (here : Here) (line : ℕ) (gens : Gens) (made : Made) (v : Name) (from to : Int) (body : Items) (k : ℤ) (count : ℕ) (seen : Seen) (last : Made) (after : Seen) → turns_at line gens from to ≡ Gives (k, count) → judge seen (turns line (in_turn ms enter here body v gens) k count made) ≡ Ok (last, after) →
    judge seen (item_walk ms enter here (repeat_items line v from to body) gens made) ≡ Ok (last, after)
repeat_done ms enter here line gens made v from to body k count seen last after e1 e2 = ap (judge seen) (item_repeat ms enter here line v from to body gens made) ∙ given _ _ _ _ _ e1 (e2)

pub repeat_last_fault : (ms : List Module) (enter : Enter) (here : Here) (line : ℕ) (gens : Gens) (made : Made) (v : Name) (from to : Int) (body : Items) (k : ℤ) (count : ℕ) (seen : Seen) (x : Fault) → turns_at line gens from to ≡ Gives (k, count) → judge seen (turns line (in_turn ms enter here body v gens) k count made) ≡ Err x →
    judge seen (item_walk ms enter here (repeat_items line v from to body) gens made) ≡ Err x
repeat_last_fault ms enter here line gens made v from to body k count seen x e1 e2 = ap (judge seen) (item_repeat ms enter here line v from to body gens made) ∙ given _ _ _ _ _ e1 (e2)

pub turn_fault_1 : (ms : List Module) (enter : Enter) (here : Here) (line : ℕ) (body : Items) (inner : Gens) (made : Made) (seen : Seen) (x : Fault) → judge seen (counts Turns line) ≡ Err x →
    judge seen (turn ms enter here line body inner made) ≡ Err x
unfolding turn
turn_fault_1 ms enter here line body inner made seen x e1 = refused _ _ _ _ e1

pub turn_done : (ms : List Module) (enter : Enter) (here : Here) (line : ℕ) (body : Items) (inner same : Gens) (made : Made) (seen s1 : Seen) (last : Made) (after : Seen) → judge seen (counts Turns line) ≡ Ok (tt, s1) → same ≡ inner → judge s1 (items_walk ms enter here body same made) ≡ Ok (last, after) →
    judge seen (turn ms enter here line body inner made) ≡ Ok (last, after)
unfolding turn
turn_done ms enter here line body inner same made seen s1 last after e1 i e2 = counted _ _ _ _ _ _ e1 (ap (λ g. judge s1 (items_walk ms enter here body g made)) (sym i) ∙ e2)

pub turn_last_fault : (ms : List Module) (enter : Enter) (here : Here) (line : ℕ) (body : Items) (inner same : Gens) (made : Made) (seen s1 : Seen) (x : Fault) → judge seen (counts Turns line) ≡ Ok (tt, s1) → same ≡ inner → judge s1 (items_walk ms enter here body same made) ≡ Err x →
    judge seen (turn ms enter here line body inner made) ≡ Err x
unfolding turn
turn_last_fault ms enter here line body inner same made seen s1 x e1 i e2 = counted _ _ _ _ _ _ e1 (ap (λ g. judge s1 (items_walk ms enter here body g made)) (sym i) ∙ e2)

pub entry_fault_1 : (line : ℕ) (ps : List Port) (seen : Seen) (x : Fault) → judge seen (counts Instances line) ≡ Err x →
    judge seen (entry line ps) ≡ Err x
unfolding entry
entry_fault_1 line ps seen x e1 = refused _ _ _ _ e1

pub entry_done : (line : ℕ) (ps : List Port) (seen s1 : Seen) (last : Unit {0}) (after : Seen) → judge seen (counts Instances line) ≡ Ok (tt, s1) → judge s1 (count_outputs line ps) ≡ Ok (last, after) →
    judge seen (entry line ps) ≡ Ok (last, after)
unfolding entry
entry_done line ps seen s1 last after e1 e2 = counted _ _ _ _ _ _ e1 (e2)

pub entry_last_fault : (line : ℕ) (ps : List Port) (seen s1 : Seen) (x : Fault) → judge seen (counts Instances line) ≡ Ok (tt, s1) → judge s1 (count_outputs line ps) ≡ Err x →
    judge seen (entry line ps) ≡ Err x
unfolding entry
entry_last_fault line ps seen s1 x e1 e2 = counted _ _ _ _ _ _ e1 (e2)

pub ruleset item_steps = (wire_fault_1, wire_done, reg_fault_1, reg_done, inst_fault, comb_fault_1, comb_done, ff_fault_1, ff_done)

pub ruleset repeat_steps = (repeat_fault_1, repeat_done, repeat_last_fault)

pub ruleset turn_steps = (turn_fault_1, turn_done, turn_last_fault)

pub ruleset entry_steps = (entry_fault_1, entry_done, entry_last_fault)
