-- Parameters with defaults, and instances with arguments, elaborated by hand.
--  1: module M(A = 2, B = (A * 3), C = (B - A)) {
--  2:   output y : C;
--  3:   comb { y = bits(C, B); } }
--  4: module Top(N = 2) {
--  5:   for i in 0..N { inst u#i : M(A = (i + N)) { } }
--  6:   inst v : M(B = (N + 3)) { } }
use Rattle.std.specs.Prelude.{◌≡◌, ℕ, true, false, ℤ, pos, List, [], ◌∷◌, map, None, Some, Result, Ok, Err, codes}
use Rattle.gen_tree.specs.declared.IntOp.TheVariants as int_op
use Rattle.gen_tree.specs.Tree.{Int, num, var, bin, bits, value, assign, stmt, no_stmt, Param, inst, comb, repeat_items, item, no_item, Module}
use Rattle.exec_core.specs.Block.{Name}
use Rattle.design_core.specs.Design.{Gens, Value, Assign, Body, Done, Then}
use Rattle.elab_core.specs.Walk.{Fault, UnknownParameter, Seen, none_seen, judge}
use Rattle.elab_core.specs.Elaborated.{Instance}
use Rattle.elab_core.specs.Elab.{top_walk}
use Rattle.elab_core.specs.Closed.{closed_top}

abbrev by_default : Name → Int → Param
by_default x n = record { name = x; value = n }

-- of its parameters, each default but the first names those before it
abbrev pub valued : Module
valued = record {
  line = 1;
  name = codes "M";
  params =
      by_default (codes "A") (num 2)
      ∷ by_default (codes "B") (bin int_op.Mul (var (codes "A")) (num 3))
      ∷ by_default (codes "C") (bin int_op.Sub (var (codes "B")) (var (codes "A")))
      ∷ [];
  ports = record { line = 2; output = true; name = codes "y"; width = var (codes "C") } ∷ [];
  items = item (comb 3 (stmt (assign 3 (record { name = codes "y"; index = None }) None (value (bits (var (codes "C")) (var (codes "B"))))) no_stmt)) no_item;
}

-- the arguments are computed from the loop variable and the parameter of the module that the instances stand in
abbrev pub asking : Module
asking = record {
  line = 4;
  name = codes "Top";
  params = by_default (codes "N") (num 2) ∷ [];
  ports = [];
  items =
      item (repeat_items 5 (codes "i") (num 0) (var (codes "N"))
      (item (inst 5 (record { name = codes "u"; index = Some (var (codes "i")) }) (codes "M") (by_default (codes "A") (bin int_op.Add (var (codes "i")) (var (codes "N"))) ∷ []) []) no_item))
      (item (inst 6 (record { name = codes "v"; index = None }) (codes "M") (by_default (codes "B") (bin int_op.Add (var (codes "N")) (num 3)) ∷ []) []) no_item);
}

-- an instance: its path, its parameters, the widths of its signals, and the statements of its blocks
abbrev pub Told : Type 0
Told = Name × Gens × List ℤ × List Body

abbrev pub told : Instance → Told
told i = (i.path, i.params, map (λ s. s.width) i.content.signals, map (λ b. b.body) i.content.blocks)

abbrev pub all_told : Result (List Instance × Seen) Fault → Result (List Told) Fault
all_told (Ok found) = Ok (map told found.0)
all_told (Err fault) = Err fault

-- the walk gives this, and so does substitution, where loops nest less than two deep
abbrev pub BothGive : List Module → Gens → Result (List Told) Fault → Type 0
BothGive modules rest answer =
    (all_told (judge none_seen (top_walk modules (codes "Top") rest)) ≡ answer)
    × (all_told (judge none_seen (closed_top 2 modules (codes "Top") rest)) ≡ answer)

abbrev gens : ℕ → ℕ → ℕ → Gens
gens a b c = (codes "A", pos a) ∷ (codes "B", pos b) ∷ (codes "C", pos c) ∷ []

-- an instance of M with these numbers
abbrev made : Name → ℕ → ℕ → ℕ → Told
made path a b c = (
  path,
  gens a b c,
  pos c ∷ [],
  Then (Assign 0 3 (gens a b c) (codes "y") None (Value (record { width = pos c; negative = false; value = b }))) Done ∷ [],
)

-- the top with this number, whose signals are the outputs of its children
abbrev above : ℕ → List ℤ → Told
above n widths = (codes "Top", (codes "N", pos n) ∷ [], widths, [])

-- a default names a later parameter: on the line of the module
abbrev pub later : Module
later = record {
  line = 7;
  name = codes "Top";
  params = by_default (codes "A") (var (codes "B")) ∷ by_default (codes "B") (num 1) ∷ [];
  ports = [];
  items = no_item;
}

-- an argument names a parameter of the child: on the line of the `inst`, where no such name is
abbrev pub inside : Module
inside = record {
  line = 8;
  name = codes "Top";
  params = [];
  ports = [];
  items = item (inst 9 (record { name = codes "w"; index = None }) (codes "M") (by_default (codes "B") (var (codes "A")) ∷ []) []) no_item;
}

pub record DefaultsAreSeen : Type 0 where
  pub by_defaults :
      BothGive (valued ∷ asking ∷ []) []
      (Ok (above 2 (pos 4 ∷ pos 6 ∷ pos 3 ∷ []) ∷ made (codes "Top.u#0") 2 6 4 ∷ made (codes "Top.u#1") 3 9 6 ∷ made (codes "Top.v") 2 5 3 ∷ []))
  pub given :
      BothGive (valued ∷ asking ∷ []) ((codes "N", pos 1) ∷ [])
      (Ok (above 1 (pos 2 ∷ pos 2 ∷ []) ∷ made (codes "Top.u#0") 1 3 2 ∷ made (codes "Top.v") 2 4 2 ∷ []))
  pub later_default : BothGive (later ∷ []) [] (Err (UnknownParameter 7 (codes "B")))
  pub later_given : BothGive (later ∷ []) ((codes "A", pos 5) ∷ []) (Ok ((codes "Top", (codes "A", pos 5) ∷ (codes "B", pos 1) ∷ [], [], []) ∷ []))
  pub childs_own : BothGive (valued ∷ inside ∷ []) [] (Err (UnknownParameter 9 (codes "A")))
