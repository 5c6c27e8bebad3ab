-- Small designs, worked by hand: each is one line, whose number is 1.
use Rattle.std.specs.Prelude.{◌≡◌, ℕ, pos, true, false, List, [], ◌∷◌, Some, None, codes}
use Rattle.design_core.specs.declared.expr.Literal.{Literal}
use Rattle.design_core.specs.declared.variant.Signal.{Signal}
use Rattle.design_core.specs.declared.variant.Kind.{Kind}
use Rattle.design_core.specs.declared.variant.Kind.TheVariants.{Input, Output, ChildOut}
use Rattle.design_core.specs.Design.{Expr, Read, Value, Stmt, Assign, Let, If, Case, Body, body, Done, Then, NoElse, Otherwise, arms_from, Conn, Block, Variant, Design}
use Rattle.check_core.specs.declared.fault.Spot.{Spot}
use Rattle.check_core.specs.declared.fault.CheckFault.TheVariants.{UnknownName, DuplicateName, BadWidth, UnknownPort, UnboundInput, WidthMismatch, TwoDrivers, Undriven, Latch, ReadBeforeWrite}
use Rattle.names.specs.Known.{Name}
use Rattle.check_core.specs.Verdict.{verdict}

abbrev signal : Name → Kind → ℕ → Signal
signal x kind w = record { line = 1; name = x; kind = kind; width = pos w }

abbrev literal : ℕ → ℕ → Literal
literal w n = record { width = pos w; negative = false; value = n }

abbrev set : Name → Expr → Stmt
set x e = Assign 0 1 [] x None e

abbrev named : Name → Expr → Stmt
named x e = Let 0 1 [] x e

abbrev when : Expr → Body → Stmt
when c body = If 0 1 [] c body NoElse

abbrev comb : Body → Block
comb body = record { line = 1; clocked = false; body = body }

abbrev ff : Body → Block
ff body = record { line = 1; clocked = true; body = body }

abbrev x : Name
x = codes "x"

abbrev y : Name
y = codes "y"

abbrev a : Name
a = codes "a"

abbrev c : Name
c = codes "c"

abbrev t : Name
t = codes "t"

abbrev u : Name
u = codes "u"

-- a design of one module X, with these signals and blocks
abbrev design : List Signal → List Block → Design
design signals blocks = record {
  top = codes "X";
  variants = record { «module» = codes "X"; params = []; signals = signals; children = []; blocks = blocks } ∷ [];
  instances = record { path = codes "X"; variant = 0; parent = None } ∷ [];
}

abbrev at : Name → Spot
at name = record { line = 1; name = name; instance = codes "X" }

abbrev just : Stmt → Body
just s = Then s Done

-- module X { output y : 129; comb { y = 1'h0; } }
abbrev pub wide_is_refused : Type 0
wide_is_refused = verdict (design (signal y Output 129 ∷ []) (comb (just (set y (Value (literal 1 0)))) ∷ [])) ≡ Some (BadWidth (at y))

-- module X { input a : 4; output y : 8; comb { y = a; } }
abbrev pub narrow_is_refused : Type 0
narrow_is_refused = verdict (design (signal a Input 4 ∷ signal y Output 8 ∷ []) (comb (just (set y (Read a))) ∷ [])) ≡ Some (WidthMismatch (at y) 4 8)

-- module X { output y : 1; comb { y = 1'h0; } comb { y = 1'h1; } }
abbrev pub second_driver_is_refused : Type 0
second_driver_is_refused =
    verdict (design (signal y Output 1 ∷ []) (comb (just (set y (Value (literal 1 0)))) ∷ comb (just (set y (Value (literal 1 1)))) ∷ [])) ≡ Some (TwoDrivers (at y) 1)

-- module X { input c : 1; output x : 1; comb { if c { x = c; } } }
abbrev pub latch_is_refused : Type 0
latch_is_refused = verdict (design (signal c Input 1 ∷ signal x Output 1 ∷ []) (comb (just (when (Read c) (just (set x (Read c))))) ∷ [])) ≡ Some (Latch (at x))

-- the same with x = 1'h0; before the `if`
abbrev pub default_is_accepted : Type 0
default_is_accepted =
    verdict (design (signal c Input 1 ∷ signal x Output 1 ∷ []) (comb (Then (set x (Value (literal 1 0))) (just (when (Read c) (just (set x (Read c)))))) ∷ [])) ≡ None

-- module X { input c : 1; output x : 1; output y : 1; comb { if c { x = c; } y = x; x = c; } }
abbrev pub early_read_is_refused : Type 0
early_read_is_refused =
    verdict (design (signal c Input 1 ∷ signal x Output 1 ∷ signal y Output 1 ∷ [])
    (comb (Then (when (Read c) (just (set x (Read c)))) (Then (set y (Read x)) (just (set x (Read c))))) ∷ [])) ≡ Some (ReadBeforeWrite (at x))

-- module X { output a : 1; output b : 1; comb { a = b; } comb { b = a; } }: a loop is no matter of these refusals
abbrev pub cycle_is_accepted : Type 0
cycle_is_accepted =
    verdict (design (signal a Output 1 ∷ signal (codes "b") Output 1 ∷ []) (comb (just (set a (Read (codes "b")))) ∷ comb (just (set (codes "b") (Read a))) ∷ [])) ≡ None

-- module X { output y : 1; comb { let t = 1'h0; y = t; } comb { let x = t; } }: a `let` of another block is no name
abbrev pub other_let_is_refused : Type 0
other_let_is_refused =
    verdict (design (signal y Output 1 ∷ []) (comb (Then (named t (Value (literal 1 0))) (just (set y (Read t)))) ∷ comb (just (named x (Read t))) ∷ [])) ≡ Some (UnknownName (at t))

-- module X { output y : 1; comb { y = 1'h0; let y = 1'h0; } }
abbrev pub second_name_is_refused : Type 0
second_name_is_refused =
    verdict (design (signal y Output 1 ∷ []) (comb (Then (set y (Value (literal 1 0))) (just (named y (Value (literal 1 0))))) ∷ [])) ≡ Some (DuplicateName (at y))

-- module X { output y : 1; }
abbrev pub undriven_is_refused : Type 0
undriven_is_refused = verdict (design (signal y Output 1 ∷ []) []) ≡ Some (Undriven (at y))

-- module L { input a : 1; input b : 1; output q : 1; comb { q = a; } }
abbrev leaf : Variant
leaf = record {
  «module» = codes "L";
  params = [];
  signals = signal a Input 1 ∷ signal (codes "b") Input 1 ∷ signal (codes "q") Output 1 ∷ [];
  children = [];
  blocks = comb (just (set (codes "q") (Read a))) ∷ [];
}

-- module X { inst u : L { these connections } }
abbrev above : List Conn → Design
above conns = record {
  top = codes "X";
  variants = record {
    «module» = codes "X";
    params = [];
    signals = signal (codes "u.q") (ChildOut 0 (codes "q")) 1 ∷ [];
    children = record { line = 1; name = u; variant = 1; conns = conns } ∷ [];
    blocks = [];
  } ∷ leaf ∷ [];
  instances = record { path = codes "X"; variant = 0; parent = None } ∷ record { path = codes "X.u"; variant = 1; parent = Some 0 } ∷ [];
}

abbrev to : Name → Conn
to port = record { line = 1; port = port; value = Value (literal 1 0) }

abbrev pub unbound_is_refused : Type 0
unbound_is_refused = verdict (above (to a ∷ [])) ≡ Some (UnboundInput (at (codes "u.b")))

abbrev pub unknown_port_is_refused : Type 0
unknown_port_is_refused = verdict (above (to a ∷ to (codes "b") ∷ to (codes "q") ∷ [])) ≡ Some (UnknownPort (at (codes "q")))

abbrev pub connected_is_accepted : Type 0
connected_is_accepted = verdict (above (to a ∷ to (codes "b") ∷ [])) ≡ None

-- ---- parts and arms

abbrev s : Name
s = codes "s"

abbrev z : Name
z = codes "z"

abbrev set_part : Name → ℕ → ℕ → Expr → Stmt
set_part x h l e = Assign 0 1 [] x (Some (pos h, pos l)) e

-- case s { 2'd0: { y[7:4] = 4'h0; } 2'd1, 2'd2: { y[7:4] = a; } default { .. } }
abbrev by_s : Body → Stmt
by_s other =
    Case 0 1 [] (Read s)
    (arms_from ((literal 2 0 ∷ [], just (set_part y 7 4 (Value (literal 4 0)))) ∷ (literal 2 1 ∷ literal 2 2 ∷ [], just (set_part y 7 4 (Read a))) ∷ []))
    (Otherwise other)

-- module X { input s : 2; input a : 4; output y : 8; output z : 8; comb { .. } }
abbrev of_parts : List Stmt → Design
of_parts stmts = design (signal s Input 2 ∷ signal a Input 4 ∷ signal y Output 8 ∷ signal z Output 8 ∷ []) (comb (body stmts) ∷ [])

-- y[3:0] = a; case s { .. default { y = 8'hff; } } z = y;
abbrev pub parts_are_accepted : Type 0
parts_are_accepted = verdict (of_parts (set_part y 3 0 (Read a) ∷ by_s (just (set y (Value (literal 8 255)))) ∷ set z (Read y) ∷ [])) ≡ None

-- the default leaves bits 7 to 4
abbrev pub part_is_refused : Type 0
part_is_refused = verdict (of_parts (set_part y 3 0 (Read a) ∷ by_s Done ∷ set z (Value (literal 8 0)) ∷ [])) ≡ Some (Latch (at y))

-- y[3:0] = a; z = y; and the rest of y behind it
abbrev pub early_part_is_refused : Type 0
early_part_is_refused = verdict (of_parts (set_part y 3 0 (Read a) ∷ set z (Read y) ∷ set_part y 7 4 (Read a) ∷ [])) ≡ Some (ReadBeforeWrite (at y))

-- y[8:5] = a;
abbrev pub high_part_is_refused : Type 0
high_part_is_refused = verdict (of_parts (set_part y 8 5 (Read a) ∷ set y (Value (literal 8 0)) ∷ set z (Read y) ∷ [])) ≡ Some (WidthMismatch (at y) 8 9)
