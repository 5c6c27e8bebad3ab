-- A `case` whose arms assign a part of a signal, worked by hand: its tree as it is elaborated, and two cycles of it.
--  1: module K {
--  2:   input s : 2;
--  3:   input a : 4;
--  4:   output y : 8; output z : 8;
--  5:   comb {
--  6:     y[3:0] = a;
--  7:     case s {
--  8:       2'd0: { y[7:4] = 4'h0; }
--  9:       2'd1, 2'd2: { y[7:4] = a; }
-- 10:       default { y = 8'hff; }
-- 11:     }
-- 12:     z = y; } }
use Rattle.std.specs.Prelude.{◌≡◌, ℕ, pos, Bool, true, false, List, [], ◌∷◌, ◌++◌, Option, None, Some, Ok, codes, bytes_eq, if◌then◌else◌}
use Rattle.bv_core.specs.Value.{Bits}
use Rattle.gen_tree.specs.Tree as tree
use Rattle.gen_tree.specs.Tree.{Int, num, Fam, plain, read, value, assign, select, stmt, no_stmt, arm, no_arm, otherwise, comb, item, no_item, Port, Module}
use Rattle.design_core.specs.declared.expr.Literal.{Literal}
use Rattle.design_core.specs.declared.variant.Signal.{Signal}
use Rattle.design_core.specs.declared.variant.Kind.{Kind}
use Rattle.design_core.specs.declared.variant.Kind.TheVariants as kind
use Rattle.design_core.specs.Design.{Read, Value, Assign, Case, body, ThenArm, NoArms, Otherwise, Block, Variant, Design}
use Rattle.design_core.specs.Ports.{ports_in, top_signals}
use Rattle.exec_core.specs.Block.{Name}
use Rattle.exec_core.specs.Whole.{Place}
use Rattle.exec_core.specs.Run.{starts, IsRun}
use Rattle.design_exec.specs.Processes.{processes_of}
use Rattle.elab_core.specs.Design.{elaborated}
use Rattle.world_core.specs.declared.mode.Mode.{Mode}
use Rattle.world_core.specs.declared.mode.Mode.TheVariants.{Opt, Keep}
use Rattle.world_core.specs.World.{trail_text}
use Rattle.world_core.specs.Source.{source_world, rows_named}

-- ---- as it is read

abbrev port : Bool → ℕ → Name → ℕ → Port
port output line x width = record { line = line; output = output; name = x; width = num width }

-- on this line `y`, or the bits of it from one number down to another
abbrev assigns : ℕ → Option (Int × Int) → tree.Expr → tree.Stmt
assigns line part e = assign line (record { name = codes "y"; index = None }) part e

abbrev reads : Name → tree.Expr
reads x = read (record { name = x; index = None })

abbrev high : Option (Int × Int)
high = Some (num 7, num 4)

abbrev pub source : Module
source = record {
  line = 1;
  name = codes "K";
  params = [];
  ports = port false 2 (codes "s") 2 ∷ port false 3 (codes "a") 4 ∷ port true 4 (codes "y") 8 ∷ port true 4 (codes "z") 8 ∷ [];
  items =
      item (comb 5 (stmt (assigns 6 (Some (num 3, num 0)) (reads (codes "a")))
      (stmt (select 7 (reads (codes "s"))
      (arm (plain 2 0 ∷ []) (stmt (assigns 8 high (value (plain 4 0))) no_stmt)
      (arm (plain 2 1 ∷ plain 2 2 ∷ []) (stmt (assigns 9 high (reads (codes "a"))) no_stmt) no_arm))
      (otherwise (stmt (assigns 10 None (value (plain 8 255))) no_stmt)))
      (stmt (assign 12 (record { name = codes "z"; index = None }) None (reads (codes "y"))) no_stmt)))) no_item;
}

-- ---- as it is elaborated: a `case` has a slot, its arms and its default have none

abbrev literal : ℕ → ℕ → Literal
literal w n = record { width = pos w; negative = false; value = n }

abbrev signal : ℕ → Name → Kind → ℕ → Signal
signal line x kind w = record { line = line; name = x; kind = kind; width = pos w }

abbrev pub driving : Block
driving = record {
  line = 5;
  clocked = false;
  body =
      body (Assign 0 6 [] (codes "y") (Some (pos 3, pos 0)) (Read (codes "a"))
      ∷ Case 1 7 [] (Read (codes "s"))
      (ThenArm (literal 2 0 ∷ []) (body (Assign 2 8 [] (codes "y") (Some (pos 7, pos 4)) (Value (literal 4 0)) ∷ []))
      (ThenArm (literal 2 1 ∷ literal 2 2 ∷ []) (body (Assign 3 9 [] (codes "y") (Some (pos 7, pos 4)) (Read (codes "a")) ∷ [])) NoArms))
      (Otherwise (body (Assign 4 10 [] (codes "y") None (Value (literal 8 255)) ∷ [])))
      ∷ Assign 5 12 [] (codes "z") None (Read (codes "y"))
      ∷ []);
}

abbrev pub top : Variant
top = record {
  «module» = codes "K";
  params = [];
  signals = signal 2 (codes "s") kind.Input 2 ∷ signal 3 (codes "a") kind.Input 4 ∷ signal 4 (codes "y") kind.Output 8 ∷ signal 4 (codes "z") kind.Output 8 ∷ [];
  children = [];
  blocks = driving ∷ [];
}

abbrev pub design : Design
design = record { top = codes "K"; variants = top ∷ []; instances = record { path = codes "K"; variant = 0; parent = None } ∷ [] }

abbrev pub IsElaboratedByHand : Type 0
IsElaboratedByHand = elaborated (source ∷ []) (codes "K") [] ≡ Ok design

-- ---- its run over the rows 2 5 and 3 5

abbrev pub of_width : ℕ → ℕ → Bits
of_width w n = record { width = w; value = n }

-- `s` and what both outputs settle to; `a` is 5
abbrev pub cycle : ℕ → ℕ → Place → Bits
cycle s y p = if bytes_eq p.name (codes "s") then of_width 2 s else if bytes_eq p.name (codes "a") then of_width 4 5 else of_width 8 y

abbrev pub run : List (Place → Bits)
run = cycle 2 85 ∷ cycle 3 255 ∷ []

abbrev row : ℕ → List Bits
row s = of_width 2 s ∷ of_width 4 5 ∷ []

abbrev pub CasesRunByHand : Type 0
CasesRunByHand = IsRun (processes_of design) (starts (processes_of design)) (rows_named (ports_in false (top_signals design)) (row 2 ∷ row 3 ∷ [])) run

-- ---- its trail

-- two signals are driven: `y` and `z`
abbrev pub trail : Mode → List ℕ
trail mode = trail_text (source_world design 2 mode run)

-- `y` is unset until each of its bits was assigned on every path; in the second row the default runs
abbrev by_hand : List ℕ
by_hand =
    codes "0 6 K s=2'h2 a=4'h5 y=unset z=unset\n"
    ++ codes "0 7 K s=2'h2 a=4'h5 y=unset z=unset\n"
    ++ codes "0 9 K s=2'h2 a=4'h5 y=unset z=unset\n"
    ++ codes "0 12 K s=2'h2 a=4'h5 y=8'h55 z=unset\n"
    ++ codes "1 6 K s=2'h3 a=4'h5 y=unset z=unset\n"
    ++ codes "1 7 K s=2'h3 a=4'h5 y=unset z=unset\n"
    ++ codes "1 10 K s=2'h3 a=4'h5 y=unset z=unset\n"
    ++ codes "1 12 K s=2'h3 a=4'h5 y=8'hff z=unset\n"

abbrev pub IsCasesTrailByHand : Type 0
IsCasesTrailByHand = (trail Keep ≡ by_hand) × (trail Opt ≡ by_hand)
