-- A design of which not all is kept, worked by hand over two cycles.
--  1: module Top(N = 3) {
--  2:   input x : 4;
--  3:   output y : 4;
--  4:   reg r : 4 = 4'h0;
--  5:   comb {
--  6:     let k = bits(4, N);
--  7:     let t = (x + r);
--  8:     y = x; }
--  9:   ff {
-- 10:     r <= (r + 4'h1); } }
use Rattle.std.specs.Prelude.{◌≡◌, ℕ, pos, true, false, List, [], ◌∷◌, ◌++◌, None, codes, bytes_eq, if◌then◌else◌}
use Rattle.bv_core.specs.Value.{Bits}
use Rattle.bv_core.specs.declared.operators.Op2.TheVariants as op2
use Rattle.tree_core.specs.Tree.{Const, Leaf, Two, Input, Register, Whole}
use Rattle.design_core.specs.declared.expr.Op.TheVariants as two
use Rattle.design_core.specs.declared.expr.Literal.{Literal}
use Rattle.design_core.specs.declared.variant.Signal.{Signal}
use Rattle.design_core.specs.declared.variant.Kind.{Kind}
use Rattle.design_core.specs.declared.variant.Kind.TheVariants as kind
use Rattle.design_core.specs.Design.{Gens, Expr, Read, Value, Binary, Assign, Let, body, Block, Variant, Design}
use Rattle.design_core.specs.Ports.{ports_in, top_signals}
use Rattle.exec_core.specs.Block.{Name}
use Rattle.exec_core.specs.Whole.{Place}
use Rattle.exec_core.specs.Run.{starts, IsRun}
use Rattle.design_exec.specs.Processes.{processes_of}
use Rattle.world_core.specs.declared.mode.Mode.{Mode}
use Rattle.world_core.specs.declared.mode.Mode.TheVariants.{Opt, Keep}
use Rattle.world_core.specs.World.{trail_text}
use Rattle.world_core.specs.Kept.{kept_trees}
use Rattle.world_core.specs.Source.{source_world, rows_named}

abbrev literal : ℕ → Literal
literal n = record { width = pos 4; negative = false; value = n }

abbrev signal : ℕ → Name → Kind → Signal
signal line x kind = record { line = line; name = x; kind = kind; width = pos 4 }

abbrev gens : Gens
gens = (codes "N", pos 3) ∷ []

abbrev reads : Name → Expr
reads x = Read x

abbrev pub driving : Block
driving = record {
  line = 5;
  clocked = false;
  body =
      body (Let 0 6 gens (codes "k") (Value (literal 3))
      ∷ Let 1 7 gens (codes "t") (Binary two.Add (reads (codes "x")) (reads (codes "r")))
      ∷ Assign 2 8 gens (codes "y") None (reads (codes "x"))
      ∷ []);
}

abbrev pub counting : Block
counting = record { line = 9; clocked = true; body = body (Assign 3 10 gens (codes "r") None (Binary two.Add (reads (codes "r")) (Value (literal 1))) ∷ []) }

-- the output needs neither `t` nor `r`; `k` is a constant
abbrev pub top : Variant
top = record {
  «module» = codes "Top";
  params = gens;
  signals = signal 2 (codes "x") kind.Input ∷ signal 3 (codes "y") kind.Output ∷ signal 4 (codes "r") (kind.Reg (literal 0)) ∷ [];
  children = [];
  blocks = driving ∷ counting ∷ [];
}

abbrev pub design : Design
design = record { top = codes "Top"; variants = top ∷ []; instances = record { path = codes "Top"; variant = 0; parent = None } ∷ [] }

-- one signal is driven: `y`
abbrev pub driven : ℕ
driven = 1

-- ---- what is kept

abbrev pub four : ℕ → Bits
four n = record { width = 4; value = n }

abbrev x_leaf : Whole
x_leaf = Leaf (Input (codes "x") 4)

abbrev r_leaf : Whole
r_leaf = Leaf (Register (codes "Top") (codes "r") (four 0))

abbrev enabled : Whole
enabled = Const (record { width = 1; value = 1 })

-- for the output and the enables alone, and for the names too: `k`, `t`, and the register with its next value
pub record IsKeptByHand : Type 0 where
  pub opt : kept_trees design driven Opt ≡ x_leaf ∷ enabled ∷ []
  pub keep :
      kept_trees design driven Keep
      ≡ x_leaf ∷ enabled ∷ r_leaf ∷ Const (four 3) ∷ Two op2.Add x_leaf r_leaf ∷ Const (four 1) ∷ Two op2.Add r_leaf (Const (four 1)) ∷ []

-- ---- its run over the rows 5 and 6

abbrev pub cycle : ℕ → ℕ → Place → Bits
cycle x r p = if bytes_eq p.name (codes "r") then four r else four x

abbrev pub run : List (Place → Bits)
run = cycle 5 0 ∷ cycle 6 1 ∷ []

abbrev pub RunsByHand : Type 0
RunsByHand =
    IsRun (processes_of design) (starts (processes_of design)) (rows_named (ports_in false (top_signals design)) ((four 5 ∷ []) ∷ (four 6 ∷ []) ∷ [])) run

-- ---- its trail

abbrev pub trail : Mode → List ℕ
trail mode = trail_text (source_world design driven mode run)

-- where only what is needed is kept, a constant is shown all the same, and `r` and `t` are removed. A name that is not assigned yet is
-- unset, whatever is kept
pub record IsTrailByHand : Type 0 where
  pub keep :
      trail Keep
      ≡ codes "0 6 Top N=3 x=4'h5 y=unset r=4'h0 k=unset t=unset\n"
      ++ codes "0 7 Top N=3 x=4'h5 y=unset r=4'h0 k=4'h3 t=unset\n"
      ++ codes "0 8 Top N=3 x=4'h5 y=unset r=4'h0 k=4'h3 t=4'h5\n"
      ++ codes "0 10 Top N=3 x=4'h5 y=4'h5 r=4'h0\n"
      ++ codes "1 6 Top N=3 x=4'h6 y=unset r=4'h1 k=unset t=unset\n"
      ++ codes "1 7 Top N=3 x=4'h6 y=unset r=4'h1 k=4'h3 t=unset\n"
      ++ codes "1 8 Top N=3 x=4'h6 y=unset r=4'h1 k=4'h3 t=4'h7\n"
      ++ codes "1 10 Top N=3 x=4'h6 y=4'h6 r=4'h1\n"
  pub opt :
      trail Opt
      ≡ codes "0 6 Top N=3 x=4'h5 y=unset r=removed k=unset t=unset\n"
      ++ codes "0 7 Top N=3 x=4'h5 y=unset r=removed k=4'h3 t=unset\n"
      ++ codes "0 8 Top N=3 x=4'h5 y=unset r=removed k=4'h3 t=removed\n"
      ++ codes "0 10 Top N=3 x=4'h5 y=4'h5 r=removed\n"
      ++ codes "1 6 Top N=3 x=4'h6 y=unset r=removed k=unset t=unset\n"
      ++ codes "1 7 Top N=3 x=4'h6 y=unset r=removed k=4'h3 t=unset\n"
      ++ codes "1 8 Top N=3 x=4'h6 y=unset r=removed k=4'h3 t=removed\n"
      ++ codes "1 10 Top N=3 x=4'h6 y=4'h6 r=removed\n"
