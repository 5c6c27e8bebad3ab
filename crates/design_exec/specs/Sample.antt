-- The design of two instances that exec_core works by hand, as elaboration gives it.
use Rattle.std.specs.Prelude.{◌≡◌, ℕ, pos, true, false, [], ◌∷◌, map, Some, None, codes}
use Rattle.design_core.specs.declared.expr.Op.TheVariants as two
use Rattle.design_core.specs.declared.expr.Literal.{Literal}
use Rattle.design_core.specs.declared.variant.Signal.{Signal}
use Rattle.design_core.specs.declared.variant.Kind.{Kind}
use Rattle.design_core.specs.declared.variant.Kind.TheVariants.{Input, Output, Reg, ChildOut}
use Rattle.design_core.specs.Design.{Expr, Read, Out, Value, Binary, Assign, Let, If, body, NoElse, Otherwise, Variant, Design}
use Rattle.exec_core.specs.Block.{Name, Body}
use Rattle.exec_core.specs.Design.{Process, place}
use Rattle.exec_core.specs.Sample.{child_body, top_body, register_body, sample, sample_signals}
use Rattle.design_exec.specs.Processes.{processes_of}

abbrev of_four : ℕ → ℕ → Literal
of_four w n = record { width = pos w; negative = false; value = n }

abbrev number : ℕ → Expr
number n = Value (of_four 4 n)

abbrev reads : Name → Expr
reads x = Read x

abbrev signal : ℕ → Name → Kind → Signal
signal line x kind = record { line = line; name = x; kind = kind; width = pos 4 }

-- module Child { input a : 4; output q : 4;
--   comb {
--     let s = (a + 4'h1);
--     if (a == 4'h3) { q = s; } else { q = 4'h0; }
--   }
-- }
abbrev pub child : Variant
child = record {
  «module» = codes "Child";
  params = [];
  signals = signal 1 (codes "a") Input ∷ signal 1 (codes "q") Output ∷ [];
  children = [];
  blocks = record {
    line = 2;
    clocked = false;
    body =
        body (Let 0 3 [] (codes "s") (Binary two.Add (reads (codes "a")) (number 1))
        ∷ If 1 4 [] (Binary two.Eq (reads (codes "a")) (number 3)) (body (Assign 2 4 [] (codes "q") None (reads (codes "s")) ∷ [])) (Otherwise (body (Assign 3 4 [] (codes "q") None (number 0) ∷ [])))
        ∷ []);
  } ∷ [];
}

-- module Top { input x : 4; output y : 4; reg r : 4 = 4'h3;
--   inst u : Child { a = r; }
--   comb { y = u.q; }
--   ff { if (x < r) { r <= y; } }
-- }
abbrev pub top : Variant
top = record {
  «module» = codes "Top";
  params = [];
  signals =
      signal 7 (codes "x") Input ∷ signal 7 (codes "y") Output ∷ signal 7 (codes "r") (Reg (of_four 4 3)) ∷ signal 8 (codes "u.q") (ChildOut 0 (codes "q")) ∷ [];
  children = record { line = 8; name = codes "u"; variant = 1; conns = record { line = 8; port = codes "a"; value = reads (codes "r") } ∷ [] } ∷ [];
  blocks =
      record { line = 9; clocked = false; body = body (Assign 4 9 [] (codes "y") None (Out (codes "u") (codes "q")) ∷ []) }
      ∷ record { line = 10; clocked = true; body = body (If 5 10 [] (Binary two.Lt (reads (codes "x")) (reads (codes "r"))) (body (Assign 6 10 [] (codes "r") None (reads (codes "y")) ∷ [])) NoElse ∷ []) }
      ∷ [];
}

abbrev pub elaborated : Design
elaborated = record {
  top = codes "Top";
  variants = top ∷ child ∷ [];
  instances = record { path = codes "Top"; variant = 0; parent = None } ∷ record { path = codes "Top.u"; variant = 1; parent = Some 0 } ∷ [];
}

-- the instance and the statements of a process, and the width that the name `s` has in it as a let
abbrev pub told : Process → ℕ × Body × ℕ
told b = (b.instance, b.body, b.let_width (codes "s"))

-- it has the processes of that design, instance by instance, its links, what is given in it, its signals and their widths
pub record Translates : Type 0 where
  pub blocks : map told (processes_of elaborated).processes ≡ (0, top_body, 0) ∷ (0, register_body, 0) ∷ (1, child_body, 4) ∷ []
  pub links : (processes_of elaborated).links ≡ sample.links
  pub givens : (processes_of elaborated).givens ≡ sample.givens
  pub signals : map (processes_of elaborated).is_signal sample_signals ≡ map sample.is_signal sample_signals
  pub no_let : (processes_of elaborated).is_signal (place 1 (codes "s")) ≡ false
  pub widths : map (processes_of elaborated).width sample_signals ≡ map sample.width sample_signals
