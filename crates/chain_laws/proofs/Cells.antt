-- What the chain of so many cells is elaborated to: its instances, and its design.
use Rattle.std.proofs.Common.{ℕ, zero, suc, true, false, List, [], ◌∷◌, ◌++◌, Some, None}
use Rattle.std.specs.Prelude.{pos, codes, decimal}
use Rattle.exec_core.specs.Block.{Name}
use Rattle.design_core.specs.declared.Literal.{Literal}
use Rattle.design_core.specs.declared.Kind.{Kind}
use Rattle.design_core.specs.declared.Kind.TheVariants.{Input, Output, Reg, ChildOut}
use Rattle.design_core.specs.declared.Signal.{Signal}
use Rattle.design_core.specs.declared.Op.TheVariants.{Xor}
use Rattle.design_core.specs.declared.Instance as design_instance
use Rattle.design_core.specs.Design as design
use Rattle.design_core.specs.Design.{Gens, Expr, Read, Out, Value, Binary, Slice, Stmt, Assign, If, Body, Done, Then, NoElse, Conn, Block, Variant, Design}
use Rattle.elab_core.specs.Elaborated.{Child, Content, Instance}

-- ---- lists of members with numbers

-- so many of them, from a number on
abbrev pub span : {A : Type 0} → (ℕ → A) → ℕ → ℕ → List A
span f k zero = []
span f k (suc n) = f k ∷ span f (suc k) n

-- ---- a cell

abbrev pub literal_16 : ℕ → Literal
literal_16 n = record { width = pos 16; negative = false; value = n }

abbrev pub signal_16 : ℕ → Name → Kind → Signal
signal_16 line name kind = record { line = line; name = name; kind = kind; width = pos 16 }

abbrev pub cell_signals : List Signal
cell_signals = signal_16 2 (codes "x") Input ∷ signal_16 3 (codes "y") Output ∷ signal_16 4 (codes "s") (Reg (literal_16 0)) ∷ []

-- its statements, with slots
abbrev pub comb_body : (a b c : ℕ) → Body
comb_body a b c =
    Then (Assign a 6 [] (codes "y") None (Read (codes "s")))
    (Then (If b 7 [] (Slice (Read (codes "s")) (pos 0) (pos 0)) (Then (Assign c 8 [] (codes "y") None (Binary Xor (Read (codes "s")) (Value (literal_16 32768)))) Done) NoElse) Done)

abbrev pub ff_body : ℕ → Body
ff_body a = Then (Assign a 11 [] (codes "s") None (Read (codes "x"))) Done

abbrev pub cell_blocks : (a b c e : ℕ) → List Block
cell_blocks a b c e = record { line = 5; clocked = false; body = comb_body a b c } ∷ record { line = 11; clocked = true; body = ff_body e } ∷ []

-- as the walk makes them, without slots
abbrev pub cell_content : Content
cell_content = record { signals = cell_signals; children = []; blocks = cell_blocks 0 0 0 0 }

-- ---- the cells of a chain, by their numbers

abbrev pub cell_name : ℕ → Name
cell_name k = codes "c" ++ (codes "#" ++ decimal k)

abbrev pub cell_line : ℕ → ℕ
cell_line zero = 16
cell_line (suc k) = 18

-- what its input is connected to
abbrev pub cell_source : ℕ → Expr
cell_source zero = Read (codes "x")
cell_source (suc k) = Out (cell_name k) (codes "y")

abbrev pub cell_conns : ℕ → List Conn
cell_conns k = record { line = cell_line k; port = codes "x"; value = cell_source k } ∷ []

abbrev pub cell_child : ℕ → Child
cell_child k = record { line = cell_line k; name = cell_name k; place = 0; params = []; conns = cell_conns k }

-- its output, as a signal of the top
abbrev pub cell_output : ℕ → Signal
cell_output k = signal_16 (cell_line k) (cell_name k ++ (codes "." ++ codes "y")) (ChildOut k (codes "y"))

abbrev pub cell_path : ℕ → Name
cell_path k = codes "Chain" ++ (codes "." ++ cell_name k)

abbrev pub cell_instance : ℕ → Instance
cell_instance k = record { path = cell_path k; parent = Some 0; place = 0; params = []; content = cell_content }

-- ---- the top

abbrev pub top_gens : ℕ → Gens
top_gens n = (codes "N", pos n) ∷ []

-- with so many cells
abbrev pub chain_signals : ℕ → List Signal
chain_signals k = signal_16 14 (codes "x") Input ∷ signal_16 15 (codes "y") Output ∷ span cell_output 0 k

-- the output of the last cell, where there are one more than k
abbrev pub output_body : (slot k : ℕ) → Body
output_body slot k = Then (Assign slot 20 (top_gens (suc k)) (codes "y") None (Out (cell_name k) (codes "y"))) Done

abbrev pub output_block : (slot k : ℕ) → Block
output_block slot k = record { line = 20; clocked = false; body = output_body slot k }

abbrev pub top_instance : ℕ → Instance
top_instance k = record {
  path = codes "Chain";
  parent = None;
  place = 1;
  params = top_gens (suc k);
  content = record { signals = chain_signals (suc k); children = span cell_child 0 (suc k); blocks = output_block 0 k ∷ [] };
}

-- the instances of a chain of k + 1 cells
abbrev pub chain_instances : ℕ → List Instance
chain_instances k = top_instance k ∷ span cell_instance 0 (suc k)

-- ---- the design

abbrev pub design_child : ℕ → design.Child
design_child k = record { line = cell_line k; name = cell_name k; variant = 1; conns = cell_conns k }

abbrev pub top_variant : ℕ → Variant
top_variant k = record {
  «module» = codes "Chain";
  params = top_gens (suc k);
  signals = chain_signals (suc k);
  children = span design_child 0 (suc k);
  blocks = output_block 4 k ∷ [];
}

abbrev pub cell_variant : Variant
cell_variant = record { «module» = codes "Cell"; params = []; signals = cell_signals; children = []; blocks = cell_blocks 0 1 2 3 }

abbrev pub design_cell : ℕ → design_instance.Instance
design_cell k = record { path = cell_path k; variant = 1; parent = Some 0 }

abbrev pub design_top : design_instance.Instance
design_top = record { path = codes "Chain"; variant = 0; parent = None }

abbrev pub chain_design : ℕ → Design
chain_design k = record { top = codes "Chain"; variants = top_variant k ∷ cell_variant ∷ []; instances = design_top ∷ span design_cell 0 (suc k) }
