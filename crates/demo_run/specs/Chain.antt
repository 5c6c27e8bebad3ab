-- The design of the demo and its stimulus, as texts: a chain of cells, each of which hands on what it was handed in the cycle before,
-- and flips the upper bit of an odd number.
use Rattle.std.specs.Prelude.{ℕ, pos, List, [], ◌∷◌, ◌++◌, codes}
use Rattle.std.specs.List.{flat_map}
use Rattle.std.specs.Fmt.{decimal}
use Rattle.list_core.specs.Lists.{from}
use Rattle.design_judge.specs.Judgement.{Top}

abbrev pub chain_source : List ℕ
chain_source =
    codes "module Cell {\n" ++ codes "  input x : 16;\n" ++ codes "  output y : 16;\n" ++ codes "  reg s : 16 = 16'h0000;\n" ++ codes "  comb {\n" ++ codes "    y = s;\n"
    ++ codes "    if s[0:0] {\n" ++ codes "      y = (s ^ 16'h8000);\n" ++ codes "    }\n" ++ codes "  }\n" ++ codes "  ff { s <= x; }\n" ++ codes "}\n"
    ++ codes "module Chain(N = 1) {\n" ++ codes "  input x : 16;\n" ++ codes "  output y : 16;\n" ++ codes "  inst c#0 : Cell { x = x; }\n"
    ++ codes "  for i in 1..N {\n" ++ codes "    inst c#i : Cell { x = c#(i - 1).y; }\n" ++ codes "  }\n" ++ codes "  comb { y = c#(N - 1).y; }\n" ++ codes "}\n"

-- the chain of so many cells
abbrev pub chain_top : ℕ → Top
chain_top number = record { name = codes "Chain"; given = (codes "N", pos number) ∷ [] }

-- a row for each cycle, with its number
abbrev pub row_count : ℕ
row_count = 1000

abbrev pub row_line : ℕ → List ℕ
row_line t = decimal t ++ codes "\n"

abbrev pub chain_stimulus : ℕ → List ℕ
chain_stimulus rows = codes "x\n" ++ flat_map row_line (from 0 rows)
