-- Laws of sources, and the grammar computed on a sample.
use Rattle.std.specs.Prelude.{◌≡◌, ℕ, true, List, [], ◌∷◌, ◌++◌, None}
use Rattle.gen_token.specs.declared.Keyword.TheVariants as keyword
use Rattle.gen_token.specs.declared.Mark.TheVariants as mark
use Rattle.gen_token.specs.Words.{Word, Name, Number, Literal, Reserved, Sign, Tok}
use Rattle.gen_tree.specs.declared.Op.TheVariants as op
use Rattle.gen_tree.specs.Grammar.{Spells}
use Rattle.gen_tree.specs.Places.{IsSource, FaultAt}
use Rattle.gen_tree.specs.Tree.{num, Fam, plain, read, value, binary, assign, no_stmt, stmt, choose, no_else, comb, no_item, item, Module, Source}

-- two trees that these tokens are spelled by are equal
abbrev pub HasOneTree : List Tok → Type 0
HasOneTree tokens = (first second : Source) → Spells first tokens → Spells second tokens → first ≡ second

-- these tokens stop being the beginning of a source at one place at most
abbrev pub HasOnePlace : List Tok → Type 0
HasOnePlace tokens = (left other : ℕ) → FaultAt IsSource 64 tokens left → FaultAt IsSource 64 tokens other → left ≡ other

abbrev at : ℕ → Word → Tok
at line word = record { line = line; word = word }

-- module X { output y : 1;
--   comb { if a { y = (a & 1'h1); } } }
abbrev pub sample_head : List Tok
sample_head =
    at 1 (Reserved keyword.Module) ∷ at 1 (Name (88 ∷ [])) ∷ at 1 (Sign mark.LeftBrace)
    ∷ at 1 (Reserved keyword.Output) ∷ at 1 (Name (121 ∷ [])) ∷ at 1 (Sign mark.Colon) ∷ at 1 (Number 1) ∷ at 1 (Sign mark.Semicolon)
    ∷ at 2 (Reserved keyword.Comb) ∷ at 2 (Sign mark.LeftBrace)
    ∷ at 2 (Reserved keyword.If) ∷ at 2 (Name (97 ∷ [])) ∷ at 2 (Sign mark.LeftBrace)
    ∷ at 2 (Name (121 ∷ [])) ∷ at 2 (Sign mark.Equals) ∷ at 2 (Sign mark.LeftParen) ∷ at 2 (Name (97 ∷ []))
    ∷ at 2 (Sign mark.Ampersand) ∷ at 2 (Literal 1 1) ∷ at 2 (Sign mark.RightParen) ∷ []

abbrev pub sample_tail : List Tok
sample_tail =
    at 2 (Sign mark.Semicolon) ∷ at 2 (Sign mark.RightBrace) ∷ at 2 (Sign mark.RightBrace) ∷ at 2 (Sign mark.RightBrace) ∷ []

abbrev plainly : List ℕ → Fam
plainly x = record { name = x; index = None }

abbrev pub sample_module : Module
sample_module = record {
  line = 1;
  name = 88 ∷ [];
  params = [];
  ports = record { line = 1; output = true; name = 121 ∷ []; width = num 1 } ∷ [];
  items = item (comb 2 (stmt (choose 2 (read (plainly (97 ∷ []))) (stmt (assign 2 (plainly (121 ∷ [])) None (binary op.And (read (plainly (97 ∷ []))) (value (plain 1 1)))) no_stmt) no_else) no_stmt)) no_item;
}

abbrev pub sample_source : Source
sample_source = record { imports = []; modules = sample_module ∷ [] }

-- the sample is spelled by its tree
abbrev pub is_sample_source : Type 0
is_sample_source = Spells sample_source (sample_head ++ sample_tail)

-- with a closing bracket in place of the semicolon, it is that bracket from which on the tokens are no source
abbrev pub is_sample_fault : Type 0
is_sample_fault = FaultAt IsSource 64 (sample_head ++ at 2 (Sign mark.RightParen) ∷ sample_tail) 5

-- import x;
abbrev pub sample_imports : List Tok
sample_imports = at 1 (Reserved keyword.Import) ∷ at 1 (Name (120 ∷ [])) ∷ at 1 (Sign mark.Semicolon) ∷ []

-- an import stands before the modules; behind them it is the place of a fault, and imports alone are no source at their end
abbrev pub is_sample_import : Type 0
is_sample_import =
    Spells (record { imports = record { line = 1; name = 120 ∷ [] } ∷ []; modules = sample_module ∷ [] }) (sample_imports ++ sample_head ++ sample_tail)

abbrev pub is_late_import : Type 0
is_late_import = FaultAt IsSource 64 ((sample_head ++ sample_tail) ++ sample_imports) 3

abbrev pub is_lone_import : Type 0
is_lone_import = FaultAt IsSource 64 sample_imports 0
