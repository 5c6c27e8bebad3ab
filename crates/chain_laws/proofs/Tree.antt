-- The modules that the chain's text is read as.
use Rattle.std.proofs.Common.{◌≡◌, ℕ, Bool, true, false, List, [], ◌∷◌, Some, None, Ok, refl, lit≤}
use Rattle.std.specs.Prelude.{codes}
use Rattle.gen_tree.specs.declared.IntOp.TheVariants as int_op
use Rattle.gen_tree.specs.declared.Op.TheVariants as op
use Rattle.gen_tree.specs.Tree.{Int, num, var, bin, Fam, plain, Expr, read, out, value, binary, slice, assign, choose, Stmts, no_stmt, stmt, no_else, Item, reg, inst, comb, ff, repeat_items, Items, no_item, item, Port, Module, Source}
use Rattle.gen_text.specs.Source.{Reads}
use Rattle.gen_text.specs.Reading.{modules_by, source_at, module_at, import_at, item_at, stmt_at, arms_at, expr_at, int_at, each_by, until_by}
use Rattle.gen_text.proofs.Law.{read_found}
use Rattle.demo_run.specs.Chain.{chain_source}
use Rattle.chain_laws.proofs.Tokens.{chain_tokens, chain_tokens_are}

abbrev pub plainly : List ℕ → Fam
plainly x = record { name = x; index = None }

abbrev pub member : List ℕ → Int → Fam
member x i = record { name = x; index = Some i }

abbrev pub reads_name : List ℕ → Expr
reads_name x = read (plainly x)

abbrev pub port_16 : ℕ → Bool → List ℕ → Port
port_16 line output x = record { line = line; output = output; name = x; width = num 16 }

-- ---- the cell

abbrev pub cell_register : Item
cell_register = reg 4 (plainly (codes "s")) (num 16) (plain 16 0)

abbrev pub cell_comb : Stmts
cell_comb =
    stmt (assign 6 (plainly (codes "y")) None (reads_name (codes "s")))
    (stmt (choose 7 (slice (reads_name (codes "s")) (num 0) (num 0)) (stmt (assign 8 (plainly (codes "y")) None (binary op.Xor (reads_name (codes "s")) (value (plain 16 32768)))) no_stmt) no_else) no_stmt)

abbrev pub cell_ff : Stmts
cell_ff = stmt (assign 11 (plainly (codes "s")) None (reads_name (codes "x"))) no_stmt

abbrev pub cell_module : Module
cell_module = record {
  line = 1;
  name = codes "Cell";
  params = [];
  ports = port_16 2 false (codes "x") ∷ port_16 3 true (codes "y") ∷ [];
  items = item cell_register (item (comb 5 cell_comb) (item (ff 11 cell_ff) no_item));
}

-- ---- the chain of cells

-- a cell, whose input is this
abbrev pub cell_item : ℕ → Int → Expr → Item
cell_item line i e = inst line (member (codes "c") i) (codes "Cell") [] (record { line = line; port = codes "x"; value = e } ∷ [])

abbrev pub one_before : List ℕ → Int
one_before x = bin int_op.Sub (var x) (num 1)

-- the output of the cell before the one of this number
abbrev pub output_before : List ℕ → Expr
output_before x = out (member (codes "c") (one_before x)) (codes "y")

abbrev pub loop_body : Items
loop_body = item (cell_item 18 (var (codes "i")) (output_before (codes "i"))) no_item

abbrev pub top_comb : Stmts
top_comb = stmt (assign 20 (plainly (codes "y")) None (output_before (codes "N"))) no_stmt

abbrev pub top_items : Items
top_items = item (cell_item 16 (num 0) (reads_name (codes "x"))) (item (repeat_items 17 (codes "i") (num 1) (var (codes "N")) loop_body) (item (comb 20 top_comb) no_item))

abbrev pub top_module : Module
top_module = record {
  line = 13;
  name = codes "Chain";
  params = record { name = codes "N"; value = num 1 } ∷ [];
  ports = port_16 14 false (codes "x") ∷ port_16 15 true (codes "y") ∷ [];
  items = top_items;
}

abbrev pub chain_modules : List Module
chain_modules = cell_module ∷ top_module ∷ []

-- ---- the text is read so

-- the source that the text is
abbrev pub chain_tree : Source
chain_tree = record { imports = []; modules = chain_modules }

found : source_at 64 chain_tokens ≡ Ok chain_tree
unfolding modules_by module_at import_at item_at stmt_at arms_at expr_at int_at each_by until_by
found = refl

pub chain_is_read : Reads 0 chain_source chain_tree
chain_is_read = record {
  is_text = record { fits = lit≤ tt; bytes = refl };
  tokens = chain_tokens;
  are = chain_tokens_are;
  spelled = (read_found 64 chain_tokens chain_tree found).0;
  within = (read_found 64 chain_tokens chain_tree found).1;
}
