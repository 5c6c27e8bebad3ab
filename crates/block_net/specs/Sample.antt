-- A small block, with the terms and the log of a walk through it by hand.
--   comb {
--     let s = (a + 4'h1);                               slot 0
--     if (a == 4'h3) { q = s; } else { q = 4'h0; }      slots 1, 2, 3
--   }
use Rattle.std.specs.Prelude.{◌≡◌, ℕ, pos, List, [], ◌∷◌, Option, Some, None, codes, map}
use Rattle.design_core.specs.declared.expr.UnOp.TheVariants.{Not}
use Rattle.design_core.specs.declared.expr.Op.TheVariants.{Add, And, Eq}
use Rattle.tree_core.specs.Tree as tree
use Rattle.tree_core.specs.Tree.{Tree}
use Rattle.exec_core.specs.Block.{Name, Now}
use Rattle.exec_core.specs.Exec.{shown}
use Rattle.exec_core.specs.Trees.{Row, block_rows, tree_start}
use Rattle.exec_core.specs.Sample.{child_body, fours, q_tree}
use Rattle.block_net.specs.declared.key.Key as code_key
use Rattle.block_net.specs.declared.key.Key.TheVariants as keys
use Rattle.block_net.specs.declared.effect.Effect.{Effect}
use Rattle.block_net.specs.declared.effect.Effect.TheVariants.{Set, Slot}
use Rattle.block_net.specs.declared.term.Term.{Term}
use Rattle.block_net.specs.declared.term.Term.TheVariants.{Leaf, Value, Unary, Binary, Mux}
use Rattle.block_net.specs.declared.term.TermId.{TermId}
use Rattle.block_net.specs.Terms.{AreNumbered}
use Rattle.block_net.specs.Logs.{rows_of, ends_of}

abbrev pub id : ℕ → TermId
id n = record { 0 = n }

-- the enable, `a`, 4'h1, their sum, 4'h3, the test, the enables of both branches, 4'h0 and the choice; `a` and the test stand once
abbrev pub sample_terms : List Term
sample_terms =
    Value (pos 1) 1 ∷ Leaf (codes "a") ∷ Value (pos 4) 1 ∷ Binary Add (id 1) (id 2) ∷ Value (pos 4) 3 ∷ Binary Eq (id 1) (id 4) ∷ Binary And (id 0) (id 5) ∷ Unary Not (id 5)
    ∷ Binary And (id 0) (id 7) ∷ Value (pos 4) 0 ∷ Mux (id 5) (id 3) (id 9) ∷ []

abbrev pub s : code_key.Key
s = keys.Now (codes "s")

abbrev pub q : code_key.Key
q = keys.Now (codes "q")

-- `q` is set in the then-branch, is as before at the else-branch, and has the choice at the end
abbrev pub sample_log : List Effect
sample_log =
    Slot 0 (Some (id 0)) ∷ Set s (Some (id 3)) ∷ Slot 1 (Some (id 0)) ∷ Slot 2 (Some (id 6)) ∷ Set q (Some (id 3)) ∷ Set q None ∷ Slot 3 (Some (id 8)) ∷ Set q (Some (id 9))
    ∷ Set q (Some (id 10)) ∷ []

abbrev pub sample_rows : List Row
sample_rows = rows_of sample_terms sample_log (shown fours (tree_start fours child_body))

-- what a name has before each slot
abbrev pub column : Name → List Row → List (Option (Tree Name))
column x rows = map (λ (row : Row). row.before (Now x)) rows

-- the log tells the rows of the block, and what it ends with
pub record SampleTold : Type 0 where
  pub numbered : AreNumbered sample_terms
  pub slots : map (λ (row : Row). row.slot) sample_rows ≡ 0 ∷ 1 ∷ 2 ∷ 3 ∷ []
  pub enables : map (λ (row : Row). row.enable) sample_rows ≡ map (λ (row : Row). row.enable) (block_rows fours child_body)
  pub sums : column (codes "s") sample_rows ≡ column (codes "s") (block_rows fours child_body)
  pub choices : column (codes "q") sample_rows ≡ None ∷ None ∷ None ∷ None ∷ []
  pub inputs : column (codes "a") sample_rows ≡ column (codes "a") (block_rows fours child_body)
  pub end : ends_of sample_terms sample_log (shown fours (tree_start fours child_body)) (Now (codes "q")) ≡ Some (q_tree (tree.Leaf (codes "a")))
