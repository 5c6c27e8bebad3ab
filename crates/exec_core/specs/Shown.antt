-- A block whose assignments are all whole, run on the trees that are shown: of each key the tree that it has, if it has one. Where
-- no part is assigned nothing else is needed, since a key then has all of its bits assigned or none.
use Rattle.std.specs.Prelude.{◌≡◌, ℕ, ◌≤◌, Bool, true, false, ◌||◌, List, [], ◌++◌, Option, Some, None, if◌then◌else◌}
use Rattle.bv_core.specs.Operators.{flag_of}
use Rattle.tree_core.specs.Tree.{Tree, Const, Leaf, Mux}
use Rattle.exec_core.specs.Block.{Name, Key, Now, Next, Stmt, Assign, If, Body, Done, Then, body_assigns, own}
use Rattle.exec_core.specs.Exec.{Env, put, on_three}
use Rattle.exec_core.specs.Trees.{tree_in, Row, row_of, then_enable, else_enable, block_rows, block_trees}
use Rattle.exec_core.specs.WholeNames.{body_assigns_part}

-- after an `if`: a key that neither branch assigns keeps its tree, and any other has a choice, where both branches leave it a tree
abbrev pub shown_merged : Bool → Option (Tree Name) → Option (Tree Name) → Option (Tree Name) → Option (Tree Name) → Option (Tree Name)
shown_merged assigned test first second before = if assigned then on_three Mux test first second else before

-- each key's tree afterwards, if it has one
abbrev mutual
  pub shown_after : Stmt → Env (Tree Name) → Env (Tree Name)
  shown_after (Assign slot key part value) trees = put key (tree_in value trees) trees
  shown_after (If slot test yes_body no_body) trees =
      λ y.
      shown_merged (body_assigns yes_body y || body_assigns no_body y) (tree_in test trees) (body_shown_after yes_body trees y) (body_shown_after no_body trees y) (trees y)

  pub body_shown_after : Body → Env (Tree Name) → Env (Tree Name)
  body_shown_after Done trees = trees
  body_shown_after (Then statement rest) trees = body_shown_after rest (shown_after statement trees)

-- the rows in preorder
abbrev mutual
  pub shown_rows : Stmt → Option (Tree Name) → Env (Tree Name) → List Row
  shown_rows (Assign slot key part value) enable trees = row_of (Some slot) enable trees
  shown_rows (If slot test yes_body no_body) enable trees =
      row_of slot enable trees
      ++ (body_shown_rows yes_body (then_enable enable (tree_in test trees)) trees ++ body_shown_rows no_body (else_enable enable (tree_in test trees)) trees)

  pub body_shown_rows : Body → Option (Tree Name) → Env (Tree Name) → List Row
  body_shown_rows Done enable trees = []
  body_shown_rows (Then statement rest) enable trees = shown_rows statement enable trees ++ body_shown_rows rest enable (shown_after statement trees)

-- before a block's first statement its own names have no tree, and any other name, and each register, stands for itself
abbrev pub shown_start : Body → Env (Tree Name)
shown_start body (Now x) = if own body x then None else Some (Leaf x)
shown_start body (Next x) = Some (Leaf x)

-- of a whole block: its rows from an enable of 1, and the trees that it ends with
abbrev pub block_shown_rows : Body → List Row
block_shown_rows body = body_shown_rows body (Some (Const (flag_of true))) (shown_start body)

abbrev pub block_shown_trees : Body → Env (Tree Name)
block_shown_trees body = body_shown_after body (shown_start body)

-- no part of a name is assigned, and every own name has some bit
pub record IsWhole (width : Name → ℕ) (body : Body) : Type 0 where
  pub no_part : (y : Key) → body_assigns_part body y ≡ false
  pub some_bit : (x : Name) → own body x ≡ true → 1 ≤ width x

-- then the rows and the last trees are these, whatever the widths are
pub record IsShown (width : Name → ℕ) (body : Body) : Type 0 where
  pub rows : block_rows width body ≡ block_shown_rows body
  pub ends : block_trees width body ≡ block_shown_trees body

abbrev pub WholeBlocksAreShown : Type 0
WholeBlocksAreShown = (width : Name → ℕ) (body : Body) → IsWhole width body → IsShown width body
