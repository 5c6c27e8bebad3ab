-- What is kept of a design: the least set of folded whole trees that its outputs and enables need and, where names are kept, its
-- names.
use Rattle.std.specs.Prelude.{ℕ, Bool, true, List, [], ◌∷◌, ◌++◌, length, map, Option, Some, None, option_map, option_and_then}
use Rattle.std.specs.List.{flat_map}
use Rattle.tree_core.specs.Tree.{Tree, Leaf, Whole}
use Rattle.exec_core.specs.Block.{Name, Now}
use Rattle.exec_core.specs.Trees.{Row, block_rows, row_at}
use Rattle.exec_core.specs.Design.{place, moved, folded_tree}
use Rattle.exec_core.specs.Kept.{IsKept, NumberedAreKept, next_in, numbered, has_number}
use Rattle.design_core.specs.Design.{Design}
use Rattle.design_core.specs.Ports.{ports_in, top_signals}
use Rattle.design_exec.specs.Processes.{processes_of}
use Rattle.world_core.specs.declared.mode.Mode.{Mode}
use Rattle.world_core.specs.declared.mode.Mode.TheVariants.{Opt, Keep}
use Rattle.world_core.specs.Sites.{Site, site_body, Spot, all_spots}

-- n is how many signals are driven: as many times a signal is replaced by the tree of its driver

-- the row of a statement in its block: its enable, and the tree of each name before it
abbrev pub block_row : Site → Option Row
block_row s = row_at s.slot (block_rows s.widths (site_body s))

-- the folded whole tree of a tree over the names of an instance
abbrev pub whole_in : Design → ℕ → ℕ → Tree Name → Whole
whole_in d n i t = folded_tree (processes_of d) n (moved i t)

-- that of the enable of a statement in an instance
abbrev pub enable_tree : Design → ℕ → Spot → Option Whole
enable_tree d n p = option_map (whole_in d n p.1) (option_and_then (λ row. row.enable) (block_row p.0))

-- and that of a name before it, which is none where the name is unset
abbrev pub name_tree : Design → ℕ → Spot → Name → Option Whole
name_tree d n p x = option_map (whole_in d n p.1) (option_and_then (λ row. row.before (Now x)) (block_row p.0))

-- the trees that are asked for, in the order of their walk: those of the outputs of the top, of the enables and, where names are
-- kept, of the names
abbrev pub listed : {A : Type 0} → Option A → List A
listed None = []
listed (Some a) = a ∷ []

abbrev pub output_trees : Design → ℕ → List Whole
output_trees d n = map (λ port. folded_tree (processes_of d) n (Leaf (place 0 port.0))) (ports_in true (top_signals d))

abbrev pub enable_trees : Design → ℕ → List Spot → List Whole
enable_trees d n spots = flat_map (λ p. listed (enable_tree d n p)) spots

abbrev pub name_trees : Design → ℕ → List Spot → List Whole
name_trees d n spots = flat_map (λ p. flat_map (λ x. listed (name_tree d n p x)) p.0.names) spots

abbrev pub named_trees : Design → ℕ → Mode → List Whole
named_trees d n Opt = []
named_trees d n Keep = name_trees d n (all_spots d)

abbrev pub asked_trees : Design → ℕ → Mode → List Whole
asked_trees d n mode = output_trees d n ++ (enable_trees d n (all_spots d) ++ named_trees d n mode)

-- the least set that holds these, each operand of a member, and the next-value tree of each register that is a member
abbrev pub IsKeptIn : Design → ℕ → Mode → Whole → Type 0
IsKeptIn d n mode t = IsKept (asked_trees d n mode) (next_in (processes_of d) n) t

-- its members by their numbers: those asked for are walked, operands first, and then the next-value trees of registers
abbrev pub kept_trees : Design → ℕ → Mode → List Whole
kept_trees d n mode = numbered (asked_trees d n mode) (next_in (processes_of d) n) (length (processes_of d).givens)

abbrev pub is_kept : Design → ℕ → Mode → Whole → Bool
is_kept d n mode t = has_number t (kept_trees d n mode)

-- the numbered trees are exactly the members of the least set, each once
abbrev pub KeptAreLeast : Type 0
KeptAreLeast = (d : Design) (n : ℕ) (mode : Mode) → NumberedAreKept (asked_trees d n mode) (next_in (processes_of d) n) (kept_trees d n mode)
