-- The world of a design's execution: which statements are executed in each cycle of a run, and what each name has before them.
use Rattle.std.specs.Prelude.{ℕ, Bool, false, ◌||◌, List, [], ◌∷◌, length, map, filter, Option, Some, None, is_some, slice_index_or, option_and_then, bytes_eq, if◌then◌else◌}
use Rattle.bv_core.specs.Value.{Bits}
use Rattle.tree_core.specs.Tree.{Whole}
use Rattle.tree_core.specs.Width.{tree_width}
use Rattle.tree_core.specs.Fold.{constant}
use Rattle.exec_core.specs.Block.{Name, Now}
use Rattle.exec_core.specs.Exec.{Env}
use Rattle.exec_core.specs.Whole.{Place}
use Rattle.exec_core.specs.Run.{thread_of}
use Rattle.design_core.specs.Design.{Design}
use Rattle.list_core.specs.Lists.{from}
use Rattle.design_exec.specs.Processes.{processes_of}
use Rattle.world_core.specs.declared.mode.Mode.{Mode}
use Rattle.world_core.specs.Sites.{Site, sites_at, sites_in_order, instances_with, unset_in}
use Rattle.world_core.specs.World.{Status, IsUnset, IsRemoved, HasWidth, shown_by, Shows, World}
use Rattle.world_core.specs.Kept.{name_tree, is_kept}

-- the settled values of a cycle of a run; it has no others
abbrev pub nothing : Place → Bits
nothing p = record { width = 1; value = 0 }

abbrev pub settled_in : List (Place → Bits) → ℕ → Place → Bits
settled_in run t = slice_index_or run t nothing

-- the environment before a slot's statement, where an instance executes it in a cycle
abbrev pub visit_in : Design → List (Place → Bits) → ℕ → ℕ → ℕ → Option (Env Bits)
visit_in d run t k i = thread_of (processes_of d) (settled_in run t) i k

-- whether a name is unset at the statement of a slot
abbrev pub unset_among : List Site → ℕ → Name → Bool
unset_among [] k x = false
unset_among (s ∷ sites) k x = unset_in s k x

abbrev pub unset_at : Design → ℕ → Name → Bool
unset_at d k x = unset_among (sites_at d k) k x

-- the folded whole tree of a name before it, in an instance
abbrev pub tree_among : Design → ℕ → List Site → ℕ → Name → Option Whole
tree_among d n [] i x = None
tree_among d n (s ∷ sites) i x = name_tree d n (s, i) x

abbrev pub tree_before : Design → ℕ → ℕ → ℕ → Name → Option Whole
tree_before d n k i x = tree_among d n (sites_at d k) i x

-- a name that is not unset is removed where its tree is neither a constant nor kept, and otherwise has the width of its tree
abbrev pub kept_status : (Whole → Bool) → Option Whole → Status
kept_status kept None = IsUnset
kept_status kept (Some t) = if is_some (constant t) || kept t then HasWidth (tree_width t) else IsRemoved

abbrev pub status_at : Design → ℕ → Mode → ℕ → ℕ → Name → Status
status_at d n mode k i x = if unset_at d k x then IsUnset else kept_status (is_kept d n mode) (tree_before d n k i x)

abbrev pub shows_of : Design → Site → Shows
shows_of d s = record { line = s.line; gens = s.gens; names = s.names; instances = instances_with d s.variant }

-- what a name has before a slot's statement, where an instance executes it in a cycle
abbrev pub value_before : Design → List (Place → Bits) → ℕ → ℕ → ℕ → Name → Option Bits
value_before d run t k i x = option_and_then (λ env. env (Now x)) (visit_in d run t k i)

-- the world of a run: an instance is a thread of a slot in a cycle where it executes the slot's statement, and of each name that is
-- shown there is what it has before the statement. What was kept says only what is removed
abbrev pub source_world : Design → ℕ → Mode → List (Place → Bits) → World
source_world d n mode run = record {
  cycles = length run;
  paths = map (λ r. r.path) d.instances;
  slots = map (shows_of d) (sites_in_order d);
  status = status_at d n mode;
  threads = λ t k. filter (λ i. is_some (visit_in d run t k i)) (from 0 (length d.instances));
  shown = λ t k i x. shown_by (status_at d n mode k i x) (value_before d run t k i x);
}

-- ---- the rows of a stimulus as what the inputs have

-- the value beside the first input of a name
abbrev pub value_named : List (Name × ℕ) → List Bits → Name → Bits
value_named (input ∷ inputs) (value ∷ values) x = if bytes_eq input.0 x then value else value_named inputs values x
value_named [] values x = record { width = 1; value = 0 }
value_named (input ∷ inputs) [] x = record { width = input.1; value = 0 }

abbrev pub rows_named : List (Name × ℕ) → List (List Bits) → List (Name → Bits)
rows_named inputs rows = map (value_named inputs) rows
