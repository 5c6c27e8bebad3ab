-- The terms of a block as vertices of a graph, and what its names end with.
use Rattle.std.specs.Prelude.{◌≡◌, ℕ, ◌<◌, ◌≤◌, true, bytes_eq, List, [], ◌∷◌, Option, Some, None, length, option_map, slice_index_or, if◌then◌else◌}
use Rattle.tree_core.specs.Tree.{Tree}
use Rattle.exec_core.specs.Block.{Name, Now}
use Rattle.exec_core.specs.Trees.{block_trees}
use Rattle.design_core.specs.declared.variant.Signal.{Signal}
use Rattle.design_core.specs.Design as design
use Rattle.design_exec.specs.Processes as processes
use Rattle.list_core.specs.Lists.{EachOf}
use Rattle.graph_order.specs.Graphs.{Graph, edges_of, IsGraph}
use Rattle.names.specs.Known.{Known}
use Rattle.names.specs.Maps.{value_of}
use Rattle.block_net.specs.declared.term.Term.{Term}
use Rattle.block_net.specs.declared.term.Term.TheVariants.{Leaf, Value, Unary, Binary, Mux, Zext, Slice}
use Rattle.block_net.specs.declared.term.TermId.{TermId}
use Rattle.block_net.specs.Blocks.{BlockParts, Tells}
use Rattle.block_net.specs.Terms.{tree_at, trees_of}
use Rattle.block_net.specs.Walks.{held}
use Rattle.dep_order.specs.Standing.{Stand, StandFor, AreVertices, listed}
use Rattle.place_core.specs.Numbering.{Numbers}
use Rattle.place_core.specs.Assigned.{assigned_in}

-- the version that each own name ends with, if it has one
abbrev pub Versions : Type 0
Versions = Name → Option ℕ

abbrev pub flat : Option (Option ℕ) → Option ℕ
flat None = None
flat (Some o) = o

abbrev pub version_of : List (Name × Option ℕ) → Versions
version_of entries x = flat (value_of entries x)

abbrev pub put_version : Name → Option ℕ → Versions → Versions
put_version y v versions x = if bytes_eq x y then v else versions x

abbrev pub no_versions : Versions
no_versions x = None

-- a list of a vertex
abbrev pub single : ℕ → List ℕ
single v = v ∷ []

-- vertices that were added behind those of g, each with edges to vertices before it
pub record Grown (g h : Graph) : Type 0 where
  pub longer : length g ≤ length h
  pub kept : (v : ℕ) → v < length g → edges_of h v ≡ edges_of g v
  pub lower : (v : ℕ) → length g ≤ v → EachOf (λ w. w < v) (edges_of h v)

-- what has a number has one below that of any version
abbrev pub AreSignals : ℕ → Numbers → Type 0
AreSignals signals number = (x : Name) (n : ℕ) → number x ≡ Some n → n < signals

-- ---- terms

-- the vertex of a term, where the terms have these in order
abbrev pub vertex_at : List ℕ → TermId → ℕ
vertex_at vs id = slice_index_or vs id.0 0

-- what a term reads: its operands, or the signal of its name
abbrev pub term_reads : Numbers → List ℕ → Term → List ℕ
term_reads number vs (Leaf x) = listed (number x)
term_reads number vs (Value w v) = []
term_reads number vs (Unary op a) = vertex_at vs a ∷ []
term_reads number vs (Binary op a b) = vertex_at vs a ∷ vertex_at vs b ∷ []
term_reads number vs (Mux c a b) = vertex_at vs c ∷ vertex_at vs a ∷ vertex_at vs b ∷ []
term_reads number vs (Zext a w) = vertex_at vs a ∷ []
term_reads number vs (Slice a h l) = vertex_at vs a ∷ []

-- a vertex that stands for a tree, where what has a number is a signal, and signals are below `base`
pub record IsVersion (base : ℕ) (g : Graph) (number : Numbers) (v : ℕ) (t : Tree Name) : Type 0 where
  pub high : base ≤ v
  pub within : v < length g
  pub stands : (signals : ℕ) → signals ≤ base → AreSignals signals number → StandFor signals g number (v ∷ []) t

-- so does that of each of the first k terms
abbrev pub AreFollowed : ℕ → Graph → Numbers → List Term → ℕ → List ℕ → Type 0
AreFollowed base g number terms k vs = (i : ℕ) → i < k → IsVersion base g number (slice_index_or vs i 0) (tree_at (trees_of terms) i)

-- ---- the end of a block

-- the own names of a block
abbrev pub owns : design.Block → Known
owns b = assigned_in b.clocked b.body

-- what a version stands for
pub record EndIs (base : ℕ) (g : Graph) (number : Numbers) (version : Option ℕ) (tree : Option (Tree Name)) : Type 0 where
  pub vertices : AreVertices (length g) (option_map single version)
  pub stand : (signals : ℕ) → signals ≤ base → AreSignals signals number → Stand signals g number (option_map single version) tree

-- the tree that a name ends with, by the terms of its block
abbrev pub end_of : BlockParts → Name → Option (Tree Name)
end_of parts x = held parts.terms x (value_of parts.names x)

-- the versions of own names stand for these
abbrev pub EndsStand : ℕ → Graph → Numbers → Known → BlockParts → Versions → Type 0
EndsStand base g number names parts ends = (x : Name) → names x ≡ true → EndIs base g number (ends x) (end_of parts x)

-- the trees that a block ends with, where these signals are declared; and terms that tell of it
abbrev pub widths_of : List Signal → design.Block → Name → ℕ
widths_of declared b = processes.body_widths b.body (processes.signal_width declared)

abbrev pub end_trees : List Signal → design.Block → Name → Option (Tree Name)
end_trees declared b x = block_trees (widths_of declared b) (processes.body_of b.clocked b.body) (Now x)

abbrev pub TellsBlock : List Signal → BlockParts → design.Block → Type 0
TellsBlock declared parts b = Tells parts (widths_of declared b) (processes.body_of b.clocked b.body)

-- those of blocks in order
abbrev pub TellBlocks : List Signal → List BlockParts → List design.Block → Type 0
TellBlocks declared ts [] = Unit {0}
TellBlocks declared [] (b ∷ bs) = ⊥
TellBlocks declared (t ∷ ts) (b ∷ bs) = TellsBlock declared t b × TellBlocks declared ts bs
