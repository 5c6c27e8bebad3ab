-- The signals of a design as vertices of a graph, each with edges to what its driver reads.
use Rattle.std.specs.Prelude.{◌≡◌, ℕ, ◌<◌, ◌≤◌, ◌==◌, ◌||◌, ◌&&◌, not, if◌then◌else◌, Bool, true, false, List, [], ◌∷◌, ◌++◌, length, map, find, Option, Some, None, is_some, option_map, option_and_then, slice_index_or}
use Rattle.tree_core.specs.Tree.{Tree, Leaf}
use Rattle.exec_core.specs.Block.{Name, Now}
use Rattle.exec_core.specs.Whole.{Place}
use Rattle.exec_core.specs.Design.{Process, place, moved, same_place, links_to, assigns_to, or_else}
use Rattle.exec_core.specs.Trees.{block_trees}
use Rattle.graph_order.specs.Graphs.{Graph, edges_of, IsGraph}
use Rattle.names.specs.Known.{Known}
use Rattle.design_core.specs.declared.variant.Signal.{Signal}
use Rattle.design_core.specs.Design as design
use Rattle.design_exec.specs.Processes as processes
use Rattle.dep_order.specs.Reaching.{IsLayered}
use Rattle.dep_order.specs.Standing.{Stand, StandFor}
use Rattle.place_core.specs.Numbering.{Numbers, PlaceNumbers}
use Rattle.block_net.specs.Blocks.{BlockParts}
use Rattle.dep_order.specs.Blocks.{AreSignals, Versions, single, owns, end_trees, TellsBlock, TellBlocks}
use Rattle.place_core.specs.Linking.{Link}

-- no two places have one vertex, and all vertices of places are below that of any version
pub record AreNumbers (signals : ℕ) (number : PlaceNumbers) : Type 0 where
  pub below : (p : Place) (n : ℕ) → number p ≡ Some n → n < signals
  pub apart : (p q : Place) (n : ℕ) → number p ≡ Some n → number q ≡ Some n → p ≡ q

-- the tree that a process ends with for a place, by the widths at its statements
abbrev pub shown_tree : Place → Process → Option (Tree Place)
shown_tree p b = option_map (moved b.instance) (block_trees b.let_width b.body (Now p.name))

-- the tree that drives a place, by these links and processes: the first link to it, or the first process that assigns it
abbrev pub driver_in : List Link → List Process → Place → Option (Tree Place)
driver_in links processes p =
    or_else (option_map (λ link. link.1) (find (links_to p) links)) (option_and_then (shown_tree p) (find (assigns_to p) processes))

-- whether there is such a link or process
abbrev pub is_met : List Link → List Process → Place → Bool
is_met links processes p = is_some (find (links_to p) links) || is_some (find (assigns_to p) processes)

-- what a signal has edges to stands for its driver
abbrev pub DriverStands : ℕ → Graph → PlaceNumbers → List ℕ → Option (Tree Place) → Type 0
DriverStands signals g number vs None = vs ≡ []
DriverStands signals g number vs (Some t) = StandFor signals g number vs t

-- a vertex whose signal has met a link or a process, or none, with the tree that drives it
pub record IsWiredAt (signals : ℕ) (number : PlaceNumbers) (g : Graph) (driven : List Bool) (met : Bool) (driver : Option (Tree Place)) (n : ℕ) : Type 0 where
  pub marked : slice_index_or driven n false ≡ met
  pub stands : DriverStands signals g number (edges_of g n) driver

-- each signal
abbrev pub IsWired : ℕ → PlaceNumbers → Graph → List Bool → (Place → Bool) → (Place → Option (Tree Place)) → Type 0
IsWired signals number g driven met driver = (p : Place) (n : ℕ) → number p ≡ Some n → IsWiredAt signals number g driven (met p) (driver p) n

-- one more link or process for a place: it counts where the place has met none before
abbrev pub met_with : Place → (Place → Bool) → Place → Bool
met_with q met p = met p || same_place q p

abbrev pub driver_with : Place → Option (Tree Place) → (Place → Bool) → (Place → Option (Tree Place)) → Place → Option (Tree Place)
driver_with q new met driver p = if same_place q p && not (met p) then new else driver p

-- what a call does that drives the vertex n by these edges, unless it is driven
abbrev pub Drives : Graph → List Bool → Graph → List Bool → ℕ → List ℕ → Type 0
Drives g driven h marked n edges =
    (signals : ℕ) (number : PlaceNumbers) (met : Place → Bool) (driver : Place → Option (Tree Place)) (q : Place) (new : Option (Tree Place)) →
    AreNumbers signals number → number q ≡ Some n → DriverStands signals g number edges new →
    IsWired signals number g driven met driver → IsWired signals number h marked (met_with q met) (driver_with q new met driver)

-- the numbers of an instance's names
abbrev pub AreOf : PlaceNumbers → ℕ → Numbers → Type 0
AreOf number i numbers = (x : Name) → number (place i x) ≡ numbers x

-- what a call does that drives the vertex n by a tree over the names of an instance with these numbers, unless it is driven
abbrev pub DrivesBy : Graph → List Bool → Graph → List Bool → ℕ → Numbers → Tree Name → Type 0
DrivesBy g driven h marked n numbers t =
    (signals : ℕ) (number : PlaceNumbers) (met : Place → Bool) (driver : Place → Option (Tree Place)) (q : Place) (i : ℕ) →
    AreNumbers signals number → number q ≡ Some n → AreOf number i numbers →
    IsWired signals number g driven met driver → IsWired signals number h marked (met_with q met) (driver_with q (Some (moved i t)) met driver)

-- more graph in which versions keep their edges, and so does each signal but those of these names
pub record KeepsOthers (g h : Graph) (numbers : Numbers) : Type 0 where
  pub count : length h ≡ length g
  pub graph : IsGraph h
  pub kept : (v : ℕ) → ((x : Name) → numbers x ≡ Some v → ⊥) → edges_of h v ≡ edges_of g v

-- what a call does that drives the signal of a name of an instance by a version, unless it is driven; a name without a number is no signal
abbrev pub DrivesName : Graph → List Bool → Graph → List Bool → Numbers → Name → Option ℕ → Type 0
DrivesName g driven h marked numbers x version =
    (signals : ℕ) (number : PlaceNumbers) (met : Place → Bool) (driver : Place → Option (Tree Place)) (i : ℕ) (tree : Option (Tree Name)) →
    AreNumbers signals number → AreOf number i numbers → Stand signals g numbers (option_map single version) tree →
    IsWired signals number g driven met driver → IsWired signals number h marked (met_with (place i x) met) (driver_with (place i x) (option_map (moved i) tree) met driver)

-- a place of an instance with one of these names
abbrev pub is_named : ℕ → Known → Place → Bool
is_named i names p = i == p.instance && names p.name

-- one more process for the places of an instance with these names: it counts where the place has met none before
abbrev pub met_named : ℕ → Known → (Place → Bool) → Place → Bool
met_named i names met p = met p || is_named i names p

abbrev pub driver_named : ℕ → Known → (Name → Option (Tree Name)) → (Place → Bool) → (Place → Option (Tree Place)) → Place → Option (Tree Place)
driver_named i names trees met driver p = if is_named i names p && not (met p) then option_map (moved i) (trees p.name) else driver p

-- the same of the signals of these names
abbrev pub DrivesNames : Graph → List Bool → Graph → List Bool → Numbers → Known → Versions → Type 0
DrivesNames g driven h marked numbers names ends =
    (signals : ℕ) (number : PlaceNumbers) (met : Place → Bool) (driver : Place → Option (Tree Place)) (i : ℕ) (trees : Name → Option (Tree Name)) →
    AreNumbers signals number → AreOf number i numbers → ((x : Name) → names x ≡ true → Stand signals g numbers (option_map single (ends x)) (trees x)) →
    IsWired signals number g driven met driver → IsWired signals number h marked (met_named i names met) (driver_named i names trees met driver)

-- the same of a block with these terms
abbrev pub DrivesBlock : Graph → List Bool → Graph → List Bool → Numbers → BlockParts → design.Block → Type 0
DrivesBlock g driven h marked numbers parts b =
    (signals : ℕ) (number : PlaceNumbers) (met : Place → Bool) (driver : Place → Option (Tree Place)) (i : ℕ) (declared : List Signal) →
    TellsBlock declared parts b → signals ≤ length g → AreNumbers signals number → AreOf number i numbers →
    IsWired signals number g driven met driver → IsWired signals number h marked (met_named i (owns b) met) (driver_named i (owns b) (end_trees declared b) met driver)

-- a block of an instance is its process: what is met and what drives, with one process more
abbrev pub BlockIsProcess : Type 0
BlockIsProcess =
    (links : List Link) (before : List Process) (i : ℕ) (declared : List Signal) (b : design.Block) (p : Place) →
    (is_met links (before ++ processes.process i declared b ∷ []) p ≡ met_named i (owns b) (is_met links before) p)
    × (driver_in links (before ++ processes.process i declared b ∷ []) p ≡ driver_named i (owns b) (end_trees declared b) (is_met links before) (driver_in links before) p)

-- and a link is one
abbrev pub LinkIsMet : Type 0
LinkIsMet =
    (links : List Link) (q : Place) (t : Tree Place) (p : Place) →
    (is_met (links ++ (q, t) ∷ []) [] p ≡ met_with q (is_met links []) p)
    × (driver_in (links ++ (q, t) ∷ []) [] p ≡ driver_with q (Some t) (is_met links []) (driver_in links []) p)

-- what a call does that drives the signals of an instance by these blocks, behind links and processes that were met before
abbrev pub DrivesBlocks : Graph → List Bool → Graph → List Bool → Numbers → List BlockParts → List design.Block → Type 0
DrivesBlocks g driven h marked numbers ts bs =
    (signals : ℕ) (number : PlaceNumbers) (i : ℕ) (declared : List Signal) (links : List Link) (before : List Process) →
    TellBlocks declared ts bs → signals ≤ length g → AreNumbers signals number → AreOf number i numbers →
    IsWired signals number g driven (is_met links before) (driver_in links before) →
    IsWired signals number h marked (is_met links (before ++ map (processes.process i declared) bs)) (driver_in links (before ++ map (processes.process i declared) bs))

-- what one does that drives an input of a child by a connection
abbrev pub DrivesConn : Graph → List Bool → Graph → List Bool → Numbers → Numbers → design.Conn → Type 0
DrivesConn g driven h marked of_child of_parent c =
    (signals : ℕ) (number : PlaceNumbers) (i j : ℕ) (met : Place → Bool) (driver : Place → Option (Tree Place)) →
    AreNumbers signals number → AreOf number i of_parent → AreOf number j of_child →
    IsWired signals number g driven met driver →
    IsWired signals number h marked (met_with (place j c.port) met) (driver_with (place j c.port) (Some (moved i (processes.tree_of c.value))) met driver)

-- and one that drives the inputs of a child by these connections, whose names are those of its parent, behind links that were met before
abbrev pub DrivesConns : Graph → List Bool → Graph → List Bool → Numbers → Numbers → List design.Conn → Type 0
DrivesConns g driven h marked of_child of_parent conns =
    (signals : ℕ) (number : PlaceNumbers) (i j : ℕ) (links : List Link) →
    AreNumbers signals number → AreOf number i of_parent → AreOf number j of_child →
    IsWired signals number g driven (is_met links []) (driver_in links []) →
    IsWired signals number h marked (is_met (links ++ map (processes.conn_link i j) conns) []) (driver_in (links ++ map (processes.conn_link i j) conns) [])

-- what a call does that drives a signal of an instance by an output of a child, behind links that were met before
abbrev pub DrivesOutput : Graph → List Bool → Graph → List Bool → Numbers → Numbers → Name → Name → Type 0
DrivesOutput g driven h marked of_child of_parent x q =
    (signals : ℕ) (number : PlaceNumbers) (i j : ℕ) (links : List Link) →
    AreNumbers signals number → AreOf number i of_parent → AreOf number j of_child →
    IsWired signals number g driven (is_met links []) (driver_in links []) →
    IsWired signals number h marked (is_met (links ++ (place i x, Leaf (place j q)) ∷ []) []) (driver_in (links ++ (place i x, Leaf (place j q)) ∷ []) [])

-- versions read what was there before them, also in the larger graph, where these numbers are those of signals
abbrev pub StaysLayered : Graph → Graph → Numbers → Type 0
StaysLayered g h numbers = (signals : ℕ) → AreSignals signals numbers → signals ≤ length g → IsLayered signals g → IsLayered signals h
