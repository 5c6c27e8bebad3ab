-- The signals of all instances, driven by the links and processes of a design.
use Rattle.std.specs.Prelude.{ℕ, ◌≤◌, Bool, List, [], ◌++◌, length, slice_get, unwrap_or}
use Rattle.exec_core.specs.Design.{Process}
use Rattle.list_core.specs.Lists.{EachOf}
use Rattle.graph_order.specs.Graphs.{Graph}
use Rattle.dep_order.specs.Reaching.{IsLayered}
use Rattle.place_core.specs.Numbering.{Numbers, number_in}
use Rattle.design_core.specs.Design as design
use Rattle.design_exec.specs.Processes.{blocks_in, signals_in}
use Rattle.block_net.specs.Blocks.{BlockParts}
use Rattle.dep_order.specs.Blocks.{AreSignals, TellBlocks}
use Rattle.dep_order.specs.Wiring.{driver_in, is_met, AreNumbers, IsWired}
use Rattle.place_core.specs.Linking.{Link}

-- all numbers are below n
abbrev pub AreBelow : ℕ → List Numbers → Type 0
AreBelow n all = EachOf (AreSignals n) all

-- versions read what was there before them, also in the larger graph
abbrev pub AllLayered : Graph → Graph → List Numbers → Type 0
AllLayered g h all = (signals : ℕ) → AreBelow signals all → signals ≤ length g → IsLayered signals g → IsLayered signals h

-- what a call does that drives signals by these links, behind links that were met before
abbrev pub DrivesLinks : Graph → List Bool → Graph → List Bool → List Numbers → List Link → Type 0
DrivesLinks g driven h marked all more =
    (signals : ℕ) (links : List Link) → AreNumbers signals (number_in all) →
    IsWired signals (number_in all) g driven (is_met links []) (driver_in links []) →
    IsWired signals (number_in all) h marked (is_met (links ++ more) []) (driver_in (links ++ more) [])

-- the terms of the blocks of the variant of this number; none, where there is no such variant
abbrev pub terms_in : List (List BlockParts) → ℕ → List BlockParts
terms_in all v = unwrap_or (slice_get all v) []

-- they tell of the blocks of each variant
abbrev pub TellDesign : design.Design → List (List BlockParts) → Type 0
TellDesign d all = (v : ℕ) → TellBlocks (signals_in d v) (terms_in all v) (blocks_in d v)

-- the same of processes, behind all links
abbrev pub DrivesProcesses : Graph → List Bool → Graph → List Bool → List Numbers → List Process → Type 0
DrivesProcesses g driven h marked all more =
    (signals : ℕ) (links : List Link) (before : List Process) → signals ≤ length g → AreNumbers signals (number_in all) →
    IsWired signals (number_in all) g driven (is_met links before) (driver_in links before) →
    IsWired signals (number_in all) h marked (is_met links (before ++ more)) (driver_in links (before ++ more))
