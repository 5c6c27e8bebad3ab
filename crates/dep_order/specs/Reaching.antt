-- A graph of signals and versions. The vertices below `signals` are signals; the others are versions, of the terms of blocks: a
-- name of a block ends with the version of its term.
use Rattle.std.specs.Prelude.{◌≡◌, ℕ, ◌<◌, ◌≤◌, List, [], ◌∷◌, ◌++◌, ◌⊎◌, length}
use Rattle.list_core.specs.Lists.{EachOf, IsIn}
use Rattle.graph_order.specs.Graphs.{Graph, edges_of}
use Rattle.graph_order.specs.Cycles.{Leads}

-- a walk from v to w through versions alone
pub record Through (signals : ℕ) (g : Graph) (v w : ℕ) : Type 0 where
  pub between : List ℕ
  pub versions : EachOf (λ x. signals ≤ x) between
  pub walk : Leads g v between w

-- the signal w is reached from v through versions alone: it is v itself, or a walk leads there from the version v
pub record Reaches (signals : ℕ) (g : Graph) (v w : ℕ) : Type 0 where
  pub signal : w < signals
  pub way : (v ≡ w) ⊎ ((signals ≤ v) × Through signals g v w)

-- the signal w is reached from one of the vertices
pub record ReachedFrom (signals : ℕ) (g : Graph) (vs : List ℕ) (w : ℕ) : Type 0 where
  pub start : ℕ
  pub one_of : IsIn start vs
  pub reaches : Reaches signals g start w

-- versions read what was there before them
abbrev pub IsLayered : ℕ → Graph → Type 0
IsLayered signals g = (v : ℕ) → signals ≤ v → EachOf (λ w. w < v) (edges_of g v)

-- the versions of g have the same edges in h
abbrev pub KeepsVersions : ℕ → Graph → Graph → Type 0
KeepsVersions signals g h = (v : ℕ) → signals ≤ v → v < length g → edges_of h v ≡ edges_of g v

-- a list of signals in which each stands once, and after those that are reached from what it has an edge to; `before` is in front of it
abbrev pub SignalsAfter : ℕ → Graph → List ℕ → List ℕ → Type 0
SignalsAfter signals g before [] = Unit {0}
SignalsAfter signals g before (v ∷ vs) =
    (IsIn v before → ⊥) × ((w : ℕ) → ReachedFrom signals g (edges_of g v) w → IsIn w before) × SignalsAfter signals g (before ++ v ∷ []) vs

-- each signal is reached from what the one before it has an edge to, from v along the list to w
abbrev pub SignalsLead : ℕ → Graph → ℕ → List ℕ → ℕ → Type 0
SignalsLead signals g v [] w = ReachedFrom signals g (edges_of g v) w
SignalsLead signals g v (x ∷ xs) w = ReachedFrom signals g (edges_of g v) x × SignalsLead signals g x xs w
