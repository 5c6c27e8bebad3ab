-- The search for an order, depth first: the marks of the vertices, the path of those that were begun, and the order of those that were finished.
use Rattle.std.specs.Prelude.{◌≡◌, ℕ, suc, ◌==◌, List, [], ◌∷◌, length, take, slice_index_or, if◌then◌else◌}
use Rattle.list_core.specs.Lists.{EachOf, IsIn, AreApart}
use Rattle.graph_order.specs.Graphs.{Graph, edges_of, HasEdge}
use Rattle.graph_order.specs.Orders.{StandsAfter}
use Rattle.graph_order.specs.Cycles.{Leads, IsCycle}
use Rattle.graph_order.specs.declared.search.Mark.{Mark}
use Rattle.graph_order.specs.declared.search.Mark.TheVariants.{New, Begun, Finished}

-- the mark of a vertex
abbrev pub mark_of : List Mark → ℕ → Mark
mark_of marks v = slice_index_or marks v New

-- how many are new
abbrev pub news : List Mark → ℕ
news [] = 0
news (New ∷ marks) = suc (news marks)
news (Begun ∷ marks) = news marks
news (Finished ∷ marks) = news marks

-- each has an edge to the next
abbrev pub LeadsOn : Graph → ℕ → List ℕ → Type 0
LeadsOn g v [] = Unit {0}
LeadsOn g v (w ∷ ws) = HasEdge g v w

abbrev pub IsPath : Graph → List ℕ → Type 0
IsPath g [] = Unit {0}
IsPath g (v ∷ vs) = LeadsOn g v vs × IsPath g vs

-- the first of those that a vertex has an edge to, as many as were passed over, are finished
abbrev pub ArePassed : Graph → List Mark → List ℕ → Type 0
ArePassed g marks passed = (v : ℕ) → EachOf (λ w. mark_of marks w ≡ Finished) (take (slice_index_or passed v 0) (edges_of g v))

pub record Searched (g : Graph) (marks : List Mark) (passed path order : List ℕ) : Type 0 where
  pub marked : length marks ≡ length g
  pub counted : length passed ≡ length g
  pub passed_over : ArePassed g marks passed
  pub path_begun : EachOf (λ v. mark_of marks v ≡ Begun) path
  pub begun_path : (v : ℕ) → mark_of marks v ≡ Begun → IsIn v path
  pub apart : AreApart path
  pub joined : IsPath g path
  pub order_finished : EachOf (λ v. mark_of marks v ≡ Finished) order
  pub finished_order : (v : ℕ) → mark_of marks v ≡ Finished → IsIn v order
  pub in_order : StandsAfter g [] order

-- what was begun stays begun or finished
abbrev pub StayMarked : List Mark → List Mark → Type 0
StayMarked old new = (v : ℕ) → (mark_of old v ≡ New → ⊥) → mark_of new v ≡ New → ⊥

-- a path from a vertex of it on
abbrev pub from_on : ℕ → List ℕ → List ℕ
from_on v [] = []
from_on v (w ∷ ws) = if w == v then w ∷ ws else from_on v ws

-- the last of a path has an edge to v
abbrev pub LastLeads : Graph → List ℕ → ℕ → Type 0
LastLeads g [] v = ⊥
LastLeads g (x ∷ []) v = HasEdge g x v
LastLeads g (x ∷ y ∷ ys) v = LastLeads g (y ∷ ys) v

-- what is known of a cycle that was found on a path of different vertices, whose last has an edge to this one of them
abbrev pub IsClosedBy : List ℕ → ℕ → List ℕ → Type 0
IsClosedBy path v cycle =
    (g : Graph) → IsPath g path → AreApart path → IsIn v path → LastLeads g path v → IsCycle g cycle

-- different vertices, each with an edge to the next and the last to the first
abbrev pub IsRound : Graph → List ℕ → Type 0
IsRound g [] = ⊥
IsRound g (v ∷ vs) = Leads g v vs v × AreApart (v ∷ vs)

-- the same cycle, from its least vertex on
abbrev pub IsTurned : List ℕ → List ℕ → Type 0
IsTurned round cycle = (g : Graph) → IsRound g round → IsCycle g cycle
