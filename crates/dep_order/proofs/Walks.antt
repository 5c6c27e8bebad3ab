-- What is reached through versions alone.
use Rattle.std.proofs.Common.{◌≡◌, ℕ, ◌<◌, ◌≤◌, List, [], ◌∷◌, ◌++◌, ◌⊎◌, inl, inr, length, refl, sym, subst, arith}
use Rattle.list_core.specs.Lists.{EachOf, IsIn}
use Rattle.graph_order.specs.Graphs.{Graph, edges_of, HasEdge, IsGraph}
use Rattle.graph_order.specs.Cycles.{Leads}
use Rattle.list_core.proofs.Lists.{each_member, in_left, in_right, in_cases}
use Rattle.graph_order.proofs.Standing.{edge_within}
use Rattle.dep_order.specs.Reaching.{Reaches, ReachedFrom, KeepsVersions}

-- a signal reaches itself alone
pub itself : (signals : ℕ) (g : Graph) (v : ℕ) → v < signals → Reaches signals g v v
itself signals g v h = record { signal = h; way = inl refl }

pub signal_alone : (signals : ℕ) (g : Graph) (v w : ℕ) → v < signals → Reaches signals g v w → v ≡ w
signal_alone signals g v w h r = elim r.way [ inl e ↦ e | inr t ↦ absurd (omega (arith, t.0)) ]

-- what is reached from those that a version has an edge to is reached from it, and nothing else is
pub one_step : (signals : ℕ) (g : Graph) (v x w : ℕ) → signals ≤ v → HasEdge g v x → Reaches signals g x w → Reaches signals g v w
one_step signals g v x w h e r = record {
  signal = r.signal;
  way = inr (
    h,
    elim r.way [
      | inl same ↦ record { between = []; versions = tt; walk = subst (HasEdge g v) same e }
      | inr t ↦ record { between = x ∷ t.1.between; versions = (t.0, t.1.versions); walk = (e, t.1.walk) }
    ],
  );
}

walk_from : (signals : ℕ) (g : Graph) (v : ℕ) (xs : List ℕ) (w : ℕ) → w < signals → EachOf (λ x. signals ≤ x) xs → Leads g v xs w → ReachedFrom signals g (edges_of g v) w
walk_from signals g v [] w h e l = record { start = w; one_of = l; reaches = itself signals g w h }
walk_from signals g v (x ∷ xs) w h e l = record { start = x; one_of = l.0; reaches = record { signal = h; way = inr (e.0, record { between = xs; versions = e.1; walk = l.1 }) } }

pub from_version : (signals : ℕ) (g : Graph) (v w : ℕ) → signals ≤ v → Reaches signals g v w → ReachedFrom signals g (edges_of g v) w
from_version signals g v w h r =
    elim r.way [
      | inl same ↦ absurd (omega (arith, r.signal, same))
      | inr t ↦ walk_from signals g v t.1.between w r.signal t.1.versions t.1.walk
    ]

pub to_version : (signals : ℕ) (g : Graph) (v w : ℕ) → signals ≤ v → ReachedFrom signals g (edges_of g v) w → Reaches signals g v w
to_version signals g v w h r = one_step signals g v r.start w h r.one_of r.reaches

-- more graph, with the same versions
walk_kept : (signals : ℕ) (g h : Graph) (v : ℕ) (xs : List ℕ) (w : ℕ) → KeepsVersions signals g h → signals ≤ v → EachOf (λ x. signals ≤ x) xs → Leads g v xs w → Leads h v xs w
walk_kept signals g h v [] w k n e l = subst (IsIn w) (sym (k v n (edge_within g v w l))) l
walk_kept signals g h v (x ∷ xs) w k n e l =
    (subst (IsIn x) (sym (k v n (edge_within g v x l.0))) l.0, walk_kept signals g h x xs w k e.0 e.1 l.1)

pub reaches_kept : (signals : ℕ) (g h : Graph) (v w : ℕ) → KeepsVersions signals g h → Reaches signals g v w → Reaches signals h v w
reaches_kept signals g h v w k r = record {
  signal = r.signal;
  way = elim r.way [
    | inl same ↦ inl same
    | inr t ↦ inr (t.0, record { between = t.1.between; versions = t.1.versions; walk = walk_kept signals g h v t.1.between w k t.0 t.1.versions t.1.walk })
  ];
}

walk_back : (signals : ℕ) (g h : Graph) (v : ℕ) (xs : List ℕ) (w : ℕ) → IsGraph g → KeepsVersions signals g h → v < length g → signals ≤ v → EachOf (λ x. signals ≤ x) xs → Leads h v xs w → Leads g v xs w
walk_back signals g h v [] w is k m n e l = subst (IsIn w) (k v n m) l
walk_back signals g h v (x ∷ xs) w is k m n e l =
    let here : HasEdge g v x = subst (IsIn x) (k v n m) l.0 in
    (here, walk_back signals g h x xs w is k (each_member (λ u. u < length g) (edges_of g v) (is v) x here) e.0 e.1 l.1)

pub reaches_back : (signals : ℕ) (g h : Graph) (v w : ℕ) → IsGraph g → KeepsVersions signals g h → v < length g → Reaches signals h v w → Reaches signals g v w
reaches_back signals g h v w is k m r = record {
  signal = r.signal;
  way = elim r.way [
    | inl same ↦ inl same
    | inr t ↦ inr (t.0, record { between = t.1.between; versions = t.1.versions; walk = walk_back signals g h v t.1.between w is k m t.0 t.1.versions t.1.walk })
  ];
}

-- of more vertices, more is reached
pub from_left : (signals : ℕ) (g : Graph) (us vs : List ℕ) (w : ℕ) → ReachedFrom signals g us w → ReachedFrom signals g (us ++ vs) w
from_left signals g us vs w r = record { start = r.start; one_of = in_left r.start us vs r.one_of; reaches = r.reaches }

pub from_right : (signals : ℕ) (g : Graph) (us vs : List ℕ) (w : ℕ) → ReachedFrom signals g vs w → ReachedFrom signals g (us ++ vs) w
from_right signals g us vs w r = record { start = r.start; one_of = in_right r.start us vs r.one_of; reaches = r.reaches }

pub from_cases : (signals : ℕ) (g : Graph) (us vs : List ℕ) (w : ℕ) → ReachedFrom signals g (us ++ vs) w → ReachedFrom signals g us w ⊎ ReachedFrom signals g vs w
from_cases signals g us vs w r =
    elim (in_cases r.start us vs r.one_of) [
      | inl l ↦ inl (record { start = r.start; one_of = l; reaches = r.reaches })
      | inr l ↦ inr (record { start = r.start; one_of = l; reaches = r.reaches })
    ]
