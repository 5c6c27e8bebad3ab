-- A design with a loop has no order.
use Rattle.std.proofs.Common.{◌≡◌, Bool, true, List, [], ◌∷◌, map, Option, Some, ◌⊎◌, inl, inr, refl, sym, subst, ap, ◌∙◌}
use Rattle.std.proofs.lemmas.Option.{none-some}
use Rattle.tree_core.specs.Tree.{Tree, Const, Leaf, One, Two, Mux}
use Rattle.list_core.specs.Lists.{IsIn}
use Rattle.exec_core.specs.Leaves.{EachLeaf}
use Rattle.exec_core.specs.Whole.{Place, Drivers, IsGiven, IsOrder, StandsInOrder, or_itself}
use Rattle.exec_core.specs.Design.{driver_of}
use Rattle.design_exec.specs.Processes.{processes_of, is_signal_of}
use Rattle.dep_order.specs.Standing.{SomeLeaf}
use Rattle.dep_order.specs.Results.{DependsOn, Depend, IsLoop, OrdersHaveNoLoop}
use Rattle.place_core.specs.Orders.{Pair, signal_at}
use Rattle.place_core.proofs.Signals.{is_signal}

-- a leaf with both facts
leaf_of : {A : Type 0} (P Q : A → Type 0) (t : Tree A) → EachLeaf P t → SomeLeaf Q t → (x : A) × (P x × Q x)
leaf_of P Q (Const b) e s = absurd s
leaf_of P Q (Leaf x) e s = (x, (e, s))
leaf_of P Q (One op a) e s = leaf_of P Q a e s
leaf_of P Q (Two op a b) e s = elim s [ inl l ↦ leaf_of P Q a e.0 l | inr r ↦ leaf_of P Q b e.1 r ]
leaf_of P Q (Mux c a b) e s = elim s [ inl l ↦ leaf_of P Q c e.0 l | inr r ↦ elim r [ inl l ↦ leaf_of P Q a e.1 l | inr k ↦ leaf_of P Q b e.2 k ] ]

-- each of a list depends on one of it
IsClosed : Drivers → List Place → Type 0
IsClosed d all = (p : Place) → IsIn p all → (q : Place) × (DependsOn d p q × IsIn q all)

next_in : (d : Drivers) (p : Place) (rs : List Place) (q m : Place) → Depend d p rs q → IsIn m (p ∷ rs) → (n : Place) × (DependsOn d m n × (IsIn n rs ⊎ (n ≡ q)))
next_in d p [] q m dep (inl e) = (q, (subst (λ (k : Place). DependsOn d k q) (sym e) dep, inr refl))
next_in d p [] q m dep (inr k) = absurd k
next_in d p (r ∷ rs) q m dep (inl e) = (r, (subst (λ (k : Place). DependsOn d k r) (sym e) dep.0, inl (inl refl)))
next_in d p (r ∷ rs) q m dep (inr k) = let n = next_in d r rs q m dep.1 k in (n.0, (n.1.0, elim n.1.1 [ inl i ↦ inl (inr i) | inr e ↦ inr e ]))

loop_closed : (d : Drivers) (p : Place) (ps : List Place) → Depend d p ps p → IsClosed d (p ∷ ps)
unfolding IsClosed
loop_closed d p ps dep m i = let n = next_in d p ps p m dep i in (n.0, (n.1.0, elim n.1.1 [ inl k ↦ inr k | inr e ↦ inl e ]))

-- none of them stands in an order
first_out : (signal : Place → Bool) (d : Drivers) (all : List Place) (done : Place → Type 0) (p : Place) → IsClosed d all → ((m : Place) → IsIn m all → done m → ⊥) →
    EachLeaf (λ q. IsGiven signal d q ⊎ done q) (or_itself (d p) p) → IsIn p all → ⊥
unfolding IsClosed
first_out signal d all done p closed out each i =
    let n = closed p i in
    let leaf = leaf_of (λ q. IsGiven signal d q ⊎ done q) (λ r. r ≡ n.0) n.1.0.driver (subst (λ (o : Option (Tree Place)). EachLeaf (λ q. IsGiven signal d q ⊎ done q) (or_itself o p)) n.1.0.drives each) n.1.0.reads in
    elim leaf.1.0 [
      | inl given ↦ none-some (closed n.0 n.1.1).1.0.driver (sym (ap d (sym leaf.1.1) ∙ given.1) ∙ (closed n.0 n.1.1).1.0.drives)
      | inr before ↦ out n.0 n.1.1 (subst done leaf.1.1 before)
    ]

none_stands : (signal : Place → Bool) (d : Drivers) (all : List Place) (done : Place → Type 0) (ps : List Place) → IsClosed d all → ((m : Place) → IsIn m all → done m → ⊥) → StandsInOrder signal d done ps → (m : Place) → IsIn m all → IsIn m ps → ⊥
none_stands signal d all done [] closed out s m i k = k
none_stands signal d all done (p ∷ ps) closed out s m i (inl e) = first_out signal d all done p closed out s.0 (subst (λ (q : Place). IsIn q all) e i)
none_stands signal d all done (p ∷ ps) closed out s m i (inr k) =
    none_stands signal d all (λ q. done q ⊎ (q ≡ p)) ps closed
    (λ n j h. elim h [ inl before ↦ out n j before | inr e ↦ first_out signal d all done p closed out s.0 (subst (λ (q : Place). IsIn q all) e j) ]) s.1 m i k

no_loop : (signal : Place → Bool) (d : Drivers) (order : List Place) (p : Place) (ps : List Place) → IsOrder signal d order → signal p ≡ true → Depend d p ps p → ⊥
no_loop signal d order p ps o s dep =
    elim (o.all p s) [
      | inl given ↦ let n = next_in d p ps p p dep (inl refl) in none-some n.1.0.driver (sym given.1 ∙ n.1.0.drives)
      | inr i ↦ none_stands signal d (p ∷ ps) (λ q. ⊥) order (loop_closed d p ps dep) (λ m j h. h) o.in_order p (inl refl) i
    ]

first_or : Option Place → List (Option Place) → Option Place
first_or o [] = o
first_or o (x ∷ xs) = x

pub orders_have_no_loop : OrdersHaveNoLoop
unfolding first_or
orders_have_no_loop d pairs loop o l = go l.loop loop l.signals l.depend
  where
    go : (ps : List Place) (qs : List Pair) → map (signal_at d) qs ≡ map (λ p. Some p) ps → IsLoop (driver_of (processes_of d)) ps → ⊥
    go [] qs e dep = dep
    go (p ∷ ps) [] e dep = cc
    go (p ∷ ps) (q ∷ qs) e dep =
        no_loop (is_signal_of d) (driver_of (processes_of d)) o.order p ps o.in_order (is_signal d q p (ap (first_or (Some p)) e)) dep.0
