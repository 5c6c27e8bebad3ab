-- Orders and cycles of vertices, as those of signals.
use Rattle.std.proofs.Common.{◌≡◌, ℕ, ◌<◌, Bool, true, false, true≢false, List, [], ◌∷◌, ◌++◌, map, cond, Option, Some, None, is_some, ◌⊎◌, inl, inr, refl, sym, subst, ap, ◌∙◌}
use Rattle.std.proofs.lemmas.Bool.{cases_Bool}
use Rattle.tree_core.specs.Tree.{Tree, Const, Leaf, One, Two, Mux}
use Rattle.exec_core.specs.Leaves.{EachLeaf}
use Rattle.exec_core.specs.Whole.{Place, Drivers, IsGiven, StandsInOrder, or_itself}
use Rattle.list_core.proofs.Options.{some_same}
use Rattle.exec_core.proofs.Wholes.{both_leaves}
use Rattle.list_core.specs.Lists.{EachOf, IsIn, AreApart, IsNotIn}
use Rattle.graph_order.specs.Graphs.{Graph, edges_of}
use Rattle.list_core.proofs.Lists.{in_cases, not_in}
use Rattle.dep_order.specs.Reaching.{ReachedFrom, SignalsAfter, SignalsLead}
use Rattle.dep_order.specs.Standing.{SomeLeaf, StandFor}
use Rattle.dep_order.specs.Wiring.{DriverStands}
use Rattle.place_core.specs.Numbering.{PlaceNumbers}
use Rattle.dep_order.specs.Results.{DependsOn, Depend}
use Rattle.dep_order.specs.Joined.{IsJoined, with_drivers, OrdersJoin, CyclesJoin}

-- ---- places

-- the place of a vertex, by its number
at_number : {signals : ℕ} {g : Graph} {number : PlaceNumbers} {at : ℕ → Place} {signal : Place → Bool} {d : Drivers} → IsJoined signals g number at signal d → (p : Place) (n : ℕ) → number p ≡ Some n → at n ≡ p
at_number {at = at} j p n e = j.numbers.apart (at n) p n (j.places n (j.numbers.below p n e)) e

with_some : (at : ℕ → Place) (d : Drivers) (v : ℕ) (vs : List ℕ) → is_some (d (at v)) ≡ true → with_drivers at d (v ∷ vs) ≡ v ∷ with_drivers at d vs
with_some at d v vs e = ap (λ (b : Bool). cond b (v ∷ with_drivers at d vs) (with_drivers at d vs)) e

with_none : (at : ℕ → Place) (d : Drivers) (v : ℕ) (vs : List ℕ) → is_some (d (at v)) ≡ false → with_drivers at d (v ∷ vs) ≡ with_drivers at d vs
with_none at d v vs e = ap (λ (b : Bool). cond b (v ∷ with_drivers at d vs) (with_drivers at d vs)) e

is_driver : (o : Option (Tree Place)) → is_some o ≡ true → (t : Tree Place) × (o ≡ Some t)
is_driver None e = absurd (true≢false (sym e))
is_driver (Some t) e = (t, refl)

no_driver : (o : Option (Tree Place)) → is_some o ≡ false → o ≡ None
no_driver None e = refl
no_driver (Some t) e = absurd (true≢false e)

-- ---- orders

in_order : (signals : ℕ) (g : Graph) (number : PlaceNumbers) (at : ℕ → Place) (signal : Place → Bool) (d : Drivers) (before vs : List ℕ) (done : Place → Type 0) →
    IsJoined signals g number at signal d → EachOf (λ v. v < signals) vs → SignalsAfter signals g before vs → ((n : ℕ) → IsIn n before → is_some (d (at n)) ≡ true → done (at n)) →
    StandsInOrder signal d done (map at (with_drivers at d vs))
in_order signals g number at signal d before [] done j low s f = tt
in_order signals g number at signal d before (v ∷ vs) done j low s f =
    elim (cases_Bool (is_some (d (at v)))) [
      | inl is ↦
          let driver = is_driver (d (at v)) is in
          subst (λ (us : List ℕ). StandsInOrder signal d done (map at us)) (sym (with_some at d v vs is)) (
            subst (λ (o : Option (Tree Place)). EachLeaf (λ q. IsGiven signal d q ⊎ done q) (or_itself o (at v))) (sym driver.1)
                (both_leaves (λ q is_signal reached. stands q is_signal reached) driver.0 (j.over (at v) driver.0 driver.1)
                (subst (DriverStands signals g number (edges_of g v)) driver.1 (j.wired (at v) v (j.places v low.0)).stands).leaves),
            in_order signals g number at signal d (before ++ v ∷ []) vs (λ q. done q ⊎ (q ≡ at v)) j low.1 s.2
                (λ n h e. elim (in_cases n before (v ∷ []) h) [
                  | inl l ↦ inl (f n l e)
                  | inr r ↦ elim r [ inl same ↦ inr (ap at same) | inr k ↦ absurd k ]
                ]),
          )
      | inr not ↦
          subst (λ (us : List ℕ). StandsInOrder signal d done (map at us)) (sym (with_none at d v vs not))
          (in_order signals g number at signal d (before ++ v ∷ []) vs done j low.1 s.2
          (λ n h e. elim (in_cases n before (v ∷ []) h) [
            | inl l ↦ f n l e
            | inr r ↦ elim r [ inl same ↦ absurd (true≢false (sym e ∙ ap (λ (m : ℕ). is_some (d (at m))) same ∙ not)) | inr k ↦ absurd k ]
          ]))
    ]
  where
    stands : (q : Place) → signal q ≡ true → ((n : ℕ) → number q ≡ Some n → ReachedFrom signals g (edges_of g v) n) → IsGiven signal d q ⊎ done q
    stands q is_signal reached =
        let n = j.numbered q is_signal in
        let here : at n.0 ≡ q = at_number j q n.0 n.1 in
        elim (cases_Bool (is_some (d q))) [
          | inl is ↦ inr (subst done here (f n.0 (s.1 n.0 (reached n.0 n.1)) (ap (λ (p : Place). is_some (d p)) here ∙ is)))
          | inr not ↦ inl (is_signal, no_driver (d q) not)
        ]

in_places : (at : ℕ → Place) (d : Drivers) (n : ℕ) (vs : List ℕ) → is_some (d (at n)) ≡ true → IsIn n vs → IsIn (at n) (map at (with_drivers at d vs))
in_places at d n [] is h = h
in_places at d n (v ∷ vs) is h =
    elim h [
      | inl same ↦ subst (λ (us : List ℕ). IsIn (at n) (map at us)) (sym (with_some at d v vs (ap (λ (m : ℕ). is_some (d (at m))) (sym same) ∙ is))) (inl (ap at same))
      | inr k ↦ later (cases_Bool (is_some (d (at v)))) (in_places at d n vs is k)
    ]
  where
    later : (is_some (d (at v)) ≡ true) ⊎ (is_some (d (at v)) ≡ false) → IsIn (at n) (map at (with_drivers at d vs)) → IsIn (at n) (map at (with_drivers at d (v ∷ vs)))
    later c rest = elim c [
      | inl yes' ↦ subst (λ (us : List ℕ). IsIn (at n) (map at us)) (sym (with_some at d v vs yes')) (inr rest)
      | inr not ↦ subst (λ (us : List ℕ). IsIn (at n) (map at us)) (sym (with_none at d v vs not)) rest
    ]

pub orders_join : OrdersJoin
orders_join signals g number at signal d order j o = record {
  in_order = in_order signals g number at signal d [] order (λ q. ⊥) j o.signals_alone o.in_order (λ n h e. h);
  all = λ p is_signal.
      let n = j.numbered p is_signal in
      let here : at n.0 ≡ p = at_number j p n.0 n.1 in
      elim (cases_Bool (is_some (d p))) [
        | inl is ↦ inr (subst (λ (q : Place). IsIn q (map at (with_drivers at d order))) here
            (in_places at d n.0 order (ap (λ (q : Place). is_some (d q)) here ∙ is) (o.all n.0 (j.numbers.below p n.0 n.1))))
        | inr not ↦ inl (is_signal, no_driver (d p) not)
      ];
}

-- ---- cycles

some_leaf : {A : Type 0} (P Q : A → Type 0) (t : Tree A) → ((x : A) → P x → Q x) → SomeLeaf P t → SomeLeaf Q t
some_leaf P Q (Const b) f s = s
some_leaf P Q (Leaf x) f s = f x s
some_leaf P Q (One op a) f s = some_leaf P Q a f s
some_leaf P Q (Two op a b) f s = elim s [ inl l ↦ inl (some_leaf P Q a f l) | inr r ↦ inr (some_leaf P Q b f r) ]
some_leaf P Q (Mux c a b) f s = elim s [ inl l ↦ inl (some_leaf P Q c f l) | inr r ↦ inr (elim r [ inl l ↦ inl (some_leaf P Q a f l) | inr k ↦ inr (some_leaf P Q b f k) ]) ]

depends : (signals : ℕ) (g : Graph) (number : PlaceNumbers) (at : ℕ → Place) (signal : Place → Bool) (d : Drivers) (v w : ℕ) → IsJoined signals g number at signal d → v < signals →
    ReachedFrom signals g (edges_of g v) w → DependsOn d (at v) (at w)
depends signals g number at signal d v w j low r =
    elim (cases_Bool (is_some (d (at v)))) [
      | inl is ↦
          let driver = is_driver (d (at v)) is in
          let stand : StandFor signals g number (edges_of g v) driver.0 = subst (DriverStands signals g number (edges_of g v)) driver.1 (j.wired (at v) v (j.places v low)).stands in
          record {
            driver = driver.0;
            drives = driver.1;
            reads = some_leaf (λ q. number q ≡ Some w) (λ q. q ≡ at w) driver.0 (λ q e. sym (at_number j q w e)) (stand.nothing_else w r);
          }
      | inr not ↦
          let none : edges_of g v ≡ [] = subst (DriverStands signals g number (edges_of g v)) (no_driver (d (at v)) not) (j.wired (at v) v (j.places v low)).stands in
          absurd (subst (IsIn r.start) none r.one_of)
    ]

depend : (signals : ℕ) (g : Graph) (number : PlaceNumbers) (at : ℕ → Place) (signal : Place → Bool) (d : Drivers) (v : ℕ) (vs : List ℕ) (w : ℕ) → IsJoined signals g number at signal d → v < signals → EachOf (λ u. u < signals) vs →
    SignalsLead signals g v vs w → Depend d (at v) (map at vs) (at w)
depend signals g number at signal d v [] w j low all l = depends signals g number at signal d v w j low l
depend signals g number at signal d v (x ∷ xs) w j low all l =
    (depends signals g number at signal d v x j low l.0, depend signals g number at signal d x xs w j all.0 all.1 l.1)

same_vertex : (signals : ℕ) (g : Graph) (number : PlaceNumbers) (at : ℕ → Place) (signal : Place → Bool) (d : Drivers) (v w : ℕ) → IsJoined signals g number at signal d → v < signals → w < signals → at w ≡ at v → v ≡ w
same_vertex signals g number at signal d v w j low low' e = some_same v w (sym (j.places v low) ∙ ap number (sym e) ∙ j.places w low')

not_among : (signals : ℕ) (g : Graph) (number : PlaceNumbers) (at : ℕ → Place) (signal : Place → Bool) (d : Drivers) (v : ℕ) (vs : List ℕ) → IsJoined signals g number at signal d → v < signals → EachOf (λ u. u < signals) vs →
    (IsIn v vs → ⊥) → IsNotIn (at v) (map at vs)
not_among signals g number at signal d v [] j low all n = tt
not_among signals g number at signal d v (w ∷ ws) j low all n =
    ((λ e. n (inl (same_vertex signals g number at signal d v w j low all.0 e))), not_among signals g number at signal d v ws j low all.1 (λ h. n (inr h)))

pub apart_places : (signals : ℕ) (g : Graph) (number : PlaceNumbers) (at : ℕ → Place) (signal : Place → Bool) (d : Drivers) (vs : List ℕ) → IsJoined signals g number at signal d → EachOf (λ u. u < signals) vs → AreApart vs → AreApart (map at vs)
apart_places signals g number at signal d [] j all a = tt
apart_places signals g number at signal d (v ∷ vs) j all a = (not_among signals g number at signal d v vs j all.0 all.1 (not_in v vs a.0), apart_places signals g number at signal d vs j all.1 a.1)

pub cycles_join : CyclesJoin
cycles_join signals g number at signal d [] j c = c
cycles_join signals g number at signal d (v ∷ vs) j c =
    (depend signals g number at signal d v vs v j c.3.0 c.3.1 c.0, apart_places signals g number at signal d (v ∷ vs) j c.3 c.1)
