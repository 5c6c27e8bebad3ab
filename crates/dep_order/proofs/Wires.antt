-- Links and processes, one after another.
use Rattle.std.proofs.Common.{◌≡◌, ℕ, ◌<◌, ◌||◌, ◌&&◌, not, Bool, true, false, true≢false, List, [], ◌∷◌, ◌++◌, find, Option, Some, None, is_some, option_map, length, set, get_or, refl, sym, subst, ap, ap₂, ◌∙◌, inl, inr, arith, if◌then◌else◌, get_or-set_same, get_or-set_other}
use Rattle.std.proofs.lemmas.Bool.{cases_Bool}
use Rattle.tree_core.specs.Tree.{Tree, Const, Leaf, One, Two, Mux}
use Rattle.exec_core.specs.Block.{Name}
use Rattle.exec_core.specs.Whole.{Place}
use Rattle.exec_core.specs.Leaves.{EachLeaf}
use Rattle.exec_core.specs.Design.{place, moved, same_place, links_to, or_else}
use Rattle.list_core.proofs.Options.{some_same}
use Rattle.exec_core.proofs.Sources.{same_place-sound, same_place-refl}
use Rattle.exec_core.proofs.Wholes.{each_leaf}
use Rattle.list_core.specs.Lists.{EachOf}
use Rattle.graph_order.specs.Graphs.{Graph, edges_of, IsGraph}
use Rattle.list_core.proofs.Lists.{each_member}
use Rattle.dep_order.specs.Reaching.{ReachedFrom, KeepsVersions}
use Rattle.dep_order.specs.Standing.{SomeLeaf, StandFor}
use Rattle.dep_order.specs.Wiring.{driver_in, is_met, DriverStands, IsWiredAt, met_with, driver_with, Drives}
use Rattle.place_core.specs.Linking.{Link}
use Rattle.place_core.specs.Numbering.{PlaceNumbers}
use Rattle.dep_order.proofs.Walks.{reaches_kept, reaches_back}

-- ---- trees of an instance as trees of places

leaves_moved : (i : ℕ) (P : Place → Type 0) (t : Tree Name) → EachLeaf (λ x. P (place i x)) t → EachLeaf P (moved i t)
leaves_moved i P (Const b) e = e
leaves_moved i P (Leaf x) e = e
leaves_moved i P (One op a) e = leaves_moved i P a e
leaves_moved i P (Two op a b) e = (leaves_moved i P a e.0, leaves_moved i P b e.1)
leaves_moved i P (Mux c a b) e = (leaves_moved i P c e.0, leaves_moved i P a e.1, leaves_moved i P b e.2)

some_moved : (i : ℕ) (P : Place → Type 0) (t : Tree Name) → SomeLeaf (λ x. P (place i x)) t → SomeLeaf P (moved i t)
some_moved i P (Const b) e = e
some_moved i P (Leaf x) e = e
some_moved i P (One op a) e = some_moved i P a e
some_moved i P (Two op a b) e = elim e [ inl l ↦ inl (some_moved i P a l) | inr r ↦ inr (some_moved i P b r) ]
some_moved i P (Mux c a b) e = elim e [ inl l ↦ inl (some_moved i P c l) | inr r ↦ inr (elim r [ inl l ↦ inl (some_moved i P a l) | inr k ↦ inr (some_moved i P b k) ]) ]

-- what stands for a tree of an instance stands for it among places
pub moved_stands : (signals : ℕ) (g : Graph) (number : PlaceNumbers) (i : ℕ) (vs : List ℕ) (t : Tree Name) → StandFor signals g (λ x. number (place i x)) vs t → StandFor signals g number vs (moved i t)
moved_stands signals g number i vs t s = record {
  leaves = leaves_moved i (λ p. (n : ℕ) → number p ≡ Some n → ReachedFrom signals g vs n) t s.leaves;
  nothing_else = λ w r. some_moved i (λ p. number p ≡ Some w) t (s.nothing_else w r);
}

-- ---- a graph whose versions stay

pub stands_kept : {A : Type 0} (signals : ℕ) (g h : Graph) (number : A → Option ℕ) (vs : List ℕ) (t : Tree A) → IsGraph g → KeepsVersions signals g h → EachOf (λ v. v < length g) vs → StandFor signals g number vs t → StandFor signals h number vs t
stands_kept signals g h number vs t is k w s = record {
  leaves = each_leaf (λ x f n e. let r = f n e in record { start = r.start; one_of = r.one_of; reaches = reaches_kept signals g h r.start n k r.reaches }) t s.leaves;
  nothing_else = λ n r. s.nothing_else n (record { start = r.start; one_of = r.one_of; reaches = reaches_back signals g h r.start n is k (each_member (λ v. v < length g) vs w r.start r.one_of) r.reaches });
}

pub driver_kept : (signals : ℕ) (g h : Graph) (number : PlaceNumbers) (vs : List ℕ) (o : Option (Tree Place)) → IsGraph g → KeepsVersions signals g h → EachOf (λ v. v < length g) vs → DriverStands signals g number vs o → DriverStands signals h number vs o
driver_kept signals g h number vs None is k w s = s
driver_kept signals g h number vs (Some t) is k w s = stands_kept signals g h number vs t is k w s

-- the edges of a signal change
pub set_keeps : (signals : ℕ) (g : Graph) (n : ℕ) (vs : List ℕ) → n < signals → KeepsVersions signals g (set g n vs)
set_keeps signals g n vs low v high within = get_or-set_other g n v vs [] (λ e. absurd (omega (arith, e)))

-- ---- one more link or process

pub not_same : (q p : Place) → (p ≡ q → ⊥) → same_place q p ≡ false
not_same q p n = elim (cases_Bool (same_place q p)) [ inl same ↦ absurd (n (sym (same_place-sound q p same))) | inr other ↦ other ]

pub pick_other : (q p : Place) (new : Option (Tree Place)) (met : Place → Bool) (driver : Place → Option (Tree Place)) → same_place q p ≡ false → (driver p ≡ driver_with q new met driver p) × (met p ≡ met_with q met p)
pick_other q p new met driver e =
    (ap (λ (b : Bool). if b && not (met p) then new else driver p) (sym e), or_none (met p) ∙ ap (λ (b : Bool). met p || b) (sym e))
  where
    or_none : (a : Bool) → a ≡ (a || false)
    or_none true = refl
    or_none false = refl

pick_met : (q p : Place) (new : Option (Tree Place)) (met : Place → Bool) (driver : Place → Option (Tree Place)) → met p ≡ true → (driver p ≡ driver_with q new met driver p) × (met p ≡ met_with q met p)
pick_met q p new met driver e = (
  no_pick (same_place q p) new (driver p) ∙ ap (λ (b : Bool). if same_place q p && not b then new else driver p) (sym e),
  e ∙ ap (λ (b : Bool). b || same_place q p) (sym e),
)
  where
    no_pick : (b : Bool) (x y : Option (Tree Place)) → y ≡ (if b && not true then x else y)
    no_pick true x y = refl
    no_pick false x y = refl

pick_new : (q p : Place) (new : Option (Tree Place)) (met : Place → Bool) (driver : Place → Option (Tree Place)) → same_place q p ≡ true → met p ≡ false → (new ≡ driver_with q new met driver p) × (true ≡ met_with q met p)
pick_new q p new met driver e f =
    (ap₂ (λ (a b : Bool). if a && not b then new else driver p) (sym e) (sym f), ap₂ (λ (a b : Bool). a || b) (sym f) (sym e))

pub wired_as : (signals : ℕ) (number : PlaceNumbers) (g : Graph) (driven : List Bool) (a b : Bool) (o u : Option (Tree Place)) (n : ℕ) → o ≡ u → a ≡ b → IsWiredAt signals number g driven a o n → IsWiredAt signals number g driven b u n
wired_as signals number g driven a b o u n e f w =
    subst (λ (c : Bool). IsWiredAt signals number g driven c u n) f (subst (λ (v : Option (Tree Place)). IsWiredAt signals number g driven a v n) e w)

-- it is driven already
pub drives_none : (g : Graph) (driven : List Bool) (n : ℕ) (edges : List ℕ) → get_or driven n false ≡ true → Drives g driven g driven n edges
drives_none g driven n edges on signals number met driver q new are is stands w p m e =
    elim (cases_Bool (same_place q p)) [
      | inl same ↦
          let at : q ≡ p = same_place-sound q p same in
          let here : n ≡ m = some_same n m (sym is ∙ ap number at ∙ e) in
          let known : met p ≡ true = sym (w p m e).marked ∙ ap (λ (k : ℕ). get_or driven k false) (sym here) ∙ on in
          let picks = pick_met q p new met driver known in
          wired_as signals number g driven (met p) (met_with q met p) (driver p) (driver_with q new met driver p) m picks.0 picks.1 (w p m e)
      | inr other ↦
          let picks = pick_other q p new met driver other in
          wired_as signals number g driven (met p) (met_with q met p) (driver p) (driver_with q new met driver p) m picks.0 picks.1 (w p m e)
    ]

-- it is driven by these edges from here on
pub drives_new : (g : Graph) (driven : List Bool) (n : ℕ) (edges : List ℕ) → IsGraph g → n < length g → n < length driven → EachOf (λ v. v < length g) edges → get_or driven n false ≡ false →
    Drives g driven (set g n edges) (set driven n true) n edges
drives_new g driven n edges graph low in_marks within off signals number met driver q new are is stands w p m e =
    elim (cases_Bool (same_place q p)) [
      | inl same ↦
          let at : q ≡ p = same_place-sound q p same in
          let here : n ≡ m = some_same n m (sym is ∙ ap number at ∙ e) in
          let unmet : met p ≡ false = sym (w p m e).marked ∙ ap (λ (k : ℕ). get_or driven k false) (sym here) ∙ off in
          let picks = pick_new q p new met driver same unmet in
          wired_as signals number (set g n edges) (set driven n true) true (met_with q met p) new (driver_with q new met driver p) m picks.0 picks.1
          (subst (IsWiredAt signals number (set g n edges) (set driven n true) true new) here (record {
            marked = get_or-set_same driven n true false in_marks;
            stands = subst (λ (vs : List ℕ). DriverStands signals (set g n edges) number vs new) (sym (get_or-set_same g n edges [] low))
                (driver_kept signals g (set g n edges) number edges new graph (set_keeps signals g n edges (are.below q n is)) within stands);
          }))
      | inr other ↦
          let apart : m ≡ n → ⊥ = (λ k. true≢false (sym (same_place-refl p) ∙ ap (λ (z : Place). same_place z p) (are.apart p q n (e ∙ ap (λ (j : ℕ). Some j) k) is) ∙ other)) in
          let picks = pick_other q p new met driver other in
          wired_as signals number (set g n edges) (set driven n true) (met p) (met_with q met p) (driver p) (driver_with q new met driver p) m picks.0 picks.1 (record {
            marked = get_or-set_other driven n m true false apart ∙ (w p m e).marked;
            stands = subst (λ (vs : List ℕ). DriverStands signals (set g n edges) number vs (driver p)) (sym (get_or-set_other g n m edges [] apart))
                (driver_kept signals g (set g n edges) number (edges_of g m) (driver p) graph (set_keeps signals g n edges (are.below q n is)) (graph m) (w p m e).stands);
          })
    ]

-- ---- the first of a list

pub find_push : {A : Type 0} (test : A → Bool) (xs : List A) (x : A) → find test (xs ++ x ∷ []) ≡ or_else (find test xs) (if test x then Some x else None)
find_push test [] x = refl
find_push test (y ∷ xs) x = by_test (test y) (find_push test xs x)
  where
    by_test : (b : Bool) → find test (xs ++ x ∷ []) ≡ or_else (find test xs) (if test x then Some x else None) →
        (if b then Some y else find test (xs ++ x ∷ [])) ≡ or_else (if b then Some y else find test xs) (if test x then Some x else None)
    by_test true rest = refl
    by_test false rest = rest

link_picked : (o : Option Link) (b : Bool) (l : Link) → or_else (option_map (λ (link : Link). link.1) (or_else o (if b then Some l else None))) None
    ≡ (if b && not (is_some o || false) then Some l.1 else or_else (option_map (λ (link : Link). link.1) o) None)
link_picked None true l = refl
link_picked None false l = refl
link_picked (Some k) true l = refl
link_picked (Some k) false l = refl

link_marked : (o : Option Link) (b : Bool) (l : Link) → (is_some (or_else o (if b then Some l else None)) || false) ≡ ((is_some o || false) || b)
link_marked None true l = refl
link_marked None false l = refl
link_marked (Some k) true l = refl
link_marked (Some k) false l = refl

-- one more link: the driver of each place is that of the links with it
pub link_drives : (links : List Link) (q : Place) (t : Tree Place) (p : Place) → driver_in (links ++ (q, t) ∷ []) [] p ≡ driver_with q (Some t) (is_met links []) (driver_in links []) p
link_drives links q t p =
    ap (λ (o : Option Link). or_else (option_map (λ (link : Link). link.1) o) None) (find_push (links_to p) links (q, t))
    ∙ link_picked (find (links_to p) links) (same_place q p) (q, t)

pub link_meets : (links : List Link) (q : Place) (t : Tree Place) (p : Place) → is_met (links ++ (q, t) ∷ []) [] p ≡ met_with q (is_met links []) p
link_meets links q t p =
    ap (λ (o : Option Link). is_some o || false) (find_push (links_to p) links (q, t))
    ∙ link_marked (find (links_to p) links) (same_place q p) (q, t)
