-- The steps of a search.
use Rattle.std.proofs.Common.{◌≡◌, ℕ, ◌<◌, List, [], ◌∷◌, ◌++◌, length, set, replicate, take, get_or, refl, sym, subst, ap, arith, ◌∙◌, ◌⊎◌, inl, inr, length-set}
use Rattle.std.proofs.lemmas.List.{length-replicate, get_or-replicate, get_or_past}
use Rattle.std.proofs.lemmas.Bool.{cases_eq, cases_lt}
use Rattle.list_core.specs.Lists.{EachOf, IsIn}
use Rattle.graph_order.specs.Graphs.{Graph, edges_of, HasEdge, IsGraph}
use Rattle.graph_order.specs.Orders.{IsOrder}
use Rattle.graph_order.specs.Search.{mark_of, ArePassed, Searched, IsPath}
use Rattle.graph_order.specs.declared.search.Mark.{Mark}
use Rattle.graph_order.specs.declared.search.Mark.TheVariants.{New, Begun, Finished}
use Rattle.list_core.proofs.Lists.{in_left, in_last, in_cases, each_left, each_right, each_append, each_map, each_member, each_from, apart_left, apart_between, apart_push, none_in}
use Rattle.graph_order.proofs.Marks.{marked_same, marked_other, marked_within}
use Rattle.graph_order.proofs.Paths.{path_left}
use Rattle.graph_order.proofs.Standing.{stands_push}

-- a mark stays where one of another kind is set
kept : (marks : List Mark) (v : ℕ) (m a b : Mark) (u : ℕ) → mark_of marks v ≡ b → (a ≡ b → ⊥) → mark_of marks u ≡ a → mark_of (set marks v m) u ≡ a
kept marks v m a b u e n k =
    elim (cases_eq u v) [
      | inl same ↦ absurd (n (sym k ∙ ap (mark_of marks) same ∙ e))
      | inr other ↦ marked_other marks v u m other ∙ k
    ]

finished_begun : Finished ≡ Begun → ⊥
finished_begun e = cc

finished_new : Finished ≡ New → ⊥
finished_new e = cc

begun_new : Begun ≡ New → ⊥
begun_new e = cc

-- a mark that was set, or was there
which : (marks : List Mark) (v : ℕ) (m a : Mark) (u : ℕ) → v < length marks → mark_of (set marks v m) u ≡ a → ((u ≡ v) × (m ≡ a)) ⊎ ((u ≡ v → ⊥) × (mark_of marks u ≡ a))
which marks v m a u h e =
    elim (cases_eq u v) [
      | inl same ↦ inl (same, sym (marked_same marks v m h) ∙ ap (mark_of (set marks v m)) (sym same) ∙ e)
      | inr other ↦ inr (other, sym (marked_other marks v u m other) ∙ e)
    ]

pub begun : (g : Graph) (marks : List Mark) (passed path order : List ℕ) (w : ℕ) → w < length g → mark_of marks w ≡ New → IsPath g (path ++ w ∷ []) → Searched g marks passed path order → Searched g (set marks w Begun) passed (path ++ w ∷ []) order
begun g marks passed path order w h new joined s =
    let within : w < length marks = omega (arith, s.marked) in
    let IsKept = λ (v : ℕ). mark_of (set marks w Begun) v ≡ Finished in
    let keeps : (v : ℕ) → mark_of marks v ≡ Finished → mark_of (set marks w Begun) v ≡ Finished = λ v k. kept marks w Begun Finished New v new finished_new k in
    record {
      marked = length-set marks w Begun ∙ s.marked;
      counted = s.counted;
      passed_over = λ v. each_map _ _ _ keeps (s.passed_over v);
      path_begun = each_append _ path (w ∷ []) (each_map _ _ path (λ v k. kept marks w Begun Begun New v new begun_new k) s.path_begun) (marked_same marks w Begun within, tt);
      begun_path = λ v e. elim (which marks w Begun Begun v within e) [
        | inl same ↦ subst (λ (z : ℕ). IsIn z (path ++ w ∷ [])) (sym same.0) (in_last w path)
        | inr other ↦ in_left v path (w ∷ []) (s.begun_path v other.1)
      ];
      apart = apart_push path w s.apart (none_in w path (λ k. begun_new (sym (each_member _ path s.path_begun w k) ∙ new)));
      joined = joined;
      order_finished = each_map _ _ order keeps s.order_finished;
      finished_order = λ v e. elim (which marks w Begun Finished v within e) [
        | inl same ↦ absurd (finished_begun (sym same.1))
        | inr other ↦ s.finished_order v other.1
      ];
      in_order = s.in_order;
    }

pub finished : (g : Graph) (marks : List Mark) (passed path order : List ℕ) (v : ℕ) → EachOf (λ w. mark_of marks w ≡ Finished) (edges_of g v) → Searched g marks passed (path ++ v ∷ []) order → Searched g (set marks v Finished) passed path (order ++ v ∷ [])
finished g marks passed path order v all s =
    let last : mark_of marks v ≡ Begun = (each_right (λ u. mark_of marks u ≡ Begun) path (v ∷ []) s.path_begun).0 in
    let within : v < length marks = marked_within marks v (λ e. begun_new (sym last ∙ e)) in
    let keeps : (u : ℕ) → mark_of marks u ≡ Finished → mark_of (set marks v Finished) u ≡ Finished = λ u k. kept marks v Finished Finished Begun u last finished_begun k in
    let front : EachOf (λ u. mark_of marks u ≡ Begun) path = each_left _ path (v ∷ []) s.path_begun in
    record {
      marked = length-set marks v Finished ∙ s.marked;
      counted = s.counted;
      passed_over = λ u. each_map _ _ _ keeps (s.passed_over u);
      path_begun = each_from _ path (λ u k.
          marked_other marks v u Finished (λ same. apart_between u path (v ∷ []) s.apart k (inl same))
          ∙ each_member (λ u. mark_of marks u ≡ Begun) path front u k);
      begun_path = λ u e. elim (which marks v Finished Begun u within e) [
        | inl same ↦ absurd (finished_begun same.1)
        | inr other ↦ elim (in_cases u path (v ∷ []) (s.begun_path u other.1)) [
          | inl l ↦ l
          | inr r ↦ elim r [ inl same ↦ absurd (other.0 same) | inr k ↦ absurd k ]
        ]
      ];
      apart = apart_left path (v ∷ []) s.apart;
      joined = path_left g path (v ∷ []) s.joined;
      order_finished = each_append _ order (v ∷ []) (each_map _ _ order keeps s.order_finished) (marked_same marks v Finished within, tt);
      finished_order = λ u e. elim (which marks v Finished Finished u within e) [
        | inl same ↦ subst (λ (z : ℕ). IsIn z (order ++ v ∷ [])) (sym same.0) (in_last v order)
        | inr other ↦ in_left u order (v ∷ []) (s.finished_order u other.1)
      ];
      in_order = stands_push g [] order v s.in_order
          (λ k. finished_begun (sym (each_member _ order s.order_finished v k) ∙ last))
          (each_map _ _ (edges_of g v) (λ w k. s.finished_order w k) all);
    }

pub passed_on : (g : Graph) (marks : List Mark) (passed more path order : List ℕ) → ArePassed g marks more → length more ≡ length g → Searched g marks passed path order → Searched g marks more path order
passed_on g marks passed more path order p n s = record {
  marked = s.marked;
  counted = n;
  passed_over = p;
  path_begun = s.path_begun;
  begun_path = s.begun_path;
  apart = s.apart;
  joined = s.joined;
  order_finished = s.order_finished;
  finished_order = s.finished_order;
  in_order = s.in_order;
}

new_all : (n v : ℕ) → mark_of (replicate n New) v ≡ New
new_all n v = elim (cases_lt v n) [ inl h ↦ get_or-replicate n v New New h | inr h ↦ get_or_past (replicate n New) v New (omega (arith, length-replicate n New)) ]

all_same : (n v z : ℕ) → get_or (replicate n z) v z ≡ z
all_same n v z = elim (cases_lt v n) [ inl h ↦ get_or-replicate n v z z h | inr h ↦ get_or_past (replicate n z) v z (omega (arith, length-replicate n z)) ]

pub searched_none : (g : Graph) → Searched g (replicate (length g) New) (replicate (length g) 0) [] []
searched_none g = record {
  marked = length-replicate (length g) New;
  counted = length-replicate (length g) 0;
  passed_over = λ v. subst (λ (k : ℕ). EachOf (λ w. mark_of (replicate (length g) New) w ≡ Finished) (take k (edges_of g v))) (sym (all_same (length g) v 0)) tt;
  path_begun = tt;
  begun_path = λ v e. absurd (begun_new (sym e ∙ new_all (length g) v));
  apart = tt;
  joined = tt;
  order_finished = tt;
  finished_order = λ v e. absurd (finished_new (sym e ∙ new_all (length g) v));
  in_order = tt;
}

is_marked : (m : Mark) → (m ≡ New → ⊥) → (m ≡ Begun) ⊎ (m ≡ Finished)
is_marked New n = absurd (n refl)
is_marked Begun n = inl refl
is_marked Finished n = inr refl

pub searched_all : (g : Graph) (marks : List Mark) (passed order : List ℕ) → Searched g marks passed [] order → ((v : ℕ) → v < length g → mark_of marks v ≡ New → ⊥) → IsOrder g order
searched_all g marks passed order s met = record {
  vertices = each_map _ _ order (λ v e. let h : v < length marks = marked_within marks v (λ k. finished_new (sym e ∙ k)) in omega (arith, s.marked)) s.order_finished;
  in_order = s.in_order;
  all = λ v h. elim (is_marked (mark_of marks v) (met v h)) [ inl e ↦ absurd (s.begun_path v e) | inr e ↦ s.finished_order v e ];
}

pub moved : (g : Graph) (marks marks' : List Mark) (passed passed' path path' order order' : List ℕ) → marks' ≡ marks → passed' ≡ passed → path' ≡ path → order' ≡ order →
    Searched g marks passed path order → Searched g marks' passed' path' order'
moved g marks marks' passed passed' path path' order order' a b c d s =
    subst (λ (ms : List Mark). Searched g ms passed' path' order') (sym a)
    (subst (λ (xs : List ℕ). Searched g marks xs path' order') (sym b)
    (subst (λ (xs : List ℕ). Searched g marks passed xs order') (sym c)
    (subst (Searched g marks passed path) (sym d) s)))

-- the last of a path
pub last_begun : (g : Graph) (marks : List Mark) (passed path order : List ℕ) (v : ℕ) → Searched g marks passed (path ++ v ∷ []) order → mark_of marks v ≡ Begun
last_begun g marks passed path order v s = (each_right (λ u. mark_of marks u ≡ Begun) path (v ∷ []) s.path_begun).0

pub last_within : (g : Graph) (marks : List Mark) (passed path order : List ℕ) (v : ℕ) → Searched g marks passed (path ++ v ∷ []) order → v < length marks
last_within g marks passed path order v s = marked_within marks v (λ e. begun_new (sym (last_begun g marks passed path order v s) ∙ e))

-- what an edge leads to
pub next_within : (g : Graph) (v w : ℕ) → IsGraph g → HasEdge g v w → w < length g
next_within g v w is h = each_member (λ u. u < length g) (edges_of g v) (is v) w h

pub neither : (m : Mark) → (m ≡ New → ⊥) → (m ≡ Finished → ⊥) → m ≡ Begun
neither m n k = elim (is_marked m n) [ inl e ↦ e | inr e ↦ absurd (k e) ]
