-- Signals that are driven, and what drives them.
use Rattle.std.proofs.Common.{◌≡◌, ℕ, zero, suc, ◌+◌, ◌<◌, Bool, true, false, List, [], ◌∷◌, length, map, take, get_or, Option, Some, None, IsSome, ◌⊎◌, inl, inr, ⊎_elim, refl, sym, ap, ◌∙◌, subst}
use Rattle.std.specs.Prelude.{slice_get, option_map, is_some, ◌≢◌}
use Rattle.std.proofs.Math.ListN.{set}
use Rattle.std.proofs.lemmas.List.{get_or-set_same, get_or-set_other, length-set, take-map}
use Rattle.std.proofs.lemmas.Option.{same_Some, none-some}
use Rattle.bv_core.specs.declared.reference.NodeId.{NodeId}
use Rattle.tree_core.specs.Tree.{Tree, Leaf}
use Rattle.exec_core.specs.Block.{Name, Now}
use Rattle.exec_core.specs.Leaves.{EachLeaf}
use Rattle.list_core.specs.Lists.{EachOf, IsIn}
use Rattle.exec_core.specs.Exec.{Env}
use Rattle.exec_core.specs.Whole.{Place, Drivers, IsGiven, or_itself, StandsInOrder}
use Rattle.exec_core.specs.Design as exec
use Rattle.exec_core.specs.Design.{Process, place, moved, driver_of, process_tree}
use Rattle.exec_core.proofs.Wholes.{each_leaf}
use Rattle.exec_core.proofs.Sources.{link_source, target_source, driver_cases, driver_formed, Driver, by_link, by_process}
use Rattle.design_exec.specs.Processes.{processes_of, is_signal_of}
use Rattle.net_core.specs.Nodes.{Shape}
use Rattle.net_core.specs.Builder.{Stands}
use Rattle.check_exec.proofs.Facts.{in_at, in_index, each_at, each_joined}
use Rattle.place_core.proofs.Signals.{is_signal}
use Rattle.place_core.specs.Numbering.{number_in}
use Rattle.place_core.specs.Orders.{Pair, signal_at}
use Rattle.term_net.specs.Growth.{AreNodes, Stay}
use Rattle.term_net.specs.Leaves.{node_at, node_in}
use Rattle.term_net.proofs.Placing.{fits_placed, nodes_set}
use Rattle.term_net.proofs.Fitting.{set_stays}
use Rattle.ssa_core.specs.declared.link.Link.{Link}
use Rattle.ssa_core.specs.declared.process.ProcessKey.{ProcessKey}
use Rattle.ssa_core.specs.Links.{link_as}
use Rattle.ssa_core.specs.Processes.{process_at}
use Rattle.ssa_core.specs.Drives.{LinkDrives, ProcessDrives, HasDrive}
use Rattle.list_core.proofs.Growing.{more_of}
use Rattle.ssa_core.proofs.Places.{get_map, get_mapped, same_or_not}
use Rattle.ssa_nodes.specs.State.{names_in, node_of, HasNode, MemoFits}
use Rattle.ssa_nodes.specs.declared.parts.Parts as code
use Rattle.ssa_nodes.specs.Parts.{HasParts, HasState, IsReadyBy, IsEnd, EndStands, StandsBy, all_in, design_in, folded_of, ends_by}
use Rattle.ssa_nodes.specs.Driving.{HasDriver, DriverStands, Resolved, IsPair, PairResolved, GivenHave, AllHave}
use Rattle.ssa_nodes.proofs.Sources.{accepted, by_node}

heads : {A : Type 0} (x y : A) (xs ys : List A) → x ∷ xs ≡ y ∷ ys → x ≡ y
heads x y xs ys e = cc

tails : {A : Type 0} (x y : A) (xs ys : List A) → x ∷ xs ≡ y ∷ ys → xs ≡ ys
tails x y xs ys e = cc

pub not_some : {A : Type 0} (o : Option A) → is_some o ≡ false → o ≡ None
not_some None e = refl
not_some (Some x) e = cc

-- each pair of these is a signal that has a node
abbrev pub PairsHave : code.Parts → List (Option NodeId) → List Pair → Type 0
PairsHave p nodes pairs = EachOf (λ pair. (q : Place) → signal_at (design_in p) pair ≡ Some q → HasNode (all_in p) nodes q) pairs

-- ---- along an order

pub order_from : (signal : Place → Bool) (d : Drivers) (done : Place → Type 0) (order : List Place) (k : ℕ) (p : Place) → StandsInOrder signal d done order → slice_get order k ≡ Some p →
    EachLeaf (λ q. IsGiven signal d q ⊎ (done q ⊎ IsIn q (take k order))) (or_itself (d p) p)
order_from signal d done [] k p h e = absurd (none-some p e)
order_from signal d done (r ∷ order) zero p h e =
    subst (λ s. EachLeaf (λ q. IsGiven signal d q ⊎ (done q ⊎ IsIn q [])) (or_itself (d s) s)) (same_Some r p e)
    (each_leaf {Q = λ q. IsGiven signal d q ⊎ (done q ⊎ IsIn q [])} (λ q g. ⊎_elim (λ a. inl a) (λ b. inr (inl b)) g) (or_itself (d r) r) h.0)
order_from signal d done (r ∷ order) (suc k) p h e =
    each_leaf {Q = λ q. IsGiven signal d q ⊎ (done q ⊎ IsIn q (r ∷ take k order))} (λ q g. ⊎_elim (λ a. inl a) (λ b. inr (⊎_elim (λ c. ⊎_elim (λ x. inl x) (λ x. inr (inl x)) c) (λ c. inr (inr c)) b)) g) (or_itself (d p) p)
    (order_from signal d (λ q. done q ⊎ (q ≡ r)) order k p h.1 e)

module _ (p : code.Parts) (h : HasParts p) where
  abbrev d : exec.Design
  d = processes_of (design_in p)

  -- ---- links and processes of the design

  link_in : (l : ℕ) (link : Link) → slice_get p.links.items l ≡ Some link → IsIn (link_as link) d.links
  link_in l link e = in_at d.links l (link_as link) (ap (λ ls. slice_get ls l) (sym h.parts.links_are) ∙ get_map link_as p.links.items l link e)

  pub process_in : (k : ℕ) (key : ProcessKey) (b : Process) → slice_get p.keys.items k ≡ Some key → process_at (design_in p) key ≡ Some b → slice_get d.processes k ≡ Some b
  process_in k key b e is =
      let there : slice_get (map (λ (c : Process). Some c) d.processes) k ≡ Some (Some b) =
      ap (λ ls. slice_get ls k) (sym h.parts.keys_are) ∙ get_map (process_at (design_in p)) p.keys.items k key e ∙ ap (λ o. Some o) is in
      let m = get_mapped (λ (c : Process). Some c) d.processes k (Some b) there in
      m.found ∙ ap (λ c. Some c) (same_Some m.from b m.is)

  pub key_at : (k : ℕ) (b : Process) → slice_get d.processes k ≡ Some b → (key : ProcessKey) × ((slice_get p.keys.items k ≡ Some key) × (process_at (design_in p) key ≡ Some b))
  key_at k b e =
      let there : slice_get (map (process_at (design_in p)) p.keys.items) k ≡ Some (Some b) = ap (λ ls. slice_get ls k) h.parts.keys_are ∙ get_map (λ (c : Process). Some c) d.processes k b e in
      let m = get_mapped (process_at (design_in p)) p.keys.items k (Some b) there in
      (m.from, (m.found, m.is))

  -- ---- what drives a signal stands beside its number

  drive_of : (q : Place) (t : Tree Place) (n : ℕ) → Driver d h.parts.told.order (accepted p h) q t → number_in (all_in p) q ≡ Some n → HasDrive p.drives.items n
  drive_of q t n (by_link link m same tree) at =
      let found = in_index d.links link m in
      let there : slice_get (map link_as p.links.items) found.0 ≡ Some link = ap (λ ls. slice_get ls found.0) h.parts.links_are ∙ found.1 in
      let mine = get_mapped link_as p.links.items found.0 link there in
      h.parts.driven.by_link found.0 mine.from mine.found n (ap (number_in (all_in p)) (ap (λ (l : Place × Tree Place). l.0) mine.is ∙ same) ∙ at)
  drive_of q t n (by_process b m owns here u ends tree) at =
      let found = in_index d.processes b m in
      let key = key_at found.0 b found.1 in
      h.parts.driven.by_process found.0 key.0 key.1.0 b key.1.1 q.name owns n (ap (number_in (all_in p)) here ∙ at)

  pub has_drive : (nodes : List (Option NodeId)) (q : Place) (n : ℕ) → HasDriver p nodes q → number_in (all_in p) q ≡ Some n → HasDrive p.drives.items n
  has_drive nodes q n driver at = drive_of q driver.tree n (driver_cases d h.parts.told.order (accepted p h) q driver.tree driver.drives) at

  -- ---- a link that goes to a signal is its driver

  pub link_drives : (l : ℕ) (q : Place) (t : Tree Place) (does : LinkDrives p.links.items l q) → driver_of d q ≡ Some t → (link_as does.link).1 ≡ t
  link_drives l q t does e =
      same_Some (link_as does.link).1 t (sym (link_source d h.parts.told.order (accepted p h) (link_as does.link) (link_in l does.link does.found)) ∙ ap (driver_of d) does.target ∙ e)

  pub link_ready : (nodes : List (Option NodeId)) (l : ℕ) (q : Place) (does : LinkDrives p.links.items l q) → HasDriver p nodes q → IsReadyBy p nodes (link_as does.link).1
  link_ready nodes l q does driver = subst (IsReadyBy p nodes) (sym (link_drives l q driver.tree does driver.drives)) driver.ready

  pub link_stands : (ns : List Shape) (l : ℕ) (q : Place) (id : NodeId) (does : LinkDrives p.links.items l q) → StandsBy p ns (link_as does.link).1 id → DriverStands p ns q id
  link_stands ns l q id does s t e = subst (λ u. StandsBy p ns u id) (link_drives l q t does e) s

  -- ---- a process that assigns a signal is

  place_is : (b : Process) (q : Place) → b.instance ≡ q.instance → place b.instance q.name ≡ q
  place_is b q e = ap (λ i. place i q.name) e

  record EndsWith (b : Process) (q : Place) (t : Tree Place) : Type 0 where
    tree : Tree Name
    ends : ends_by p b (Now q.name) ≡ Some tree
    is : moved b.instance tree ≡ t

  ends_with : (k : ℕ) (q : Place) (t : Tree Place) (does : ProcessDrives (design_in p) p.keys.items k q) → is_signal_of (design_in p) q ≡ true → driver_of d q ≡ Some t → EndsWith does.process q t
  ends_with k q t does signal e =
      let b = does.process in
      let m : IsIn b d.processes = in_at d.processes k b (process_in k does.key b does.found does.is) in
      let here : place b.instance q.name ≡ q = place_is b q does.instance in
      let is_target : d.is_signal (place b.instance q.name) ≡ true = subst (λ r. d.is_signal r ≡ true) (sym here) signal in
      let driven : process_tree d (place b.instance q.name) b ≡ Some t = sym (target_source d h.parts.told.order (accepted p h) b m q.name (does.owns, is_target)) ∙ ap (driver_of d) here ∙ e in
      by_tree b (ends_by p b (Now q.name)) refl
      driven
    where
      by_tree : (b : Process) (o : Option (Tree Name)) → ends_by p b (Now q.name) ≡ o → option_map (moved b.instance) o ≡ Some t → EndsWith b q t
      by_tree b None at is = absurd (none-some t is)
      by_tree b (Some u) at is = record { tree = u; ends = at; is = same_Some (moved b.instance u) t is }

  pub process_ends : (nodes : List (Option NodeId)) (k : ℕ) (q : Place) → ProcessDrives (design_in p) p.keys.items k q → HasDriver p nodes q → IsEnd p nodes k (Now q.name)
  process_ends nodes k q does driver =
      let w = ends_with k q driver.tree does driver.signal driver.drives in
      record { key = does.key; found = does.found; process = does.process; is = does.is; tree = w.tree; ends = w.ends; ready = subst (IsReadyBy p nodes) (sym w.is) driver.ready }

  pub process_stands : (ns : List Shape) (nodes : List (Option NodeId)) (k : ℕ) (q : Place) (id : NodeId) → ProcessDrives (design_in p) p.keys.items k q → HasDriver p nodes q → EndStands p ns k (Now q.name) id → DriverStands p ns q id
  process_stands ns nodes k q id does driver s t e =
      let w = ends_with k q t does driver.signal e in
      subst (λ u. StandsBy p ns u id) w.is (s does.key does.process w.tree does.found does.is w.ends)

  -- ---- one more signal has a node

  -- the node of what drives a signal stands for the signal
  pub stands_itself : (ns : List Shape) (nodes : List (Option NodeId)) (q : Place) (id : NodeId) → HasDriver p nodes q → DriverStands p ns q id → StandsBy p ns (Leaf q) id
  stands_itself ns nodes q id driver s =
      subst (Stands ns id.0) (sym ((by_node p h).driven q driver.tree driver.signal driver.drives)) (s driver.tree driver.drives)

  node_here : (nodes : List (Option NodeId)) (n : ℕ) (id : NodeId) (q : Place) → n < length nodes → number_in (all_in p) q ≡ Some n → node_of (all_in p) (set nodes n (Some id)) q ≡ Some id
  node_here nodes n id q within at = ap (node_in (set nodes n (Some id))) at ∙ get_or-set_same nodes n (Some id) None within

  pub placed_more : (nodes : List (Option NodeId)) (n : ℕ) (id : NodeId) (q : Place) → n < length nodes → number_in (all_in p) q ≡ Some n → node_at nodes n ≡ None → Resolved p nodes (set nodes n (Some id)) q
  placed_more nodes n id q within at none = record {
    long = length-set nodes n (Some id);
    kept = λ r has. kept r has;
    has = subst IsSome (sym (node_here nodes n id q within at)) refl;
  }
    where
      stay : Stay nodes (set nodes n (Some id))
      stay = set_stays nodes (set nodes n (Some id)) n id none refl

      keeps : (o : Option ℕ) → IsSome (node_in nodes o) → IsSome (node_in (set nodes n (Some id)) o)
      keeps None has = has
      keeps (Some k) has = by_node_at (node_at nodes k) refl has
        where
          by_node_at : (o : Option NodeId) → node_at nodes k ≡ o → IsSome o → IsSome (node_at (set nodes n (Some id)) k)
          by_node_at None e has = cc
          by_node_at (Some i) e has = subst IsSome (sym (stay.same k i e)) refl

      kept : (r : Place) → HasNode (all_in p) nodes r → HasNode (all_in p) (set nodes n (Some id)) r
      kept r has = keeps (number_in (all_in p) r) has

  pub state_set : (ns : List Shape) (nodes : List (Option NodeId)) (memos : List (List (Option NodeId))) (n : ℕ) (id : NodeId) (q : Place) → n < length nodes → number_in (all_in p) q ≡ Some n → node_at nodes n ≡ None →
      StandsBy p ns (Leaf q) id → HasState p ns nodes memos → HasState p ns (set nodes n (Some id)) memos
  state_set ns nodes memos n id q within at none stands s = record {
    shared = s.shared;
    placed = are;
    signals = record { told = told };
    terms = record { each = λ k key parts found terms. memo k key.instance parts (s.terms.each k key parts found terms) };
    over = s.over;
  }
    where
      new : List (Option NodeId)
      new = set nodes n (Some id)

      are : AreNodes ns (set nodes n (Some id))
      are = nodes_set ns nodes n id stands.within within s.placed

      stay : Stay nodes (set nodes n (Some id))
      stay = set_stays nodes (set nodes n (Some id)) n id none refl

      told : (r : Place) (i : NodeId) → node_of (all_in p) (set nodes n (Some id)) r ≡ Some i → Stands ns i.0 (folded_of p (Leaf r))
      told r i e = by_number (number_in (all_in p) r) refl e
        where
          by_number : (o : Option ℕ) → number_in (all_in p) r ≡ o → node_in (set nodes n (Some id)) o ≡ Some i → Stands ns i.0 (folded_of p (Leaf r))
          by_number None is has = absurd (none-some i has)
          by_number (Some k) is has = ⊎_elim here there (same_or_not k n)
            where
              here : k ≡ n → Stands ns i.0 (folded_of p (Leaf r))
              here same =
                  let same_place : q ≡ r = h.parts.apart.apart q r n at (is ∙ ap (λ j. Some j) same) in
                  let is_id : id ≡ i = same_Some id i (sym (get_or-set_same nodes n (Some id) None within) ∙ ap (node_at (set nodes n (Some id))) (sym same) ∙ has) in
                  subst (λ (j : NodeId). Stands ns j.0 (folded_of p (Leaf r))) is_id (subst (λ u. Stands ns id.0 (folded_of p (Leaf u))) same_place stands)

              there : (k ≡ n → ⊥) → Stands ns i.0 (folded_of p (Leaf r))
              there other = s.signals.told r i (ap (node_in nodes) is ∙ sym (get_or-set_other nodes n k (Some id) None other) ∙ has)

      memo : (k i : ℕ) (parts : _) → MemoFits ns (all_in p) nodes memos k i parts → MemoFits ns (all_in p) (set nodes n (Some id)) memos k i parts
      memo k i parts m = record { memo = m.memo; found = m.found; fits = fits_placed ns (names_in (all_in p) i) nodes (set nodes n (Some id)) stay parts.terms m.memo are m.fits }

  -- a signal that has one already
  pub placed_has : (nodes : List (Option NodeId)) (n : ℕ) (q : Place) → number_in (all_in p) q ≡ Some n → is_some (node_at nodes n) ≡ true → Resolved p nodes nodes q
  placed_has nodes n q at has = record { long = refl; kept = λ r x. x; has = subst (λ (o : Option ℕ). IsSome (node_in nodes o)) (sym at) has }

  -- ---- all of them, along the order

  -- the signal of a pair of the order
  record AtPair (k : ℕ) (pair : Pair) : Type 0 where
    signal : Place
    here : signal_at (design_in p) pair ≡ Some signal
    there : slice_get h.parts.told.order k ≡ Some signal

  at_pair : (k : ℕ) (pair : Pair) → slice_get p.order.now k ≡ Some pair → AtPair k pair
  at_pair k pair e =
      let there : slice_get (map (λ (q : Place). Some q) h.parts.told.order) k ≡ Some (signal_at (design_in p) pair) =
      ap (λ ls. slice_get ls k) (sym h.parts.told.signals) ∙ get_map (signal_at (design_in p)) p.order.now k pair e in
      let m = get_mapped (λ (q : Place). Some q) h.parts.told.order k (signal_at (design_in p) pair) there in
      record { signal = m.from; here = sym m.is; there = m.found }

  among_pairs : (nodes : List (Option NodeId)) (pairs : List Pair) (order : List Place) (q : Place) → map (signal_at (design_in p)) pairs ≡ map (λ r. Some r) order → PairsHave p nodes pairs → IsIn q order → HasNode (all_in p) nodes q
  among_pairs nodes pairs [] q e h i = absurd i
  among_pairs nodes [] (r ∷ order) q e h i = absurd (let f : ⊥ = cc in f)
  among_pairs nodes (pair ∷ pairs) (r ∷ order) q e h (inl s) = h.0 q (heads (signal_at (design_in p) pair) (Some r) (map (signal_at (design_in p)) pairs) (map (λ r. Some r) order) e ∙ ap (λ z. Some z) (sym s))
  among_pairs nodes (pair ∷ pairs) (r ∷ order) q e h (inr i) = among_pairs nodes pairs order q (tails (signal_at (design_in p) pair) (Some r) (map (signal_at (design_in p)) pairs) (map (λ r. Some r) order) e) h.1 i

  pairs_taken : (k : ℕ) → map (signal_at (design_in p)) (take k p.order.now) ≡ map (λ r. Some r) (take k h.parts.told.order)
  pairs_taken k = sym (take-map (signal_at (design_in p)) k p.order.now) ∙ ap (take k) h.parts.told.signals ∙ take-map (λ r. Some r) k h.parts.told.order

  pub pair_ready : (nodes : List (Option NodeId)) (k : ℕ) (pair : Pair) → slice_get p.order.now k ≡ Some pair → GivenHave p nodes → PairsHave p nodes (take k p.order.now) → IsPair p nodes pair
  pair_ready nodes k pair e given pairs =
      let a = at_pair k pair e in
      record { signal = a.signal; at = a.here; driver = by_driver a.signal (driver_of d a.signal) refl (each_at (λ q. driver_of d q ≢ None) h.parts.told.order k a.signal a.there h.parts.told.driven) a.here a.there }
    where
      by_driver : (q : Place) (o : Option (Tree Place)) → driver_of d q ≡ o → driver_of d q ≢ None → signal_at (design_in p) pair ≡ Some q → slice_get h.parts.told.order k ≡ Some q → HasDriver p nodes q
      by_driver q None e has at there = absurd (has e)
      by_driver q (Some t) e has at there = record {
        signal = is_signal (design_in p) pair q at;
        tree = t;
        drives = e;
        ready = record {
          formed = (driver_formed d h.parts.told.order (accepted p h) q t (driver_cases d h.parts.told.order (accepted p h) q t e)).0;
          known = each_leaf {Q = HasNode (all_in p) nodes} (λ r g. ⊎_elim (λ is. given r is) (λ b. ⊎_elim (λ no. absurd no) (λ i. among_pairs nodes (take k p.order.now) (take k h.parts.told.order) r (pairs_taken k) pairs i) b) g) t
              (subst (EachLeaf (λ r. IsGiven (is_signal_of (design_in p)) (driver_of d) r ⊎ (⊥ ⊎ IsIn r (take k h.parts.told.order)))) (ap (λ o. or_itself o q) e)
              (order_from (is_signal_of (design_in p)) (driver_of d) (λ r. ⊥) h.parts.told.order k q h.parts.told.in_order.in_order there));
        };
      }

  pub all_have : (nodes : List (Option NodeId)) → GivenHave p nodes → PairsHave p nodes p.order.now → AllHave p nodes
  all_have nodes given pairs q s = ⊎_elim (λ g. given q g) (λ i. among_pairs nodes p.order.now h.parts.told.order q h.parts.told.signals pairs i) (h.parts.told.in_order.all q s)

  pub given_kept : (old new : List (Option NodeId)) (q : Place) → Resolved p old new q → GivenHave p old → GivenHave p new
  given_kept old new q r g s is = r.kept s (g s is)

  pub pairs_kept : (old new : List (Option NodeId)) (q : Place) (pairs : List Pair) → Resolved p old new q → PairsHave p old pairs → PairsHave p new pairs
  pairs_kept old new q [] r h = tt
  pairs_kept old new q (pair ∷ pairs) r h = ((λ s e. r.kept s (h.0 s e)), pairs_kept old new q pairs r h.1)

  pub pair_kept : (old new : List (Option NodeId)) (pair : Pair) → IsPair p old pair → PairResolved p old new pair → GivenHave p old → GivenHave p new
  pair_kept old new pair is r given = given_kept old new is.signal (r is.signal is.at) given

  pub pairs_more : (old new : List (Option NodeId)) (pairs : List Pair) (k : ℕ) (pair : Pair) → k < length pairs → pair ≡ get_or pairs k pair → IsPair p old pair → PairResolved p old new pair → PairsHave p old (take k pairs) → PairsHave p new (take (k + 1) pairs)
  pairs_more old new pairs k pair below at is r have =
      subst (PairsHave p new) (sym (more_of pairs k pair below at))
      (each_joined (λ pair. (q : Place) → signal_at (design_in p) pair ≡ Some q → HasNode (all_in p) new q) (take k pairs) (pair ∷ []) (pairs_kept old new is.signal (take k pairs) (r is.signal is.at) have) ((λ q e. (r q e).has), tt))
