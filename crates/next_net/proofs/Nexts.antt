-- Next values of registers, by nodes.
use Rattle.std.proofs.Common.{◌≡◌, ℕ, zero, suc, ◌+◌, ◌<◌, Bool, true, false, cond, List, [], ◌∷◌, ◌++◌, length, map, take, get_or, Option, Some, None, unwrap_or, refl, sym, ap, ◌∙◌, subst, arith, eqb-true}
use Rattle.std.specs.Prelude.{slice_get, filter, ◌==◌}
use Rattle.std.proofs.lemmas.List.{map_push}
use Rattle.std.proofs.lemmas.Option.{same_Some, none-some}
use Rattle.bv_core.specs.declared.reference.NodeId.{NodeId}
use Rattle.tree_core.specs.Tree.{Tree, Const, Leaf, One, Two, Mux, Origin, Input, Register, Whole}
use Rattle.tree_core.specs.Width.{tree_width, WellFormed}
use Rattle.tree_core.proofs.Same.{both_true}
use Rattle.exec_core.specs.Block.{Name, Next, body_assigns}
use Rattle.list_core.specs.Lists.{EachOf, IsIn}
use Rattle.exec_core.specs.Paths.{TreeFits, TreesChecked}
use Rattle.exec_core.specs.Exec.{Env}
use Rattle.exec_core.specs.Trees.{block_trees}
use Rattle.exec_core.specs.Whole.{Place}
use Rattle.exec_core.specs.Accepted.{OriginsApart, GivenFits}
use Rattle.exec_core.specs.States.{OverGivens}
use Rattle.exec_core.specs.Design as exec
use Rattle.exec_core.specs.Design.{Process, place, moved, signals_of, width_in, writes_to, next_by, next_tree}
use Rattle.list_core.proofs.Lists.{each_member, each_from, find_member, filter_member}
use Rattle.exec_core.proofs.Moving.{moved_fits, good_leaves}
use Rattle.exec_core.proofs.Sources.{process_checked, next_fits}
use Rattle.exec_core.proofs.Wholes.{each_leaf}
use Rattle.design_exec.specs.Processes.{Given, processes_of, is_signal_of}
use Rattle.net_core.specs.Nodes.{Shape, tree_of, width_at}
use Rattle.net_core.specs.Builder.{AreShared, Keeps, Stands}
use Rattle.net_core.proofs.TreeLists.{trees_length}
use Rattle.net_core.specs.Nets.{IsNext, NextsFit, is_register, nexts_of}
use Rattle.check_exec.proofs.Facts.{in_at, in_index}
use Rattle.term_net.proofs.Fitting.{stands_more}
use Rattle.list_core.proofs.Growing.{more_of}
use Rattle.ssa_core.proofs.Places.{get_map, get_mapped}
use Rattle.ssa_nodes.specs.State.{AllOverGivens}
use Rattle.ssa_nodes.specs.declared.parts.Parts as code
use Rattle.ssa_nodes.specs.Parts.{HasParts, IsEnd, EndStands, StandsBy, IsReadyBy, design_in, folded_of, ends_by}
use Rattle.ssa_nodes.specs.Driving.{AllHave}
use Rattle.ssa_nodes.proofs.Sources.{accepted, by_node}
use Rattle.ssa_nodes.proofs.Driven.{key_at}
use Rattle.next_net.specs.Writers.{IsFirst}
use Rattle.next_net.specs.declared.register.Register as code_register
use Rattle.next_net.specs.Registers.{register_as, registers_of}
use Rattle.next_net.specs.Nexts.{NextTold, AllNext, IsNextOf, NextStands, AreNexts}
use Rattle.next_net.proofs.Picking.{filter_in, each_filter}
use Rattle.next_net.proofs.Registers.{gives_register, registers_in, registers_given}

-- ---- origins that are apart

origins_once : (givens : List Given) (j k : ℕ) (a b : Given) → OriginsApart givens → slice_get givens j ≡ Some a → slice_get givens k ≡ Some b → a.1 ≡ b.1 → j ≡ k
origins_once [] j k a b h e f same = absurd (none-some a e)
origins_once (g ∷ gs) zero zero a b h e f same = refl
origins_once (g ∷ gs) zero (suc k) a b h e f same =
    absurd (each_member (λ (other : Given). other.1 ≡ g.1 → ⊥) gs h.0 b (in_at gs k b f) (sym same ∙ ap (λ (x : Given). x.1) (sym (same_Some g a e))))
origins_once (g ∷ gs) (suc j) zero a b h e f same =
    absurd (each_member (λ (other : Given). other.1 ≡ g.1 → ⊥) gs h.0 a (in_at gs j a e) (same ∙ ap (λ (x : Given). x.1) (sym (same_Some g b f))))
origins_once (g ∷ gs) (suc j) (suc k) a b h e f same = ap suc (origins_once gs j k a b h.1 e f same)

apart_filter : (test : Given → Bool) (givens : List Given) → OriginsApart givens → OriginsApart (filter test givens)
apart_filter test [] h = tt
apart_filter test (g ∷ gs) h = by_head (test g) (apart_filter test gs h.1)
  where
    by_head : (b : Bool) → OriginsApart (filter test gs) → OriginsApart (cond b (g ∷ filter test gs) (filter test gs))
    by_head true more = (each_filter (λ (other : Given). other.1 ≡ g.1 → ⊥) test gs h.0, more)
    by_head false more = more

-- a tree that is a register
register_leaf : (t : Whole) → is_register t ≡ true → (o : Origin) × (t ≡ Leaf o)
register_leaf (Const b) e = cc
register_leaf (Leaf o) e = (o, refl)
register_leaf (One op a) e = cc
register_leaf (Two op a b) e = cc
register_leaf (Mux c a b) e = cc

leaf_same : (a b : Origin) (t : Whole) → t ≡ Leaf a → t ≡ Leaf b → a ≡ b
leaf_same a b t e f = cc

module _ (p : code.Parts) (h : HasParts p) where
  abbrev d : exec.Design
  d = processes_of (design_in p)

  -- ---- what a process that writes a register ends with

  record Written (q : Place) (b : Process) : Type 0 where
    here : place b.instance q.name ≡ q
    tree : Tree Name
    ends : ends_by p b (Next q.name) ≡ Some tree
    formed : WellFormed (λ r. is_signal_of (design_in p) r ≡ true) d.width (moved b.instance tree)

  written : (q : Place) (k : ℕ) (w : IsFirst d.processes q k) → is_signal_of (design_in p) q ≡ true → Written q w.process
  written q k w signal = by_tree (block_trees (width_in d w.process) w.process.body (Next q.name)) refl (checked.ends (Next q.name) known)
    where
      m : IsIn w.process d.processes × (writes_to q w.process ≡ true)
      m = find_member (writes_to q) d.processes w.process w.first

      here : place w.process.instance q.name ≡ q
      here = ap (λ i. place i q.name) (eqb-true w.process.instance q.instance (both_true (w.process.instance == q.instance) (body_assigns w.process.body (Next q.name)) m.1).0)

      checked : TreesChecked (signals_of d w.process) (width_in d w.process) w.process.body
      checked = process_checked d h.parts.told.order (accepted p h) w.process m.0

      known : signals_of d w.process q.name ≡ true
      known = subst (λ r. is_signal_of (design_in p) r ≡ true) (sym here) signal

      by_tree : (o : Option (Tree Name)) → block_trees (width_in d w.process) w.process.body (Next q.name) ≡ o → TreeFits (signals_of d w.process) (width_in d w.process) (width_in d w.process q.name) o → Written q w.process
      by_tree None e fits = absurd (checked.ends_next q.name e)
      by_tree (Some t) e fits = record { here = here; tree = t; ends = e; formed = (moved_fits d w.process t fits.0).0 }

  pub writer_ends : (nodes : List (Option NodeId)) (q : Place) (k : ℕ) → IsFirst d.processes q k → is_signal_of (design_in p) q ≡ true → AllHave p nodes → IsEnd p nodes k (Next q.name)
  writer_ends nodes q k w signal all =
      let t = written q k w signal in
      let key = key_at p h k w.process w.found in
      let ready : IsReadyBy p nodes (moved w.process.instance t.tree) = record {
        formed = t.formed;
        known = each_leaf (λ r s. all r s) (moved w.process.instance t.tree) (good_leaves (λ r. is_signal_of (design_in p) r ≡ true) d.width (moved w.process.instance t.tree) t.formed);
      } in
      record { key = key.0; found = key.1.0; process = w.process; is = key.1.1; tree = t.tree; ends = t.ends; ready = ready }

  pub writer_stands : (ns : List Shape) (q : Place) (k : ℕ) (id : NodeId) → IsFirst d.processes q k → is_signal_of (design_in p) q ≡ true → EndStands p ns k (Next q.name) id → StandsBy p ns (next_tree d q) id
  writer_stands ns q k id w signal stands =
      let t = written q k w signal in
      let key = key_at p h k w.process w.found in
      let is : next_tree d q ≡ moved w.process.instance t.tree = ap (next_by d q) w.first
      ∙ ap (λ o. moved w.process.instance (unwrap_or o (Leaf q.name))) t.ends in
      subst (λ u. StandsBy p ns u id) (sym is) (stands key.0 w.process t.tree key.1.0 key.1.1 t.ends)

  -- ---- lists of next values

  pub nexts_push : (ns : List Shape) (qs : List Place) (pairs : List (ℕ × ℕ)) (q : Place) (pair : ℕ × ℕ) → AreNexts p ns qs pairs → IsNextOf p ns q pair → AreNexts p ns (qs ++ q ∷ []) (pairs ++ pair ∷ [])
  nexts_push ns [] [] q pair are is = (is, tt)
  nexts_push ns [] (x ∷ pairs) q pair are is = absurd are
  nexts_push ns (r ∷ qs) [] q pair are is = absurd are
  nexts_push ns (r ∷ qs) (x ∷ pairs) q pair are is = (are.0, nexts_push ns qs pairs q pair are.1 is)

  pub nexts_kept : (old new : List Shape) (qs : List Place) (pairs : List (ℕ × ℕ)) → Keeps old new → AreNexts p old qs pairs → AreNexts p new qs pairs
  nexts_kept old new [] [] keeps are = tt
  nexts_kept old new [] (x ∷ pairs) keeps are = are
  nexts_kept old new (q ∷ qs) [] keeps are = are
  nexts_kept old new (q ∷ qs) (x ∷ pairs) keeps are = (
    record {
      register = stands_more old new x.0 (folded_of p (Leaf q)) keeps are.0.register;
      next = stands_more old new x.1 (folded_of p (next_tree d q)) keeps are.0.next;
    },
    nexts_kept old new qs pairs keeps are.1,
  )

  -- the next register of the list
  pub nexts_more : (old new : List Shape) (registers : List code_register.Register) (i : ℕ) (r : code_register.Register) (nexts after : List (NodeId × NodeId)) (next : NodeId × NodeId) → i < length registers → r ≡ get_or registers i r → Keeps old new →
      AreNexts p old (map register_as (take i registers)) (nexts_of nexts) → NextStands p new (register_as r) next → after ≡ nexts ++ next ∷ [] → AreNexts p new (map register_as (take (i + 1) registers)) (nexts_of after)
  nexts_more old new registers i r nexts after next below at keeps are stands more =
      subst (λ qs. AreNexts p new qs (nexts_of after)) (sym (ap (map register_as) (more_of registers i r below at) ∙ map_push register_as (take i registers) r))
      (subst (AreNexts p new (map register_as (take i registers) ++ register_as r ∷ [])) (sym (ap nexts_of more ∙ map_push (λ (n : NodeId × NodeId). (n.0.0, n.1.0)) nexts next))
      (nexts_push new (map register_as (take i registers)) (nexts_of nexts) (register_as r) (next.0.0, next.1.0) (nexts_kept old new (map register_as (take i registers)) (nexts_of nexts) keeps are) stands))

  next_at : (ns : List Shape) (qs : List Place) (pairs : List (ℕ × ℕ)) (k : ℕ) (pair : ℕ × ℕ) → AreNexts p ns qs pairs → slice_get pairs k ≡ Some pair → (q : Place) × ((slice_get qs k ≡ Some q) × IsNextOf p ns q pair)
  next_at ns qs [] k pair are e = absurd (none-some pair e)
  next_at ns [] (x ∷ pairs) k pair are e = absurd are
  next_at ns (q ∷ qs) (x ∷ pairs) zero pair are e = (q, (refl, subst (IsNextOf p ns q) (same_Some x pair e) are.0))
  next_at ns (q ∷ qs) (x ∷ pairs) (suc k) pair are e = next_at ns qs pairs k pair are.1 e

  next_for : (ns : List Shape) (qs : List Place) (pairs : List (ℕ × ℕ)) (k : ℕ) (q : Place) → AreNexts p ns qs pairs → slice_get qs k ≡ Some q → (pair : ℕ × ℕ) × ((slice_get pairs k ≡ Some pair) × IsNextOf p ns q pair)
  next_for ns [] pairs k q are e = absurd (none-some q e)
  next_for ns (r ∷ qs) [] k q are e = absurd are
  next_for ns (r ∷ qs) (x ∷ pairs) zero q are e = (x, (refl, subst (λ s. IsNextOf p ns s x) (same_Some r q e) are.0))
  next_for ns (r ∷ qs) (x ∷ pairs) (suc k) q are e = next_for ns qs pairs k q are.1 e

  -- ---- what is given

  given_leaf : (given : Given) → IsIn given d.givens → folded_of p (Leaf given.0) ≡ Leaf given.1
  given_leaf given m = each_member (λ (g : Given). folded_of p (Leaf g.0) ≡ Leaf g.1) d.givens (by_node p h).given given m

  given_fits : (given : Given) → IsIn given d.givens → GivenFits d given
  given_fits given m = each_member (GivenFits d) d.givens (accepted p h).givens given m

  abbrev registers : List Given
  registers = registers_in (design_in p)

  -- registers are signals
  pub registers_signal : EachOf (λ q. is_signal_of (design_in p) q ≡ true) (registers_of (design_in p))
  registers_signal = each_from (λ q. is_signal_of (design_in p) q ≡ true) (registers_of (design_in p)) (λ q m. signal q (in_index (registers_of (design_in p)) q m))
    where
      signal : (q : Place) → (k : ℕ) × (slice_get (registers_of (design_in p)) k ≡ Some q) → is_signal_of (design_in p) q ≡ true
      signal q at =
          let m = get_mapped (λ (g : Given). g.0) registers at.0 q (ap (λ qs. slice_get qs at.0) (registers_given (design_in p)) ∙ at.1) in
          let fits = given_fits m.from (filter_in gives_register d.givens m.from (in_at registers at.0 m.from m.found)).0 in
          subst (λ r. is_signal_of (design_in p) r ≡ true) m.is fits.signal

  module _ (ns : List Shape) (pairs : List (ℕ × ℕ)) (are : AreNexts p ns (registers_of (design_in p)) pairs) where
    -- the register of a pair
    record OfRegister (k : ℕ) (pair : ℕ × ℕ) : Type 0 where
      given : Given
      found : slice_get registers k ≡ Some given
      member : IsIn given d.givens
      test : gives_register given ≡ true
      register : Stands ns pair.0 (Leaf given.1)
      next : Stands ns pair.1 (folded_of p (next_tree d given.0))

    of_register : (k : ℕ) (pair : ℕ × ℕ) → slice_get pairs k ≡ Some pair → OfRegister k pair
    of_register k pair e =
        let a = next_at ns (registers_of (design_in p)) pairs k pair are e in
        let m = get_mapped (λ (g : Given). g.0) registers k a.0 (ap (λ qs. slice_get qs k) (registers_given (design_in p)) ∙ a.1.0) in
        let among = filter_in gives_register d.givens m.from (in_at registers k m.from m.found) in
        record {
          given = m.from;
          found = m.found;
          member = among.0;
          test = among.1;
          register = subst (Stands ns pair.0) (ap (λ q. folded_of p (Leaf q)) (sym m.is) ∙ given_leaf m.from among.0) a.1.1.register;
          next = subst (λ q. Stands ns pair.1 (folded_of p (next_tree d q))) (sym m.is) a.1.1.next;
        }

    -- the pair of a register
    record OfPair (given : Given) : Type 0 where
      place : ℕ
      pair : ℕ × ℕ
      found : slice_get pairs place ≡ Some pair
      register : Stands ns pair.0 (Leaf given.1)
      next : Stands ns pair.1 (folded_of p (next_tree d given.0))

    of_pair : (given : Given) → IsIn given d.givens → gives_register given ≡ true → OfPair given
    of_pair given m test =
        let k = in_index registers given (filter_member gives_register d.givens given m test) in
        let at : slice_get (registers_of (design_in p)) k.0 ≡ Some given.0 = ap (λ qs. slice_get qs k.0) (sym (registers_given (design_in p))) ∙ get_map (λ (g : Given). g.0) registers k.0 given k.1 in
        let n = next_for ns (registers_of (design_in p)) pairs k.0 given.0 are at in
        record {
          place = k.0;
          pair = n.0;
          found = n.1.0;
          register = subst (Stands ns n.0.0) (given_leaf given m) n.1.1.register;
          next = n.1.1.next;
        }

    pub all_next : AllNext p ns pairs
    all_next = each_from (λ (given : Given). NextTold p ns pairs given.0 given.1) d.givens (λ given m. by_origin given.0 given.1 m)
      where
        by_origin : (q : Place) (o : Origin) → IsIn (q, o) d.givens → NextTold p ns pairs q o
        by_origin q (Input name width) m = tt
        by_origin q (Register instance name start) m =
            let n = of_pair (q, Register instance name start) m refl in
            record { id = n.pair.0; next = n.pair.1; among = in_at pairs n.place n.pair n.found; register = n.register; stands = n.next }

    is_next : (k : ℕ) (pair : ℕ × ℕ) → slice_get pairs k ≡ Some pair → IsNext ns pair
    is_next k pair e =
        let r = of_register k pair e in
        let fits = given_fits r.given r.member in
        let next = next_fits d h.parts.told.order (accepted p h) r.given.0 fits.signal in
        let wide : width_at ns pair.1 ≡ d.width r.given.0 = ap tree_width r.next.tree ∙ ((by_node p h).fits (next_tree d r.given.0) next.0).1 ∙ next.1 in
        record {
          within = r.register.within;
          register = subst (λ t. is_register t ≡ true) (sym r.register.tree) r.test;
          next = r.next.within;
          width = wide ∙ sym (ap tree_width r.register.tree ∙ fits.width);
        }

    once : (j k i m n : ℕ) → slice_get pairs j ≡ Some (i, m) → slice_get pairs k ≡ Some (i, n) → j ≡ k
    once j k i m n e f =
        let a = of_register j (i, m) e in
        let b = of_register k (i, n) f in
        origins_once registers j k a.given b.given (apart_filter gives_register d.givens (accepted p h).apart) a.found b.found (leaf_same a.given.1 b.given.1 (tree_of ns i) a.register.tree b.register.tree)

    -- a node that is a register is that of a register of the design
    record IsGivenBy (o : Origin) : Type 0 where
      given : Given
      member : IsIn given d.givens
      is : given.1 ≡ o

    given_by : (o : Origin) → IsIn o (map (λ (g : Given). g.1) d.givens) → IsGivenBy o
    given_by o m =
        let k = in_index (map (λ (g : Given). g.1) d.givens) o m in
        let g = get_mapped (λ (g : Given). g.1) d.givens k.0 o k.1 in
        record { given = g.from; member = in_at d.givens k.0 g.from g.found; is = g.is }

    each : AreShared ns → AllOverGivens d ns → (i : ℕ) → i < length ns → is_register (tree_of ns i) ≡ true → (k : ℕ) × ((next : ℕ) × (slice_get pairs k ≡ Some (i, next)))
    each shared over i within test =
        let o = register_leaf (tree_of ns i) test in
        let g = given_by o.0 (subst (OverGivens d) o.1 (over i within)) in
        let is_one : gives_register g.given ≡ true = subst (λ t. is_register t ≡ true) (o.1 ∙ ap Leaf (sym g.is)) test in
        let n = of_pair g.given g.member is_one in
        let same : n.pair.0 ≡ i = one_id shared n.pair.0 i n.register.within within (n.register.tree ∙ ap Leaf g.is ∙ sym o.1) in
        (n.place, (n.pair.1, n.found ∙ ap (λ (j : ℕ). Some (j, n.pair.1)) same))
      where
        one_id : AreShared ns → (i j : ℕ) → i < length ns → j < length ns → tree_of ns i ≡ tree_of ns j → i ≡ j
        one_id shared i j a b e = shared.trees.one_id.one i j (omega (arith, trees_length ns)) (omega (arith, trees_length ns)) e

    pub nexts_fit : AreShared ns → AllOverGivens d ns → NextsFit ns pairs
    nexts_fit shared over = record { registers = is_next; each = each shared over; once = once }
