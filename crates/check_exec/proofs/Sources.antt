-- Each signal of an accepted design has one source.
use Rattle.std.proofs.Common.{◌≡◌, ℕ, zero, suc, ◌+◌, ◌==◌, Bool, true, false, true≢false, ◌&&◌, bytes_eq, List, [], ◌∷◌, Option, Some, None, option_map, unwrap_or, ◌⊎◌, inl, inr, refl, sym, ap, ◌∙◌, subst, if◌then◌else◌, arith, eq-eqb, ne_eqb}
use Rattle.std.specs.Prelude.{slice_get, count_by}
use Rattle.std.specs.List.{flat_map, list_any}
use Rattle.std.proofs.lemmas.Bool.{and_left, and_right, false_from_ne_true}
use Rattle.tree_core.specs.Tree.{Leaf, Input, Register}
use Rattle.exec_core.specs.Block.{Name, own}
use Rattle.list_core.specs.Lists.{IsIn}
use Rattle.exec_core.specs.Whole.{Place}
use Rattle.exec_core.specs.Design.{place, same_place, links_to, assigns_to, gives_to}
use Rattle.exec_core.specs.Accepted.{source_count}
use Rattle.list_core.proofs.Lists.{each_from}
use Rattle.exec_core.proofs.Sources.{same_place-refl}
use Rattle.design_core.specs.declared.design.Instance.{Instance}
use Rattle.design_core.specs.declared.variant.Signal.{Signal}
use Rattle.design_core.specs.declared.variant.Kind.{Kind}
use Rattle.design_core.specs.declared.variant.Kind.TheVariants as kind
use Rattle.design_core.specs.Design.{Block, Variant, Design}
use Rattle.design_exec.specs.Processes as processes
use Rattle.design_exec.specs.Processes.{Numbered, Link, value_of, is_signal_of, signals_in, blocks_in, process, processes_at, child_at, none_or, output_link, given_by, givens_at, instances_of, processes_of}
use Rattle.names.specs.Known.{none}
use Rattle.check_core.specs.Names.{is_input, is_driven}
use Rattle.check_exec.specs.Premises.{IsSound, OneSource}
use Rattle.check_exec.proofs.Facts.{any_in, same_name}
use Rattle.check_exec.proofs.Instances.{IsClean, Stands, clean, signals_are}
use Rattle.check_exec.proofs.Names.{signals_differ}
use Rattle.check_exec.proofs.Children.{child_stands}
use Rattle.check_exec.proofs.Links.{output_is}
use Rattle.check_exec.proofs.Counting.{count_take, count_none, count_same, count_map, flat_none, flat_both, only_at, signal_only}
use Rattle.check_exec.proofs.Drives.{one_owner, no_owner}
use Rattle.check_exec.proofs.Parents.{IsBelow, is_below}
use Rattle.check_exec.proofs.Connections.{conns_at, no_input, no_top, one_input}
use Rattle.design_core.specs.Widths.{bits}

-- ---- other places

other_instance : (j i : ℕ) (y x : Name) → (j ≡ i → ⊥) → same_place (place j y) (place i x) ≡ false
other_instance j i y x n = and_left (j == i) (bytes_eq y x) (ne_eqb j i n)

other_name : (j i : ℕ) (y x : Name) → (y ≡ x → ⊥) → same_place (place j y) (place i x) ≡ false
other_name j i y x n = and_right (j == i) (bytes_eq y x) (false_from_ne_true (bytes_eq y x) (λ e. n (same_name y x e)))

out_none : (d : Design) (p : Place) (j : ℕ) (y : Name) (k : Kind) → same_place (place j y) p ≡ false → count_by (links_to p) (output_link d j y k) ≡ 0
out_none d p j y kind.Input e = refl
out_none d p j y kind.Output e = refl
out_none d p j y kind.Wire e = refl
out_none d p j y (kind.Reg start) e = refl
out_none d p j y (kind.ChildOut k q) e = by_child (child_at d j k)
  where
    by_child : (o : Option ℕ) → count_by (links_to p) (none_or (λ m. (place j y, Leaf (place m q)) ∷ []) o) ≡ 0
    by_child None = refl
    by_child (Some m) = count_none (links_to p) ((place j y, Leaf (place m q)) ∷ []) (e, tt)

given_none : (p : Place) (q : Numbered) (y : Name) (w : ℕ) (k : Kind) → same_place (place q.0 y) p ≡ false → count_by (gives_to p) (given_by q y w k) ≡ 0
given_none p q y w kind.Input e = by_top (q.0 == 0)
  where
    by_top : (b : Bool) → count_by (gives_to p) (if b then (place q.0 y, Input y w) ∷ [] else []) ≡ 0
    by_top true = count_none (gives_to p) ((place q.0 y, Input y w) ∷ []) (e, tt)
    by_top false = refl
given_none p q y w kind.Output e = refl
given_none p q y w kind.Wire e = refl
given_none p q y w (kind.Reg start) e = count_none (gives_to p) ((place q.0 y, Register q.1.path y (value_of start)) ∷ []) (e, tt)
given_none p q y w (kind.ChildOut k port) e = refl

-- ---- the sources of one signal

abbrev outs_at : Design → Numbered → List Link
outs_at d q = flat_map (λ (t : Signal). output_link d q.0 t.name t.kind) (signals_in d q.1.variant)

no_more : (n : ℕ) → 0 + n ≡ n
no_more n = omega arith

module _ (d : Design) (sound : IsSound d) (i : ℕ) (r : Instance) (v : Variant) (stands : Stands d i r v) (s : Signal) (at : IsIn s v.signals) where
  abbrev Here : Place
  Here = place i s.name

  fine : IsClean d.variants v
  fine = clean d sound.accepted i r v stands

  signals_here : signals_in d r.variant ≡ v.signals
  signals_here = ap (λ o. unwrap_or (option_map (λ (w : Variant). w.signals) o) []) stands.variant

  -- outputs of children, and what is given: those of the signal alone
  outs_are : count_by (links_to Here) (flat_map (outs_at d) (instances_of d)) ≡ count_by (links_to Here) (output_link d i s.name s.kind)
  outs_are =
      only_at (links_to Here) (outs_at d) d.instances i r stands.instance (λ j q there n.
      flat_none (links_to Here) (λ (t : Signal). output_link d j t.name t.kind) (signals_in d q.variant)
      (each_from (λ t. count_by (links_to Here) (output_link d j t.name t.kind) ≡ 0) (signals_in d q.variant) (λ t inside. out_none d Here j t.name t.kind (other_instance j i t.name s.name n))))
      ∙ ap (λ l. count_by (links_to Here) (flat_map (λ (t : Signal). output_link d i t.name t.kind) l)) signals_here
      ∙ signal_only (links_to Here) (λ (t : Signal). output_link d i t.name t.kind) none v.signals s (signals_differ v fine.apart) at
      (λ t inside n. out_none d Here i t.name t.kind (other_name i i t.name s.name n))

  givens_are : count_by (gives_to Here) (flat_map (givens_at d) (instances_of d)) ≡ count_by (gives_to Here) (given_by (i, r) s.name (bits s.width) s.kind)
  givens_are =
      only_at (gives_to Here) (givens_at d) d.instances i r stands.instance (λ j q there n.
      flat_none (gives_to Here) (λ (t : Signal). given_by (j, q) t.name (bits t.width) t.kind) (signals_in d q.variant)
      (each_from (λ t. count_by (gives_to Here) (given_by (j, q) t.name (bits t.width) t.kind) ≡ 0) (signals_in d q.variant)
      (λ t inside. given_none Here (j, q) t.name (bits t.width) t.kind (other_instance j i t.name s.name n))))
      ∙ ap (λ l. count_by (gives_to Here) (flat_map (λ (t : Signal). given_by (i, r) t.name (bits t.width) t.kind) l)) signals_here
      ∙ signal_only (gives_to Here) (λ (t : Signal). given_by (i, r) t.name (bits t.width) t.kind) none v.signals s (signals_differ v fine.apart) at
      (λ t inside n. given_none Here (i, r) t.name (bits t.width) t.kind (other_name i i t.name s.name n))

  -- blocks: those of the instance
  abbrev Owner : Block → Bool
  Owner b = own (processes.body_of b.clocked b.body) s.name

  blocks_are : count_by (assigns_to Here) (flat_map (processes_at d) (instances_of d)) ≡ count_by Owner v.blocks
  blocks_are =
      only_at (assigns_to Here) (processes_at d) d.instances i r stands.instance (λ j q there n.
      count_map (assigns_to Here) (process j (signals_in d q.variant)) (blocks_in d q.variant)
      ∙ count_none (λ b. assigns_to Here (process j (signals_in d q.variant) b)) (blocks_in d q.variant)
      (each_from (λ b. assigns_to Here (process j (signals_in d q.variant) b) ≡ false) (blocks_in d q.variant) (λ b inside. and_left (j == i) (Owner b) (ne_eqb j i n))))
      ∙ count_map (assigns_to Here) (process i (signals_in d r.variant)) (blocks_in d r.variant)
      ∙ ap (λ l. count_by (λ b. assigns_to Here (process i (signals_in d r.variant) b)) l) (ap (λ o. unwrap_or (option_map (λ (w : Variant). w.blocks) o) []) stands.variant)
      ∙ count_same (λ b. assigns_to Here (process i (signals_in d r.variant) b)) Owner v.blocks (λ b inside. ap (λ c. c && Owner b) (eq-eqb i i refl))

  abbrev conns : ℕ
  conns = count_by (links_to Here) (flat_map (conns_at d) (instances_of d))

  abbrev outs : Kind → ℕ
  outs k = count_by (links_to Here) (output_link d i s.name k)

  abbrev blocks : ℕ
  blocks = count_by Owner v.blocks

  abbrev givens : Kind → ℕ
  givens k = count_by (gives_to Here) (given_by (i, r) s.name (bits s.width) k)

  all_sources : source_count (processes_of d) Here ≡ conns + outs s.kind + (blocks + givens s.kind)
  all_sources =
      ap (λ n. n + (count_by (assigns_to Here) (processes_of d).processes + count_by (gives_to Here) (processes_of d).givens)) (flat_both (links_to Here) (conns_at d) (outs_at d) (instances_of d) ∙ ap (λ n. conns + n) outs_are)
      ∙ ap (λ n. conns + outs s.kind + (n + count_by (gives_to Here) (processes_of d).givens)) blocks_are
      ∙ ap (λ n. conns + outs s.kind + (blocks + n)) givens_are

  -- ---- by its kind

  one_of : (k : Kind) → s.kind ≡ k → conns + outs k + (blocks + givens k) ≡ 1 → source_count (processes_of d) Here ≡ 1
  one_of k e h = all_sources ∙ ap (λ z. conns + outs z + (blocks + givens z)) e ∙ h

  no_block : (k : Kind) → s.kind ≡ k → is_driven k ≡ false → blocks ≡ 0
  no_block k e h = no_owner d.variants v fine s at (ap is_driven e ∙ h)

  no_conn : (k : Kind) → s.kind ≡ k → is_input k ≡ false → conns ≡ 0
  no_conn k e h = no_input d sound i r v stands s at (ap is_input e ∙ h)

  itself : same_place Here Here ≡ true
  itself = same_place-refl Here

  driven_once : (k : Kind) → s.kind ≡ k → is_driven k ≡ true → is_input k ≡ false → outs k ≡ 0 → givens k ≡ 0 → source_count (processes_of d) Here ≡ 1
  driven_once k e driven other none_out none_given =
      one_of k e (omega (arith, no_conn k e other, none_out, one_owner d.variants v fine s at (ap is_driven e ∙ driven), none_given))

  register_once : (start : _) → s.kind ≡ kind.Reg start → source_count (processes_of d) Here ≡ 1
  register_once start e =
      let given : givens (kind.Reg start) ≡ 1 = count_take (gives_to Here) (Here, Register r.path s.name (value_of start)) [] itself in
      one_of (kind.Reg start) e (omega (arith, no_conn (kind.Reg start) e refl, no_block (kind.Reg start) e refl, given))

  output_once : (k : ℕ) (q : Name) → s.kind ≡ kind.ChildOut k q → source_count (processes_of d) Here ≡ 1
  output_once k q e =
      let out = output_is d sound.kept i r v stands s at k q e in
      let h = child_stands d sound.kept i r v stands k out.child out.at in
      let linked : outs (kind.ChildOut k q) ≡ 1 =
      ap (λ o. count_by (links_to Here) (none_or (λ m. (Here, Leaf (place m q)) ∷ []) o)) h.is ∙ count_take (links_to Here) (Here, Leaf (place h.number q)) [] itself in
      one_of (kind.ChildOut k q) e (omega (arith, no_conn (kind.ChildOut k q) e refl, no_block (kind.ChildOut k q) e refl, linked))

  top_once : s.kind ≡ kind.Input → i ≡ 0 → source_count (processes_of d) Here ≡ 1
  top_once e top =
      let none_linked : conns ≡ 0 = subst (λ n. count_by (links_to (place n s.name)) (flat_map (conns_at d) (instances_of d)) ≡ 0) (sym top) (no_top d sound s.name) in
      let given : givens kind.Input ≡ 1 =
      ap (λ b. count_by (gives_to Here) (if b then (Here, Input s.name (bits s.width)) ∷ [] else [])) (eq-eqb i 0 top)
      ∙ count_take (gives_to Here) (Here, Input s.name (bits s.width)) [] itself in
      one_of kind.Input e (omega (arith, none_linked, no_block kind.Input e refl, given))

  input_once : s.kind ≡ kind.Input → (m : ℕ) → i ≡ m + 1 → source_count (processes_of d) Here ≡ 1
  input_once e m below =
      let parent : IsBelow d i r = subst (λ n. IsBelow d n r) (sym below) (is_below d sound.kept m r (subst (λ n. slice_get d.instances n ≡ Some r) below stands.instance)) in
      let linked : conns ≡ 1 = one_input d sound i r v stands parent s at (ap is_input e) in
      let given : givens kind.Input ≡ 0 =
      ap (λ b. count_by (gives_to Here) (if b then (Here, Input s.name (bits s.width)) ∷ [] else [])) (ne_eqb i 0 (λ top. absurd (omega (arith, top, below)))) in
      one_of kind.Input e (omega (arith, linked, no_block kind.Input e refl, given))

  zero_or : (n : ℕ) → (n ≡ 0) ⊎ ((m : ℕ) × (n ≡ m + 1))
  zero_or zero = inl refl
  zero_or (suc m) = inr (m, omega arith)

  by_kind : (k : Kind) → s.kind ≡ k → source_count (processes_of d) Here ≡ 1
  by_kind kind.Input e = elim (zero_or i) [ inl top ↦ top_once e top | inr below ↦ input_once e below.0 below.1 ]
  by_kind kind.Output e = driven_once kind.Output e refl refl refl refl
  by_kind kind.Wire e = driven_once kind.Wire e refl refl refl refl
  by_kind (kind.Reg start) e = register_once start e
  by_kind (kind.ChildOut k q) e = output_once k q e

  pub once : source_count (processes_of d) Here ≡ 1
  once = by_kind s.kind refl

-- ---- all signals

-- a signal is one of the variant of its instance
record IsOf (d : Design) (i : ℕ) (x : Name) : Type 0 where
  instance : Instance
  variant : Variant
  stands : Stands d i instance variant
  signal : Signal
  inside : IsIn signal variant.signals
  named : signal.name ≡ x

is_of : (d : Design) (i : ℕ) (x : Name) → is_signal_of d (place i x) ≡ true → IsOf d i x
is_of d i x e = by_instance (slice_get d.instances i) refl
  where
    by_variant : (r : Instance) → slice_get d.instances i ≡ Some r → (o : Option Variant) → slice_get d.variants r.variant ≡ o → IsOf d i x
    by_variant r at None f =
        absurd (true≢false (sym e ∙ ap (λ o. list_any (λ (s : Signal). bytes_eq s.name x) (unwrap_or (option_map (λ (q : Instance). signals_in d q.variant) o) [])) at
        ∙ ap (λ o. list_any (λ (s : Signal). bytes_eq s.name x) (unwrap_or (option_map (λ (w : Variant). w.signals) o) [])) f))
    by_variant r at (Some v) f =
        let stands : Stands d i r v = record { instance = at; variant = f } in
        let found = any_in (λ (s : Signal). bytes_eq s.name x) v.signals (sym (ap (list_any (λ (s : Signal). bytes_eq s.name x)) (signals_are d i r v stands)) ∙ e) in
        record { instance = r; variant = v; stands = stands; signal = found.0; inside = found.1.0; named = same_name found.0.name x found.1.1 }

    by_instance : (o : Option Instance) → slice_get d.instances i ≡ o → IsOf d i x
    by_instance None f =
        absurd (true≢false (sym e ∙ ap (λ o. list_any (λ (s : Signal). bytes_eq s.name x) (unwrap_or (option_map (λ (q : Instance). signals_in d q.variant) o) [])) f))
    by_instance (Some r) f = by_variant r f (slice_get d.variants r.variant) refl

pub one_source_each : OneSource
one_source_each d sound p e =
    let h = is_of d p.instance p.name e in
    subst (λ x. source_count (processes_of d) (place p.instance x) ≡ 1) h.named (once d sound p.instance h.instance h.variant h.stands h.signal h.inside)
