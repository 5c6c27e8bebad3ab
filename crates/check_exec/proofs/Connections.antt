-- How often the input of a child is connected.
use Rattle.std.proofs.Common.{◌≡◌, ℕ, ◌+◌, ◌==◌, Bool, true, false, true≢false, ◌||◌, ◌&&◌, not, bytes_eq, List, [], ◌∷◌, map, Option, Some, None, is_some, option_map, unwrap_or, ◌⊎◌, inl, inr, refl, sym, ap, ◌∙◌, subst, arith, eqb-true, eq-eqb}
use Rattle.std.specs.Prelude.{slice_get, count_by}
use Rattle.std.specs.List.{enumerate_from, flat_map}
use Rattle.std.proofs.lemmas.Bool.{cases_Bool, false_from_ne_true}
use Rattle.std.proofs.lemmas.Option.{same_Some}
use Rattle.tree_core.proofs.Same.{both_true}
use Rattle.exec_core.specs.Block.{Name}
use Rattle.list_core.specs.Lists.{EachOf, IsIn}
use Rattle.exec_core.specs.Design.{place, links_to}
use Rattle.list_core.proofs.Lists.{each_member, each_from}
use Rattle.design_core.specs.declared.design.Instance.{Instance}
use Rattle.design_core.specs.declared.variant.Signal.{Signal}
use Rattle.design_core.specs.Design.{Conn, Child, Variant, Design}
use Rattle.design_exec.specs.Processes.{Numbered, Link, children_in, none_or, conn_link, child_links, instances_of}
use Rattle.names.specs.Known.{none}
use Rattle.check_core.specs.Faults.{first_of}
use Rattle.check_core.specs.Names.{named, is_input}
use Rattle.design_core.specs.WellFormed as formed
use Rattle.check_core.specs.Ports.{connected, unbound_at, unbound_in_child}
use Rattle.check_core.specs.Drivers.{Lines, undriven_yet, driven_also, second_drive, conn_drive, connected_twice, twice_in_child}
use Rattle.check_exec.specs.Premises.{IsSound}
use Rattle.check_exec.proofs.Facts.{eq_turned, same_name, in_at, from_zero, none_found, earlier_left, earlier_right}
use Rattle.check_exec.proofs.Instances.{IsClean, Stands, clean}
use Rattle.check_exec.proofs.Names.{signals_differ}
use Rattle.check_exec.proofs.Widths.{is_known}
use Rattle.check_exec.proofs.Targets.{named_in, one_signal}
use Rattle.check_exec.proofs.Children.{HasInstance, child_stands, children_are}
use Rattle.check_exec.proofs.Links.{conn_passes}
use Rattle.check_exec.proofs.Counting.{count_skip, count_take, count_none, count_same, count_map, flat_none, only_at}
use Rattle.check_exec.proofs.Drives.{stays_driven, now_driven, not_driven}
use Rattle.check_exec.proofs.Parents.{once, IsBelow}

-- the links of the children of an instance
abbrev pub conns_at : Design → Numbered → List Link
conns_at d q = flat_map (child_links d q.0) (enumerate_from 0 (children_in d q.1.variant))

-- of one number is one instance, of one variant
same_instance : (d : Design) (j : ℕ) (q : Instance) (w : Variant) (i : ℕ) (r : Instance) (v : Variant) → Stands d j q w → Stands d i r v → j ≡ i → q ≡ r
same_instance d j q w i r v its stands e = same_Some q r (sym its.instance ∙ ap (slice_get d.instances) e ∙ stands.instance)

same_variant : (d : Design) (j : ℕ) (q : Instance) (w : Variant) (i : ℕ) (r : Instance) (v : Variant) → Stands d j q w → Stands d i r v → j ≡ i → w ≡ v
same_variant d j q w i r v its stands e =
    same_Some w v (sym its.variant ∙ ap (λ (z : Instance). slice_get d.variants z.variant) (same_instance d j q w i r v its stands e) ∙ stands.variant)

-- ---- connections of one child

abbrev To : Name → Conn → Bool
To x c = bytes_eq x c.port

no_second : (before : Lines) (conns : List Conn) (x : Name) → is_some (before x) ≡ true → connected_twice before conns ≡ None → EachOf (λ c. To x c ≡ false) conns
no_second before [] x s e = tt
no_second before (c ∷ conns) x s e = (
  not_driven before (conn_drive c) (earlier_left (second_drive before (conn_drive c)) _ e) x s,
  no_second (driven_also before (conn_drive c)) conns x (stays_driven before (conn_drive c) x s) (earlier_right (second_drive before (conn_drive c)) _ e),
)

one_conn : (before : Lines) (conns : List Conn) (x : Name) → connected_twice before conns ≡ None → connected conns x ≡ true → count_by (To x) conns ≡ 1
one_conn before [] x e a = absurd (true≢false (sym a))
one_conn before (c ∷ conns) x e a = by_port (cases_Bool (To x c)) (λ more. one_conn (driven_also before (conn_drive c)) conns x (earlier_right (second_drive before (conn_drive c)) _ e) more)
  where
    by_port : (To x c ≡ true) ⊎ (To x c ≡ false) → (connected conns x ≡ true → count_by (To x) conns ≡ 1) → count_by (To x) (c ∷ conns) ≡ 1
    by_port (inl h) rest =
        count_take (To x) c conns h
        ∙ ap (λ n. 1 + n) (count_none (To x) conns (no_second (driven_also before (conn_drive c)) conns x (now_driven before (conn_drive c) x h) (earlier_right (second_drive before (conn_drive c)) _ e)))
    by_port (inr h) rest = count_skip (To x) c conns h ∙ rest (sym (ap (λ b. b || connected conns x) h) ∙ a)

-- an input of a child is connected once
pub connected_once : (variants : List Variant) (v : Variant) → IsClean variants v → (c : Child) → IsIn c v.children → (s : Signal) → IsIn s (formed.signals_at c.variant variants) → is_input s.kind ≡ true → count_by (To s.name) c.conns ≡ 1
connected_once variants v clean c at s here input =
    let bound =
    each_member (λ t. unbound_at c.line c.name (connected c.conns) t ≡ None) (formed.signals_at c.variant variants)
    (none_found (unbound_at c.line c.name (connected c.conns)) (formed.signals_at c.variant variants)
    (each_member (λ b. unbound_in_child variants b ≡ None) v.children (none_found (unbound_in_child variants) v.children clean.bound) c at)) s here in
    let known = is_known (not (is_input s.kind) || connected c.conns s.name) _ bound in
    one_conn undriven_yet c.conns s.name
    (each_member (λ b. twice_in_child b ≡ None) v.children (none_found twice_in_child v.children (earlier_left (first_of twice_in_child v.children) _ clean.one_driver)) c at)
    (sym (ap (λ b. not b || connected c.conns s.name) input) ∙ known)

-- ---- links to a place

module _ (d : Design) (sound : IsSound d) (i : ℕ) (x : Name) where
  abbrev Here : Link → Bool
  Here = links_to (place i x)

  -- a child whose links are none of those looked for
  elsewhere : (j k : ℕ) (c : Child) (h : HasInstance d j k c) → ((y : Conn) → IsIn y c.conns → h.number ≡ i → y.port ≡ x → ⊥) → count_by Here (child_links d j (k, c)) ≡ 0
  elsewhere j k c h never =
      subst (λ o. count_by Here (none_or (λ m. map (conn_link j m) c.conns) o) ≡ 0) (sym h.is)
      (count_map Here (conn_link j h.number) c.conns
      ∙ count_none (λ y. Here (conn_link j h.number y)) c.conns (each_from (λ y. Here (conn_link j h.number y) ≡ false) c.conns (λ y at.
      false_from_ne_true (Here (conn_link j h.number y)) (λ e.
      let both = both_true (h.number == i) (bytes_eq y.port x) e in
      never y at (eqb-true h.number i both.0) (same_name y.port x both.1)))))

  -- an instance, none of whose children has such
  none_at : (j : ℕ) (q : Instance) → slice_get d.instances j ≡ Some q
      → ((w : Variant) → Stands d j q w → (k : ℕ) (c : Child) → slice_get w.children k ≡ Some c → (h : HasInstance d j k c) → (y : Conn) → IsIn y c.conns → h.number ≡ i → y.port ≡ x → ⊥)
      → count_by Here (conns_at d (j, q)) ≡ 0
  none_at j q at never = by_variant (slice_get d.variants q.variant) refl
    where
      by_variant : (o : Option Variant) → slice_get d.variants q.variant ≡ o → count_by Here (conns_at d (j, q)) ≡ 0
      by_variant None e = subst (λ o. count_by Here (flat_map (child_links d j) (enumerate_from 0 (unwrap_or (option_map (λ (w : Variant). w.children) o) []))) ≡ 0) (sym e) refl
      by_variant (Some w) e =
          let stands : Stands d j q w = record { instance = at; variant = e } in
          subst (λ l. count_by Here (flat_map (child_links d j) (enumerate_from 0 l)) ≡ 0) (sym (children_are d j q w stands))
          (flat_none Here (child_links d j) (enumerate_from 0 w.children) (from_zero (λ p. count_by Here (child_links d j p) ≡ 0) w.children (λ k c here.
          let h = child_stands d sound.kept j q w stands k c here in elsewhere j k c h (never w stands k c here h))))

  -- no connection, where there is none to it in any instance
  pub no_conns : ((j : ℕ) (q : Instance) (w : Variant) → Stands d j q w → (k : ℕ) (c : Child) → slice_get w.children k ≡ Some c → (h : HasInstance d j k c) → (y : Conn) → IsIn y c.conns → h.number ≡ i → y.port ≡ x → ⊥)
      → count_by Here (flat_map (conns_at d) (instances_of d)) ≡ 0
  no_conns never = flat_none Here (conns_at d) (instances_of d) (from_zero (λ q. count_by Here (conns_at d q) ≡ 0) d.instances (λ j q at. none_at j q at (never j q)))

-- a signal that is no input is not connected
pub no_input : (d : Design) (sound : IsSound d) (i : ℕ) (r : Instance) (v : Variant) → Stands d i r v → (s : Signal) → IsIn s v.signals → is_input s.kind ≡ false → count_by (links_to (place i s.name)) (flat_map (conns_at d) (instances_of d)) ≡ 0
no_input d sound i r v stands s at other = no_conns d sound i s.name none_there
  where
    none_there : (j : ℕ) (q : Instance) (w : Variant) → Stands d j q w → (k : ℕ) (c : Child) → slice_get w.children k ≡ Some c → (h : HasInstance d j k c) → (y : Conn) → IsIn y c.conns → h.number ≡ i → y.port ≡ s.name → ⊥
    none_there j q w its k c here h y inside number port =
        let conn = conn_passes d.variants w (clean d sound.accepted j q w its) c (in_at w.children k c here) y inside in
        let same : h.variant ≡ v = same_variant d h.number h.instance h.variant i r v h.stands stands number in
        let input : named is_input v.signals s.name ≡ true =
        subst (λ (z : Variant). named is_input z.signals s.name ≡ true) same (subst (λ l. named is_input l s.name ≡ true) h.signals (subst (λ z. named is_input (formed.signals_at c.variant d.variants) z ≡ true) port conn.port)) in
        let found = named_in is_input v.signals s.name input in
        let one = one_signal none v.signals (signals_differ v (clean d sound.accepted i r v stands).apart) found.0 s found.1.0 at (sym found.1.1.1) in
        true≢false (sym (subst (λ (t : Signal). is_input t.kind ≡ true) one found.1.1.0) ∙ other)

-- an input of the top is not connected
pub no_top : (d : Design) (sound : IsSound d) (x : Name) → count_by (links_to (place 0 x)) (flat_map (conns_at d) (instances_of d)) ≡ 0
no_top d sound x = no_conns d sound 0 x (λ j q w its k c here h y inside number port. absurd (omega (arith, h.behind, number)))

-- an input of another instance is connected once
module _ (d : Design) (sound : IsSound d) (i : ℕ) (r : Instance) (v : Variant) (stands : Stands d i r v) (p : IsBelow d i r) (s : Signal) (at : IsIn s v.signals) where
  abbrev To_it : Link → Bool
  To_it = links_to (place i s.name)

  other_parents : (j : ℕ) (q : Instance) → slice_get d.instances j ≡ Some q → (j ≡ p.parent → ⊥) → count_by To_it (conns_at d (j, q)) ≡ 0
  other_parents j q there n = none_at d sound i s.name j q there (λ w its k c here h y inside number port.
      let same : h.instance ≡ r = same_instance d h.number h.instance h.variant i r v h.stands stands number in
      n (same_Some j p.parent (sym h.parent ∙ ap (λ (z : Instance). z.parent) same ∙ p.up)))

  other_children : (k : ℕ) (c : Child) → slice_get p.variant.children k ≡ Some c → (k ≡ p.place → ⊥) → count_by To_it (child_links d p.parent (k, c)) ≡ 0
  other_children k c here n =
      let h = child_stands d sound.kept p.parent p.instance p.variant p.stands k c here in
      elsewhere d sound i s.name p.parent k c h (λ y inside number port. n (once p.parent 0 d.instances k p.place i (h.is ∙ ap (λ m. Some m) number) p.is))

  inside_child : IsIn s (formed.signals_at p.child.variant d.variants)
  inside_child =
      let h = child_stands d sound.kept p.parent p.instance p.variant p.stands p.place p.child p.at in
      let number : h.number ≡ i = same_Some h.number i (sym h.is ∙ p.is) in
      subst (IsIn s) (sym (h.signals ∙ ap (λ (z : Variant). z.signals) (same_variant d h.number h.instance h.variant i r v h.stands stands number))) at

  pub one_input : is_input s.kind ≡ true → count_by To_it (flat_map (conns_at d) (instances_of d)) ≡ 1
  one_input input =
      only_at To_it (conns_at d) d.instances p.parent p.instance (p.stands).instance other_parents
      ∙ ap (λ l. count_by To_it (flat_map (child_links d p.parent) (enumerate_from 0 l))) (children_are d p.parent p.instance p.variant p.stands)
      ∙ only_at To_it (child_links d p.parent) p.variant.children p.place p.child p.at other_children
      ∙ ap (λ o. count_by To_it (none_or (λ m. map (conn_link p.parent m) p.child.conns) o)) p.is
      ∙ count_map To_it (conn_link p.parent i) p.child.conns
      ∙ count_same (λ y. To_it (conn_link p.parent i y)) (To s.name) p.child.conns (λ y inside. ap (λ b. b && bytes_eq y.port s.name) (eq-eqb i i refl) ∙ eq_turned y.port s.name)
      ∙ connected_once d.variants p.variant (clean d sound.accepted p.parent p.instance p.variant p.stands) p.child (in_at p.variant.children p.place p.child p.at) s inside_child input
