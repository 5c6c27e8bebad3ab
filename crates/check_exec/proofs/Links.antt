-- Connections fit the inputs of children, and signals the outputs of children.
use Rattle.std.proofs.Common.{◌≡◌, ℕ, true, List, [], ◌∷◌, ◌++◌, map, Option, Some, None, option_map, unwrap_or, Ok, inl, inr, refl, sym, ap, ◌∙◌, subst}
use Rattle.std.specs.Prelude.{slice_get}
use Rattle.std.specs.List.{enumerate_from, flat_map}
use Rattle.tree_core.specs.Tree.{Leaf}
use Rattle.tree_core.specs.Width.{width_of}
use Rattle.exec_core.specs.Block.{Name}
use Rattle.list_core.specs.Lists.{EachOf, IsIn}
use Rattle.exec_core.specs.Design.{place, moved}
use Rattle.exec_core.specs.Accepted.{LinkFits}
use Rattle.list_core.proofs.Lists.{each_member}
use Rattle.list_core.proofs.Listing.{flat_in, flat_from}
use Rattle.exec_core.proofs.Moving.{Fits, replace_fits}
use Rattle.design_core.specs.declared.design.Instance.{Instance}
use Rattle.design_core.specs.declared.variant.Signal.{Signal}
use Rattle.design_core.specs.declared.variant.Kind.{Kind}
use Rattle.design_core.specs.declared.variant.Kind.TheVariants as kind
use Rattle.design_core.specs.Design.{Conn, Child, Variant, Design}
use Rattle.design_core.specs.WellFormed as formed
use Rattle.design_core.specs.WellFormed.{IsDesign, IsVariant, child_outs, if_child_out, outputs_of, output_of}
use Rattle.design_exec.specs.Processes.{Link, tree_of, is_signal_of, instance_signals, signal_width, none_or, conn_link, child_links, output_link, links_at, processes_of}
use Rattle.names.specs.Known.{none}
use Rattle.check_core.specs.Faults.{first_of}
use Rattle.check_core.specs.Names.{scope_of, named, any_kind, is_input, is_child_output, unknown_read, unknown_in_conn, unknown_in_child}
use Rattle.check_core.specs.Ports.{unknown_output, unknown_port_at, unknown_port_in_child}
use Rattle.check_core.specs.Widths as checked
use Rattle.check_core.specs.Widths.{is_sized, bad_signal, bad_conn, bad_in_child, signal_mismatch, conn_mismatch, mismatch_in_child, widths_of, needed, width_in}
use Rattle.design_core.specs.Widths.{bits}
use Rattle.check_exec.specs.Premises.{IsSound, LinksFit}
use Rattle.check_exec.proofs.Facts.{each_at, each_joined, each_map, each_flat, from_zero, in_at, none_found, earlier_left, earlier_right}
use Rattle.check_exec.proofs.Instances.{IsClean, Stands, clean, signals_are, each_instance}
use Rattle.check_exec.proofs.Names.{signals_named, signals_differ}
use Rattle.check_exec.proofs.Widths.{is_known, sized, matches, needed_there}
use Rattle.check_exec.proofs.Givens.{signal_of}
use Rattle.check_exec.proofs.Targets.{named_any}
use Rattle.check_exec.proofs.SignalWidths.{put_known}
use Rattle.check_exec.proofs.Fitting.{Agree, fits_expr, width_at}
use Rattle.check_exec.proofs.Children.{HasInstance, child_stands}

-- ---- connections

-- what no check refuses at a connection of a child whose inputs are these signals
pub record IsConn (variants : List Variant) (v : Variant) (signals : List Signal) (x : Conn) : Type 0 where
  pub reads : unknown_read (scope_of v) none x.line x.value ≡ None
  pub outputs : unknown_output (named is_child_output v.signals) x.line x.value ≡ None
  pub port : named is_input signals x.port ≡ true
  pub sized : is_sized x.value ≡ true
  pub width : width_in (widths_of any_kind v.signals) x.value ≡ Ok (checked.width_of (widths_of is_input signals) x.port)

pub conn_passes : (variants : List Variant) (v : Variant) → IsClean variants v → (c : Child) → IsIn c v.children → (x : Conn) → IsIn x c.conns → IsConn variants v (formed.signals_at c.variant variants) x
conn_passes variants v clean c at x here =
    let signals = formed.signals_at c.variant variants in
    let outs = named is_child_output v.signals in
    let W = widths_of any_kind v.signals in
    let port =
    each_member (λ y. unknown_port_at outs (named is_input signals) y ≡ None) c.conns
    (none_found (unknown_port_at outs (named is_input signals)) c.conns
    (each_member (λ b. unknown_port_in_child outs variants b ≡ None) v.children (none_found (unknown_port_in_child outs variants) v.children (earlier_left (first_of (unknown_port_in_child outs variants) v.children) _ clean.ports)) c at)) x here in
    let mismatch =
    each_member (λ y. conn_mismatch W (widths_of is_input signals) y ≡ None) c.conns
    (none_found (conn_mismatch W (widths_of is_input signals)) c.conns
    (each_member (λ b. mismatch_in_child W variants b ≡ None) v.children
    (none_found (mismatch_in_child W variants) v.children
    (earlier_left (first_of (mismatch_in_child W variants) v.children) _ (earlier_right (first_of signal_mismatch v.signals) _ clean.widths))) c at)) x here in
    let want = checked.width_of (widths_of is_input signals) x.port in
    let found = matches x.line x.port (needed want (width_in W x.value)) mismatch in
    record {
      reads =
          each_member (λ y. unknown_in_conn (scope_of v) y ≡ None) c.conns
          (none_found (unknown_in_conn (scope_of v)) c.conns
          (each_member (λ b. unknown_in_child (scope_of v) b ≡ None) v.children
          (none_found (unknown_in_child (scope_of v)) v.children (earlier_left (first_of (unknown_in_child (scope_of v)) v.children) _ clean.known)) c at)) x here;
      outputs = earlier_left (unknown_output outs x.line x.value) _ port;
      port = is_known (named is_input signals x.port) _ (earlier_right (unknown_output outs x.line x.value) _ port);
      sized =
          sized (is_sized x.value) x.line x.port
          (each_member (λ y. bad_conn y ≡ None) c.conns
          (none_found bad_conn c.conns
          (each_member (λ b. bad_in_child b ≡ None) v.children
          (none_found bad_in_child v.children (earlier_left (first_of bad_in_child v.children) _ (earlier_right (first_of bad_signal v.signals) _ clean.sized))) c at)) x here);
      width = needed_there want (width_in W x.value) found.0 found.1;
    }

-- an expression over the signals of an instance
signals_agree : (d : Design) (i : ℕ) (r : Instance) (v : Variant) → Stands d i r v → IsClean d.variants v
    → Agree (scope_of v) none (named is_child_output v.signals) (widths_of any_kind v.signals) (λ y. is_signal_of d (place i y) ≡ true) (λ y. signal_width (instance_signals d i) y)
signals_agree d i r v s c = record { names = λ y e. both y e; ports = λ y e. both y (named_any is_child_output v.signals y e) }
  where
    both : (y : Name) → named any_kind v.signals y ≡ true → (is_signal_of d (place i y) ≡ true) × (widths_of any_kind v.signals y ≡ Some (signal_width (instance_signals d i) y))
    both y e = (signals_named d i r v s y ∙ e, put_known any_kind v.signals y (signals_differ v c.apart) e ∙ ap (λ l. Some (signal_width l y)) (sym (signals_are d i r v s)))

conn_fits : (d : Design) → IsSound d → (i : ℕ) (r : Instance) (v : Variant) → Stands d i r v → (k : ℕ) (c : Child) → slice_get v.children k ≡ Some c → (h : HasInstance d i k c) → (x : Conn) → IsIn x c.conns
    → LinkFits (processes_of d) (conn_link i h.number x)
conn_fits d sound i r v s k c at h x here =
    let j = h.number in
    let w = h.variant in
    let fine = clean d sound.accepted i r v s in
    let its = clean d sound.accepted j h.instance w h.stands in
    let conn : IsConn d.variants v w.signals x = subst (λ signals. IsConn d.variants v signals x) h.signals (conn_passes d.variants v fine c (in_at v.children k c at) x here) in
    let tree =
    fits_expr (scope_of v) none (named is_child_output v.signals) (widths_of any_kind v.signals) (λ y. is_signal_of d (place i y) ≡ true) (λ y. signal_width (instance_signals d i) y) x.line x.line
    (signals_agree d i r v s fine) x.value (checked.width_of (widths_of is_input w.signals) x.port) conn.reads conn.outputs conn.sized conn.width in
    let stands : Fits (λ p. is_signal_of d p ≡ true) (λ p. signal_width (instance_signals d p.instance) p.name) (width_of (λ y. signal_width (instance_signals d i) y) (tree_of x.value)) (moved i (tree_of x.value)) =
    replace_fits (λ y. is_signal_of d (place i y) ≡ true) (λ y. signal_width (instance_signals d i) y) (λ p. is_signal_of d p ≡ true) (λ p. signal_width (instance_signals d p.instance) p.name)
    (λ y. Leaf (place i y)) (λ y g. (g, refl)) (tree_of x.value) tree.0 in
    record {
      target = signals_named d j h.instance w h.stands x.port ∙ named_any is_input w.signals x.port conn.port;
      expression = stands.0;
      width =
          stands.1 ∙ tree.1 ∙ width_at (widths_of is_input w.signals) (signal_width w.signals) x.port (put_known is_input w.signals x.port (signals_differ w its.apart) conn.port)
          ∙ ap (λ l. signal_width l x.port) (sym (signals_are d j h.instance w h.stands));
    }

-- ---- outputs of children

-- a signal is an output of a child, which has it
pub record IsOutput (d : Design) (v : Variant) (s : Signal) (k : ℕ) (q : Name) : Type 0 where
  pub child : Child
  pub at : slice_get v.children k ≡ Some child
  pub signal : Signal
  pub stands : IsIn signal (formed.signals_at child.variant d.variants)
  pub named : q ≡ signal.name
  pub same : s.width ≡ signal.width
  pub output : signal.kind ≡ kind.Output

-- what an output of a child is as a signal
record Same (s : Signal) (n : ℕ) (c : Child) (t : Signal) : Type 0 where
  pub is : s.kind ≡ kind.ChildOut n t.name
  pub width : s.width ≡ t.width
  pub output : t.kind ≡ kind.Output

one_output : (n : ℕ) (c : Child) (t : Signal) (k : Kind) → t.kind ≡ k → (s : Signal) → IsIn s (output_of n c t k) → Same s n c t
one_output n c t kind.Input e s i = absurd i
one_output n c t kind.Output e s (inl same) = record { is = ap (λ (z : Signal). z.kind) same; width = ap (λ (z : Signal). z.width) same; output = e }
one_output n c t kind.Output e s (inr i) = absurd i
one_output n c t kind.Wire e s i = absurd i
one_output n c t (kind.Reg start) e s i = absurd i
one_output n c t (kind.ChildOut m q) e s i = absurd i

same_child : (k n : ℕ) (q p : Name) → kind.ChildOut k q ≡ kind.ChildOut n p → (k ≡ n) × (q ≡ p)
same_child k n q p e = (ap number e, ap name e)
  where
    number : Kind → ℕ
    number kind.Input = 0
    number kind.Output = 0
    number kind.Wire = 0
    number (kind.Reg start) = 0
    number (kind.ChildOut m x) = m

    name : Kind → Name
    name kind.Input = []
    name kind.Output = []
    name kind.Wire = []
    name (kind.Reg start) = []
    name (kind.ChildOut m x) = x

numbers_at : {A : Type 0} (list : List A) (p : ℕ × A) → IsIn p (enumerate_from 0 list) → slice_get list p.0 ≡ Some p.1
numbers_at list p i = each_member (λ q. slice_get list q.0 ≡ Some q.1) (enumerate_from 0 list) (from_zero (λ q. slice_get list q.0 ≡ Some q.1) list (λ j a e. e)) p i

pub output_is : (d : Design) → IsDesign d → (i : ℕ) (r : Instance) (v : Variant) → Stands d i r v → (s : Signal) → IsIn s v.signals → (k : ℕ) (q : Name) → s.kind ≡ kind.ChildOut k q → IsOutput d v s k q
output_is d kept i r v stands s at k q e =
    let is : IsVariant d.variants v = each_at (IsVariant d.variants) d.variants r.variant v stands.variant kept.each in
    let own : IsIn s (child_outs v.signals) = flat_in (λ t. if_child_out t t.kind) v.signals s s at (subst (λ z. IsIn s (if_child_out s z)) (sym e) (inl refl)) in
    let child = flat_from (outputs_of d.variants) (enumerate_from 0 v.children) s (subst (IsIn s) is.outputs own) in
    let signal = flat_from (λ t. output_of child.0.0 child.0.1 t t.kind) (formed.signals_at child.0.1.variant d.variants) s child.1.1 in
    let one = one_output child.0.0 child.0.1 signal.0 signal.0.kind refl s signal.1.1 in
    let same = same_child k child.0.0 q signal.0.name (sym e ∙ one.is) in
    record {
      child = child.0.1;
      at = ap (slice_get v.children) same.0 ∙ numbers_at v.children child.0 child.1.0;
      signal = signal.0;
      stands = signal.1.0;
      named = same.1;
      same = one.width;
      output = one.output;
    }

output_fits : (d : Design) → IsSound d → (i : ℕ) (r : Instance) (v : Variant) → Stands d i r v → (s : Signal) → IsIn s v.signals → (k : Kind) → s.kind ≡ k → EachOf (LinkFits (processes_of d)) (output_link d i s.name k)
output_fits d sound i r v stands s at kind.Input e = tt
output_fits d sound i r v stands s at kind.Output e = tt
output_fits d sound i r v stands s at kind.Wire e = tt
output_fits d sound i r v stands s at (kind.Reg start) e = tt
output_fits d sound i r v stands s at (kind.ChildOut k q) e =
    let out = output_is d sound.kept i r v stands s at k q e in
    let h = child_stands d sound.kept i r v stands k out.child out.at in
    let mine = signal_of d i r v stands (clean d sound.accepted i r v stands) s at in
    let inside : IsIn out.signal h.variant.signals = subst (IsIn out.signal) h.signals out.stands in
    let its = signal_of d h.number h.instance h.variant h.stands (clean d sound.accepted h.number h.instance h.variant h.stands) out.signal inside in
    subst (λ o. EachOf (LinkFits (processes_of d)) (none_or (λ j. (place i s.name, Leaf (place j q)) ∷ []) o)) (sym h.is) (
      record {
        target = mine.signal;
        expression = subst (λ y. is_signal_of d (place h.number y) ≡ true) (sym out.named) its.signal;
        width = ap (λ y. signal_width (instance_signals d h.number) y) out.named ∙ its.width ∙ ap bits (sym out.same) ∙ sym mine.width;
      },
      tt,
    )

-- ---- all links

-- the links of an instance of this variant
abbrev pub links_of : Design → ℕ → Option Variant → List Link
links_of d i o =
    flat_map (child_links d i) (enumerate_from 0 (unwrap_or (option_map (λ (w : Variant). w.children) o) []))
    ++ flat_map (λ (s : Signal). output_link d i s.name s.kind) (unwrap_or (option_map (λ (w : Variant). w.signals) o) [])

pub links_are : (d : Design) (i : ℕ) (r : Instance) (o : Option Variant) → slice_get d.variants r.variant ≡ o → links_at d (i, r) ≡ links_of d i o
links_are d i r o e = ap (links_of d i) e

pub links_fit : LinksFit
links_fit d sound =
    each_instance (LinkFits (processes_of d)) d (links_at d)
    (λ i r e. subst (EachOf (LinkFits (processes_of d))) (sym (links_are d i r None e)) tt)
    (λ i r v s. subst (EachOf (LinkFits (processes_of d))) (sym (links_are d i r (Some v) s.variant)) (both i r v s))
  where
    children : (i : ℕ) (r : Instance) (v : Variant) → Stands d i r v → (k : ℕ) (c : Child) → slice_get v.children k ≡ Some c → EachOf (LinkFits (processes_of d)) (child_links d i (k, c))
    children i r v s k c at =
        let h = child_stands d sound.kept i r v s k c at in
        subst (λ o. EachOf (LinkFits (processes_of d)) (none_or (λ j. map (conn_link i j) c.conns) o)) (sym h.is)
        (each_map (LinkFits (processes_of d)) (conn_link i h.number) c.conns (λ x here. conn_fits d sound i r v s k c at h x here))

    both : (i : ℕ) (r : Instance) (v : Variant) → Stands d i r v → EachOf (LinkFits (processes_of d)) (links_of d i (Some v))
    both i r v s =
        each_joined (LinkFits (processes_of d)) (flat_map (child_links d i) (enumerate_from 0 v.children)) (flat_map (λ (t : Signal). output_link d i t.name t.kind) v.signals)
        (each_flat (LinkFits (processes_of d)) (child_links d i) (enumerate_from 0 v.children) (λ p at.
        each_member (λ q. EachOf (LinkFits (processes_of d)) (child_links d i q)) (enumerate_from 0 v.children) (from_zero (λ q. EachOf (LinkFits (processes_of d)) (child_links d i q)) v.children (children i r v s)) p at))
        (each_flat (LinkFits (processes_of d)) (λ (t : Signal). output_link d i t.name t.kind) v.signals (λ t at. output_fits d sound i r v s t at t.kind refl))
