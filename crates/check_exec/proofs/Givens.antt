-- What is given in a cycle: the inputs of the top, and the registers.
use Rattle.std.proofs.Common.{◌≡◌, ℕ, zero, suc, ◌+◌, ◌≤◌, ◌==◌, Bool, true, false, bytes_eq, List, [], ◌∷◌, ◌++◌, map, Option, Some, None, option_map, unwrap_or, Ok, refl, sym, ap, ◌∙◌, subst, if◌then◌else◌, arith, eqb-true, true≢false}
use Rattle.std.specs.Prelude.{slice_get}
use Rattle.std.specs.List.{enumerate_from, flat_map, list_any}
use Rattle.std.proofs.lemmas.Bool.{or_parts}
use Rattle.std.proofs.lemmas.Option.{none-some, same_Some, slice_get_within}
use Rattle.tree_core.specs.Tree.{Origin, Input, Register}
use Rattle.tree_core.proofs.Same.{both_true}
use Rattle.exec_core.specs.Block.{Name}
use Rattle.list_core.specs.Lists.{EachOf, IsIn, IsNotIn, AreApart}
use Rattle.exec_core.specs.Design.{place}
use Rattle.exec_core.specs.Accepted.{GivenFits, OriginsApart}
use Rattle.list_core.proofs.Lists.{each_member, each_from}
use Rattle.design_core.specs.declared.design.Instance.{Instance}
use Rattle.design_core.specs.declared.variant.Signal.{Signal}
use Rattle.design_core.specs.declared.variant.Kind.{Kind}
use Rattle.design_core.specs.declared.variant.Kind.TheVariants as kind
use Rattle.design_core.specs.Design.{Child, Variant, Design}
use Rattle.design_core.specs.WellFormed.{child_names}
use Rattle.design_exec.specs.Processes.{Numbered, Given, is_signal_of, instance_signals, signals_in, signal_width, processes_of, given_by, givens_at}
use Rattle.names.specs.Known.{Known, none, with}
use Rattle.check_core.specs.Faults.{first_of}
use Rattle.check_core.specs.Names.{signal_thing, child_thing}
use Rattle.check_core.specs.Widths.{is_declared, is_width, is_literal, bad_signal, signal_mismatch, start_width}
use Rattle.design_core.specs.Widths.{bits}
use Rattle.check_exec.specs.Premises.{IsSound, GivensFit, GivensAreApart}
use Rattle.check_exec.proofs.Facts.{each_joined, each_flat, each_numbered, in_any, any_in, in_index, each_index, from_zero, name_same, none_found, earlier_left}
use Rattle.check_exec.proofs.Instances.{IsClean, Stands, clean, signals_are, each_instance}
use Rattle.check_exec.proofs.Names.{Differ, none_taken, differs_behind, signals_differ, children_differ}
use Rattle.check_exec.proofs.Widths.{width_from, literal_bits, sized, matches, needed_there, same_ok, width_is}

-- ---- a signal of an instance

-- it is one, and has its width
pub record IsSignal (d : Design) (i : ℕ) (s : Signal) : Type 0 where
  pub signal : is_signal_of d (place i s.name) ≡ true
  pub width : signal_width (instance_signals d i) s.name ≡ bits s.width

pub signal_of : (d : Design) (i : ℕ) (r : Instance) (v : Variant) → Stands d i r v → IsClean d.variants v → (s : Signal) → IsIn s v.signals → IsSignal d i s
signal_of d i r v stands c s at = record {
  signal =
      ap (list_any (λ (t : Signal). bytes_eq t.name s.name)) (signals_are d i r v stands)
      ∙ in_any (λ (t : Signal). bytes_eq t.name s.name) v.signals s at (name_same s.name s.name refl);
  width = ap (λ l. signal_width l s.name) (signals_are d i r v stands) ∙ width_is none v.signals (signals_differ v c.apart) s at;
}

pub declared_of : (variants : List Variant) (v : Variant) → IsClean variants v → (s : Signal) → IsIn s v.signals → is_declared s.kind s.width ≡ true
declared_of variants v c s at =
    sized (is_declared s.kind s.width) s.line s.name
    (each_member (λ t. bad_signal t ≡ None) v.signals (none_found bad_signal v.signals (earlier_left (first_of bad_signal v.signals) _ c.sized)) s at)

-- the start value of a register has its width
pub start_of : (variants : List Variant) (v : Variant) → IsClean variants v → (s : Signal) → IsIn s v.signals → (w : ℕ) × (start_width s.kind (bits s.width) ≡ Ok w)
start_of variants v c s at =
    matches s.line s.name (start_width s.kind (bits s.width))
    (each_member (λ t. signal_mismatch t ≡ None) v.signals (none_found signal_mismatch v.signals (earlier_left (first_of signal_mismatch v.signals) _ c.widths)) s at)

-- ---- each fits

given_fits : (d : Design) (i : ℕ) (r : Instance) (v : Variant) → Stands d i r v → IsClean d.variants v → (s : Signal) → IsIn s v.signals → (k : Kind) → s.kind ≡ k
    → EachOf (GivenFits (processes_of d)) (given_by (i, r) s.name (bits s.width) k)
given_fits d i r v stands c s at kind.Input e = by_top (i == 0)
  where
    here : IsSignal d i s
    here = signal_of d i r v stands c s at

    declared : (1 ≤ bits s.width) × (bits s.width ≤ 128)
    declared = width_from s.width (subst (λ k. is_declared k s.width ≡ true) e (declared_of d.variants v c s at))

    by_top : (b : Bool) → EachOf (GivenFits (processes_of d)) (if b then (place i s.name, Input s.name (bits s.width)) ∷ [] else [])
    by_top true = (
      record {
        signal = here.signal;
        origin = (declared.0, declared.1);
        width = sym here.width;
      },
      tt,
    )
    by_top false = tt
given_fits d i r v stands c s at kind.Output e = tt
given_fits d i r v stands c s at kind.Wire e = tt
given_fits d i r v stands c s at (kind.Reg start) e =
    let here = signal_of d i r v stands c s at in
    let declared = both_true (is_width s.width) (is_literal start) (subst (λ k. is_declared k s.width ≡ true) e (declared_of d.variants v c s at)) in
    let found = start_of d.variants v c s at in
    let widths : bits start.width ≡ bits s.width =
    same_ok (bits start.width) (bits s.width) (needed_there (bits s.width) (Ok (bits start.width)) found.0 (ap (λ k. start_width k (bits s.width)) (sym e) ∙ found.1)) in
    (record { signal = here.signal; origin = literal_bits start declared.1; width = widths ∙ sym here.width }, tt)
given_fits d i r v stands c s at (kind.ChildOut k q) e = tt

abbrev of_signal : Numbered → Signal → List Given
of_signal q s = given_by q s.name (bits s.width) s.kind

givens_none : (d : Design) (i : ℕ) (r : Instance) → slice_get d.variants r.variant ≡ None → givens_at d (i, r) ≡ []
givens_none d i r e = ap (λ o. flat_map (of_signal (i, r)) (unwrap_or (option_map (λ (w : Variant). w.signals) o) [])) e

givens_are : (d : Design) (i : ℕ) (r : Instance) (v : Variant) → Stands d i r v → givens_at d (i, r) ≡ flat_map (of_signal (i, r)) v.signals
givens_are d i r v s = ap (λ o. flat_map (of_signal (i, r)) (unwrap_or (option_map (λ (w : Variant). w.signals) o) [])) s.variant

pub givens_fit : GivensFit
givens_fit d sound =
    each_instance (GivenFits (processes_of d)) d (givens_at d)
    (λ i r e. subst (EachOf (GivenFits (processes_of d))) (sym (givens_none d i r e)) tt)
    (λ i r v s. subst (EachOf (GivenFits (processes_of d))) (sym (givens_are d i r v s))
    (each_flat (GivenFits (processes_of d)) (of_signal (i, r)) v.signals (λ t at. given_fits d i r v s (clean d sound.accepted i r v s) t at t.kind refl)))

-- ---- their origins differ

-- an origin of this instance
abbrev IsFrom : Numbered → Origin → Type 0
IsFrom q (Input x w) = q.0 ≡ 0
IsFrom q (Register path x start) = path ≡ q.1.path

abbrev origin_name : Origin → Name
origin_name (Input x w) = x
origin_name (Register path x start) = x

abbrev HasOrigin : Numbered → Name → Given → Type 0
HasOrigin q x given = IsFrom q given.1 × (origin_name given.1 ≡ x)

given_from : (q : Numbered) (x : Name) (w : ℕ) (k : Kind) → EachOf (HasOrigin q x) (given_by q x w k)
given_from q x w kind.Input = by_top (q.0 == 0) refl
  where
    by_top : (b : Bool) → (q.0 == 0) ≡ b → EachOf (HasOrigin q x) (if b then (place q.0 x, Input x w) ∷ [] else [])
    by_top true e = ((eqb-true q.0 0 e, refl), tt)
    by_top false e = tt
given_from q x w kind.Output = tt
given_from q x w kind.Wire = tt
given_from q x w (kind.Reg start) = ((refl, refl), tt)
given_from q x w (kind.ChildOut k port) = tt

alone : (q : Numbered) (x : Name) (w : ℕ) (k : Kind) → OriginsApart (given_by q x w k)
alone q x w kind.Input = by_top (q.0 == 0)
  where
    by_top : (b : Bool) → OriginsApart (if b then (place q.0 x, Input x w) ∷ [] else [])
    by_top true = (tt, tt)
    by_top false = tt
alone q x w kind.Output = tt
alone q x w kind.Wire = tt
alone q x w (kind.Reg start) = (tt, tt)
alone q x w (kind.ChildOut k port) = tt

abbrev NotOf : Given → Given → Type 0
NotOf given other = other.1 ≡ given.1 → ⊥

origins_joined : (a b : List Given) → OriginsApart a → OriginsApart b → EachOf (λ given. EachOf (NotOf given) b) a → OriginsApart (a ++ b)
origins_joined [] b h g n = g
origins_joined (x ∷ a) b h g n = (each_joined (NotOf x) a b h.0 n.0, origins_joined a b h.1 g n.1)

-- those of one instance
own_apart : (q : Numbered) (taken : Known) (signals : List Signal) → Differ taken (map signal_thing signals) → OriginsApart (flat_map (of_signal q) signals)
own_apart q taken [] d = tt
own_apart q taken (s ∷ signals) d =
    origins_joined (of_signal q s) (flat_map (of_signal q) signals) (alone q s.name (bits s.width) s.kind) (own_apart q (with s.name taken) signals d.1)
    (each_from (λ given. EachOf (NotOf given) (flat_map (of_signal q) signals)) (of_signal q s) (λ given i.
    each_flat (NotOf given) (of_signal q) signals (λ t at.
    each_from (NotOf given) (of_signal q t) (λ other j same.
    let mine = each_member (HasOrigin q s.name) (of_signal q s) (given_from q s.name (bits s.width) s.kind) given i in
    let its = each_member (HasOrigin q t.name) (of_signal q t) (given_from q t.name (bits t.width) t.kind) other j in
    differs_behind taken s signals d.1 t at (sym its.1 ∙ ap origin_name same ∙ mine.1)))))

-- those of two instances
two_apart : (q r : Numbered) (given other : Given) → (q.0 ≡ 0 → r.0 ≡ 0 → ⊥) → (r.1.path ≡ q.1.path → ⊥) → IsFrom q given.1 → IsFrom r other.1 → NotOf given other
two_apart q r given other tops paths mine its same = by_origin given.1 mine (subst (IsFrom r) same its)
  where
    by_origin : (o : Origin) → IsFrom q o → IsFrom r o → ⊥
    by_origin (Input x w) e f = tops e f
    by_origin (Register path x start) e f = paths (sym f ∙ e)

at_givens : (d : Design) (q : Numbered) → EachOf (λ given. IsFrom q given.1) (givens_at d q)
at_givens d q =
    each_flat (λ given. IsFrom q given.1) (of_signal q) (signals_in d q.1.variant) (λ s at.
    each_from (λ given. IsFrom q given.1) (of_signal q s) (λ given i. (each_member (HasOrigin q s.name) (of_signal q s) (given_from q s.name (bits s.width) s.kind) given i).0))

path_other : (path : Name) (list : List Instance) → IsNotIn path (map (λ (r : Instance). r.path) list) → (j : ℕ) (r : Instance) → slice_get list j ≡ Some r → r.path ≡ path → ⊥
path_other path [] h j r at e = none-some r at
path_other path (q ∷ list) h zero r at e = h.0 (ap (λ (z : Instance). z.path) (same_Some q r at) ∙ e)
path_other path (q ∷ list) h (suc j) r at e = path_other path list h.1 j r at e

all_apart : (d : Design) (n : ℕ) (list : List Instance) → AreApart (map (λ (r : Instance). r.path) list) → EachOf (λ q. OriginsApart (givens_at d q)) (enumerate_from n list)
    → OriginsApart (flat_map (givens_at d) (enumerate_from n list))
all_apart d n [] p h = tt
all_apart d n (r ∷ list) p h =
    origins_joined (givens_at d (n, r)) (flat_map (givens_at d) (enumerate_from (n + 1) list)) h.0 (all_apart d (n + 1) list p.1 h.1)
    (each_from (λ given. EachOf (NotOf given) (flat_map (givens_at d) (enumerate_from (n + 1) list))) (givens_at d (n, r)) (λ given i.
    let mine = each_member (λ g. IsFrom (n, r) g.1) (givens_at d (n, r)) (at_givens d (n, r)) given i in
    each_flat (NotOf given) (givens_at d) (enumerate_from (n + 1) list) (λ q at.
    each_from (NotOf given) (givens_at d q) (λ other j.
    let its = each_member (λ g. IsFrom q g.1) (givens_at d q) (at_givens d q) other j in
    let differ = each_member (λ (z : Numbered). (n ≡ 0 → z.0 ≡ 0 → ⊥) × (z.1.path ≡ r.path → ⊥)) (enumerate_from (n + 1) list) (others p.0) q at in
    two_apart (n, r) q given other differ.0 differ.1 mine its))))
  where
    others : IsNotIn r.path (map (λ (z : Instance). z.path) list) → EachOf (λ (z : Numbered). (n ≡ 0 → z.0 ≡ 0 → ⊥) × (z.1.path ≡ r.path → ⊥)) (enumerate_from (n + 1) list)
    others h = each_numbered (λ (z : Numbered). (n ≡ 0 → z.0 ≡ 0 → ⊥) × (z.1.path ≡ r.path → ⊥)) (n + 1) list (λ j z at. (λ e f. omega (arith, f), path_other r.path list h j z at))

children_apart : (taken : Known) (children : List Child) → Differ taken (map child_thing children) → AreApart (child_names children)
children_apart taken [] d = tt
children_apart taken (c ∷ children) d = (not_named children (none_taken (with c.name taken) (map child_thing children) d.1), children_apart (with c.name taken) children d.1)
  where
    not_named : (rest : List Child) → EachOf (λ p. with c.name taken p.1 ≡ false) (map child_thing rest) → IsNotIn c.name (child_names rest)
    not_named [] h = tt
    not_named (b ∷ rest) h = (λ e. true≢false (sym (name_same b.name c.name e) ∙ (or_parts (bytes_eq b.name c.name) (taken b.name) h.0).0), not_named rest h.1)

-- the paths of the instances of an accepted design differ
pub paths_apart : (d : Design) → IsSound d → AreApart (map (λ (r : Instance). r.path) d.instances)
paths_apart d sound =
    sound.kept.paths (each_index (λ v. AreApart (child_names v.children)) d.variants (λ n v at.
    let found = any_in (λ (r : Instance). r.variant == n) d.instances (sound.kept.instances n (slice_get_within d.variants n v at)) in
    let index = in_index d.instances found.0 found.1.0 in
    let stands : Stands d index.0 found.0 v = record { instance = index.1; variant = ap (slice_get d.variants) (eqb-true found.0.variant n found.1.1) ∙ at } in
    children_apart none v.children (children_differ v (clean d sound.accepted index.0 found.0 v stands).apart)))

pub givens_are_apart : GivensAreApart
givens_are_apart d sound =
    all_apart d 0 d.instances (paths_apart d sound)
    (from_zero (λ q. OriginsApart (givens_at d q)) d.instances (λ i r at. by_variant i r at (slice_get d.variants r.variant) refl))
  where
    by_variant : (i : ℕ) (r : Instance) → slice_get d.instances i ≡ Some r → (o : Option Variant) → slice_get d.variants r.variant ≡ o → OriginsApart (givens_at d (i, r))
    by_variant i r at None e = subst OriginsApart (sym (givens_none d i r e)) tt
    by_variant i r at (Some v) e =
        let stands : Stands d i r v = record { instance = at; variant = e } in
        subst OriginsApart (sym (givens_are d i r v stands)) (own_apart (i, r) none v.signals (signals_differ v (clean d sound.accepted i r v stands).apart))
