-- The widths of signals by name: as the checks put them, and as execution finds them.
use Rattle.std.proofs.Common.{◌≡◌, ℕ, Bool, true, false, true≢false, bytes_eq, List, [], ◌∷◌, map, Some, inl, inr, refl, sym, ap, ◌∙◌, subst, if◌then◌else◌}
use Rattle.std.proofs.lemmas.Bool.{or_left, or_right, false_from_ne_true}
use Rattle.exec_core.specs.Block.{Name}
use Rattle.list_core.specs.Lists.{IsIn}
use Rattle.design_core.specs.declared.variant.Signal.{Signal}
use Rattle.design_core.specs.declared.variant.Kind.{Kind}
use Rattle.design_exec.specs.Processes.{signal_width}
use Rattle.names.specs.Known.{Known, none, with}
use Rattle.check_core.specs.Names.{named, signal_thing}
use Rattle.check_core.specs.Widths.{Widths, no_width, put_width, put_signal, put_signals, widths_of}
use Rattle.design_core.specs.Widths.{bits}
use Rattle.check_exec.proofs.Facts.{same_name, name_same}
use Rattle.check_exec.proofs.Names.{Differ}
use Rattle.check_exec.proofs.Targets.{named_in}
use Rattle.check_exec.proofs.Widths.{width_is}

-- a taken name differs from one that is not taken
pub not_taken : (taken : Known) (x y : Name) → taken x ≡ true → taken y ≡ false → bytes_eq x y ≡ false
not_taken taken x y e f = false_from_ne_true (bytes_eq x y) (λ same. true≢false (sym e ∙ ap taken (same_name x y same) ∙ f))

other_kept : (b : Bool) (y : Name) (w : ℕ) (W : Widths) (x : Name) → bytes_eq x y ≡ false → (if b then put_width y w W else W) x ≡ W x
other_kept true y w W x e = ap (λ c. if c then Some w else W x) e
other_kept false y w W x e = refl

-- signals behind those that are taken do not change their widths
untouched : (kinds : Kind → Bool) (taken : Known) (signals : List Signal) (W : Widths) (x : Name) → Differ taken (map signal_thing signals) → taken x ≡ true → put_signals kinds signals W x ≡ W x
untouched kinds taken [] W x d t = refl
untouched kinds taken (s ∷ signals) W x d t =
    untouched kinds (with s.name taken) signals (put_signal kinds s W) x d.1 (or_right (bytes_eq x s.name) (taken x) t)
    ∙ other_kept (kinds s.kind) s.name (bits s.width) W x (not_taken taken x s.name t d.0)

put_is : (kinds : Kind → Bool) (taken : Known) (signals : List Signal) (W : Widths) (s : Signal) → Differ taken (map signal_thing signals) → IsIn s signals → kinds s.kind ≡ true
    → put_signals kinds signals W s.name ≡ Some (bits s.width)
put_is kinds taken [] W s d i e = absurd i
put_is kinds taken (t ∷ signals) W s d (inl same) e =
    let kind : kinds t.kind ≡ true = ap (λ (q : Signal). kinds q.kind) (sym same) ∙ e in
    let named = name_same s.name t.name (ap (λ (q : Signal). q.name) same) in
    untouched kinds (with t.name taken) signals (put_signal kinds t W) s.name d.1 (or_left (bytes_eq s.name t.name) (taken s.name) named)
    ∙ ap (λ b. (if b then put_width t.name (bits t.width) W else W) s.name) kind
    ∙ ap (λ b. if b then Some (bits t.width) else W s.name) named
    ∙ ap (λ (q : Signal). Some (bits q.width)) (sym same)
put_is kinds taken (t ∷ signals) W s d (inr i) e = put_is kinds (with t.name taken) signals (put_signal kinds t W) s d.1 i e

-- a signal of some kinds has its width among them
pub put_known : (kinds : Kind → Bool) (signals : List Signal) (x : Name) → Differ none (map signal_thing signals) → named kinds signals x ≡ true → widths_of kinds signals x ≡ Some (signal_width signals x)
put_known kinds signals x d e =
    let found = named_in kinds signals x e in
    subst (λ y. widths_of kinds signals y ≡ Some (signal_width signals y)) (sym found.1.1.1)
    (put_is kinds none signals no_width found.0 d found.1.0 found.1.1.0 ∙ ap (λ w. Some w) (sym (width_is none signals d found.0 found.1.0)))
