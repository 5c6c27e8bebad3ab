-- Signals and lets have widths from 1 to 128.
use Rattle.std.proofs.Common.{◌≡◌, ℕ, Bool, true, false, ◌||◌, List, [], ◌∷◌, Some, inl, inr, refl, sym, ap, ◌∙◌, subst, if◌then◌else◌}
use Rattle.std.specs.Prelude.{bytes_eq, find, option_map, unwrap_or}
use Rattle.std.specs.List.{list_any}
use Rattle.tree_core.specs.Tree.{Tree, Const, Leaf, One, Two, Mux}
use Rattle.tree_core.specs.Width.{WellFormed}
use Rattle.tree_core.proofs.Same.{both_true}
use Rattle.list_core.specs.Lists.{IsIn}
use Rattle.exec_core.specs.Block.{Name}
use Rattle.exec_core.specs.Paths.{IsWidth}
use Rattle.design_core.specs.declared.design.Instance.{Instance}
use Rattle.design_core.specs.declared.variant.Signal.{Signal}
use Rattle.design_core.specs.declared.variant.Kind.{Kind}
use Rattle.design_core.specs.declared.variant.Kind.TheVariants as kind
use Rattle.design_core.specs.Design.{Variant, Design}
use Rattle.design_core.specs.Widths.{bits}
use Rattle.design_exec.specs.Processes.{signal_width}
use Rattle.check_core.specs.Widths.{is_declared, is_width, is_literal}
use Rattle.check_exec.specs.Premises.{IsSound}
use Rattle.check_exec.proofs.Instances.{IsClean, Stands, clean}
use Rattle.check_exec.proofs.Givens.{declared_of}
use Rattle.check_exec.proofs.Widths.{width_from}
use Rattle.check_exec.proofs.Children.{child_stands}
use Rattle.check_exec.proofs.Links.{output_is}

pub formed_as : (P Q : Name → Type 0) (width : Name → ℕ) → ((x : Name) → P x → Q x) → (e : Tree Name) → WellFormed P width e → WellFormed Q width e
formed_as P Q width h (Const b) f = f
formed_as P Q width h (Leaf x) f = h x f
formed_as P Q width h (One op a) f = (formed_as P Q width h a f.0, f.1)
formed_as P Q width h (Two op a b) f = (formed_as P Q width h a f.0, formed_as P Q width h b f.1, f.2)
formed_as P Q width h (Mux c a b) f = (formed_as P Q width h c f.0, formed_as P Q width h a f.1, formed_as P Q width h b f.2, f.3)

-- a declared signal
here_wide : (d : Design) (v : Variant) → IsClean d.variants v → (s : Signal) → IsIn s v.signals → (k : Kind) → s.kind ≡ k → (is_declared k s.width ≡ true → is_width s.width ≡ true) → IsWidth (bits s.width)
here_wide d v c s at k e h = width_from s.width (h (subst (λ j. is_declared j s.width ≡ true) e (declared_of d.variants v c s at)))

pub signal_wide : (d : Design) → IsSound d → (i : ℕ) (r : Instance) (v : Variant) → Stands d i r v → (s : Signal) → IsIn s v.signals → (k : Kind) → s.kind ≡ k → IsWidth (bits s.width)
signal_wide d sound i r v stands s at kind.Input e = here_wide d v (clean d sound.accepted i r v stands) s at kind.Input e (λ h. h)
signal_wide d sound i r v stands s at kind.Output e = here_wide d v (clean d sound.accepted i r v stands) s at kind.Output e (λ h. h)
signal_wide d sound i r v stands s at kind.Wire e = here_wide d v (clean d sound.accepted i r v stands) s at kind.Wire e (λ h. h)
signal_wide d sound i r v stands s at (kind.Reg start) e =
    here_wide d v (clean d sound.accepted i r v stands) s at (kind.Reg start) e (λ h. (both_true (is_width s.width) (is_literal start) h).0)
signal_wide d sound i r v stands s at (kind.ChildOut k q) e =
    let out = output_is d sound.kept i r v stands s at k q e in
    let h = child_stands d sound.kept i r v stands k out.child out.at in
    let inside : IsIn out.signal h.variant.signals = subst (IsIn out.signal) h.signals out.stands in
    subst (λ w. IsWidth (bits w)) (sym out.same)
    (here_wide d h.variant (clean d sound.accepted h.number h.instance h.variant h.stands) out.signal inside kind.Output out.output (λ g. g))

-- the first signal of a name
record Named (signals : List Signal) (x : Name) : Type 0 where
  signal : Signal
  stands : IsIn signal signals
  width : signal_width signals x ≡ bits signal.width

named_signal : (signals : List Signal) (x : Name) → list_any (λ (s : Signal). bytes_eq s.name x) signals ≡ true → Named signals x
named_signal [] x e = cc
named_signal (s ∷ rest) x e = at_test (named_signal rest x) (bytes_eq s.name x) refl e
  where
    at_test : (list_any (λ (t : Signal). bytes_eq t.name x) rest ≡ true → Named rest x) → (b : Bool) → bytes_eq s.name x ≡ b → (b || list_any (λ (t : Signal). bytes_eq t.name x) rest) ≡ true → Named (s ∷ rest) x
    at_test deeper true t h = record { signal = s; stands = inl refl; width = ap (λ b. unwrap_or (option_map (λ (t : Signal). bits t.width) (if b then Some s else find (λ (t : Signal). bytes_eq t.name x) rest)) 0) t }
    at_test deeper false t h =
        let more = deeper h in
        record {
          signal = more.signal;
          stands = inr more.stands;
          width = ap (λ b. unwrap_or (option_map (λ (t : Signal). bits t.width) (if b then Some s else find (λ (t : Signal). bytes_eq t.name x) rest)) 0) t ∙ more.width;
        }

pub name_wide : (d : Design) → IsSound d → (i : ℕ) (r : Instance) (v : Variant) → Stands d i r v → (x : Name) → list_any (λ (s : Signal). bytes_eq s.name x) v.signals ≡ true → IsWidth (signal_width v.signals x)
name_wide d sound i r v stands x e =
    let n = named_signal v.signals x e in
    subst IsWidth (sym n.width) (signal_wide d sound i r v stands n.signal n.stands n.signal.kind refl)
