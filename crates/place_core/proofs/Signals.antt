-- A pair that leads to a place leads to a signal.
use Rattle.std.proofs.Common.{◌≡◌, ℕ, zero, suc, Bool, true, false, ◌||◌, List, [], ◌∷◌, Option, Some, None, option_map, refl, ap, ◌∙◌, subst, bytes_eq}
use Rattle.std.specs.Prelude.{slice_get}
use Rattle.std.specs.List.{list_any}
use Rattle.std.proofs.lemmas.Option.{none-some}
use Rattle.std.proofs.lemmas.Slice.Eq.{bytes_eq-Decides}
use Rattle.list_core.proofs.Options.{some_same}
use Rattle.exec_core.specs.Whole.{Place}
use Rattle.exec_core.specs.Design.{place}
use Rattle.design_core.specs.declared.variant.Signal.{Signal}
use Rattle.design_core.specs.Design as design
use Rattle.design_exec.specs.Processes.{instance_signals, is_signal_of}
use Rattle.place_core.specs.Orders.{Pair, signal_at}

named_here : (signals : List Signal) (k : ℕ) (s : Signal) → slice_get signals k ≡ Some s → list_any (λ (y : Signal). bytes_eq y.name s.name) signals ≡ true
named_here [] k s e = absurd (none-some s e)
named_here (y ∷ ys) zero s e = ap (λ (b : Bool). b || list_any (λ (y : Signal). bytes_eq y.name s.name) ys) ((bytes_eq-Decides y.name s.name).1 (ap (λ (z : Signal). z.name) (some_same y s e)))
named_here (y ∷ ys) (suc k) s e = ap (λ (b : Bool). bytes_eq y.name s.name || b) (named_here ys k s e) ∙ or_true (bytes_eq y.name s.name)
  where
    or_true : (b : Bool) → (b || true) ≡ true
    or_true true = refl
    or_true false = refl

pub is_signal : (d : design.Design) (q : Pair) (p : Place) → signal_at d q ≡ Some p → is_signal_of d p ≡ true
is_signal d q p e = go (slice_get (instance_signals d q.0) q.1) refl e
  where
    go : (o : Option Signal) → slice_get (instance_signals d q.0) q.1 ≡ o → option_map (λ (s : Signal). place q.0 s.name) o ≡ Some p → is_signal_of d p ≡ true
    go None f g = absurd (none-some p g)
    go (Some s) f g = subst (λ (r : Place). is_signal_of d r ≡ true) (some_same (place q.0 s.name) p g) (named_here (instance_signals d q.0) q.1 s f)
