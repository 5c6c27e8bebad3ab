-- The inputs and outputs of the top of an accepted design have widths from 1 to 128.
use Rattle.std.proofs.Common.{◌≡◌, true, ◌&&◌, List, [], ◌∷◌, Option, Some, None, option_map, unwrap_or, refl, ap, ap₂, ◌∙◌}
use Rattle.std.specs.Prelude.{slice_get}
use Rattle.list_core.specs.Lists.{EachOf}
use Rattle.list_core.proofs.Lists.{each_from}
use Rattle.design_core.specs.declared.variant.Signal.{Signal}
use Rattle.design_core.specs.declared.variant.Kind.{Kind}
use Rattle.design_core.specs.declared.variant.Kind.TheVariants.{Input, Output, Wire, Reg, ChildOut}
use Rattle.design_core.specs.Design.{Variant, Design}
use Rattle.design_core.specs.Ports.{fits, all_fit, top_signals}
use Rattle.check_core.specs.Widths.{is_declared}
use Rattle.check_exec.specs.Premises.{IsSound}
use Rattle.check_exec.proofs.Instances.{Stands, clean}
use Rattle.check_exec.proofs.Givens.{declared_of}

fits_of : (s : Signal) (k : Kind) → is_declared k s.width ≡ true → fits s k ≡ true
fits_of s Input e = e
fits_of s Output e = e
fits_of s Wire e = refl
fits_of s (Reg start) e = refl
fits_of s (ChildOut k port) e = refl

abbrev IsDeclared : Signal → Type 0
IsDeclared s = is_declared s.kind s.width ≡ true

all_fit_of : (signals : List Signal) → EachOf IsDeclared signals → all_fit signals ≡ true
all_fit_of [] h = refl
all_fit_of (s ∷ signals) h = ap₂ (λ a b. a && b) (fits_of s s.kind h.0) (all_fit_of signals h.1)

abbrev signals_or : Option Variant → List Signal
signals_or o = unwrap_or (option_map (λ (w : Variant). w.signals) o) []

pub top_fits : (d : Design) → IsSound d → all_fit (top_signals d) ≡ true
top_fits d sound = by_variant (slice_get d.variants 0) refl
  where
    by_variant : (o : Option Variant) → slice_get d.variants 0 ≡ o → all_fit (top_signals d) ≡ true
    by_variant None e = ap (λ o. all_fit (signals_or o)) e
    by_variant (Some v) e =
        let stands : Stands d 0 (record { path = d.top; variant = 0; parent = None }) v = record { instance = sound.kept.top; variant = e } in
        ap (λ o. all_fit (signals_or o)) e
        ∙ all_fit_of v.signals (each_from IsDeclared v.signals (declared_of d.variants v (clean d sound.accepted 0 (record { path = d.top; variant = 0; parent = None }) v stands)))
