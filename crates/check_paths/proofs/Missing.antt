-- A name of which some bit is missing.
use Rattle.std.proofs.Common.{◌≡◌, ℕ, zero, suc, ◌+◌, ◌<◌, ◌≤◌, ℤ, Bool, true, false, not, ◌||◌, ◌&&◌, bytes_eq, List, [], ◌∷◌, length, drop, get_or, Option, Some, None, option_map, unwrap_or, find, if◌then◌else◌, true≢false, refl, sym, ap, ap₂, ◌∙◌}
use Rattle.std.proofs.lemmas.Slice.Eq.{bytes_eq-Decides}
use Rattle.std.proofs.lemmas.List.{drop_more}
use Rattle.std.proofs.Math.ListN.{drop_of_length-le}
use Rattle.exec_core.specs.Exec.{all_below}
use Rattle.exec_core.specs.Decided.{some_below}
use Rattle.design_core.specs.declared.variant.Signal.{Signal}
use Rattle.design_core.specs.Design.{Read}
use Rattle.design_core.specs.Widths.{bits}
use Rattle.names.specs.Known.{Name, Known}
use Rattle.names.specs.Maps.{put_value, no_value}
use Rattle.check_core.specs.declared.fault.CheckFault.TheVariants.{ReadBeforeWrite}
use Rattle.check_core.specs.Faults.{earlier, spot}
use Rattle.check_core.specs.Paths.{Bits, declared_width, early_read}
use Rattle.name_widths.specs.DeclaredWidths.{Declared, declared_also, all_declared, width_at}
use Rattle.check_paths.specs.Frames.{bits_at}
use Rattle.check_paths.specs.Walked.{missing}

-- ---- some bit is missing where not all are there

pub none_below : (w : ℕ) → some_below w (λ i. false) ≡ false
none_below zero = refl
none_below (suc w) = none_below w

not_all : (w : ℕ) (f : ℕ → Bool) → some_below w (λ i. not (f i)) ≡ not (all_below w f)
not_all zero f = refl
not_all (suc w) f = ap (λ b. not (f w) || b) (not_all w f) ∙ morgan (f w) (all_below w f)
  where
    morgan : (a b : Bool) → (not a || not b) ≡ not (a && b)
    morgan true b = refl
    morgan false b = refl

twice : (b : Bool) → not (not b) ≡ b
twice true = refl
twice false = refl

pub some_is : (w : ℕ) (f : ℕ → Bool) → some_below w f ≡ not (all_below w (λ i. not (f i)))
some_is w f = ap (some_below w) (λ j i. sym (twice (f i)) j) ∙ not_all w (λ i. not (f i))

-- ---- a read of a name

pub name_unwatched : (widths : Name → ℕ) (watched : Known) (assigned : Bits) (line : ℕ) (x : Name) → watched x ≡ false → early_read widths (missing watched assigned) line (Read x) ≡ None
name_unwatched widths watched assigned line x off =
    ap (λ b. if some_below (widths x) (λ i. b && not (assigned x i)) then Some (ReadBeforeWrite (spot line x)) else None) off
    ∙ ap (λ b. if b then Some (ReadBeforeWrite (spot line x)) else None) (none_below (widths x))

watched_read : (widths : Name → ℕ) (watched : Known) (assigned : Bits) (line : ℕ) (x : Name) → watched x ≡ true
    → early_read widths (missing watched assigned) line (Read x) ≡ (if not (all_below (widths x) (bits_at assigned x)) then Some (ReadBeforeWrite (spot line x)) else None)
watched_read widths watched assigned line x on =
    ap (λ b. if some_below (widths x) (λ i. b && not (assigned x i)) then Some (ReadBeforeWrite (spot line x)) else None) on
    ∙ ap (λ b. if b then Some (ReadBeforeWrite (spot line x)) else None) (not_all (widths x) (bits_at assigned x))

pub name_full : (widths : Name → ℕ) (watched : Known) (assigned : Bits) (line : ℕ) (x : Name) (set : ℕ → Bool) (w : ℕ) → watched x ≡ true → set ≡ bits_at assigned x → w ≡ widths x → all_below w set ≡ true
    → early_read widths (missing watched assigned) line (Read x) ≡ None
name_full widths watched assigned line x set w on is wide full =
    watched_read widths watched assigned line x on
    ∙ ap (λ b. if not b then Some (ReadBeforeWrite (spot line x)) else None) (sym (ap₂ all_below wide is) ∙ full)

pub name_early : (widths : Name → ℕ) (watched : Known) (assigned : Bits) (line : ℕ) (x : Name) (set : ℕ → Bool) (w : ℕ) → watched x ≡ true → set ≡ bits_at assigned x → w ≡ widths x → all_below w set ≡ false
    → early_read widths (missing watched assigned) line (Read x) ≡ Some (ReadBeforeWrite (spot line x))
name_early widths watched assigned line x set w on is wide full =
    watched_read widths watched assigned line x on
    ∙ ap (λ b. if not b then Some (ReadBeforeWrite (spot line x)) else None) (sym (ap₂ all_below wide is) ∙ full)

pub ruleset name_steps = (name_unwatched, name_full, name_early)
