-- Widths, one signal after another.
use Rattle.std.proofs.Common.{◌≡◌, ℕ, ◌+◌, ◌<◌, ◌≤◌, ℤ, Bool, true, false, bytes_eq, List, [], ◌∷◌, length, drop, get_or, Option, Some, None, option_map, unwrap_or, find, if◌then◌else◌, true≢false, refl, sym, ap, ◌∙◌}
use Rattle.std.proofs.lemmas.Slice.Eq.{bytes_eq-Decides}
use Rattle.std.proofs.lemmas.List.{drop_more}
use Rattle.std.proofs.Math.ListN.{drop_of_length-le}
use Rattle.design_core.specs.declared.variant.Signal.{Signal}
use Rattle.design_core.specs.Widths.{bits}
use Rattle.names.specs.Known.{Name}
use Rattle.names.specs.Maps.{put_value, no_value}
use Rattle.check_core.specs.Faults.{earlier}
use Rattle.check_core.specs.Paths.{declared_width}
use Rattle.name_widths.specs.DeclaredWidths.{Declared, declared_also, all_declared, width_at}

earlier_none : {A : Type 0} (o : Option A) → o ≡ earlier o None
earlier_none (Some a) = refl
earlier_none None = refl

-- a name without a width has this one from here on
pub width_new : (old new : Declared) (s : Signal) → old s.name ≡ None → new ≡ put_value s.name s.width old → new ≡ declared_also old s
width_new old new s e is = is ∙ (λ j y. at y (bytes_eq y s.name) (bytes_eq s.name y) refl refl j)
  where
    at : (y : Name) (b c : Bool) → bytes_eq y s.name ≡ b → bytes_eq s.name y ≡ c → (if b then Some s.width else old y) ≡ earlier (old y) (if c then Some s.width else None)
    at y true true same also = ap (λ o. earlier o (Some s.width)) (sym (ap old ((bytes_eq-Decides y s.name).0 same) ∙ e))
    at y true false same other = absurd (true≢false (sym ((bytes_eq-Decides s.name y).1 (sym ((bytes_eq-Decides y s.name).0 same))) ∙ other))
    at y false true other same = absurd (true≢false (sym ((bytes_eq-Decides y s.name).1 (sym ((bytes_eq-Decides s.name y).0 same))) ∙ other))
    at y false false other also = earlier_none (old y)

-- one with a width keeps it
pub width_old : (old : Declared) (s : Signal) (w : ℤ) → old s.name ≡ Some w → old ≡ declared_also old s
width_old old s w e = λ j y. at y (bytes_eq s.name y) refl j
  where
    at : (y : Name) (b : Bool) → bytes_eq s.name y ≡ b → old y ≡ earlier (old y) (if b then Some s.width else None)
    at y true same =
        let there : old y ≡ Some w = ap old (sym ((bytes_eq-Decides s.name y).0 same)) ∙ e in
        there ∙ ap (λ o. earlier o (Some s.width)) (sym there)
    at y false other = earlier_none (old y)

pub ruleset width_steps = (width_new, width_old)

pub declared_next : (signals : List Signal) (i : ℕ) (s : Signal) (old new : Declared) → i < length signals → s ≡ get_or signals i s → new ≡ declared_also old s
    → all_declared new (drop (i + 1) signals) ≡ all_declared old (drop i signals)
declared_next signals i s old new inside at is =
    ap (λ (d : Declared). all_declared d (drop (i + 1) signals)) is
    ∙ ap (all_declared old) (sym (drop_more signals i s inside ∙ ap (λ (t : Signal). t ∷ drop (i + 1) signals) (sym at)))

pub declared_end : (signals : List Signal) (i : ℕ) (widths : Declared) → length signals ≤ i → all_declared widths (drop i signals) ≡ widths
declared_end signals i widths past = ap (all_declared widths) (drop_of_length-le signals past)

all_found : (signals : List Signal) (old : Declared) (y : Name) → all_declared old signals y ≡ earlier (old y) (option_map (λ (s : Signal). s.width) (find (λ (s : Signal). bytes_eq s.name y) signals))
all_found [] old y = earlier_none (old y)
all_found (s ∷ rest) old y = all_found rest (declared_also old s) y ∙ by_test (bytes_eq s.name y) (old y) (find (λ (s : Signal). bytes_eq s.name y) rest)
  where
    by_test : (b : Bool) (o : Option ℤ) (f : Option Signal)
        → earlier (earlier o (if b then Some s.width else None)) (option_map (λ (s : Signal). s.width) f) ≡ earlier o (option_map (λ (s : Signal). s.width) (if b then Some s else f))
    by_test b (Some w) f = refl
    by_test true None f = refl
    by_test false None f = refl

pub declared_of : (signals : List Signal) (begun widths : Declared) → begun ≡ no_value → widths ≡ all_declared begun signals → width_at widths ≡ declared_width signals
declared_of signals begun widths none is =
    λ j x. (ap (λ (d : Declared). unwrap_or (option_map bits (d x)) 1) (is ∙ ap (λ (d : Declared). all_declared d signals) none)
    ∙ ap (λ o. unwrap_or (option_map bits o) 1) (all_found signals no_value x) ∙ by_find (find (λ (s : Signal). bytes_eq s.name x) signals)) j
  where
    by_find : (f : Option Signal) → unwrap_or (option_map bits (earlier None (option_map (λ (s : Signal). s.width) f))) 1 ≡ unwrap_or (option_map (λ (s : Signal). bits s.width) f) 1
    by_find None = refl
    by_find (Some s) = refl
