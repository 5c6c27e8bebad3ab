-- Widths that are widths, and those of signals.
use Rattle.std.proofs.Common.{◌≡◌, ℕ, ◌≤◌, ◌==◌, ◌^◌, Bool, true, false, ◌&&◌, not, nat_lt, bytes_eq, List, [], ◌∷◌, map, Some, None, option_map, unwrap_or, Result, Ok, Err, inl, inr, refl, sym, ap, ◌∙◌, subst, if◌then◌else◌, leb-true, ltb-true, eqb-true}
use Rattle.std.specs.Prelude.{ℤ, pos, negsuc, find}
use Rattle.std.proofs.lemmas.Option.{none-some}
use Rattle.bv_core.specs.Value.{IsBits}
use Rattle.tree_core.proofs.Same.{both_true}
use Rattle.exec_core.specs.Block.{Name}
use Rattle.list_core.specs.Lists.{IsIn}
use Rattle.design_core.specs.declared.expr.Literal.{Literal}
use Rattle.design_core.specs.declared.variant.Signal.{Signal}
use Rattle.design_exec.specs.Processes.{signal_width, value_of}
use Rattle.check_core.specs.declared.fault.CheckFault.{CheckFault}
use Rattle.check_core.specs.declared.fault.Clash.{Clash}
use Rattle.names.specs.Known.{Known, with}
use Rattle.check_core.specs.Names.{signal_thing, unless_known}
use Rattle.check_core.specs.Widths.{is_width, is_literal, unless_sized, mismatch, needed}
use Rattle.design_core.specs.Widths.{bits}
use Rattle.check_exec.proofs.Facts.{name_same, eq_turned}
use Rattle.check_exec.proofs.Names.{Differ, other_behind}

pub width_from : (n : ℤ) → is_width n ≡ true → (1 ≤ bits n) × (bits n ≤ 128)
width_from (pos n) e = let both = both_true _ _ e in (leb-true 1 n both.0, leb-true n 128 both.1)
width_from (negsuc n) e = cc

pub literal_bits : (l : Literal) → is_literal l ≡ true → IsBits (value_of l)
literal_bits l e =
    let both = both_true (is_width l.width) (not l.negative && nat_lt l.value (2 ^ bits l.width)) e in
    let fits = both_true (not l.negative) (nat_lt l.value (2 ^ bits l.width)) both.1 in
    let width = width_from l.width both.0 in
    record {
      some = width.0;
      most = width.1;
      fits = (ltb-true l.value (2 ^ bits l.width) fits.1);
    }

-- ---- what no fault means

pub sized : (b : Bool) (line : ℕ) (name : Name) → unless_sized b line name ≡ None → b ≡ true
sized true line name e = refl
sized false line name e = absurd (none-some _ (sym e))

pub is_known : (b : Bool) (fault : CheckFault) → unless_known b fault ≡ None → b ≡ true
is_known true fault e = refl
is_known false fault e = absurd (none-some _ (sym e))

pub matches : (line : ℕ) (name : Name) (r : Result ℕ Clash) → mismatch line name r ≡ None → (w : ℕ) × (r ≡ Ok w)
matches line name (Ok w) e = (w, refl)
matches line name (Err found) e = absurd (none-some _ (sym e))

abbrev is_ok : {A B : Type 0} → Result A B → Type 0
is_ok (Ok a) = Unit {0}
is_ok (Err b) = ⊥

pub err_ok : {A B : Type 0} (b : B) (a : A) → ◌≡◌ {A = Result A B} (Err b) (Ok a) → ⊥
err_ok b a e = subst is_ok (sym e) tt

pub same_ok : {A B : Type 0} (a b : A) → ◌≡◌ {A = Result A B} (Ok a) (Ok b) → a ≡ b
same_ok {A = A} {B = B} a b e = let f : Result A B → A = λ r. elim r [ Ok c ↦ c | Err d ↦ a ] in ap f e

pub if_ok : (b : Bool) (a w : ℕ) (f : Clash) → (if b then Ok a else Err f) ≡ Ok w → (b ≡ true) × (a ≡ w)
if_ok true a w f e = (refl, same_ok a w e)
if_ok false a w f e = absurd (err_ok f w e)

-- what is needed is there
pub needed_there : (want : ℕ) (r : Result ℕ Clash) (w : ℕ) → needed want r ≡ Ok w → r ≡ Ok want
needed_there want (Ok have) w e = ap (λ n. Ok n) (eqb-true have want (if_ok (have == want) want w (record { have = have; want = want }) e).0)
needed_there want (Err found) w e = absurd (err_ok found w e)

-- ---- the width of a signal

-- the only signal of a name has its width
pub width_is : (taken : Known) (signals : List Signal) → Differ taken (map signal_thing signals) → (s : Signal) → IsIn s signals → signal_width signals s.name ≡ bits s.width
width_is taken [] d s i = absurd i
width_is taken (t ∷ signals) d s (inl e) =
    ap (λ b. unwrap_or (option_map (λ (q : Signal). bits q.width) (if b then Some t else find (λ (q : Signal). bytes_eq q.name s.name) signals)) 0)
    (name_same t.name s.name (sym (ap (λ (q : Signal). q.name) e)))
    ∙ ap (λ (q : Signal). bits q.width) (sym e)
width_is taken (t ∷ signals) d s (inr i) =
    ap (λ b. unwrap_or (option_map (λ (q : Signal). bits q.width) (if b then Some t else find (λ (q : Signal). bytes_eq q.name s.name) signals)) 0)
    (eq_turned t.name s.name ∙ other_behind taken t signals d.1 s i)
    ∙ width_is (with t.name taken) signals d.1 s i
