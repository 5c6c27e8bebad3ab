-- A `case` whose arms assign a part of a signal, computed; and that its cycles are a run.
use Rattle.std.proofs.Common.{◌≡◌, ℕ, zero, suc, ◌<◌, Bool, true, false, ◌||◌, Some, refl, sym, subst, arith}
use Rattle.std.proofs.lemmas.Slice.Eq.{bytes_eq-Decides}
use Rattle.std.specs.Prelude.{bytes_eq, codes}
use Rattle.std.specs.Fmt.{digits}
use Rattle.bv_core.specs.Operators.{digit_by_digit}
use Rattle.bv_core.specs.Text.{hex_digits}
use Rattle.bv_core.specs.Value.{Bits}
use Rattle.tree_core.specs.Width.{IsOf}
use Rattle.exec_core.specs.Block.{Name, Now, own}
use Rattle.exec_core.specs.Whole.{Place}
use Rattle.exec_core.specs.Design.{Process, place}
use Rattle.exec_core.specs.Run.{ends, Settled}
use Rattle.design_exec.specs.Processes.{process, processes_of}
use Rattle.elab_core.specs.Walk.{and_then, judge}
use Rattle.elab_core.specs.Numbers.{number, index_name, two_numbers}
use Rattle.elab_core.specs.Elab.{literal, expr, literals, part_bounds, turns, statement, distinct, arguments, parameters, values, ports, conns, asked, count_outputs, register, wire_signal, item_walk, module_walk, instance, top_arguments, top_values, top_walk}
use Rattle.hand_samples.specs.Cases.{of_width, driving, top, design, cycle, IsElaboratedByHand, CasesRunByHand, IsCasesTrailByHand}

pub is_elaborated_by_hand : IsElaboratedByHand
unfolding digits and_then judge number index_name two_numbers literal expr literals part_bounds turns statement distinct arguments parameters values ports conns asked count_outputs register wire_signal item_walk module_walk instance top_arguments top_values top_walk
is_elaborated_by_hand = refl

pub is_cases_trail_by_hand : IsCasesTrailByHand
unfolding digits hex_digits digit_by_digit
is_cases_trail_by_hand = (refl, refl)

never : false ≡ true → ⊥
never e = cc

-- its signals are `s`, `a`, `y` and `z` of the one instance
each_signal : (P : Place → Type 0) → P (place 0 (codes "s")) → P (place 0 (codes "a")) → P (place 0 (codes "y")) → P (place 0 (codes "z")) → (i : ℕ) (x : Name) → (processes_of design).is_signal (place i x) ≡ true → P (place i x)
each_signal P of_s of_a of_y of_z (suc i) x e = absurd (never e)
each_signal P of_s of_a of_y of_z zero x e = by_name (bytes_eq (codes "s") x) (bytes_eq (codes "a") x) (bytes_eq (codes "y") x) (bytes_eq (codes "z") x) refl refl refl refl e
  where
    by_name : (a b c d : Bool) → bytes_eq (codes "s") x ≡ a → bytes_eq (codes "a") x ≡ b → bytes_eq (codes "y") x ≡ c → bytes_eq (codes "z") x ≡ d → (a || (b || (c || (d || false)))) ≡ true → P (place 0 x)
    by_name true b c d f g h k e = subst (λ y. P (place 0 y)) ((bytes_eq-Decides (codes "s") x).0 f) of_s
    by_name false true c d f g h k e = subst (λ y. P (place 0 y)) ((bytes_eq-Decides (codes "a") x).0 g) of_a
    by_name false false true d f g h k e = subst (λ y. P (place 0 y)) ((bytes_eq-Decides (codes "y") x).0 h) of_y
    by_name false false false true f g h k e = subst (λ y. P (place 0 y)) ((bytes_eq-Decides (codes "z") x).0 k) of_z
    by_name false false false false f g h k e = absurd (never e)

has_two : (n : ℕ) → n < 4 → IsOf 2 (of_width 2 n)
has_two n h = record { width = refl; bits = record { some = omega arith; most = omega arith; fits = h } }

has_four : IsOf 4 (of_width 4 5)
has_four = record { width = refl; bits = record { some = omega arith; most = omega arith; fits = omega arith } }

has_eight : (n : ℕ) → n < 256 → IsOf 8 (of_width 8 n)
has_eight n h = record { width = refl; bits = record { some = omega arith; most = omega arith; fits = h } }

have_widths : (s y : ℕ) → s < 4 → y < 256 → (p : Place) → (processes_of design).is_signal p ≡ true → IsOf ((processes_of design).width p) (cycle s y p)
have_widths s y h k p e =
    each_signal (λ p. IsOf ((processes_of design).width p) (cycle s y p)) (has_two s h) has_four (has_eight y k) (has_eight y k) p.instance p.name e

-- the block ends with the values of its targets
abbrev the_block : Process
the_block = process 0 top.signals driving

abbrev Ends : (Place → Bits) → Place → Type 0
Ends E p = own the_block.body p.name ≡ true → ends (processes_of design) the_block E (Now p.name) ≡ Some (E p)

settles : (s y : ℕ) → s < 4 → y < 256 → Ends (cycle s y) (place 0 (codes "y")) → Ends (cycle s y) (place 0 (codes "z")) → (registers : Place → Bits) (row : Name → Bits) → row (codes "s") ≡ of_width 2 s → row (codes "a") ≡ of_width 4 5
    → Settled (processes_of design) registers row (cycle s y)
settles s y h k of_y of_z registers row is_s is_a = record {
  widths = have_widths s y h k;
  givens = (sym is_s, (sym is_a, tt));
  links = tt;
  blocks = (λ x target. each_signal (Ends (cycle s y)) (λ own. absurd (never own)) (λ own. absurd (never own)) of_y of_z 0 x target.1 target.0, tt);
}

pub cases_run_by_hand : CasesRunByHand
unfolding digit_by_digit
cases_run_by_hand = (
  settles 2 85 (omega arith) (omega arith) (λ own. refl) (λ own. refl) _ _ refl refl,
  (settles 3 255 (omega arith) (omega arith) (λ own. refl) (λ own. refl) _ _ refl refl, tt),
)
