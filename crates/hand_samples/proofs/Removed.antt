-- A design of which not all is kept, computed; and that its cycles are a run.
use Rattle.std.proofs.Common.{◌≡◌, ℕ, zero, suc, ◌<◌, Bool, true, false, ◌||◌, Some, refl, sym, subst, arith}
use Rattle.std.proofs.lemmas.Slice.Eq.{bytes_eq-Decides}
use Rattle.std.specs.Prelude.{bytes_eq, codes}
use Rattle.std.specs.Fmt.{digits}
use Rattle.bv_core.specs.Text.{hex_digits}
use Rattle.bv_core.specs.Value.{Bits}
use Rattle.tree_core.specs.Width.{IsOf}
use Rattle.exec_core.specs.Block.{Name, Now, own}
use Rattle.exec_core.specs.Whole.{Place}
use Rattle.exec_core.specs.Design.{Process, place}
use Rattle.exec_core.specs.Run.{IsTarget, ends, Settled}
use Rattle.design_exec.specs.Processes.{process, processes_of}
use Rattle.hand_samples.specs.Removed.{four, driving, counting, top, design, cycle, IsKeptByHand, RunsByHand, IsTrailByHand}

pub is_kept_by_hand : IsKeptByHand
is_kept_by_hand = record { opt = refl; keep = refl }

pub is_trail_by_hand : IsTrailByHand
unfolding digits hex_digits
is_trail_by_hand = record { keep = refl; opt = refl }

never : false ≡ true → ⊥
never e = cc

-- its signals are `x`, `y` and `r` of the one instance
each_signal : (P : Place → Type 0) → P (place 0 (codes "x")) → P (place 0 (codes "y")) → P (place 0 (codes "r")) → (i : ℕ) (x : Name) → (processes_of design).is_signal (place i x) ≡ true → P (place i x)
each_signal P of_x of_y of_r (suc i) x e = absurd (never e)
each_signal P of_x of_y of_r zero x e = by_name (bytes_eq (codes "x") x) (bytes_eq (codes "y") x) (bytes_eq (codes "r") x) refl refl refl e
  where
    by_name : (a b c : Bool) → bytes_eq (codes "x") x ≡ a → bytes_eq (codes "y") x ≡ b → bytes_eq (codes "r") x ≡ c → (a || (b || (c || false))) ≡ true → P (place 0 x)
    by_name true b c f g h e = subst (λ y. P (place 0 y)) ((bytes_eq-Decides (codes "x") x).0 f) of_x
    by_name false true c f g h e = subst (λ y. P (place 0 y)) ((bytes_eq-Decides (codes "y") x).0 g) of_y
    by_name false false true f g h e = subst (λ y. P (place 0 y)) ((bytes_eq-Decides (codes "r") x).0 h) of_r
    by_name false false false f g h e = absurd (never e)

has_four : (n : ℕ) → n < 16 → IsOf 4 (four n)
has_four n h = record { width = refl; bits = record { some = omega arith; most = omega arith; fits = h } }

have_four : (x r : ℕ) → x < 16 → r < 16 → (p : Place) → (processes_of design).is_signal p ≡ true → IsOf ((processes_of design).width p) (cycle x r p)
have_four x r h k p e =
    each_signal (λ p. IsOf ((processes_of design).width p) (cycle x r p)) (has_four x h) (has_four x h) (has_four r k) p.instance p.name e

-- a block ends with the values of its targets
abbrev Ends : Process → (Place → Bits) → Place → Type 0
Ends b E p = own b.body p.name ≡ true → ends (processes_of design) b E (Now p.name) ≡ Some (E p)

targets_end : (b : Process) (E : Place → Bits) → b.instance ≡ 0 → Ends b E (place 0 (codes "x")) → Ends b E (place 0 (codes "y")) → Ends b E (place 0 (codes "r")) → (x : Name)
    → IsTarget (processes_of design) b x → ends (processes_of design) b E (Now x) ≡ Some (E (place b.instance x))
targets_end b E here of_x of_y of_r x target = each_signal (Ends b E) of_x of_y of_r b.instance x target.1 target.0

settles : (x r : ℕ) → x < 16 → r < 16 → (registers : Place → Bits) (row : Name → Bits) → row (codes "x") ≡ four x → registers (place 0 (codes "r")) ≡ four r → Settled (processes_of design) registers row (cycle x r)
settles x r h k registers row is_x is_r = record {
  widths = have_four x r h k;
  givens = (sym is_x, (sym is_r, tt));
  links = tt;
  blocks = (
    targets_end (process 0 top.signals driving) (cycle x r) refl (λ own. absurd (never own)) (λ own. refl) (λ own. absurd (never own)),
    (targets_end (process 0 top.signals counting) (cycle x r) refl (λ own. absurd (never own)) (λ own. absurd (never own)) (λ own. absurd (never own)), tt),
  );
}

pub runs_by_hand : RunsByHand
runs_by_hand = (settles 5 0 (omega arith) (omega arith) _ _ refl refl, (settles 6 1 (omega arith) (omega arith) _ _ refl refl, tt))
