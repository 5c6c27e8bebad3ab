-- What a walk gives, and what it counted on the way.
use Rattle.std.proofs.Common.{◌≡◌, ℕ, zero, suc, ◌≤◌, Bool, true, false, ℤ, pos, ◌+ℤ◌, Result, Ok, Err, if◌then◌else◌, nat_le, refl, subst, arith}
use Rattle.elab_core.specs.declared.Count.{Count}
use Rattle.elab_core.specs.declared.Count.TheVariants.{Instances, Turns, Statements, Signals, Parts, Cells}
use Rattle.elab_core.specs.Walk.{Walk, Gives, Faulty, Counted, Fault, and_then, Seen, seen_of, one_more, limit, too_large, judge}
use Rattle.elab_core.specs.Elab.{turns}

-- whatever comes out of the walk, with the counts there, is so, where these were counted before
unfoldable pub Ends : {A : Type 0} → (Seen → A → Type 0) → Seen → Walk A → Type 0
Ends P seen (Gives a) = P seen a
Ends P seen (Faulty fault) = Unit {0}
Ends P seen (Counted what line w) = Ends P (one_more what seen) w

pub ends_then : {A B : Type 0} (P : Seen → A → Type 0) (Q : Seen → B → Type 0) (w : Walk A) (f : A → Walk B) (seen : Seen) → Ends P seen w → ((s : Seen) (a : A) → P s a → Ends Q s (f a)) → Ends Q seen (and_then w f)
unfolding and_then Ends
ends_then P Q (Gives a) f seen h g = g seen a h
ends_then P Q (Faulty fault) f seen h g = tt
ends_then P Q (Counted what line w) f seen h g = ends_then P Q w f (one_more what seen) h g

pub ends_as : {A : Type 0} (P Q : Seen → A → Type 0) (w : Walk A) (seen : Seen) → Ends P seen w → ((s : Seen) (a : A) → P s a → Q s a) → Ends Q seen w
unfolding Ends
ends_as P Q (Gives a) seen h g = g seen a h
ends_as P Q (Faulty fault) seen h g = tt
ends_as P Q (Counted what line w) seen h g = ends_as P Q w (one_more what seen) h g

-- no count falls
pub record Rises (before after : Seen) : Type 0 where
  pub instances : before.instances ≤ after.instances
  pub statements : before.statements ≤ after.statements
  pub signals : before.signals ≤ after.signals
  pub parts : before.parts ≤ after.parts

pub stays : (seen : Seen) → Rises seen seen
stays seen = record { instances = omega arith; statements = omega arith; signals = omega arith; parts = omega arith }

pub rises_on : (a b c : Seen) → Rises a b → Rises b c → Rises a c
rises_on a b c p q = record { instances = omega (arith, p.instances, q.instances); statements = omega (arith, p.statements, q.statements); signals = omega (arith, p.signals, q.signals); parts = omega (arith, p.parts, q.parts) }

pub one_rises : (what : Count) (seen : Seen) → Rises seen (one_more what seen)
one_rises Instances seen = record { instances = omega arith; statements = omega arith; signals = omega arith; parts = omega arith }
one_rises Turns seen = record { instances = omega arith; statements = omega arith; signals = omega arith; parts = omega arith }
one_rises Statements seen = record { instances = omega arith; statements = omega arith; signals = omega arith; parts = omega arith }
one_rises Signals seen = record { instances = omega arith; statements = omega arith; signals = omega arith; parts = omega arith }
one_rises Parts seen = record { instances = omega arith; statements = omega arith; signals = omega arith; parts = omega arith }
one_rises Cells seen = record { instances = omega arith; statements = omega arith; signals = omega arith; parts = omega arith }

-- so it is of every walk
pub rises : {A : Type 0} (w : Walk A) (before seen : Seen) → Rises before seen → Ends (λ s a. Rises before s) seen w
unfolding Ends
rises (Gives a) before seen h = h
rises (Faulty fault) before seen h = tt
rises (Counted what line w) before seen h = rises w before (one_more what seen) (rises_on before seen (one_more what seen) h (one_rises what seen))

-- a walk whose outcome is looked at only by what comes after it
pub after_any : {A B : Type 0} (Q : Seen → B → Type 0) (w : Walk A) (f : A → Walk B) (seen : Seen) → ((s : Seen) (a : A) → Rises seen s → Ends Q s (f a)) → Ends Q seen (and_then w f)
after_any Q w f seen g = ends_then (λ s a. Rises seen s) Q w f seen (rises w seen seen (stays seen)) g

-- ---- what a judged walk gives

-- the counts are within their limits
pub record Within (seen : Seen) : Type 0 where
  pub instances : seen.instances ≤ 4096
  pub statements : seen.statements ≤ 200000
  pub signals : seen.signals ≤ 200000
  pub parts : seen.parts ≤ 2000000

one_within : (what : Count) (seen : Seen) → nat_le (limit what) (seen_of what seen) ≡ false → Within seen → Within (one_more what seen)
one_within Instances seen e h = record { instances = grind (arith, e); statements = h.statements; signals = h.signals; parts = h.parts }
one_within Turns seen e h = record { instances = h.instances; statements = h.statements; signals = h.signals; parts = h.parts }
one_within Statements seen e h = record { instances = h.instances; statements = grind (arith, e); signals = h.signals; parts = h.parts }
one_within Signals seen e h = record { instances = h.instances; statements = h.statements; signals = grind (arith, e); parts = h.parts }
one_within Parts seen e h = record { instances = h.instances; statements = h.statements; signals = h.signals; parts = grind (arith, e) }
one_within Cells seen e h = h

abbrev OkHas : {A : Type 0} → (A × Seen → Type 0) → Type 0 → Result (A × Seen) Fault → Type 0
OkHas P Q (Ok x) = P x
OkHas P Q (Err fault) = Q

err_is_not_ok : {A : Type 0} (fault : Fault) (p : A × Seen) → Err fault ≡ Ok p → ⊥
err_is_not_ok {A = A} fault p e = let P : Result (A × Seen) Fault → Type 0 = OkHas (λ x. ⊥) (Unit {0}) in subst P e tt

pub judged : {A : Type 0} (P : Seen → A → Type 0) (w : Walk A) (seen s : Seen) (a : A) → Ends P seen w → Within seen → judge seen w ≡ Ok (a, s) → P s a × Within s
unfolding judge Ends
judged {A = A} P (Gives b) seen s a h in_limits e =
    let Q : Result (A × Seen) Fault → Type 0 = OkHas (λ x. P x.1 x.0 × Within x.1) (Unit {0}) in subst Q e (h, in_limits)
judged P (Faulty fault) seen s a h in_limits e = absurd (err_is_not_ok fault (a, s) e)
judged {A = A} P (Counted what line w) seen s a h in_limits e = by_test (nat_le (limit what) (seen_of what seen)) refl e (λ l r. judged P w (one_more what seen) s a h l r)
  where
    by_test : (b : Bool) → nat_le (limit what) (seen_of what seen) ≡ b → (if b then Err (too_large line what) else judge (one_more what seen) w) ≡ Ok (a, s)
        → (Within (one_more what seen) → judge (one_more what seen) w ≡ Ok (a, s) → P s a × Within s) → P s a × Within s
    by_test true same r go = absurd (err_is_not_ok (too_large line what) (a, s) r)
    by_test false same r go = go (one_within what seen same in_limits) r

-- ---- loops

-- what each turn keeps, all turns keep
pub turns_keep : {A : Type 0} (P : Seen → A → Type 0) (line : ℕ) (f : ℤ → A → Walk A) (k : ℤ) (count : ℕ) (made : A) (seen : Seen)
    → ((what : Count) (s : Seen) (a : A) → P s a → P (one_more Turns s) a) → ((k : ℤ) (s : Seen) (a : A) → P s a → Ends P s (f k a)) → P seen made → Ends P seen (turns line f k count made)
unfolding turns Ends and_then
turns_keep P line f k zero made seen turn each h = h
turns_keep P line f k (suc count) made seen turn each h =
    ends_then P P (f k made) (λ more. turns line f (k +ℤ pos 1) count more) (one_more Turns seen) (each k (one_more Turns seen) made (turn Turns seen made h))
    (λ s a p. turns_keep P line f (k +ℤ pos 1) count a s turn each p)

pub ends_either : {A : Type 0} (P : Seen → A → Type 0) (b : Bool) (v w : Walk A) (seen : Seen) → Ends P seen v → Ends P seen w → Ends P seen (if b then v else w)
ends_either P true v w seen h g = h
ends_either P false v w seen h g = g
