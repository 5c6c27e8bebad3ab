-- Walks that have no fault of their own: what comes out, and the counts at the end. Where those are within the limits, no count on the way
-- passes one.
use Rattle.std.proofs.Common.{◌≡◌, ℕ, ◌≤◌, ◌<◌, false, Option, Some, None, Result, Ok, refl, ap, subst, ◌∙◌, arith}
use Rattle.std.specs.Prelude.{nat_le}
use Rattle.std.proofs.lemmas.Bool.Decides.{nat_tests}
use Rattle.elab_core.specs.declared.fault.Count.{Count}
use Rattle.elab_core.specs.declared.fault.Count.TheVariants.{Instances, Turns, Statements, Signals, Parts, Cells}
use Rattle.elab_core.specs.Walk.{Walk, Gives, Faulty, Counted, Fault, and_then, Seen, seen_of, one_more, limit, judge}

-- what a walk ends with, whatever the limits are
unfoldable pub walk_end : {A : Type 0} → Seen → Walk A → Option (A × Seen)
walk_end seen (Gives a) = Some (a, seen)
walk_end seen (Faulty fault) = None
walk_end seen (Counted what line w) = walk_end (one_more what seen) w

abbrev pub end_then : {A B : Type 0} → Option (A × Seen) → (A → Walk B) → Option (B × Seen)
end_then None f = None
end_then (Some found) f = walk_end found.1 (f found.0)

pub walk_end_then : {A B : Type 0} (seen : Seen) (w : Walk A) (f : A → Walk B) → walk_end seen (and_then w f) ≡ end_then (walk_end seen w) f
unfolding walk_end and_then
walk_end_then seen (Gives a) f = refl
walk_end_then seen (Faulty fault) f = refl
walk_end_then seen (Counted what line w) f = walk_end_then (one_more what seen) w f

pub ends_then : {A B : Type 0} (seen after : Seen) (w : Walk A) (f : A → Walk B) (a : A) (o : Option (B × Seen)) → walk_end seen w ≡ Some (a, after) → walk_end after (f a) ≡ o → walk_end seen (and_then w f) ≡ o
ends_then seen after w f a o e h = walk_end_then seen w f ∙ ap (λ found. end_then found f) e ∙ h

-- ---- the limits

-- no more than the limits
pub record AreUnderLimits (seen : Seen) : Type 0 where
  pub instances : seen.instances ≤ 4096
  pub turns : seen.turns ≤ 1000000
  pub statements : seen.statements ≤ 200000
  pub signals : seen.signals ≤ 200000
  pub parts : seen.parts ≤ 2000000

-- no fewer of any
record AreFewer (a b : Seen) : Type 0 where
  instances : a.instances ≤ b.instances
  turns : a.turns ≤ b.turns
  statements : a.statements ≤ b.statements
  signals : a.signals ≤ b.signals
  parts : a.parts ≤ b.parts

fewer_after : (what : Count) (seen after : Seen) → AreFewer (one_more what seen) after → AreFewer seen after
fewer_after Instances seen after h = omega (arith, h)
fewer_after Turns seen after h = omega (arith, h)
fewer_after Statements seen after h = omega (arith, h)
fewer_after Signals seen after h = omega (arith, h)
fewer_after Parts seen after h = omega (arith, h)
fewer_after Cells seen after h = h

abbrev FewerIn : {A : Type 0} → Seen → Option (A × Seen) → Type 0
FewerIn seen None = Unit {0}
FewerIn seen (Some found) = AreFewer seen found.1

fewer_in : {A : Type 0} (what : Count) (seen : Seen) (o : Option (A × Seen)) → FewerIn (one_more what seen) o → FewerIn seen o
fewer_in what seen None h = tt
fewer_in what seen (Some found) h = fewer_after what seen found.1 h

ends_with_more : {A : Type 0} (seen : Seen) (w : Walk A) → FewerIn seen (walk_end seen w)
unfolding walk_end
ends_with_more seen (Gives a) = record { instances = omega arith; turns = omega arith; statements = omega arith; signals = omega arith; parts = omega arith }
ends_with_more seen (Faulty fault) = tt
ends_with_more seen (Counted what line w) = fewer_in what seen (walk_end (one_more what seen) w) (ends_with_more (one_more what seen) w)

no_more : (what : Count) (seen after : Seen) → AreFewer (one_more what seen) after → AreUnderLimits after → nat_le (limit what) (seen_of what seen) ≡ false
no_more Instances seen after h g = let lt : seen.instances < 4096 = omega (arith, h, g) in grind (arith, nat_tests)
no_more Turns seen after h g = let lt : seen.turns < 1000000 = omega (arith, h, g) in grind (arith, nat_tests)
no_more Statements seen after h g = let lt : seen.statements < 200000 = omega (arith, h, g) in grind (arith, nat_tests)
no_more Signals seen after h g = let lt : seen.signals < 200000 = omega (arith, h, g) in grind (arith, nat_tests)
no_more Parts seen after h g = let lt : seen.parts < 2000000 = omega (arith, h, g) in grind (arith, nat_tests)
no_more Cells seen after h g = refl

abbrev JudgedSo : {A : Type 0} → Option (A × Seen) → Result (A × Seen) Fault → Type 0
JudgedSo None r = Unit {0}
JudgedSo (Some found) r = AreUnderLimits found.1 → r ≡ Ok found

judges_counted : {A : Type 0} (what : Count) (line : ℕ) (seen : Seen) (w : Walk A) (o : Option (A × Seen)) → FewerIn (one_more what seen) o → JudgedSo o (judge (one_more what seen) w)
    → JudgedSo o (judge seen (Counted what line w))
unfolding judge
judges_counted what line seen w None f h = tt
judges_counted what line seen w (Some found) f h = λ g. rw (no_more what seen found.1 f g) (h g)

judges : {A : Type 0} (seen : Seen) (w : Walk A) → JudgedSo (walk_end seen w) (judge seen w)
unfolding walk_end judge
judges seen (Gives a) = λ g. refl
judges seen (Faulty fault) = tt
judges seen (Counted what line w) = judges_counted what line seen w (walk_end (one_more what seen) w) (ends_with_more (one_more what seen) w) (judges (one_more what seen) w)

-- where the counts at the end are within the limits, the walk has no fault
pub judged_so : {A : Type 0} (seen after : Seen) (w : Walk A) (a : A) → walk_end seen w ≡ Some (a, after) → AreUnderLimits after → judge seen w ≡ Ok (a, after)
judged_so seen after w a e g = (subst (λ o. JudgedSo o (judge seen w)) e (judges seen w)) g
