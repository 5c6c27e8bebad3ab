-- One walk after another, judged step by step.
use Rattle.std.proofs.Common.{◌≡◌, true, false, Result, Ok, Err, refl, ap, ◌∙◌, nat_le, if◌then◌else◌}
use Rattle.elab_core.specs.Walk.{Walk, Gives, Faulty, Counted, and_then, judge, Seen, seen_of, one_more, limit, Fault, too_large}

pub gives_then : {A B : Type 0} (w : Walk A) (f : A → Walk B) (a : A) → w ≡ Gives a → and_then w f ≡ f a
unfolding and_then
gives_then w f a e = ap (λ v. and_then v f) e

pub faulty_then : {A B : Type 0} (w : Walk A) (f : A → Walk B) (x : Fault) → w ≡ Faulty x → and_then w f ≡ Faulty x
unfolding and_then
faulty_then w f x e = ap (λ v. and_then v f) e

-- two walks behind a third, as one behind another
pub then_assoc : {A B C : Type 0} (w : Walk A) (f : A → Walk B) (g : B → Walk C) → and_then (and_then w f) g ≡ and_then w (λ a. and_then (f a) g)
unfolding and_then
then_assoc (Gives a) f g = refl
then_assoc (Faulty x) f g = refl
then_assoc (Counted what line w) f g = ap (Counted what line) (then_assoc w f g)

-- what comes after something that was judged
abbrev pub next : {A B : Type 0} → Result (A × Seen) Fault → (A → Seen → Result (B × Seen) Fault) → Result (B × Seen) Fault
next (Ok p) f = f p.0 p.1
next (Err fault) f = Err fault

-- the counts go on
pub judge_then : {A B : Type 0} (seen : Seen) (w : Walk A) (f : A → Walk B) → judge seen (and_then w f) ≡ next (judge seen w) (λ a after. judge after (f a))
unfolding and_then judge
judge_then seen (Gives a) f = refl
judge_then seen (Faulty x) f = refl
judge_then seen (Counted what line w) f =
    elim (nat_le (limit what) (seen_of what seen)) as (λ b. (if b then Err (too_large line what) else judge (one_more what seen) (and_then w f)) ≡ next (if b then Err (too_large line what) else judge (one_more what seen) w) (λ a after. judge after (f a)))
    [ true ↦ refl | false ↦ judge_then (one_more what seen) w f ]

-- ---- the steps of a walk that counts: a step that counts or one that does not, each with what it gives or its fault

pub counted : {A B : Type 0} (seen after : Seen) (w : Walk A) (f : A → Walk B) (a : A) (r : Result (B × Seen) Fault) → judge seen w ≡ Ok (a, after) → judge after (f a) ≡ r → judge seen (and_then w f) ≡ r
counted seen after w f a r e q = judge_then seen w f ∙ ap (λ r. next r (λ a after. judge after (f a))) e ∙ q

pub refused : {A B : Type 0} (seen : Seen) (w : Walk A) (f : A → Walk B) (x : Fault) → judge seen w ≡ Err x → judge seen (and_then w f) ≡ Err x
refused seen w f x e = judge_then seen w f ∙ ap (λ r. next r (λ a after. judge after (f a))) e

pub given : {A B : Type 0} (seen : Seen) (w : Walk A) (f : A → Walk B) (a : A) (r : Result (B × Seen) Fault) → w ≡ Gives a → judge seen (f a) ≡ r → judge seen (and_then w f) ≡ r
given seen w f a r e q = ap (judge seen) (gives_then w f a e) ∙ q

pub faulty : {A B : Type 0} (seen : Seen) (w : Walk A) (f : A → Walk B) (x : Fault) → w ≡ Faulty x → judge seen (and_then w f) ≡ Err x
unfolding judge
faulty seen w f x e = ap (judge seen) (faulty_then w f x e)

pub ends : {A : Type 0} (seen : Seen) (a : A) → judge seen (Gives a) ≡ Ok (a, seen)
unfolding judge
ends seen a = refl

pub judge_given : {A : Type 0} (seen : Seen) (w : Walk A) (a : A) → w ≡ Gives a → judge seen w ≡ Ok (a, seen)
unfolding judge
judge_given seen w a e = ap (judge seen) e

pub judge_faulty : {A : Type 0} (seen : Seen) (w : Walk A) (x : Fault) → w ≡ Faulty x → judge seen w ≡ Err x
unfolding judge
judge_faulty seen w x e = ap (judge seen) e

pub ruleset walk_steps = (gives_then, faulty_then)
