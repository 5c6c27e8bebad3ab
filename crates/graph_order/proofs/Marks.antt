-- Marks that change.
use Rattle.std.proofs.Common.{◌≡◌, ℕ, zero, suc, ◌+◌, ◌<◌, List, [], ◌∷◌, set, length, refl, sym, ◌∙◌, arith, get_or-set_same, get_or-set_other, ap, inl, inr}
use Rattle.std.proofs.lemmas.Bool.{cases_eq}
use Rattle.graph_order.specs.Search.{mark_of, news, StayMarked}
use Rattle.graph_order.specs.declared.search.Mark.{Mark}
use Rattle.graph_order.specs.declared.search.Mark.TheVariants.{New, Begun, Finished}

pub marked_same : (marks : List Mark) (v : ℕ) (m : Mark) → v < length marks → mark_of (set marks v m) v ≡ m
marked_same marks v m h = get_or-set_same marks v m New h

pub marked_other : (marks : List Mark) (v w : ℕ) (m : Mark) → (w ≡ v → ⊥) → mark_of (set marks v m) w ≡ mark_of marks w
marked_other marks v w m h = get_or-set_other marks v w m New h

pub marked_within : (marks : List Mark) (v : ℕ) → (mark_of marks v ≡ New → ⊥) → v < length marks
marked_within [] v h = absurd (h refl)
marked_within (m ∷ marks) zero h = omega arith
marked_within (m ∷ marks) (suc v) h = omega (arith, marked_within marks v h)

pub news_begun : (marks : List Mark) (v : ℕ) → v < length marks → mark_of marks v ≡ New → news (set marks v Begun) + 1 ≡ news marks
news_begun [] v h e = absurd (omega arith)
news_begun (New ∷ marks) zero h e = omega arith
news_begun (Begun ∷ marks) zero h e = cc
news_begun (Finished ∷ marks) zero h e = cc
news_begun (New ∷ marks) (suc v) h e = omega (arith, news_begun marks v (omega arith) e)
news_begun (Begun ∷ marks) (suc v) h e = news_begun marks v (omega arith) e
news_begun (Finished ∷ marks) (suc v) h e = news_begun marks v (omega arith) e

pub news_finished : (marks : List Mark) (v : ℕ) → mark_of marks v ≡ Begun → news (set marks v Finished) ≡ news marks
news_finished [] v e = refl
news_finished (New ∷ marks) zero e = cc
news_finished (Begun ∷ marks) zero e = refl
news_finished (Finished ∷ marks) zero e = refl
news_finished (New ∷ marks) (suc v) e = ap suc (news_finished marks v e)
news_finished (Begun ∷ marks) (suc v) e = news_finished marks v e
news_finished (Finished ∷ marks) (suc v) e = news_finished marks v e

-- a vertex whose mark is set to another than new
pub stay_set : (marks : List Mark) (v : ℕ) (m : Mark) → v < length marks → (m ≡ New → ⊥) → StayMarked marks (set marks v m)
stay_set marks v m h n w k e =
    elim (cases_eq w v) [
      | inl same ↦ n (sym (marked_same marks v m h) ∙ ap (mark_of (set marks v m)) (sym same) ∙ e)
      | inr other ↦ k (sym (marked_other marks v w m other) ∙ e)
    ]

pub stay_after : (a b c : List Mark) → StayMarked a b → StayMarked b c → StayMarked a c
stay_after a b c h k v n = k v (h v n)
