-- The next values of a net by the numbers of their registers' nodes, filled in from the last pair to the first.
use Rattle.std.proofs.Common.{◌≡◌, ℕ, zero, suc, ◌+◌, ◌<◌, Bool, true, false, ◌==◌, List, [], ◌∷◌, length, drop, get_or, set, Some, slice_get, if◌then◌else◌, sym, ap, ◌∙◌, arith, eqb-true, eq-eqb, true≢false, refl}
use Rattle.std.proofs.lemmas.List.{get_or-set_same, get_or-set_other}
use Rattle.bv_core.specs.declared.reference.NodeId.{NodeId}
use Rattle.net_core.specs.Nodes.{Shape}
use Rattle.net_core.specs.Nets.{nexts_of, NextsFit, next_node}

-- one pair more in front
pub place_next : (nexts : List (ℕ × ℕ)) (k r m : ℕ) (old : List ℕ) → slice_get nexts k ≡ Some (r, m) → r < length old
    → ((i : ℕ) → i < length old → get_or old i 0 ≡ next_node (drop (k + 1) nexts) i) → (i : ℕ) → i < length old → get_or (set old r m) i 0 ≡ next_node (drop k nexts) i
place_next nexts k r m old at below known i l =
    by_test (r == i) refl ∙ sym (ap (λ l. next_node l i) (split nexts k at))
  where
    split : (nexts : List (ℕ × ℕ)) (k : ℕ) → slice_get nexts k ≡ Some (r, m) → drop k nexts ≡ (r, m) ∷ drop (k + 1) nexts
    split [] k e = cc
    split (pair ∷ pairs) zero e = let same : pair ≡ (r, m) = cc in ap (λ p. p ∷ pairs) same
    split (pair ∷ pairs) (suc k) e = split pairs k e ∙ ap (λ i. (r, m) ∷ drop i (pair ∷ pairs)) (let one : suc (k + 1) ≡ suc k + 1 = omega arith in one)

    by_test : (b : Bool) → (r == i) ≡ b → get_or (set old r m) i 0 ≡ (if r == i then m else next_node (drop (k + 1) nexts) i)
    by_test true e =
        let same : r ≡ i = eqb-true r i e in
        ap (λ j. get_or (set old r m) j 0) (sym same) ∙ get_or-set_same old r m 0 below ∙ sym (ap (λ c. if c then m else next_node (drop (k + 1) nexts) i) e)
    by_test false e =
        get_or-set_other old r i m 0 (λ same. true≢false (sym (eq-eqb r i (sym same)) ∙ e))
        ∙ known i l
        ∙ sym (ap (λ c. if c then m else next_node (drop (k + 1) nexts) i) e)

-- the pair at a place
pub pair_at : (pairs : List (NodeId × NodeId)) (nexts : List (ℕ × ℕ)) (k : ℕ) (d : NodeId × NodeId) → nexts_of pairs ≡ nexts → k < length pairs → slice_get nexts k ≡ Some ((get_or pairs k d).0.0, (get_or pairs k d).1.0)
pair_at pairs nexts k d e l = ap (λ n. slice_get n k) (sym e) ∙ found pairs k l
  where
    found : (pairs : List (NodeId × NodeId)) (k : ℕ) → k < length pairs → slice_get (nexts_of pairs) k ≡ Some ((get_or pairs k d).0.0, (get_or pairs k d).1.0)
    found [] k l = absurd (omega arith)
    found (pair ∷ pairs) zero l = refl
    found (pair ∷ pairs) (suc k) l = found pairs k (omega arith)

pub pair_within : (ns : List Shape) (nexts : List (ℕ × ℕ)) (k r m : ℕ) → NextsFit ns nexts → slice_get nexts k ≡ Some (r, m) → r < length ns
pair_within ns nexts k r m fit at = (fit.registers k (r, m) at).within
