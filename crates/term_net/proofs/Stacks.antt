-- A stack of pending terms with falling numbers.
use Rattle.std.proofs.Common.{◌≡◌, ℕ, zero, suc, ◌+◌, ◌*◌, ◌<◌, ◌≤◌, List, [], ◌∷◌, ◌++◌, length, set, Option, Some, None, inl, inr, unwrap_or, refl, sym, ap, ◌∙◌, subst, arith, append-nil}
use Rattle.std.specs.Prelude.{option_to_list}
use Rattle.std.proofs.lemmas.List.{length-set}
use Rattle.bv_core.specs.declared.reference.NodeId.{NodeId}
use Rattle.block_net.specs.declared.term.TermId.{TermId}
use Rattle.term_net.specs.Leaves.{node_at}
use Rattle.term_net.specs.Pending.{Fall, FallTo, top_of, IsTaken, unknown_count, work}

-- ---- pushing and popping

pub fall_push : (P : ℕ → Type 0) (bound : ℕ) (stack : List TermId) (u : TermId) → FallTo P bound stack u.0 → P u.0 → Fall P bound (stack ++ u ∷ [])
fall_push P bound [] u f p = (f, p, tt)
fall_push P bound (v ∷ stack) u f p = (f.0, f.1, fall_push P v.0 stack u f.2 p)

pub fall_onto : (P : ℕ → Type 0) (bound : ℕ) (stack : List TermId) (u : TermId) (k : ℕ) → FallTo P bound stack u.0 → P u.0 → k < u.0 → FallTo P bound (stack ++ u ∷ []) k
fall_onto P bound [] u k f p l = (f, p, l)
fall_onto P bound (v ∷ stack) u k f p l = (f.0, f.1, fall_onto P v.0 stack u k f.2 p l)

pub fall_pop : (P : ℕ → Type 0) (bound : ℕ) (stack : List TermId) (u : TermId) → Fall P bound (stack ++ u ∷ []) → FallTo P bound stack u.0 × P u.0
fall_pop P bound [] u f = (f.0, f.1)
fall_pop P bound (v ∷ stack) u f = let r = fall_pop P v.0 stack u f.2 in ((f.0, f.1, r.0), r.1)

pub fall_below : (P : ℕ → Type 0) (bound : ℕ) (stack : List TermId) (k : ℕ) → FallTo P bound stack k → k < bound
fall_below P bound [] k f = f
fall_below P bound (v ∷ stack) k f = let l = fall_below P v.0 stack k f.2 in let m = f.0 in omega arith

-- the stack without its top, where what holds of pending terms above it is another fact
pub fall_keeps : (P Q : ℕ → Type 0) (bound : ℕ) (stack : List TermId) (k : ℕ) → ((i : ℕ) → k < i → P i → Q i) → FallTo P bound stack k → Fall Q bound stack
fall_keeps P Q bound [] k h f = tt
fall_keeps P Q bound (v ∷ stack) k h f = (f.0, h v.0 (fall_below P v.0 stack k f.2) f.1, fall_keeps P Q v.0 stack k h f.2)

pub fall_same : (P Q : ℕ → Type 0) (bound : ℕ) (stack : List TermId) → ((i : ℕ) → P i → Q i) → Fall P bound stack → Fall Q bound stack
fall_same P Q bound [] h f = tt
fall_same P Q bound (v ∷ stack) h f = (f.0, h v.0 f.1, fall_same P Q v.0 stack h f.2)

pub top_push : (root : ℕ) (stack : List TermId) (u : TermId) → top_of root (stack ++ u ∷ []) ≡ u.0
top_push root [] u = refl
top_push root (v ∷ stack) u = top_push v.0 stack u

pub top_below : (P : ℕ → Type 0) (root bound : ℕ) (stack : List TermId) → root < bound → Fall P bound stack → top_of root stack < bound
top_below P root bound [] l f = l
top_below P root bound (v ∷ stack) l f =
    let m = f.0 in
    let below = top_of_below P v.0 stack f.2 in
    omega arith
  where
    top_of_below : (P : ℕ → Type 0) (w : ℕ) (rest : List TermId) → Fall P w rest → top_of w rest ≤ w
    top_of_below P w [] f = omega arith
    top_of_below P w (x ∷ rest) f = let m = f.0 in let n = top_of_below P x.0 rest f.2 in omega arith

-- what a pop gives
pub taken_by : (old new : List TermId) (o : Option TermId) (root top : TermId) → old ≡ new ++ option_to_list o → (o ≡ None → new ≡ []) → top ≡ unwrap_or o root → IsTaken old new root top
taken_by old new None root top e none t = inr (e ∙ append-nil new ∙ none refl, none refl, t)
taken_by old new (Some u) root top e none t = inl (e ∙ ap (λ v. new ++ v ∷ []) (sym t))

-- the top that was taken
pub record Top (P : ℕ → Type 0) (bound : ℕ) (old new : List TermId) (root top : TermId) : Type 0 where
  pub falls : FallTo P bound new top.0
  pub pending : P top.0
  pub is : top_of root.0 old ≡ top.0

pub top_taken : (P : ℕ → Type 0) (bound : ℕ) (old new : List TermId) (root top : TermId) → IsTaken old new root top → root.0 < bound → P root.0 → Fall P bound old → Top P bound old new root top
top_taken P bound old new root top (inl e) l p f =
    let r = fall_pop P bound new top (subst (Fall P bound) e f) in
    record { falls = r.0; pending = r.1; is = ap (top_of root.0) e ∙ top_push root.0 new top }
top_taken P bound old new root top (inr e) l p f =
    let same : root.0 ≡ top.0 = ap (λ (u : TermId). u.0) (sym e.2) in
    record {
      falls = subst (λ s. FallTo P bound s top.0) (sym e.1) (subst (λ k. k < bound) same l);
      pending = subst P same p;
      is = ap (top_of root.0) e.0 ∙ same;
    }

-- ---- what is left to do

pub count_set : (memo : List (Option NodeId)) (k : ℕ) (id : NodeId) → k < length memo → node_at memo k ≡ None → unknown_count memo ≡ unknown_count (set memo k (Some id)) + 1
count_set [] k id l e = absurd (omega arith)
count_set (None ∷ memo) zero id l e = refl
count_set (Some x ∷ memo) zero id l e = cc
count_set (None ∷ memo) (suc k) id l e = ap (λ n. n + 1) (count_set memo k id (omega arith) e)
count_set (Some x ∷ memo) (suc k) id l e = count_set memo k id (omega arith) e

-- an operand comes to the top
pub less_by_operand : (root : ℕ) (memo : List (Option NodeId)) (stack : List TermId) (u : TermId) (top : ℕ) → u.0 < top → work root memo (stack ++ u ∷ []) < unknown_count memo * (length memo + 1) + top
less_by_operand root memo stack u top l = let e = top_push root stack u in omega arith

products : (m n k a b : ℕ) → m ≡ n + 1 → a ≤ k → n * (k + 1) + a < m * (k + 1) + b
products m n k a b e l = subst (λ x. n * (k + 1) + a < x * (k + 1) + b) (sym e) (omega arith)

-- a term gets its node
pub less_by_node : (root : ℕ) (memo new : List (Option NodeId)) (k : ℕ) (id : NodeId) (stack : List TermId) (top : ℕ) → k < length memo → node_at memo k ≡ None → new ≡ set memo k (Some id) → top_of root stack < length memo → work root new stack < unknown_count memo * (length memo + 1) + top
less_by_node root memo new k id stack top l e s m =
    subst (λ v. work root v stack < unknown_count memo * (length memo + 1) + top) (sym s)
    (subst (λ n. unknown_count (set memo k (Some id)) * (n + 1) + top_of root stack < unknown_count memo * (length memo + 1) + top) (sym (length-set memo k (Some id)))
    (products (unknown_count memo) (unknown_count (set memo k (Some id))) (length memo) (top_of root stack) top (count_set memo k id l e) (omega arith)))
