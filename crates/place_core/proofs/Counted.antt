-- The loops that number signals.
use Rattle.std.proofs.Common.{◌≡◌, ℕ, ◌+◌, ◌<◌, ◌≤◌, Bool, false, is_some, if◌then◌else◌, List, [], ◌∷◌, ◌++◌, length, get_or, drop, sym, ap, ap₂, ◌∙◌}
use Rattle.std.proofs.lemmas.List.{drop_more, drop_all, map_push}
use Rattle.exec_core.specs.Block.{Name}
use Rattle.design_core.specs.declared.variant.Signal.{Signal}
use Rattle.design_core.specs.declared.design.Instance.{Instance}
use Rattle.design_core.specs.Design as design
use Rattle.design_exec.specs.Processes.{signals_in}
use Rattle.names.specs.Maps.{value_of, put_value}
use Rattle.place_core.specs.Orders.{Pair}
use Rattle.place_core.specs.Numbering.{Numbers, Counted, count_signal, count_signals, AllCounted, count_instance, count_instances, numbers_of}

pub next_signal : (i k : ℕ) (signals : List Signal) (y : Signal) (s t : Counted) → k < length signals → y ≡ get_or signals k y → t ≡ count_signal i k y.name s →
    count_signals i (k + 1) (drop (k + 1) signals) t ≡ count_signals i k (drop k signals) s
next_signal i k signals y s t below at is =
    ap (count_signals i (k + 1) (drop (k + 1) signals)) (is ∙ ap (λ (z : Signal). count_signal i k z.name s) at)
    ∙ sym (ap (λ (l : List Signal). count_signals i k l s) (drop_more signals k y below))

pub last_signal : (i k : ℕ) (signals : List Signal) (s : Counted) → length signals ≤ k → count_signals i k (drop k signals) s ≡ s
last_signal i k signals s past = ap (λ (l : List Signal). count_signals i k l s) (drop_all k signals past)

pub next_instance : (d : design.Design) (i : ℕ) (instances : List Instance) (r : Instance) (s t : AllCounted) → i < length instances → r ≡ get_or instances i r → t ≡ count_instance i (signals_in d r.variant) s →
    count_instances d (i + 1) (drop (i + 1) instances) t ≡ count_instances d i (drop i instances) s
next_instance d i instances r s t below at is =
    ap (count_instances d (i + 1) (drop (i + 1) instances)) (is ∙ ap (λ (z : Instance). count_instance i (signals_in d z.variant) s) at)
    ∙ sym (ap (λ (l : List Instance). count_instances d i l s) (drop_more instances i r below))

pub last_instance : (d : design.Design) (i : ℕ) (instances : List Instance) (s : AllCounted) → length instances ≤ i → count_instances d i (drop i instances) s ≡ s
last_instance d i instances s past = ap (λ (l : List Instance). count_instances d i l s) (drop_all i instances past)

-- one more map
pub pushed : (maps : List (List (Name × ℕ))) (m : List (Name × ℕ)) → numbers_of (maps ++ m ∷ []) ≡ numbers_of maps ++ value_of m ∷ []
pushed maps m = map_push value_of maps m

-- a signal whose name has no number yet
pub one_counted : (i k : ℕ) (x : Name) (old new : Numbers) (pairs after : List Pair) (number : ℕ) → is_some (old x) ≡ false → number ≡ length pairs →
    new ≡ put_value x number old → after ≡ pairs ++ (i, k) ∷ [] → ◌≡◌ {A = Counted} (new, after) (count_signal i k x (old, pairs))
one_counted i k x old new pairs after number none is put pushed =
    ap₂ (λ (n : Numbers) (l : List Pair). (n, l)) (put ∙ ap (λ (m : ℕ). put_value x m old) is) pushed
    ∙ sym (ap (λ (b : Bool). if b then (old, pairs) else (put_value x (length pairs) old, pairs ++ (i, k) ∷ [])) none)
