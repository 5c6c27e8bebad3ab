-- Two orders of a design have one length: each lists the driven signals, once.
use Rattle.std.proofs.Common.{◌≡◌, ◌≢◌, ℕ, ◌≤◌, true, List, length, Some, None, option_map, ⊎_elim, sym, ap, ◌∙◌, arith}
use Rattle.std.specs.Prelude.{slice_get}
use Rattle.std.proofs.lemmas.List.{length-map}
use Rattle.std.proofs.lemmas.Option.{slice_get-map}
use Rattle.list_core.specs.Lists.{IsIn}
use Rattle.exec_core.specs.Whole.{Place}
use Rattle.exec_core.specs.Design.{driver_of}
use Rattle.list_core.proofs.Lists.{each_member}
use Rattle.design_core.specs.Design.{Design}
use Rattle.design_exec.specs.Processes.{processes_of, is_signal_of}
use Rattle.check_exec.proofs.Facts.{in_index}
use Rattle.place_core.specs.Orders.{Pair, signal_at, TellsOrder}
use Rattle.place_core.proofs.Signals.{is_signal}
use Rattle.list_core.proofs.Listing.{no_more}
use Rattle.trim_laws.proofs.Visits.{mapped_from}

-- what an order lists is a signal
listed_signal : (d : Design) (pairs : List Pair) (o : TellsOrder d pairs) (p : Place) → IsIn p o.order → is_signal_of d p ≡ true
listed_signal d pairs o p i =
    let at = in_index o.order p i in
    let there : option_map (signal_at d) (slice_get pairs at.0) ≡ Some (Some p) =
    sym (slice_get-map (signal_at d) pairs at.0) ∙ ap (λ l. slice_get l at.0) o.signals ∙ slice_get-map (λ (q : Place). Some q) o.order at.0 ∙ ap (option_map (λ (q : Place). Some q)) at.1 in
    let pair = mapped_from (signal_at d) (slice_get pairs at.0) (Some p) there in
    is_signal d pair.0 p pair.1.1

no_longer : (d : Design) (a b : List Pair) (p : TellsOrder d a) (q : TellsOrder d b) → length p.order ≤ length q.order
no_longer d a b p q =
    no_more p.order q.order p.once (λ z i.
    ⊎_elim (λ given. absurd (each_member (λ (r : Place). driver_of (processes_of d) r ≢ None) p.order p.driven z i given.1)) (λ j. j) (q.in_order.all z (listed_signal d a p z i)))

pub one_length : (d : Design) (a b : List Pair) → TellsOrder d a → TellsOrder d b → length a ≡ length b
one_length d a b p q =
    long a p ∙ both (length p.order) (length q.order) (no_longer d a b p q) (no_longer d b a q p) ∙ sym (long b q)
  where
    long : (pairs : List Pair) (o : TellsOrder d pairs) → length pairs ≡ length o.order
    long pairs o = sym (length-map pairs (signal_at d)) ∙ ap length o.signals ∙ length-map o.order (λ (r : Place). Some r)

    both : (m n : ℕ) → m ≤ n → n ≤ m → m ≡ n
    both m n l g = omega arith
