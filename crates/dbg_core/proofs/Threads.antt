-- The threads of a slot, as the machine sees them.
use Rattle.std.proofs.Common.{◌≡◌, ℕ, ◌*◌, ◌/◌, ◌%◌, ◌^◌, ◌<◌, ◌≤◌, ◌==◌, ◌&&◌, Bool, List, true, false, [], length, filter, Option, Some, None, nat_lt, if◌then◌else◌, refl, sym, ap, ap₂, ◌∙◌, subst, arith}
use Rattle.std.specs.Prelude.{slice_get, nat_eq}
use Rattle.std.specs.List.{list_any}
use Rattle.std.specs.Option.{option_map_or}
use Rattle.std.proofs.lemmas.Bool.{le-ltb, eq-eqb}
use Rattle.std.proofs.lemmas.Bool.Decides.{nat_tests}
use Rattle.std.proofs.lemmas.List.{length-map}
use Rattle.std.proofs.lemmas.Nat.{div_below}
use Rattle.bv_core.specs.declared.Sample.{Sample}
use Rattle.listen.specs.declared.note.StopNote.{StopNote}
use Rattle.symtab.specs.declared.parts.Slot.{Slot}
use Rattle.symtab.specs.declared.parts.TableParts.{TableParts}
use Rattle.symtab.specs.Shape.{IsTable, variants_of}
use Rattle.symtab.specs.Places.{places}
use Rattle.symtab.specs.Lookups.{instances_of}
use Rattle.symtab.proofs.Grouped.{length-places_from}
use Rattle.trace_core.specs.Samples.{Samples}
use Rattle.trace_core.specs.declared.scan.Seek.{Seek}
use Rattle.trace_core.specs.declared.scan.Seek.TheVariants as seek
use Rattle.machine_core.specs.Matching.{Watch, watches_at}
use Rattle.machine_core.specs.Machine.{note_at, line_at, threads_at}
use Rattle.machine_core.specs.Positions.{cycle_at, slot_at}
use Rattle.site_core.specs.Sampled.{is_thread, cycle_samples}
use Rattle.slot_sched.specs.Waiting.{step_stops, any_steps}
use Rattle.site_core.specs.Positions.{total_of}
use Rattle.site_core.proofs.Any.{any_alike, any_filtered}
use Rattle.site_core.proofs.Told.{threads_told}
use Rattle.dbg_core.specs.World.{world_of}
use Rattle.dbg_core.specs.Shown.{slot_threads}
use Rattle.dbg_core.proofs.Positions.{slots_told, line_told, some_slots}

-- ---- a seek

pub sought : (t c : ℕ) (P : Type 0) (r : Seek) → (c ≤ t → (r ≡ seek.OutOfRange) × P) → r ≡ seek.At → t < c
sought t c P r beyond e = by_order (nat_lt t c) refl
  where
    by_order : (b : Bool) → nat_lt t c ≡ b → t < c
    by_order true h = grind (arith, nat_tests, h)
    by_order false h =
        let past : c ≤ t = grind (arith, nat_tests, h) in
        absurd (differ (beyond past).0)
      where
        differ : r ≡ seek.OutOfRange → ⊥
        differ f = let both : seek.At ≡ seek.OutOfRange = sym e ∙ f in cc

pub not_sought : (t c : ℕ) (P : Type 0) (r : Seek) → (t < c → (r ≡ seek.At) × P) → r ≡ seek.OutOfRange → c ≤ t
not_sought t c P r within e = by_order (nat_lt t c) refl
  where
    by_order : (b : Bool) → nat_lt t c ≡ b → c ≤ t
    by_order false h = grind (arith, nat_tests, h)
    by_order true h =
        let inside : t < c = grind (arith, nat_tests, h) in
        absurd (differ (within inside).0)
      where
        differ : r ≡ seek.At → ⊥
        differ f = let both : seek.At ≡ seek.OutOfRange = sym f ∙ e in cc

-- ---- the threads of a slot in a cycle

pub threads_are : (parts : TableParts) (s now : Samples) (cursor : Option ℕ) (t k : ℕ) → t < s.cycles → k < length parts.slots → now ≡ s → cursor ≡ Some t
    → slot_threads parts (cycle_samples now cursor) k ≡ (world_of parts s).threads t k
threads_are parts s now cursor t k inside below es ec =
    ap₂ (λ n c. slot_threads parts (cycle_samples n c) k) es ec ∙ sym (threads_told parts s t k inside below)

no_second : (b : Bool) → (b && false) ≡ false
no_second true = refl
no_second false = refl

pub no_slot : (parts : TableParts) (s : Samples) (t k : ℕ) → length parts.slots ≤ k → (world_of parts s).threads t k ≡ []
no_slot parts s t k past =
    ap (λ b. if nat_lt t s.cycles && b then filter (is_thread parts (s.sample t) k) (instances_of parts k) else []) (le-ltb k (length (world_of parts s).slots) (subst (λ n. n ≤ k) (sym (slots_told parts s)) past))
    ∙ ap (λ b. if b then filter (is_thread parts (s.sample t) k) (instances_of parts k) else []) (no_second (nat_lt t s.cycles))

pub no_cycle : (parts : TableParts) (s : Samples) (t k : ℕ) → s.cycles ≤ t → (world_of parts s).threads t k ≡ []
no_cycle parts s t k past =
    ap (λ b. if b && nat_lt k (length (world_of parts s).slots) then filter (is_thread parts (s.sample t) k) (instances_of parts k) else []) (le-ltb t s.cycles past)

-- ---- a position

pub cycle_inside : (c n p : ℕ) → p < c * n → p / n < c
cycle_inside c n p h = div_below p n c (some_slots c n p h) h

pub slot_inside : (c n p : ℕ) → p < c * n → p % n < n
slot_inside c n p h = let some = some_slots c n p h in omega (arith, some)

pub threads_there : (parts : TableParts) (s : Samples) (p : ℕ) → p < total_of parts s
    → threads_at (world_of parts s) p ≡ slot_threads parts (s.sample (p / length parts.slots)) (p % length parts.slots)
threads_there parts s p below =
    ap (λ n. (world_of parts s).threads (p / n) (p % n)) (slots_told parts s)
    ∙ threads_told parts s (p / length parts.slots) (p % length parts.slots) (cycle_inside s.cycles (length parts.slots) p below) (slot_inside s.cycles (length parts.slots) p below)

-- an instance is one of them
one_of : (i j : ℕ) → (j == i) ≡ nat_eq i j
one_of i j = by_test (j == i) refl
  where
    by_test : (b : Bool) → (j == i) ≡ b → (j == i) ≡ nat_eq i j
    by_test true e = e ∙ sym (eq-eqb i j (grind (arith, nat_tests, e)))
    by_test false e = e ∙ sym (other (nat_eq i j) refl)
      where
        other : (b : Bool) → nat_eq i j ≡ b → nat_eq i j ≡ false
        other true f = absurd (grind (arith, nat_tests, e, f))
        other false f = f

and_turned : (a b : Bool) → (a && b) ≡ (b && a)
and_turned true true = refl
and_turned true false = refl
and_turned false true = refl
and_turned false false = refl

pub thread_is : (parts : TableParts) (samples : ℕ → Sample) (k i : ℕ) → any_steps parts samples k (Some i) ≡ list_any (nat_eq i) (slot_threads parts samples k)
thread_is parts samples k i =
    any_alike (step_stops parts samples k (Some i)) (λ j. is_thread parts samples k j && nat_eq i j)
    (λ j. and_turned (j == i) (is_thread parts samples k j) ∙ ap (λ b. is_thread parts samples k j && b) (one_of i j)) (instances_of parts k)
    ∙ sym (any_filtered (nat_eq i) (is_thread parts samples k) (instances_of parts k))

-- few enough to be counted
few_by : (parts : TableParts) (o : Option Slot) → length (option_map_or (λ (slot : Slot). places slot.variant (variants_of parts.instances)) o []) ≤ length parts.instances
few_by parts None = omega arith
few_by parts (Some slot) = omega (arith, length-places_from 0 slot.variant (variants_of parts.instances), length-map parts.instances (λ i. i.variant))

pub few_instances : (parts : TableParts) → IsTable parts → (k : ℕ) → length (instances_of parts k) < 2 ^ 32
few_instances parts table k = let most = few_by parts (slice_get parts.slots k) in let short = table.short_instances in omega (arith, most, short)

-- what is told of a stop
pub note_told : (parts : TableParts) (s now : Samples) (cursor : Option ℕ) (watches : List Watch) (p cycle k line count matching : ℕ) (slot : Slot) → p < total_of parts s → slice_get parts.slots k ≡ Some slot
    → cycle ≡ p / length parts.slots → k ≡ p % length parts.slots → line ≡ slot.line → count ≡ length (slot_threads parts (cycle_samples now cursor) k) → now ≡ s → cursor ≡ Some cycle
    → matching ≡ length (watches_at (world_of parts s) cycle k watches)
    → (let note : StopNote = record { cycle = cycle; slot = k; line = line; threads = count; watches = matching } in note) ≡ note_at (world_of parts s) watches p
note_told parts s now cursor watches p cycle k line count matching slot below there ec ek el en es et em =
    let first : cycle ≡ cycle_at (world_of parts s) p = ec ∙ ap (λ n. p / n) (sym (slots_told parts s)) in
    let second : k ≡ slot_at (world_of parts s) p = ek ∙ ap (λ n. p % n) (sym (slots_told parts s)) in
    let third = el ∙ sym (line_told parts s k slot there) in
    let fourth = en ∙ ap length ((λ j. slot_threads parts (cycle_samples (es j) ((et ∙ ap (λ t. Some t) ec) j)) (ek j)) ∙ sym (threads_there parts s p below)) in
    (λ j. record { cycle = first j; slot = second j; line = third j; threads = fourth j; watches = (em ∙ (λ i. length (watches_at (world_of parts s) (first i) (second i) watches))) j })
    ∙ ap (λ n. record { cycle = cycle_at (world_of parts s) p; slot = slot_at (world_of parts s) p; line = line_at (world_of parts s) n; threads = length (threads_at (world_of parts s) p); watches = length (watches_at (world_of parts s) (cycle_at (world_of parts s) p) (slot_at (world_of parts s) p) watches) }) second
