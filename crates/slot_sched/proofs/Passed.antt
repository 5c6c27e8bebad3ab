-- The positions that are passed over with the slots of a cycle that cannot have what is searched for.
use Rattle.std.proofs.Common.{◌≡◌, ℕ, ◌+◌, ◌-◌, ◌/◌, ◌%◌, ◌<◌, ◌≤◌, false, List, length, ap, ◌∙◌, subst, arith}
use Rattle.symtab.specs.declared.parts.TableParts.{TableParts}
use Rattle.bv_core.specs.declared.Sample.{Sample}
use Rattle.trace_core.specs.Samples.{Samples}
use Rattle.trace_core.specs.declared.scan.Want.{Want}
use Rattle.slot_sched.specs.declared.armed.Armed.{Armed}
use Rattle.slot_sched.specs.declared.spot.Spot.{Spot}
use Rattle.slot_sched.specs.Spots.{IsSpot}
use Rattle.slot_sched.specs.Waiting.{slot_stops}
use Rattle.slot_sched.specs.Scan.{position_stops}
use Rattle.slot_sched.proofs.Spots.{up_within, down_within}

module _ (parts : TableParts) (s : Samples) (armed : List Armed) (want : Want) (at : Spot) (is : IsSpot (length parts.slots) at) where
  at_slot : (r k : ℕ) → k ≡ r % length parts.slots → ((samples : ℕ → Sample) → slot_stops parts samples k armed want ≡ false) → position_stops parts s armed want r ≡ false
  at_slot r k e none = subst (λ m. slot_stops parts (s.sample (r / length parts.slots)) m armed want ≡ false) e (none (s.sample (r / length parts.slots)))

  pub none_up : (n : ℕ) → at.slot + n ≤ length parts.slots → ((k : ℕ) (samples : ℕ → Sample) → at.slot ≤ k → k < at.slot + n → slot_stops parts samples k armed want ≡ false)
      → (r : ℕ) → at.position ≤ r → r < at.position + n → position_stops parts s armed want r ≡ false
  none_up n within none r low high =
      let here = is.slot in
      let whole : at.position + (r - at.position) ≡ r = omega (arith, low) in
      let inside : at.position % length parts.slots + (r - at.position) < length parts.slots = omega (arith, here, within, low, high) in
      let slot : at.slot + (r - at.position) ≡ r % length parts.slots =
      ap (λ k. k + (r - at.position)) here ∙ (up_within at.position (length parts.slots) (r - at.position) inside).1 ∙ ap (λ q. q % length parts.slots) whole in
      at_slot r (at.slot + (r - at.position)) slot (λ samples. none (at.slot + (r - at.position)) samples (omega arith) (omega (arith, low, high)))

  pub none_down : (n : ℕ) → 0 < length parts.slots → n ≤ at.slot + 1 → ((k : ℕ) (samples : ℕ → Sample) → k ≤ at.slot → at.slot < k + n → slot_stops parts samples k armed want ≡ false)
      → (r : ℕ) → r ≤ at.position → at.position < r + n → position_stops parts s armed want r ≡ false
  none_down n some within none r low high =
      let here = is.slot in
      let whole : at.position - (at.position - r) ≡ r = omega (arith, low) in
      let inside : at.position - r ≤ at.position % length parts.slots = omega (arith, here, within, low, high) in
      let slot : at.slot - (at.position - r) ≡ r % length parts.slots =
      ap (λ k. k - (at.position - r)) here ∙ (down_within at.position (length parts.slots) (at.position - r) some inside).1 ∙ ap (λ q. q % length parts.slots) whole in
      at_slot r (at.slot - (at.position - r)) slot (λ samples. none (at.slot - (at.position - r)) samples (omega arith) (omega (arith, here, inside, low, high)))
