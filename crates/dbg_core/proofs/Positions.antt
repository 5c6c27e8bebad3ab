-- What a table and a trace tell of a position is what the machine tells of it.
use Rattle.std.proofs.Common.{◌≡◌, ℕ, zero, suc, ◌+◌, ◌-◌, ◌*◌, ◌/◌, ◌%◌, ◌<◌, ◌≤◌, Bool, true, false, List, [], ◌∷◌, length, map, Some, None, option_map, if◌then◌else◌, refl, sym, ap, ap₂, ◌∙◌, subst, arith, lt-ltb}
use Rattle.std.specs.Prelude.{slice_get, nat_eq, unwrap_or}
use Rattle.std.proofs.lemmas.Bool.{le-ltb, eq-eqb}
use Rattle.std.proofs.lemmas.Bool.Decides.{nat_tests}
use Rattle.std.proofs.lemmas.List.{length-map}
use Rattle.list_core.proofs.Listing.{get_map}
use Rattle.symtab.specs.declared.parts.Slot.{Slot}
use Rattle.symtab.specs.declared.parts.TableParts.{TableParts}
use Rattle.trace_core.specs.Samples.{Samples}
use Rattle.world_core.specs.World.{World, Shows}
use Rattle.trace_world.specs.TraceWorld.{gen_of, shows_by}
use Rattle.machine_core.specs.declared.reply.At.{At}
use Rattle.machine_core.specs.declared.reply.At.TheVariants.{End, Position}
use Rattle.machine_core.specs.Positions.{position_count, cycle_at, slot_at, at_place}
use Rattle.machine_core.specs.Machine.{line_at, gens_at, position_of}
use Rattle.site_core.specs.Positions.{total_of}
use Rattle.dbg_core.specs.World.{world_of}

-- ---- how many there are

pub slots_told : (parts : TableParts) (s : Samples) → length (world_of parts s).slots ≡ length parts.slots
slots_told parts s = length-map parts.slots (shows_by parts)

pub count_told : (parts : TableParts) (s : Samples) → position_count (world_of parts s) ≡ total_of parts s
count_told parts s = ap (λ n. s.cycles * n) (slots_told parts s)

pub some_slots : (c n p : ℕ) → p < c * n → 0 < n
some_slots c zero p h = absurd (let none : c * 0 ≡ 0 = omega arith in omega (arith, h, none))
some_slots c (suc n) p h = omega arith

-- ---- a place, as it is told

pub place_behind : (place : ℕ) → (place ≡ 0 → ⊥) → place ≡ suc (place - 1)
place_behind zero h = absurd (h refl)
place_behind (suc p) h = let e : suc p ≡ suc (suc p - 1) = omega arith in e

at_suc : World → ℕ → At
at_suc w p = if nat_eq p (position_count w) then End else Position (cycle_at w p) (slot_at w p)

pub end_told : (parts : TableParts) (s : Samples) (place : ℕ) → (place ≡ 0 → ⊥) → place - 1 ≡ total_of parts s → End ≡ at_place (world_of parts s) place
end_told parts s place some e =
    ap (λ b. if b then End else Position (cycle_at (world_of parts s) (place - 1)) (slot_at (world_of parts s) (place - 1))) (sym (eq-eqb (place - 1) (position_count (world_of parts s)) (e ∙ sym (count_told parts s))))
    ∙ ap (at_place (world_of parts s)) (sym (place_behind place some))

unequal : (p n : ℕ) → (p ≡ n → ⊥) → nat_eq p n ≡ false
unequal p n h = by_test (nat_eq p n) refl
  where
    by_test : (b : Bool) → nat_eq p n ≡ b → nat_eq p n ≡ false
    by_test true e = absurd (h (grind (arith, nat_tests, e)))
    by_test false e = e

pub position_told : (parts : TableParts) (s : Samples) (place cycle slot : ℕ) → (place ≡ 0 → ⊥) → (place - 1 ≡ total_of parts s → ⊥)
    → cycle ≡ (place - 1) / length parts.slots → slot ≡ (place - 1) % length parts.slots → Position cycle slot ≡ at_place (world_of parts s) place
position_told parts s place cycle slot some inside c k =
    ap₂ Position (c ∙ ap (λ n. (place - 1) / n) (sym (slots_told parts s))) (k ∙ ap (λ n. (place - 1) % n) (sym (slots_told parts s)))
    ∙ ap (λ b. if b then End else Position (cycle_at (world_of parts s) (place - 1)) (slot_at (world_of parts s) (place - 1)))
    (sym (unequal (place - 1) (position_count (world_of parts s)) (λ e. inside (e ∙ count_told parts s))))
    ∙ ap (at_place (world_of parts s)) (sym (place_behind place some))

-- ---- what a slot shows

pub slot_told : (parts : TableParts) (s : Samples) (k : ℕ) (slot : Slot) → slice_get parts.slots k ≡ Some slot → slice_get (world_of parts s).slots k ≡ Some (shows_by parts slot)
slot_told parts s k slot there = get_map (shows_by parts) parts.slots k slot there

pub line_told : (parts : TableParts) (s : Samples) (k : ℕ) (slot : Slot) → slice_get parts.slots k ≡ Some slot → line_at (world_of parts s) k ≡ slot.line
line_told parts s k slot there = ap (λ o. unwrap_or (option_map (λ (z : Shows). z.line) o) 0) (slot_told parts s k slot there)

pub gens_told : (parts : TableParts) (s : Samples) (k : ℕ) (slot : Slot) → slice_get parts.slots k ≡ Some slot → gens_at (world_of parts s) k ≡ map gen_of slot.gens
gens_told parts s k slot there = ap (λ o. unwrap_or (option_map (λ (z : Shows). z.gens) o) []) (slot_told parts s k slot there)

past_get : {A : Type 0} (xs : List A) (k : ℕ) → length xs ≤ k → slice_get xs k ≡ None
past_get [] k h = refl
past_get (x ∷ xs) zero h = absurd (omega (arith, h))
past_get (x ∷ xs) (suc k) h = past_get xs k (omega (arith, h))

pub no_gens : (parts : TableParts) (s : Samples) (k : ℕ) → length parts.slots ≤ k → gens_at (world_of parts s) k ≡ []
no_gens parts s k past =
    ap (λ o. unwrap_or (option_map (λ (z : Shows). z.gens) o) []) (past_get (world_of parts s).slots k (subst (λ n. n ≤ k) (sym (slots_told parts s)) past))

-- ---- where it stands

pub stands_at : (parts : TableParts) (s : Samples) (place cycle slot : ℕ) → place ≤ total_of parts s + 1 → at_place (world_of parts s) place ≡ Position cycle slot
    → (place - 1 < total_of parts s) × (position_of (world_of parts s) place ≡ Some (place - 1))
stands_at parts s zero cycle slot within e = cc
stands_at parts s (suc p) cycle slot within e = by_test (nat_eq p (position_count (world_of parts s))) refl e
  where
    inside : nat_eq p (position_count (world_of parts s)) ≡ false → p < total_of parts s
    inside f =
        let apart : p ≡ total_of parts s → ⊥ = λ same. differ (eq-eqb p (position_count (world_of parts s)) (same ∙ sym (count_told parts s))) f in
        omega (arith, within, apart)
      where
        differ : nat_eq p (position_count (world_of parts s)) ≡ true → nat_eq p (position_count (world_of parts s)) ≡ false → ⊥
        differ t f = cc

    by_test : (b : Bool) → nat_eq p (position_count (world_of parts s)) ≡ b → (if b then End else Position (cycle_at (world_of parts s) p) (slot_at (world_of parts s) p)) ≡ Position cycle slot
        → (suc p - 1 < total_of parts s) × (position_of (world_of parts s) (suc p) ≡ Some (suc p - 1))
    by_test true f e = cc
    by_test false f e =
        let less = inside f in
        let back : suc p - 1 ≡ p = omega arith in
        let there : p < position_count (world_of parts s) = subst (λ n. p < n) (sym (count_told parts s)) less in (
          subst (λ n. n < total_of parts s) (sym back) less,
          ap (λ b. if b then Some p else None) (lt-ltb p (position_count (world_of parts s)) there) ∙ ap (λ n. Some n) (sym back),
        )

pub stands_nowhere : (parts : TableParts) (s : Samples) (place : ℕ) (at : At) → at_place (world_of parts s) place ≡ at → ((cycle slot : ℕ) → at ≡ Position cycle slot → ⊥) → position_of (world_of parts s) place ≡ None
stands_nowhere parts s zero at e none = refl
stands_nowhere parts s (suc p) at e none = by_test (nat_eq p (position_count (world_of parts s))) refl
  where
    by_test : (b : Bool) → nat_eq p (position_count (world_of parts s)) ≡ b → position_of (world_of parts s) (suc p) ≡ None
    by_test true f =
        let last : position_count (world_of parts s) ≤ p = grind (arith, nat_tests, f) in
        ap (λ b. if b then Some p else None) (le-ltb p (position_count (world_of parts s)) last)
    by_test false f =
        absurd (none (cycle_at (world_of parts s) p) (slot_at (world_of parts s) p) (sym e ∙ ap (λ b. if b then End else Position (cycle_at (world_of parts s) p) (slot_at (world_of parts s) p)) f))

-- the cycle and the slot there
pub stands_so : (parts : TableParts) (s : Samples) (place cycle slot : ℕ) → at_place (world_of parts s) place ≡ Position cycle slot
    → (cycle ≡ cycle_at (world_of parts s) (place - 1)) × (slot ≡ slot_at (world_of parts s) (place - 1))
stands_so parts s zero cycle slot e = cc
stands_so parts s (suc p) cycle slot e = by_test (nat_eq p (position_count (world_of parts s))) e
  where
    by_test : (b : Bool) → (if b then End else Position (cycle_at (world_of parts s) p) (slot_at (world_of parts s) p)) ≡ Position cycle slot
        → (cycle ≡ cycle_at (world_of parts s) (suc p - 1)) × (slot ≡ slot_at (world_of parts s) (suc p - 1))
    by_test true e = cc
    by_test false e =
        let back : p ≡ suc p - 1 = omega arith in
        let first : cycle ≡ cycle_at (world_of parts s) p = cc in
        let second : slot ≡ slot_at (world_of parts s) p = cc in
        (first ∙ ap (cycle_at (world_of parts s)) back, second ∙ ap (slot_at (world_of parts s)) back)
