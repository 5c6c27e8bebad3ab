-- What names show in a thread, and which instance is one.
use Rattle.std.proofs.Common.{◌≡◌, ℕ, zero, suc, ◌+◌, ◌-◌, ◌≤◌, ◌*◌, ◌/◌, ◌%◌, ◌<◌, Bool, true, false, List, [], length, map, filter, Option, Some, None, Ok, Err, option_map, if◌then◌else◌, refl, sym, ap, ◌∙◌, subst, arith, eqb-true}
use Rattle.std.specs.Prelude.{slice_get, nat_eq, unwrap_or, Contains}
use Rattle.std.specs.List.{list_any}
use Rattle.std.proofs.Math.Nat.{mul-div_cancel}
use Rattle.std.proofs.lemmas.Option.{slice_get-map, slice_get-get_or}
use Rattle.list_core.specs.Lists.{IsIn}
use Rattle.list_core.proofs.Listing.{got_in, filter_from}
use Rattle.symtab.specs.declared.parts.Slot.{Slot}
use Rattle.symtab.specs.declared.parts.TableParts.{TableParts}
use Rattle.symtab.specs.Lookups.{instances_of}
use Rattle.trace_core.specs.Samples.{Samples}
use Rattle.world_core.specs.World.{Shows}
use Rattle.trace_world.specs.TraceWorld.{shows_by}
use Rattle.machine_core.specs.declared.reply.At.{At}
use Rattle.machine_core.specs.declared.reply.At.TheVariants.{Start, End, Position}
use Rattle.machine_core.specs.declared.reply.Body.TheVariants as body
use Rattle.machine_core.specs.Positions.{position_count, cycle_at, slot_at, at_place}
use Rattle.machine_core.specs.Machine.{told, shown_there, names_at, threads_at, threads_of, values_of}
use Rattle.site_core.specs.Sampled.{cycle_samples, is_thread}
use Rattle.slot_sched.specs.Waiting.{any_steps}
use Rattle.site_core.specs.Positions.{total_of}
use Rattle.site_core.proofs.Told.{number_told, shown_told}
use Rattle.dbg_core.specs.World.{world_of}
use Rattle.dbg_core.specs.Answering.{thread_there}
use Rattle.dbg_core.specs.Shown.{names_of, row_shown}
use Rattle.dbg_core.proofs.Own.{any_listed}
use Rattle.dbg_core.proofs.Positions.{slots_told, place_behind, stands_at, stands_so}
use Rattle.dbg_core.proofs.Threads.{thread_is, threads_there, no_slot, no_cycle, cycle_inside, slot_inside}

pub any_in : (i : ℕ) (xs : List ℕ) → list_any (nat_eq i) xs ≡ true → IsIn i xs
any_in i xs e = let h = any_listed i xs e in got_in xs h.0 i (slice_get-get_or xs h.0 i h.1 ∙ ap (λ n. Some n) h.2)

names_by : (parts : TableParts) (o : Option Slot) → unwrap_or (option_map (λ (z : Shows). z.names) (option_map (shows_by parts) o)) [] ≡ names_of o
names_by parts None = refl
names_by parts (Some slot) = refl

names_told : (parts : TableParts) (s : Samples) (k : ℕ) → names_at (world_of parts s) k ≡ names_of (slice_get parts.slots k)
names_told parts s k = ap (λ o. unwrap_or (option_map (λ (z : Shows). z.names) o) []) (slice_get-map (shows_by parts) parts.slots k) ∙ names_by parts (slice_get parts.slots k)

-- what stays of a list was in it
kept_any : (i : ℕ) (test : ℕ → Bool) (xs : List ℕ) → list_any (nat_eq i) (filter test xs) ≡ true → list_any (nat_eq i) xs ≡ true
kept_any i test xs e = number_told i xs (filter_from test xs i (any_in i (filter test xs) e)).0

module _ (parts : TableParts) (s : Samples) (p : ℕ) (below : p < total_of parts s) where
  pub values_told : (i : ℕ) → list_any (nat_eq i) (threads_at (world_of parts s) p) ≡ true
      → row_shown parts (s.sample (p / length parts.slots)) (p % length parts.slots) i ≡ map (shown_there (world_of parts s) p i) (names_at (world_of parts s) (slot_at (world_of parts s) p))
  values_told i e =
      let inside = cycle_inside s.cycles (length parts.slots) p below in
      let there = slot_inside s.cycles (length parts.slots) p below in
      let thread : IsIn i ((world_of parts s).threads (p / length parts.slots) (p % length parts.slots)) =
      any_in i _ (ap (λ n. list_any (nat_eq i) ((world_of parts s).threads (p / n) (p % n))) (sym (slots_told parts s)) ∙ e) in
      (λ j. map (λ x. (x, told (sym (shown_told parts s (p / length parts.slots) (p % length parts.slots) inside there i x thread) j))) (names_of (slice_get parts.slots (p % length parts.slots))))
      ∙ ap (λ xs. map (λ x. (x, told ((world_of parts s).shown (p / length parts.slots) (p % length parts.slots) i x))) xs) (sym (names_told parts s (p % length parts.slots)))
      ∙ ap (λ n. map (λ x. (x, told ((world_of parts s).shown (p / n) (p % n) i x))) (names_at (world_of parts s) (p % n))) (sym (slots_told parts s))

  -- whether an instance is a thread there
  pub any_told : (i : ℕ) → any_steps parts (s.sample (p / length parts.slots)) (p % length parts.slots) (Some i) ≡ list_any (nat_eq i) (threads_at (world_of parts s) p)
  any_told i = thread_is parts (s.sample (p / length parts.slots)) (p % length parts.slots) i ∙ ap (list_any (nat_eq i)) (sym (threads_there parts s p below))

  pub thread_found : (place i : ℕ) (b : Bool) → b ≡ any_steps parts (s.sample (p / length parts.slots)) (p % length parts.slots) (Some i)
      → (if b then Ok (p, i) else Err (body.NoStop (at_place (world_of parts s) place))) ≡ thread_there (world_of parts s) place p (Some i)
  thread_found place i b e = ap (λ c. if c then Ok (p, i) else Err (body.NoStop (at_place (world_of parts s) place))) (e ∙ any_told i)

  -- the same, where a trace was set
  pub steps_at : (now : Samples) (cursor : Option ℕ) (cycle slot i : ℕ) → now ≡ s → cursor ≡ Some cycle → cycle ≡ p / length parts.slots → slot ≡ p % length parts.slots
      → any_steps parts (cycle_samples now cursor) slot (Some i) ≡ any_steps parts (s.sample (p / length parts.slots)) (p % length parts.slots) (Some i)
  steps_at now cursor cycle slot i en ec et ek = (λ j. any_steps parts (cycle_samples (en j) ((ec ∙ ap (λ t. Some t) et) j)) (ek j) (Some i))

  pub row_at_stop : (now : Samples) (cursor : Option ℕ) (slot i : ℕ) → now ≡ s → cursor ≡ Some (p / length parts.slots) → slot ≡ p % length parts.slots
      → list_any (nat_eq i) (threads_at (world_of parts s) p) ≡ true
      → row_shown parts (cycle_samples now cursor) slot i ≡ map (shown_there (world_of parts s) p i) (names_at (world_of parts s) (slot_at (world_of parts s) p))
  row_at_stop now cursor slot i en ec ek thread = (λ j. row_shown parts (cycle_samples (en j) (ec j)) (ek j) i) ∙ values_told i thread

-- ---- at a place

module _ (parts : TableParts) (s : Samples) (place cycle slot : ℕ) (within : place ≤ total_of parts s + 1) (at : at_place (world_of parts s) place ≡ Position cycle slot) where
  behind : place ≡ suc (place - 1)
  behind = place_behind place (λ e. starts (ap (at_place (world_of parts s)) (sym e) ∙ at))
    where
      starts : Start ≡ Position cycle slot → ⊥
      starts e = cc

  here : (cycle ≡ (place - 1) / length parts.slots) × (slot ≡ (place - 1) % length parts.slots)
  here = let so = stands_so parts s place cycle slot at in (so.0 ∙ ap (λ n. (place - 1) / n) (slots_told parts s), so.1 ∙ ap (λ n. (place - 1) % n) (slots_told parts s))

  thread_here : (i : ℕ) → list_any (nat_eq i) (threads_of (world_of parts s) place) ≡ true → list_any (nat_eq i) (threads_at (world_of parts s) (place - 1)) ≡ true
  thread_here i e = ap (λ n. list_any (nat_eq i) (threads_of (world_of parts s) n)) (sym behind) ∙ e

  pub instance_here : (i : ℕ) → list_any (nat_eq i) (threads_of (world_of parts s) place) ≡ true → Contains (instances_of parts slot) i
  instance_here i e =
      let below = (stands_at parts s place cycle slot within at).0 in
      let thread = ap (list_any (nat_eq i)) (sym (threads_there parts s (place - 1) below)) ∙ thread_here i e in
      subst (λ k. Contains (instances_of parts k) i) (sym here.1)
      (any_listed i (instances_of parts ((place - 1) % length parts.slots)) (kept_any i (λ j. is_thread parts (s.sample ((place - 1) / length parts.slots)) ((place - 1) % length parts.slots) j) (instances_of parts ((place - 1) % length parts.slots)) thread))

  pub cycle_here : cycle < s.cycles
  cycle_here = subst (λ t. t < s.cycles) (sym here.0) (cycle_inside s.cycles (length parts.slots) (place - 1) (stands_at parts s place cycle slot within at).0)

  pub values_here : (now : Samples) (cursor : Option ℕ) (i : ℕ) → now ≡ s → cursor ≡ Some cycle → list_any (nat_eq i) (threads_of (world_of parts s) place) ≡ true
      → row_shown parts (cycle_samples now cursor) slot i ≡ values_of (world_of parts s) place i
  values_here now cursor i en ec e =
      row_at_stop parts s (place - 1) (stands_at parts s place cycle slot within at).0 now cursor slot i en (ec ∙ ap (λ t. Some t) here.0) here.1 (thread_here i e)
      ∙ ap (λ n. values_of (world_of parts s) n i) (sym behind)

-- there are no threads at the start or the end
past_all : (c n : ℕ) → 0 < n → c ≤ c * n / n
past_all c n some = let e : c * n / n ≡ c = mul-div_cancel c some in omega (arith, e)

no_threads_by : (parts : TableParts) (s : Samples) (n : ℕ) → n ≡ length parts.slots → (world_of parts s).threads (s.cycles * n / n) (s.cycles * n % n) ≡ []
no_threads_by parts s zero e = no_slot parts s _ _ (subst (λ n. n ≤ s.cycles * 0 % 0) e (omega arith))
no_threads_by parts s (suc n) e = no_cycle parts s _ _ (past_all s.cycles (suc n) (omega arith))

pub no_threads : (parts : TableParts) (s : Samples) (place : ℕ) (at : At) → at_place (world_of parts s) place ≡ at → ((cycle slot : ℕ) → at ≡ Position cycle slot → ⊥) → threads_of (world_of parts s) place ≡ []
no_threads parts s zero at e none = refl
no_threads parts s (suc p) at e none = by_test (nat_eq p (position_count (world_of parts s))) refl
  where
    by_test : (b : Bool) → nat_eq p (position_count (world_of parts s)) ≡ b → threads_of (world_of parts s) (suc p) ≡ []
    by_test true f =
        let last : p ≡ position_count (world_of parts s) = eqb-true p (position_count (world_of parts s)) f in
        ap (threads_at (world_of parts s)) last ∙ no_threads_by parts s (length (world_of parts s).slots) (slots_told parts s)
    by_test false f =
        absurd (none (cycle_at (world_of parts s) p) (slot_at (world_of parts s) p) (sym e ∙ ap (λ b. if b then End else Position (cycle_at (world_of parts s) p) (slot_at (world_of parts s) p)) f))

differ : false ≡ true → ⊥
differ e = cc

pub none_in : (i : ℕ) (xs : List ℕ) → xs ≡ [] → list_any (nat_eq i) xs ≡ true → ⊥
none_in i xs e h = differ (sym (ap (list_any (nat_eq i)) e) ∙ h)
