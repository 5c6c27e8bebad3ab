-- A position has what is searched for exactly where it matches, in the world that a table and a trace tell, as it is seen.
use Rattle.std.proofs.Common.{◌≡◌, ℕ, ◌<◌, ◌/◌, ◌%◌, ◌==◌, ◌&&◌, Bool, true, false, List, length, map, Option, Some, None, option_map, refl, sym, ap, ◌∙◌, All}
use Rattle.std.specs.Prelude.{nat_eq}
use Rattle.std.specs.List.{list_any}
use Rattle.std.proofs.lemmas.List.{length-map}
use Rattle.std.proofs.lemmas.List.Elements.{All-weaker}
use Rattle.bv_core.specs.declared.Sample.{Sample}
use Rattle.list_core.specs.Lists.{IsIn}
use Rattle.symtab.specs.declared.parts.TableParts.{TableParts}
use Rattle.symtab.specs.Shape.{IsTable}
use Rattle.symtab.specs.Lookups.{instances_of, binding_of}
use Rattle.trace_core.specs.Samples.{Samples}
use Rattle.trace_core.specs.Known.{is_one}
use Rattle.trace_core.specs.declared.scan.Want.{Want}
use Rattle.trace_core.specs.declared.scan.Want.TheVariants.{Breakpoints, Step}
use Rattle.world_core.specs.World.{value_shown}
use Rattle.trace_world.specs.TraceWorld as world
use Rattle.trace_world.specs.TraceWorld.{shows_by}
use Rattle.trace_world.specs.Fitting.{FitsTable}
use Rattle.cond_lang.specs.declared.cond.Cond.{Cond}
use Rattle.cond_lang.specs.declared.text.CondText.{CondText}
use Rattle.cond_lang.specs.Bound.{bound_value}
use Rattle.cond_lang.specs.Meaning as cond
use Rattle.cond_lang.specs.TextShown.{text_expr, text_offsets}
use Rattle.machine_core.specs.Matching.{is_wanted, holds, fits_breakpoint, breakpoints_alone, is_stop, matches}
use Rattle.site_core.specs.declared.trap.Trap.{Trap}
use Rattle.slot_sched.specs.declared.armed.Armed.{Armed}
use Rattle.slot_sched.specs.Armed.{breakpoint_of, IsBoundAt, IsTrap, IsArmed}
use Rattle.slot_sched.specs.Waiting.{test_holds, trap_stops, armed_stops, slot_stops, IsReady, IsArmedReady, AreReady, IsTest}
use Rattle.site_core.specs.Sampled.{is_thread}
use Rattle.site_core.specs.Positions.{total_of}
use Rattle.slot_sched.specs.Scan.{position_stops}
use Rattle.site_core.proofs.Any.{any_alike, any_in, any_each, any_mapped, any_filtered, any_both, any_swapped}
use Rattle.site_core.proofs.Values.{bound_value_is, value_told, nodes_ready}
use Rattle.site_core.proofs.Told.{told, all_each, threads_told, shown_told}
use Rattle.site_core.proofs.Waits.{any_trap}
use Rattle.site_core.proofs.Inside.{cycle_inside, slot_below}

swapped : (a b c : Bool) → (a && (b && c)) ≡ (b && (a && c))
swapped true b c = refl
swapped false true c = refl
swapped false false c = refl

changed : (a b : Bool) → (a && b) ≡ (b && a)
changed true true = refl
changed true false = refl
changed false true = refl
changed false false = refl

-- ---- what is looked at

-- a condition at a slot of an instance, by what its names stand for
abbrev holds_by : TableParts → (ℕ → Sample) → (slot instance : ℕ) → Option CondText → Bool
holds_by parts samples k i None = true
holds_by parts samples k i (Some text) = is_one (cond.value_by (λ x. world.value_by samples (binding_of parts k i x)) (text_expr text))

test_is : (parts : TableParts) (samples : ℕ → Sample) (k i : ℕ) (text : Option CondText) (c : Option Cond) → IsBoundAt parts k i text c → test_holds samples c ≡ holds_by parts samples k i text
test_is parts samples k i None None h = refl
test_is parts samples k i None (Some c) h = absurd h
test_is parts samples k i (Some text) None h = absurd h
test_is parts samples k i (Some text) (Some c) h =
    ap (λ t. is_one (bound_value (λ node. samples node.0) t)) h.1
    ∙ ap is_one (bound_value_is samples (binding_of parts k i) (text_expr text) (text_offsets text) h.2)

-- ---- a slot

module _ (parts : TableParts) (s : Samples) (t k : ℕ) (inside : t < s.cycles) (below : k < length parts.slots) where
  holds_told : (i : ℕ) → IsIn i ((told parts s).threads t k) → (text : Option CondText) → holds (told parts s) t k i (option_map text_expr text) ≡ holds_by parts (s.sample t) k i text
  holds_told i m None = refl
  holds_told i m (Some text) =
      (λ j. is_one (cond.value_by (λ x. (ap value_shown (shown_told parts s t k inside below i x m) ∙ value_told (s.sample t) (binding_of parts k i x)) j) (text_expr text)))

  -- what a breakpoint looks at, and what the machine looks at
  abbrev own_stops : Option CondText → ℕ → ℕ → Bool
  own_stops text at i = is_thread parts (s.sample t) at i && holds_by parts (s.sample t) at i text

  trap_is : (text : Option CondText) (trap : Trap) → IsTrap parts text trap → trap_stops parts (s.sample t) k trap ≡ ((trap.slot == k) && own_stops text trap.slot trap.instance)
  trap_is text trap h = ap (λ b. (trap.slot == k) && (is_thread parts (s.sample t) trap.slot trap.instance && b)) (test_is parts (s.sample t) trap.slot trap.instance text trap.cond h.bound)

  traps_are : (a : Armed) → IsArmed parts a
      → armed_stops parts (s.sample t) k a
      ≡ (list_any (nat_eq k) a.slots.items && list_any (λ i. is_wanted a.instance i && own_stops a.text k i) (instances_of parts k))
  traps_are a h =
      any_trap parts a.instance k (own_stops a.text) true a.text (trap_stops parts (s.sample t) k) a.slots.items a.traps.items h.places h.each (trap_is a.text)

  breakpoint_is : (a : Armed)
      → list_any (λ i. fits_breakpoint (told parts s) t k i (breakpoint_of a)) ((told parts s).threads t k)
      ≡ (list_any (nat_eq k) a.slots.items && list_any (λ i. is_wanted a.instance i && own_stops a.text k i) (instances_of parts k))
  breakpoint_is a =
      any_in (λ i. fits_breakpoint (told parts s) t k i (breakpoint_of a)) (λ i. list_any (nat_eq k) a.slots.items && (is_wanted a.instance i && holds_by parts (s.sample t) k i a.text)) ((told parts s).threads t k)
      (λ i m. ap (λ b. list_any (nat_eq k) a.slots.items && (is_wanted a.instance i && b)) (holds_told i m a.text))
      ∙ any_both (list_any (nat_eq k) a.slots.items) (λ i. is_wanted a.instance i && holds_by parts (s.sample t) k i a.text) ((told parts s).threads t k)
      ∙ ap (λ b. list_any (nat_eq k) a.slots.items && b) (
      ap (list_any (λ i. is_wanted a.instance i && holds_by parts (s.sample t) k i a.text)) (threads_told parts s t k inside below)
      ∙ any_filtered (λ i. is_wanted a.instance i && holds_by parts (s.sample t) k i a.text) (is_thread parts (s.sample t) k) (instances_of parts k)
      ∙ any_alike _ (λ i. is_wanted a.instance i && own_stops a.text k i) (λ i. swapped (is_thread parts (s.sample t) k i) (is_wanted a.instance i) (holds_by parts (s.sample t) k i a.text)) (instances_of parts k))

  slot_is : (armed : List Armed) → All (IsArmed parts) armed → (want : Want)
      → slot_stops parts (s.sample t) k armed want ≡ list_any (is_stop (told parts s) (breakpoints_alone (map breakpoint_of armed)) want t k) ((told parts s).threads t k)
  slot_is armed h Breakpoints =
      any_each (IsArmed parts) (armed_stops parts (s.sample t) k) (λ a. list_any (λ i. fits_breakpoint (told parts s) t k i (breakpoint_of a)) ((told parts s).threads t k))
      (λ a own. traps_are a own ∙ sym (breakpoint_is a)) armed (all_each (IsArmed parts) armed h)
      ∙ sym (any_mapped (λ b. list_any (λ i. fits_breakpoint (told parts s) t k i b) ((told parts s).threads t k)) breakpoint_of armed)
      ∙ sym (any_swapped (λ i b. fits_breakpoint (told parts s) t k i b) ((told parts s).threads t k) (map breakpoint_of armed))
  slot_is armed h (Step named) =
      any_alike _ (λ i. is_thread parts (s.sample t) k i && is_wanted named i) (λ i. changed (is_wanted named i) (is_thread parts (s.sample t) k i)) (instances_of parts k)
      ∙ sym (any_filtered (is_wanted named) (is_thread parts (s.sample t) k) (instances_of parts k))
      ∙ ap (list_any (is_wanted named)) (sym (threads_told parts s t k inside below))

-- ---- a position

pub position_is : (parts : TableParts) (s : Samples) (armed : List Armed) → All (IsArmed parts) armed → (want : Want) (p : ℕ) → p < total_of parts s
    → position_stops parts s armed want p ≡ matches (told parts s) (breakpoints_alone (map breakpoint_of armed)) want p
position_is parts s armed h want p within =
    slot_is parts s (p / length parts.slots) (p % length parts.slots) (cycle_inside s.cycles (length parts.slots) p within) (slot_below s.cycles (length parts.slots) p within) armed h want
    ∙ ap (λ n. list_any (is_stop (told parts s) (breakpoints_alone (map breakpoint_of armed)) want (p / n) (p % n)) ((told parts s).threads (p / n) (p % n))) (sym (length-map parts.slots (shows_by parts)))

-- ---- breakpoints of a table are ready over a trace that fits it

module _ (parts : TableParts) (table : IsTable parts) (s : Samples) (fits : FitsTable parts s) where
  test_ready : (k i : ℕ) (text : Option CondText) (cond : Option Cond) → IsBoundAt parts k i text cond → IsTest s cond
  test_ready k i None None h = tt
  test_ready k i None (Some cond) h = absurd h
  test_ready k i (Some text) None h = absurd h
  test_ready k i (Some text) (Some cond) h = (h.0, nodes_ready parts table s fits true k i text cond h)

  trap_ready : (text : Option CondText) (t : Trap) → IsTrap parts text t → IsReady parts s t
  trap_ready text t h = record { instance = h.instance; test = test_ready t.slot t.instance text t.cond h.bound }

  pub all_ready : (armed : List Armed) → All (IsArmed parts) armed → AreReady parts s armed
  all_ready armed h = record { each = All-weaker (IsArmed parts) (IsArmedReady parts s) (λ a own. record { traps = All-weaker (IsTrap parts a.text) (IsReady parts s) (trap_ready a.text) a.traps.items own.each }) armed h }
