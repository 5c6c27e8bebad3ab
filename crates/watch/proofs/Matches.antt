-- A position has a watch that changed exactly where one matches, in the world that a table and a trace tell, as it is seen.
use Rattle.std.proofs.Common.{◌≡◌, ℕ, zero, suc, ◌<◌, ◌/◌, ◌%◌, ◌==◌, ◌&&◌, ◌||◌, Bool, true, false, List, [], ◌∷◌, length, map, Option, Some, None, if◌then◌else◌, refl, sym, ap, ap₂, ◌∙◌, subst, arith, All, inl, inr, eqb-true}
use Rattle.std.specs.Prelude.{nat_eq}
use Rattle.std.specs.List.{list_any}
use Rattle.std.proofs.lemmas.Bool.{eq-eqb}
use Rattle.std.proofs.lemmas.List.{length-map}
use Rattle.std.proofs.lemmas.List.Elements.{All-weaker}
use Rattle.bv_core.specs.Value.{Bits}
use Rattle.bv_core.specs.declared.Sample.{Sample}
use Rattle.list_core.specs.Lists.{IsIn}
use Rattle.list_core.proofs.Listing.{filter_from}
use Rattle.symtab.specs.declared.parts.TableParts.{TableParts}
use Rattle.symtab.specs.Shape.{IsTable}
use Rattle.symtab.specs.Lookups.{instances_of, binding_of}
use Rattle.trace_core.specs.Samples.{Samples}
use Rattle.world_core.specs.World.{value_shown}
use Rattle.trace_world.specs.Fitting.{FitsTable}
use Rattle.trace_world.specs.TraceWorld as world
use Rattle.trace_world.specs.TraceWorld.{shows_by}
use Rattle.cond_lang.specs.declared.cond.Cond.{Cond}
use Rattle.cond_lang.specs.declared.text.CondText.{CondText}
use Rattle.cond_lang.specs.Bound.{bound_value}
use Rattle.cond_lang.specs.Meaning as cond
use Rattle.cond_lang.specs.TextShown.{text_expr, text_offsets}
use Rattle.machine_core.specs.Matching.{value_there, differ, has_changed, fits_watch, is_wanted}
use Rattle.site_core.specs.declared.trap.Trap.{Trap}
use Rattle.site_core.specs.Traps.{IsFittingAt, IsTrapOf}
use Rattle.site_core.specs.Sampled.{is_thread}
use Rattle.site_core.specs.Positions.{total_of}
use Rattle.site_core.proofs.Any.{any_alike, any_in, any_each, any_mapped, any_filtered, any_both, any_swapped, any_own}
use Rattle.site_core.proofs.Told.{told, all_each, number_told, threads_told, shown_told}
use Rattle.site_core.proofs.Values.{bound_value_is, value_told, nodes_ready}
use Rattle.watch.specs.declared.watched.Watched.{Watched}
use Rattle.watch.proofs.Changes.{differ_none}
use Rattle.watch.specs.Changing.{come_to, seen_by, trap_changes, watch_stops, position_changes, CanBeSeen, IsSeen, IsWatchReady, AreWatchReady}
use Rattle.watch.specs.Watching.{watch_of, IsWatched, changes_at}
use Rattle.site_core.proofs.Inside.{cycle_inside, slot_below}
use Rattle.site_core.proofs.Waits.{any_trap}

-- ---- lists and tests

number_in : (i : ℕ) (xs : List ℕ) → list_any (nat_eq i) xs ≡ true → IsIn i xs
number_in i [] e = cc
number_in i (x ∷ xs) e = by (nat_eq i x) refl (number_in i xs) e
  where
    by : (b : Bool) → nat_eq i x ≡ b → (list_any (nat_eq i) xs ≡ true → IsIn i xs) → (nat_eq i x || list_any (nat_eq i) xs) ≡ true → IsIn i (x ∷ xs)
    by true t more h = inl (eqb-true i x t)
    by false t more h = inr (more (sym (ap (λ b. b || list_any (nat_eq i) xs) t) ∙ h))

nat_same : (i x : ℕ) → nat_eq i x ≡ nat_eq x i
nat_same i x = by (nat_eq i x) (nat_eq x i) refl refl
  where
    by : (a b : Bool) → nat_eq i x ≡ a → nat_eq x i ≡ b → nat_eq i x ≡ nat_eq x i
    by true b e f = e ∙ sym (eq-eqb x i (sym (eqb-true i x e)))
    by false true e f = eq-eqb i x (sym (eqb-true x i f)) ∙ sym f
    by false false e f = e ∙ sym f

and_none : (b : Bool) → (b && false) ≡ false
and_none true = refl
and_none false = refl

-- ---- values

-- the value of a text at a slot of an instance, by what its names stand for
abbrev text_value : TableParts → (ℕ → Sample) → (slot instance : ℕ) → CondText → Option Bits
text_value parts samples k i text = cond.value_by (λ x. world.value_by samples (binding_of parts k i x)) (text_expr text)

-- where its instance is a thread
abbrev text_seen : TableParts → (ℕ → Sample) → (slot instance : ℕ) → CondText → Option Bits
text_seen parts samples k i text = if is_thread parts samples k i then text_value parts samples k i text else None

abbrev own_changes : TableParts → Samples → (cycle : ℕ) → CondText → (slot instance : ℕ) → Bool
own_changes parts s zero text k i = false
own_changes parts s (suc b) text k i = differ (text_seen parts (s.sample b) k i text) (text_seen parts (s.sample (suc b)) k i text)

come_is : (parts : TableParts) (samples : ℕ → Sample) (k i : ℕ) (text : CondText) (c : Option Cond) → IsFittingAt false parts k i (Some text) c → come_to samples c ≡ text_value parts samples k i text
come_is parts samples k i text None h = absurd h
come_is parts samples k i text (Some c) h =
    ap (bound_value (λ node. samples node.0)) h.1 ∙ bound_value_is samples (binding_of parts k i) (text_expr text) (text_offsets text) h.2

trap_is : (parts : TableParts) (s : Samples) (c : ℕ) (text : CondText) (t : Trap) → IsTrapOf false parts (Some text) t → trap_changes parts s c t ≡ own_changes parts s c text t.slot t.instance
trap_is parts s zero text t h = refl
trap_is parts s (suc b) text t h = ap₂ differ (seen_is (s.sample b)) (seen_is (s.sample (suc b)))
  where
    seen_is : (samples : ℕ → Sample) → seen_by parts samples t ≡ text_seen parts samples t.slot t.instance text
    seen_is samples = ap (λ o. if is_thread parts samples t.slot t.instance then o else None) (come_is parts samples t.slot t.instance text t.cond h.bound)

-- nothing changed where the instance is no thread
no_thread : (parts : TableParts) (s : Samples) (c k i : ℕ) (text : CondText) (named : Bool)
    → (is_thread parts (s.sample c) k i && (named && own_changes parts s c text k i)) ≡ (named && own_changes parts s c text k i)
no_thread parts s zero k i text named = by (is_thread parts (s.sample 0) k i)
  where
    by : (b : Bool) → (b && (named && false)) ≡ (named && false)
    by true = refl
    by false = sym (and_none named)
no_thread parts s (suc b) k i text named = by (is_thread parts (s.sample (suc b)) k i)
  where
    before : Option Bits
    before = text_seen parts (s.sample b) k i text

    by : (th : Bool) → (th && (named && differ before (if th then text_value parts (s.sample (suc b)) k i text else None))) ≡ (named && differ before (if th then text_value parts (s.sample (suc b)) k i text else None))
    by true = refl
    by false = sym (and_none named) ∙ ap (λ d. named && d) (sym (differ_none before))

-- ---- in a thread

module _ (parts : TableParts) (s : Samples) (k : ℕ) (below : k < length parts.slots) where
  value_is : (t i : ℕ) → t < s.cycles → IsIn i ((told parts s).threads t k) → (text : CondText) → value_there (told parts s) t k i (text_expr text) ≡ text_value parts (s.sample t) k i text
  value_is t i inside m text = (λ j. cond.value_by (λ x. (ap value_shown (shown_told parts s t k inside below i x m) ∙ value_told (s.sample t) (binding_of parts k i x)) j) (text_expr text))

  thread_is : (t i : ℕ) → t < s.cycles → IsIn i (instances_of parts k) → list_any (nat_eq i) ((told parts s).threads t k) ≡ is_thread parts (s.sample t) k i
  thread_is t i inside m =
      ap (list_any (nat_eq i)) (threads_told parts s t k inside below)
      ∙ any_filtered (nat_eq i) (is_thread parts (s.sample t) k) (instances_of parts k)
      ∙ any_alike _ (λ x. (x == i) && is_thread parts (s.sample t) k x) (λ x. turned x) (instances_of parts k)
      ∙ any_own i (is_thread parts (s.sample t) k) (instances_of parts k)
      ∙ ap (λ b. b && is_thread parts (s.sample t) k i) (number_told i (instances_of parts k) m)
    where
      changed : (a b : Bool) → (a && b) ≡ (b && a)
      changed true true = refl
      changed true false = refl
      changed false true = refl
      changed false false = refl

      turned : (x : ℕ) → (is_thread parts (s.sample t) k x && nat_eq i x) ≡ ((x == i) && is_thread parts (s.sample t) k x)
      turned x = changed (is_thread parts (s.sample t) k x) (nat_eq i x) ∙ ap (λ b. b && is_thread parts (s.sample t) k x) (nat_same i x)

  point : (c i : ℕ) → c < s.cycles → IsIn i ((told parts s).threads c k) → (text : CondText) → has_changed (told parts s) c k i (text_expr text) ≡ own_changes parts s c text k i
  point zero i inside m text = refl
  point (suc b) i inside m text = by (list_any (nat_eq i) ((told parts s).threads b k)) refl
    where
      earlier : b < s.cycles
      earlier = omega (arith, inside)

      own : IsIn i (instances_of parts k)
      own = (filter_from (is_thread parts (s.sample (suc b)) k) (instances_of parts k) i (subst (IsIn i) (threads_told parts s (suc b) k inside below) m)).0

      here : is_thread parts (s.sample (suc b)) k i ≡ true
      here = (filter_from (is_thread parts (s.sample (suc b)) k) (instances_of parts k) i (subst (IsIn i) (threads_told parts s (suc b) k inside below) m)).1

      now_is : value_there (told parts s) (suc b) k i (text_expr text) ≡ text_seen parts (s.sample (suc b)) k i text
      now_is = value_is (suc b) i inside m text ∙ ap (λ (th : Bool). if th then text_value parts (s.sample (suc b)) k i text else None) (sym here)

      by : (q : Bool) → list_any (nat_eq i) ((told parts s).threads b k) ≡ q
          → (list_any (nat_eq i) ((told parts s).threads b k) && differ (value_there (told parts s) b k i (text_expr text)) (value_there (told parts s) (suc b) k i (text_expr text)))
          ≡ differ (text_seen parts (s.sample b) k i text) (text_seen parts (s.sample (suc b)) k i text)
      by true e =
          ap (λ q. q && differ (value_there (told parts s) b k i (text_expr text)) (value_there (told parts s) (suc b) k i (text_expr text))) e
          ∙ ap₂ differ
          (value_is b i earlier (number_in i ((told parts s).threads b k) e) text
          ∙ ap (λ (th : Bool). if th then text_value parts (s.sample b) k i text else None) (sym e ∙ thread_is b i earlier own))
          now_is
      by false e =
          ap (λ q. q && differ (value_there (told parts s) b k i (text_expr text)) (value_there (told parts s) (suc b) k i (text_expr text))) e
          ∙ ap (λ (th : Bool). differ (if th then text_value parts (s.sample b) k i text else None) (text_seen parts (s.sample (suc b)) k i text)) (sym e ∙ thread_is b i earlier own)

  -- ---- a watch

  module _ (c : ℕ) (inside : c < s.cycles) where
    abbrev wanted_changes : CondText → ℕ → ℕ → ℕ → Bool
    wanted_changes text named at i = is_wanted (Some named) i && own_changes parts s c text at i

    traps_are : (a : Watched) → IsWatched parts a → watch_stops parts s c k a ≡ (list_any (nat_eq k) a.slots.items && list_any (wanted_changes a.text a.instance k) (instances_of parts k))
    traps_are a h =
        any_trap parts (Some a.instance) k (own_changes parts s c a.text) false (Some a.text) (λ (t : Trap). (t.slot == k) && trap_changes parts s c t) a.slots.items a.traps.items h.places h.each
        (λ t is. ap (λ b. (t.slot == k) && b) (trap_is parts s c a.text t is))

    watch_is : (a : Watched)
        → list_any (λ i. fits_watch (told parts s) c k i (watch_of a)) ((told parts s).threads c k)
        ≡ (list_any (nat_eq k) a.slots.items && list_any (wanted_changes a.text a.instance k) (instances_of parts k))
    watch_is a =
        any_in (λ i. fits_watch (told parts s) c k i (watch_of a)) (λ i. list_any (nat_eq k) a.slots.items && wanted_changes a.text a.instance k i) ((told parts s).threads c k)
        (λ i m. ap (λ b. list_any (nat_eq k) a.slots.items && (is_wanted (Some a.instance) i && b)) (point c i inside m a.text))
        ∙ any_both (list_any (nat_eq k) a.slots.items) (wanted_changes a.text a.instance k) ((told parts s).threads c k)
        ∙ ap (λ b. list_any (nat_eq k) a.slots.items && b) (
        ap (list_any (wanted_changes a.text a.instance k)) (threads_told parts s c k inside below)
        ∙ any_filtered (wanted_changes a.text a.instance k) (is_thread parts (s.sample c) k) (instances_of parts k)
        ∙ any_alike _ (wanted_changes a.text a.instance k) (λ i. no_thread parts s c k i a.text (is_wanted (Some a.instance) i)) (instances_of parts k))

    pub one_is : (a : Watched) → IsWatched parts a → watch_stops parts s c k a ≡ list_any (λ i. fits_watch (told parts s) c k i (watch_of a)) ((told parts s).threads c k)
    one_is a h = traps_are a h ∙ sym (watch_is a)

    or_none : (b : Bool) → (b || false) ≡ b
    or_none true = refl
    or_none false = refl

    slot_is : (list : List Watched) → All (IsWatched parts) list
        → list_any (watch_stops parts s c k) list ≡ list_any (λ i. list_any (fits_watch (told parts s) c k i) (map watch_of list) || false) ((told parts s).threads c k)
    slot_is list h =
        any_each (IsWatched parts) (watch_stops parts s c k) (λ a. list_any (λ i. fits_watch (told parts s) c k i (watch_of a)) ((told parts s).threads c k)) one_is list (all_each (IsWatched parts) list h)
        ∙ sym (any_mapped (λ watch. list_any (λ i. fits_watch (told parts s) c k i watch) ((told parts s).threads c k)) watch_of list)
        ∙ sym (any_swapped (λ i watch. fits_watch (told parts s) c k i watch) ((told parts s).threads c k) (map watch_of list))
        ∙ any_alike _ (λ i. list_any (fits_watch (told parts s) c k i) (map watch_of list) || false) (λ i. sym (or_none (list_any (fits_watch (told parts s) c k i) (map watch_of list)))) ((told parts s).threads c k)

-- ---- a position

pub position_is : (parts : TableParts) (s : Samples) (list : List Watched) → All (IsWatched parts) list → (p : ℕ) → p < total_of parts s
    → position_changes parts s list p ≡ changes_at (told parts s) (map watch_of list) p
position_is parts s list h p within =
    slot_is parts s (p % length parts.slots) (slot_below s.cycles (length parts.slots) p within) (p / length parts.slots) (cycle_inside s.cycles (length parts.slots) p within) list h
    ∙ ap (λ n. list_any (λ i. list_any (fits_watch (told parts s) (p / n) (p % n) i) (map watch_of list) || false) ((told parts s).threads (p / n) (p % n))) (sym (length-map parts.slots (shows_by parts)))

-- ---- watches of a table are ready over a trace that fits it

module _ (parts : TableParts) (table : IsTable parts) (s : Samples) (fits : FitsTable parts s) where
  can_be_seen : (k i : ℕ) (text : CondText) (c : Option Cond) → IsFittingAt false parts k i (Some text) c → CanBeSeen s c
  can_be_seen k i text None h = absurd h
  can_be_seen k i text (Some c) h = nodes_ready parts table s fits false k i text c h

  trap_ready : (text : CondText) (t : Trap) → IsTrapOf false parts (Some text) t → IsSeen parts s t
  trap_ready text t h = record { instance = h.instance; nodes = can_be_seen t.slot t.instance text t.cond h.bound }

  pub all_ready : (list : List Watched) → All (IsWatched parts) list → AreWatchReady parts s list
  all_ready list h = record {
    each = All-weaker (IsWatched parts) (IsWatchReady parts s)
        (λ a own. record { traps = All-weaker (IsTrapOf false parts (Some a.text)) (IsSeen parts s) (trap_ready a.text) a.traps.items own.each }) list h;
  }
