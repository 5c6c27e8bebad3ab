-- That breakpoints and watches are those of a table holds in one way at most, up to where an instance is listed; so where it is merely
-- known, it is known.
use Rattle.std.proofs.Common.{◌≡◌, ℕ, suc, ◌<◌, Bool, true, false, List, [], ◌∷◌, length, map, Option, Some, None, sym, ap, ◌∙◌, arith, eqb-true, inl, inr}
use Rattle.std.specs.Prelude.{nat_eq, All, Contains}
use Rattle.std.specs.List.{list_any}
use Rattle.std.specs.Coded.{×_prop}
use Rattle.std.proofs.Math.Logic.{∥∥₁_elim}
use Rattle.std.proofs.Props.{props}
use Rattle.std.proofs.lemmas.List.Elements.{All-weaker}
use Rattle.std.proofs.lemmas.Option.{slice_get-get_or}
use Rattle.bv_core.specs.declared.Ref.{Ref}
use Rattle.list_core.proofs.Listing.{got_in, either_true}
use Rattle.symtab.specs.declared.parts.TableParts.{TableParts}
use Rattle.symtab.specs.Lookups.{instances_of}
use Rattle.cond_lang.specs.declared.cond.Cond.{Cond}
use Rattle.cond_lang.specs.declared.text.CondText.{CondText}
use Rattle.cond_lang.specs.Judged.{Refusal}
use Rattle.site_core.specs.declared.trap.Trap.{Trap}
use Rattle.slot_sched.specs.declared.armed.Armed.{Armed}
use Rattle.slot_sched.specs.declared.schedule.Schedule.{Schedule}
use Rattle.site_core.specs.Traps.{trap_place, traps_of, IsFittingAt, IsTrapOf}
use Rattle.slot_sched.specs.Armed.{IsArmed, AreOf}
use Rattle.site_core.proofs.Told.{number_told}
use Rattle.watch.specs.declared.watched.Watched.{Watched}
use Rattle.watch.specs.declared.watch_list.WatchList.{WatchList}
use Rattle.watch.specs.Watching as watching
use Rattle.watch.specs.Watching.{IsWatched}
use Rattle.cond_lang.specs.Sets.{tree_set}

-- ---- what is listed

pub listed_any : (i : ℕ) (xs : List ℕ) → Contains xs i → list_any (nat_eq i) xs ≡ true
listed_any i xs h = number_told i xs (got_in xs h.0 i (slice_get-get_or xs h.0 i h.1 ∙ ap (λ n. Some n) h.2))

pub any_listed : (i : ℕ) (xs : List ℕ) → list_any (nat_eq i) xs ≡ true → Contains xs i
any_listed i [] e = cc
any_listed i (x ∷ xs) e = elim (either_true (nat_eq i x) (list_any (nat_eq i) xs) e) [
  | inl here ↦ (0, (let z : 0 < suc (length xs) = omega arith in z), sym (eqb-true i x here))
  | inr behind ↦ let h = any_listed i xs behind in (suc h.0, (let l = h.1 in let z : suc h.0 < suc (length xs) = omega (arith, l) in z), h.2)
]

-- ---- the same, in one way at most

ref_set : IsSet Ref
ref_set = hlevel props

refusal_set : IsSet Refusal
refusal_set = hlevel props

bound_prop : (bit : Bool) (parts : TableParts) (k i : ℕ) (text : Option CondText) (cond : Option Cond) → IsProp (IsFittingAt bit parts k i text cond)
bound_prop bit parts k i None None = hlevel props
bound_prop bit parts k i None (Some cond) = hlevel props
bound_prop bit parts k i (Some text) None = hlevel props
bound_prop true parts k i (Some text) (Some cond) = hlevel (props, tree_set ref_set, refusal_set)
bound_prop false parts k i (Some text) (Some cond) = hlevel (props, tree_set ref_set, refusal_set)

abbrev OwnTrap : (bit : Bool) → TableParts → Option CondText → Trap → Type 0
OwnTrap bit parts text t = (t.slot < length parts.slots) × (list_any (nat_eq t.instance) (instances_of parts t.slot) ≡ true) × IsFittingAt bit parts t.slot t.instance text t.cond

abbrev OwnTraps : (bit : Bool) → TableParts → Option CondText → Option ℕ → (slots : List ℕ) → List Trap → Type 0
OwnTraps bit parts text named slots traps = (map trap_place traps ≡ traps_of parts named slots) × All (OwnTrap bit parts text) traps

abbrev OwnArmed : TableParts → Armed → Type 0
OwnArmed parts a = OwnTraps true parts a.text a.instance a.slots.items a.traps.items

abbrev OwnWatched : TableParts → Watched → Type 0
OwnWatched parts a = OwnTraps false parts (Some a.text) (Some a.instance) a.slots.items a.traps.items

all_prop : {X : Type 0} (P : X → Type 0) → ((x : X) → IsProp (P x)) → (xs : List X) → IsProp (All P xs)
all_prop P h xs = hlevel h

trap_prop : (bit : Bool) (parts : TableParts) (text : Option CondText) (t : Trap) → IsProp (OwnTrap bit parts text t)
trap_prop bit parts text t = hlevel (props, bound_prop bit parts t.slot t.instance text t.cond)

traps_prop : (bit : Bool) (parts : TableParts) (text : Option CondText) (named : Option ℕ) (slots : List ℕ) (traps : List Trap) → IsProp (OwnTraps bit parts text named slots traps)
traps_prop bit parts text named slots traps =
    let places : IsProp (map trap_place traps ≡ traps_of parts named slots) = hlevel props in
    ×_prop places (all_prop (OwnTrap bit parts text) (trap_prop bit parts text) traps)

armed_prop : (parts : TableParts) (a : Armed) → IsProp (OwnArmed parts a)
armed_prop parts a = traps_prop true parts a.text a.instance a.slots.items a.traps.items

watched_prop : (parts : TableParts) (a : Watched) → IsProp (OwnWatched parts a)
watched_prop parts a = traps_prop false parts (Some a.text) (Some a.instance) a.slots.items a.traps.items

-- ---- there and back

trap_to : (bit : Bool) (parts : TableParts) (text : Option CondText) (t : Trap) → IsTrapOf bit parts text t → OwnTrap bit parts text t
trap_to bit parts text t h = (h.slot, listed_any t.instance (instances_of parts t.slot) h.instance, h.bound)

trap_from : (bit : Bool) (parts : TableParts) (text : Option CondText) (t : Trap) → OwnTrap bit parts text t → IsTrapOf bit parts text t
trap_from bit parts text t h = record { slot = h.0; instance = any_listed t.instance (instances_of parts t.slot) h.1; bound = h.2 }

traps_to : (bit : Bool) (parts : TableParts) (text : Option CondText) (traps : List Trap) → All (IsTrapOf bit parts text) traps → All (OwnTrap bit parts text) traps
traps_to bit parts text traps h = All-weaker (IsTrapOf bit parts text) (OwnTrap bit parts text) (trap_to bit parts text) traps h

traps_from : (bit : Bool) (parts : TableParts) (text : Option CondText) (traps : List Trap) → All (OwnTrap bit parts text) traps → All (IsTrapOf bit parts text) traps
traps_from bit parts text traps h = All-weaker (OwnTrap bit parts text) (IsTrapOf bit parts text) (trap_from bit parts text) traps h

armed_to : (parts : TableParts) (a : Armed) → IsArmed parts a → OwnArmed parts a
armed_to parts a h = (h.places, traps_to true parts a.text a.traps.items h.each)

armed_from : (parts : TableParts) (a : Armed) → OwnArmed parts a → IsArmed parts a
armed_from parts a h = record { places = h.0; each = traps_from true parts a.text a.traps.items h.1 }

watched_to : (parts : TableParts) (a : Watched) → IsWatched parts a → OwnWatched parts a
watched_to parts a h = (h.places, traps_to false parts (Some a.text) a.traps.items h.each)

watched_from : (parts : TableParts) (a : Watched) → OwnWatched parts a → IsWatched parts a
watched_from parts a h = record { places = h.0; each = traps_from false parts (Some a.text) a.traps.items h.1 }

pub own_again : (parts : TableParts) (s : Schedule) → ∥ AreOf parts s ∥₁ → AreOf parts s
own_again parts s m =
    All-weaker (OwnArmed parts) (IsArmed parts) (armed_from parts) s.armed.items
    (∥∥₁_elim m (all_prop (OwnArmed parts) (armed_prop parts) s.armed.items) (All-weaker (IsArmed parts) (OwnArmed parts) (armed_to parts) s.armed.items))

pub own_kept : (parts : TableParts) (s t : Schedule) → (AreOf parts s → AreOf parts t) → ∥ AreOf parts s ∥₁ → ∥ AreOf parts t ∥₁
own_kept parts s t f m = ∣ f (own_again parts s m) ∣₁

pub watches_again : (parts : TableParts) (list : WatchList) → ∥ watching.AreOf parts list ∥₁ → watching.AreOf parts list
watches_again parts list m =
    All-weaker (OwnWatched parts) (IsWatched parts) (watched_from parts) list.watched.items
    (∥∥₁_elim m (all_prop (OwnWatched parts) (watched_prop parts) list.watched.items) (All-weaker (IsWatched parts) (OwnWatched parts) (watched_to parts) list.watched.items))

pub watches_kept : (parts : TableParts) (s t : WatchList) → (watching.AreOf parts s → watching.AreOf parts t) → ∥ watching.AreOf parts s ∥₁ → ∥ watching.AreOf parts t ∥₁
watches_kept parts s t f m = ∣ f (watches_again parts s m) ∣₁
