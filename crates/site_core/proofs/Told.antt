-- What is told of a table and a trace: the threads of a slot in a cycle, and the values that they show, in the world as it is seen.
use Rattle.std.proofs.Common.{◌≡◌, ℕ, suc, ◌+◌, ◌<◌, ◌&&◌, ◌||◌, Bool, true, false, cond, not, List, [], ◌∷◌, length, map, filter, Option, Some, None, option_map, position, bytes_eq, nat_lt, if◌then◌else◌, refl, sym, ap, ap₂, ◌∙◌, subst, arith, inl, inr, All}
use Rattle.std.specs.Prelude.{slice_get, nat_eq, option_and_then}
use Rattle.std.specs.List.{list_any, position_or_len}
use Rattle.std.proofs.lemmas.Bool.{eq-eqb, le-ltb}
use Rattle.std.proofs.lemmas.List.{length-map}
use Rattle.std.proofs.lemmas.List.Elements.{All-head, All-tail}
use Rattle.std.proofs.lemmas.Option.{slice_get-map}
use Rattle.list_core.specs.Lists.{EachOf, IsIn}
use Rattle.symtab.specs.declared.parts.Slot.{Slot}
use Rattle.symtab.specs.declared.parts.Row.{Row}
use Rattle.symtab.specs.declared.parts.TableParts.{TableParts}
use Rattle.symtab.specs.Lookups.{instances_of, row_of, binding_of}
use Rattle.trace_core.specs.Samples.{Samples}
use Rattle.world_core.specs.World.{World, Unset}
use Rattle.world_core.specs.Seen.{has_name, seen}
use Rattle.world_core.proofs.Seen.{seen_worlds_same}
use Rattle.trace_world.specs.TraceWorld.{binding_shown, shows_by, trace_world}
use Rattle.cond_lang.specs.Names.{Name}
use Rattle.site_core.specs.Sampled.{is_thread}

-- ---- lists

pub all_each : {A : Type 0} (P : A → Type 0) (xs : List A) → All P xs → EachOf P xs
all_each P [] h = tt
all_each P (x ∷ xs) h = (All-head P x xs h, all_each P xs (All-tail P x xs h))

pub number_told : (i : ℕ) (xs : List ℕ) → IsIn i xs → list_any (nat_eq i) xs ≡ true
number_told i [] m = absurd m
number_told i (x ∷ xs) (inl e) = ap (λ b. b || list_any (nat_eq i) xs) (eq-eqb i x e)
number_told i (x ∷ xs) (inr m) = ap (λ b. nat_eq i x || b) (number_told i xs m) ∙ or_true (nat_eq i x)
  where
    or_true : (b : Bool) → (b || true) ≡ true
    or_true true = refl
    or_true false = refl

none_passes : {A : Type 0} (p : A → Bool) (xs : List A) → list_any p xs ≡ false → position_or_len p xs ≡ length xs
none_passes p [] e = refl
none_passes p (x ∷ xs) e = by_test (none_passes p xs) (p x) refl
  where
    by_test : (list_any p xs ≡ false → position_or_len p xs ≡ length xs) → (b : Bool) → p x ≡ b → position_or_len p (x ∷ xs) ≡ length (x ∷ xs)
    by_test behind true t = absurd (apart (sym (ap (λ c. c || list_any p xs) t) ∙ e))
      where
        apart : true ≡ false → ⊥
        apart f = cc
    by_test behind false t =
        ap (λ b. cond (not b) (1 + position_or_len p xs) 0) t
        ∙ ap (λ n. 1 + n) (behind (sym (ap (λ c. c || list_any p xs) t) ∙ e))
        ∙ (let next : 1 + length xs ≡ suc (length xs) = omega arith in next)

no_position : {A : Type 0} (p : A → Bool) (xs : List A) → list_any p xs ≡ false → position p xs ≡ None
no_position p xs e =
    ap (λ n. cond (nat_lt n (length xs)) (Some n) None) (none_passes p xs e)
    ∙ ap (λ b. cond b (Some (length xs)) None) (le-ltb (length xs) (length xs) (omega arith))

-- ---- what is shown

abbrev pub told : TableParts → Samples → World
told parts s = seen (trace_world parts s)

abbrev nothing : {A B : Type 0} → A → Option B
nothing x = None

no_then : {A B : Type 0} (o : Option A) → option_and_then (nothing {A = A} {B = B}) o ≡ None
no_then None = refl
no_then (Some a) = refl

no_place : (parts : TableParts) (x : Name) (o : Option Slot) → has_name (option_map (shows_by parts) o) x ≡ false → option_and_then (λ (slot : Slot). position (bytes_eq x) slot.names) o ≡ None
no_place parts x None e = refl
no_place parts x (Some slot) e = no_position (bytes_eq x) slot.names e

pub not_named : (parts : TableParts) (k i : ℕ) (x : Name) → has_name (slice_get (map (shows_by parts) parts.slots) k) x ≡ false → binding_of parts k i x ≡ None
not_named parts k i x e =
    ap (λ (o : Option ℕ). option_and_then (λ (row : Row). option_and_then (slice_get row.cells) o) (row_of parts k i))
    (no_place parts x (slice_get parts.slots k) (sym (ap (λ o. has_name o x) (slice_get-map (shows_by parts) parts.slots k)) ∙ e))
    ∙ no_then (row_of parts k i)

-- ---- a slot

module _ (parts : TableParts) (s : Samples) (t k : ℕ) (inside : t < s.cycles) (below : k < length parts.slots) where
  pub threads_told : (told parts s).threads t k ≡ filter (is_thread parts (s.sample t) k) (instances_of parts k)
  threads_told = (seen_worlds_same (trace_world parts s)).threads t k inside (subst (λ n. k < n) (sym (length-map parts.slots (shows_by parts))) below)

  pub shown_told : (i : ℕ) (x : Name) → IsIn i ((told parts s).threads t k) → (told parts s).shown t k i x ≡ binding_shown (s.sample t) (binding_of parts k i x)
  shown_told i x m = by_name (has_name (slice_get (map (shows_by parts) parts.slots) k) x) refl
    where
      by_name : (b : Bool) → has_name (slice_get (map (shows_by parts) parts.slots) k) x ≡ b → (told parts s).shown t k i x ≡ binding_shown (s.sample t) (binding_of parts k i x)
      by_name true e = ap₂ (λ (a b : Bool). if a && b then binding_shown (s.sample t) (binding_of parts k i x) else Unset) (number_told i ((told parts s).threads t k) m) e
      by_name false e =
          ap₂ (λ (a b : Bool). if a && b then binding_shown (s.sample t) (binding_of parts k i x) else Unset) (number_told i ((told parts s).threads t k) m) e
          ∙ ap (binding_shown (s.sample t)) (sym (not_named parts k i x e))
