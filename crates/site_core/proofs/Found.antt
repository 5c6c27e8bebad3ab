-- The slots, instances and spots that are found in a table are those that the machine finds in the world that the table tells, as it is seen.
use Rattle.std.proofs.Common.{◌≡◌, ℕ, ◌+◌, ◌==◌, Bool, true, false, cond, List, [], ◌∷◌, map, filter, Option, Some, None, Ok, Err, option_map, position, bytes_eq, if◌then◌else◌, refl, sym, ap, ◌∙◌}
use Rattle.std.specs.Prelude.{slice_get, nat_eq}
use Rattle.std.specs.List.{list_any, enumerate_from, flat_map}
use Rattle.std.specs.Option.{option_map_or}
use Rattle.std.proofs.lemmas.Option.{slice_get-map}
use Rattle.exec_core.specs.Block.{Name}
use Rattle.symtab.specs.declared.parts.Slot.{Slot}
use Rattle.symtab.specs.declared.parts.TableParts.{TableParts}
use Rattle.symtab.specs.Places.{places, places_from}
use Rattle.symtab.specs.Shape.{lines_of, paths_of}
use Rattle.symtab.specs.Lookups as table
use Rattle.trace_core.specs.Samples.{Samples}
use Rattle.world_core.specs.World.{Shows}
use Rattle.trace_world.specs.TraceWorld.{shows_by}
use Rattle.machine_core.specs.declared.reply.Body.TheVariants as body
use Rattle.machine_core.specs.Arming.{slots_on, instances_of, instances_at, instance_on, instance_with, has_one, slots_for, wanted_spots}
use Rattle.machine_core.specs.Matching.{is_wanted}
use Rattle.site_core.specs.Traps.{traps_of}
use Rattle.site_core.specs.Sites.{has_slot, named_has, found_instance, asked_instance}
use Rattle.site_core.proofs.Any.{any_alike}
use Rattle.site_core.proofs.Told.{told}

-- ---- instances of a slot

told_instances : (parts : TableParts) (o : Option Slot) → instances_of (option_map (shows_by parts) o) ≡ option_map_or (λ (slot : Slot). places slot.variant (map (λ i. i.variant) parts.instances)) o []
told_instances parts None = refl
told_instances parts (Some slot) = refl

pub instances_told : (parts : TableParts) (s : Samples) (k : ℕ) → instances_at (told parts s) k ≡ table.instances_of parts k
instances_told parts s k = ap instances_of (slice_get-map (shows_by parts) parts.slots k) ∙ told_instances parts (slice_get parts.slots k)

-- ---- the slots on a line

counted : (parts : TableParts) (line first : ℕ) (slots : List Slot)
    → map (λ s. s.0) (filter (λ s. s.1.line == line) (enumerate_from first (map (shows_by parts) slots))) ≡ places_from first line (lines_of slots)
counted parts line first [] = refl
counted parts line first (slot ∷ slots) = by_test (slot.line == line) _ _ (counted parts line (first + 1) slots)
  where
    by_test : (b : Bool) (xs : List (ℕ × Shows)) (ys : List ℕ) → map (λ s. s.0) xs ≡ ys
        → map (λ s. s.0) (cond b ((first, shows_by parts slot) ∷ xs) xs) ≡ (if b then first ∷ ys else ys)
    by_test true xs ys e = ap (λ l. first ∷ l) e
    by_test false xs ys e = e

pub slots_told : (parts : TableParts) (s : Samples) (line : ℕ) → slots_on (told parts s) line ≡ places line (lines_of parts.slots)
slots_told parts s line = counted parts line 0 parts.slots

-- ---- the instance that is named

one_told : (parts : TableParts) (s : Samples) (slots : List ℕ) (i : ℕ) → has_one (told parts s) slots i ≡ list_any (has_slot parts i) slots
one_told parts s slots i = any_alike _ (has_slot parts i) (λ k. ap (list_any (nat_eq i)) (instances_told parts s k)) slots

with_told : (parts : TableParts) (s : Samples) (slots : List ℕ) (path : Name) (o : Option ℕ) → instance_with (told parts s) slots path o ≡ found_instance parts slots path o
with_told parts s slots path None = refl
with_told parts s slots path (Some i) = ap (λ b. if b then Ok (Some i) else Err (body.NoInstance path)) (one_told parts s slots i)

pub instance_told : (parts : TableParts) (s : Samples) (slots : List ℕ) (path : Option Name) → instance_on (told parts s) slots path ≡ asked_instance parts slots path
instance_told parts s slots None = refl
instance_told parts s slots (Some path) = with_told parts s slots path (position (bytes_eq path) (paths_of parts.instances))

-- ---- the slots and the spots

all_stay : {A : Type 0} (xs : List A) → filter (λ x. true) xs ≡ xs
all_stay [] = refl
all_stay (x ∷ xs) = ap (λ l. x ∷ l) (all_stay xs)

pub kept_told : (parts : TableParts) (s : Samples) (slots : List ℕ) (named : Option ℕ) → slots_for (told parts s) slots named ≡ filter (named_has parts named) slots
kept_told parts s slots None = sym (all_stay slots)
kept_told parts s slots (Some i) = (λ j. filter (λ k. list_any (nat_eq i) (instances_told parts s k j)) slots)

pub spots_told : (parts : TableParts) (s : Samples) (named : Option ℕ) (slots : List ℕ) → wanted_spots (told parts s) named slots ≡ traps_of parts named slots
spots_told parts s named slots = (λ j. flat_map (λ k. map (λ i. (k, i)) (filter (is_wanted named) (instances_told parts s k j))) slots)
