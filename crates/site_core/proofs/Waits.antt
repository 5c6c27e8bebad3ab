-- Whether a test passes somewhere at a slot, of all places at which is waited.
use Rattle.std.proofs.Common.{◌≡◌, ℕ, ◌==◌, ◌&&◌, Bool, List, map, filter, All, Option, sym, ap, ◌∙◌}
use Rattle.std.specs.Prelude.{nat_eq}
use Rattle.std.specs.List.{list_any}
use Rattle.symtab.specs.declared.parts.TableParts.{TableParts}
use Rattle.symtab.specs.Lookups.{instances_of}
use Rattle.cond_lang.specs.declared.text.CondText.{CondText}
use Rattle.machine_core.specs.Matching.{is_wanted}
use Rattle.site_core.specs.declared.trap.Trap.{Trap}
use Rattle.site_core.specs.Traps.{traps_of, trap_place, IsTrapOf}
use Rattle.site_core.proofs.Any.{any_alike, any_each, any_mapped, any_filtered, any_joined, any_both, any_own}
use Rattle.site_core.proofs.Told.{all_each}

module _ (parts : TableParts) (named : Option ℕ) (k : ℕ) (own : (slot instance : ℕ) → Bool) where
  abbrev pub passes_at : ℕ × ℕ → Bool
  passes_at spot = (spot.0 == k) && own spot.0 spot.1

  in_slot : (at : ℕ)
      → list_any passes_at (map (λ i. (at, i)) (filter (is_wanted named) (instances_of parts at)))
      ≡ ((at == k) && list_any (own at) (filter (is_wanted named) (instances_of parts at)))
  in_slot at =
      any_mapped passes_at (λ i. (at, i)) (filter (is_wanted named) (instances_of parts at)) ∙ any_both (at == k) (own at) (filter (is_wanted named) (instances_of parts at))

  any_spot : (slots : List ℕ) → list_any passes_at (traps_of parts named slots) ≡ (list_any (nat_eq k) slots && list_any (λ i. is_wanted named i && own k i) (instances_of parts k))
  any_spot slots =
      any_joined passes_at (λ at. map (λ i. (at, i)) (filter (is_wanted named) (instances_of parts at))) slots
      ∙ any_alike _ (λ at. (at == k) && list_any (own at) (filter (is_wanted named) (instances_of parts at))) in_slot slots
      ∙ any_own k (λ at. list_any (own at) (filter (is_wanted named) (instances_of parts at))) slots
      ∙ ap (λ b. list_any (nat_eq k) slots && b) (any_filtered (own k) (is_wanted named) (instances_of parts k))

  -- it passes in an instance of the slot, if is waited there
  pub any_trap : (bit : Bool) (text : Option CondText) (passes : Trap → Bool) (slots : List ℕ) (traps : List Trap) → map trap_place traps ≡ traps_of parts named slots → All (IsTrapOf bit parts text) traps
      → ((t : Trap) → IsTrapOf bit parts text t → passes t ≡ passes_at (trap_place t))
      → list_any passes traps ≡ (list_any (nat_eq k) slots && list_any (λ i. is_wanted named i && own k i) (instances_of parts k))
  any_trap bit text passes slots traps places each same =
      any_each (IsTrapOf bit parts text) passes (λ t. passes_at (trap_place t)) same traps (all_each (IsTrapOf bit parts text) traps each)
      ∙ sym (any_mapped passes_at trap_place traps)
      ∙ ap (list_any passes_at) places
      ∙ any_spot slots
