-- Where a breakpoint or a watch waits in a table, and the expression that it has there.
use Rattle.std.specs.Prelude.{◌≡◌, ℕ, ◌<◌, Bool, true, false, List, length, map, filter, Option, Some, None, Ok, Contains}
use Rattle.std.specs.List.{flat_map}
use Rattle.symtab.specs.declared.parts.TableParts.{TableParts}
use Rattle.symtab.specs.Lookups.{instances_of, binding_of}
use Rattle.cond_lang.specs.declared.cond.Cond.{Cond}
use Rattle.cond_lang.specs.declared.text.CondText.{CondText}
use Rattle.cond_lang.specs.Bound.{scope_of, bound_by}
use Rattle.cond_lang.specs.Judged.{judged}
use Rattle.cond_lang.specs.Shown.{cond_tree, cond_width}
use Rattle.cond_lang.specs.TextShown.{text_expr, text_offsets}
use Rattle.machine_core.specs.Matching.{is_wanted}
use Rattle.site_core.specs.declared.trap.Trap.{Trap}

-- ---- slots and instances

-- the instances that have a slot; where one was named, that one alone
abbrev pub traps_in : TableParts → Option ℕ → ℕ → List (ℕ × ℕ)
traps_in parts named k = map (λ i. (k, i)) (filter (is_wanted named) (instances_of parts k))

-- the instances that have one of these slots, slot after slot, in preorder; where one was named, that one alone
abbrev pub traps_of : TableParts → Option ℕ → List ℕ → List (ℕ × ℕ)
traps_of parts named slots = flat_map (λ k. map (λ i. (k, i)) (filter (is_wanted named) (instances_of parts k))) slots

abbrev pub trap_place : Trap → ℕ × ℕ
trap_place t = (t.slot, t.instance)

-- an instance that has a slot
pub record IsSpot (parts : TableParts) (spot : ℕ × ℕ) : Type 0 where
  pub slot : spot.0 < length parts.slots
  pub instance : Contains (instances_of parts spot.0) spot.1

-- ---- expressions

-- a bit has width 1, where one is wanted
abbrev pub IsBit : (bit : Bool) → ℕ → Type 0
IsBit true width = width ≡ 1
IsBit false width = Unit {0}

-- an expression is the text's, with its names found at a slot of an instance, where each has a value; there is none where there is no text
abbrev pub IsFittingAt : (bit : Bool) → TableParts → (slot instance : ℕ) → Option CondText → Option Cond → Type 0
IsFittingAt bit parts k i None None = Unit {0}
IsFittingAt bit parts k i None (Some cond) = ⊥
IsFittingAt bit parts k i (Some text) None = ⊥
IsFittingAt bit parts k i (Some text) (Some cond) =
    IsBit bit (cond_width cond) × (cond_tree cond ≡ bound_by (binding_of parts k i) (text_expr text))
    × (judged (scope_of (binding_of parts k i)) (text_expr text) (text_offsets text) ≡ Ok (cond_width cond))

-- an expression of a text waits at a slot of an instance
pub record IsTrapOf (bit : Bool) (parts : TableParts) (text : Option CondText) (t : Trap) : Type 0 where
  pub slot : t.slot < length parts.slots
  pub instance : Contains (instances_of parts t.slot) t.instance
  pub bound : IsFittingAt bit parts t.slot t.instance text t.cond
