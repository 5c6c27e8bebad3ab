-- Which breakpoints may wait at a slot, by their places among those that are armed; and which slots have none.
use Rattle.std.specs.Prelude.{ℕ, ◌≡◌, ◌+◌, ◌<◌, ◌≤◌, ◌&&◌, Bool, true, false, List, [], ◌∷◌, nat_le, nat_lt, slice_get, unwrap_or}
use Rattle.std.specs.List.{list_all}
use Rattle.list_core.specs.Lists.{EachOf}
use Rattle.site_core.specs.declared.trap.Trap.{Trap}
use Rattle.slot_sched.specs.declared.armed.Armed.{Armed}
use Rattle.slot_sched.specs.declared.spans.Span.{Span}

-- no places
abbrev pub no_span : Span
no_span = record { from = 0; to = 0; ahead = 0; behind = 0; cut = false }

-- the places of a slot
abbrev pub span_of : List Span → ℕ → Span
span_of spans k = unwrap_or (slice_get spans k) no_span

-- a place is among these
abbrev pub holds : Span → ℕ → Bool
holds span j = nat_le span.from j && nat_lt j span.to

-- a place is among those of a slot
abbrev pub covers : List Span → (slot place : ℕ) → Bool
covers spans k j = holds (span_of spans k) j

-- the place of a breakpoint is among those of each slot at which it waits
abbrev pub are_covered : List Span → (place : ℕ) → List Trap → Bool
are_covered spans j traps = list_all (λ t. covers spans t.slot j) traps

-- so it is for each of these breakpoints, of which the first has this place
abbrev pub are_spanned : List Span → (place : ℕ) → List Armed → Bool
are_spanned spans j [] = true
are_spanned spans j (a ∷ armed) = are_covered spans j a.traps.items && are_spanned spans (j + 1) armed

-- they wait at slots below this one
abbrev pub WaitBelow : ℕ → List Trap → Type 0
WaitBelow count traps = EachOf (λ t. t.slot < count) traps

abbrev pub AllWaitBelow : ℕ → List Armed → Type 0
AllWaitBelow count armed = EachOf (λ a. WaitBelow count a.traps.items) armed

-- ---- slots that have no places

-- a slot has the places of another
abbrev pub HasPlacesOf : Span → Span → Type 0
HasPlacesOf a b = (a.from ≡ b.from) × (a.to ≡ b.to)

abbrev pub IsVacant : List Span → ℕ → Type 0
IsVacant spans k = (span_of spans k).to ≤ (span_of spans k).from

-- each tells how many have no places from it on, and so many have none
abbrev pub IsVacantAhead : List Span → Type 0
IsVacantAhead spans = (k m : ℕ) → k ≤ m → m < k + (span_of spans k).ahead → IsVacant spans m

-- and back
abbrev pub IsVacantBehind : List Span → Type 0
IsVacantBehind spans = (k m : ℕ) → m ≤ k → k < m + (span_of spans k).behind → IsVacant spans m

-- of so many each tells at most, either way
abbrev pub far : ℕ
far = 64

abbrev pub IsNear : List Span → Type 0
IsNear spans = (k : ℕ) → ((span_of spans k).ahead ≤ far) × ((span_of spans k).behind ≤ far)

-- a slot tells nothing of another that lies on from it, nor of one that lies back from it
abbrev pub FallsShort : List Span → (slot other : ℕ) → Type 0
FallsShort spans k m = (k ≤ m → k + (span_of spans k).ahead ≤ m) × (m ≤ k → m + (span_of spans k).behind ≤ k)

-- of a slot that is cut off none tells anything
abbrev pub IsCut : List Span → Type 0
IsCut spans = (k m : ℕ) → (span_of spans m).cut ≡ true → FallsShort spans k m

pub record TellGaps (spans : List Span) : Type 0 where
  pub ahead : IsVacantAhead spans
  pub behind : IsVacantBehind spans
  pub near : IsNear spans
  pub cut : IsCut spans

-- slots have the places of others, and tell no more than they do
pub record Narrows (old new : List Span) : Type 0 where
  pub places : (k : ℕ) → HasPlacesOf (span_of new k) (span_of old k)
  pub ahead : (k : ℕ) → (span_of new k).ahead ≤ (span_of old k).ahead
  pub behind : (k : ℕ) → (span_of new k).behind ≤ (span_of old k).behind
  pub cut : (k : ℕ) → (span_of new k).cut ≡ (span_of old k).cut
