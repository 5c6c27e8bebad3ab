-- Numbers for the signals of a design: one for the first signal of each name of each instance, in the order of the design.
use Rattle.std.specs.Prelude.{◌≡◌, ℕ, ◌+◌, ◌<◌, ◌≤◌, true, List, [], ◌∷◌, ◌++◌, length, map, Option, Some, is_some, option_and_then, slice_get, if◌then◌else◌}
use Rattle.exec_core.specs.Block.{Name}
use Rattle.exec_core.specs.Whole.{Place}
use Rattle.design_core.specs.declared.variant.Signal.{Signal}
use Rattle.design_core.specs.declared.design.Instance.{Instance}
use Rattle.design_core.specs.Design as design
use Rattle.design_exec.specs.Processes.{signals_in, is_signal_of}
use Rattle.names.specs.Maps.{value_of, no_value, put_value}
use Rattle.place_core.specs.Orders.{Pair, signal_at, StandsFirst}

-- the number of each name that is a signal
abbrev pub Numbers : Type 0
Numbers = Name → Option ℕ

-- the number of each place that is a signal
abbrev pub PlaceNumbers : Type 0
PlaceNumbers = Place → Option ℕ

-- the numbers of an instance's names, and the pairs that have numbers so far, in their order
abbrev pub Counted : Type 0
Counted = Numbers × List Pair

-- a signal gets the next number, unless its name has one
abbrev pub count_signal : ℕ → ℕ → Name → Counted → Counted
count_signal i k x s = if is_some (s.0 x) then s else (put_value x (length s.1) s.0, s.1 ++ (i, k) ∷ [])

-- signals of an instance, from a place on
abbrev pub count_signals : ℕ → ℕ → List Signal → Counted → Counted
count_signals i k [] s = s
count_signals i k (y ∷ rest) s = count_signals i (k + 1) rest (count_signal i k y.name s)

-- the numbers of each instance
abbrev pub AllCounted : Type 0
AllCounted = List Numbers × List Pair

-- an instance, whose signals are these
abbrev pub count_instance : ℕ → List Signal → AllCounted → AllCounted
count_instance i signals s = (s.0 ++ (count_signals i 0 signals (no_value, s.1)).0 ∷ [], (count_signals i 0 signals (no_value, s.1)).1)

-- instances, from a number on
abbrev pub count_instances : design.Design → ℕ → List Instance → AllCounted → AllCounted
count_instances d i [] s = s
count_instances d i (r ∷ rest) s = count_instances d (i + 1) rest (count_instance i (signals_in d r.variant) s)

-- the numbers that maps of names have
abbrev pub numbers_of : List (List (Name × ℕ)) → List Numbers
numbers_of maps = map value_of maps

-- the number of a place, by the numbers of each instance
abbrev pub number_in : List Numbers → PlaceNumbers
number_in all p = option_and_then (λ (numbers : Numbers). numbers p.name) (slice_get all p.instance)

-- the place of a vertex, by the pairs
abbrev pub place_at : design.Design → List Pair → ℕ → Option Place
place_at d pairs n = option_and_then (signal_at d) (slice_get pairs n)

-- the numbers and pairs of a design's signals
abbrev pub AreCounted : design.Design → AllCounted → Type 0
AreCounted d all = all ≡ count_instances d 0 d.instances ([], [])

-- each number leads to its place, and each pair is that of a place with its number; a pair stands behind those that stand first
pub record IsNumbering (d : design.Design) (number : PlaceNumbers) (pairs : List Pair) : Type 0 where
  pub back : (p : Place) (n : ℕ) → number p ≡ Some n → place_at d pairs n ≡ Some p
  pub forth : (n : ℕ) → n < length pairs → (p : Place) × ((place_at d pairs n ≡ Some p) × (number p ≡ Some n))
  pub sorted : (a b : ℕ) (p q : Pair) → a ≤ b → slice_get pairs a ≡ Some p → slice_get pairs b ≡ Some q → StandsFirst p q

-- the signals of a design are numbered
abbrev pub Numbered : Type 0
Numbered =
    (d : design.Design) (all : AllCounted) → all ≡ count_instances d 0 d.instances ([], []) →
    IsNumbering d (number_in all.0) all.1 × (length all.0 ≡ length d.instances) × ((p : Place) → is_signal_of d p ≡ true → (n : ℕ) × (number_in all.0 p ≡ Some n))
