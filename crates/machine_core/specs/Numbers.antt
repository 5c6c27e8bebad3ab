-- The numbers of breakpoints, and those of watches: those that are armed, those that lines give, and what it is that they rise and that
-- none is given twice.
use Rattle.std.specs.Prelude.{◌≡◌, ℕ, ◌+◌, ◌-◌, ◌≤◌, List, [], ◌∷◌, map}
use Rattle.std.specs.List.{flat_map}
use Rattle.list_core.specs.Lists.{from}
use Rattle.machine_core.specs.declared.reply.Body.{Body}
use Rattle.machine_core.specs.declared.reply.Body.TheVariants as body
use Rattle.machine_core.specs.Matching.{Breakpoint, Watch}
use Rattle.machine_core.specs.Machine.{Machine}
use Rattle.machine_core.specs.Journal.{Line, Replied, Noticed, Ran}

-- what numbers are given to: breakpoints, or watches
pub data Given : Type 0 where
  ToBreaks : Given
  ToWatches : Given

abbrev pub of_given : {A : Type 0} → Given → (breaks watches : A) → A
of_given ToBreaks breaks watches = breaks
of_given ToWatches breaks watches = watches

-- numbers that rise, from the least on and below the next
abbrev pub AreRising : (least : ℕ) → List ℕ → (next : ℕ) → Type 0
AreRising least [] next = least ≤ next
AreRising least (x ∷ xs) next = (least ≤ x) × AreRising (x + 1) xs next

-- those that are armed, in the order in which they were armed
abbrev pub armed_numbers : Given → Machine → List ℕ
armed_numbers given m = of_given given (map (λ (b : Breakpoint). b.number) m.breakpoints) (map (λ (watch : Watch). watch.number) m.watches)

-- the next one
abbrev pub next_of : Given → Machine → ℕ
next_of given m = of_given given m.next m.next_watch

-- the number that an answer gives: a breakpoint, or a watch, was armed under it
abbrev pub given_by : Given → Body → List ℕ
given_by given (body.Break number slots) = of_given given (number ∷ []) []
given_by given (body.Watch slots number) = of_given given [] (number ∷ [])
given_by given other = []

abbrev pub given_on : Given → Line → List ℕ
given_on given (Replied reply) = given_by given reply.body
given_on given (Noticed notice) = []

-- the numbers that these lines give, one after another
abbrev pub numbers_given : Given → List Line → List ℕ
numbers_given given lines = flat_map (given_on given) lines

-- what was given on the way of a machine are the numbers from its next one on, one after another, up to the next one where it came to; and
-- those that are armed rise below the next one there, if they did before
pub record GivesInOrder (given : Given) (m : Machine) (ran : Ran) : Type 0 where
  pub all : numbers_given given ran.lines ≡ from (next_of given m) (next_of given ran.after - next_of given m)
  pub grows : next_of given m ≤ next_of given ran.after
  pub rises : AreRising 1 (armed_numbers given m) (next_of given m) → AreRising 1 (armed_numbers given ran.after) (next_of given ran.after)
