-- A walk: what is met, in order, and what comes out.
use Rattle.std.specs.Prelude.{ℕ, ◌+◌, List, Result, Ok, Err, if◌then◌else◌, nat_le}
use Rattle.elab_core.specs.declared.fault.Count.{Count}
use Rattle.elab_core.specs.declared.fault.Count.TheVariants.{Instances, Turns, Statements, Signals, Parts, Cells}

-- the refusals of elaboration, with their lines; a limit is that of what is counted
pub data Fault : Type 0 where
  UnknownModule : ℕ → List ℕ → Fault
  UnknownParameter : ℕ → List ℕ → Fault
  ElabRange : ℕ → Fault
  TooDeep : ℕ → List ℕ → Fault
  TooLarge : ℕ → Count → ℕ → Fault

-- a walk either ends with what came out of it, or at a fault of its own, or goes on after something that counts
pub data Walk (A : Type 0) : Type 0 where
  Gives : A → Walk A
  Faulty : Fault → Walk A
  Counted : Count → ℕ → Walk A → Walk A

-- one walk after another
unfoldable pub and_then : {A B : Type 0} → Walk A → (A → Walk B) → Walk B
and_then (Gives a) f = f a
and_then (Faulty fault) f = Faulty fault
and_then (Counted what line w) f = Counted what line (and_then w f)

infixl 1 ◌>>=◌
abbrev pub ◌>>=◌ : {A B : Type 0} → Walk A → (A → Walk B) → Walk B
w >>= f = and_then w f

-- one event that counts
abbrev pub counts : Count → ℕ → Walk (Unit {0})
counts what line = Counted what line (Gives tt)

-- how many of each were met
pub record Seen : Type 0 where
  pub instances : ℕ
  pub turns : ℕ
  pub statements : ℕ
  pub signals : ℕ
  pub parts : ℕ

abbrev pub none_seen : Seen
none_seen = record { instances = 0; turns = 0; statements = 0; signals = 0; parts = 0 }

abbrev pub seen_of : Count → Seen → ℕ
seen_of Instances seen = seen.instances
seen_of Turns seen = seen.turns
seen_of Statements seen = seen.statements
seen_of Signals seen = seen.signals
seen_of Parts seen = seen.parts
seen_of Cells seen = 0

abbrev pub one_more : Count → Seen → Seen
one_more Instances seen = record seen { instances = seen.instances + 1 }
one_more Turns seen = record seen { turns = seen.turns + 1 }
one_more Statements seen = record seen { statements = seen.statements + 1 }
one_more Signals seen = record seen { signals = seen.signals + 1 }
one_more Parts seen = record seen { parts = seen.parts + 1 }
one_more Cells seen = seen

abbrev pub limit : Count → ℕ
limit Instances = 4096
limit Turns = 1000000
limit Statements = 200000
limit Signals = 200000
limit Parts = 2000000
limit Cells = 4000000

-- a count passes its limit
abbrev pub too_large : ℕ → Count → Fault
too_large line what = TooLarge line what (limit what)

-- the first faulty event, or what comes out and the counts
unfoldable pub judge : {A : Type 0} → Seen → Walk A → Result (A × Seen) Fault
judge seen (Gives a) = Ok (a, seen)
judge seen (Faulty fault) = Err fault
judge seen (Counted what line w) =
    if nat_le (limit what) (seen_of what seen) then Err (too_large line what) else judge (one_more what seen) w
