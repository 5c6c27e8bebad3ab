-- Answers that may be a fault.
use Rattle.std.specs.Prelude.{◌≡◌, Result, Ok, Err}
use Rattle.vcd_read.specs.declared.fault.VcdFault.{VcdFault}
use Rattle.vcd_read.specs.declared.fault.VcdFault.TheVariants.{NoMemory}

infixl 10 ◌>>=◌
-- one step after another, up to the first fault
abbrev pub ◌>>=◌ : {A B : Type 0} → Result A VcdFault → (A → Result B VcdFault) → Result B VcdFault
(Ok x) >>= f = f x
(Err fault) >>= f = Err fault

-- this fault is what is said, unless memory ran out
abbrev pub Fails : {Y : Type 0} → VcdFault → Result Y VcdFault → Type 0
Fails NoMemory said = Unit {0}
Fails fault said = said ≡ Err fault

-- what was returned leads to what is said: that follows from it, or it is the fault, unless memory ran out
abbrev pub Leads : {X Y : Type 0} → (X → Result Y VcdFault) → Result X VcdFault → Result Y VcdFault → Type 0
Leads follows (Ok x) said = said ≡ follows x
Leads follows (Err fault) said = Fails fault said

-- what was returned, seen by view, is what is said, unless memory ran out
abbrev pub Gives : {X Y : Type 0} → (X → Y) → Result X VcdFault → Result Y VcdFault → Type 0
Gives view result said = Leads (λ x. Ok (view x)) result said
