-- What a call of the code answers for a walk.
use Rattle.std.specs.Prelude.{◌≡◌, Bool, true, false, Result, Ok, Err}
use Rattle.elab_core.specs.declared.fault.ElabFault as code_fault
use Rattle.elab_core.specs.declared.fault.ElabFault.TheVariants as faults
use Rattle.elab_core.specs.Walk.{Walk, Gives, Faulty, Fault, Seen, UnknownModule, UnknownParameter, ElabRange, TooDeep, TooLarge}

-- a fault of the code that is not want of memory
abbrev pub is_fault : code_fault.ElabFault → Bool
is_fault (faults.UnknownModule line x) = true
is_fault (faults.UnknownParameter line x) = true
is_fault (faults.ElabRange line) = true
is_fault (faults.TooDeep line x) = true
is_fault (faults.TooLarge line what limit) = true
is_fault faults.NoMemory = false

-- the fault that it is; any at want of memory
abbrev pub fault_of : code_fault.ElabFault → Fault
fault_of (faults.UnknownModule line x) = UnknownModule line x
fault_of (faults.UnknownParameter line x) = UnknownParameter line x
fault_of (faults.ElabRange line) = ElabRange line
fault_of (faults.TooDeep line x) = TooDeep line x
fault_of (faults.TooLarge line what limit) = TooLarge line what limit
fault_of faults.NoMemory = ElabRange 0

-- a call that counts nothing: Ok with what the walk gives, or its fault
abbrev pub AnswersWith : {X Y : Type 0} → (X → Y) → Result X code_fault.ElabFault → Walk Y → Type 0
AnswersWith view (Ok x) w = w ≡ Gives (view x)
AnswersWith view (Err fault) w = is_fault fault ≡ true → w ≡ Faulty (fault_of fault)

-- a call that counts, of a walk that was judged: Ok with what came out and the counts afterwards, or the first fault
abbrev pub Judged : {X Y : Type 0} → (X → Y) → Result X code_fault.ElabFault → Seen → Result (Y × Seen) Fault → Type 0
Judged view (Ok x) seen judged = judged ≡ Ok (view x, seen)
Judged view (Err fault) seen judged = is_fault fault ≡ true → judged ≡ Err (fault_of fault)

-- a call whose result is settled by a definition: Ok with this value, or its fault
abbrev pub Answers : {X Y : Type 0} → (X → Y) → Result X code_fault.ElabFault → Result Y Fault → Type 0
Answers view (Ok x) found = found ≡ Ok (view x)
Answers view (Err fault) found = is_fault fault ≡ true → found ≡ Err (fault_of fault)

-- a call that has no fault but want of memory
abbrev pub NoMemoryOr : {X : Type 0} → (X → Type 0) → Result X code_fault.ElabFault → Type 0
NoMemoryOr P (Ok x) = P x
NoMemoryOr P (Err fault) = fault ≡ faults.NoMemory
