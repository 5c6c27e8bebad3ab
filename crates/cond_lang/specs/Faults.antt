-- What the answers other than Ok say.
use Rattle.std.specs.Prelude.{◌≡◌, ℕ, min, List, Option, Some, None, Result, Ok, Err}
use Rattle.cond_lang.specs.declared.fault.CondFault.{CondFault}
use Rattle.cond_lang.specs.declared.fault.CondFault.TheVariants as cond_faults
use Rattle.cond_lang.specs.declared.fault.BindEnd.{BindEnd}
use Rattle.cond_lang.specs.declared.fault.BindEnd.TheVariants as bind_ends
use Rattle.cond_lang.specs.Judged.{Refusal, not_in_scope, was_removed, is_unset, misfit}
use Rattle.cond_lang.specs.Reading.{IsFirstPlace, IsFirstForm}

-- the text is the cause of this fault; want of memory has no cause
abbrev pub IsCause : List ℕ → CondFault → Type 0
IsCause text (cond_faults.At offset) = IsFirstPlace text offset
IsCause text cond_faults.NoMemory = Unit {0}

-- the same, of the places that tokens have
abbrev pub IsFormCause : List ℕ → CondFault → Type 0
IsFormCause text (cond_faults.At offset) = IsFirstForm text offset
IsFormCause text cond_faults.NoMemory = Unit {0}

-- this end says why, unless memory ran out
abbrev pub Refuses : {A : Type 0} → BindEnd → Result A Refusal → Type 0
Refuses (bind_ends.Unknown name) judged = judged ≡ Err (not_in_scope name)
Refuses (bind_ends.Removed name) judged = judged ≡ Err (was_removed name)
Refuses (bind_ends.Unset name) judged = judged ≡ Err (is_unset name)
Refuses (bind_ends.Width offset) judged = judged ≡ Err (misfit offset)
Refuses bind_ends.NoMemory judged = Unit {0}

-- what was made, seen by view; or the offset of what does not fit, unless memory ran out
abbrev pub MisfitAt : {Y : Type 0} → BindEnd → Result Y ℕ → Type 0
MisfitAt (bind_ends.Unknown name) made = ⊥
MisfitAt (bind_ends.Removed name) made = ⊥
MisfitAt (bind_ends.Unset name) made = ⊥
MisfitAt (bind_ends.Width offset) made = made ≡ Err offset
MisfitAt bind_ends.NoMemory made = Unit {0}

abbrev pub Makes : {X Y : Type 0} → (X → Y) → Result X BindEnd → Result Y ℕ → Type 0
Makes view (Ok x) made = made ≡ Ok (view x)
Makes view (Err end) made = MisfitAt end made

-- what was found, seen by view; or why it was not, unless memory ran out
abbrev pub TellsFound : {X Y : Type 0} → (X → Y) → Result X BindEnd → Result Y Refusal → Type 0
TellsFound view (Ok x) found = found ≡ Ok (view x)
TellsFound view (Err end) found = Refuses end found

-- the fault, or the earlier place of another byte
abbrev pub or_other : CondFault → Option ℕ → CondFault
or_other (cond_faults.At offset) (Some other) = cond_faults.At (min offset other)
or_other (cond_faults.At offset) None = cond_faults.At offset
or_other cond_faults.NoMemory other = cond_faults.NoMemory
