-- Where a reader's answer leads.
use Rattle.std.proofs.Common.{◌≡◌, Result, ap, ◌∙◌}
use Rattle.vcd_read.specs.declared.fault.VcdFault.{VcdFault}
use Rattle.vcd_read.specs.declared.fault.VcdFault.TheVariants.{NoMemory}
use Rattle.vcd_read.specs.Results.{◌>>=◌, Fails}

-- a part's fault is the whole's
pub fault_leads : {Y W : Type 0} (fault : VcdFault) (g : Y → Result W VcdFault) (said : Result Y VcdFault) (all : Result W VcdFault)
    → Fails fault said → all ≡ (said >>= g) → Fails fault all
fault_leads NoMemory g said all e p = tt
fault_leads fault g said all e p = p ∙ ap (λ r. r >>= g) e
