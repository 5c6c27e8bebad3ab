-- The status of each way in which a run ends: 1 is none, as a shell tells by it what it could not start.
use Rattle.std.specs.Prelude.{ℕ}
use Rattle.run_status.specs.declared.Ending.{Ending}
use Rattle.run_status.specs.declared.Ending.TheVariants.{Written, NoCommand, NoDesign, NoStimulus, NoTrace, NoRequests, NotRead, NotTaken, OutOfMemory, BadInput}

abbrev pub status_of : Ending → ℕ
status_of Written = 0
status_of NoCommand = 2
status_of NoDesign = 3
status_of NoStimulus = 4
status_of NoTrace = 5
status_of NoRequests = 6
status_of NotRead = 7
status_of NotTaken = 8
status_of OutOfMemory = 9
status_of BadInput = 10
