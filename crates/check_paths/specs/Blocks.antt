-- What a block assigns twice.
use Rattle.std.specs.Prelude.{Option}
use Rattle.design_core.specs.Design.{Block}
use Rattle.check_core.specs.declared.fault.CheckFault.{CheckFault}
use Rattle.check_core.specs.Faults.{first_of}
use Rattle.check_core.specs.Drivers.{Lines, driven_in, second_drive}

-- the first assignment in a block to what is driven already
unfoldable pub twice_in_block : Lines → Block → Option CheckFault
twice_in_block lines b = first_of (second_drive lines) (driven_in b)
