-- A design of the code, as a design.
use Rattle.std.specs.Prelude.{map}
use Rattle.design_core.specs.declared.design.Design as code_design
use Rattle.design_core.specs.Design.{Design}
use Rattle.design_core.specs.View.{variant_of}

abbrev pub design_of : code_design.Design → Design
design_of d = record { top = d.top; variants = map variant_of d.variants.items; instances = d.instances }
