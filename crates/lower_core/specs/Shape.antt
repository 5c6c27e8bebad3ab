-- The parts of a design's symbol table that do not depend on its nodes.
use Rattle.std.specs.Prelude.{ℤ, [], map}
use Rattle.exec_core.specs.Block.{Name}
use Rattle.design_core.specs.declared.design.Instance as design_instance
use Rattle.design_core.specs.Design.{Variant, Design}
use Rattle.symtab.specs.declared.parts.GenVariable.{GenVariable}
use Rattle.symtab.specs.declared.parts.VariantParts.{VariantParts}
use Rattle.symtab.specs.declared.parts.InstanceParts.{InstanceParts}
use Rattle.symtab.specs.declared.parts.Slot.{Slot}
use Rattle.symtab.specs.declared.parts.TableParts.{TableParts}
use Rattle.world_core.specs.Sites.{Site, sites_in_order}

abbrev pub gen_part : Name × ℤ → GenVariable
gen_part g = record { name = g.0; value = g.1 }

abbrev pub variant_part : Variant → VariantParts
variant_part v = record { «module» = v.«module»; gens = map gen_part v.params }

abbrev pub instance_part : design_instance.Instance → InstanceParts
instance_part r = record { path = r.path; variant = r.variant }

-- a statement, without rows
abbrev pub slot_part : Site → Slot
slot_part s = record { variant = s.variant; line = s.line; gens = map gen_part s.gens; names = s.names; rows = [] }

-- the top, the variants, the instances, and the statements in the order of their slots; there are no nodes
abbrev pub shape_of : Design → TableParts
shape_of d = record {
  top = d.top;
  nodes = [];
  variants = map variant_part d.variants;
  instances = map instance_part d.instances;
  slots = map slot_part (sites_in_order d);
}
