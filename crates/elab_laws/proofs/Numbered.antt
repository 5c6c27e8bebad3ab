-- What elaboration gives has its slots.
use Rattle.std.proofs.Common.{List, Result, Ok, Err, subst}
use Rattle.std.specs.List.{enumerate_from}
use Rattle.gen_tree.specs.Tree.{Module}
use Rattle.exec_core.specs.Block.{Name}
use Rattle.design_core.specs.Design.{Design}
use Rattle.elab_core.specs.Walk.{Fault}
use Rattle.elab_core.specs.Elaborated.{Instance}
use Rattle.elab_core.specs.Design.{variants_of, designed, elab, design_from}
use Rattle.elab_laws.specs.Numbered.{HasSlots, ElaborationNumbers}
use Rattle.design_exec.proofs.Slots.{instances_apart}
use Rattle.elab_laws.proofs.Numbering.{each_numbered}
use Rattle.elab_laws.proofs.Ranges.{variants_apart}

abbrev OnDesign : (Design → Type 0) → Result Design Fault → Type 0
OnDesign P (Ok d) = P d
OnDesign P (Err fault) = Unit {0}

has_slots : (modules : List Module) (top : Name) (instances : List Instance) → HasSlots (designed modules top instances)
has_slots modules top instances =
    let variants = variants_of instances in
    let numbered = each_numbered modules variants (enumerate_from 0 variants) in
    record {
      variants = numbered;
      apart = variants_apart modules variants;
      instances = instances_apart (designed modules top instances) numbered;
    }

on_instances : (modules : List Module) (top : Name) (r : Result (List Instance) Fault) → OnDesign HasSlots (design_from modules top r)
on_instances modules top (Ok instances) = has_slots modules top instances
on_instances modules top (Err fault) = tt

pub elaboration_numbers : ElaborationNumbers
elaboration_numbers modules top rest d e = subst (OnDesign HasSlots) e (on_instances modules top (elab modules top rest))
