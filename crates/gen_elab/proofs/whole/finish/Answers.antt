use Rattle.std.proofs.Common.{List, map, nat_lt, sym, ap, ◌∙◌}
use Rattle.std.proofs.lemmas.Bool.{ltb-false}
use Rattle.elab_core.specs.declared.Instance as code_instance
use Rattle.elab_core.specs.Design.{cells}
use Rattle.elab_core.specs.View.{instance_of}
use Rattle.gen_elab.proofs.whole.finish.Goals as goal

pub designed-requires-clause-kept : goal.designed-requires-clause-kept
designed-requires-clause-kept c =
    let judged = c.are_too_many.ensures ∙ ap (λ (l : List code_instance.Instance). nat_lt 4000000 (cells (map instance_of l))) c.deref.ensures.value in
    c.requires.kept (ltb-false 4000000 (cells (map instance_of c.args.instances.items)) (sym judged ∙ c.if-are_too_many.false))
