use Rattle.std.proofs.Common.{◌∙◌, ◌++◌, List, ℕ, ◌<◌, length, sym, subst, ap}
use Rattle.list_core.specs.Lists.{EachOf}
use Rattle.design_core.specs.View.{expr_of}
use Rattle.design_exec.specs.Processes.{tree_of}
use Rattle.names.specs.Maps.{value_of}
use Rattle.dep_order.specs.Standing.{StandFor, read_by}
use Rattle.dep_order.proofs.Versions.{reads_stand, reads_vertices}
use Rattle.dep_order.proofs.wiring.reads_of.Goals as goal

pub returns-clause-within : goal.returns-clause-within
returns-clause-within c = λ g all.
    let e = tree_of (expr_of c.args.expr.now) in
    subst (EachOf (λ v. v < length g)) (sym (c.in_ok-read_expr.ensures ∙ ap (λ (l : List ℕ). l ++ read_by e (value_of c.args.numbers.now)) c.new-read.ensures.items)) (reads_vertices (length g) (value_of c.args.numbers.now) e all)

pub returns-clause-stand : goal.returns-clause-stand
returns-clause-stand c = λ signals g all.
    let e = tree_of (expr_of c.args.expr.now) in
    subst (λ vs. StandFor signals g (value_of c.args.numbers.now) vs e) (sym (c.in_ok-read_expr.ensures ∙ ap (λ (l : List ℕ). l ++ read_by e (value_of c.args.numbers.now)) c.new-read.ensures.items)) (reads_stand signals g (value_of c.args.numbers.now) e all)
