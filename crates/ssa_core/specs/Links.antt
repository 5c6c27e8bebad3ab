-- The links of a design, as the code lists them.
use Rattle.std.specs.Prelude.{ℕ}
use Rattle.tree_core.specs.Tree.{Tree, Leaf}
use Rattle.exec_core.specs.Whole.{Place}
use Rattle.exec_core.specs.Design.{place, moved}
use Rattle.design_core.specs.View.{expr_of}
use Rattle.design_exec.specs.Processes.{Link as the_link, tree_of}
use Rattle.ssa_core.specs.declared.link.Link as code_link
use Rattle.ssa_core.specs.declared.link.LinkValue as code_value
use Rattle.ssa_core.specs.declared.link.LinkValue.TheVariants.{Expr, Output}

-- what stands at the source of a link, over the names of an instance
abbrev pub value_tree : ℕ → code_value.LinkValue → Tree Place
value_tree i (Expr e) = moved i (tree_of (expr_of e.now))
value_tree i (Output q) = Leaf (place i q.now)

abbrev pub link_as : code_link.Link → the_link
link_as l = (place l.target l.name.now, value_tree l.source l.value)
