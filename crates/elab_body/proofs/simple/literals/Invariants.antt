use Rattle.std.proofs.Common.{◌≡◌, [], drop, map}
use Rattle.gen_tree.specs.View.{lit_of}
use Rattle.elab_core.specs.Walk.{judge}
use Rattle.elab_core.specs.Elab.{literals}
use Rattle.elab_base.specs.Met.{met_of, CountsUp}
use Rattle.elab_body.proofs.simple.literals.Given as goal

abbrev pub invariant-loop-literal : goal.invariant-loop-literal
invariant-loop-literal l = record {
  judged : judge (met_of l.met) (literals l.line l.scope (map lit_of (drop l.literal-index l.written)) l.made.items) ≡ judge (met_of l.initial.met) (literals l.line l.scope (map lit_of l.written) []);
  instances : l.met.instances ≡ l.initial.met.instances;
  counts : CountsUp l.initial.met l.met;
}
