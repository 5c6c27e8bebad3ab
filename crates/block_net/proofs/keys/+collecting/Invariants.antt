use Rattle.std.proofs.Common.{◌≡◌, ◌+◌, ◌*◌, ◌≤◌, drop}
use Rattle.exec_core.specs.Block.{Done, body_assigns}
use Rattle.design_core.specs.View.{arms_of, body_of, else_of, stmt_of}
use Rattle.design_core.specs.Slots.{arms_size, size, stmt_size, else_size}
use Rattle.block_net.specs.Cases.{arms_assign}
use Rattle.block_net.specs.Source.{arms_in, body_in}
use Rattle.block_net.specs.Walks.{among, either}
use Rattle.block_net.proofs.keys.+collecting.Given as goal

-- what is left assigns the rest
abbrev pub invariant-collect-loop-stmt : goal.invariant-collect-loop-stmt
invariant-collect-loop-stmt l = record {
  assigned : either (among l.keys.items) (body_assigns (body_in l.clocked (drop l.stmt-index l.stmts))) ≡ either (among l.initial.keys.items) (body_assigns (body_in l.clocked l.stmts));
  left : size (body_of (drop l.stmt-index l.stmts)) ≤ size (body_of l.stmts);
}

abbrev pub decreases-collect : goal.decreases-collect
decreases-collect l = 3 * size (body_of l.stmts.now) + 1

abbrev pub decreases-collect_stmt : goal.decreases-collect_stmt
decreases-collect_stmt l = 3 * stmt_size (stmt_of l.stmt.now)

abbrev pub decreases-collect_else : goal.decreases-collect_else
decreases-collect_else l = 3 * else_size (else_of l.no.now) + 2

-- what is left of the arms assigns the rest
abbrev pub invariant-collect_arms-loop-arm : goal.invariant-collect_arms-loop-arm
invariant-collect_arms-loop-arm l = record {
  assigned : either (among l.keys.items) (arms_assign (arms_in l.clocked (drop l.arm-index l.arms)) Done) ≡ either (among l.initial.keys.items) (arms_assign (arms_in l.clocked l.arms) Done);
  left : arms_size (arms_of (drop l.arm-index l.arms)) ≤ arms_size (arms_of l.arms);
}

abbrev pub decreases-collect_arms : goal.decreases-collect_arms
decreases-collect_arms l = 3 * arms_size (arms_of l.arms.now) + 2
