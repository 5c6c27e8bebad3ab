use Rattle.std.proofs.Common.{sym, ap, ◌∙◌}
use Rattle.std.specs.Prelude.{◌+◌, drop}
use Rattle.dap_link.specs.Heads.{begins_beyond}
use Rattle.dap_link.proofs.Steps.{byte_tells, feed_next, byte_next, bytes_end}
use Rattle.dap_link.proofs.head.begins_beyond.Goals as goal
use Rattle.dap_link.proofs.head.begins_beyond.Goals.{then-byte-eq10, else-byte-eq10}

pub returns-then-left-eq0 : goal.returns-then-left-eq0
returns-then-left-eq0 c = sym (byte_tells _ _ _ c.loop-byte-test.true c.if-left-eq0.true) ∙ c.loop-byte.invariant

pub loop-byte-preserved : goal.loop-byte-preserved
loop-byte-preserved c = elim c.if-byte-eq10.branch [
  | then-byte-eq10 w ↦ ap (λ n. begins_beyond n (drop (c.loop-byte.byte-index + 1) c.args.text.now)) w.left-is ∙ feed_next _ _ _ c.loop-byte-test.true c.if-left-eq0.false w.if-byte-eq10.true ∙ c.loop-byte.invariant
  | else-byte-eq10 w ↦ ap (λ n. begins_beyond n (drop (c.loop-byte.byte-index + 1) c.args.text.now)) w.left-is ∙ byte_next _ _ _ c.loop-byte-test.true c.if-left-eq0.false w.if-byte-eq10.false ∙ c.loop-byte.invariant
]

pub returns : goal.returns
returns c = sym (bytes_end _ _ _ c.loop-byte-test.false) ∙ c.loop-byte.invariant
