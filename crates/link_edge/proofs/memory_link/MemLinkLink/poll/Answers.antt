use Rattle.link_edge.proofs.Scripts.{poll_kept}
use Rattle.link_edge.proofs.memory_link.MemLinkLink.poll.Goals as goal

pub returns-clause-after : goal.returns-clause-after
returns-clause-after c =
    rw c.count.ensures.after (poll_kept c.args.self.now c.next_answer-answer.result (rw c.count.ensures.after at c.count.ensures.counts) c.next_answer-answer.ensures)
