use Rattle.dap_link.proofs.Heads.{first_bytes}
use Rattle.dap_link.proofs.head.front_of.Goals as goal

pub returns : goal.returns
returns c = c.front_seen.ensures c.args.text.now (first_bytes c.args.text.now c.min.result c.min.ensures)
