use Rattle.dap_link.proofs.Slash.{part_boundary}
use Rattle.dap_link.proofs.naming.behind_slash.Goals as goal

pub split_at-requires : goal.split_at-requires
split_at-requires c = rw (c.last_len.ensures.len, c.as_bytes.ensures.value) (part_boundary c.args.name.now c.utf8.name)
