use Rattle.project_read.proofs.Folder.{boundary}
use Rattle.project_read.proofs.names.folder_of.Goals as goal

pub split_at-requires : goal.split_at-requires
split_at-requires c = rw (c.as_bytes.ensures.value) at (boundary c.as_bytes.result.now c.folder_len.result c.as_bytes.ensures.utf8 c.folder_len.ensures.within c.folder_len.ensures.slash)
