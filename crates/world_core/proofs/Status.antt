-- Tests of paths, and what they mean.
use Rattle.std.proofs.Common.{◌≡◌, ℕ, true}
use Rattle.exec_core.specs.Block.{Name}
use Rattle.exec_core.specs.Paths.{IsUnset}
use Rattle.exec_core.proofs.Deciding.{decides}
use Rattle.world_core.specs.Sites.{Site, site_body, unset_in}

pub unset_means : (s : Site) (k : ℕ) (x : Name) → unset_in s k x ≡ true → IsUnset s.widths (site_body s) k x
unset_means s k x = (decides.unset s.widths (site_body s) k x).0

pub unset_told : (s : Site) (k : ℕ) (x : Name) → IsUnset s.widths (site_body s) k x → unset_in s k x ≡ true
unset_told s k x = (decides.unset s.widths (site_body s) k x).1
