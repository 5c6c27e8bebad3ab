-- What a service shows to each client: a design's run over rows, and which names are kept.
use Rattle.std.specs.Prelude.{◌≡◌, ℕ, List, Ok, length}
use Rattle.bv_core.specs.Value.{Bits}
use Rattle.exec_core.specs.Whole.{Place}
use Rattle.design_core.specs.Design.{Design}
use Rattle.design_core.specs.DesignView.{design_of}
use Rattle.stim_text.specs.Rows.{rows_of}
use Rattle.world_core.specs.declared.mode.Mode.{Mode}
use Rattle.world_core.specs.World.{World}
use Rattle.world_core.specs.Seen.{seen}
use Rattle.world_core.specs.Source.{source_world}
use Rattle.trim_laws.specs.Runs.{RunsOver}
use Rattle.design_judge.specs.Accepting.{IsKept, accepting_of}
use Rattle.show_net.specs.declared.service.Service.{Service}

-- n signals of the design are driven
pub record Over : Type 0 where
  pub design : Design
  pub driven : ℕ
  pub mode : Mode
  pub rows : List (List Bits)

-- the world of one of its runs, as it is seen
abbrev pub world_over : Over → List (Place → Bits) → World
world_over over run = seen (source_world over.design over.driven over.mode run)

abbrev pub RunsAs : Over → List (Place → Bits) → Type 0
RunsAs over run = RunsOver over.design over.rows run

-- a service shows this: its design is accepted, and these are the rows of its stimulus
pub record Shows (service : Service) (over : Over) : Type 0 where
  pub kept : IsKept (accepting_of service.accepted)
  pub rows : rows_of service.accepted.ports service.stimulus.items ≡ Ok over.rows
  pub design : over.design ≡ design_of service.accepted.design
  pub driven : over.driven ≡ length service.accepted.order
  pub mode : over.mode ≡ service.mode
