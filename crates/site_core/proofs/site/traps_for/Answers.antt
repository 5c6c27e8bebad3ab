use Rattle.std.proofs.Common.{ℕ, List, All, ◌∙◌, sym, subst}
use Rattle.site_core.specs.Traps.{IsSpot}
use Rattle.site_core.proofs.Sites.{spots_are}
use Rattle.site_core.proofs.site.traps_for.Goals as goal

pub traps_at-requires : goal.traps_at-requires
traps_at-requires c =
    subst (λ (l : List (ℕ × ℕ)). All (IsSpot c.args.table.now) l) (sym (c.deref.ensures.value ∙ c.in_ok-spots.ensures))
    (spots_are c.args.table.now c.args.named c.args.slots.now c.requires)
