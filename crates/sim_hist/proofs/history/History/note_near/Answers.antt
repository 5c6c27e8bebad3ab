use Rattle.std.proofs.Common.{◌≡◌, ℕ, ◌<◌, List, length, subst, sym, Vec, Global, rules}
use Rattle.std.specs.Prelude.{slice_index_or}
use Rattle.bv_core.specs.Value.{Bits}
use Rattle.sim_hist.proofs.Recalling.{long_rows}
use Rattle.sim_hist.proofs.history.History.note_near.Goals as goal

pub put-requires-clause-long : goal.put-requires-clause-long
put-requires-clause-long c =
    subst (λ (rows : List (Vec Bits Global)). (k : ℕ) → (d : Vec Bits Global) → k < length rows → length (slice_index_or rows k d).items ≡ length c.args.registers.now) (sym c.deref_mut.ensures.value)
    (long_rows c.self.inside.near.items c.self.inside.width (length c.args.registers.now) c.self.invariant.near_wide (search rules))
