use Rattle.std.proofs.Common.{◌≡◌, ◌<◌, Some, length, ap, ◌∙◌, arith}
use Rattle.stim_text.specs.Stimulus.{Stimulus}
use Rattle.replay_laws.proofs.SeekCosts.{cost_ahead}
use Rattle.replay_laws.proofs.seeks.seek_over_kept.Goals as goal

pub returns-clause-to_next : goal.returns-clause-to_next
returns-clause-to_next g c =
    let rows : length c.seek_counted-to_last.new.self.stim.rows ≡ 1000 = ap (λ (s : Stimulus). length s.rows) c.seek_counted-to_last.ensures.stim ∙ c.requires.rows in
    let within : 767 < length c.seek_counted-to_last.new.self.stim.rows = omega (arith, rows) in
    cost_ahead _ _ 768 _ _ _ _ 767 (c.seek_counted-to_back.ensures.within within).1 (omega arith) c.seek_counted-to_next.ensures.cost
