use Rattle.std.proofs.Common.{rules, ◌≡◌, ◌≤◌, ◌∷◌, ◌++◌, [], length, arith, append-nil}
use Rattle.hub_core.proofs.Placing.{place_lost, fits_starved, free_fed}
use Rattle.hub_core.proofs.client.Client.starve.Goals as goal

pub returns-clause-keeps : goal.returns-clause-keeps
returns-clause-keeps g c = λ start asked made was.
    let none = c.requires.place.0 (free_fed c.args.self.now.outlet.over c.requires.free) in
    fits_starved start _ _ c.args.self.now c.lose.new.self c.push.new.self c.args.text asked made none (search rules) c.lose.ensures.link
    (λ d. rw append-nil at (c.lose.ensures.keeps start made [] d)) was

pub returns-clause-place : goal.returns-clause-place
returns-clause-place g c =
    let none : c.args.self.now.unapplied.items ≡ [] = c.requires.place.0 (free_fed c.args.self.now.outlet.over c.requires.free) in
    let pushed : c.push.new.self.items ≡ c.args.self.now.unapplied.items ++ c.args.text ∷ [] = search rules in
    let one : length c.push.new.self.items ≤ 1 = rw (pushed, none) (omega arith) in
    place_lost _ _ _ _ c.lose.ensures.over one
