use Rattle.std.proofs.Common.{rules, ◌≡◌, [], ◌∷◌}
use Rattle.hub_tests.proofs.Open.{both_open}
use Rattle.hub_tests.proofs.rows.serve_links.Goals as goal

pub serve_hub_lockstep-requires-clause-usable : goal.serve_hub_lockstep-requires-clause-usable
serve_hub_lockstep-requires-clause-usable g c κs within =
    let two : c.push-2.new.self.items ≡ c.args.first ∷ c.args.second ∷ [] = search rules in
    both_open _ c.push-2.new.self.items c.args.first c.args.second two c.requires.usable.0 c.requires.usable.1
