use Rattle.std.proofs.Common.{rules, ◌≡◌, [], ◌∷◌}
use Rattle.duo_tests.proofs.Open.{both_open}
use Rattle.duo_tests.proofs.sharing.serve_links.Goals as goal

pub serve_hub-requires-clause-usable : goal.serve_hub-requires-clause-usable
serve_hub-requires-clause-usable g c κs within =
    let two : c.push-2.new.self.items ≡ c.new.result ∷ c.new-2.result ∷ [] = search rules in
    both_open _ c.push-2.new.self.items c.new.result c.new-2.result two c.new.ensures c.new-2.ensures
