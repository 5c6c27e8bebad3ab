use Rattle.std.proofs.Common.{◌≡◌, sym, ◌∙◌, ap, bytes_eq, not, List, ℕ, rules}
use Rattle.std.specs.List.{list_any}
use Rattle.names.proofs.Sets.{list_any-map}
use Rattle.names.proofs.set.NameSet.put.Goals as goal

pub returns-clause-added : goal.returns-clause-added
returns-clause-added c =
    let keys = c.self.inside.names.keys in
    let copied : c.in_ok-to_vec.field-0.items ≡ c.args.name.now = search rules in
    rw (← c.self.view_is) (c.in_ok-insert.ensures.added
    ∙ ap (λ (bytes : List ℕ). not (list_any (λ name. bytes_eq bytes name.items) keys)) copied
    ∙ ap not (sym (list_any-map (bytes_eq c.args.name.now) (λ name. name.items) keys)))
