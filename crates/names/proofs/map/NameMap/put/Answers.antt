use Rattle.std.proofs.Common.{◌≡◌, ap, ◌∙◌, map, rules}
use Rattle.names.specs.Known.{Name}
use Rattle.names.specs.Maps.{value_of, put_value}
use Rattle.names.proofs.Entries.{put_found, named_entry}
use Rattle.names.proofs.map.NameMap.put.Goals as goal

pub returns-clause-ok : goal.returns-clause-ok
returns-clause-ok g c =
    let copied : c.in_ok-to_vec.field-0.items ≡ c.args.name.now = search rules in
    rw (← c.self.view_is) (ap (λ es. value_of (map (named_entry (λ k. k.items)) es)) c.in_ok-insert.ensures.entries
    ∙ put_found (λ k. k.items) c.self.inside.values.entries c.in_ok-to_vec.field-0 c.args.value
    ∙ ap (λ (y : Name). put_value y c.args.value (value_of (map (named_entry (λ k. k.items)) c.self.inside.values.entries))) copied)
