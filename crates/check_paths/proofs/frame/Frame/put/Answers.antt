use Rattle.std.proofs.Common.{◌≡◌, ap, ◌∙◌, map, rules}
use Rattle.names.specs.Known.{Name}
use Rattle.names.specs.Maps.{value_of, put_value}
use Rattle.names.proofs.Entries.{put_found, named_entry}
use Rattle.check_paths.proofs.frame.Frame.put.Goals as goal

pub returns : goal.returns
returns c =
    let copied : c.in_ok-to_vec.field-0.items ≡ c.args.name.now = search rules in
    rw (← c.self.view_is) (ap (λ es. value_of (map (named_entry (λ k. k.items)) es)) c.in_ok-insert.ensures.entries
    ∙ put_found (λ k. k.items) c.self.inside.sets.entries c.in_ok-to_vec.field-0 c.args.set
    ∙ ap (λ (y : Name). put_value y c.args.set (value_of (map (named_entry (λ k. k.items)) c.self.inside.sets.entries))) copied)
