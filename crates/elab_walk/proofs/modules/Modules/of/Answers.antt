use Rattle.std.proofs.Common.{◌≡◌, ◌∙◌, ℕ, take, Some, None, sym, ap, rules, bytes_eq}
use Rattle.std.specs.Map.{lookup}
use Rattle.std.specs.Option.{option_copied}
use Rattle.gen_tree.specs.View.{module_of, lent_of}
use Rattle.elab_core.specs.Elab.{places}
use Rattle.elab_walk.specs.Modules.{sole}
use Rattle.elab_walk.proofs.Placed.{leads_more, modules_taken, modules_count}
use Rattle.elab_walk.proofs.modules.Modules.of.Goals.{in-None, in-Some}
use Rattle.elab_walk.proofs.modules.Modules.of.Goals as goal

pub loop-place-preserved : goal.loop-place-preserved
loop-place-preserved c =
    let m = c.index-all-place.result in
    let place = c.loop-place.place in
    let entries = c.loop-place.by_name.entries in
    let key = c.in_ok-to_vec.field-0 in
    let copied : key.items ≡ c.bytes-name.result.now = search rules in
    let looked : lookup (λ k. bytes_eq m.now.name k.items) entries ≡ option_copied c.get.result =
    ap (λ x. lookup (λ k. bytes_eq x k.items) entries) (sym c.bytes-name.ensures) ∙ sym c.get.ensures.value in
    let found : c.match-get.found ≡ (elim (lookup (λ k. bytes_eq m.now.name k.items) entries) [ None ↦ Some place | Some _ ↦ None ]) =
    elim c.match-get.branch [
      | in-None w ↦ w.found-is ∙ sym (ap (λ r. elim r [ None ↦ Some place | Some _ ↦ None ]) (looked ∙ ap option_copied w.in-None.is))
      | in-Some w ↦ w.found-is ∙ sym (ap (λ r. elim r [ None ↦ Some place | Some _ ↦ None ]) (looked ∙ ap option_copied w.in-Some.is))
    ] in
    let count = modules_count c.args.all.now place c.loop-place-test.true in
    λ x. leads_more entries c.insert.new.self.entries (lent_of (take place c.args.all.now)) (module_of m.now) key c.match-get.found c.loop-place.invariant (copied ∙ c.bytes-name.ensures)
    (found ∙ ap (λ (n : ℕ). elim (lookup (λ k. bytes_eq m.now.name k.items) entries) [ None ↦ Some n | Some _ ↦ None ]) count) c.in_ok-insert.ensures.entries x
    ∙ ap (λ ms. sole (places x 0 ms)) (sym (modules_taken c.args.all.now place m c.loop-place-test.true c.index-all-place.is))
