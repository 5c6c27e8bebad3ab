use Rattle.std.proofs.Common.{◌≡◌, length, sym, ap, ◌∙◌, subst}
use Rattle.list_core.specs.Lists.{EachOf}
use Rattle.net_core.specs.Nets.{NextsFit}
use Rattle.walk_net.specs.Registers.{HasPlace, AreNextIds, with_nexts}
use Rattle.walk_net.proofs.Following.{written_back}
use Rattle.walk_net.proofs.NextIds.{have_places, nexts_length, next_ids_are}
use Rattle.walk_net.proofs.registers.next_ids.Goals as goal

pub set_nexts-requires : goal.set_nexts-requires
set_nexts-requires c =
    let long : length c.deref_mut.result.now ≡ length c.args.net.now.nodes = ap length c.deref_mut.ensures.value ∙ c.in_ok-ids.ensures.count ∙ c.count.ensures.count in
    subst (λ n. EachOf (HasPlace n) c.nexts.result.now) (sym long)
    (have_places c.args.net.now.nodes c.nexts.result.now (subst (NextsFit c.args.net.now.nodes) (sym c.nexts.ensures.nexts) c.nexts.ensures.fit))

pub returns : goal.returns
returns c =
    let same : length c.set_nexts.new.ids ≡ c.in_ok-ids.ids.len = ap length c.set_nexts.ensures ∙ nexts_length c.deref_mut.result.now c.nexts.result.now ∙ c.deref_mut.ensures.len in
    subst (AreNextIds c.args.net.now) (sym (written_back c.set_nexts.new.ids c.in_ok-ids.ids.items c.in_ok-ids.ids.len same))
    (next_ids_are c.args.net.now c.count.ensures.net c.nexts.result.now c.nexts.ensures.nexts c.in_ok-ids.ids.items c.set_nexts.new.ids
    (c.in_ok-ids.ensures.count ∙ c.count.ensures.count) c.in_ok-ids.ensures.none
    (c.set_nexts.ensures ∙ ap (λ none. with_nexts none c.nexts.result.now) c.deref_mut.ensures.value))
