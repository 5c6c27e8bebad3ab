use Rattle.std.proofs.Common.{rules, arith, ◌≡◌, ◌≢◌, ◌+◌, ◌<◌, Some, length, sym, ◌∙◌, ap}
use Rattle.link_edge.specs.declared.answers.End.TheVariants.{NoMemory}
use Rattle.hub_core.specs.HubJournals.{asks_of, hub_deeds}
use Rattle.serve_net.specs.declared.visit.Visit.TheVariants.{Linked}
use Rattle.hub_net.specs.Clients.{visit_for}
use Rattle.hub_net.proofs.Visiting.{told_at, told_past, visit_at, no_visit_at}
use Rattle.hub_net.proofs.told.told_of.Goals as goal

pub returns-then-client-clients : goal.returns-then-client-clients
returns-then-client-clients c = sym (ap visit_for (told_past c.args.client c.args.clients.now (hub_deeds c.args.events.now) c.if-client-clients.true))

pub returns-in-NoMemory : goal.returns-in-NoMemory
returns-in-NoMemory c =
    let within : c.args.client < length c.args.clients.now = omega arith in
    sym (ap visit_for (told_at 0 c.args.client c.args.clients.now (hub_deeds c.args.events.now) c.index-clients-client.result within (sym c.index-clients-client.is)) ∙ no_visit_at _ _ _ (search rules))

pub returns : goal.returns
returns c =
    let within : c.args.client < length c.args.clients.now = omega arith in
    let same : 0 + c.args.client ≡ c.args.client = omega arith in
    let asked : length (asks_of (0 + c.args.client) (hub_deeds c.args.events.now)) ≡ c.ask_count.result = ap (λ k. length (asks_of k (hub_deeds c.args.events.now))) same ∙ sym c.ask_count.ensures in
    let lasting : c.index-clients-client.result.end ≢ NoMemory = search rules in
    sym (
    ap visit_for (told_at 0 c.args.client c.args.clients.now (hub_deeds c.args.events.now) c.index-clients-client.result within (sym c.index-clients-client.is)) ∙ visit_at _ _ _ lasting
    ∙ (λ k. Some (Linked (c.index-clients-client.is k).end (asked k)))
    )
