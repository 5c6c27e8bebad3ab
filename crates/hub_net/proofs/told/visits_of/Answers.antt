use Rattle.std.proofs.Common.{rules, arith, ◌≡◌, ◌<◌, ◌++◌, ◌∷◌, [], None, Some, drop, length}
use Rattle.hub_core.specs.HubJournals.{hub_deeds}
use Rattle.serve_net.specs.declared.visit.Visit.TheVariants.{NoLink}
use Rattle.hub_net.specs.Clients.{told_from, visit_for}
use Rattle.hub_net.proofs.Visiting.{no_link_more, link_more, none_more, visits_all}
use Rattle.hub_net.proofs.told.visits_of.Goals as goal

pub loop-linked-init : goal.loop-linked-init
loop-linked-init c = record { visits = search rules; within = search rules }

pub loop-linked-preserved-then-not-linked : goal.loop-linked-preserved-then-not-linked
loop-linked-preserved-then-not-linked c =
    let within : c.loop-linked.linked-index < length c.args.came.now = omega arith in
    let grown : c.push.new.self.items ≡ c.loop-linked.visits.items ++ NoLink ∷ [] = search rules in
    record {
      visits = rw grown (no_link_more c.args.came.now _ c.loop-linked.linked-index c.loop-linked.client _ c.loop-linked.visits.items _ within c.loop-linked.invariant.visits c.if-not-linked.true);
      within = search rules;
    }

pub returns-in_default : goal.returns-in_default
returns-in_default c =
    let within : c.loop-linked.linked-index < length c.args.came.now = omega arith in
    let found : None ≡ visit_for (drop c.loop-linked.client (told_from 0 c.args.clients.now (hub_deeds c.args.events.now))) = search rules in
    none_more c.args.came.now _ c.loop-linked.linked-index c.loop-linked.client _ c.loop-linked.visits.items _ within c.loop-linked.invariant.visits c.if-not-linked.false found

pub loop-linked-preserved : goal.loop-linked-preserved
loop-linked-preserved c =
    let within : c.loop-linked.linked-index < length c.args.came.now = omega arith in
    let found : Some c.in-Some.visit ≡ visit_for (drop c.loop-linked.client (told_from 0 c.args.clients.now (hub_deeds c.args.events.now))) = search rules in
    record {
      visits = rw c.in_ok-push-2.ensures.items (link_more c.args.came.now _ c.loop-linked.linked-index c.loop-linked.client _ c.loop-linked.visits.items _ within c.loop-linked.invariant.visits c.if-not-linked.false c.in-Some.visit found);
      within = search rules;
    }

pub returns : goal.returns
returns c = visits_all _ _ c.loop-linked.linked-index c.loop-linked.client c.loop-linked.visits.items _ c.loop-linked-test.false c.loop-linked.invariant.visits
