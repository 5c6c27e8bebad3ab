use Rattle.std.proofs.Common.{rules, ◌≡◌, ◌++◌, ◌∷◌, [], map, ap, ◌∙◌, sym, append_assoc, append-nil}
use Rattle.std.proofs.lemmas.List.{nil_from_length}
use Rattle.std.specs.Vec.Iter.{into_iter_items}
use Rattle.hub_core.proofs.Crowding.{fresh_none, fresh_more, usable_none, usable_more}
use Rattle.hub_core.proofs.Ending.{open_next}
use Rattle.hub_core.proofs.seats.clients_of.Goals as goal

pub loop-link-init : goal.loop-link-init
loop-link-init g c =
    let all : into_iter_items c.into_iter-link-iterator.result ≡ c.args.links.items = search rules in
    record {
      begun = ([], ap (map g.L.Link.meaning) all, fresh_none g.L.Link.meaning c.args.clients.items c.requires.room.0);
      usable = usable_none g.L.Link.meaning c.args.clients.items c.requires.room.0;
      still = rw all c.requires.usable;
      len = search rules;
      room = search rules;
      left = search rules;
    }

pub loop-link-preserved : goal.loop-link-preserved
loop-link-preserved g c =
    let was = c.loop-link.invariant.begun in
    let m = g.L.Link.meaning in
    let grown : c.push.new.self.items ≡ c.loop-link.clients.items ++ c.new-client.result ∷ [] = search rules in
    let still = open_next m _ _ c.in-Some.link c.in-Some.ensures.steps.0 c.loop-link.invariant.still in
    record {
      begun = (
        was.0 ++ m c.in-Some.link ∷ [],
        append_assoc was.0 (m c.in-Some.link ∷ []) _ ∙ ap (λ l. was.0 ++ map m l) (sym c.in-Some.ensures.steps.0) ∙ was.1,
        rw grown (fresh_more m 0 was.0 c.loop-link.clients.items (m c.in-Some.link) c.new-client.result was.2 c.new-client.ensures.fits),
      );
      usable = rw grown (usable_more m c.loop-link.clients.items c.new-client.result c.loop-link.invariant.usable c.new-client.ensures.place (c.new-client.ensures.shut ∙ still.0));
      still = still.1;
      len = search rules;
      room = search rules;
      left = search rules;
    }

pub returns-clause-fresh : goal.returns-clause-fresh
returns-clause-fresh g c =
    let was = c.loop-link.invariant.begun in
    let none : into_iter_items c.loop-link.link-iterator ≡ [] = nil_from_length _ (sym c.loop-link.invariant.left ∙ c.in-None.ensures.steps.0) in
    let all : was.0 ≡ map g.L.Link.meaning c.args.links.items = sym (append-nil was.0) ∙ rw none at was.1 in
    rw all at was.2
