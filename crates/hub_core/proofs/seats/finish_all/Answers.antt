use Rattle.std.proofs.Common.{rules, ◌≡◌, ◌++◌, ◌∷◌, ◌+◌, [], map, ap, ◌∙◌, sym, refl, length, length-append, false}
use Rattle.std.specs.Prelude.{slice_index_or}
use Rattle.hub_core.specs.Ends.{shut_unless, client_end}
use Rattle.std.proofs.lemmas.List.{nil_from_length, map-append}
use Rattle.std.specs.Vec.Iter.{into_iter_items}
use Rattle.hub_core.proofs.Ending.{ends_more, links_more, ends_all, links_all}
use Rattle.hub_core.proofs.seats.finish_all.Goals as goal

pub loop-client-init : goal.loop-client-init
loop-client-init g c =
    let all : into_iter_items c.into_iter-client-iterator.result ≡ c.args.clients.items = search rules in
    record {
      shut = rw (c.requires.empty.0, c.requires.empty.1, all) refl;
      ended = rw (c.requires.empty.1, all) refl;
      links_room = search rules;
      ends_room = search rules;
      left = search rules;
    }

pub loop-client-preserved : goal.loop-client-preserved
loop-client-preserved g c =
    let m = g.L.Link.meaning in
    let client = c.in-Some.client in
    let links : c.push.new.self.items ≡ c.loop-client.links.items ++ c.finish-link.result.0 ∷ [] = search rules in
    let ends : c.push-in-loop-client.new.self.items ≡ c.loop-client.ends.items ++ c.finish-link.result.1 ∷ [] = search rules in
    let more : length c.push-in-loop-client.new.self.items ≡ length c.loop-client.ends.items + 1 = rw (ends, length-append) refl in
    let at : c.len-k.result ≡ length c.loop-client.ends.items = search rules in
    record {
      shut = links_more m c.args.here.now (length c.loop-client.ends.items) _ client _ _ (map m c.loop-client.links.items) _ _ (m c.finish-link.result.0) more c.in-Some.ensures.steps.0
          (c.finish-link.ensures.link ∙ ap (λ b. shut_unless b (m client.outlet.link)) (c.at.ensures ∙ ap (λ k. slice_index_or c.args.here.now k false) at))
          (ap (map m) links ∙ map-append m c.loop-client.links.items (c.finish-link.result.0 ∷ [])) c.loop-client.invariant.shut;
      ended = ends_more c.args.byes.now (length c.loop-client.ends.items) _ client _ _ c.loop-client.ends.items _ _ c.finish-link.result.1 more c.in-Some.ensures.steps.0
          (c.finish-link.ensures.end ∙ ap (λ b. client_end b client) (c.at-in-loop-client.ensures ∙ ap (λ k. slice_index_or c.args.byes.now k false) at))
          ends c.loop-client.invariant.ended;
      links_room = search rules;
      ends_room = search rules;
      left = search rules;
    }

pub returns-clause-links : goal.returns-clause-links
returns-clause-links g c =
    let none : into_iter_items c.loop-client.client-iterator ≡ [] = nil_from_length _ (sym c.loop-client.invariant.left ∙ c.in-None.ensures.steps.0) in
    links_all g.L.Link.meaning c.args.here.now _ _ _ _ none c.loop-client.invariant.shut

pub returns-clause-ends : goal.returns-clause-ends
returns-clause-ends g c =
    let none : into_iter_items c.loop-client.client-iterator ≡ [] = nil_from_length _ (sym c.loop-client.invariant.left ∙ c.in-None.ensures.steps.0) in
    ends_all c.args.byes.now _ _ _ _ none c.loop-client.invariant.ended
