use Rattle.std.proofs.Common.{rules, ◌≡◌, ◌++◌, ◌∷◌, [], suc, map, length, ap, ◌∙◌, sym, arith, length-append}
use Rattle.std.specs.Vec.Iter.{into_iter_items}
use Rattle.std.proofs.lemmas.List.{nil_from_length, map-append}
use Rattle.hub_run.proofs.Standing.{ready_first, no_post, no_end, goes_start, goes_next, goes_end}
use Rattle.hub_run.proofs.finish.finish_all.Goals as goal

pub loop-port-init : goal.loop-port-init
loop-port-init g c =
    let m = g.L.Link.meaning in
    let all : into_iter_items c.into_iter-port-iterator.result ≡ c.args.ports.items = search rules in
    record {
      each = rw (c.into_iter-posts.ensures.rest, all, c.into_iter-ends.ensures.rest) c.requires.each;
      goes = λ asked lines took here starts stand.
          goes_start m asked lines took here starts (map m c.args.links.items) c.args.served.items _ _ _ (ap (map m) c.requires.empty.0) c.requires.empty.1
          (rw (c.into_iter-posts.ensures.rest, all, c.into_iter-ends.ensures.rest) stand);
      links_room = search rules;
      served_room = search rules;
      left = search rules;
      posts_left = search rules;
      ends_left = search rules;
    }

pub finish_one-link-requires-after_bounds : goal.finish_one-link-requires-after_bounds
finish_one-link-requires-after_bounds g c κs within =
    (ready_first c.in-Some-next.post _ _ c.in-Some.port _ _ c.in-Some-next-2.end _ _ c.in-Some-next.ensures.items c.in-Some.ensures.steps.0 c.in-Some-next-2.ensures.items c.loop-port.invariant.each).0

pub loop-port-preserved : goal.loop-port-preserved
loop-port-preserved g c =
    let m = g.L.Link.meaning in
    let one = c.finish_one-link.result in
    let was = c.loop-port.invariant in
    let links : c.push.new.self.items ≡ c.loop-port.links.items ++ one.0 ∷ [] = search rules in
    let served : c.push-in-Some-next-2.new.self.items ≡ c.loop-port.served.items ++ one.1 ∷ [] = search rules in
    let more : length c.push-in-Some-next-2.new.self.items ≡ suc (length c.loop-port.served.items) = rw (served, length-append) (omega arith) in
    record {
      each = (ready_first c.in-Some-next.post _ _ c.in-Some.port _ _ c.in-Some-next-2.end _ _ c.in-Some-next.ensures.items c.in-Some.ensures.steps.0 c.in-Some-next-2.ensures.items was.each).1;
      goes = λ asked lines took here starts stand.
          goes_next m asked lines took here (length c.loop-port.served.items) _ starts (map m c.loop-port.links.items) _ c.loop-port.served.items _ c.in-Some-next.post _ _ c.in-Some.port _ _ c.in-Some-next-2.end _ _ (m one.0) one.1
          more c.in-Some-next.ensures.items c.in-Some.ensures.steps.0 c.in-Some-next-2.ensures.items (ap (map m) links ∙ map-append m c.loop-port.links.items (one.0 ∷ [])) served
          (λ start asks told left stays stands. c.finish_one-link.ensures start asks told left stays stands) (was.goes asked lines took here starts stand);
      links_room = search rules;
      served_room = search rules;
      left = search rules;
      posts_left = search rules;
      ends_left = search rules;
    }

pub unreachable-requires : goal.unreachable-requires
unreachable-requires g c =
    let none : into_iter_items c.loop-port.ends ≡ [] = nil_from_length _ (sym c.loop-port.invariant.ends_left ∙ (search rules)) in
    no_end c.in-Some-next.post _ _ c.in-Some.port _ _ _ c.in-Some-next.ensures.items c.in-Some.ensures.steps.0 none c.loop-port.invariant.each

pub unreachable-requires-in-None-next : goal.unreachable-requires-in-None-next
unreachable-requires-in-None-next g c =
    let none : into_iter_items c.loop-port.posts ≡ [] = nil_from_length _ (sym c.loop-port.invariant.posts_left ∙ (search rules)) in
    no_post c.in-Some.port _ _ _ _ none c.in-Some.ensures.steps.0 c.loop-port.invariant.each

pub returns : goal.returns
returns g c = λ asked lines took here starts stand.
    let m = g.L.Link.meaning in
    let gone : into_iter_items c.loop-port.port-iterator ≡ [] = nil_from_length _ (sym c.loop-port.invariant.left ∙ c.in-None.ensures.steps.0) in
    goes_end m asked lines took here (length c.loop-port.served.items) starts (map m c.loop-port.links.items) c.loop-port.served.items _ _ _ gone (c.loop-port.invariant.goes asked lines took here starts stand)
