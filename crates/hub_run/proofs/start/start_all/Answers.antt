use Rattle.std.proofs.Common.{rules, ◌≡◌, ◌++◌, ◌∷◌, [], map, ap, ◌∙◌, sym, append_assoc, append-nil}
use Rattle.std.specs.Vec.Iter.{into_iter_items}
use Rattle.std.proofs.lemmas.List.{nil_from_length}
use Rattle.hub_run.proofs.Opening.{begin_none, begin_more, open_next}
use Rattle.hub_run.proofs.start.start_all.Goals as goal

pub loop-link-init : goal.loop-link-init
loop-link-init g c =
    let all : into_iter_items c.into_iter-link-iterator.result ≡ c.args.links.items = search rules in
    record {
      begun = ([], ap (map g.L.Link.meaning) all, begin_none g.L.Link.meaning c.args.posts.items c.args.ports.items c.requires.empty.0 c.requires.empty.1);
      still = rw all c.requires.usable;
      posts_len = search rules;
      ports_len = search rules;
      posts_room = search rules;
      ports_room = search rules;
      left = search rules;
    }

pub start_one-post-requires-after_bounds : goal.start_one-post-requires-after_bounds
start_one-post-requires-after_bounds g c κs within = (open_next g.L.Link.meaning _ _ c.in-Some.link c.in-Some.ensures.steps.0 c.loop-link.invariant.still).0

pub loop-link-preserved : goal.loop-link-preserved
loop-link-preserved g c =
    let was = c.loop-link.invariant.begun in
    let m = g.L.Link.meaning in
    let one = c.start_one-post.result in
    let posts : c.push.new.self.items ≡ c.loop-link.posts.items ++ one.0 ∷ [] = search rules in
    let ports : c.push-in-loop-link.new.self.items ≡ c.loop-link.ports.items ++ one.1 ∷ [] = search rules in
    record {
      begun = (
        was.0 ++ m c.in-Some.link ∷ [],
        append_assoc was.0 (m c.in-Some.link ∷ []) _ ∙ ap (λ l. was.0 ++ map m l) (sym c.in-Some.ensures.steps.0) ∙ was.1,
        rw (posts, ports) (begin_more m was.0 c.loop-link.posts.items c.loop-link.ports.items (m c.in-Some.link) one.0 one.1 was.2 c.start_one-post.ensures),
      );
      still = (open_next m _ _ c.in-Some.link c.in-Some.ensures.steps.0 c.loop-link.invariant.still).1;
      posts_len = search rules;
      ports_len = search rules;
      posts_room = search rules;
      ports_room = search rules;
      left = search rules;
    }

pub returns-clause-begun : goal.returns-clause-begun
returns-clause-begun g c =
    let was = c.loop-link.invariant.begun in
    let none : into_iter_items c.loop-link.link-iterator ≡ [] = nil_from_length _ (sym c.loop-link.invariant.left ∙ c.in-None.ensures.steps.0) in
    let all : was.0 ≡ map g.L.Link.meaning c.args.links.items = sym (append-nil was.0) ∙ rw none at was.1 in
    rw all at was.2
