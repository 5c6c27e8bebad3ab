use Rattle.std.proofs.Common.{rules, arith, ◌≡◌, ◌++◌, ◌∷◌, [], true, false, Err, map, length-append, Vec, ap, ◌∙◌}
use Rattle.std.proofs.lemmas.List.{map-append}
use Rattle.hub_net.proofs.Gathering.{gathers_none, gathers_link, gathers_failure, asked_some, asked_none}
use Rattle.hub_net.proofs.came.gather.Goals as goal
use Rattle.hub_net.proofs.came.gather.Goals.{in-Ok, in-Err-Failed}

pub returns-in_err-links-clause-err : goal.returns-in_err-links-clause-err
returns-in_err-links-clause-err g c = asked_none c.from_residual.result c.args.count _ _

pub loop-init : goal.loop-init
loop-init g c = record {
  gathers = gathers_none _ _ _ _ (ap (map g.D.Out.Link.meaning) c.in_ok-links.ensures.empty.0) c.in_ok-links.ensures.empty.1;
  few = rw c.in_ok-links.ensures.empty.0 (omega arith);
  links_room = search rules;
  came_room = search rules;
}

pub returns-in-Err-NoMemory-clause-err : goal.returns-in-Err-NoMemory-clause-err
returns-in-Err-NoMemory-clause-err g c =
    asked_some c.loop.counter _ _ _ _ _ _ _ _ c.loop.invariant.gathers c.args.count (omega arith) c.in-Err-NoMemory.ensures.err c.next.ensures.later

pub loop-preserved : goal.loop-preserved
loop-preserved g c =
    let was = c.loop.invariant in
    elim c.match-next.branch [
      | in-Ok w ↦
          let links : c.match-next.links.items ≡ c.loop.links.items ++ w.in-Ok.link ∷ [] = search rules in
          let came : c.match-next.came.items ≡ c.loop.came.items ++ true ∷ [] = search rules in
          record {
            gathers = gathers_link c.loop.counter _ _ _ _ _ _ _ _ was.gathers _ _ (g.D.Out.Link.meaning w.in-Ok.link) (ap (map g.D.Out.Link.meaning) links ∙ map-append g.D.Out.Link.meaning c.loop.links.items (w.in-Ok.link ∷ [])) came w.in-Ok.ensures.fresh
                (record { left = w.in-Ok.ensures.ok; later = c.next.ensures.later });
            few = rw (links, length-append) (omega (arith, was.few));
            links_room = search rules;
            came_room = search rules;
          }
      | in-Err-Failed w ↦
          let came : c.match-next.came.items ≡ c.loop.came.items ++ false ∷ [] = search rules in
          record {
            gathers = gathers_failure c.loop.counter _ _ _ _ _ _ _ _ was.gathers _ _ (ap (λ (v : Vec _ _). map g.D.Out.Link.meaning v.items) w.links-is) came w.in-Err-Failed.ensures.err (w.in-Err-Failed.ensures.failed (ap (λ e. Err e) w.in-Err-Failed.field-0-is));
            few = search rules;
            links_room = search rules;
            came_room = search rules;
          }
    ]

pub returns-clause-ok : goal.returns-clause-ok
returns-clause-ok g c =
    let all : c.loop.counter ≡ c.args.count = search rules in
    rw all at c.loop.invariant.gathers
