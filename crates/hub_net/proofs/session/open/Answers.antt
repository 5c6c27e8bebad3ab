use Rattle.std.proofs.Common.{rules, ◌≡◌, map, length, refl, ◌∙◌, ap}
use Rattle.std.proofs.lemmas.List.{length-map}
use Rattle.std.specs.Vec.{with_items}
use Rattle.list_core.proofs.Listing.{take_first}
use Rattle.link_edge.specs.Links.{after_close}
use Rattle.sim_hist.specs.Run.{run_samples}
use Rattle.dbg_core.specs.World.{world_of}
use Rattle.show_net.specs.Over.{world_over}
use Rattle.hub_net.proofs.Hubs.{all_open, seated, served_as}
use Rattle.hub_net.proofs.session.open.Goals as goal

pub serve_hub-served-requires-clause-usable : goal.serve_hub-served-requires-clause-usable
serve_hub-served-requires-clause-usable g c κs within = all_open (map g.L.Link.meaning c.args.links.items) c.requires.fresh

pub returns : goal.returns
returns g c = record {
  hub = λ over shows.
      let m = g.L.Link.meaning in
      let starts = map m c.args.links.items in
      let items : (with_items c.serve_hub-served.result.links c.close_all.new.links).items ≡ c.close_all.new.links = take_first _ c.close_all.new.links _ (c.close_all.ensures.len ∙ c.deref_mut.ensures.len) in
      let many : c.len.result ≡ length c.args.links.items = search rules in
      let told = map (λ b. (goal.Listener-dyn g (b.vtable, b.value)).heard b.value) c.args.listeners.items in
      record {
        starts = starts;
        counted = length-map c.args.links.items m;
        fresh = c.requires.fresh;
        nows = map m c.serve_hub-served.result.links.items;
        served = λ run runs read reader.
            served_as read _ (world_over over run) _ _ _ _ _ _ _ _
            (
            ap (λ s. world_of s.table (run_samples s.trace.net s.trace.stim)) c.in_ok-hub.ensures.session
            ∙ (λ k. world_of (c.new-session.ensures.table k) (c.new-session.ensures.samples k)) ∙ c.in_ok-table.ensures.tells over shows run runs
            )
            (rw (c.in_ok-hub.ensures.session, c.in_ok-hub.ensures.listeners, c.in_ok-hub.ensures.here, c.in_ok-listeners.ensures, c.new-session.ensures.opening told, many) refl)
            (c.serve_hub-served.ensures.served read reader);
        closed = ap (map m) items ∙ c.close_all.ensures.closed ∙ ap (λ l. map after_close (map m l)) c.deref_mut.ensures.value;
        seated = rw length-map at (seated _ _ starts _ _ _ _ _ (λ read reader. c.serve_hub-served.ensures.served read reader));
      };
}
