use Rattle.std.proofs.Common.{rules, ◌≡◌, ◌++◌, refl, ◌∙◌, map, option_map, length, false, true, ap, ℕ, sym}
use Rattle.std.specs.Prelude.{slice_index_or}
use Rattle.std.proofs.lemmas.List.{length-replicate}
use Rattle.hub_core.specs.States.{hub_state}
use Rattle.hub_core.specs.Clients.{nothing}
use Rattle.hub_core.proofs.Stepping.{at_start, at_same}
use Rattle.hub_core.proofs.Carrying.{carries}
use Rattle.hub_core.proofs.Ending.{all_applied}
use Rattle.hub_core.proofs.lockstep.serve_seats.Goals as goal
use Rattle.hub_core.proofs.lockstep.serve_seats.Goals.{in-None, in-Some+then-is_done}

pub loop-init : goal.loop-init
loop-init g c = record {
  table = refl;
  samples = refl;
  usable = c.requires.usable;
  few = (refl, ap length c.requires.new.1 ∙ length-replicate (length c.args.seats.clients.items) false);
  keeps = λ read reader starts all. at_start read _ g.L.Link.meaning _ starts c.args.seats.clients.items c.args.journal.events.items c.args.journal.byes.items (length c.args.seats.clients.items) c.requires.new.0 c.requires.new.1 all;
}

pub loop-preserved : goal.loop-preserved
loop-preserved g c =
    let fed : c.loop.fed ≡ true = c.is_done.ensures.fed (search rules) in
    record {
      table = c.round_all-fed.ensures.table ∙ c.loop.invariant.table;
      samples = c.round_all-fed.ensures.samples ∙ c.loop.invariant.samples;
      usable = c.part_gone.ensures.usable;
      few = (c.part_gone.ensures.len ∙ c.round_all-fed.ensures.len.0 ∙ c.loop.invariant.few.0, c.round_all-fed.ensures.len.1 ∙ c.loop.invariant.few.1 ∙ sym c.round_all-fed.ensures.len.0 ∙ sym c.part_gone.ensures.len);
      keeps = λ read reader starts all.
          rw (← c.loop.invariant.table, ← c.loop.invariant.samples)
          (at_same read _ g.L.Link.meaning _ starts _ c.round_all-fed.new.clients.items c.part_gone.new.clients.items _ _ nothing nothing _
          (c.round_all-fed.ensures.keeps read reader _ starts (rw (c.loop.invariant.table, c.loop.invariant.samples) (rw fed at c.loop.invariant.keeps read reader starts all)))
          (λ asked made fit. c.part_gone.ensures.keeps starts (λ j. asked j ++ nothing j) made fit));
    }

pub returns : goal.returns
returns g c =
    let m = g.L.Link.meaning in
    let none : c.loop.fed ≡ true → (k : ℕ) → slice_index_or c.loop.hub.here.items k false ≡ false = elim c.match-next.branch [
      | in-None w ↦ λ e k. (search rules)
      | in-Some+then-is_done w ↦ w.is_done.ensures.none (search rules)
    ] in
    record {
      carried = λ read reader starts still all.
          rw c.finish.ensures.journal
          (carries m read _ _ (hub_state c.loop.hub.session c.loop.hub.here.items (map (option_map (λ b. (goal.Listener-dyn g (b.vtable, b.value)).heard b.value)) c.loop.hub.listeners.boxes.items)) starts _ c.loop.clients.items c.loop.journal.events.items c.loop.journal.byes.items _ _ _ _
          (c.loop.invariant.keeps read reader starts all) still c.loop.invariant.usable c.finish.ensures.links c.finish.ensures.clients (λ e. none (c.finish.ensures.fed e)) c.finish.ensures.closing c.finish.ensures.none);
      applied = rw c.finish.ensures.clients (all_applied m 0 c.loop.journal.byes.items c.loop.clients.items c.loop.invariant.usable);
    }
