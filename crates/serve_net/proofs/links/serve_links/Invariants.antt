use Rattle.std.proofs.Common.{◌≤◌, All, length, map, reverse}
use Rattle.show_net.specs.Over.{Over, Shows}
use Rattle.serve_net.proofs.Walking.{Walked}
use Rattle.serve_net.proofs.links.serve_links.Given as goal

-- so many times the door was asked, each was told, and what is left of the sets is left
abbrev pub invariant-loop-number : goal.invariant-loop-number
invariant-loop-number g l = record {
  few : All (λ s. length s.items ≤ 65536) l.hall.sets.items;
  walked : (over : Over) → Shows l.service over
      → Walked (λ x. g.D.Out.Link.meaning x) over (reverse (map (λ s. map (λ b. (goal.Listener-dyn g (b.vtable, b.value)).heard b.value) s.items) l.fn.sets.items))
      (reverse (map (λ s. map (λ b. (goal.Listener-dyn g (b.vtable, b.value)).heard b.value) s.items) l.hall.sets.items))
      (g.D.Door.left l.initial.door) (g.D.Door.left l.door) (g.D.Door.fault_count l.initial.door) (g.D.Door.fault_count l.door) l.hall.served.items (g.S.Sink.taken l.initial.out) (g.S.Sink.taken l.out) l.number;
  later : g.S.Sink.fault_count l.initial.out ≤ g.S.Sink.fault_count l.out;
}
