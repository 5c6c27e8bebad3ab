use Rattle.std.proofs.Common.{◌≡◌, ◌++◌, ℕ, List, length, false}
use Rattle.std.specs.Vec.Iter.{into_iter_items, into_iter_len}
use Rattle.link_edge.specs.Links.{Meaning}
use Rattle.link_pump.specs.Outlets.{Delivered, Lasts}
use Rattle.link_pump.proofs.outlet.Outlet.deliver_all.Given as goal

abbrev pub invariant-loop-text : goal.invariant-loop-text
invariant-loop-text g l = record {
  keeps : (start : Meaning) (made : List (List ℕ)) → Delivered start (g.L.Link.meaning l.initial.self.link) l.initial.self made
      → (more : List (List ℕ)) × (more ++ into_iter_items l.text-iterator ≡ made ++ l.fn.texts.items) × Delivered start (g.L.Link.meaning l.self.link) l.self more;
  received : (g.L.Link.meaning l.self.link).received ≡ (g.L.Link.meaning l.initial.self.link).received;
  over : Lasts l.initial.self.over l.self.over;
  usable : (g.L.Link.meaning l.self.link).shut ≡ false;
  left : into_iter_len l.text-iterator ≡ length (into_iter_items l.text-iterator);
}
