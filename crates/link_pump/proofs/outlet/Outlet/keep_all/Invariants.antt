use Rattle.std.proofs.Common.{◌≡◌, ◌++◌, ℕ, List, length}
use Rattle.std.specs.Vec.Iter.{into_iter_items, into_iter_len}
use Rattle.link_edge.specs.Links.{Meaning}
use Rattle.link_pump.specs.Outlets.{Delivered, Lasts}
use Rattle.link_pump.proofs.outlet.Outlet.keep_all.Given as goal

abbrev pub invariant-loop-text : goal.invariant-loop-text
invariant-loop-text g l = record {
  any : (start now : Meaning) (made : List (List ℕ)) → Delivered start now l.initial.self made
      → (more : List (List ℕ)) × (more ++ into_iter_items l.text-iterator ≡ made ++ l.fn.texts.items) × Delivered start now l.self more;
  link : g.L.Link.meaning l.self.link ≡ g.L.Link.meaning l.initial.self.link;
  over : Lasts l.initial.self.over l.self.over;
  left : into_iter_len l.text-iterator ≡ length (into_iter_items l.text-iterator);
}
