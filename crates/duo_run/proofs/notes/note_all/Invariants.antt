use Rattle.std.proofs.Common.{◌≡◌, ◌++◌, ℕ, List, false, map, take}
use Rattle.link_edge.specs.Links.{Meaning}
use Rattle.machine_core.specs.Journal.{Noticed}
use Rattle.req_json.specs.Texts.{texts_of}
use Rattle.link_pump.specs.Outlets.{Delivered, Lasts}
use Rattle.duo_run.proofs.notes.note_all.Given as goal

abbrev pub invariant-loop-notice : goal.invariant-loop-notice
invariant-loop-notice g l = record {
  keeps : (start : Meaning) (made : List (List ℕ)) → Delivered start (g.L.Link.meaning l.initial.outlet.link) l.initial.outlet made
      → Delivered start (g.L.Link.meaning l.outlet.link) l.outlet (made ++ texts_of (map (λ n. Noticed n) (take l.notice-index l.notices)));
  polls : (g.L.Link.meaning l.outlet.link).polls ≡ (g.L.Link.meaning l.initial.outlet.link).polls;
  received : (g.L.Link.meaning l.outlet.link).received ≡ (g.L.Link.meaning l.initial.outlet.link).received;
  over : Lasts l.initial.outlet.over l.outlet.over;
  usable : (g.L.Link.meaning l.outlet.link).shut ≡ false;
}
