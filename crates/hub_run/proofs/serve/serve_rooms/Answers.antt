use Rattle.std.proofs.Common.{Bool, true, false}
use base.Shift.{Keyless}
use denote.Exit.{Last, left, if_kept, unseen}
use Rattle.hub_run.proofs.serve.serve_rooms.Goals as goal

-- what a value leaves behind is nothing, kept or not
quiet : {D : Type 0} (b : Bool) (x : D) (w : Last (if_kept b (unseen {D = D}) (unseen {D = D})) x) → Keyless (left (if_kept b (unseen {D = D}) (unseen {D = D})) x w)
quiet true x w = tt
quiet false x w = tt

pub scoped-requires : goal.scoped-requires
scoped-requires g c = record {
  at = λ a. (
    c.requires.clients,
    (
      c.requires.usable,
      (
        c.requires.rooms.hub,
        (
          c.requires.rooms.ports,
          (
            c.requires.rooms.back,
            (
              record { owned = c.type_bounds.send-T.owned; leaving = λ k x w. quiet _ x w },
              record { owned = c.type_bounds.send-L.owned; leaving = λ k x w. quiet _ x w },
              record { owned = c.type_bounds.send-G.owned; leaving = λ k x w. quiet _ x w },
              record { shared = c.type_bounds.sync-R.shared },
            ),
          ),
        ),
      ),
    ),
  );
}
