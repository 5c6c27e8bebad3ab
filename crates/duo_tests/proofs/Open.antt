-- Two links that are not shut.
use Rattle.std.proofs.Common.{◌≡◌, false, List, [], ◌∷◌, map, subst, sym}
use Rattle.link_edge.specs.Links.{Meaning}
use Rattle.hub_core.specs.Ends.{AllOpen}

pub both_open : {L : Type 0} (m : L → Meaning) (links : List L) (a b : L) → links ≡ a ∷ b ∷ [] → (m a).shut ≡ false → (m b).shut ≡ false → AllOpen (map m links)
unfolding AllOpen
both_open m links a b e first second = subst (λ l. AllOpen (map m l)) (sym e) (first, (second, tt))
