-- A turn does what its search finds.
use Rattle.std.proofs.Common.{◌≡◌, ℕ, ◌+◌, ◌≤◌, Bool, true, false, List, length, Option, Some, None, refl, sym, ap, ◌∙◌, subst, arith, ◌<◌}
use Rattle.std.proofs.lemmas.Bool.Decides.{nat_tests}
use Rattle.symtab.specs.declared.parts.TableParts.{TableParts}
use Rattle.trace_core.specs.Samples.{Samples}
use Rattle.trace_core.specs.declared.scan.Way.{Way}
use Rattle.trace_core.specs.declared.scan.Way.TheVariants.{Forward, Backward}
use Rattle.trace_core.specs.declared.scan.Want.{Want}
use Rattle.trace_core.specs.declared.scan.Want.TheVariants.{Breakpoints, Step}
use Rattle.world_core.specs.World.{World}
use Rattle.machine_core.specs.declared.turn.Motion.TheVariants.{Idle, Running}
use Rattle.machine_core.specs.declared.turn.Turned.TheVariants as turned
use Rattle.machine_core.specs.Positions.{position_count, ahead}
use Rattle.machine_core.specs.Matching.{breakpoints_alone, matches}
use Rattle.machine_core.specs.Machine.{Machine, Turn, turn_of, turn_by}
use Rattle.machine_core.proofs.Ends.{length_ahead, ahead_length}
use Rattle.machine_core.specs.declared.found.Found.{Found}
use Rattle.machine_core.specs.declared.found.Found.TheVariants as found
use Rattle.machine_core.specs.Search.{nearest_that, is_near_edge, found_or, nearer_of, nearer_found}
use Rattle.machine_core.specs.Laws.{turn_from, found_by}
use Rattle.machine_core.proofs.Turns.{turns_by_search}
use Rattle.site_core.specs.Positions.{total_of}
use Rattle.dbg_core.specs.World.{world_of}
use Rattle.dbg_core.specs.Answering.{left_ahead}
use Rattle.dbg_core.proofs.Positions.{count_told}

pub turn_is : (w : World) (m : Machine) (way : Way) (want : Want) (f : Found) → m.motion ≡ Running way want → f ≡ found_by w m way want → turn_from w way m f ≡ turn_of w m
turn_is w m way want f running e = ap (turn_from w way m) e ∙ sym (turns_by_search w m way want running)

pub rests : (w : World) (m : Machine) → m.motion ≡ Idle → (let t : Turn = record { after = m; turned = turned.Idle } in t) ≡ turn_of w m
unfolding turn_of
rests w m e = sym (ap (turn_by w m) e)

-- ---- where nothing is found, and the edge is far

by_near : (o : Option ℕ) (near : Bool) → found_or o near ≡ found.Nowhere → near ≡ false
by_near (Some p) near e = cc
by_near None true e = cc
by_near None false e = refl

far_ahead : (total place : ℕ) (way : Way) → place ≤ total + 1 → length_ahead total way place ≡ left_ahead total way place
far_ahead total place Forward within = refl
far_ahead total place Backward within = omega (arith, within)

-- the nearer of two matches is one of them
nearer_below : (way : Way) (p q total : ℕ) → p < total → q < total → nearer_of way p q < total
nearer_below Forward p q total h g = omega (arith, h, g)
nearer_below Backward p q total h g = omega (arith, h, g)

at_same : (p q : ℕ) → found.At p ≡ found.At q → p ≡ q
at_same p q e = cc

pub nearer_hit : (way : Way) (a b : Found) (total : ℕ) → ((p : ℕ) → a ≡ found.At p → p < total) → ((p : ℕ) → b ≡ found.At p → p < total) → (p : ℕ) → nearer_found way a b ≡ found.At p → p < total
nearer_hit way (found.At p) (found.At q) total h g r e = subst (λ n. n < total) (at_same _ r e) (nearer_below way p q total (h p refl) (g q refl))
nearer_hit way (found.At p) found.Edge total h g r e = h r e
nearer_hit way (found.At p) found.Nowhere total h g r e = h r e
nearer_hit way found.Edge b total h g r e = g r e
nearer_hit way found.Nowhere b total h g r e = g r e

-- what a search for either answers so, each answers so
second_nowhere : (way : Way) (a b : Found) → nearer_found way a b ≡ found.Nowhere → b ≡ found.Nowhere
second_nowhere way (found.At p) (found.At q) e = cc
second_nowhere way (found.At p) found.Edge e = cc
second_nowhere way (found.At p) found.Nowhere e = refl
second_nowhere way found.Edge b e = e
second_nowhere way found.Nowhere b e = e

not_near : (w : World) (m : Machine) (way : Way) (want : Want) → found_by w m way want ≡ found.Nowhere → is_near_edge (position_count w) way m.place ≡ false
not_near w m way Breakpoints e =
    by_near (nearest_that (matches w (breakpoints_alone m.breakpoints) Breakpoints) (position_count w) way m.place) (is_near_edge (position_count w) way m.place)
    (second_nowhere way _ _ e)
not_near w m way (Step named) e =
    by_near (nearest_that (matches w (breakpoints_alone m.breakpoints) (Step named)) (position_count w) way m.place) (is_near_edge (position_count w) way m.place) e

pub far : (parts : TableParts) (s : Samples) (m : Machine) (want : Want) (way : Way) → m.place ≤ total_of parts s + 1
    → found_by (world_of parts s) m way want ≡ found.Nowhere → 64 ≤ left_ahead (total_of parts s) way m.place
far parts s m want way within e =
    let near = not_near (world_of parts s) m way want e in
    let many : 64 ≤ length (ahead (position_count (world_of parts s)) way m.place) = grind (arith, nat_tests, near) in
    let count : length (ahead (position_count (world_of parts s)) way m.place) ≡ left_ahead (total_of parts s) way m.place =
    ahead_length (position_count (world_of parts s)) way m.place ∙ ap (λ n. length_ahead n way m.place) (count_told parts s) ∙ far_ahead (total_of parts s) m.place way within in
    subst (λ n. 64 ≤ n) count many
