use Rattle.std.proofs.Common.{◌≡◌, ◌+◌, ◌-◌, ◌<◌, drop, length, get_or, arith, ap, sym, ◌∙◌, subst, rules}
use Rattle.std.proofs.lemmas.List.{length-set}
use Rattle.net_core.specs.Nets.{next_node}
use Rattle.net_core.proofs.NextValues.{place_next, pair_at, pair_within}
use Rattle.net_core.proofs.nexts.nexts_by_number.Goals as goal

pub index_mut-requires : goal.index_mut-requires
index_mut-requires c =
    let some = c.loop-place-test.true in
    let below : c.loop-place.place - 1 < length c.nexts-nexts.result.now = omega arith in
    let at = pair_at c.nexts-nexts.result.now c.args.net.now.nexts (c.loop-place.place - 1) (record { 0 = 0 }, record { 0 = 0 }) c.nexts-nexts.ensures.nexts below in
    let within = pair_within c.args.net.now.nodes c.args.net.now.nexts (c.loop-place.place - 1) _ _ c.nexts-nexts.ensures.fit at in
    let inside : (get_or c.nexts-nexts.result.now (c.loop-place.place - 1) (record { 0 = 0 }, record { 0 = 0 })).0.0 < length c.loop-place.found.items = subst (λ n. (get_or c.nexts-nexts.result.now (c.loop-place.place - 1) (record { 0 = 0 }, record { 0 = 0 })).0.0 < n) (sym c.loop-place.invariant.0) within in
    search rules

pub loop-place-preserved : goal.loop-place-preserved
loop-place-preserved c =
    let some = c.loop-place-test.true in
    let below : c.loop-place.place - 1 < length c.nexts-nexts.result.now = omega arith in
    let one : c.loop-place.place - 1 + 1 ≡ c.loop-place.place = omega arith in
    let at = pair_at c.nexts-nexts.result.now c.args.net.now.nexts (c.loop-place.place - 1) (record { 0 = 0 }, record { 0 = 0 }) c.nexts-nexts.ensures.nexts below in
    let within = pair_within c.args.net.now.nodes c.args.net.now.nexts (c.loop-place.place - 1) _ _ c.nexts-nexts.ensures.fit at in
    let long = c.loop-place.invariant.0 in (
      length-set c.loop-place.found.items _ _ ∙ long,
      omega arith,
      λ i l. place_next c.args.net.now.nexts (c.loop-place.place - 1) _ _ c.loop-place.found.items at
          (subst (λ n. (get_or c.nexts-nexts.result.now (c.loop-place.place - 1) (record { 0 = 0 }, record { 0 = 0 })).0.0 < n) (sym long) within)
          (λ j m. c.loop-place.invariant.2 j (subst (λ n. j < n) long m) ∙ ap (λ p. next_node (drop p c.args.net.now.nexts) j) (sym one))
          i (subst (λ n. i < n) (sym long) l),
    )
