use Rattle.std.proofs.Common.{◌≡◌, ◌<◌, length, map, take, drop, ◌++◌, ap, sym, ◌∙◌, subst, arith}
use Rattle.std.specs.Prelude.{All}
use Rattle.std.proofs.lemmas.List.{take_at}
use Rattle.sim_core.specs.Steps.{bits_at}
use Rattle.sim_core.proofs.Edges.{kept_sources, kept_below, settled_now, edge_kept, edge_told}
use Rattle.sim_core.proofs.simulator.Simulator.edge.Goals as goal

pub take_next-requires-clause-long : goal.take_next-requires-clause-long
take_next-requires-clause-long c = ap length c.deref_mut.ensures.value ∙ kept_sources _ _ _ _ _ _ c.self.invariant ∙ sym (ap length c.deref.ensures.value)

pub take_next-requires-clause-within : goal.take_next-requires-clause-within
take_next-requires-clause-within c =
    subst (λ sources. All (λ source. source < length c.deref-2.result.now) sources) (sym c.deref.ensures.value)
    (subst (λ values. All (λ source. source < length values) c.self.inside.sources.items) (sym c.deref-2.ensures.value) (kept_below _ _ _ _ _ _ c.self.invariant))

pub invariant_of-self : goal.invariant_of-self
invariant_of-self c =
    let taken : c.take_next.new.registers ≡ map (bits_at c.self.inside.values.items) c.self.inside.sources.items =
    c.take_next.ensures ∙ ap (λ l. map (bits_at l) c.deref.result.now) c.deref-2.ensures.value ∙ ap (map (bits_at c.self.inside.values.items)) c.deref.ensures.value in
    let all : take c.self.inside.registers.len (c.take_next.new.registers ++ drop (length c.take_next.new.registers) c.self.inside.registers.items) ≡ c.take_next.new.registers = take_at _ _ _ (let long : length c.take_next.new.registers ≡ c.self.inside.registers.len = omega arith in long) in
    edge_kept _ _ _ _ _ _ c.self.invariant (settled_now _ _ _ _ _ _ c.self.invariant _ c.args.self.now c.self.view_is c.requires) _ (all ∙ taken)

pub returns : goal.returns
returns c =
    let taken : c.take_next.new.registers ≡ map (bits_at c.self.inside.values.items) c.self.inside.sources.items =
    c.take_next.ensures ∙ ap (λ l. map (bits_at l) c.deref.result.now) c.deref-2.ensures.value ∙ ap (map (bits_at c.self.inside.values.items)) c.deref.ensures.value in
    let all : take c.self.inside.registers.len (c.take_next.new.registers ++ drop (length c.take_next.new.registers) c.self.inside.registers.items) ≡ c.take_next.new.registers = take_at _ _ _ (let long : length c.take_next.new.registers ≡ c.self.inside.registers.len = omega arith in long) in
    edge_told _ _ _ _ _ _ c.self.invariant _ c.args.self.now c.self.view_is _ (all ∙ taken)
