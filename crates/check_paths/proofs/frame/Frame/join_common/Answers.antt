use Rattle.std.proofs.Common.{◌≡◌, ◌&&◌, ◌∙◌, sym, ap, ap₂, map, ℕ, Vec, Global}
use Rattle.names.specs.Known.{Name, has}
use Rattle.bit_sets.specs.declared.bit_set.BitSet.{BitSet}
use Rattle.bit_sets.specs.BitSets.{common, set_of}
use Rattle.check_paths.specs.Frames.{bits_at, bits_of, both, either, with_bits}
use Rattle.check_paths.proofs.Framing.{names_are, only_named, common_next, common_end}
use Rattle.check_paths.proofs.frame.Frame.join_common.Goals as goal

pub loop-name-init : goal.loop-name-init
loop-name-init c =
    let all = both (bits_of c.args.first.now) (bits_of c.args.second.now) in
    ap (λ es. either (bits_of c.args.self.now) (λ y i. has (map (λ (e : Vec ℕ Global × BitSet). e.0.items) es) y && all y i)) c.into_iter-name-iterator.ensures.into_iter_gives.0
    ∙ ap (λ ns. either (bits_of c.args.self.now) (λ y i. has ns y && all y i)) (names_are c.first.inside.sets.entries ∙ ap (map (λ (e : Name × BitSet). e.0)) c.first.view_is)
    ∙ ap (either (bits_of c.args.self.now)) (only_named c.args.first.now (bits_of c.args.second.now))

pub loop-name-preserved : goal.loop-name-preserved
loop-name-preserved c =
    let all = both (bits_of c.args.first.now) (bits_of c.args.second.now) in
    let x = c.in-Some.name.now.items in
    let set : set_of c.common.result ≡ bits_at all x =
    c.common.ensures
    ∙ ap₂ common (c.bits.ensures ∙ ap (bits_at (bits_of c.args.first.now)) c.deref-in-loop-name.ensures.value)
    (c.bits-in-loop-name.ensures ∙ ap (bits_at (bits_of c.args.second.now)) c.deref-in-loop-name-2.ensures.value) in
    common_next all (bits_of c.loop-name.self) _ x (map (λ (e : Vec ℕ Global × BitSet). e.0.items) c.next.new.self) (c.in_ok-join.ensures ∙ ap₂ (λ y f. with_bits y f (bits_of c.loop-name.self)) c.deref.ensures.value set)
    ∙ ap (λ ns. either (bits_of c.loop-name.self) (λ y i. has ns y && all y i)) (sym (ap (map (λ (e : Vec ℕ Global × BitSet). e.0.items)) c.in-Some.ensures.steps))
    ∙ c.loop-name.invariant

pub returns : goal.returns
returns c =
    let all = both (bits_of c.args.first.now) (bits_of c.args.second.now) in
    sym (common_end all (bits_of c.loop-name.self))
    ∙ ap (λ es. either (bits_of c.loop-name.self) (λ y i. has (map (λ (e : Vec ℕ Global × BitSet). e.0.items) es) y && all y i)) (sym c.in-None.ensures.steps.0)
    ∙ c.loop-name.invariant
