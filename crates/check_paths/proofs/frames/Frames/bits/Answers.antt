use Rattle.std.proofs.Common.{◌∙◌, ap}
use Rattle.check_paths.specs.Frames.{bits_at, bits_of, seen}
use Rattle.check_paths.proofs.Framing.{frames_joined}
use Rattle.check_paths.proofs.frames.Frames.bits.Goals as goal

pub returns : goal.returns
returns c =
    frames_joined c.args.self.now c.args.name.now _ _ _
    (c.seen_bits.ensures ∙ ap (λ l. bits_at (seen l) c.args.name.now) (c.deref.ensures.value ∙ ap (λ p. p.0) c.self.view_is))
    (c.bits.ensures ∙ ap (λ p. bits_at (bits_of p.1) c.args.name.now) c.self.view_is) c.joined.ensures
