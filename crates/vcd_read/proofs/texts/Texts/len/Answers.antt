use Rattle.std.proofs.Common.{length, ap, arith}
use Rattle.vcd_read.proofs.TextLemmas.{length-texts_of}
use Rattle.vcd_read.proofs.texts.Texts.len.Goals as goal

pub returns : goal.returns
returns c =
    let s = c.self.inside in
    omega (arith, c.len.ensures, length-texts_of s.letters.items 0 s.ends.items, ap length c.self.view_is)
