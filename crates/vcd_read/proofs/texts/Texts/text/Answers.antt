use Rattle.std.proofs.Common.{◌<◌, length, ap, arith}
use Rattle.vcd_read.proofs.TextLemmas.{length-texts_of, text_at}
use Rattle.vcd_read.proofs.texts.Texts.text.Goals as goal

pub start_of-start-requires : goal.start_of-start-requires
start_of-start-requires c =
    let s = c.self.inside in
    rw (c.deref.ensures.value) (omega (arith, length-texts_of s.letters.items 0 s.ends.items, ap length c.self.view_is))

pub end_of-end-requires : goal.end_of-end-requires
end_of-end-requires c =
    let s = c.self.inside in
    rw (c.deref-2.ensures.value) (omega (arith, length-texts_of s.letters.items 0 s.ends.items, ap length c.self.view_is))

pub part_of-requires-clause-order : goal.part_of-requires-clause-order
part_of-requires-clause-order c =
    let s = c.self.inside in
    let below : c.args.i < length s.ends.items = omega (arith, length-texts_of s.letters.items 0 s.ends.items, ap length c.self.view_is) in
    let found = text_at s.letters.items 0 s.ends.items c.args.i c.self.invariant below in
    rw (c.start_of-start.ensures, c.end_of-end.ensures, c.deref.ensures.value, c.deref-2.ensures.value) found.order

pub part_of-requires-clause-within : goal.part_of-requires-clause-within
part_of-requires-clause-within c =
    let s = c.self.inside in
    let below : c.args.i < length s.ends.items = omega (arith, length-texts_of s.letters.items 0 s.ends.items, ap length c.self.view_is) in
    let found = text_at s.letters.items 0 s.ends.items c.args.i c.self.invariant below in
    rw (c.end_of-end.ensures, c.deref-2.ensures.value, c.deref-3.ensures.value) found.within

pub returns : goal.returns
returns c =
    let s = c.self.inside in
    let below : c.args.i < length s.ends.items = omega (arith, length-texts_of s.letters.items 0 s.ends.items, ap length c.self.view_is) in
    let found = text_at s.letters.items 0 s.ends.items c.args.i c.self.invariant below in
    rw (c.part_of.ensures, c.start_of-start.ensures, c.end_of-end.ensures, c.deref.ensures.value, c.deref-2.ensures.value, c.deref-3.ensures.value, ← c.self.view_is) found.text
