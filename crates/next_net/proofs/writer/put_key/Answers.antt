use Rattle.std.proofs.Common.{◌<◌, length, sym, subst}
use Rattle.exec_core.specs.Block.{Next, same_key}
use Rattle.exec_core.specs.Design.{place}
use Rattle.block_net.specs.Logs.{key_of}
use Rattle.place_core.specs.Numbering.{numbers_of}
use Rattle.next_net.specs.Writers.{Marks, writes_by}
use Rattle.next_net.proofs.Writing.{marks_put}
use Rattle.next_net.proofs.writer.put_key.Goals as goal

pub put_first-requires : goal.put_first-requires
put_first-requires c = c.requires.below (place c.args.instance c.bytes.result.now) c.in-Some.number (sym c.in-Some.ensures)

pub returns-in-Some : goal.returns-in-Some
returns-in-Some c =
    let all = numbers_of c.args.maps.now in
    let x = c.bytes.result.now in
    let within : c.in-Some.number < length c.args.list.now = c.requires.below (place c.args.instance x) c.in-Some.number (sym c.in-Some.ensures) in
    let marks = marks_put all c.args.process (length c.args.list.now) c.args.instance x c.in-Some.number c.args.list.now c.put_first.new.list c.requires (sym c.in-Some.ensures) within c.put_first.ensures in
    subst (λ k. Marks all c.args.process (writes_by c.args.instance (same_key (key_of k))) c.args.list.now c.put_first.new.list) (sym c.in-Next.is)
    (subst (λ y. Marks all c.args.process (writes_by c.args.instance (same_key (Next y))) c.args.list.now c.put_first.new.list) c.bytes.ensures marks)
