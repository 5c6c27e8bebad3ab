use Rattle.std.proofs.Common.{◌≡◌, ◌<◌, length, get_or, rules}
use Rattle.symtab.proofs.Listing.{same_more}
use Rattle.symtab.proofs.names_in_scope.Names.are.Goals as goal

pub loop-place-preserved : goal.loop-place-preserved
loop-place-preserved c =
    let own = c.args.self.now in
    let texts = c.args.texts.now in
    let place = c.loop-place.place in
    let x = c.bytes.result.now in
    let in_own : place < length own = search rules in
    let in_texts : place < length texts = search rules in
    let of_own : x ≡ get_or own place x = search rules in
    let of_texts : x ≡ get_or texts place x = search rules in
    same_more own texts place x in_own in_texts of_own of_texts c.loop-place.invariant
