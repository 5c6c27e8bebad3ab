use Rattle.std.proofs.Common.{◌≡◌, rules}
use Rattle.symtab.specs.Places.{places}
use Rattle.symtab.proofs.Standing.{all_within}
use Rattle.symtab.proofs.places.Places.places.Goals as goal

pub returns-in-Some-clause-within : goal.returns-in-Some-clause-within
returns-in-Some-clause-within c =
    let are : c.deref.result.now ≡ places c.args.number c.args.self.now = search rules in
    all_within c.args.number c.args.self.now c.deref.result.now are
