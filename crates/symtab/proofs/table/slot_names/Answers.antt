use Rattle.std.proofs.Common.{rules}
use Rattle.symtab.specs.Checked.{IsPlaced, AreRows}
use Rattle.symtab.proofs.SlotLemmas.{fits}
use Rattle.symtab.proofs.table.slot_names.Goals as goal

pub returns-clause-fits : goal.returns-clause-fits
returns-clause-fits c =
    let placed : IsPlaced c.args.count c.args.slot.now = search rules in
    let rows : AreRows c.args.nodes.now c.args.variants.now c.args.slot.now = search rules in
    fits c.args.nodes.now c.args.count c.args.variants.now c.args.slot.now placed rows c.of.result c.of.ensures.apart
