use Rattle.symtab.proofs.SlotLemmas.{checked_more}
use Rattle.symtab.proofs.table.all_names.Goals as goal

pub loop-slot-preserved : goal.loop-slot-preserved
loop-slot-preserved c =
    checked_more c.args.nodes.now c.args.count c.args.variants.now c.args.slots.now c.loop-slot.slot-index c.loop-slot.all.items c.push.new.self.items c.slot-item.result
    c.in_ok-names.field-0 c.in-Some.names c.loop-slot-test.true c.slot-item.is c.loop-slot.invariant c.in_ok-names.ensures.fits c.in_ok-names.ensures.names c.in-Some.is
    c.in_ok-push.ensures.items
