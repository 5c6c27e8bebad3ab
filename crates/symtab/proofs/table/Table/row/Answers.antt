use Rattle.std.proofs.Common.{arith, ap, length}
use Rattle.symtab.proofs.Rows.{own_place, own_table, row_fits, row_is}
use Rattle.symtab.proofs.table.Table.row.Goals as goal

pub rank-requires : goal.rank-requires
rank-requires c =
    (own_place c.self.inside.parts c.args.self.now c.self.inside.variants c.self.invariant.table c.self.invariant.of_variants c.self.view_is c.args.k c.args.instance c.slot.result.now c.slot.ensures c.requires).within

pub bounds-items-rank : goal.bounds-items-rank
bounds-items-rank c =
    let placed = own_place c.self.inside.parts c.args.self.now c.self.inside.variants c.self.invariant.table c.self.invariant.of_variants c.self.view_is c.args.k c.args.instance c.slot.result.now c.slot.ensures c.requires in
    omega (arith, placed.row, c.rank.ensures, ap length c.items.ensures)

pub returns-clause-row : goal.returns-clause-row
returns-clause-row c =
    let placed = own_place c.self.inside.parts c.args.self.now c.self.inside.variants c.self.invariant.table c.self.invariant.of_variants c.self.view_is c.args.k c.args.instance c.slot.result.now c.slot.ensures c.requires in
    row_is c.args.self.now c.self.inside.variants c.args.k c.args.instance c.slot.result.now c.index-items-rank.result c.items.result.now c.rank.result c.slot.ensures placed c.items.ensures c.rank.ensures c.index-items-rank.is

pub returns-clause-found : goal.returns-clause-found
returns-clause-found c = (row_fits c.args.self.now (own_table c.self.inside.parts c.args.self.now c.self.invariant.table c.self.view_is) c.args.k c.args.instance c.index-items-rank.result (returns-clause-row c)).2.on

pub returns-clause-bit : goal.returns-clause-bit
returns-clause-bit c = (row_fits c.args.self.now (own_table c.self.inside.parts c.args.self.now c.self.invariant.table c.self.view_is) c.args.k c.args.instance c.index-items-rank.result (returns-clause-row c)).2.on_width

pub returns-clause-cells : goal.returns-clause-cells
returns-clause-cells c = (row_fits c.args.self.now (own_table c.self.inside.parts c.args.self.now c.self.invariant.table c.self.view_is) c.args.k c.args.instance c.index-items-rank.result (returns-clause-row c)).2.cells
