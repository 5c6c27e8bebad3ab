use Rattle.std.proofs.Common.{◌≡◌, ◌≢◌, ◌-◌, suc, [], get_or, sym, ◌∙◌, arith, true≢false}
use Rattle.std.proofs.lemmas.Option.{get_or_from_slice_get}
use Rattle.std.proofs.lemmas.Slice.Eq.{bytes_eq-Decides}
use Rattle.vcd_read.proofs.CodeLemmas.{sought-next, sought-smaller, row-parts}
use Rattle.vcd_read.proofs.codes.find_from.Goals as goal

pub row_at-row-requires : goal.row_at-row-requires
row_at-row-requires c =
    let number : c.loop-last.last ≡ suc (c.loop-last.last - 1) = omega arith in
    omega (arith, (c.loop-last.invariant.led (c.loop-last.last - 1) number).0, c.loop-last.invariant.same)

pub text-requires : goal.text-requires
text-requires c =
    let number : c.loop-last.last ≡ suc (c.loop-last.last - 1) = omega arith in
    (c.loop-last.invariant.led (c.loop-last.last - 1) number).0

pub returns-then-eq-clause-found : goal.returns-then-eq-clause-found
returns-then-eq-clause-found c =
    let number : c.loop-last.last ≡ suc (c.loop-last.last - 1) = omega arith in
    let below = (c.loop-last.invariant.led (c.loop-last.last - 1) number).0 in
    let text = get_or_from_slice_get c.args.texts.now (c.loop-last.last - 1) c.text.result.now [] c.text.ensures in
    let same : c.text.result.now ≡ c.args.code.now = (bytes_eq-Decides c.text.result.now c.args.code.now).0 (sym c.eq.ensures ∙ c.if-eq.true) in
    (below, text ∙ same, (row-parts c.args.rows.now (c.loop-last.last - 1) c.row_at-row.result c.row_at-row.ensures).1)

pub loop-last-smaller : goal.loop-last-smaller
loop-last-smaller c =
    let number : c.loop-last.last ≡ suc (c.loop-last.last - 1) = omega arith in
    let next = (row-parts c.args.rows.now (c.loop-last.last - 1) c.row_at-row.result c.row_at-row.ensures).0 in
    sought-smaller c.args.texts.now c.args.rows.now c.args.code.now c.loop-last.last (c.loop-last.last - 1) c.row_at-row.result.next c.loop-last.invariant number next

pub loop-last-preserved : goal.loop-last-preserved
loop-last-preserved c =
    let number : c.loop-last.last ≡ suc (c.loop-last.last - 1) = omega arith in
    let text = get_or_from_slice_get c.args.texts.now (c.loop-last.last - 1) c.text.result.now [] c.text.ensures in
    let next = (row-parts c.args.rows.now (c.loop-last.last - 1) c.row_at-row.result c.row_at-row.ensures).0 in
    let other : get_or c.args.texts.now (c.loop-last.last - 1) [] ≢ c.args.code.now =
    λ e. true≢false (sym ((bytes_eq-Decides c.text.result.now c.args.code.now).1 (sym text ∙ e)) ∙ sym c.eq.ensures ∙ c.if-eq.false) in
    sought-next c.args.texts.now c.args.rows.now c.args.code.now c.loop-last.last (c.loop-last.last - 1) c.row_at-row.result.next c.loop-last.invariant number next other
