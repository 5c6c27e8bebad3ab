use Rattle.std.proofs.Common.{◌≤◌, length, arith, rules}
use Rattle.std.specs.List.{list_all}
use Rattle.std.specs.Str.Lines.{lines}
use Rattle.std.proofs.lemmas.Bool.{and_parts}
use Rattle.design_core.specs.Ports.{has_width}
use Rattle.stim_text.specs.Stimulus.{rows_in}
use Rattle.stim_text.proofs.RowLists.{length-rows_in, all_widths, all_bits}
use Rattle.stim_text.proofs.read.read_stim.Goals as goal

pub new-requires-clause-kept : goal.new-requires-clause-kept
new-requires-clause-kept c =
    let inputs = c.args.ports.now.inputs in
    let values = c.in_ok-values.values.items in
    let few : c.count_lines-count.result ≤ 1000000 = search rules in
    let made = rw (c.items-inputs.ensures, ← c.count_lines-count.ensures) at c.in_ok-values.ensures.rows in
    rw (c.in_ok-copy.ensures) (record {
      few = omega (arith, length-rows_in (length inputs) c.count_lines-count.result values);
      each = all_widths 0 inputs (lines c.in-Some.rows.now) (rows_in (length inputs) c.count_lines-count.result values) made;
      bits = all_bits 0 inputs (lines c.in-Some.rows.now) (rows_in (length inputs) c.count_lines-count.result values) (and_parts (list_all has_width inputs) (list_all has_width c.args.ports.now.outputs) c.args.ports.now.widths).0 made;
    })
