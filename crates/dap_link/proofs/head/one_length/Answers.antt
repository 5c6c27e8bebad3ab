use Rattle.std.proofs.Common.{sym, ap, ◌∙◌}
use Rattle.std.specs.Prelude.{◌+◌, drop, map, option_map}
use Rattle.httparse.specs.Spans.{header_bytes}
use Rattle.dap_link.specs.Heads.{told_once}
use Rattle.dap_link.proofs.Steps.{passed, first_told, twice_told, fields_end}
use Rattle.dap_link.proofs.head.one_length.Goals as goal
use Rattle.dap_link.proofs.head.one_length.Goals.{then-is_length+else-is_some, else-is_length}

pub returns-then-is_some : goal.returns-then-is_some
returns-then-is_some c =
    twice_told (λ digits. digits.now) _ _ _ _ _ _ _ c.loop-field-test.true c.of-name.ensures c.of-value.ensures (sym c.is_length.ensures ∙ c.if-is_length.true) (sym c.is_some.ensures ∙ c.if-is_some.true) ∙ c.loop-field.invariant

pub loop-field-preserved : goal.loop-field-preserved
loop-field-preserved c = elim c.if-is_length.branch [
  | then-is_length+else-is_some w ↦
      ap (λ t. told_once (option_map (λ digits. digits.now) t) (map (header_bytes c.args.text.now) (drop (c.loop-field.field-index + 1) c.args.fields.now))) w.told-is
      ∙ first_told (λ digits. digits.now) _ _ _ _ _ _ _ c.loop-field-test.true c.of-name.ensures c.of-value.ensures (sym c.is_length.ensures ∙ w.if-is_length.true) (sym w.is_some.ensures ∙ w.if-is_some.false) ∙ c.loop-field.invariant
  | else-is_length w ↦
      ap (λ t. told_once (option_map (λ digits. digits.now) t) (map (header_bytes c.args.text.now) (drop (c.loop-field.field-index + 1) c.args.fields.now))) w.told-is
      ∙ passed _ _ _ _ _ _ _ c.loop-field-test.true c.of-name.ensures c.of-value.ensures (sym c.is_length.ensures ∙ w.if-is_length.false) ∙ c.loop-field.invariant
]

pub returns : goal.returns
returns c = sym (fields_end _ _ _ _ c.loop-field-test.false) ∙ c.loop-field.invariant
