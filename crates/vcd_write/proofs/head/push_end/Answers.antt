use Rattle.std.proofs.Common.{List, ℕ, ◌++◌, ◌∙◌, ap, arith}
use Rattle.vcd_write.proofs.Pieces.{end_more}
use Rattle.vcd_write.proofs.head.push_end.Goals as goal

pub returns : goal.returns
returns c =
    c.in_ok-extend_from_slice-2.ensures.items ∙ ap (λ (l : List ℕ). c.args.text.now.items ++ l) (c.as_bytes.ensures.value ∙ c.in_ok-range.ensures.ok ∙ end_more c.args.size (λ e. absurd (omega arith)))
