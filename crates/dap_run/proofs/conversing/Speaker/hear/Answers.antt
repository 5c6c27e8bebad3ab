use Rattle.std.proofs.Common.{rules, ◌≡◌, true, false, length}
use Rattle.dap_run.proofs.Taking.{no_bytes}
use Rattle.dap_run.proofs.conversing.Speaker.hear.Goals.{then-is_empty, else-is_empty}
use Rattle.dap_run.proofs.conversing.Speaker.hear.Goals as goal

no_end : false ≡ true → ⊥
no_end e = cc

pub returns-clause-ok : goal.returns-clause-ok
returns-clause-ok g c = record {
  piece = c.in_ok-piece.piece.items;
  input = c.in_ok-piece.ensures.next;
  held = search rules;
  at_end = λ e. elim c.if-is_empty.branch [
    | then-is_empty w ↦ let none : length c.in_ok-piece.piece.items ≡ 0 = search rules in c.in_ok-piece.ensures.end (no_bytes c.in_ok-piece.piece.items none)
    | else-is_empty w ↦ absurd (no_end (search rules))
  ];
}
