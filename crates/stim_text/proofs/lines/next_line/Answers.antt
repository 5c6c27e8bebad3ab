use Rattle.std.proofs.Common.{◌≡◌, ◌<◌, ◌≤◌, ◌==◌, ◌+◌, length, rules, arith}
use Rattle.std.specs.List.{position_or_len}
use Rattle.stim_text.proofs.LineLemmas.{first_line, last_line, tail_is}
use Rattle.stim_text.proofs.lines.next_line.Goals as goal

pub returns-then-end-text-clause-line : goal.returns-then-end-text-clause-line
returns-then-end-text-clause-line c =
    let text = c.args.text.now in
    let some : 0 < length text = search rules in
    let end : c.line_len-end.result ≡ length text = search rules in
    let all : length text ≤ position_or_len (λ byte. byte == 10) text = omega (arith, c.line_len-end.ensures.len) in
    rw (tail_is text c.line_len-end.result, end) (last_line text some all)

pub returns-clause-line : goal.returns-clause-line
returns-clause-line c =
    let text = c.args.text.now in
    let n = c.line_len-end.result in
    let within : n < length text = search rules in
    rw (tail_is text (n + 1), c.without_carriage_return.ensures) (first_line text n c.line_len-end.ensures.len within)
