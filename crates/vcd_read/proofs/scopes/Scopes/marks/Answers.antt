use Rattle.std.proofs.Common.{◌≡◌, ◌+◌, ◌++◌, ◌∷◌, [], ◌∙◌, rules, arith}
use Rattle.std.specs.Prelude.{bytes_eq}
use Rattle.std.proofs.lemmas.Bool.{OnTrue_at, OnFalse_at}
use Rattle.vcd_read.specs.Nesting.{IsLastBegun, paths_of}
use Rattle.vcd_read.specs.Scopes.{path_at}
use Rattle.vcd_read.proofs.BeginLemmas.{whole_is, mark-more}
use Rattle.vcd_read.proofs.scopes.Scopes.marks.Goals.{then-begins, else-begins}
use Rattle.vcd_read.proofs.scopes.Scopes.marks.Goals as goal

pub loop-i-preserved : goal.loop-i-preserved
loop-i-preserved c =
    let scopes = c.args.self.now in
    let text = c.args.path.now in
    let path = path_at (paths_of scopes) (c.loop-i.i + 1) in
    let whole : c.is_whole-whole.result ≡ bytes_eq path text =
    c.is_whole-whole.ensures ∙ whole_is path text c.begins-begins.result c.path_len.result c.begins-begins.ensures.path.0 c.begins-begins.ensures.path.1 c.path_len.ensures.len in
    let put : c.push-in-loop-i.new.self.items ≡ c.loop-i.marks.items ++ c.is_whole-whole.result ∷ [] = search rules in
    let last : IsLastBegun scopes text (c.loop-i.i + 1) c.if-begins.last = elim c.if-begins.branch [
      | then-begins w ↦ rw w.last-is (OnTrue_at w.if-begins.true c.begins-begins.ensures.taken)
      | else-begins w ↦ rw w.last-is (OnFalse_at w.if-begins.false c.begins-begins.ensures.passed)
    ] in
    (last, put ∙ mark-more scopes text c.loop-i.i c.loop-i.marks.items c.is_whole-whole.result (omega arith) c.loop-i.invariant.1 whole)
