use Rattle.std.proofs.Common.{◌≡◌, ◌+◌, ◌++◌, ◌∷◌, [], length, ap, rules, length-append}
use Rattle.vcd_read.proofs.TextLemmas.{more_ends, texts-push}
use Rattle.vcd_read.proofs.texts.Texts.push.Goals as goal

pub invariant_of-self-else-is_err : goal.invariant_of-self-else-is_err
invariant_of-self-else-is_err c =
    let s = c.self.inside in
    let put : c.push.new.self.items ≡ s.ends.items ++ c.in_ok-end.end ∷ [] = search rules in
    let ends : c.in_ok-end.end ≡ length s.letters.items + length c.args.text.now = search rules in
    rw (c.in_ok-extend_from_slice.ensures.items, put, length-append s.letters.items c.args.text.now) (more_ends (length s.letters.items) (length c.args.text.now) 0 s.ends.items c.in_ok-end.end c.self.invariant ends)

pub returns-clause-ok : goal.returns-clause-ok
returns-clause-ok c =
    let s = c.self.inside in
    let put : c.push.new.self.items ≡ s.ends.items ++ c.in_ok-end.end ∷ [] = search rules in
    let ends : c.in_ok-end.end ≡ length s.letters.items + length c.args.text.now = search rules in
    rw (c.in_ok-extend_from_slice.ensures.items, put, texts-push s.letters.items c.args.text.now 0 s.ends.items c.in_ok-end.end c.self.invariant ends)
    (ap (λ texts. texts ++ c.args.text.now ∷ []) c.self.view_is)
