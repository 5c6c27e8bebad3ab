use Rattle.std.proofs.Common.{rules, ◌≡◌, ◌++◌, ◌∷◌, [], ◌∙◌, sym, ap, append_assoc, append-nil}
use Rattle.std.proofs.lemmas.List.{nil_from_length}
use Rattle.std.specs.Vec.Iter.{into_iter_items}
use Rattle.hub_core.proofs.Crowding.{told_start, told_more}
use Rattle.hub_core.proofs.crowd.deliver_all.Goals as goal

pub loop-line-init : goal.loop-line-init
loop-line-init g c = record {
  done = ([], search rules, λ starts asked made was. told_start g.L.Link.meaning asked made starts c.args.clients.now was);
  usable = c.requires.usable;
  len = search rules;
  left = search rules;
}

pub loop-line-preserved : goal.loop-line-preserved
loop-line-preserved g c =
    let was = c.loop-line.invariant.done in
    record {
      done = (
        was.0 ++ c.in-Some.line ∷ [],
        append_assoc was.0 (c.in-Some.line ∷ []) _ ∙ ap (λ l. was.0 ++ l) (sym c.in-Some.ensures.steps.0) ∙ was.1,
        λ starts asked made fit. told_more g.L.Link.meaning asked made starts c.deliver_line.new.clients was.0 c.in-Some.line (c.deliver_line.ensures.keeps starts asked _ (was.2 starts asked made fit)),
      );
      usable = c.deliver_line.ensures.usable;
      len = search rules;
      left = search rules;
    }

pub returns-clause-keeps : goal.returns-clause-keeps
returns-clause-keeps g c = λ starts asked made fit.
    let was = c.loop-line.invariant.done in
    let gone : into_iter_items c.loop-line.line-iterator ≡ [] = nil_from_length _ (sym c.loop-line.invariant.left ∙ c.in-None.ensures.steps.0) in
    let all : was.0 ≡ c.args.lines.items = sym (append-nil was.0) ∙ rw gone at was.1 in
    rw all at (was.2 starts asked made fit)
