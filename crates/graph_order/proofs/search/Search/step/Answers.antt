use Rattle.std.proofs.Common.{◌≡◌, ◌<◌, ◌++◌, ◌∷◌, [], List, ℕ, length, set, arith, sym, subst, ap, ◌∙◌, inl, inr, length-append}
use Rattle.graph_order.specs.Search.{IsClosedBy, mark_of, news}
use Rattle.graph_order.specs.declared.search.Mark.{Mark}
use Rattle.graph_order.specs.declared.search.Mark.TheVariants.{New, Begun, Finished}
use Rattle.graph_order.proofs.Marks.{news_begun, news_finished}
use Rattle.graph_order.proofs.Paths.{path_push, last_leads}
use Rattle.graph_order.proofs.Steps.{moved, begun, finished, passed_on, last_begun, last_within, next_within}
use Rattle.graph_order.proofs.search.Search.step.Goals as goal

pub ahead-requires-clause-vertex : goal.ahead-requires-clause-vertex
ahead-requires-clause-vertex c = omega (arith, last_within _ _ _ _ _ _ c.requires.searched, c.requires.searched.marked)

pub finish-requires : goal.finish-requires
finish-requires c = omega (arith, last_within _ _ _ _ _ _ c.requires.searched, ap length c.ahead.ensures.marks)

pub returns-in_default-clause-searched : goal.returns-in_default-clause-searched
returns-in_default-clause-searched c =
    let old = c.args.self.now in
    let ahead = c.ahead.new.self in
    let v = c.args.vertex in
    let g = c.args.graph.now in
    moved g (set old.marks.items v Finished) _ ahead.passed.items _ old.path.items _ (old.order.items ++ v ∷ []) _
    (c.in_ok-finish.ensures.marks ∙ ap (λ (ms : List Mark). set ms v Finished) c.ahead.ensures.marks)
    c.in_ok-finish.ensures.passed
    (c.in_ok-finish.ensures.path ∙ c.ahead.ensures.path)
    (c.in_ok-finish.ensures.order ∙ ap (λ (xs : List ℕ). xs ++ v ∷ []) c.ahead.ensures.order)
    (finished g old.marks.items ahead.passed.items old.path.items old.order.items v c.in_default.ensures.all
    (passed_on g old.marks.items old.passed.items ahead.passed.items (old.path.items ++ v ∷ []) old.order.items c.ahead.ensures.passed c.ahead.ensures.counted c.requires.searched))

pub returns-in_default-clause-less : goal.returns-in_default-clause-less
returns-in_default-clause-less c =
    let old = c.args.self.now in
    let v = c.args.vertex in
    let marks : c.finish.new.self.marks.items ≡ set old.marks.items v Finished = c.in_ok-finish.ensures.marks ∙ ap (λ (ms : List Mark). set ms v Finished) c.ahead.ensures.marks in
    let path : c.finish.new.self.path.items ≡ old.path.items = c.in_ok-finish.ensures.path ∙ c.ahead.ensures.path in
    omega (arith, ap news marks, ap length path, news_finished old.marks.items v (last_begun _ _ _ _ _ _ c.requires.searched))

pub mark-requires : goal.mark-requires
mark-requires c = omega (arith, next_within _ _ _ c.requires.graph c.in-Some.ensures.edge, c.requires.searched.marked, ap length c.ahead.ensures.marks)

pub begin-requires : goal.begin-requires
begin-requires c = omega (arith, next_within _ _ _ c.requires.graph c.in-Some.ensures.edge, c.requires.searched.marked, ap length c.ahead.ensures.marks)

pub returns-in_ok-begin-in-New-clause-searched : goal.returns-in_ok-begin-in-New-clause-searched
returns-in_ok-begin-in-New-clause-searched c =
    let old = c.args.self.now in
    let ahead = c.ahead.new.self in
    let v = c.args.vertex in
    let w = c.in-Some.next in
    let g = c.args.graph.now in
    let new : mark_of old.marks.items w ≡ New = ap (λ (ms : List Mark). mark_of ms w) (sym c.ahead.ensures.marks) ∙ sym c.mark.ensures ∙ c.in-New.is in
    moved g (set old.marks.items w Begun) _ ahead.passed.items _ ((old.path.items ++ v ∷ []) ++ w ∷ []) _ old.order.items _
    (c.in_ok-begin-in-New.ensures.marks ∙ ap (λ (ms : List Mark). set ms w Begun) c.ahead.ensures.marks)
    c.in_ok-begin-in-New.ensures.passed
    (c.in_ok-begin-in-New.ensures.path ∙ ap (λ (xs : List ℕ). xs ++ w ∷ []) (c.in_ok-push.ensures.items ∙ ap (λ (xs : List ℕ). xs ++ v ∷ []) c.ahead.ensures.path))
    (c.in_ok-begin-in-New.ensures.order ∙ c.ahead.ensures.order)
    (begun g old.marks.items ahead.passed.items (old.path.items ++ v ∷ []) old.order.items w (next_within g v w c.requires.graph c.in-Some.ensures.edge) new
    (path_push g old.path.items v w c.requires.searched.joined c.in-Some.ensures.edge)
    (passed_on g old.marks.items old.passed.items ahead.passed.items (old.path.items ++ v ∷ []) old.order.items c.ahead.ensures.passed c.ahead.ensures.counted c.requires.searched))

pub returns-in_ok-begin-in-New-clause-less : goal.returns-in_ok-begin-in-New-clause-less
returns-in_ok-begin-in-New-clause-less c =
    let old = c.args.self.now in
    let v = c.args.vertex in
    let w = c.in-Some.next in
    let new : mark_of old.marks.items w ≡ New = ap (λ (ms : List Mark). mark_of ms w) (sym c.ahead.ensures.marks) ∙ sym c.mark.ensures ∙ c.in-New.is in
    let marks : c.begin.new.self.marks.items ≡ set old.marks.items w Begun = c.in_ok-begin-in-New.ensures.marks ∙ ap (λ (ms : List Mark). set ms w Begun) c.ahead.ensures.marks in
    let within : w < length old.marks.items = omega (arith, next_within _ _ _ c.requires.graph c.in-Some.ensures.edge, c.requires.searched.marked) in
    let path : c.begin.new.self.path.items ≡ (old.path.items ++ v ∷ []) ++ w ∷ [] =
    c.in_ok-begin-in-New.ensures.path ∙ ap (λ (xs : List ℕ). xs ++ w ∷ []) (c.in_ok-push.ensures.items ∙ ap (λ (xs : List ℕ). xs ++ v ∷ []) c.ahead.ensures.path) in
    omega (arith, ap news marks, ap length path, length-append (old.path.items ++ v ∷ []) (w ∷ []), length-append old.path.items (v ∷ []), news_begun old.marks.items w within new)

pub returns-in_ok-cycle_of-in-Begun : goal.returns-in_ok-cycle_of-in-Begun
returns-in_ok-cycle_of-in-Begun c =
    let old = c.args.self.now in
    let v = c.args.vertex in
    let w = c.in-Some.next in
    let g = c.args.graph.now in
    let s = c.requires.searched in
    let same : mark_of old.marks.items w ≡ c.mark.result = ap (λ (ms : List Mark). mark_of ms w) (sym c.ahead.ensures.marks) ∙ sym c.mark.ensures in
    let mark : mark_of old.marks.items w ≡ Begun = elim c.in-Begun.is [
      | inl is ↦ same ∙ is
      | inr is ↦ absurd (c.in-Some.ensures.unfinished (same ∙ is))
    ] in
    let path : c.deref.result.now ≡ old.path.items ++ v ∷ [] = c.deref.ensures.value ∙ c.in_ok-push.ensures.items ∙ ap (λ (xs : List ℕ). xs ++ v ∷ []) c.ahead.ensures.path in
    let closed : IsClosedBy (old.path.items ++ v ∷ []) w c.in_ok-cycle_of-in-Begun.field-0.items =
    subst (λ (xs : List ℕ). IsClosedBy xs w c.in_ok-cycle_of-in-Begun.field-0.items) path c.in_ok-cycle_of-in-Begun.ensures in
    record {
      searched = tt;
      cycle = closed g s.joined s.apart (s.begun_path w mark) (last_leads g old.path.items v w c.in-Some.ensures.edge);
      stay = tt;
      less = tt;
    }
