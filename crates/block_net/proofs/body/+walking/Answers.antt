use Rattle.std.proofs.Common.{◌+◌, ◌∙◌, ap, sym, refl, subst, arith, rules, drop, length, map}
use Rattle.std.proofs.lemmas.Bool.{eqb-false, eqb-true}
use Rattle.std.proofs.lemmas.List.{nil_from_length}
use Rattle.exec_core.specs.Block.{Now}
use Rattle.exec_core.specs.Trees.{body_rows, body_trees_after, then_enable}
use Rattle.design_core.specs.Slots.{size}
use Rattle.design_core.specs.View.{body_of, expr_of}
use Rattle.design_exec.specs.Processes.{target, value_of as literal_of}
use Rattle.names.specs.Maps.{value_of}
use Rattle.name_widths.specs.DeclaredWidths.{width_at}
use Rattle.block_net.specs.Arms.{AllEnd}
use Rattle.block_net.specs.Cases.{arm_test}
use Rattle.block_net.specs.Parts.{BodyFits, StmtFits}
use Rattle.block_net.specs.Source.{arm_in, arms_in, body_in, else_in, expr_in}
use Rattle.block_net.specs.Terms.{Stands, tree_for}
use Rattle.block_net.specs.Walks.{Bind, Chooses, Cover, HaveTerms, Walked, among, keys_of, state_of}
use Rattle.block_net.specs.Ways.{EndsHaveTerms}
use Rattle.block_net.proofs.Expressions.{on_ok_map}
use Rattle.block_net.proofs.TermLists.{tree_more, within_more, extends_twice}
use Rattle.block_net.proofs.WalkSteps.{grown_shows, walked_shows}
use Rattle.block_net.proofs.BindSteps.{bind_have, bind_more, have_more}
use Rattle.block_net.proofs.BodySteps.{arms_size_next, case_size, head_assign, head_case, head_if, head_let, if_size, size_next, some_size}
use Rattle.block_net.proofs.Branches.{both_of, comes, covered, first_bind, first_walked, part_end, part_next, part_start, second_walked, through_as, through_assign, through_both, through_if, through_no_else, through_some, through_under}
use Rattle.block_net.proofs.ArmSteps.{arm_covered, arm_fits_at, case_fits, case_with_some, case_without, ends_have, order_at, parts_next, some_fits, through_case, way_count, way_end, way_ends, way_next, way_start}
use Rattle.block_net.proofs.body.+walking.Goals as goal

pub walk_body-loop-stmt-init : goal.walk_body-loop-stmt-init
walk_body-loop-stmt-init t c = record { part = part_start (width_at (value_of c.args.widths.now)) _ _ _ c.requires.shows c.requires.fits; left = omega arith; parts = c.requires.parts }

pub walk_body-walk_stmt-requires : goal.walk_body-walk_stmt-requires
walk_body-walk_stmt-requires t c =
    let next = size_next _ _ _ c.loop-stmt-test.true c.stmt-item.is in
    let now = c.loop-stmt.invariant.left in
    let way = c.loop-stmt.invariant.part.walked in
    (search rules, (way.fits, (walked_shows (width_at (value_of c.args.widths.now)) _ _ _ _ way, (within_more _ _ c.args.enable way.terms c.requires.within, (parts_next c.args.clocked _ _ _ c.loop-stmt-test.true c.stmt-item.is c.loop-stmt.invariant.parts).0))))

pub walk_body-loop-stmt-preserved : goal.walk_body-loop-stmt-preserved
walk_body-loop-stmt-preserved t c = record {
  part = part_next (width_at (value_of c.args.widths.now)) _ c.args.enable c.args.clocked _ _ _ _ _ _ _ c.loop-stmt-test.true c.stmt-item.is (tree_more _ _ c.args.enable c.loop-stmt.invariant.part.walked.terms c.requires.within) c.in_ok-walk_stmt.ensures c.loop-stmt.invariant.part;
  left = let next = size_next _ _ _ c.loop-stmt-test.true c.stmt-item.is in let now = c.loop-stmt.invariant.left in omega arith;
  parts = (parts_next c.args.clocked _ _ _ c.loop-stmt-test.true c.stmt-item.is c.loop-stmt.invariant.parts).1;
}

pub walk_body-returns : goal.walk_body-returns
walk_body-returns t c = part_end (width_at (value_of c.args.widths.now)) _ c.args.clocked _ _ _ _ c.loop-stmt-test.false c.loop-stmt.invariant.part

pub walk_else-walk_body-requires : goal.walk_else-walk_body-requires
walk_else-walk_body-requires t c =
    let sized = some_size _ _ _ c.in-Some.is c.deref.ensures.value in
    (search rules, (c.requires.fits, (c.requires.shows, (c.requires.within, some_fits c.args.clocked _ _ _ c.in-Some.is c.deref.ensures.value c.requires.parts))))

pub walk_else-returns-in_ok-walk_body-in-Some : goal.walk_else-returns-in_ok-walk_body-in-Some
walk_else-returns-in_ok-walk_body-in-Some t c = through_some (width_at (value_of c.args.widths.now)) _ c.args.clocked _ _ _ _ _ c.in-Some.is c.deref.ensures.value c.in_ok-walk_body-in-Some.ensures

pub walk_else-returns-in-None : goal.walk_else-returns-in-None
walk_else-returns-in-None t c = through_no_else (width_at (value_of c.args.widths.now)) _ c.args.clocked _ _ c.in-None.is c.requires.shows c.requires.fits

pub walk_yes-walk_body-requires : goal.walk_yes-walk_body-requires
walk_yes-walk_body-requires t c =
    (search rules, (c.in_ok-enable.ensures.grown.fits, (grown_shows (width_at (value_of c.args.widths.now)) _ _ c.in_ok-enable.ensures.grown c.requires.shows, (c.in_ok-enable.ensures.stands.within, c.requires.parts))))

pub walk_yes-returns : goal.walk_yes-returns
walk_yes-returns t c = through_under (width_at (value_of c.args.widths.now)) _ _ _ _ _ (body_in c.args.clocked c.args.yes.now) c.requires.shows c.in_ok-enable.ensures.grown c.in_ok-enable.ensures.stands c.in_ok-walk_body.ensures

pub walk_no-walk_else-requires : goal.walk_no-walk_else-requires
walk_no-walk_else-requires t c =
    (search rules, (c.in_ok-enable.ensures.grown.fits, (grown_shows (width_at (value_of c.args.widths.now)) _ _ c.in_ok-enable.ensures.grown c.requires.shows, (c.in_ok-enable.ensures.stands.within, c.requires.parts))))

pub walk_no-returns : goal.walk_no-returns
walk_no-returns t c = through_under (width_at (value_of c.args.widths.now)) _ _ _ _ _ (else_in c.args.clocked c.args.no.now) c.requires.shows c.in_ok-enable.ensures.grown c.in_ok-enable.ensures.stands c.in_ok-walk_else.ensures

pub walk_first-walk_yes-requires : goal.walk_first-walk_yes-requires
walk_first-walk_yes-requires t c =
    let grown = c.in_ok-before.ensures.grown in
    (search rules, (grown.fits, (grown_shows (width_at (value_of c.args.widths.now)) _ _ grown c.requires.shows, (within_more _ _ c.args.branch.enable grown.terms c.requires.within, (within_more _ _ c.args.branch.test grown.terms c.requires.test, c.requires.parts)))))

pub walk_first-set_all-requires-clause-shows : goal.walk_first-set_all-requires-clause-shows
walk_first-set_all-requires-clause-shows t c = grown_shows (width_at (value_of c.args.widths.now)) _ _ c.in_ok-firsts.ensures.grown (walked_shows (width_at (value_of c.args.widths.now)) _ _ _ _ c.in_ok-walk_yes.ensures)

pub walk_first-set_all-requires-clause-within : goal.walk_first-set_all-requires-clause-within
walk_first-set_all-requires-clause-within t c =
    subst (HaveTerms c.pick-2.new.walk.terms) (sym c.deref.ensures.value)
    (have_more _ _ _ (extends_twice _ _ _ c.in_ok-walk_yes.ensures.terms c.in_ok-firsts.ensures.grown.terms) (bind_have _ (state_of c.args.walk.now) _ c.in_ok-before.ensures.bind))

pub walk_first-returns-clause-through : goal.walk_first-returns-clause-through
walk_first-returns-clause-through t c =
    let picked = c.in_ok-before.ensures.grown in
    first_walked (width_at (value_of c.args.widths.now)) c.args.walk.now c.pick.new.walk c.walk_yes.new.walk c.pick-2.new.walk c.set_all.new.walk c.args.keys.now c.deref.result.now _ (body_in c.args.clocked c.args.yes.now) c.requires.shows picked
    (through_as (width_at (value_of c.args.widths.now)) _ _ (body_in c.args.clocked c.args.yes.now) _ _ (both_of _ _ c.args.branch.enable c.args.branch.test picked.terms c.requires.within c.requires.test) c.in_ok-walk_yes.ensures)
    c.in_ok-firsts.ensures.grown c.requires.cover (ap (λ l. among (keys_of l)) c.deref.ensures.value ∙ c.in_ok-before.ensures.keys)
    (subst (Bind c.pick.new.walk.terms (state_of c.args.walk.now)) (sym c.deref.ensures.value) c.in_ok-before.ensures.bind) c.in_ok-set_all.ensures.sets

pub walk_first-returns-clause-bind : goal.walk_first-returns-clause-bind
walk_first-returns-clause-bind t c =
    first_bind (width_at (value_of c.args.widths.now)) c.args.walk.now c.pick.new.walk c.walk_yes.new.walk c.pick-2.new.walk c.set_all.new.walk c.in_ok-firsts.firsts.items _ (body_in c.args.clocked c.args.yes.now)
    c.in_ok-before.ensures.grown c.in_ok-walk_yes.ensures c.in_ok-firsts.ensures.grown
    (c.in_ok-set_all.ensures.sets (state_of c.args.walk.now)
    (bind_more _ _ (state_of c.args.walk.now) _ (extends_twice _ _ _ c.in_ok-walk_yes.ensures.terms c.in_ok-firsts.ensures.grown.terms)
    (subst (Bind c.pick.new.walk.terms (state_of c.args.walk.now)) (sym c.deref.ensures.value) c.in_ok-before.ensures.bind))).terms c.in_ok-firsts.ensures.bind

pub walk_second-choose-requires-clause-within : goal.walk_second-choose-requires-clause-within
walk_second-choose-requires-clause-within t c =
    have_more _ _ _ c.in_ok-walk_no.ensures.terms c.requires.firsts

pub walk_second-set_all-requires-clause-shows : goal.walk_second-set_all-requires-clause-shows
walk_second-set_all-requires-clause-shows t c = grown_shows (width_at (value_of c.args.widths.now)) _ _ c.in_ok-chosen.ensures.grown (walked_shows (width_at (value_of c.args.widths.now)) _ _ _ _ c.in_ok-walk_no.ensures)

pub walk_second-returns : goal.walk_second-returns
walk_second-returns t c =
    second_walked (width_at (value_of c.args.widths.now)) c.args.walk.now c.walk_no.new.walk c.choose.new.walk c.set_all.new.walk c.args.firsts.now c.deref.result.now c.args.branch.test _ (else_in c.args.clocked c.args.no.now) c.requires.test c.in_ok-walk_no.ensures
    c.in_ok-chosen.ensures.grown (ap (λ l. among (keys_of l)) c.deref.ensures.value ∙ c.in_ok-chosen.ensures.keys)
    (subst (λ l. Chooses c.args.branch.test c.args.firsts.now l c.walk_no.new.walk c.choose.new.walk) (sym c.deref.ensures.value) c.in_ok-chosen.ensures.chooses) c.in_ok-set_all.ensures.sets

-- ---- a statement

pub walk_stmt-term_of-requires : goal.walk_stmt-term_of-requires
walk_stmt-term_of-requires t c =
    (c.in_ok-visit.ensures (width_at (value_of c.args.widths.now)) c.requires.shows).fits

pub walk_stmt-assign-requires-clause-shows : goal.walk_stmt-assign-requires-clause-shows
walk_stmt-assign-requires-clause-shows t c =
    grown_shows (width_at (value_of c.args.widths.now)) _ _ c.in_ok-value.ensures.grown (walked_shows (width_at (value_of c.args.widths.now)) _ _ _ _ (c.in_ok-visit.ensures (width_at (value_of c.args.widths.now)) c.requires.shows))

pub walk_stmt-assign-requires-in-Let-clause-shows : goal.walk_stmt-assign-requires-in-Let-clause-shows
walk_stmt-assign-requires-in-Let-clause-shows t c = grown_shows (width_at (value_of c.args.widths.now)) _ _ c.in_ok-value.ensures.grown (walked_shows (width_at (value_of c.args.widths.now)) _ _ _ _ (c.in_ok-visit.ensures (width_at (value_of c.args.widths.now)) c.requires.shows))

pub walk_stmt-walk_both-requires : goal.walk_stmt-walk_both-requires
walk_stmt-walk_both-requires t c =
    let sized = if_size _ _ _ _ _ _ _ _ c.in-If.is c.deref.ensures.value in
    let fit = subst StmtFits (head_if c.args.clocked _ c.slot.result (expr_of c.value.result.now) _ _ _ _ _ _ _ c.in-If.is c.deref.ensures.value c.slot.ensures c.value.ensures) c.requires.parts in
    (search rules, (c.in_ok-value.ensures.grown.fits, (grown_shows (width_at (value_of c.args.widths.now)) _ _ c.in_ok-value.ensures.grown (walked_shows (width_at (value_of c.args.widths.now)) _ _ _ _ (c.in_ok-visit.ensures (width_at (value_of c.args.widths.now)) c.requires.shows)), (within_more _ _ c.args.enable (extends_twice _ _ _ (c.in_ok-visit.ensures (width_at (value_of c.args.widths.now)) c.requires.shows).terms c.in_ok-value.ensures.grown.terms) c.requires.within, (c.in_ok-value.ensures.stands.within, (fit.0, fit.1))))))

pub walk_stmt-walk_case-requires : goal.walk_stmt-walk_case-requires
walk_stmt-walk_case-requires t c =
    let sized = case_size _ _ _ _ _ _ _ _ c.in-Case.is c.deref-in-Case.ensures.value in
    let fit = case_fits c.slot.result (expr_in c.value.result.now) _ _ (subst StmtFits (head_case c.args.clocked _ c.slot.result (expr_of c.value.result.now) _ _ _ _ _ _ _ c.in-Case.is c.deref-in-Case.ensures.value c.slot.ensures c.value.ensures) c.requires.parts) in
    (search rules, (c.in_ok-value.ensures.grown.fits, (grown_shows (width_at (value_of c.args.widths.now)) _ _ c.in_ok-value.ensures.grown (walked_shows (width_at (value_of c.args.widths.now)) _ _ _ _ (c.in_ok-visit.ensures (width_at (value_of c.args.widths.now)) c.requires.shows)), (within_more _ _ c.args.enable (extends_twice _ _ _ (c.in_ok-visit.ensures (width_at (value_of c.args.widths.now)) c.requires.shows).terms c.in_ok-value.ensures.grown.terms) c.requires.within, (c.in_ok-value.ensures.stands.within, (fit.0, fit.1))))))

pub walk_stmt-returns-in_ok-assign-in-Assign : goal.walk_stmt-returns-in_ok-assign-in-Assign
walk_stmt-returns-in_ok-assign-in-Assign t c =
    through_assign (width_at (value_of c.args.widths.now)) c.args.walk.now c.term_of.new.self c.assign.new.self _ c.slot.result c.in_ok-value.value _ _ _ (expr_in c.value.result.now) _
    (head_assign c.args.clocked _ c.slot.result (expr_of c.value.result.now) _ _ _ _ _ _ c.in-Assign.is c.slot.ensures c.value.ensures) (c.in_ok-key-in-Assign.ensures ∙ ap (target c.args.clocked) c.bytes.ensures)
    (comes (width_at (value_of c.args.widths.now)) c.args.walk.now c.visit.new.self c.term_of.new.self c.slot.result c.args.enable c.in_ok-value.value (expr_in c.value.result.now) c.requires.shows c.in_ok-visit.ensures c.in_ok-value.ensures.grown c.in_ok-value.ensures.stands) c.in_ok-assign-in-Assign.ensures

pub walk_stmt-returns-in_ok-assign-in-Let : goal.walk_stmt-returns-in_ok-assign-in-Let
walk_stmt-returns-in_ok-assign-in-Let t c =
    through_assign (width_at (value_of c.args.widths.now)) c.args.walk.now c.term_of.new.self c.assign-in-Let.new.self _ c.slot.result c.in_ok-value.value _ _ _ (expr_in c.value.result.now) _
    (head_let c.args.clocked _ c.slot.result (expr_of c.value.result.now) _ _ _ _ _ c.in-Let.is c.slot.ensures c.value.ensures) (c.in_ok-key-in-Let.ensures ∙ ap (λ x. Now x) c.bytes-in-Let.ensures)
    (comes (width_at (value_of c.args.widths.now)) c.args.walk.now c.visit.new.self c.term_of.new.self c.slot.result c.args.enable c.in_ok-value.value (expr_in c.value.result.now) c.requires.shows c.in_ok-visit.ensures c.in_ok-value.ensures.grown c.in_ok-value.ensures.stands) c.in_ok-assign-in-Let.ensures

pub walk_stmt-returns-in_ok-walk_both-in-If : goal.walk_stmt-returns-in_ok-walk_both-in-If
walk_stmt-returns-in_ok-walk_both-in-If t c =
    through_if (width_at (value_of c.args.widths.now)) c.args.walk.now c.term_of.new.self c.walk_both.new.walk _ c.args.enable c.in_ok-value.value c.slot.result (expr_in c.value.result.now) _ _ _
    (head_if c.args.clocked _ c.slot.result (expr_of c.value.result.now) _ _ _ _ _ _ _ c.in-If.is c.deref.ensures.value c.slot.ensures c.value.ensures) (tree_more _ _ c.args.enable (extends_twice _ _ _ (c.in_ok-visit.ensures (width_at (value_of c.args.widths.now)) c.requires.shows).terms c.in_ok-value.ensures.grown.terms) c.requires.within)
    (comes (width_at (value_of c.args.widths.now)) c.args.walk.now c.visit.new.self c.term_of.new.self c.slot.result c.args.enable c.in_ok-value.value (expr_in c.value.result.now) c.requires.shows c.in_ok-visit.ensures c.in_ok-value.ensures.grown c.in_ok-value.ensures.stands) c.in_ok-walk_both-in-If.ensures

pub walk_stmt-returns-in_ok-walk_case-in-Case : goal.walk_stmt-returns-in_ok-walk_case-in-Case
walk_stmt-returns-in_ok-walk_case-in-Case t c =
    through_case (width_at (value_of c.args.widths.now)) c.args.walk.now c.term_of.new.self c.walk_case.new.walk _ c.args.enable c.in_ok-value.value c.slot.result (expr_in c.value.result.now) _ _ _
    (head_case c.args.clocked _ c.slot.result (expr_of c.value.result.now) _ _ _ _ _ _ _ c.in-Case.is c.deref-in-Case.ensures.value c.slot.ensures c.value.ensures) (tree_more _ _ c.args.enable (extends_twice _ _ _ (c.in_ok-visit.ensures (width_at (value_of c.args.widths.now)) c.requires.shows).terms c.in_ok-value.ensures.grown.terms) c.requires.within)
    (comes (width_at (value_of c.args.widths.now)) c.args.walk.now c.visit.new.self c.term_of.new.self c.slot.result c.args.enable c.in_ok-value.value (expr_in c.value.result.now) c.requires.shows c.in_ok-visit.ensures c.in_ok-value.ensures.grown c.in_ok-value.ensures.stands) c.in_ok-walk_case-in-Case.ensures

-- ---- both branches

pub walk_both-walk_first-requires : goal.walk_both-walk_first-requires
walk_both-walk_first-requires t c =
    (search rules, (c.requires.fits, (c.requires.shows, (c.requires.within, (c.requires.test, (c.requires.yes, covered _ _ (body_in c.args.clocked c.args.yes.now) (else_in c.args.clocked c.args.no.now) c.deref.ensures.value c.in_ok-keys.ensures))))))

pub walk_both-walk_second-requires : goal.walk_both-walk_second-requires
walk_both-walk_second-requires t c =
    let first = c.in_ok-firsts.ensures.through in (
      search rules,
      (
        first.fits,
        (
          walked_shows (width_at (value_of c.args.widths.now)) _ _ _ _ first,
          (
            within_more _ _ c.args.branch.enable first.terms c.requires.within,
            (
              within_more _ _ c.args.branch.test first.terms c.requires.test,
              (
                c.requires.no,
                subst (HaveTerms c.walk_first.new.walk.terms) (sym c.deref-2.ensures.value) (bind_have _ (body_trees_after (width_at (value_of c.args.widths.now)) (body_in c.args.clocked c.args.yes.now) (state_of c.args.walk.now)) _ c.in_ok-firsts.ensures.bind),
              ),
            ),
          ),
        ),
      ),
    )

pub walk_both-returns : goal.walk_both-returns
walk_both-returns t c =
    through_both (width_at (value_of c.args.widths.now)) c.args.walk.now c.walk_first.new.walk c.walk_second.new.walk (among c.in_ok-keys.keys.items) c.deref-2.result.now c.args.branch.enable c.args.branch.test (body_in c.args.clocked c.args.yes.now) (else_in c.args.clocked c.args.no.now)
    c.requires.within c.requires.test c.in_ok-keys.ensures c.in_ok-firsts.ensures.through
    (ap (λ l. among (keys_of l)) c.deref-2.ensures.value ∙ c.in_ok-firsts.ensures.keys ∙ ap among c.deref.ensures.value)
    (subst (Bind c.walk_first.new.walk.terms (body_trees_after (width_at (value_of c.args.widths.now)) (body_in c.args.clocked c.args.yes.now) (state_of c.args.walk.now))) (sym c.deref-2.ensures.value) c.in_ok-firsts.ensures.bind)
    c.in_ok-walk_second.ensures

-- ---- a `case`

pub walk_case-walk_both-requires : goal.walk_case-walk_both-requires
walk_case-walk_both-requires t c =
    let grown = c.in_ok-test.ensures.grown in
    (search rules, (grown.fits, (grown_shows (width_at (value_of c.args.widths.now)) _ _ grown c.requires.shows, (within_more _ _ c.args.branch.enable grown.terms c.requires.within, (c.in_ok-test.ensures.stands.within, (search rules, c.requires.other))))))

pub walk_case-returns-then-is_empty : goal.walk_case-returns-then-is_empty
walk_case-returns-then-is_empty t c =
    let none = ap (arms_in c.args.clocked) (nil_from_length c.args.arms.now (eqb-true _ _ (sym c.is_empty.ensures ∙ c.if-is_empty.true))) in
    on_ok_map c.walk_both.result
    (case_without (width_at (value_of c.args.widths.now)) (tree_for c.args.walk.now.terms c.args.branch.test) (arms_in c.args.clocked c.args.arms.now) (else_in c.args.clocked c.args.other.now) c.args.walk.now c.constant.new.self c.walk_both.new.walk c.args.branch.enable c.in_ok-test.test none c.requires.shows
    c.in_ok-test.ensures.grown c.requires.within c.in_ok-test.ensures.stands) c.walk_both.ensures

pub walk_case-join_all-requires-clause-shows : goal.walk_case-join_all-requires-clause-shows
walk_case-join_all-requires-clause-shows t c = walked_shows (width_at (value_of c.args.widths.now)) _ _ _ _ c.in_ok-ends.ensures.through

pub walk_case-join_all-requires-clause-within : goal.walk_case-join_all-requires-clause-within
walk_case-join_all-requires-clause-within t c =
    subst (EndsHaveTerms c.walk_arms.new.walk.terms) (sym c.deref.ensures.value)
    (ends_have _ (width_at (value_of c.args.widths.now)) (tree_for c.args.walk.now.terms c.args.branch.test) (state_of c.args.walk.now) (arms_in c.args.clocked c.args.arms.now) (else_in c.args.clocked c.args.other.now) _ c.in_ok-ends.ensures.ends)

pub walk_case-returns : goal.walk_case-returns
walk_case-returns t c =
    case_with_some (width_at (value_of c.args.widths.now)) _ _ c.args.clocked c.args.arms.now (else_in c.args.clocked c.args.other.now) c.args.walk.now c.walk_arms.new.walk c.join_all.new.walk c.deref.result.now (λ none. eqb-false _ _ (sym c.is_empty.ensures ∙ c.if-is_empty.false) (ap length none)) c.in_ok-ends.ensures.through
    (ap length c.deref.ensures.value ∙ c.in_ok-ends.ensures.count) (subst (AllEnd c.walk_arms.new.walk.terms (width_at (value_of c.args.widths.now)) (tree_for c.args.walk.now.terms c.args.branch.test) (state_of c.args.walk.now) (arms_in c.args.clocked c.args.arms.now) (else_in c.args.clocked c.args.other.now)) (sym c.deref.ensures.value) c.in_ok-ends.ensures.ends)
    c.in_ok-join_all.ensures

-- ---- arms

pub walk_arms-loop-arm-init : goal.walk_arms-loop-arm-init
walk_arms-loop-arm-init t c = record {
  way = way_start (width_at (value_of c.args.widths.now)) (tree_for c.args.walk.now.terms c.args.branch.test) c.args.clocked c.args.arms.now (else_in c.args.clocked c.args.other.now) c.args.walk.now c.args.branch.enable c.new-ends.result.items c.requires.shows c.requires.fits c.requires.within c.new-ends.ensures.items;
  left = omega arith;
}

pub walk_arms-arm_test-requires-clause-within : goal.walk_arms-arm_test-requires-clause-within
walk_arms-arm_test-requires-clause-within t c = within_more _ _ c.args.branch.test c.loop-arm.invariant.way.walked.terms c.requires.test

pub walk_arms-keys_from-keys-requires-clause-within : goal.walk_arms-keys_from-keys-requires-clause-within
walk_arms-keys_from-keys-requires-clause-within t c =
    (order_at c.args.clocked c.args.arms.now (else_in c.args.clocked c.args.other.now) c.in_ok-order.order _ c.len.result c.arm-item.result c.in_ok-order.ensures c.loop-arm-test.true c.arm-item.is (omega (arith, c.len.ensures, c.loop-arm.ends.ok.0, c.loop-arm.invariant.way.count))).inside

pub walk_arms-keys_from-keys-requires-clause-count : goal.walk_arms-keys_from-keys-requires-clause-count
walk_arms-keys_from-keys-requires-clause-count t c =
    (order_at c.args.clocked c.args.arms.now (else_in c.args.clocked c.args.other.now) c.in_ok-order.order _ c.len.result c.arm-item.result c.in_ok-order.ensures c.loop-arm-test.true c.arm-item.is (omega (arith, c.len.ensures, c.loop-arm.ends.ok.0, c.loop-arm.invariant.way.count))).most

pub walk_arms-walk_first-requires : goal.walk_arms-walk_first-requires
walk_arms-walk_first-requires t c =
    let way = c.loop-arm.invariant.way in
    let grown = c.in_ok-test.ensures.grown in
    let next = arms_size_next _ _ _ c.loop-arm-test.true c.arm-item.is in
    let left = c.loop-arm.invariant.left in
    let sized = ap (λ l. size (body_of l)) c.deref-in-loop-arm.ensures.value in (
      search rules,
      (
        grown.fits,
        (
          grown_shows (width_at (value_of c.args.widths.now)) _ _ grown (walked_shows (width_at (value_of c.args.widths.now)) _ _ _ _ way.walked),
          (
            within_more _ _ c.loop-arm.enable grown.terms way.within,
            (
              c.in_ok-test.ensures.stands.within,
              (
                subst (λ l. BodyFits (body_in c.args.clocked l)) (sym c.deref-in-loop-arm.ensures.value) (arm_fits_at c.args.clocked c.args.arms.now _ c.arm-item.result c.loop-arm-test.true c.arm-item.is c.requires.parts),
                subst (λ l. Cover c.keys_from-keys.result.now (body_in c.args.clocked l)) (sym c.deref-in-loop-arm.ensures.value) (arm_covered c.keys_from-keys.result.now (arm_in c.args.clocked c.arm-item.result) (arms_in c.args.clocked (drop (c.loop-arm.arm-index + 1) c.args.arms.now)) (else_in c.args.clocked c.args.other.now) (ap among c.keys_from-keys.ensures ∙ (order_at c.args.clocked c.args.arms.now (else_in c.args.clocked c.args.other.now) c.in_ok-order.order _ c.len.result c.arm-item.result c.in_ok-order.ensures c.loop-arm-test.true c.arm-item.is (omega (arith, c.len.ensures, c.loop-arm.ends.ok.0, c.loop-arm.invariant.way.count))).are)),
              ),
            ),
          ),
        ),
      ),
    )

pub walk_arms-else_enable-requires-clause-within : goal.walk_arms-else_enable-requires-clause-within
walk_arms-else_enable-requires-clause-within t c =
    within_more _ _ c.loop-arm.enable (extends_twice _ _ _ c.in_ok-test.ensures.grown.terms c.in_ok-firsts.ensures.through.terms) c.loop-arm.invariant.way.within

pub walk_arms-loop-arm-preserved : goal.walk_arms-loop-arm-preserved
walk_arms-loop-arm-preserved t c =
    let tested = c.arm_test.new.self in
    let first = c.walk_first.new.walk in
    record {
      way = way_next (width_at (value_of c.args.widths.now)) c.args.clocked c.args.arms.now (else_in c.args.clocked c.args.other.now) _ c.args.walk.now c.loop-arm.walk tested first c.else_enable.new.self c.args.branch.test c.loop-arm.enable c.in_ok-test.test _ c.loop-arm.ends.items _ c.loop-arm.arm-index c.arm-item.result c.keys_from-keys.result.now
          (record { test = c.in_ok-test.test; firsts = c.in_ok-firsts.firsts }) c.loop-arm-test.true c.arm-item.is c.requires.test c.in_ok-test.ensures.grown
          (subst (λ l. Stands tested.terms c.in_ok-test.test (arm_test (tree_for c.loop-arm.walk.terms c.args.branch.test) (map literal_of l))) c.deref.ensures.value c.in_ok-test.ensures.stands)
          (subst (λ l. Walked (width_at (value_of c.args.widths.now)) tested first (body_rows (width_at (value_of c.args.widths.now)) (body_in c.args.clocked l) (then_enable (tree_for tested.terms c.loop-arm.enable) (tree_for tested.terms c.in_ok-test.test)) (state_of tested)) (state_of tested)) c.deref-in-loop-arm.ensures.value c.in_ok-firsts.ensures.through)
          (ap among c.keys_from-keys.ensures ∙ (order_at c.args.clocked c.args.arms.now (else_in c.args.clocked c.args.other.now) c.in_ok-order.order _ c.len.result c.arm-item.result c.in_ok-order.ensures c.loop-arm-test.true c.arm-item.is (omega (arith, c.len.ensures, c.loop-arm.ends.ok.0, c.loop-arm.invariant.way.count))).are) refl c.in_ok-firsts.ensures.keys
          (subst (λ l. Bind first.terms (body_trees_after (width_at (value_of c.args.widths.now)) (body_in c.args.clocked l) (state_of tested)) c.in_ok-firsts.firsts.items) c.deref-in-loop-arm.ensures.value c.in_ok-firsts.ensures.bind)
          c.in_ok-enable.ensures.grown c.in_ok-enable.ensures.stands c.in_ok-push.ensures.items c.loop-arm.invariant.way;
      left = let next = arms_size_next _ _ _ c.loop-arm-test.true c.arm-item.is in let now = c.loop-arm.invariant.left in omega arith;
    }

pub walk_arms-walk_else-requires : goal.walk_arms-walk_else-requires
walk_arms-walk_else-requires t c =
    let way = c.loop-arm.invariant.way in
    (search rules, (way.walked.fits, (walked_shows (width_at (value_of c.args.widths.now)) _ _ _ _ way.walked, (way.within, c.requires.other))))

pub walk_arms-returns-clause-through : goal.walk_arms-returns-clause-through
walk_arms-returns-clause-through t c =
    way_end (width_at (value_of c.args.widths.now)) c.args.clocked c.args.arms.now (else_in c.args.clocked c.args.other.now) _ _ _ _ _ _ _ _ c.loop-arm-test.false c.in_ok-walk_else.ensures c.loop-arm.invariant.way

pub walk_arms-returns-clause-count : goal.walk_arms-returns-clause-count
walk_arms-returns-clause-count t c =
    way_count (width_at (value_of c.args.widths.now)) c.args.clocked c.args.arms.now (else_in c.args.clocked c.args.other.now) _ _ _ _ _ _ _ c.loop-arm-test.false c.loop-arm.invariant.way

pub walk_arms-returns-clause-ends : goal.walk_arms-returns-clause-ends
walk_arms-returns-clause-ends t c =
    way_ends (width_at (value_of c.args.widths.now)) c.args.clocked c.args.arms.now (else_in c.args.clocked c.args.other.now) _ c.args.walk.now c.loop-arm.walk c.walk_else.new.walk _ _ _ _ c.in_ok-walk_else.ensures.terms c.loop-arm.invariant.way
