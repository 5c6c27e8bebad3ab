use Rattle.std.proofs.Common.{◌∙◌, ap, ap₂, sym, rules, SFits, w64}
use Rattle.std.proofs.lemmas.Int.{to_z-of_z}
use Rattle.block_net.specs.Terms.{tree_for}
use Rattle.bv_core.specs.declared.operators.Op1.TheVariants as op1
use Rattle.tree_core.specs.Tree.{One, Two, Mux}
use Rattle.exec_core.specs.Exec.{on_one, on_two, on_three}
use Rattle.exec_core.specs.Trees.{tree_in}
use Rattle.design_exec.specs.Processes.{unary_of, binary_of}
use Rattle.design_core.specs.Widths.{bits}
use Rattle.block_net.specs.Source.{expr_in}
use Rattle.block_net.specs.Walks.{env_of}
use Rattle.block_net.proofs.WalkSteps.{grown_twice}
use Rattle.block_net.proofs.TermLists.{extends_twice}
use Rattle.block_net.proofs.Expressions.{on_ok_map, if_ok_as, later, of_expr, both, all_three}
use Rattle.block_net.proofs.walk.Walk.+term_of.Goals as goal

pub returns-in_ok-a-in-Un-clause-grown : goal.returns-in_ok-a-in-Un-clause-grown
returns-in_ok-a-in-Un-clause-grown t c = on_ok_map c.unary.result (grown_twice _ _ _ c.in_ok-a-in-Un.ensures.grown) c.unary.ensures.grown

pub returns-in_ok-a-in-Un-clause-stands : goal.returns-in_ok-a-in-Un-clause-stands
returns-in_ok-a-in-Un-clause-stands t c =
    let trees = env_of c.args.self.now in
    if_ok_as c.unary.result _ _ _
    (ap (on_one (One (unary_of c.in-Un.op))) c.in_ok-a-in-Un.ensures.stands.is
    ∙ ap (λ e. on_one (One (unary_of c.in-Un.op)) (tree_in (expr_in e) trees)) c.deref.ensures
    ∙ ap (λ e. tree_in (expr_in e) trees) (sym c.in-Un.is)) c.unary.ensures.stands

pub returns-in_ok-a-in-Zext-clause-grown : goal.returns-in_ok-a-in-Zext-clause-grown
returns-in_ok-a-in-Zext-clause-grown t c = on_ok_map c.zext.result (grown_twice _ _ _ c.in_ok-a-in-Zext.ensures.grown) c.zext.ensures.grown

pub returns-in_ok-a-in-Zext-clause-stands : goal.returns-in_ok-a-in-Zext-clause-stands
returns-in_ok-a-in-Zext-clause-stands t c =
    let trees = env_of c.args.self.now in
    if_ok_as c.zext.result _ _ _
    (ap (λ w. on_one (One (op1.Zext (bits w))) (tree_for c.term_of-in-Zext.new.self.terms c.in_ok-a-in-Zext.a)) (let fits : SFits w64 c.in-Zext.width = search rules in to_z-of_z w64 c.in-Zext.width fits)
    ∙ ap (on_one (One (op1.Zext (bits c.in-Zext.width)))) c.in_ok-a-in-Zext.ensures.stands.is
    ∙ ap (λ e. on_one (One (op1.Zext (bits c.in-Zext.width))) (tree_in (expr_in e) trees)) c.deref-in-Zext.ensures
    ∙ ap (λ e. tree_in (expr_in e) trees) (sym c.in-Zext.is)) c.zext.ensures.stands

pub returns-in_ok-a-in-Slice-clause-grown : goal.returns-in_ok-a-in-Slice-clause-grown
returns-in_ok-a-in-Slice-clause-grown t c = on_ok_map c.slice.result (grown_twice _ _ _ c.in_ok-a-in-Slice.ensures.grown) c.slice.ensures.grown

pub returns-in_ok-a-in-Slice-clause-stands : goal.returns-in_ok-a-in-Slice-clause-stands
returns-in_ok-a-in-Slice-clause-stands t c =
    let trees = env_of c.args.self.now in
    if_ok_as c.slice.result _ _ _
    (ap₂ (λ h l. on_one (One (op1.Slice (bits h) (bits l))) (tree_for c.term_of-in-Slice.new.self.terms c.in_ok-a-in-Slice.a)) (let fits : SFits w64 c.in-Slice.high = search rules in to_z-of_z w64 c.in-Slice.high fits) (let fits : SFits w64 c.in-Slice.low = search rules in to_z-of_z w64 c.in-Slice.low fits)
    ∙ ap (on_one (One (op1.Slice (bits c.in-Slice.high) (bits c.in-Slice.low)))) c.in_ok-a-in-Slice.ensures.stands.is
    ∙ ap (λ e. on_one (One (op1.Slice (bits c.in-Slice.high) (bits c.in-Slice.low))) (tree_in (expr_in e) trees)) c.deref-in-Slice.ensures
    ∙ ap (λ e. tree_in (expr_in e) trees) (sym c.in-Slice.is)) c.slice.ensures.stands

pub returns-in_ok-b-in-Bin-clause-grown : goal.returns-in_ok-b-in-Bin-clause-grown
returns-in_ok-b-in-Bin-clause-grown t c = on_ok_map c.binary.result (λ last. grown_twice _ _ _ c.in_ok-a-in-Bin.ensures.grown (grown_twice _ _ _ c.in_ok-b-in-Bin.ensures.grown last)) c.binary.ensures.grown

pub returns-in_ok-b-in-Bin-clause-stands : goal.returns-in_ok-b-in-Bin-clause-stands
returns-in_ok-b-in-Bin-clause-stands t c =
    let trees = env_of c.args.self.now in
    if_ok_as c.binary.result _ _ _
    (both (Two (binary_of c.in-Bin.op)) _ _ _ _ (later _ _ _ _ c.in_ok-a-in-Bin.ensures.stands c.in_ok-b-in-Bin.ensures.grown.terms)
    (of_expr _ _ _ _ (expr_in c.deref-in-Bin-2.result.now) c.in_ok-a-in-Bin.ensures.grown c.in_ok-b-in-Bin.ensures.stands.is)
    ∙ ap₂ (λ e f. on_two (Two (binary_of c.in-Bin.op)) (tree_in (expr_in e) trees) (tree_in (expr_in f) trees)) c.deref-in-Bin.ensures c.deref-in-Bin-2.ensures
    ∙ ap (λ e. tree_in (expr_in e) trees) (sym c.in-Bin.is)) c.binary.ensures.stands

pub returns-in_ok-b-in-Mux-clause-grown : goal.returns-in_ok-b-in-Mux-clause-grown
returns-in_ok-b-in-Mux-clause-grown t c =
    on_ok_map c.mux.result (λ last. grown_twice _ _ _ c.in_ok-test-in-Mux.ensures.grown (grown_twice _ _ _ c.in_ok-a-in-Mux.ensures.grown (grown_twice _ _ _ c.in_ok-b-in-Mux.ensures.grown last)))
    c.mux.ensures.grown

pub returns-in_ok-b-in-Mux-clause-stands : goal.returns-in_ok-b-in-Mux-clause-stands
returns-in_ok-b-in-Mux-clause-stands t c =
    let trees = env_of c.args.self.now in
    let first = c.in_ok-test-in-Mux.ensures.grown in
    let second = grown_twice _ _ _ first c.in_ok-a-in-Mux.ensures.grown in
    let last = c.in_ok-b-in-Mux.ensures.grown in
    if_ok_as c.mux.result _ _ _
    (all_three Mux _ _ _ _ _ _ (later _ _ _ _ c.in_ok-test-in-Mux.ensures.stands (extends_twice _ _ _ c.in_ok-a-in-Mux.ensures.grown.terms last.terms))
    (of_expr _ _ _ _ (expr_in c.deref-in-Mux-2.result.now) first (later _ _ _ _ c.in_ok-a-in-Mux.ensures.stands last.terms)) (of_expr _ _ _ _ (expr_in c.deref-in-Mux-3.result.now) second c.in_ok-b-in-Mux.ensures.stands.is)
    ∙ (λ i. on_three Mux (tree_in (expr_in (c.deref-in-Mux.ensures i)) trees) (tree_in (expr_in (c.deref-in-Mux-2.ensures i)) trees) (tree_in (expr_in (c.deref-in-Mux-3.ensures i)) trees))
    ∙ ap (λ e. tree_in (expr_in e) trees) (sym c.in-Mux.is)) c.mux.ensures.stands
