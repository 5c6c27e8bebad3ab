use Rattle.std.proofs.Common.{◌≡◌, ◌∙◌, List, sym, ap, subst, length}
use Rattle.design_core.specs.declared.statement.Stmt as code_stmt
use Rattle.design_core.specs.View.{block_of, body_of}
use Rattle.names.specs.Known.{Known, has}
use Rattle.names.specs.Maps.{value_of}
use Rattle.place_core.specs.Assigned.{names_at, assigned_in}
use Rattle.dep_order.specs.Blocks.{EndsStand, owns, version_of}
use Rattle.dep_order.proofs.Names.{block_drives}
use Rattle.dep_order.proofs.wiring.drive_block.Goals as goal

pub drive_names-requires-clause-versions : goal.drive_names-requires-clause-versions
drive_names-requires-clause-versions c x e =
    let same : has (names_at c.deref-2.result.now) ≡ has (names_at c.deref-3.result.now) = ap (λ l. has (names_at l)) (c.deref-2.ensures.value ∙ sym c.deref-3.ensures.value) in
    (c.in_ok-ends.ensures.ends x (ap (λ (k : Known). k x) same ∙ e)).vertices

pub returns-clause-drives : goal.returns-clause-drives
returns-clause-drives c =
    let same : has (names_at c.deref-3.result.now) ≡ owns (block_of c.args.block.now) =
    ap (λ l. has (names_at l)) c.deref-3.ensures.value ∙ c.in_ok-names.ensures ∙ ap (λ (l : List code_stmt.Stmt). assigned_in c.args.block.now.clocked (body_of l)) c.deref.ensures.value in
    block_drives c.args.graph.now c.follow_block.new.graph c.drive_names.new.graph c.args.driven.now c.drive_names.new.driven (value_of c.args.numbers.now) c.args.terms.now (block_of c.args.block.now) (has (names_at c.deref-3.result.now)) (version_of c.in_ok-ends.ends)
    c.requires.graph c.in_ok-ends.ensures.grown
    (subst (λ (l : List _). EndsStand (length c.args.graph.now) c.follow_block.new.graph (value_of c.args.numbers.now) (has (names_at l)) c.args.terms.now (version_of c.in_ok-ends.ends)) (c.deref-2.ensures.value ∙ sym c.deref-3.ensures.value) c.in_ok-ends.ensures.ends)
    same c.in_ok-drive_names.ensures.drives
