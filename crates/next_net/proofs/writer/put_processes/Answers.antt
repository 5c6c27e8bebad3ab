use Rattle.std.proofs.Common.{◌≡◌, get_or, Some, ap, sym, ◌∙◌, subst}
use Rattle.std.specs.Prelude.{slice_get}
use Rattle.std.proofs.lemmas.Option.{slice_get-get_or}
use Rattle.exec_core.specs.Design.{writes_to}
use Rattle.design_exec.specs.Processes.{processes_of}
use Rattle.place_core.specs.Numbering.{numbers_of}
use Rattle.ssa_nodes.specs.Parts.{all_in, design_in}
use Rattle.next_net.specs.Writers.{Marks}
use Rattle.next_net.proofs.Writing.{writers_more}
use Rattle.next_net.proofs.writer.put_processes.Goals as goal

pub loop-place-preserved : goal.loop-place-preserved
loop-place-preserved c =
    let p = c.args.parts.now in
    let i = c.loop-place.place in
    let items = c.deref-key-items.result.now in
    let at : slice_get p.keys.items i ≡ Some (get_or items i _) = ap (λ l. slice_get l i) (sym c.deref-key-items.ensures.value) ∙ slice_get-get_or items i _ c.loop-place-test.true in
    writers_more (design_in p) p.keys.items (processes_of (design_in p)).processes p.count (all_in p) c.loop-place.list c.put_process.new.list i (get_or items i _) c.requires.parts.parts.apart c.requires.parts.parts.keys_are at c.loop-place.invariant
    (λ b e. subst (λ k. Marks (all_in p) k (λ q. writes_to q b) c.loop-place.list c.put_process.new.list) c.in_ok-process.ensures
    (subst (λ ms. Marks (numbers_of ms) c.in_ok-process.process (λ q. writes_to q b) c.loop-place.list c.put_process.new.list) c.deref.ensures.value (c.in_ok-put_process.ensures b e)))
