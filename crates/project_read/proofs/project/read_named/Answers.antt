use Rattle.std.proofs.Common.{Err, ap, ◌∙◌, arith}
use Rattle.std.proofs.lemmas.Result.{err_from_is_err_and}
use Rattle.project_read.specs.Names.{names_in}
use Rattle.project_read.specs.Named.{sources_read}
use Rattle.project_read.proofs.Asked.{first_front, counted, is_so_far, told_refused, asked_refused, front_inside, stops_inside, one_read}
use Rattle.project_read.proofs.project.read_named.Goals as goal

pub returns-in_err-from_str-clause-front : goal.returns-in_err-from_str-clause-front
returns-in_err-from_str-clause-front g c = first_front _ _ _

pub returns-in_err-names-clause-front : goal.returns-in_err-names-clause-front
returns-in_err-names-clause-front g c = first_front _ _ _

pub returns-in_err-source-clause-told : goal.returns-in_err-source-clause-told
returns-in_err-source-clause-told g c =
    let p = err_from_is_err_and c.from_residual-in_err-source.result c.from_residual-in_err-source.ensures.1 in
    let so = is_so_far _ _ c.loop-folder.sources c.loop-folder.names _ _ _ _ _ c.len-in-loop-folder-2.ensures c.len.ensures c.len-in-loop-folder.ensures c.loop-folder-test.true c.loop-folder.invariant.stands c.loop-folder.invariant.asked in
    told_refused _ _ _ _ _ _ _ _ _ _ _ _ (ap sources_read (p.1 ∙ ap (λ x. Err x) p.2)) so c.loop-folder.invariant.same c.folder_of-folder.ensures c.in_err-source.ensures.told c.in_err-source.ensures.is

pub returns-in_err-source-clause-asked : goal.returns-in_err-source-clause-asked
returns-in_err-source-clause-asked g c =
    let p = err_from_is_err_and c.from_residual-in_err-source.result c.from_residual-in_err-source.ensures.1 in
    let so = is_so_far _ _ c.loop-folder.sources c.loop-folder.names _ _ _ _ _ c.len-in-loop-folder-2.ensures c.len.ensures c.len-in-loop-folder.ensures c.loop-folder-test.true c.loop-folder.invariant.stands c.loop-folder.invariant.asked in
    asked_refused _ _ c.folder_of-folder.result.now _ _ _ _ _ _ _ _ _ (ap sources_read (p.1 ∙ ap (λ x. Err x) p.2)) so c.in_err-source.ensures.is c.in_err-source.ensures.asked

pub returns-in_err-source-clause-front : goal.returns-in_err-source-clause-front
returns-in_err-source-clause-front g c =
    let so = is_so_far _ _ c.loop-folder.sources c.loop-folder.names _ _ _ _ _ c.len-in-loop-folder-2.ensures c.len.ensures c.len-in-loop-folder.ensures c.loop-folder-test.true c.loop-folder.invariant.stands c.loop-folder.invariant.asked in
    front_inside _ _ _ _ _ _ _ _ so c.in_err-source.ensures.front

pub returns-in_err-source-clause-unread : goal.returns-in_err-source-clause-unread
returns-in_err-source-clause-unread g c =
    let p = err_from_is_err_and c.from_residual-in_err-source.result c.from_residual-in_err-source.ensures.1 in
    let so = is_so_far _ _ c.loop-folder.sources c.loop-folder.names _ _ _ _ _ c.len-in-loop-folder-2.ensures c.len.ensures c.len-in-loop-folder.ensures c.loop-folder-test.true c.loop-folder.invariant.stands c.loop-folder.invariant.asked in
    stops_inside _ _ _ _ _ _ _ _ _ _ _ _ (p.1 ∙ ap (λ x. Err x) p.2) so c.loop-folder.invariant.later c.in_err-source.ensures.unread

pub loop-folder-preserved : goal.loop-folder-preserved
loop-folder-preserved g c =
    let so = is_so_far _ _ c.loop-folder.sources c.loop-folder.names _ _ _ _ _ c.len-in-loop-folder-2.ensures c.len.ensures c.len-in-loop-folder.ensures c.loop-folder-test.true c.loop-folder.invariant.stands c.loop-folder.invariant.asked in
    let more =
    one_read _ _ _ _ _ c.push.new.self.items c.in_ok-source.source _ (names_in c.read_next.new.names.items) _ _ _ _ c.in_ok-push.ensures.items so c.loop-folder.invariant.same c.folder_of-folder.ensures c.in_ok-source.ensures.told c.in_ok-source.ensures.is
    c.in_ok-source.ensures.asked in
    record {
      same = c.in_ok-source.ensures.same ∙ c.loop-folder.invariant.same;
      stands = more.stands;
      within = counted c.read_next.new.names.items _ more.within;
      asked = more.asked;
      later = omega (arith, c.loop-folder.invariant.later, c.in_ok-source.ensures.later);
    }

pub returns-in_err-push-clause-front : goal.returns-in_err-push-clause-front
returns-in_err-push-clause-front g c =
    let so = is_so_far _ _ c.loop-folder.sources c.loop-folder.names _ _ _ _ _ c.len-in-loop-folder-2.ensures c.len.ensures c.len-in-loop-folder.ensures c.loop-folder-test.true c.loop-folder.invariant.stands c.loop-folder.invariant.asked in
    front_inside _ _ _ _ _ _ _ _ so c.in_ok-source.ensures.front
