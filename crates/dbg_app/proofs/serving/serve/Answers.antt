use Rattle.std.proofs.Common.{◌<◌, [], refl, lit<}
use Rattle.io_edge.proofs.Stops.{grows_not}
use Rattle.dbg_app.proofs.Statuses.{ends_grown}
use Rattle.dbg_app.specs.Serving.{offer_as}
use Rattle.dbg_app.specs.declared.judge.Judged.TheVariants.{NoCommand}
use Rattle.dbg_app.proofs.Ending.{usage_taken, design_line_taken, stimulus_line_taken}
use Rattle.dbg_app.proofs.Offering.{offered_is, no_files, no_front, front_offer, shown_files, refused_files, served_grown, serves_offer, serves_part, served_completes, ends_late, refused_completes, refused_ends, refused_front}
use Rattle.dbg_app.proofs.serving.serve.Goals as goal

pub returns-in_default-clause-usage_front : goal.returns-in_default-clause-usage_front
returns-in_default-clause-usage_front g c = λ none.
    let r = c.refuse.ensures in
    usage_taken [] c.refuse.result.status NoCommand _ _ r.statuses refl r.done r.no_read r.front

-- ---- what was accepted

pub returns-in-Ok-Accepted-clause-served : goal.returns-in-Ok-Accepted-clause-served
returns-in-Ok-Accepted-clause-served g c = λ done.
    offered_is (g.F.Files.told c.args.files.now) c.args.words.now (offer_as c.in-Some.offer) _ c.in-Some.ensures.offer
    (serves_offer _ (g.F.Files.told c.args.files.now) (offer_as c.in-Some.offer) _ _ _ _ _ _ _ _ _ c.in-Ok-Accepted.service (rw c.in-Ok-Accepted.field-0-is at c.in-Ok-Accepted.ensures.shown) (rw c.in-Ok-Accepted.field-0-is at c.in-Ok-Accepted.ensures.judged) (c.serve_shown.ensures.all done))

pub returns-in-Ok-Accepted-clause-complete : goal.returns-in-Ok-Accepted-clause-complete
returns-in-Ok-Accepted-clause-complete g c =
    offered_is (g.F.Files.told c.args.files.now) c.args.words.now (offer_as c.in-Some.offer) _ c.in-Some.ensures.offer
    (served_completes (offer_as c.in-Some.offer) c.serve_shown.result.status _ _ _ _ (g.F.Files.told c.args.files.now) c.in-Ok-Accepted.service c.in-Some.ensures.requests (rw c.in-Ok-Accepted.field-0-is at c.in-Ok-Accepted.ensures.shown) (rw c.in-Ok-Accepted.field-0-is at c.in-Ok-Accepted.ensures.judged) c.serve_shown.ensures.statuses c.serve_shown.ensures.write)

pub returns-in-Ok-Accepted-clause-front : goal.returns-in-Ok-Accepted-clause-front
returns-in-Ok-Accepted-clause-front g c = λ late.
    offered_is (g.F.Files.told c.args.files.now) c.args.words.now (offer_as c.in-Some.offer) _ c.in-Some.ensures.offer
    (serves_part _ (g.F.Files.told c.args.files.now) (offer_as c.in-Some.offer) _ _ _ _ _ _ _ _ _ c.in-Ok-Accepted.service (rw c.in-Ok-Accepted.field-0-is at c.in-Ok-Accepted.ensures.shown) (rw c.in-Ok-Accepted.field-0-is at c.in-Ok-Accepted.ensures.judged) c.serve_shown.result.status (c.serve_shown.ensures.some late))

pub returns-in-Ok-Accepted-clause-unserved : goal.returns-in-Ok-Accepted-clause-unserved
returns-in-Ok-Accepted-clause-unserved g c = λ other early. absurd (ends_late c.serve_shown.result.status c.serve_shown.ensures.statuses other early)

-- ---- what was refused

pub returns-in-Ok-Refused-clause-design_line : goal.returns-in-Ok-Refused-clause-design_line
returns-in-Ok-Refused-clause-design_line g c = λ three.
    let r = c.refuse-in-Ok-Refused.ensures in
    let early : c.refuse-in-Ok-Refused.result.status < 7 = rw three (lit< tt) in
    design_line_taken [] c.refuse-in-Ok-Refused.result.status c.in-Ok-Refused.judged _ _ three (r.status early) (rw c.in-Ok-Refused.field-0-is at c.in-Ok-Refused.ensures.shown).text (r.done early)

pub returns-in-Ok-Refused-clause-stimulus_line : goal.returns-in-Ok-Refused-clause-stimulus_line
returns-in-Ok-Refused-clause-stimulus_line g c = λ four.
    let r = c.refuse-in-Ok-Refused.ensures in
    let early : c.refuse-in-Ok-Refused.result.status < 7 = rw four (lit< tt) in
    stimulus_line_taken [] c.refuse-in-Ok-Refused.result.status c.in-Ok-Refused.judged _ _ four (r.status early) (rw c.in-Ok-Refused.field-0-is at c.in-Ok-Refused.ensures.shown).text (r.done early)

pub returns-in-Ok-Refused-clause-refused : goal.returns-in-Ok-Refused-clause-refused
returns-in-Ok-Refused-clause-refused g c = λ other early.
    let r = c.refuse-in-Ok-Refused.ensures in
    offered_is (g.F.Files.told c.args.files.now) c.args.words.now (offer_as c.in-Some.offer) _ c.in-Some.ensures.offer
    (refused_ends (offer_as c.in-Some.offer) c.refuse-in-Ok-Refused.result.status _ _ ⊥ ⊥ (g.F.Files.told c.args.files.now) c.in-Ok-Refused.judged (rw c.in-Ok-Refused.field-0-is at c.in-Ok-Refused.ensures.judged) (rw c.in-Ok-Refused.field-0-is at c.in-Ok-Refused.ensures.shown).text (r.status early) (r.done early))

pub returns-in-Ok-Refused-clause-complete : goal.returns-in-Ok-Refused-clause-complete
returns-in-Ok-Refused-clause-complete g c =
    let r = c.refuse-in-Ok-Refused.ensures in
    offered_is (g.F.Files.told c.args.files.now) c.args.words.now (offer_as c.in-Some.offer) _ c.in-Some.ensures.offer
    (refused_completes (offer_as c.in-Some.offer) c.refuse-in-Ok-Refused.result.status _ _ _ _ (g.F.Files.told c.args.files.now) c.in-Ok-Refused.judged (rw c.in-Ok-Refused.field-0-is at c.in-Ok-Refused.ensures.judged) r.statuses r.status r.done r.no_read r.write)

pub returns-in-Ok-Refused-clause-front : goal.returns-in-Ok-Refused-clause-front
returns-in-Ok-Refused-clause-front g c = λ late.
    let r = c.refuse-in-Ok-Refused.ensures in
    offered_is (g.F.Files.told c.args.files.now) c.args.words.now (offer_as c.in-Some.offer) _ c.in-Some.ensures.offer
    (refused_front (offer_as c.in-Some.offer) c.refuse-in-Ok-Refused.result.status _ _ ⊥ ⊥ (g.F.Files.told c.args.files.now) c.in-Ok-Refused.judged (rw c.in-Ok-Refused.field-0-is at c.in-Ok-Refused.ensures.judged) _ _ _ _ _ _ _ _ (record { none = r.none.0; no_hub = r.none.1; left = refl; faults = refl }) (rw c.in-Ok-Refused.field-0-is at c.in-Ok-Refused.ensures.shown).text (r.front late))

-- ---- the files that were asked for

pub returns-in_default-clause-files : goal.returns-in_default-clause-files
returns-in_default-clause-files g c = no_files (g.F.Files.told c.args.files.now) c.args.words.now c.refuse.result.status (g.F.Files.asked c.args.files.now) c.in_default.ensures.offer

pub returns-in-Ok-Accepted-clause-files : goal.returns-in-Ok-Accepted-clause-files
returns-in-Ok-Accepted-clause-files g c =
    shown_files (g.F.Files.told c.args.files.now) c.args.words.now (offer_as c.in-Some.offer) c.in-Some.ensures.offer c.in-Some.ensures.requests c.serve_shown.result.status _ _
    (rw c.in-Ok-Accepted.field-0-is at c.in-Ok-Accepted.ensures.asked) c.serve_shown.ensures.statuses

pub returns-in-Ok-Refused-clause-files : goal.returns-in-Ok-Refused-clause-files
returns-in-Ok-Refused-clause-files g c =
    let r = c.refuse-in-Ok-Refused.ensures in
    refused_files (g.F.Files.told c.args.files.now) c.args.words.now (offer_as c.in-Some.offer) c.in-Some.ensures.offer c.in-Some.ensures.requests c.in-Ok-Refused.judged c.refuse-in-Ok-Refused.result.status _ _
    (rw c.in-Ok-Refused.field-0-is at c.in-Ok-Refused.ensures.asked) r.status

pub returns-in_default-clause-asked : goal.returns-in_default-clause-asked
returns-in_default-clause-asked g c = no_front (g.F.Files.told c.args.files.now) c.args.words.now _ c.in_default.ensures.offer

pub returns-in-Ok-Accepted-clause-asked : goal.returns-in-Ok-Accepted-clause-asked
returns-in-Ok-Accepted-clause-asked g c = front_offer (g.F.Files.told c.args.files.now) c.args.words.now (offer_as c.in-Some.offer) c.in-Some.ensures.offer c.in-Some.ensures.requests _ _ c.judge_shown.ensures.front

pub returns-in-Ok-Refused-clause-asked : goal.returns-in-Ok-Refused-clause-asked
returns-in-Ok-Refused-clause-asked g c = front_offer (g.F.Files.told c.args.files.now) c.args.words.now (offer_as c.in-Some.offer) c.in-Some.ensures.offer c.in-Some.ensures.requests _ _ c.judge_shown.ensures.front

pub returns-in-Err-clause-asked : goal.returns-in-Err-clause-asked
returns-in-Err-clause-asked g c = front_offer (g.F.Files.told c.args.files.now) c.args.words.now (offer_as c.in-Some.offer) c.in-Some.ensures.offer c.in-Some.ensures.requests _ _ c.judge_shown.ensures.front

-- ---- what stays in front

pub returns-in_default-clause-kept : goal.returns-in_default-clause-kept
returns-in_default-clause-kept g c =
    let r = c.refuse.ensures in
    ends_grown [] NoCommand c.refuse.result.status _ _ tt r.statuses r.done r.no_read r.front

pub returns-in-Ok-Accepted-clause-kept : goal.returns-in-Ok-Accepted-clause-kept
returns-in-Ok-Accepted-clause-kept g c =
    served_grown _ _ _ _ _ _ _ _ _ _ _ c.in-Some.offer.manner c.in-Ok-Accepted.service c.serve_shown.result.status (rw c.in-Ok-Accepted.field-0-is at c.in-Ok-Accepted.ensures.shown) c.serve_shown.ensures.statuses c.serve_shown.ensures.all c.serve_shown.ensures.some

pub returns-in-Ok-Refused-clause-kept : goal.returns-in-Ok-Refused-clause-kept
returns-in-Ok-Refused-clause-kept g c =
    let r = c.refuse-in-Ok-Refused.ensures in
    ends_grown [] c.in-Ok-Refused.judged c.refuse-in-Ok-Refused.result.status _ _ (rw c.in-Ok-Refused.field-0-is at c.in-Ok-Refused.ensures.shown).text r.statuses r.done r.no_read r.front

pub returns-in-Err-clause-kept : goal.returns-in-Err-clause-kept
returns-in-Err-clause-kept g c = grows_not _ _ refl
