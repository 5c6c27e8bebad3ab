use Rattle.std.proofs.Common.{rules, ◌<◌, length, arith, map, ◌∙◌, ap}
use Rattle.std.proofs.lemmas.List.{take_all}
use Rattle.machine_core.specs.Journal.{Noticed}
use Rattle.req_json.specs.Texts.{line_text, texts_of}
use Rattle.hub_core.proofs.Telling.{text_more}
use Rattle.hub_core.proofs.hub.texts.Goals as goal

pub loop-notice-preserved : goal.loop-notice-preserved
unfolding line_text
loop-notice-preserved c =
    let within : c.loop-notice.notice-index < length c.args.notices.now = omega arith in
    text_more c.args.notices.now c.loop-notice.notice-index c.notice-item.result c.loop-notice.texts.items _ within (search rules) (search rules) c.loop-notice.invariant

pub returns : goal.returns
returns c =
    c.loop-notice.invariant ∙ ap (λ ns. texts_of (map (λ n. Noticed n) ns)) (take_all c.loop-notice.notice-index c.args.notices.now (omega arith))
