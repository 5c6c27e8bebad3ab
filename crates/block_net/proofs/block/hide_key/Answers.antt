use Rattle.names.specs.Maps.{value_of}
use Rattle.name_widths.specs.DeclaredWidths.{width_at}
use Rattle.std.proofs.Common.{◌∙◌, ap, rules, sym, SFits, w64}
use Rattle.std.proofs.lemmas.Int.{to_z-of_z}
use Rattle.design_core.specs.Widths.{bits}
use Rattle.exec_core.specs.Block.{key_name}
use Rattle.block_net.specs.Logs.{key_of}
use Rattle.exec_core.specs.Exec.{shown}
use Rattle.block_net.proofs.WalkSteps.{grown_shows, put_shows, shown_within_as}
use Rattle.block_net.proofs.BlockSteps.{hide_now, hide_other}
use Rattle.block_net.proofs.block.hide_key.Goals as goal

pub put-requires-clause-shown : goal.put-requires-clause-shown
put-requires-clause-shown c = shown_within_as _ ((width_at (value_of c.args.widths.now)) (key_name (key_of c.args.key.now))) (record { id = c.in_ok-id-in-Now.id; bits = c.none-bits.result }) _ c.shown-shown.ensures c.in_ok-id-in-Now.ensures.stands.within

pub returns-in_ok-put-in-Now-clause-shows : goal.returns-in_ok-put-in-Now-clause-shows
returns-in_ok-put-in-Now-clause-shows c =
    put_shows (width_at (value_of c.args.widths.now)) c.constant.new.self c.put.new.self c.args.key.now (record { id = c.in_ok-id-in-Now.id; bits = c.none-bits.result }) _ (grown_shows (width_at (value_of c.args.widths.now)) _ _ c.in_ok-id-in-Now.ensures.grown c.requires.shows) c.shown-shown.ensures c.in_ok-put-in-Now.ensures.env ∙ ap (shown (width_at (value_of c.args.widths.now))) (sym c.in_ok-put-in-Now.ensures.state)

pub returns-in_ok-put-in-Now-clause-state : goal.returns-in_ok-put-in-Now-clause-state
returns-in_ok-put-in-Now-clause-state c =
    let fits : SFits w64 c.width_of.result = search rules in
    hide_now (width_at (value_of c.args.widths.now)) c.args.walk.now c.constant.new.self c.put.new.self c.args.key.now _ _ c.width_of.result _ _ _ c.in-Now.is c.bytes.ensures (c.width_of.ensures) c.none-bits.ensures c.in_ok-id-in-Now.ensures.grown (ap bits (to_z-of_z w64 c.width_of.result fits)) c.in_ok-id-in-Now.ensures.stands c.in_ok-put-in-Now.ensures.state

pub returns-in-Next-clause-state : goal.returns-in-Next-clause-state
returns-in-Next-clause-state c = hide_other (width_at (value_of c.args.widths.now)) c.args.key.now _ _ c.in-Next.is
