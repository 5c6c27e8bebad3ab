use Rattle.std.proofs.Common.{rules, sym, subst}
use Rattle.httparse.specs.declared.Error.{Error}
use Rattle.httparse.specs.Spans.{IsSectionWithin, IsSectionOf}
use Rattle.dap_link.specs.Heads.{IsFront}
use Rattle.dap_link.proofs.Heads.{complete, complete_told}
use Rattle.dap_link.proofs.head.front_seen.Goals as goal

pub returns-in-Ok-Complete : goal.returns-in-Ok-Complete
returns-in-Ok-Complete c = λ text s.
    let seen = c.args.seen.now in
    let headers = c.parse_headers.new.headers in
    let within = complete_told Error _ _ _ (λ r. IsSectionWithin seen headers r.0 r.1) c.in-Ok-Complete.field-0-is c.in-Ok-Complete.ensures.within in
    let section = complete_told Error _ _ _ (IsSectionOf seen 0 headers) c.in-Ok-Complete.field-0-is c.in-Ok-Complete.ensures.complete in
    subst (IsFront text) (sym c.body_of.ensures) (complete seen text c.in-Ok-Complete.at c.in-Ok-Complete.count headers within (search rules) section s)
