use Rattle.std.proofs.Common.{◌≡◌, map, take}
use Rattle.machine_core.specs.Journal.{Noticed}
use Rattle.req_json.specs.Texts.{texts_of}
use Rattle.hub_core.proofs.hub.texts.Given as goal

abbrev pub invariant-loop-notice : goal.invariant-loop-notice
invariant-loop-notice l = l.texts.items ≡ texts_of (map (λ n. Noticed n) (take l.notice-index l.notices))
