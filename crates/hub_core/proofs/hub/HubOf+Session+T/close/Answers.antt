use Rattle.std.proofs.Common.{◌∙◌, ap, map}
use Rattle.std.proofs.lemmas.Result.{IfOk-weaker}
use Rattle.machine_core.specs.Journal.{Noticed}
use Rattle.req_json.specs.Texts.{texts_of}
use Rattle.hub_core.proofs.hub.HubOf+Session+T.close.Goals as goal

pub returns : goal.returns
returns g c = IfOk-weaker c.texts.result _ _ (λ lines e. e ∙ ap (λ ns. texts_of (map (λ n. Noticed n) ns)) c.deref.ensures.value ∙ ap texts_of c.in_ok-notices.ensures) c.texts.ensures
