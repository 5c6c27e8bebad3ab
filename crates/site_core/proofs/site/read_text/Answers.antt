use Rattle.std.proofs.Common.{ap, ◌∙◌, subst, option_map}
use Rattle.cond_lang.specs.Faults.{IsCause}
use Rattle.site_core.specs.Sites.{reading_made, as_read}
use Rattle.site_core.proofs.Readings.{read_once, read_never}
use Rattle.site_core.proofs.site.read_text.Goals as goal

pub returns-in-Ok : goal.returns-in-Ok
returns-in-Ok c = λ read reader.
    ap (λ o. as_read read (option_map (λ t. t.now) o)) c.in-Some.is ∙ ap reading_made (read_once read reader c.in-Some.text.now _ _ c.in-Ok.ensures.found)

pub returns-in-Err-At : goal.returns-in-Err-At
returns-in-Err-At c = λ read reader.
    ap (λ o. as_read read (option_map (λ t. t.now) o)) c.in-Some.is ∙ ap reading_made (read_never read reader c.in-Some.text.now _ (subst (IsCause c.in-Some.text.now) c.in-Err-At.field-0-is c.in-Err-At.ensures.refused))
