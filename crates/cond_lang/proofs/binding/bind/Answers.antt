use Rattle.std.proofs.Common.{length, ◌∙◌}
use Rattle.std.proofs.lemmas.Result.{err_from_is_err_and}
use Rattle.cond_lang.specs.Shown.{cond_tree, cond_width}
use Rattle.cond_lang.specs.TextShown.{text_expr, text_offsets}
use Rattle.cond_lang.proofs.Ascii.{finds_named, named_texts}
use Rattle.cond_lang.proofs.Refill.{refuses_so, width_told, tree_told, end_told}
use Rattle.cond_lang.proofs.binding.bind.Goals as goal

pub refs_of-requires-clause-texts : goal.refs_of-requires-clause-texts
refs_of-requires-clause-texts g c =
    named_texts (length c.args.text.now.offsets.items) c.args.text.now.bytes c.deref.result.now (c.deref.ensures.value ∙ c.args.text.now.named)

pub returns-in_err-refs-clause-refused : goal.returns-in_err-refs-clause-refused
returns-in_err-refs-clause-refused g c = λ places finds.
    let p = err_from_is_err_and c.from_residual.result c.from_residual.ensures.1 in
    rw (p.1, p.2) (refuses_so places (text_expr c.args.text.now) (text_offsets c.args.text.now) c.deref.result.now c.in_err-refs.field-0.0 (c.deref.ensures.value ∙ c.args.text.now.named) (c.in_err-refs.ensures.found places (finds_named _ _ places (text_expr c.args.text.now) c.deref.result.now (c.deref.ensures.value ∙ c.args.text.now.named) finds)))

pub returns-clause-width : goal.returns-clause-width
returns-clause-width g c = λ places finds.
    width_told cond_tree cond_width places (text_expr c.args.text.now) (text_offsets c.args.text.now) c.in_ok-refs.refs.items c.args.text.now.form.value.parts.items
    (record { names = c.deref.result.now; are = c.deref.ensures.value ∙ c.args.text.now.named; found = c.in_ok-refs.ensures.found places (finds_named _ _ places (text_expr c.args.text.now) c.deref.result.now (c.deref.ensures.value ∙ c.args.text.now.named) finds); form = record { formed = c.args.text.now.formed; sized = c.args.text.now.sized } })
    c.cond_at.result c.cond_at.ensures

pub returns-clause-bound : goal.returns-clause-bound
returns-clause-bound g c = λ places finds.
    tree_told cond_tree cond_width places (text_expr c.args.text.now) (text_offsets c.args.text.now) c.in_ok-refs.refs.items c.args.text.now.form.value.parts.items
    (record { names = c.deref.result.now; are = c.deref.ensures.value ∙ c.args.text.now.named; found = c.in_ok-refs.ensures.found places (finds_named _ _ places (text_expr c.args.text.now) c.deref.result.now (c.deref.ensures.value ∙ c.args.text.now.named) finds); form = record { formed = c.args.text.now.formed; sized = c.args.text.now.sized } })
    c.cond_at.result c.cond_at.ensures

pub returns-clause-refused : goal.returns-clause-refused
returns-clause-refused g c = λ places finds.
    end_told cond_tree cond_width places (text_expr c.args.text.now) (text_offsets c.args.text.now) c.in_ok-refs.refs.items c.args.text.now.form.value.parts.items
    (record { names = c.deref.result.now; are = c.deref.ensures.value ∙ c.args.text.now.named; found = c.in_ok-refs.ensures.found places (finds_named _ _ places (text_expr c.args.text.now) c.deref.result.now (c.deref.ensures.value ∙ c.args.text.now.named) finds); form = record { formed = c.args.text.now.formed; sized = c.args.text.now.sized } })
    c.cond_at.result c.cond_at.ensures
