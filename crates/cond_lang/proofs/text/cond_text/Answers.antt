use Rattle.std.proofs.Common.{◌≡◌, [], ◌∷◌, length, sym, ap, ◌∙◌}
use Rattle.gen_tree.specs.Tree.{Expr}
use Rattle.gen_text.specs.Pieces.{top, exprs_of}
use Rattle.cond_lang.specs.Form.{all_names, names_in, seated, seats_of}
use Rattle.cond_lang.specs.Meaning.{tree_of}
use Rattle.cond_lang.specs.Places.{size}
use Rattle.cond_lang.specs.Reader.{read_as}
use Rattle.cond_lang.proofs.FirstPlace.{reads_as, reads_long}
use Rattle.cond_lang.proofs.text.cond_text.Goals as goal

pub invariant_of-result : goal.invariant_of-result
invariant_of-result c =
    let e = top (exprs_of c.args.pieces.now) in
    let is : read_as (length c.args.offsets.items) c.in_ok-bytes.bytes ≡ e =
    ap (read_as (length c.args.offsets.items)) c.in_ok-bytes.ensures ∙ reads_as c.args.text.now e c.args.offsets.items c.requires.reads in
    record {
      named = c.in_ok-form.ensures.names ∙ ap all_names c.requires.one ∙ ap (λ (e : Expr). names_in [] (tree_of e)) (sym is);
      formed = c.in_ok-form.ensures.form ∙ ap seats_of c.requires.one ∙ ap (λ (e : Expr). seated [] e ∷ []) (sym is);
      sized = reads_long c.args.text.now e c.args.offsets.items c.requires.reads ∙ ap (λ (e : Expr). size (seated [] e)) (sym is);
    }
