use Rattle.std.proofs.Common.{List, reverse, sym, ap, ◌∙◌}
use Rattle.gen_text.proofs.Piles.{no_pieces}
use Rattle.cond_lang.specs.declared.form.Part.{Part}
use Rattle.cond_lang.specs.Form.{all_names, seats, seats_of}
use Rattle.cond_lang.proofs.Forms.{one_part, one_name}
use Rattle.cond_lang.proofs.spelled.parts_of.Goals as goal

pub loop-piece-init : goal.loop-piece-init
loop-piece-init c = record {
  parts = ap (λ (parts : List Part). seats (reverse parts)) c.in_ok-parts.ensures.items ∙ ap seats_of (sym no_pieces);
  known = c.requires.none ∙ ap all_names (sym no_pieces);
  same = c.requires.same;
}

pub loop-piece-preserved : goal.loop-piece-preserved
loop-piece-preserved c = record {
  parts = one_part c.loop-piece.parts.items c.push.new.self.items c.args.pieces.now c.loop-piece.piece-index c.piece-item.result c.in_ok-part.part c.loop-piece.names.known
      c.loop-piece-test.true c.piece-item.is c.in_ok-push.ensures.items c.in_ok-part.ensures.part c.loop-piece.invariant.known c.loop-piece.invariant.parts;
  known = one_name c.args.pieces.now c.loop-piece.piece-index c.piece-item.result c.loop-piece.names.known c.part_of.new.names.known
      c.loop-piece-test.true c.piece-item.is c.in_ok-part.ensures.known c.loop-piece.invariant.known;
  same = c.in_ok-part.ensures.same;
}
