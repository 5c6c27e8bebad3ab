use Rattle.std.proofs.Common.{refl, sym, subst, inl, inr}
use Rattle.term_net.specs.Pending.{IsOperand}
use Rattle.term_net.proofs.Arms.{only_operand, operand_within}
use Rattle.term_net.proofs.pending.missing.Goals as goal

pub unknown-requires : goal.unknown-requires
unknown-requires c =
    operand_within c.args.terms.now c.requires.numbered c.args.memo.now c.args.id.0 c.index-terms-id.result c.requires.each c.requires.within c.index-terms-id.is _
    (subst (IsOperand c.in-Binary.a.0) (sym c.in-Binary.is) (inl refl))

pub unknown-requires-in-Binary : goal.unknown-requires-in-Binary
unknown-requires-in-Binary c =
    operand_within c.args.terms.now c.requires.numbered c.args.memo.now c.args.id.0 c.index-terms-id.result c.requires.each c.requires.within c.index-terms-id.is _
    (subst (IsOperand c.in-Binary.b.0) (sym c.in-Binary.is) (inr refl))

pub unknown-requires-in-Mux : goal.unknown-requires-in-Mux
unknown-requires-in-Mux c =
    operand_within c.args.terms.now c.requires.numbered c.args.memo.now c.args.id.0 c.index-terms-id.result c.requires.each c.requires.within c.index-terms-id.is _
    (subst (IsOperand c.in-Mux.c.0) (sym c.in-Mux.is) (inl refl))

pub unknown-requires-in-Mux-2 : goal.unknown-requires-in-Mux-2
unknown-requires-in-Mux-2 c =
    operand_within c.args.terms.now c.requires.numbered c.args.memo.now c.args.id.0 c.index-terms-id.result c.requires.each c.requires.within c.index-terms-id.is _
    (subst (IsOperand c.in-Mux.a.0) (sym c.in-Mux.is) (inr (inl refl)))

pub unknown-requires-in-Mux-3 : goal.unknown-requires-in-Mux-3
unknown-requires-in-Mux-3 c =
    operand_within c.args.terms.now c.requires.numbered c.args.memo.now c.args.id.0 c.index-terms-id.result c.requires.each c.requires.within c.index-terms-id.is _
    (subst (IsOperand c.in-Mux.b.0) (sym c.in-Mux.is) (inr (inr refl)))

pub unknown-requires-in-Unary : goal.unknown-requires-in-Unary
unknown-requires-in-Unary c =
    operand_within c.args.terms.now c.requires.numbered c.args.memo.now c.args.id.0 c.index-terms-id.result c.requires.each c.requires.within c.index-terms-id.is _
    (only_operand c.index-terms-id.result c.in-Unary.a c.in-Unary.is)
