use Rattle.std.proofs.Common.{refl, rules, w64}
use Rattle.std.proofs.lemmas.Int.{to_z-of_z}
use Rattle.bv_core.specs.declared.operators.Op1.TheVariants as op1
use Rattle.term_net.proofs.Arms.{read_of, known_within, leaf_is, value_is, unary_is, binary_is, mux_is, zext_is, slice_is, leaf_some, leaf_stands, value_bits, value_stands, one_fits, one_stands, zext_small, slice_small, two_fits, two_stands, mux_fits, mux_stands}
use mir.Val.{SFits}
use Rattle.term_net.proofs.node.node_of.Goals as goal

pub unwrap-node-requires : goal.unwrap-node-requires
unwrap-node-requires c =
    let it = read_of c.requires.fits c.requires.numbered c.requires.within c.requires.ready c.index-terms-id.is in
    leaf_some it _ _ (leaf_is it _ _ c.in-Leaf.is c.bytes.ensures) c.leaf.ensures

pub returns-in-Leaf-clause-stands : goal.returns-in-Leaf-clause-stands
returns-in-Leaf-clause-stands c =
    let it = read_of c.requires.fits c.requires.numbered c.requires.within c.requires.ready c.index-terms-id.is in
    leaf_stands it _ _ _ (leaf_is it _ _ c.in-Leaf.is c.bytes.ensures) c.leaf.ensures c.unwrap-node.ensures

pub constant-requires : goal.constant-requires
constant-requires c =
    let it = read_of c.requires.fits c.requires.numbered c.requires.within c.requires.ready c.index-terms-id.is in
    let fits : SFits w64 c.in-Value.width = search rules in
    value_bits it _ (value_is it c.in-Value.width _ c.in-Value.number _ c.in-Value.is (to_z-of_z w64 c.in-Value.width fits) refl)

pub returns-in_ok-node-in-Value-clause-stands : goal.returns-in_ok-node-in-Value-clause-stands
returns-in_ok-node-in-Value-clause-stands c =
    let it = read_of c.requires.fits c.requires.numbered c.requires.within c.requires.ready c.index-terms-id.is in
    let fits : SFits w64 c.in-Value.width = search rules in
    value_stands it _ _ _ (value_is it c.in-Value.width _ c.in-Value.number _ c.in-Value.is (to_z-of_z w64 c.in-Value.width fits) c.constant.ensures) c.in_ok-node-in-Value.ensures.stands

pub one-requires-clause-operand : goal.one-requires-clause-operand
one-requires-clause-operand c =
    known_within (read_of c.requires.fits c.requires.numbered c.requires.within c.requires.ready c.index-terms-id.is) _ _ c.unwrap-a.ensures

pub one-requires-clause-widths : goal.one-requires-clause-widths
one-requires-clause-widths c =
    let it = read_of c.requires.fits c.requires.numbered c.requires.within c.requires.ready c.index-terms-id.is in
    one_fits it _ _ _ (unary_is it _ _ _ c.in-Unary.is c.unary.ensures) c.unwrap-a.ensures

pub returns-in_ok-node-in-Unary-clause-stands : goal.returns-in_ok-node-in-Unary-clause-stands
returns-in_ok-node-in-Unary-clause-stands c =
    let it = read_of c.requires.fits c.requires.numbered c.requires.within c.requires.ready c.index-terms-id.is in
    one_stands it _ _ _ _ _ (unary_is it _ _ _ c.in-Unary.is c.unary.ensures) c.unwrap-a.ensures c.in_ok-node-in-Unary.ensures.stands

pub two-requires-clause-left : goal.two-requires-clause-left
two-requires-clause-left c =
    known_within (read_of c.requires.fits c.requires.numbered c.requires.within c.requires.ready c.index-terms-id.is) _ _ c.unwrap-a-in-Binary.ensures

pub two-requires-clause-right : goal.two-requires-clause-right
two-requires-clause-right c =
    known_within (read_of c.requires.fits c.requires.numbered c.requires.within c.requires.ready c.index-terms-id.is) _ _ c.unwrap-b.ensures

pub two-requires-clause-widths : goal.two-requires-clause-widths
two-requires-clause-widths c =
    let it = read_of c.requires.fits c.requires.numbered c.requires.within c.requires.ready c.index-terms-id.is in
    two_fits it _ _ _ _ _ (binary_is it _ _ _ _ c.in-Binary.is c.binary.ensures) c.unwrap-a-in-Binary.ensures c.unwrap-b.ensures

pub returns-in_ok-node-in-Binary-clause-stands : goal.returns-in_ok-node-in-Binary-clause-stands
returns-in_ok-node-in-Binary-clause-stands c =
    let it = read_of c.requires.fits c.requires.numbered c.requires.within c.requires.ready c.index-terms-id.is in
    two_stands it _ _ _ _ _ _ _ (binary_is it _ _ _ _ c.in-Binary.is c.binary.ensures) c.unwrap-a-in-Binary.ensures c.unwrap-b.ensures c.in_ok-node-in-Binary.ensures.stands

pub choice-requires-clause-condition : goal.choice-requires-clause-condition
choice-requires-clause-condition c =
    known_within (read_of c.requires.fits c.requires.numbered c.requires.within c.requires.ready c.index-terms-id.is) _ _ c.unwrap-c.ensures

pub choice-requires-clause-first : goal.choice-requires-clause-first
choice-requires-clause-first c =
    known_within (read_of c.requires.fits c.requires.numbered c.requires.within c.requires.ready c.index-terms-id.is) _ _ c.unwrap-a-in-Mux.ensures

pub choice-requires-clause-second : goal.choice-requires-clause-second
choice-requires-clause-second c =
    known_within (read_of c.requires.fits c.requires.numbered c.requires.within c.requires.ready c.index-terms-id.is) _ _ c.unwrap-b-in-Mux.ensures

pub choice-requires-clause-widths : goal.choice-requires-clause-widths
choice-requires-clause-widths c =
    let it = read_of c.requires.fits c.requires.numbered c.requires.within c.requires.ready c.index-terms-id.is in
    mux_fits it _ _ _ _ _ _ (mux_is it _ _ _ c.in-Mux.is) c.unwrap-c.ensures c.unwrap-a-in-Mux.ensures c.unwrap-b-in-Mux.ensures

pub returns-in_ok-node-in-Mux-clause-stands : goal.returns-in_ok-node-in-Mux-clause-stands
returns-in_ok-node-in-Mux-clause-stands c =
    let it = read_of c.requires.fits c.requires.numbered c.requires.within c.requires.ready c.index-terms-id.is in
    mux_stands it _ _ _ _ _ _ _ _ (mux_is it _ _ _ c.in-Mux.is) c.unwrap-c.ensures c.unwrap-a-in-Mux.ensures c.unwrap-b-in-Mux.ensures c.in_ok-node-in-Mux.ensures.stands

pub bits-requires : goal.bits-requires
bits-requires c =
    let it = read_of c.requires.fits c.requires.numbered c.requires.within c.requires.ready c.index-terms-id.is in
    let fits : SFits w64 c.in-Zext.width = search rules in
    zext_small it _ _ (zext_is it c.in-Zext.a c.in-Zext.width _ _ c.in-Zext.is (to_z-of_z w64 c.in-Zext.width fits) refl)

pub one-requires-in-Zext-clause-operand : goal.one-requires-in-Zext-clause-operand
one-requires-in-Zext-clause-operand c =
    known_within (read_of c.requires.fits c.requires.numbered c.requires.within c.requires.ready c.index-terms-id.is) _ _ c.unwrap-a-in-Zext.ensures

pub one-requires-in-Zext-clause-widths : goal.one-requires-in-Zext-clause-widths
one-requires-in-Zext-clause-widths c =
    let it = read_of c.requires.fits c.requires.numbered c.requires.within c.requires.ready c.index-terms-id.is in
    let fits : SFits w64 c.in-Zext.width = search rules in
    one_fits it (op1.Zext c.bits.result) _ _ (zext_is it _ _ _ _ c.in-Zext.is (to_z-of_z w64 c.in-Zext.width fits) c.bits.ensures) c.unwrap-a-in-Zext.ensures

pub returns-in_ok-node-in-Zext-clause-stands : goal.returns-in_ok-node-in-Zext-clause-stands
returns-in_ok-node-in-Zext-clause-stands c =
    let it = read_of c.requires.fits c.requires.numbered c.requires.within c.requires.ready c.index-terms-id.is in
    let fits : SFits w64 c.in-Zext.width = search rules in
    one_stands it _ _ (op1.Zext c.bits.result) _ _ (zext_is it _ _ _ _ c.in-Zext.is (to_z-of_z w64 c.in-Zext.width fits) c.bits.ensures) c.unwrap-a-in-Zext.ensures c.in_ok-node-in-Zext.ensures.stands

pub bits-requires-in-Slice : goal.bits-requires-in-Slice
bits-requires-in-Slice c =
    let it = read_of c.requires.fits c.requires.numbered c.requires.within c.requires.ready c.index-terms-id.is in
    let high : SFits w64 c.in-Slice.high = search rules in
    (slice_small it _ _ _ _ (slice_is it _ _ _ _ c.in-Slice.low _ _ c.in-Slice.is (to_z-of_z w64 c.in-Slice.high high) refl refl refl) c.unwrap-a-in-Slice.ensures).0

pub bits-requires-in-Slice-2 : goal.bits-requires-in-Slice-2
bits-requires-in-Slice-2 c =
    let it = read_of c.requires.fits c.requires.numbered c.requires.within c.requires.ready c.index-terms-id.is in
    let low : SFits w64 c.in-Slice.low = search rules in
    (slice_small it _ _ _ _ (slice_is it _ _ _ c.in-Slice.high _ _ _ c.in-Slice.is refl (to_z-of_z w64 c.in-Slice.low low) refl refl) c.unwrap-a-in-Slice.ensures).1

pub one-requires-in-Slice-clause-operand : goal.one-requires-in-Slice-clause-operand
one-requires-in-Slice-clause-operand c =
    known_within (read_of c.requires.fits c.requires.numbered c.requires.within c.requires.ready c.index-terms-id.is) _ _ c.unwrap-a-in-Slice.ensures

pub one-requires-in-Slice-clause-widths : goal.one-requires-in-Slice-clause-widths
one-requires-in-Slice-clause-widths c =
    let it = read_of c.requires.fits c.requires.numbered c.requires.within c.requires.ready c.index-terms-id.is in
    let high : SFits w64 c.in-Slice.high = search rules in
    let low : SFits w64 c.in-Slice.low = search rules in
    one_fits it (op1.Slice c.bits-in-Slice.result c.bits-in-Slice-2.result) _ _
    (slice_is it _ _ _ _ _ _ _ c.in-Slice.is (to_z-of_z w64 c.in-Slice.high high) (to_z-of_z w64 c.in-Slice.low low) c.bits-in-Slice.ensures c.bits-in-Slice-2.ensures) c.unwrap-a-in-Slice.ensures

pub returns-in_ok-node-in-Slice-clause-stands : goal.returns-in_ok-node-in-Slice-clause-stands
returns-in_ok-node-in-Slice-clause-stands c =
    let it = read_of c.requires.fits c.requires.numbered c.requires.within c.requires.ready c.index-terms-id.is in
    let high : SFits w64 c.in-Slice.high = search rules in
    let low : SFits w64 c.in-Slice.low = search rules in
    one_stands it _ _ (op1.Slice c.bits-in-Slice.result c.bits-in-Slice-2.result) _ _
    (slice_is it _ _ _ _ _ _ _ c.in-Slice.is (to_z-of_z w64 c.in-Slice.high high) (to_z-of_z w64 c.in-Slice.low low) c.bits-in-Slice.ensures c.bits-in-Slice-2.ensures) c.unwrap-a-in-Slice.ensures c.in_ok-node-in-Slice.ensures.stands
