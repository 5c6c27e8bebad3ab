use Rattle.std.proofs.Common.{◌≡◌, ◌<◌, ◌++◌, ◌∙◌, [], length, get_or, take, refl, ap, subst, arith}
use Rattle.std.specs.List.{enumerate_from, flat_map}
use Rattle.std.proofs.lemmas.Option.{slice_get_read}
use Rattle.lower_core.specs.Rows.{AreTold}
use Rattle.term_net.proofs.Overs.{grown_twice}
use Rattle.list_core.proofs.Growing.{plain_more}
use Rattle.ssa_nodes.specs.Parts.{design_in}
use Rattle.row_net.specs.Spots.{instance_spots}
use Rattle.row_net.proofs.Puts.{keys_from, number_next}
use Rattle.row_net.proofs.rows.rows_by_instance.Goals as goal

pub put_instance-requires-clause-keys : goal.put_instance-requires-clause-keys
put_instance-requires-clause-keys c =
    let p = c.args.parts.now in
    let d = design_in p in
    let r = c.instance-item.result in
    let within : c.loop-number.number < length d.instances = omega (arith, ap length c.items-instance-items.ensures, c.loop-number-test.true) in
    let at : r ≡ get_or d.instances c.loop-number.number r = c.instance-item.is ∙ ap (λ l. get_or l c.loop-number.number r) c.items-instance-items.ensures in
    keys_from d p.keys.items c.requires.parts.parts.keys_are c.loop-number.first c.loop-number.number r c.loop-number.invariant.first within at

pub put_instance-requires-clause-instance : goal.put_instance-requires-clause-instance
put_instance-requires-clause-instance c =
    let p = c.args.parts.now in
    let d = design_in p in
    let r = c.instance-item.result in
    let within : c.loop-number.number < length d.instances = omega (arith, ap length c.items-instance-items.ensures, c.loop-number-test.true) in
    let at : r ≡ get_or d.instances c.loop-number.number r = c.instance-item.is ∙ ap (λ l. get_or l c.loop-number.number r) c.items-instance-items.ensures in
    slice_get_read d.instances (length d.instances) c.loop-number.number r refl within at

pub loop-number-preserved : goal.loop-number-preserved
loop-number-preserved c =
    let p = c.args.parts.now in
    let d = design_in p in
    let i = c.loop-number.number in
    let r = c.instance-item.result in
    let within : i < length d.instances = omega (arith, ap length c.items-instance-items.ensures, c.loop-number-test.true) in
    let at : r ≡ get_or d.instances i r = c.instance-item.is ∙ ap (λ l. get_or l i r) c.items-instance-items.ensures in
    let before = flat_map (instance_spots d) (enumerate_from 0 (take i d.instances)) in
    record {
      state = c.in_ok-first.ensures.state;
      grown = grown_twice c.args.builder.now c.loop-number.builder c.put_instance.new.builder c.loop-number.invariant.grown c.in_ok-first.ensures.grown;
      first = number_next d p.keys.items c.requires.parts.parts.keys_are c.loop-number.first c.in_ok-first.first i r c.loop-number.invariant.first within at c.in_ok-first.ensures.next;
      told =
          subst (λ spots. AreTold d (length p.order.now) c.put_instance.new.builder spots c.put_instance.new.rows.items)
          (plain_more (instance_spots d) [] before (before ++ instance_spots d (i, r)) d.instances i r within at refl refl)
          (c.in_ok-first.ensures.put before c.loop-number.invariant.told);
    }
