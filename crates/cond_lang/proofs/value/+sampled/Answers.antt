use Rattle.cond_lang.specs.Places.{trees_at}
use Rattle.cond_lang.proofs.Evaluated.{one_told, two_told, mux_told}
use Rattle.cond_lang.proofs.value.+sampled.Goals as goal

pub returns-in-One-clause-value : goal.returns-in-One-clause-value
returns-in-One-clause-value g t c =
    one_told _ _ c.args.refs.now c.args.parts.now _ c.in-One.op c.sampled-a.result.0 c.on_one.result c.in-len1-up.len_at_least c.in-One.is c.requires c.sampled-a.ensures.value c.on_one.ensures

pub returns-in-Two-clause-value : goal.returns-in-Two-clause-value
returns-in-Two-clause-value g t c =
    two_told _ _ c.args.refs.now c.args.parts.now _ c.in-Two.op (trees_at c.args.refs.now c.sampled-b.result.1.now) c.sampled-a-in-Two.result.0 c.sampled-b.result.0 c.on_two.result
    c.in-len1-up.len_at_least c.in-Two.is c.requires c.sampled-b.ensures.value c.sampled-b.ensures.rest c.sampled-a-in-Two.ensures.value c.on_two.ensures

pub returns-in-Mux-clause-value : goal.returns-in-Mux-clause-value
returns-in-Mux-clause-value g t c =
    mux_told _ _ c.args.refs.now c.args.parts.now _
    (trees_at c.args.refs.now c.sampled-b-in-Mux.result.1.now) (trees_at c.args.refs.now c.sampled-a-in-Mux.result.1.now)
    c.sampled-test.result.0 c.sampled-a-in-Mux.result.0 c.sampled-b-in-Mux.result.0 c.on_three.result
    c.in-len1-up.len_at_least c.in-Mux.is c.requires c.sampled-b-in-Mux.ensures.value c.sampled-b-in-Mux.ensures.rest c.sampled-a-in-Mux.ensures.value c.sampled-a-in-Mux.ensures.rest c.sampled-test.ensures.value c.on_three.ensures
