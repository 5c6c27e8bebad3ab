-- Samples of a net under a stimulus.
use Rattle.std.proofs.Common.{◌≡◌, refl, sym, ap, ◌∙◌, arith, ◌≤◌, length}
use Rattle.bv_core.specs.Value.{Bits}
use Rattle.net_core.specs.Nodes.{trees_from}
use Rattle.sim_core.specs.Given.{node_value}
use Rattle.sim_core.proofs.Origins.{nodes_have_widths}
use Rattle.sim_hist.specs.Run.{inputs_in, registers_in}
use Rattle.sim_hist.specs.Laws.{SamplesHaveWidths}
use Rattle.sim_hist.specs.Sample.{Traces}
use Rattle.sim_hist.proofs.Running.{input_widths, register_widths}

pub have_widths : SamplesHaveWidths
have_widths net is_net s kept t n inside below = λ value e.
    let same : node_value net.nodes (inputs_in net s t) (registers_in net s t) n ≡ value = cc in
    ap (λ (b : Bits). b.width) (sym same)
    ∙ nodes_have_widths net is_net (inputs_in net s t) (registers_in net s t) (input_widths net s t kept inside)
    (register_widths net s t is_net kept (let l : t ≤ length s.rows = omega arith in l)) n below

pub traces : Traces
unfolding registers_in trees_from
traces = record { cycle_count = refl; node_count = refl; start = refl; counts = refl; stays = refl; input = refl; next = refl }
