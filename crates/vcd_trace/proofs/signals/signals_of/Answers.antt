use Rattle.std.proofs.Common.{◌≡◌, Bool, List, subst, rules}
use Rattle.symtab.specs.declared.parts.NodeName.{NodeName}
use Rattle.names.specs.Maps.{value_of}
use Rattle.vcd_trace.specs.Bound.{signals_fault}
use Rattle.vcd_trace.specs.Refused.{refusal, Tells}
use Rattle.vcd_trace.proofs.Binding.{nodes_told, none_refused, bound}
use Rattle.vcd_trace.proofs.signals.signals_of.Goals as goal

pub returns-in_err-signals-clause-judged : goal.returns-in_err-signals-clause-judged
returns-in_err-signals-clause-judged c =
    let fault = c.in_err-signals.field-0.0 in
    let finds = value_of c.in_ok-map.map in
    let marks : c.deref.result.now ≡ c.in_ok-marks.marks.items = search rules in
    let nodes : c.items.result.now ≡ c.args.table.now.nodes = search rules in
    let named : Tells (signals_fault finds c.in_ok-marks.marks.items 0 c.args.table.now.nodes) fault =
    subst (λ (ns : List NodeName). Tells (signals_fault finds c.in_ok-marks.marks.items 0 ns) fault) nodes
    (subst (λ (bs : List Bool). Tells (signals_fault finds bs 0 c.items.result.now) fault) marks c.in_err-signals.ensures.judged) in
    let told : Tells (refusal c.args.vcd.now c.args.table.now c.args.scope.now) fault =
    nodes_told c.args.vcd.now c.args.table.now c.args.scope.now finds c.in_ok-marks.marks.items c.in_ok-map.ensures c.in_ok-marks.ensures.marks fault (search rules) c.in_ok-clock.ensures.judged named in
    search rules

pub returns-clause-bound : goal.returns-clause-bound
returns-clause-bound c =
    bound c.args.vcd.now c.args.table.now c.args.scope.now (value_of c.in_ok-map.map) c.in_ok-marks.marks.items c.in_ok-map.ensures c.in_ok-marks.ensures.marks c.in_ok-clock.clock
    c.in_ok-signals.signals.items (search rules) c.in_ok-clock.ensures.found c.in_ok-clock.ensures.judged (search rules) (search rules)

pub returns-clause-judged : goal.returns-clause-judged
returns-clause-judged c =
    none_refused c.args.vcd.now c.args.table.now c.args.scope.now (value_of c.in_ok-map.map) c.in_ok-marks.marks.items c.in_ok-map.ensures c.in_ok-marks.ensures.marks (search rules)
    c.in_ok-clock.ensures.judged (search rules)
