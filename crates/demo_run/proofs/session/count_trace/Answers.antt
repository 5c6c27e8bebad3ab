use Rattle.std.proofs.Common.{◌≡◌, length, map, option_map, ◌∙◌}
use Rattle.dbg_core.specs.State.{machine_of}
use Rattle.machine_core.specs.Machine.{opening}
use Rattle.demo_run.proofs.Called.{trace_told}
use Rattle.demo_run.proofs.session.count_trace.Goals as goal

pub returns : goal.returns
returns g c =
    let s = c.new-session in
    let table : s.result.table ≡ c.args.table = s.ensures.table in
    let samples : g.T.Trace.samples s.result.trace ≡ g.T.Trace.samples c.args.trace = s.ensures.samples in
    let opens : machine_of s.result (map (option_map (λ b. (goal.Listener-dyn g (b.vtable, b.value)).heard b.value)) c.in_ok-listeners.listeners.boxes.items) ≡ opening (map (λ b. (goal.Listener-dyn g (b.vtable, b.value)).heard b.value) c.args.listeners.items) =
    (λ i. machine_of s.result (c.in_ok-listeners.ensures i)) ∙ s.ensures.opening _ in
    let slots : c.from-slots.result ≡ length c.args.table.slots = c.from-slots.ensures ∙ c.slots.ensures in
    trace_told s.result.table c.args.table (g.T.Trace.samples s.result.trace) (g.T.Trace.samples c.args.trace) (map (λ b. (goal.Listener-dyn g (b.vtable, b.value)).heard b.value) c.args.listeners.items) _ c.args.requests.now table samples opens
    (record { instances = c.instances_of-instances.result; slots = c.from-slots.result; counts = c.in_ok-counts.counts }) c.instances_of-instances.ensures slots c.in_ok-counts.ensures
