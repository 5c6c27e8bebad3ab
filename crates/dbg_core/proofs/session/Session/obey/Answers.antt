use Rattle.std.proofs.Common.{◌≡◌, map, option_map, sym, ap, ◌∙◌}
use Rattle.std.proofs.lemmas.Result.{IfOk-weaker}
use Rattle.machine_core.specs.Machine.{obey, answer_by}
use Rattle.dbg_core.specs.World.{world_of}
use Rattle.dbg_core.specs.State.{machine_of, counted_as}
use Rattle.dbg_core.specs.Alone.{dropped_by, without}
use Rattle.dbg_core.specs.Answering.{answered}
use Rattle.dbg_core.proofs.session.Session.obey.Goals as goal

pub returns-in-Delete-clause-answer : goal.returns-in-Delete-clause-answer
returns-in-Delete-clause-answer g c = λ read ordinal id reader.
    let heard = map (option_map (λ b. (goal.Listener-dyn g (b.vtable, b.value)).heard b.value)) c.args.listeners.now.boxes.items in
    let m = counted_as c.args.self.now ordinal heard in
    ap (λ cmd. answered (counted_as c.delete.new.self ordinal (without (dropped_by cmd) heard)) id c.delete.result) c.in-Delete.is
    ∙ c.delete.ensures.answer ordinal heard id
    ∙ ap (λ cmd. answer_by m id (obey read (world_of c.args.self.now.table (g.T.Trace.samples c.args.self.now.trace)) m cmd)) (sym c.in-Delete.is)

pub returns-in-Unwatch-clause-answer : goal.returns-in-Unwatch-clause-answer
returns-in-Unwatch-clause-answer g c = λ read ordinal id reader.
    let heard = map (option_map (λ b. (goal.Listener-dyn g (b.vtable, b.value)).heard b.value)) c.args.listeners.now.boxes.items in
    let m = counted_as c.args.self.now ordinal heard in
    ap (λ cmd. answered (counted_as c.unwatch.new.self ordinal (without (dropped_by cmd) heard)) id c.unwatch.result) c.in-Unwatch.is
    ∙ c.unwatch.ensures.answer ordinal heard id
    ∙ ap (λ cmd. answer_by m id (obey read (world_of c.args.self.now.table (g.T.Trace.samples c.args.self.now.trace)) m cmd)) (sym c.in-Unwatch.is)

pub returns-in-Continue-clause-answer : goal.returns-in-Continue-clause-answer
returns-in-Continue-clause-answer g c = λ read ordinal id reader.
    let heard = map (option_map (λ b. (goal.Listener-dyn g (b.vtable, b.value)).heard b.value)) c.args.listeners.now.boxes.items in
    let m = counted_as c.args.self.now ordinal heard in
    ap (λ cmd. answered (counted_as c.run_on.new.self ordinal (without (dropped_by cmd) heard)) id c.run_on.result) c.in-Continue.is
    ∙ c.run_on.ensures.answer ordinal heard id
    ∙ ap (λ cmd. answer_by m id (obey read (world_of c.args.self.now.table (g.T.Trace.samples c.args.self.now.trace)) m cmd)) (sym c.in-Continue.is)

pub returns-in-Reverse-clause-answer : goal.returns-in-Reverse-clause-answer
returns-in-Reverse-clause-answer g c = λ read ordinal id reader.
    let heard = map (option_map (λ b. (goal.Listener-dyn g (b.vtable, b.value)).heard b.value)) c.args.listeners.now.boxes.items in
    let m = counted_as c.args.self.now ordinal heard in
    ap (λ cmd. answered (counted_as c.run_on-in-Reverse.new.self ordinal (without (dropped_by cmd) heard)) id c.run_on-in-Reverse.result) c.in-Reverse.is
    ∙ c.run_on-in-Reverse.ensures.answer ordinal heard id
    ∙ ap (λ cmd. answer_by m id (obey read (world_of c.args.self.now.table (g.T.Trace.samples c.args.self.now.trace)) m cmd)) (sym c.in-Reverse.is)

pub returns-in-Step-clause-answer : goal.returns-in-Step-clause-answer
returns-in-Step-clause-answer g c =
    let heard = map (option_map (λ b. (goal.Listener-dyn g (b.vtable, b.value)).heard b.value)) c.args.listeners.now.boxes.items in
    IfOk-weaker c.step_on.result _ _
    (λ body h. λ read ordinal id reader.
    let m = counted_as c.args.self.now ordinal heard in
    ap (λ cmd. answered (counted_as c.step_on.new.self ordinal (without (dropped_by cmd) heard)) id body) c.in-Step.is
    ∙ h ordinal heard id ∙ ap (λ cmd. answer_by m id (obey read (world_of c.args.self.now.table (g.T.Trace.samples c.args.self.now.trace)) m cmd)) (sym c.in-Step.is))
    c.step_on.ensures.answer

pub returns-in-Back-clause-answer : goal.returns-in-Back-clause-answer
returns-in-Back-clause-answer g c =
    let heard = map (option_map (λ b. (goal.Listener-dyn g (b.vtable, b.value)).heard b.value)) c.args.listeners.now.boxes.items in
    IfOk-weaker c.step_on-in-Back.result _ _
    (λ body h. λ read ordinal id reader.
    let m = counted_as c.args.self.now ordinal heard in
    ap (λ cmd. answered (counted_as c.step_on-in-Back.new.self ordinal (without (dropped_by cmd) heard)) id body) c.in-Back.is
    ∙ h ordinal heard id ∙ ap (λ cmd. answer_by m id (obey read (world_of c.args.self.now.table (g.T.Trace.samples c.args.self.now.trace)) m cmd)) (sym c.in-Back.is))
    c.step_on-in-Back.ensures.answer

pub returns-in-Pause-clause-answer : goal.returns-in-Pause-clause-answer
returns-in-Pause-clause-answer g c = λ read ordinal id reader.
    let heard = map (option_map (λ b. (goal.Listener-dyn g (b.vtable, b.value)).heard b.value)) c.args.listeners.now.boxes.items in
    let m = counted_as c.args.self.now ordinal heard in
    ap (λ cmd. answered (counted_as c.pause.new.self ordinal (without (dropped_by cmd) heard)) id c.pause.result) c.in-Pause.is
    ∙ c.pause.ensures.answer read ordinal heard id
    ∙ ap (λ cmd. answer_by m id (obey read (world_of c.args.self.now.table (g.T.Trace.samples c.args.self.now.trace)) m cmd)) (sym c.in-Pause.is)

pub returns-in-Threads-clause-answer : goal.returns-in-Threads-clause-answer
returns-in-Threads-clause-answer g c =
    let heard = map (option_map (λ b. (goal.Listener-dyn g (b.vtable, b.value)).heard b.value)) c.args.listeners.now.boxes.items in
    IfOk-weaker c.tell_threads.result _ _
    (λ body h. λ read ordinal id reader.
    let m = counted_as c.args.self.now ordinal heard in
    ap (λ cmd. answered (counted_as c.tell_threads.new.self ordinal (without (dropped_by cmd) heard)) id body) c.in-Threads.is
    ∙ h read ordinal heard id ∙ ap (λ cmd. answer_by m id (obey read (world_of c.args.self.now.table (g.T.Trace.samples c.args.self.now.trace)) m cmd)) (sym c.in-Threads.is))
    c.tell_threads.ensures.answer

pub returns-in-Values-clause-answer : goal.returns-in-Values-clause-answer
returns-in-Values-clause-answer g c =
    let heard = map (option_map (λ b. (goal.Listener-dyn g (b.vtable, b.value)).heard b.value)) c.args.listeners.now.boxes.items in
    IfOk-weaker c.tell_values.result _ _
    (λ body h. λ read ordinal id reader.
    let m = counted_as c.args.self.now ordinal heard in
    ap (λ cmd. answered (counted_as c.tell_values.new.self ordinal (without (dropped_by cmd) heard)) id body) c.in-Values.is
    ∙ h read ordinal heard id ∙ ap (λ cmd. answer_by m id (obey read (world_of c.args.self.now.table (g.T.Trace.samples c.args.self.now.trace)) m cmd)) (sym c.in-Values.is))
    c.tell_values.ensures.answer

pub returns-in-Status-clause-answer : goal.returns-in-Status-clause-answer
returns-in-Status-clause-answer g c =
    let heard = map (option_map (λ b. (goal.Listener-dyn g (b.vtable, b.value)).heard b.value)) c.args.listeners.now.boxes.items in
    IfOk-weaker c.status.result _ _
    (λ body h. λ read ordinal id reader.
    let m = counted_as c.args.self.now ordinal heard in
    ap (λ cmd. answered (counted_as c.args.self.now ordinal (without (dropped_by cmd) heard)) id body) c.in-Status.is
    ∙ h read ordinal id ∙ ap (λ cmd. answer_by m id (obey read (world_of c.args.self.now.table (g.T.Trace.samples c.args.self.now.trace)) m cmd)) (sym c.in-Status.is))
    c.status.ensures
