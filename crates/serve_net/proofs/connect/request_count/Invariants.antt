use Rattle.std.proofs.Common.{◌≡◌, ◌+◌, ◌≤◌, drop, length}
use Rattle.duo_run.specs.Journals.{requests_of}
use Rattle.serve_net.proofs.connect.request_count.Given as goal

-- those so far, and those of what is left
abbrev pub invariant-loop-event : goal.invariant-loop-event
invariant-loop-event l = (l.count + length (requests_of (drop l.event-index l.events)) ≡ length (requests_of l.events)) × (l.count ≤ l.event-index)
