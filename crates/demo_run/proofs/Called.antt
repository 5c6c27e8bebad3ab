-- What a session over a compiled design's table and its run counts.
use Rattle.std.proofs.Common.{◌≡◌, ◌≤◌, ◌+◌, ℕ, List, length, ap, sym, ◌∙◌, subst}
use Rattle.std.proofs.lemmas.List.{length-map}
use Rattle.listen.specs.Pairs.{Heard}
use Rattle.design_core.specs.Design.{Design}
use Rattle.net_core.specs.Nets.{NetParts}
use Rattle.symtab.specs.declared.parts.InstanceParts.{InstanceParts}
use Rattle.symtab.specs.declared.parts.TableParts.{TableParts}
use Rattle.stim_text.specs.Stimulus.{Stimulus, IsStimulus}
use Rattle.sim_hist.specs.Run.{run_samples}
use Rattle.check_exec.specs.Premises.{IsSound}
use Rattle.place_core.specs.Orders.{TellsOrder}
use Rattle.trace_core.specs.Samples.{Samples}
use Rattle.world_core.specs.declared.mode.Mode.{Mode}
use Rattle.world_core.specs.World.{World}
use Rattle.world_core.specs.Seen.{seen}
use Rattle.world_core.specs.Source.{source_world}
use Rattle.trace_world.specs.TraceWorld.{trace_world, shows_by}
use Rattle.trim_core.specs.Trimmed.{IsTrimmed}
use Rattle.trim_laws.specs.Runs.{HasInputs}
use Rattle.trim_laws.proofs.Worlds.{worlds_are_seen_alike}
use Rattle.machine_core.specs.Positions.{end_place}
use Rattle.machine_core.specs.Reading.{Reader, IsReader}
use Rattle.machine_core.specs.Machine.{Machine, opening}
use Rattle.site_core.specs.Positions.{total_of}
use Rattle.dbg_core.specs.World.{world_of}
use Rattle.dbg_core.proofs.Positions.{count_told}
use Rattle.batch_run.specs.Texts.{requests_of}
use Rattle.demo_run.specs.Stops.{Reached, batch_stops}
use Rattle.demo_run.specs.Answers.{Counted}
use Rattle.demo_run.specs.Summing.{Tells}
use Rattle.demo_run.specs.Session.{TellsTrace, TellsSession}
use Rattle.demo_run.specs.declared.line.Summary.{Summary}

-- where a session stands, its machine stands
pub stands_within : (parts shown : TableParts) (s told : Samples) (place : ℕ) → parts ≡ shown → s ≡ told → place ≤ total_of parts s + 1 → place ≤ end_place (world_of shown told)
stands_within parts shown s told place e f h =
    let here : place ≤ end_place (world_of parts s) = subst (λ n. place ≤ n + 1) (sym (count_told parts s)) h in
    subst (λ (w : World). place ≤ end_place w) (λ i. world_of (e i) (f i)) here

-- ---- a table and a trace

-- what was counted from the start of a session over a table and a trace, with how many instances and slots the table has
module _ (parts shown : TableParts) (s told : Samples) (heard : List Heard) (m : Machine) (requests : List ℕ) (table : parts ≡ shown) (samples : s ≡ told) (opens : m ≡ opening heard) where
  stops_are : (read : Reader) → batch_stops read (world_of parts s) (requests_of requests) m ≡ batch_stops read (world_of shown told) (requests_of requests) (opening heard)
  stops_are read = λ i. batch_stops read (world_of (table i) (samples i)) (requests_of requests) (opens i)

  pub trace_told : (summary : Summary) → summary.instances ≡ length shown.instances → summary.slots ≡ length shown.slots
      → ((read : Reader) → IsReader read → Counted (batch_stops read (world_of parts s) (requests_of requests) m) summary.counts) → TellsTrace (trace_world shown told) heard requests summary
  trace_told summary instances slots counts = λ read reader. record {
    instances = instances ∙ sym (length-map shown.instances (λ (q : InstanceParts). q.path));
    slots = slots ∙ sym (length-map shown.slots (shows_by shown));
    counts = subst (λ (l : List Reached). Counted l summary.counts) (stops_are read) (counts read reader);
  }

-- ---- a compiled design

-- a world tells what it tells as it is seen
seen_told : (w : World) (stops : List Reached) (summary : Summary) → Tells w stops summary → Tells (seen w) stops summary
seen_told w stops summary t = record { instances = t.instances; slots = t.slots; counts = t.counts }

told_seen : (w : World) (stops : List Reached) (summary : Summary) → Tells (seen w) stops summary → Tells w stops summary
told_seen w stops summary t = record { instances = t.instances; slots = t.slots; counts = t.counts }

module _ (d : Design) (pairs : List (ℕ × ℕ)) (mode : Mode) (net : NetParts) (parts : TableParts) (stim : Stimulus) (sound : IsSound d) (order : TellsOrder d pairs) (trimmed : IsTrimmed d (length pairs) mode net parts) (kept : IsStimulus stim) (inputs : HasInputs d stim.ports)
    (v : World) (same : v ≡ trace_world parts (run_samples net stim)) (heard : List Heard) (requests : List ℕ) where
  pub session_told : (summary : Summary) → TellsTrace v heard requests summary → TellsSession d (length pairs) mode stim.rows heard requests summary
  session_told summary h = record {
    tells = λ run over read reader.
        let alike = worlds_are_seen_alike d pairs mode net parts stim run (record { sound = sound; order = order; trimmed = trimmed; stimulus = kept; inputs = inputs; run_over = over }) in
        told_seen (source_world d (length pairs) mode run) (batch_stops read (seen (source_world d (length pairs) mode run)) (requests_of requests) (opening heard)) summary
        (subst (λ (w : World). Tells w (batch_stops read w (requests_of requests) (opening heard)) summary) (ap seen same ∙ alike)
        (seen_told v (batch_stops read (seen v) (requests_of requests) (opening heard)) summary (h read reader)));
  }
