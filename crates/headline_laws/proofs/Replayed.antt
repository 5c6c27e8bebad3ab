-- What a replay of a design's printed files asks for.
use Rattle.std.proofs.Common.{◌≡◌, ℕ, ◌<◌, ◌≤◌, ◌^◌, List, length, length-append, Option, Some, None, Result, Ok, Err, [], ◌∷◌, refl, sym, ap, ◌∙◌, subst, arith}
use Rattle.bv_core.specs.Value.{Bits}
use Rattle.exec_core.specs.Whole.{Place}
use Rattle.design_core.specs.Design.{Design}
use Rattle.elab_laws.specs.Laws.{AreReadFrom}
use Rattle.elab_laws.proofs.Kept.{elaboration_keeps}
use Rattle.design_judge.proofs.Sources.{files_so}
use Rattle.net_core.specs.Nets.{NetParts}
use Rattle.symtab.specs.declared.parts.TableParts.{TableParts}
use Rattle.symtab_json.specs.declared.fault.TableFault.{TableFault}
use Rattle.symtab_json.specs.Files.{symbols_text}
use Rattle.symtab_json.specs.Told.{told_table}
use Rattle.stim_text.specs.Stimulus.{Stimulus}
use Rattle.check_exec.specs.Premises.{IsSound}
use Rattle.place_core.specs.Orders.{Pair}
use Rattle.design_judge.specs.Judgement.{Top}
use Rattle.world_core.specs.declared.mode.Mode.{Mode}
use Rattle.world_core.specs.World.{World}
use Rattle.world_core.specs.Seen.{seen}
use Rattle.world_core.specs.Source.{source_world}
use Rattle.trace_core.specs.Samples.{Samples}
use Rattle.trace_world.specs.TraceWorld.{trace_world}
use Rattle.trim_core.specs.KeptNet.{kept_net}
use Rattle.trim_core.specs.KeptTable.{kept_table}
use Rattle.trim_core.specs.Trimmed.{IsTrimmed}
use Rattle.trim_table.proofs.KeptTables.{compiled_tables_are_kept}
use Rattle.trim_laws.proofs.Worlds.{worlds_are_seen_alike}
use Rattle.verilog_net.specs.Printing.{HasPorts}
use Rattle.verilog_net.proofs.Fits.{fits_ports}
use Rattle.wave_net.specs.Waves.{CompiledWavesAreKept}
use Rattle.symbol_net.specs.Line.{symbols_line}
use Rattle.vcd_write.specs.Run.{waves_text}
use Rattle.vcd_write.specs.ReadBack.{told_of}
use Rattle.vcd_trace.specs.Over.{samples_over}
use Rattle.trace_judge.specs.declared.trace_fault.TraceFault.{TraceFault}
use Rattle.trace_judge.specs.Judgement.{told_trace, told_by, bound_by}
use Rattle.listen.specs.Pairs.{Heard}
use Rattle.machine_core.specs.Reading.{Reader, IsReader}
use Rattle.machine_core.specs.Machine.{opening}
use Rattle.machine_core.specs.Journal.{batch_from, closed}
use Rattle.machine_core.proofs.Readers.{one_reading}
use Rattle.batch_run.specs.Texts.{requests_of, session_text, batch_text}
use Rattle.replay_run.specs.Asked.{Names, Contents, HoldsTable, HoldsTrace, HoldsRequests, AsksReplay, NoTable, NoTrace, NoRequests, Accepted}
use Rattle.replay_laws.specs.Replay.{AreNodesOf, Replays, WavesReplay}
use Rattle.name_laws.specs.Texts.{HasTexts}
use Rattle.name_laws.proofs.Designs.{names_are_texts}
use Rattle.table_laws.proofs.Counted.{nodes_few}
use Rattle.table_laws.proofs.Files.{table_lines}
use Rattle.headline_laws.specs.Headline.{IsDebugged, HoldPrinted, AsksFor, ReplaysAreDebugged}
use Rattle.headline_laws.proofs.Nodes.{are_nodes}

-- ---- there is one answer

one_text : (o : Option (List ℕ)) (a b : List ℕ) → o ≡ Some a → o ≡ Some b → a ≡ b
one_text o a b e f = cc

same_ok : {A B : Type 0} (a b : A) → ◌≡◌ {A = Result A B} (Ok a) (Ok b) → a ≡ b
same_ok a b e = cc

not_both : {A B : Type 0} (a : A) (b : B) → ◌≡◌ {A = Result A B} (Ok a) (Err b) → ⊥
not_both a b e = cc

-- worlds that are seen alike give a batch one text
texts_alike : (reader : Reader) (v w : World) (heard : List Heard) (requests : List ℕ) → seen v ≡ seen w → batch_text reader v heard requests ≡ batch_text reader w heard requests
texts_alike reader v w heard requests alike = λ i. session_text (closed (batch_from reader (alike i) (requests_of requests) (opening heard)))

-- what files that hold a table, samples and requests ask for
module _ (heard : List Heard) (files : Contents) (names : Names) (parts : TableParts) (samples : Samples) (requests : List ℕ) (table : HoldsTable files names (Ok parts)) (trace : HoldsTrace files names parts (Ok samples)) (asked : HoldsRequests files names (Some requests))
    (reader : Reader) (reads : IsReader reader) where
  one_table : (b : Result TableParts TableFault) → HoldsTable files names b → Ok parts ≡ b
  one_table b y = sym table.2 ∙ ap told_table (one_text (files names.symbols) table.0 y.0 table.1 y.1) ∙ y.2

  one_trace : (q : TableParts) (b : Result Samples TraceFault) → HoldsTable files names (Ok q) → HoldsTrace files names q b → Ok samples ≡ b
  one_trace q b t y =
      let same : parts ≡ q = same_ok parts q (one_table (Ok q) t) in
      let text : trace.0 ≡ y.0 = one_text (files names.dump) trace.0 y.0 trace.1 y.1 in
      sym trace.2 ∙ (λ i. told_trace (same i) names.scope (text i)) ∙ y.2

  many : HoldsRequests files names None → ⊥
  many y = let same : length requests ≡ length y.0 = ap length (one_text (files names.requests) requests y.0 asked.0 y.1) in omega (arith, asked.1, y.2)

  only_text : (w : World) → seen (trace_world parts samples) ≡ seen w → (status : ℕ) (other : List ℕ) → AsksReplay heard files names status other → (status ≡ 0) × (other ≡ batch_text reader w heard requests)
  only_text w alike status other (NoTable r) = absurd (not_both parts r.fault (one_table _ r.refused))
  only_text w alike status other (NoTrace r) = absurd (not_both samples r.fault (one_trace r.parts _ r.table r.refused))
  only_text w alike status other (NoRequests r) = absurd (many r.refused)
  only_text w alike status other (Accepted r) =
      let table_is : r.parts ≡ parts = sym (same_ok parts r.parts (one_table _ r.table)) in
      let samples_are : r.samples ≡ samples = sym (same_ok samples r.samples (one_trace r.parts _ r.table r.trace)) in
      let requests_are : r.requests ≡ requests = one_text (files names.requests) r.requests requests r.asked.0 asked.0 in
      let readers : r.reader ≡ reader = (λ i text. one_reading text (r.reader text) (reader text) (r.reads text) (reads text) i) in (
        r.status_is,
        r.text_is ∙ (λ i. batch_text (readers i) (trace_world (table_is i) (samples_are i)) heard (requests_are i)) ∙ texts_alike reader (trace_world parts samples) w heard requests alike,
      )

  pub asks_for : (w : World) → seen (trace_world parts samples) ≡ seen w → AsksFor heard files names (batch_text reader w heard requests)
  asks_for w alike = record {
    asks = Accepted (record {
      parts = parts;
      table = table;
      samples = samples;
      trace = trace;
      requests = requests;
      asked = asked;
      reader = reader;
      reads = reads;
      status_is = refl;
      text_is = sym (texts_alike reader (trace_world parts samples) w heard requests alike);
    });
    only = only_text w alike;
  }

-- ---- the files that are printed

-- a short file has few nodes
few_nodes : (parts : TableParts) → length (symbols_line parts) ≤ 2 ^ 26 → length parts.nodes < 2 ^ 64
few_nodes parts short = omega (arith, nodes_few parts, short, length-append (symbols_text parts) (10 ∷ []))

module _ (kept_law : CompiledWavesAreKept) (law : WavesReplay) (top : Top) (told : Contents) (src : List ℕ) (d : Design) (pairs : List Pair) (mode : Mode) (net : NetParts) (parts : TableParts) (stim : Stimulus) (run : List (Place → Bits)) (h : IsDebugged top told src d pairs stim run)
    (trimmed : IsTrimmed d (length pairs) mode net parts) (files : Contents) (names : Names) (requests : List ℕ) (hold : HoldPrinted files names d (length pairs) mode stim requests) where
  abbrev n : ℕ
  n = length pairs

  read : AreReadFrom 0 h.describes.sources × (length h.describes.sources ≤ 64)
  read = files_so told src h.describes.sources h.describes.are

  sound : IsSound d
  sound = record { kept = elaboration_keeps h.describes.sources top.name top.given d read.0 read.1 h.in_range h.describes.elaborates; accepted = h.clean }

  texts : HasTexts d
  texts = names_are_texts h.describes.sources top.name top.given d read.0 h.in_range h.describes.elaborates

  -- the table
  table_is : parts ≡ kept_table d n mode
  table_is = compiled_tables_are_kept d n mode net parts trimmed

  short_table : length (symbols_line parts) ≤ 2 ^ 26
  short_table = subst (λ (p : TableParts). length (symbols_line p) ≤ 2 ^ 26) (sym table_is) hold.short_symbols

  table_told : told_table (symbols_line (kept_table d n mode)) ≡ Ok parts
  table_told = ap (λ (p : TableParts). told_table (symbols_line p)) (sym table_is) ∙ table_lines d pairs mode net parts sound h.order texts trimmed short_table

  -- the waves
  waves_are : waves_text net stim ≡ waves_text (kept_net d n mode) stim
  waves_are = kept_law d n mode net stim sound trimmed.is_kept

  ports : HasPorts d stim.ports
  ports = record { inputs = h.ports.inputs; outputs = h.ports.outputs }

  nodes : AreNodesOf parts net
  nodes = are_nodes net parts trimmed.tells.names

  few : length net.nodes < 2 ^ 64
  few = omega (arith, nodes.count, few_nodes parts short_table)

  short_waves : length (waves_text net stim) ≤ 67108864
  short_waves = let l = subst (λ (t : List ℕ). length t ≤ 2 ^ 26) (sym waves_are) hold.short_dump in omega (arith, l)

  replays : Replays net stim parts
  replays = law net stim parts few trimmed.is_kept.is_net h.stimulus (fits_ports d n mode net stim.ports sound trimmed.is_kept ports) (record { most = short_waves }) trimmed.is_table nodes

  abbrev samples : Samples
  samples = samples_over (told_of net stim) parts stim.ports.module

  trace_told : told_trace parts names.scope (waves_text (kept_net d n mode) stim) ≡ Ok samples
  trace_told =
      (λ i. told_trace parts (hold.scope i) (sym waves_are i))
      ∙ ap (told_by parts stim.ports.module) replays.means
      ∙ ap (λ o. bound_by o samples) replays.accepted

  -- the world
  alike : seen (trace_world parts samples) ≡ seen (source_world d n mode run)
  alike =
      replays.same.alike
      ∙ worlds_are_seen_alike d pairs mode net parts stim run (record { sound = sound; order = h.order; trimmed = trimmed; stimulus = h.stimulus; inputs = h.ports.inputs; run_over = h.runs })

  pub asked_for : (heard : List Heard) (reader : Reader) → IsReader reader → AsksFor heard files names (batch_text reader (source_world d n mode run) heard requests)
  asked_for heard reader reads =
      asks_for heard files names parts samples requests (symbols_line (kept_table d n mode), hold.symbols, table_told) (waves_text (kept_net d n mode) stim, hold.dump, trace_told) (hold.asked, hold.few) reader reads
      (source_world d n mode run) alike

pub replays_debugged : CompiledWavesAreKept → WavesReplay → ReplaysAreDebugged
replays_debugged kept_law law d pairs mode net parts stim trimmed top told src run h heard files names requests hold reader reads =
    asked_for kept_law law top told src d pairs mode net parts stim run h trimmed files names requests hold heard reader reads
