-- What commands over one design print is told by what one of them holds.
use Rattle.std.proofs.Common.{◌≡◌, ℕ, ◌≤◌, ◌<◌, ◌^◌, List, length, Option, Some, Result, Ok, Err, refl, sym, ap, ◌∙◌, subst}
use Rattle.gen_tree.specs.Tree as tree
use Rattle.gen_tree.specs.Tree.{all_modules}
use Rattle.exec_core.specs.Block.{Name}
use Rattle.design_core.specs.Design.{Design}
use Rattle.elab_core.specs.Design.{design_from}
use Rattle.elab_laws.proofs.Kept.{elaboration_keeps}
use Rattle.project_read.specs.Projects.{IsProject}
use Rattle.design_judge.proofs.Sources.{files_so}
use Rattle.check_exec.specs.Premises.{IsSound}
use Rattle.place_core.specs.Orders.{TellsOrder}
use Rattle.world_core.specs.declared.mode.Mode.{Mode}
use Rattle.world_core.specs.Kept.{kept_trees}
use Rattle.tree_core.specs.Tree.{value_of}
use Rattle.net_core.specs.Nodes.{tree_at}
use Rattle.trim_core.specs.KeptNet.{kept_net}
use Rattle.trim_core.specs.KeptTable.{kept_table}
use Rattle.trim_core.specs.Trimmed.{IsTrimmed}
use Rattle.trim_laws.specs.Simulated.{state_of}
use Rattle.trim_laws.proofs.Orders.{one_length}
use Rattle.symbol_net.specs.Line.{symbols_line}
use Rattle.vcd_write.specs.Run.{value_in, waves_text}
use Rattle.wave_net.specs.Waves.{WavesTellRuns}
use Rattle.listen.specs.Pairs.{Heard}
use Rattle.design_judge.specs.Judgement.{Top, IsAccepted, ArePortsOf}
use Rattle.design_judge.proofs.OnePorts.{one_ports}
use Rattle.headline_laws.specs.Headline.{AsksFor, ReplaysAreDebugged}
use Rattle.dbg_app.specs.Command.{Task, Symbols, Waves, Session, Command}
use Rattle.dbg_app.specs.Answers.{Answer, Contents, Held, Holds, HoldsDesign, HoldsRows, Asks, NoDesign, NoStimulus, NoRequests, Accepted, ShowsText, text_of}
use Rattle.dbg_app.specs.Compiled.{HasNet, StandsOnNet, CompilesCommand}
use Rattle.dbg_app.proofs.Asking.{same_design, same_rows, same_requests}
use Rattle.run_laws.specs.Replayed.{PrintsAreReplayed}
use Rattle.run_laws.specs.Waves.{rows_held, WavesTellTheRun}
use Rattle.run_laws.proofs.Words.{words_in_range}
use Rattle.run_laws.proofs.Replaying.{ok_rows, held_stimulus, replayed}

-- ---- a text with status 0

other_status : (n : ℕ) (s t : List ℕ) → ◌≡◌ {A = Answer} (record { status = 0; text = s }) (record { status = n; text = t }) → 0 ≡ n
other_status n s t e = ap (λ (a : Answer). a.status) e

-- it is one of what is held
pub shows : (heard : List Heard) (told : Contents) (command : Command) (text : List ℕ) → Asks heard told command (record { status = 0; text = text }) → ShowsText heard told command (record { status = 0; text = text })
shows heard told command text (NoDesign r) = absurd (let same : 0 ≡ 3 = other_status 3 text _ r.is in cc)
shows heard told command text (NoStimulus r) = absurd (let same : 0 ≡ 4 = other_status 4 text _ r.is in cc)
shows heard told command text (NoRequests r) = absurd (let same : 0 ≡ 6 = other_status 6 text _ r.is in cc)
shows heard told command text (Accepted r) = r

text_is : (heard : List Heard) (told : Contents) (command : Command) (text : List ℕ) (s : ShowsText heard told command (record { status = 0; text = text })) (task : Task) → command.task ≡ task → text ≡ text_of heard task s.held
text_is heard told command text s task e = ap (λ (a : Answer). a.text) s.is ∙ ap (λ (t : Task). text_of heard t s.held) e

-- the top of a design is the name that was asked for
top_from : (modules : List tree.Module) (top : Name) (r : Result _ _) (d : Design) → design_from modules top r ≡ Ok d → d.top ≡ top
top_from modules top (Ok instances) d e = let same : design_from modules top (Ok instances) ≡ Ok d = e in cc
top_from modules top (Err fault) d e = cc

-- ---- one design

module _ (told : Contents) (command debug : Command) (source : command.source ≡ debug.source) (top : command.top ≡ debug.top) where
  pub as_debug : (d : Design) → HoldsDesign told command d → HoldsDesign told debug d
  as_debug d h = record {
    accepted = subst (λ (t : Top). IsAccepted t (IsProject told debug.source) d) top (subst (λ (s : List ℕ). IsAccepted command.top (IsProject told s) d) source h.accepted);
  }

  module _ (mode : command.mode ≡ debug.mode) (a b : Held) (x : Holds told command a) (y : Holds told debug b) where
    design : a.design ≡ b.design
    design = same_design told debug a.design b.design (as_debug a.design x.design) y.design

    driven : a.driven ≡ b.driven
    driven =
        x.driven
        ∙ one_length b.design x.design.accepted.1.pairs y.design.accepted.1.pairs (subst (λ (d : Design). TellsOrder d x.design.accepted.1.pairs) design x.design.accepted.1.order) y.design.accepted.1.order
        ∙ sym y.driven

    one_mode : a.mode ≡ b.mode
    one_mode = x.mode ∙ mode ∙ sym y.mode

    ports : a.ports ≡ b.ports
    ports = one_ports b.design a.ports b.ports (subst (λ (d : Design). ArePortsOf d a.ports) design x.ports) y.ports

    rows : command.stimulus ≡ debug.stimulus → a.rows ≡ b.rows
    rows e = ok_rows a.rows b.rows (same_rows told a.ports b.ports debug.stimulus (Ok a.rows) (Ok b.rows) ports (subst (λ (n : Option (List ℕ)). HoldsRows told a.ports n (Ok a.rows)) e x.rows) y.rows)

    pub same_table : symbols_line (kept_table a.design a.driven a.mode) ≡ symbols_line (kept_table b.design b.driven b.mode)
    same_table = λ i. symbols_line (kept_table (design i) (driven i) (one_mode i))

    pub same_waves : command.stimulus ≡ debug.stimulus → waves_text (kept_net a.design a.driven a.mode) (rows_held a) ≡ waves_text (kept_net b.design b.driven b.mode) (rows_held b)
    same_waves e = λ i. waves_text (kept_net (design i) (driven i) (one_mode i)) (record { ports = ports i; rows = rows e i })

-- ---- the net of what is held

net_held : (told : Contents) (command : Command) (held : Held) (h : Holds told command held) (task : Task) → command.task ≡ task → StandsOnNet task held.design (length h.design.accepted.1.pairs) command.mode ≡ HasNet held.design (length h.design.accepted.1.pairs) command.mode
    → CompilesCommand told command → HasNet held.design held.driven held.mode
net_held told command held h task e stands compiles =
    let by_task : HasNet held.design (length h.design.accepted.1.pairs) command.mode =
    subst (λ (P : Type 0). P) stands (subst (λ (t : Task). StandsOnNet t held.design (length h.design.accepted.1.pairs) command.mode) e (compiles held.design h.design)) in
    let by_mode = subst (λ (m : Mode). HasNet held.design (length h.design.accepted.1.pairs) m) (sym h.mode) by_task in
    subst (λ (n : ℕ). HasNet held.design n held.mode) (sym h.driven) by_mode

-- ---- three runs

pub prints_replayed : ReplaysAreDebugged → PrintsAreReplayed
prints_replayed law heard words symbols sim debug spelled one told table dump lines asks_table asks_dump asks_lines compiles files names hold =
    let s = shows heard told symbols table asks_table in
    let w = shows heard told sim dump asks_dump in
    let d = shows heard told debug lines asks_lines in
    let table_is : table ≡ text_of heard Symbols d.held =
    text_is heard told symbols table s Symbols one.tasks.0 ∙ same_table told symbols debug one.sources.0 one.tops.0 one.modes.0 s.held d.held s.holds d.holds in
    let dump_is : dump ≡ text_of heard Waves d.held =
    text_is heard told sim dump w Waves one.tasks.1 ∙ same_waves told sim debug one.sources.1 one.tops.1 one.modes.1 w.held d.held w.holds d.holds one.stimulus in
    let lines_is : lines ≡ text_of heard Session d.held = text_is heard told debug lines d Session one.tasks.2 in
    let top : d.held.ports.module ≡ debug.top.name = d.holds.ports.module ∙ top_from (all_modules d.holds.design.accepted.0.sources) debug.top.name _ d.held.design d.holds.design.accepted.0.elaborates in
    let net = net_held told debug d.held d.holds Session one.tasks.2 refl compiles in
    subst (AsksFor heard files names) (sym lines_is)
    (replayed law heard words debug spelled told d.held d.holds net files names (record {
      symbols = hold.symbols ∙ ap Some table_is;
      short_symbols = subst (λ (t : List ℕ). length t ≤ 2 ^ 26) table_is hold.short_symbols;
      waves = hold.waves ∙ ap Some dump_is;
      short_waves = subst (λ (t : List ℕ). length t ≤ 2 ^ 26) dump_is hold.short_waves;
      scope = hold.scope ∙ sym top;
      requests = same_requests told debug.requests (files names.requests) (Some d.held.requests) hold.requests d.holds.requests;
    }))

-- ---- the waves of a run

abbrev ValuesAt : Held → ℕ → Type 0
ValuesAt held n =
    (t j : ℕ) → t < length held.run → j < length (kept_trees held.design n held.mode) →
    value_in (kept_net held.design n held.mode) (rows_held held) t j ≡ value_of (state_of held.design held.run t) (tree_at (kept_trees held.design n held.mode) j)

pub waves_of_run : WavesTellRuns → WavesTellTheRun
waves_of_run law heard words sim spelled task told dump asks compiles =
    let w = shows heard told sim dump asks in
    let net = net_held told sim w.held w.holds Waves task refl compiles in
    let trimmed : IsTrimmed w.held.design (length w.holds.design.accepted.1.pairs) w.held.mode net.0 net.1 = subst (λ (n : ℕ). IsTrimmed w.held.design n w.held.mode net.0 net.1) w.holds.driven net.2 in
    let source = w.holds.design.accepted.0 in
    let read = files_so told sim.source source.sources source.are in
    let sound : IsSound w.held.design = record {
      kept = elaboration_keeps source.sources sim.top.name sim.top.given w.held.design read.0 read.1 (words_in_range words sim spelled) source.elaborates;
      accepted = w.holds.design.accepted.1.clean;
    } in
    let values = law w.held.design w.holds.design.accepted.1.pairs w.held.mode net.0 net.1 (rows_held w.held) w.held.run (record {
      sound = sound;
      order = w.holds.design.accepted.1.order;
      trimmed = trimmed;
      stimulus = held_stimulus told w.held.ports sim.stimulus w.held.rows w.holds.rows;
      inputs = w.holds.ports.inputs;
      run_over = w.holds.runs;
    }) in
    record { held = w.held; holds = w.holds; text = text_is heard told sim dump w Waves task; values = subst (ValuesAt w.held) (sym w.holds.driven) values }
