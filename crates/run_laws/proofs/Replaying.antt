-- What a replay of printed files asks for, by what is held.
use Rattle.std.proofs.Common.{◌≡◌, ℕ, ◌≤◌, List, [], length, Option, Some, None, Result, Ok, sym, subst, arith}
use Rattle.std.proofs.lemmas.List.Elements.{All-nil}
use Rattle.bv_core.specs.Value.{Bits}
use Rattle.design_core.specs.declared.Ports.{Ports}
use Rattle.design_core.specs.Design.{AreInRange}
use Rattle.stim_text.specs.Stimulus.{Stimulus, IsStimulus}
use Rattle.stim_text.specs.declared.StimFault.{StimFault}
use Rattle.place_core.specs.Orders.{Pair}
use Rattle.world_core.specs.Source.{source_world}
use Rattle.trim_core.specs.Trimmed.{IsTrimmed}
use Rattle.listen.specs.Pairs.{Heard}
use Rattle.batch_run.specs.Texts.{batch_text, most_requests}
use Rattle.replay_run.specs.Asked.{Names, Contents}
use Rattle.headline_laws.specs.Headline.{IsDebugged, HoldPrinted, AsksFor, AreReplayed, ReplaysAreDebugged}
use Rattle.dbg_app.specs.Command.{Session, Command}
use Rattle.dbg_app.specs.Answers as answers
use Rattle.dbg_app.specs.Answers.{Held, Holds, HoldsRequests, HoldsRows, text_of}
use Rattle.dbg_app.specs.Compiled.{HasNet}
use Rattle.run_laws.specs.Replayed.{HoldTexts, HeldIsReplayed}
use Rattle.run_laws.proofs.Rows.{rows_are_kept}
use Rattle.run_laws.proofs.Words.{words_in_range}

some_is : (a b : List ℕ) → ◌≡◌ {A = Option (List ℕ)} (Some a) (Some b) → a ≡ b
some_is a b e = cc

-- requests that are held are few
few_requests : (told : answers.Contents) (name : Option (List ℕ)) (requests : List ℕ) → HoldsRequests told name (Some requests) → length requests ≤ most_requests
few_requests told (Some name) requests h = h.1
few_requests told None requests h = subst (λ (text : List ℕ). length text ≤ most_requests) (some_is [] requests (sym h)) (omega arith)

pub ok_rows : (a b : List (List Bits)) → ◌≡◌ {A = Result (List (List Bits)) StimFault} (Ok a) (Ok b) → a ≡ b
ok_rows a b e = cc

-- rows that are held are a stimulus
pub held_stimulus : (told : answers.Contents) (ports : Ports) (name : Option (List ℕ)) (rows : List (List Bits)) → HoldsRows told ports name (Ok rows) → IsStimulus (record { ports = ports; rows = rows })
held_stimulus told ports (Some name) rows h = rows_are_kept ports h.0 rows h.2
held_stimulus told ports None rows h =
    subst (λ (r : List (List Bits)). IsStimulus (record { ports = ports; rows = r })) (sym (ok_rows rows [] h)) (record { few = omega arith; each = All-nil _; bits = All-nil _ })

module _ (law : ReplaysAreDebugged) (heard : List Heard) (told : answers.Contents) (command : Command) (held : Held) (h : Holds told command held) (in_range : AreInRange command.top.given) (net : HasNet held.design held.driven held.mode)
    (files : Contents) (names : Names) (texts : HoldTexts heard files names held) where
  abbrev own : Stimulus
  own = record { ports = held.ports; rows = held.rows }

  abbrev pairs : List Pair
  pairs = h.design.accepted.1.pairs

  own_law : AreReplayed held.design pairs held.mode own
  own_law = law held.design pairs held.mode net.0 net.1 own (subst (λ (n : ℕ). IsTrimmed held.design n held.mode net.0 net.1) h.driven net.2)

  printed_by : HoldPrinted files names held.design held.driven held.mode own held.requests
  printed_by = record {
    symbols = texts.symbols;
    short_symbols = texts.short_symbols;
    dump = texts.waves;
    short_dump = texts.short_waves;
    scope = texts.scope;
    asked = texts.requests;
    few = few_requests told command.requests held.requests h.requests;
  }

  debugged : IsDebugged command.top told command.source held.design pairs own held.run
  debugged = record {
    describes = h.design.accepted.0;
    in_range = in_range;
    clean = h.design.accepted.1.clean;
    order = h.design.accepted.1.order;
    ports = h.ports;
    stimulus = held_stimulus told held.ports command.stimulus held.rows h.rows;
    runs = h.runs;
  }

  pub asked_for : AsksFor heard files names (text_of heard Session held)
  asked_for =
      subst (λ (n : ℕ). AsksFor heard files names (batch_text held.reader (source_world held.design n held.mode held.run) heard held.requests)) (sym h.driven)
      (own_law command.top told command.source held.run debugged heard files names held.requests
      (subst (λ (n : ℕ). HoldPrinted files names held.design n held.mode own held.requests) h.driven printed_by) held.reader h.reads)

pub replayed : ReplaysAreDebugged → HeldIsReplayed
replayed law heard words command spelled told held h net files names texts =
    asked_for law heard told command held h (words_in_range words command spelled) net files names texts
